-- What is kept of the lines before tells what the next line may retract.
use Rattle.std.proofs.Common.{◌≡◌, ◌≢◌, ℕ, zero, suc, ◌+◌, ◌-◌, ◌<◌, ◌≤◌, ◌%◌, ◌==◌, Bool, true, false, cond, ◌||◌, Option, Some, None, List, [], ◌∷◌, ◌++◌, length, take, refl, ap, sym, ◌∙◌, arith, subst, length-append}
use Rattle.std.specs.Prelude.{slice_get, slice_set}
use Rattle.std.specs.List.{list_any}
use Rattle.std.proofs.lemmas.List.Folds.{list_any-append}
use Rattle.std.proofs.lemmas.Bool.{eqb-true, eq-eqb, true≢false}
use Rattle.event_model.specs.declared.atoms.NameArity.{NameArity}
use Rattle.event_model.specs.declared.events.Event.{Event}
use Rattle.drill_lines.specs.declared.draws.TheConstants.{STATES}
use Rattle.drill_lines.specs.Drill.{drawn, Line, Comes, Back, Made, Drilled, drilled, with_line, drawn_event, is_back_of, event_that_comes, open_event, back_or_event, chosen, after_choice, line_after, next_line}
use Rattle.drill_lines.specs.DrillText.{line_text, drill_text}
use Rattle.drill_lines.specs.Recent.{slot_at, remembered}
use Rattle.drill_lines.proofs.Made.{line_of, drilled_more, drilled_length, drill_text_more}

-- what can be retracted of each of the last four lines; and only a line before is retracted
pub record Keeps (slots : List (Option Event)) (lines : List Line) : Type 0 where
  pub opened : (back : ℕ) → back < 4 → slot_at slots back ≡ open_event lines (length lines - back)
  pub earlier : (j : ℕ) → length lines < j → list_any (is_back_of j) lines ≡ false

-- ---- reads of lists

get_last : (lines : List Line) (l : Line) → slice_get (lines ++ l ∷ []) (length lines) ≡ Some l
get_last [] l = refl
get_last (k ∷ lines) l = get_last lines l

get_before : (lines : List Line) (l : Line) (i : ℕ) → i < length lines → slice_get (lines ++ l ∷ []) i ≡ slice_get lines i
get_before [] l i h = absurd (omega (arith, h))
get_before (k ∷ lines) l zero h = refl
get_before (k ∷ lines) l (suc i) h = get_before lines l i (omega (arith, h))

slot_taken : (n : ℕ) (slots : List (Option Event)) (i : ℕ) → i < n → slot_at (take n slots) i ≡ slot_at slots i
slot_taken zero slots i h = absurd (omega (arith, h))
slot_taken (suc n) [] i h = refl
slot_taken (suc n) (s ∷ slots) zero h = refl
slot_taken (suc n) (s ∷ slots) (suc i) h = slot_taken n slots i (omega (arith, h))

slot_cleared : (slots : List (Option Event)) (i : ℕ) → slot_at (slice_set slots i None) i ≡ None
slot_cleared [] i = refl
slot_cleared (s ∷ slots) zero = refl
slot_cleared (s ∷ slots) (suc i) = slot_cleared slots i

slot_other : (slots : List (Option Event)) (i j : ℕ) → j ≢ i → slot_at (slice_set slots i None) j ≡ slot_at slots j
slot_other [] i j ne = refl
slot_other (s ∷ slots) zero zero ne = absurd (ne refl)
slot_other (s ∷ slots) zero (suc j) ne = refl
slot_other (s ∷ slots) (suc i) zero ne = refl
slot_other (s ∷ slots) (suc i) (suc j) ne = slot_other slots i j (λ e. ne (ap suc e))

-- clearing what is clear
pub slot_clear : (slots : List (Option Event)) (i : ℕ) → slot_at slots i ≡ None → slice_set slots i None ≡ slots
slot_clear [] i e = refl
slot_clear (s ∷ slots) zero e = ap (λ t. t ∷ slots) (sym e)
slot_clear (s ∷ slots) (suc i) e = ap (λ l. s ∷ l) (slot_clear slots i e)

-- ---- one line more

backs_more : (j : ℕ) (lines : List Line) (l : Line) (a b : Bool) → list_any (is_back_of j) lines ≡ a → is_back_of j l ≡ b
    → list_any (is_back_of j) (lines ++ l ∷ []) ≡ (a || (b || false))
backs_more j lines l a b e f = list_any-append (is_back_of j) lines (l ∷ []) ∙ (λ k. e k || (f k || false))

-- of a line before, as long as the new one doesn't retract it
open_before : (lines : List Line) (l : Line) (j : ℕ) → j ≤ length lines → is_back_of j l ≡ false
    → open_event (lines ++ l ∷ []) j ≡ open_event lines j
open_before lines l zero h e = refl
open_before lines l (suc j) h e = at (list_any (is_back_of (suc j)) lines) refl
  where
    at : (b : Bool) → list_any (is_back_of (suc j)) lines ≡ b
        → cond (list_any (is_back_of (suc j)) (lines ++ l ∷ [])) None (event_that_comes (slice_get (lines ++ l ∷ []) j))
        ≡ cond (list_any (is_back_of (suc j)) lines) None (event_that_comes (slice_get lines j))
    at true b = rw (backs_more (suc j) lines l true false b e, b) refl
    at false b = rw (backs_more (suc j) lines l false false b e, b, get_before lines l j (omega (arith, h))) refl

-- of the new line
open_last : (lines : List Line) (l : Line) → list_any (is_back_of (suc (length lines))) lines ≡ false
    → is_back_of (suc (length lines)) l ≡ false
    → open_event (lines ++ l ∷ []) (suc (length lines)) ≡ event_that_comes (Some l)
open_last lines l e f = rw (backs_more (suc (length lines)) lines l false false e f, get_last lines l) refl

-- of the line that the new one retracts
open_none : (lines : List Line) (l : Line) (j : ℕ) → is_back_of j l ≡ true → open_event (lines ++ l ∷ []) j ≡ None
open_none lines l zero e = refl
open_none lines l (suc j) e = at (list_any (is_back_of (suc j)) lines) refl
  where
    at : (b : Bool) → list_any (is_back_of (suc j)) lines ≡ b
        → cond (list_any (is_back_of (suc j)) (lines ++ l ∷ [])) None (event_that_comes (slice_get (lines ++ l ∷ []) j)) ≡ None
    at true b = rw (backs_more (suc j) lines l true true b e) refl
    at false b = rw (backs_more (suc j) lines l false true b e) refl

module _ (lines : List Line) (l : Line) where
  grown : length (lines ++ l ∷ []) ≡ suc (length lines)
  grown = length-append lines (l ∷ []) ∙ omega arith

  keeps_line : (slots : List (Option Event)) (slot : Option Event)
      → ((j : ℕ) → length lines < j → list_any (is_back_of j) lines ≡ false) → ((j : ℕ) → length lines < j → is_back_of j l ≡ false)
      → slot ≡ event_that_comes (Some l)
      → ((back : ℕ) → back < 4 → slot_at slots back ≡ open_event (lines ++ l ∷ []) (length lines - back))
      → Keeps (slot ∷ take 3 slots) (lines ++ l ∷ [])
  keeps_line slots slot earlier later is tail = record {
    opened = at;
    earlier = λ j h.
        let below : length lines < j = omega (arith, h, grown) in
        backs_more j lines l false false (earlier j below) (later j below);
  }
    where
      at : (back : ℕ) → back < 4 → slot_at (slot ∷ take 3 slots) back ≡ open_event (lines ++ l ∷ []) (length (lines ++ l ∷ []) - back)
      at zero h =
          is ∙ sym (open_last lines l (earlier (suc (length lines)) (omega arith)) (later (suc (length lines)) (omega arith)))
          ∙ ap (open_event (lines ++ l ∷ [])) (let e : suc (length lines) ≡ length (lines ++ l ∷ []) - 0 = omega (arith, grown) in e)
      at (suc back) h =
          slot_taken 3 slots back (omega (arith, h)) ∙ tail back (omega (arith, h))
          ∙ ap (open_event (lines ++ l ∷ [])) (let e : length lines - back ≡ length (lines ++ l ∷ []) - suc back = omega (arith, grown) in
          e)

keeps_comes : (slots : List (Option Event)) (lines : List Line) (e : Event) → Keeps slots lines
    → Keeps (Some e ∷ take 3 slots) (lines ++ Comes e ∷ [])
keeps_comes slots lines e k =
    keeps_line lines (Comes e) slots (Some e) k.earlier (λ j h. refl) refl
    (λ back h. k.opened back h ∙ sym (open_before lines (Comes e) (length lines - back) (omega arith) refl))

open_some : (lines : List Line) (j : ℕ) (e : Event) → open_event lines j ≡ Some e → 0 < j
open_some lines zero e is = cc
open_some lines (suc j) e is = omega arith

keeps_back : (slots : List (Option Event)) (lines : List Line) (back : ℕ) (e : Event) → open_event lines (length lines - back) ≡ Some e
    → Keeps slots lines
    → Keeps (None ∷ take 3 (slice_set slots back None)) (lines ++ Back (length lines - back) e ∷ [])
keeps_back slots lines back e is k =
    keeps_line lines (Back (length lines - back) e) (slice_set slots back None) None k.earlier later refl
    (λ i h. at i h ((length lines - back) == (length lines - i)) refl)
  where
    some : 0 < length lines - back
    some = open_some lines (length lines - back) e is

    later : (j : ℕ) → length lines < j → ((length lines - back) == j) ≡ false
    later j h = differs ((length lines - back) == j) refl
      where
        differs : (b : Bool) → ((length lines - back) == j) ≡ b → b ≡ false
        differs true t = let same = eqb-true (length lines - back) j t in absurd (omega (arith, same, h))
        differs false t = refl

    at : (i : ℕ) → i < 4 → (b : Bool) → ((length lines - back) == (length lines - i)) ≡ b
        → slot_at (slice_set slots back None) i ≡ open_event (lines ++ Back (length lines - back) e ∷ []) (length lines - i)
    at i h true t =
        let same = eqb-true (length lines - back) (length lines - i) t in
        let positive = some in
        let one : i ≡ back = omega (arith, same, positive) in
        ap (slot_at (slice_set slots back None)) one ∙ slot_cleared slots back
        ∙ sym (open_none lines (Back (length lines - back) e) (length lines - i) t)
    at i h false t =
        slot_other slots back i (λ one. true≢false
        (sym (eq-eqb (length lines - back) (length lines - i) (ap (λ n. length lines - n) (sym one))) ∙ t))
        ∙ k.opened i h ∙ sym (open_before lines (Back (length lines - back) e) (length lines - i) (omega arith) t)

-- ---- the next line

module _ (kinds : List NameArity) (slots : List (Option Event)) (lines : List Line) (k : Keeps slots lines) (count x : ℕ)
    (counted : length lines ≡ count) where
  -- what is kept tells it
  pub line_told : 0 < length kinds → next_line kinds lines x ≡ line_after kinds (slot_at slots) count x
  line_told some = at kinds some
    where
      at : (ks : List NameArity) → 0 < length ks → next_line ks lines x ≡ line_after ks (slot_at slots) count x
      at [] h = absurd (omega (arith, h))
      at (n ∷ ks) h =
          ap (λ o. back_or_event (n ∷ ks) (cond (drawn x % 8 == 0) o None) (length lines - drawn (drawn x) % 4) (length lines + 1)
          (after_choice x))
          (sym (k.opened (drawn (drawn x) % 4) (omega arith)))
          ∙ ap (λ c. line_after (n ∷ ks) (slot_at slots) c x) counted

  chosen_open : (e : Event) → chosen (slot_at slots) x ≡ Some e → open_event lines (length lines - drawn (drawn x) % 4) ≡ Some e
  chosen_open e is = sym (k.opened (drawn (drawn x) % 4) (omega arith)) ∙ at (drawn x % 8 == 0) is
    where
      at : (b : Bool) → cond b (slot_at slots (drawn (drawn x) % 4)) None ≡ Some e → slot_at slots (drawn (drawn x) % 4) ≡ Some e
      at true f = f
      at false f = cc

  -- it holds after it
  pub kept_more : Keeps (remembered slots (drawn (drawn x) % 4) (line_after kinds (slot_at slots) count x).line)
      (lines ++ (line_after kinds (slot_at slots) count x).line ∷ [])
  kept_more =
      let P : ℕ → Type 0 = λ c. Keeps (remembered slots (drawn (drawn x) % 4) (line_after kinds (slot_at slots) c x).line)
      (lines ++ (line_after kinds (slot_at slots) c x).line ∷ []) in
      subst P counted (at (chosen (slot_at slots) x) (λ e is. chosen_open e is))
    where
      at : (o : Option Event) → ((e : Event) → o ≡ Some e → open_event lines (length lines - drawn (drawn x) % 4) ≡ Some e)
          → Keeps
          (remembered slots (drawn (drawn x) % 4)
          (back_or_event kinds o (length lines - drawn (drawn x) % 4) (length lines + 1) (after_choice x)).line)
          (lines ++ (back_or_event kinds o (length lines - drawn (drawn x) % 4) (length lines + 1) (after_choice x)).line ∷ [])
      at None is = keeps_comes slots lines (drawn_event kinds (length lines + 1) (after_choice x)).event k
      at (Some e) is = keeps_back slots lines (drawn (drawn x) % 4) e (is e refl) k

-- before the first line
pub keeps_none : Keeps [] []
keeps_none = record { opened = none; earlier = λ j h. refl }
  where
    none : (back : ℕ) → back < 4 → slot_at [] back ≡ open_event [] (0 - back)
    none back h = ap (open_event []) (let e : 0 ≡ 0 - back = omega arith in e)

-- ---- the loop

-- what holds after so many lines
pub record Drilling (kinds : List NameArity) (seed n : ℕ) (out : List ℕ) (x : ℕ) (slots : List (Option Event)) : Type 0 where
  pub text : out ≡ drill_text kinds seed n
  pub state : x ≡ (drilled kinds seed n).state
  pub kept : Keeps slots (drilled kinds seed n).lines

pub drilling_more : (kinds : List NameArity) (seed n : ℕ) (out more : List ℕ) (x y : ℕ) (slots after : List (Option Event))
    → 0 < length kinds → Drilling kinds seed n out x slots
    → more ≡ out ++ line_text (line_after kinds (slot_at slots) n x).line
    → y ≡ (line_after kinds (slot_at slots) n x).state
    → after ≡ remembered slots (drawn (drawn x) % 4) (line_after kinds (slot_at slots) n x).line
    → Drilling kinds seed (n + 1) more y after
drilling_more kinds seed n out more x y slots after some old text state kept =
    let lines = (drilled kinds seed n).lines in
    let counted = drilled_length kinds seed n in
    let made : Made = line_after kinds (slot_at slots) n x in
    let told : line_of kinds seed n ≡ made =
    line_told kinds slots lines old.kept n (drilled kinds seed n).state counted some
    ∙ ap (λ z. line_after kinds (slot_at slots) n z) (sym old.state) in
    let all : with_line lines made ≡ drilled kinds seed (n + 1) =
    ap (λ (m : Made). with_line lines m) (sym told) ∙ sym (drilled_more kinds seed n) in
    record {
      text = text ∙ ap (λ l. l ++ line_text made.line) old.text ∙ ap (λ (m : Made). drill_text kinds seed n ++ line_text m.line) (sym told)
          ∙ sym (drill_text_more kinds seed n);
      state = state ∙ ap (λ (d : Drilled). d.state) all;
      kept = subst (λ (d : Drilled). Keeps after d.lines) all
          (subst (λ (s : List (Option Event)). Keeps s (lines ++ made.line ∷ [])) (sym kept)
          (kept_more kinds slots lines old.kept n x counted));
    }

pub drilling_none : (kinds : List NameArity) (seed : ℕ) (out : List ℕ) (x : ℕ) (slots : List (Option Event))
    → out ≡ [] → x ≡ seed % STATES → slots ≡ [] → Drilling kinds seed 0 out x slots
drilling_none kinds seed out x slots none start empty = record {
  text = none;
  state = start;
  kept = subst (λ (s : List (Option Event)). Keeps s []) (sym empty) keeps_none;
}
