-- What a step with one operand, a name or an OR gives is what it gets and loses, as far as it fits.
use Rattle.std.specs.Prelude.{ℕ, ◌≡◌, ◌+◌, refl, Bool, true, false, cond, if◌then◌else◌, Option, Some, None, List, [], ◌∷◌, ◌++◌, map}
use Rattle.std.specs.List.{filter, flat_map}
use Rattle.std.specs.Ordering.{is_eq}
use Rattle.std.proofs.Common.{ap, sym, ◌∙◌, arith, zero-add}
use Rattle.ordered_lists.specs.Lists.{some_of, total, total-append, total-flat_map, total_same}
use Rattle.ordered_lists.specs.Canon.{Rising}
use Rattle.event_model.specs.Events.{span_of}
use Rattle.event_model.specs.declared.atoms.NameArity.{NameArity}
use Rattle.event_model.specs.declared.events.Event.{Event}
use Rattle.event_changes.specs.declared.changes.Sign.{Sign}
use Rattle.event_changes.specs.declared.changes.Sign.TheVariants.{Plus, Minus}
use Rattle.event_changes.specs.declared.events.EventChange.{EventChange}
use Rattle.event_changes.specs.declared.events.EventChange.TheVariants.{Came, Went}
use Rattle.ev_bind.specs.Rows.{row_cmp}
use Rattle.ev_bind.specs.declared.rows.Row.{Row}
use Rattle.pattern_meaning.specs.PatternRows.{found, is_of, events_of}
use Rattle.step_meaning.specs.StepRows.{times}
use Rattle.row_changes.specs.Changes.{changed, signed_row, deltas}
use Rattle.row_changes.specs.Visits.{same_sign, hits, tally}
use Rattle.change_meaning.specs.Caps.{fits}
use Rattle.change_meaning.specs.Courses.{passing, row_gives, event_row, event_gives, given_rows}
use Rattle.change_meaning.specs.Moved.{moved_of, came_of, went_of, events_in}
use Rattle.change_meaning.proofs.Balance.{total-map}
use Rattle.change_meaning.proofs.Sums.{total_cond, sign_of, sum_moved, tally-append, tally-map, hits_fitting}

module _ (s : Sign) (r : Row) (cap : Option ℕ) where
  -- what a step makes of each changed row
  pub rows_give : (make : Row → Option Row) (xs ys : List Row) → Rising row_cmp xs → Rising row_cmp ys
      → tally s r (map (row_gives cap make) (deltas xs ys))
      ≡ cond (fits cap r) (total (λ x. times r (some_of (make x))) (moved_of s xs ys)) 0
  rows_give make xs ys u v =
      let k : Row → ℕ = λ x. cond (fits cap r) (times r (some_of (make x))) 0 in
      tally-map s r (row_gives cap make) (deltas xs ys)
      ∙ total-map (λ d. hits s r (row_gives cap make d)) (signed_row ys) (changed xs ys)
      ∙ total_same (λ x. hits s r (row_gives cap make (signed_row ys x))) (λ x. if same_sign s (sign_of ys x) then k x else 0)
      (λ x. hits_fitting s (sign_of ys x) r cap (make x)) (changed xs ys)
      ∙ sum_moved s k xs ys u v
      ∙ total_cond (fits cap r) (λ x. times r (some_of (make x))) (moved_of s xs ys)

-- ---- sums of what is made of rows

module _ (r : Row) where
  abbrev one : Row → ℕ
  one x = cond (is_eq (row_cmp r x)) 1 0

  pub made_flat : (make : Row → Option Row) (xs : List Row)
      → total (λ x. times r (some_of (make x))) xs ≡ times r (flat_map (λ x. some_of (make x)) xs)
  made_flat make xs = sym (total-flat_map one (λ x. some_of (make x)) xs)

  pub made_each : (xs : List Row) → total (λ x. times r (some_of (Some x))) xs ≡ times r xs
  made_each [] = refl
  made_each (x ∷ xs) = omega (arith, made_each xs)

  pub made_map : (f : Row → Row) (xs : List Row) → total (λ x. times r (some_of (Some (f x)))) xs ≡ times r (map f xs)
  made_map f [] = refl
  made_map f (x ∷ xs) = omega (arith, made_map f xs)

  pub made_passing : (p : Row → Bool) (xs : List Row) → total (λ x. times r (some_of (passing p x))) xs ≡ times r (filter p xs)
  made_passing p [] = refl
  made_passing p (x ∷ xs) = at (p x) (made_passing p xs)
    where
      at : (b : Bool) → total (λ x. times r (some_of (passing p x))) xs ≡ times r (filter p xs)
          → times r (some_of (if b then Some x else None)) + total (λ x. times r (some_of (passing p x))) xs
          ≡ times r (cond b (x ∷ filter p xs) (filter p xs))
      at true h = omega (arith, h)
      at false h = omega (arith, h)

-- ---- names

pub cond_sum : (b : Bool) (m n : ℕ) → cond b m 0 + cond b n 0 ≡ cond b (m + n) 0
cond_sum true m n = refl
cond_sum false m n = refl

module _ (r : Row) (cap : Option ℕ) (n : NameArity) where
  abbrev made : Event → Row
  made e = found e.atom.args (span_of e)

  event_times : (e : Event) (es : List Event) → times r (some_of (event_row n e)) + times r (events_of es n) ≡ times r (events_of (e ∷ es) n)
  event_times e es = at (is_of n e.atom)
    where
      at : (b : Bool) → times r (some_of (if b then Some (made e) else None)) + times r (events_of es n)
          ≡ times r (map made (cond b (e ∷ filter (λ v. is_of n v.atom) es) (filter (λ v. is_of n v.atom) es)))
      at true = omega arith
      at false = omega arith

  -- what the changed events give
  pub events_give : (s : Sign) (es : List EventChange)
      → tally s r (map (event_gives cap n) es) ≡ cond (fits cap r) (times r (events_of (events_in s es) n)) 0
  events_give Plus [] = at (fits cap r)
    where
      at : (b : Bool) → ◌≡◌ {A = ℕ} 0 (cond b 0 0)
      at true = refl
      at false = refl
  events_give Minus [] = at (fits cap r)
    where
      at : (b : Bool) → ◌≡◌ {A = ℕ} 0 (cond b 0 0)
      at true = refl
      at false = refl
  events_give Plus (Came e ∷ es) =
      (λ i. hits_fitting Plus Plus r cap (event_row n e) i + events_give Plus es i)
      ∙ cond_sum (fits cap r) (times r (some_of (event_row n e))) (times r (events_of (came_of es) n))
      ∙ ap (λ m. cond (fits cap r) m 0) (event_times e (came_of es))
  events_give Plus (Went e ∷ es) =
      (λ i. hits_fitting Plus Minus r cap (event_row n e) i + events_give Plus es i) ∙ zero-add _
  events_give Minus (Went e ∷ es) =
      (λ i. hits_fitting Minus Minus r cap (event_row n e) i + events_give Minus es i)
      ∙ cond_sum (fits cap r) (times r (some_of (event_row n e))) (times r (events_of (went_of es) n))
      ∙ ap (λ m. cond (fits cap r) m 0) (event_times e (went_of es))
  events_give Minus (Came e ∷ es) =
      (λ i. hits_fitting Minus Plus r cap (event_row n e) i + events_give Minus es i) ∙ zero-add _

-- what the heads of a name give
pub heads_give : (s : Sign) (r : Row) (cap : Option ℕ) (b a : ℕ → List Row) → ((i : ℕ) → Rising row_cmp (b i))
    → ((i : ℕ) → Rising row_cmp (a i)) → (heads : List ℕ)
    → tally s r (flat_map (λ h. map (row_gives cap Some) (deltas (b h) (a h))) heads)
    ≡ cond (fits cap r) (times r (flat_map (λ h. moved_of s (b h) (a h)) heads)) 0
heads_give s r cap b a ub ua [] = at (fits cap r)
  where
    at : (b : Bool) → ◌≡◌ {A = ℕ} 0 (cond b 0 0)
    at true = refl
    at false = refl
heads_give s r cap b a ub ua (h ∷ heads) =
    let one : Row → ℕ = λ x. cond (is_eq (row_cmp r x)) 1 0 in
    let first = moved_of s (b h) (a h) in
    let rest = flat_map (λ h. moved_of s (b h) (a h)) heads in
    tally-append s r (map (row_gives cap Some) (deltas (b h) (a h))) (flat_map (λ h. map (row_gives cap Some) (deltas (b h) (a h))) heads)
    ∙ (λ i. (rows_give s r cap Some (b h) (a h) (ub h) (ua h) ∙ ap (λ m. cond (fits cap r) m 0) (made_each r first)) i
    + heads_give s r cap b a ub ua heads i)
    ∙ cond_sum (fits cap r) (times r first) (times r rest)
    ∙ ap (λ m. cond (fits cap r) m 0) (sym (total-append one first rest))

-- ---- rows with a sign

given_own : (sign : Sign) (r : Row) (cap : Option ℕ) (s : Sign) (rows : List Row)
    → tally s r (given_rows cap sign rows) ≡ (if same_sign s sign then cond (fits cap r) (times r rows) 0 else 0)
given_own sign r cap s [] = at (same_sign s sign) (fits cap r)
  where
    at : (b c : Bool) → ◌≡◌ {A = ℕ} 0 (if b then cond c 0 0 else 0)
    at true true = refl
    at true false = refl
    at false c = refl
given_own sign r cap s (x ∷ rows) =
    (λ i. hits_fitting s sign r cap (Some x) i + given_own sign r cap s rows i) ∙ at (same_sign s sign) (fits cap r)
  where
    at : (b c : Bool) → (if b then cond c (times r (some_of (Some x))) 0 else 0) + (if b then cond c (times r rows) 0 else 0)
        ≡ (if b then cond c (times r (x ∷ rows)) 0 else 0)
    at true true = omega arith
    at true false = refl
    at false c = refl

-- a Minus gives the rows that it has only after, and those that it had only before
pub minus_gives : (s : Sign) (r : Row) (cap : Option ℕ) (xs ys : List Row)
    → tally s r (given_rows cap Plus (moved_of Plus xs ys) ++ given_rows cap Minus (moved_of Minus xs ys))
    ≡ cond (fits cap r) (times r (moved_of s xs ys)) 0
minus_gives s r cap xs ys =
    tally-append s r (given_rows cap Plus (moved_of Plus xs ys)) (given_rows cap Minus (moved_of Minus xs ys))
    ∙ (λ i. given_own Plus r cap s (moved_of Plus xs ys) i + given_own Minus r cap s (moved_of Minus xs ys) i) ∙ at s
  where
    at : (s : Sign) → (if same_sign s Plus then cond (fits cap r) (times r (moved_of Plus xs ys)) 0 else 0)
        + (if same_sign s Minus then cond (fits cap r) (times r (moved_of Minus xs ys)) 0 else 0)
        ≡ cond (fits cap r) (times r (moved_of s xs ys)) 0
    at Plus = omega arith
    at Minus = omega arith
