-- One word of the walk, and all of them.
use Rattle.std.proofs.Common.{◌≡◌, ◌∙◌, refl, sym, ap, ap₂, subst, arith, Bool, true, false, ℕ, suc, ◌||◌, List, [], ◌∷◌, map, length, Option, Some, None, option_map, codes}
use Rattle.std.specs.Prelude.{option_and_then, slice_get, if◌then◌else◌, encode_utf8, unwrap_or, ◌==◌}
use Rattle.std.specs.List.{fold}
use Rattle.std.specs.Str.{bytes_eq, chars, IsUtf8}
use Rattle.std.proofs.Math.Utf8.{encodes}
use Rattle.std.proofs.lemmas.Str.{encodes-chars}
use Rattle.clap.specs.Lexer.{long_of, short_of, short_of_rest}
use Rattle.std.proofs.lemmas.Bool.{eqb-true}
use Rattle.clap.specs.Kinds.{or_else}
use Rattle.clap.specs.Faults.{walk_fault, turn_fault, settle_fault, flags_fault}
use Rattle.clap.specs.Walk.{Held, Row, Rule, Walk, Waiting, idle, option, subcommand_met, walked, settled, pushed, arg_by_long}
use Rattle.clap.specs.Words.{Kinds}
use Rattle.clap.specs.declared.error.kind.ErrorKind.{ErrorKind}
use Rattle.clap.specs.declared.error.kind.ErrorKind.TheVariants as kind
use Rattle.std.specs.Option.{option_map_or}
use Rattle.std.proofs.Math.Bool.{and-false}
use Rattle.clap.specs.Simple.{with_index, filled}
use Rattle.job_words.specs.Account.{with_long, AreUtf8}
use Rattle.job_words.specs.Words.{Text, OptionName, Late, Seed, Lines}
use Rattle.job_words.proofs.ClapWalk.{top, arguments, Id, First, Second, Of, id_text, Use, row, pending_of, held, settle, SettleFate, settle_fate}

-- ---- the smaller machine

pub data Place : Type 0 where
  Zero : Place
  One : Place
  Two : Place

abbrev pub place_number : Place → ℕ
place_number Zero = 1
place_number One = 2
place_number Two = 3

abbrev pub next_place : Place → Option (Id × Place)
next_place Zero = Some (First, One)
next_place One = Some (Second, Two)
next_place Two = None

-- what a word is
pub data Sort : Type 0 where
  Word : Sort
  Dashes : Sort
  Opens : OptionName → Sort
  Whole : OptionName → Text → Sort
  Bad : Sort

abbrev pub name_by : Bool → Bool → Bool → Option OptionName
name_by late seed lines = if late then Some Late else if seed then Some Seed else if lines then Some Lines else None

abbrev pub name_of : Text → Option OptionName
name_of n = name_by (bytes_eq (codes "late") n) (bytes_eq (codes "seed") n) (bytes_eq (codes "lines") n)

abbrev pub named : Option OptionName → Option Text → Sort
named None v = Bad
named (Some o) None = Opens o
named (Some o) (Some v) = Whole o v

abbrev pub sort_by : Bool → Option (Text × Option Text) → Option Text → Sort
sort_by true long short = Dashes
sort_by false (Some p) short = named (name_of p.0) p.1
sort_by false None (Some flags) = Bad
sort_by false None None = Word

abbrev pub sort : Text → Sort
sort w = sort_by (bytes_eq w (45 ∷ 45 ∷ [])) (long_of w) (short_of w)

pub data Stage : Type 0 where
  Idle : Option Use → Stage
  Waits : OptionName → Stage
  Trail : Option Use → Stage

pub record At : Type 0 where
  pub stage : Stage
  pub uses : List Use
  pub place : Place

abbrev pub placed : (Option Use → Stage) → Text → Option (Id × Place) → List Use → Option At
placed make w None us = None
placed make w (Some q) us = Some (record { stage = make (Some (q.0, w)); uses = us; place = q.1 })

abbrev pub wait_step : Sort → OptionName → Text → List Use → Place → Option At
wait_step Word o w us pl = Some (record { stage = Idle (Some (Of o, w)); uses = us; place = pl })
wait_step _ o w us pl = None

abbrev pub idle_step : Sort → Option Use → Text → List Use → Place → Option At
idle_step Word p w us pl = option_and_then (placed Idle w (next_place pl)) (settle us p)
idle_step Dashes p w us pl = Some (record { stage = Trail p; uses = us; place = pl })
idle_step (Opens o) p w us pl = option_map (λ more. record { stage = Waits o; uses = more; place = pl }) (settle us p)
idle_step (Whole o v) p w us pl = option_and_then (λ more. option_map (λ all. record { stage = Idle None; uses = all; place = pl })
    (settle more (Some (Of o, v)))) (settle us p)
idle_step Bad p w us pl = None

abbrev pub step_from : Stage → List Use → Place → Text → Option At
step_from (Idle p) us pl w = idle_step (sort w) p w us pl
step_from (Waits o) us pl w = wait_step (sort w) o w us pl
step_from (Trail p) us pl w = option_and_then (placed Trail w (next_place pl)) (settle us p)

abbrev pub ends : Stage → List Use → Option (List Use)
ends (Idle p) us = settle us p
ends (Waits o) us = None
ends (Trail p) us = settle us p

abbrev pub uses_of : At → List Text → Option (List Use)
uses_of a [] = ends a.stage a.uses
uses_of a (w ∷ ws) = option_and_then (λ b. uses_of b ws) (step_from a.stage a.uses a.place w)

-- ---- the walk at such a state

abbrev pub walk_with : Option (Text × List Text) → Waiting → Bool → List Use → Place → Walk
walk_with p waiting trailing us pl = record {
  held = held us p;
  waiting = waiting;
  position = place_number pl;
  is_trailing =
      trailing;
  stopped = None;
}

abbrev pub walk_from : Stage → List Use → Place → Walk
walk_from (Idle p) us pl = walk_with (pending_of p) idle false us pl
walk_from (Waits o) us pl = walk_with (Some (id_text (Of o), [])) (option (id_text (Of o))) false us pl
walk_from (Trail p) us pl = walk_with (pending_of p) idle true us pl

abbrev pub walk_at : At → Walk
walk_at a = walk_from a.stage a.uses a.place

abbrev pub end_of : Walk → List Text → Held
end_of w ws = (fold (walked arguments []) w ws).held

abbrev pub total : Walk → List Text → Kinds
total w ws = or_else (walk_fault top [] w ws) (settle_fault arguments false (end_of w ws))

or_else_assoc : (a b d : Kinds) → or_else (or_else a b) d ≡ or_else a (or_else b d)
or_else_assoc [] b d = refl
or_else_assoc (k ∷ a) b d = refl

total_next : (w : Walk) (x : Text) (ws : List Text) → total w (x ∷ ws) ≡ or_else (turn_fault top [] w x)
    (total (walked arguments [] w x) ws)
unfolding walk_fault
total_next w x ws = or_else_assoc (turn_fault top [] w x) (walk_fault top [] (walked arguments [] w x) ws)
    (settle_fault arguments false (end_of (walked arguments [] w x) ws))

-- the parse fails at this word or behind it
abbrev pub Stuck : Walk → Text → Type 0
Stuck w x = (ws : List Text) → total w (x ∷ ws) ≡ [] → ⊥

abbrev pub StepFate : Walk → Text → Option At → Type 0
StepFate w x None = Stuck w x
StepFate w x (Some b) = (turn_fault top [] w x ≡ []) × (walked arguments [] w x ≡ walk_at b)

first_nil : (a b : Kinds) → or_else a b ≡ [] → a ≡ []
first_nil [] b e = refl
first_nil (k ∷ a) b e = cc

second_nil : (a b : Kinds) → or_else a b ≡ [] → b ≡ []
second_nil [] b e = e
second_nil (k ∷ a) b e = cc

stuck : (w : Walk) (x : Text) → (turn_fault top [] w x ≡ [] → ⊥) → Stuck w x
stuck w x bad ws e = bad (first_nil _ (total (walked arguments [] w x) ws) (sym (total_next w x ws) ∙ e))

-- ---- a word that stands alone

abbrev after_push : Bool → Text → Text → ℕ → Held → Walk
after_push trailing id w n h = record { held = pushed id w h; waiting = idle; position = n; is_trailing = trailing; stopped = None }

abbrev shown_id : Option (Id × Place) → Text
shown_id None = []
shown_id (Some q) = id_text q.0

abbrev shown_place : Option (Id × Place) → ℕ
shown_place None = 0
shown_place (Some q) = place_number q.1

abbrev rule_of_name : OptionName → Rule
rule_of_name Late = with_index 3 (filled (with_long (codes "late")))
rule_of_name Seed = with_index 3 (filled (with_long (codes "seed")))
rule_of_name Lines = with_index 3 (filled (with_long (codes "lines")))

abbrev after_open : OptionName → Place → Held → Walk
after_open o pl h = record {
  held = record h { pending = Some (id_text (Of o), []) };
  waiting = option (id_text (Of o));
  position =
      place_number pl;
  is_trailing = false;
  stopped = None;
}

-- what a positional asks and leaves, where no argument takes several values
abbrev asks : List Use → Option Use → Bool → Kinds
asks us p b = if b then [] else settle_fault arguments false (held us (pending_of p))

abbrev leaves : List Use → Option Use → Bool → Held
leaves us p b = if b then held us (pending_of p) else settled arguments (held us (pending_of p))

abbrev is_for : Text → Option Use → Bool
is_for id p = option_map_or (λ q. bytes_eq q.0 id) (pending_of p) false

trail_turn : (us : List Use) (p : Option Use) (pl : Place) (q : Id × Place) (w : Text) → next_place pl ≡ Some q
    → (turn_fault top [] (walk_from (Trail p) us pl) w ≡ settle_fault arguments false (held us (pending_of p)))
    × (walked arguments [] (walk_from (Trail p) us pl) w ≡ after_push true (id_text q.0) w (place_number q.1)
    (settled arguments (held us (pending_of p))))
unfolding walked
trail_turn us p Zero q w e = (
  ap (asks us p) (and-false (is_for (codes "mode") p)),
  ap (λ b. after_push true (codes "mode") w 2 (leaves us p b)) (and-false (is_for (codes "mode") p))
      ∙ ap (λ (o : Option (Id × Place)). after_push true (shown_id o) w (shown_place o) (settled arguments (held us (pending_of p)))) e,
)
trail_turn us p One q w e = (
  ap (asks us p) (and-false (is_for (codes "rules") p)),
  ap (λ b. after_push true (codes "rules") w 3 (leaves us p b)) (and-false (is_for (codes "rules") p))
      ∙ ap (λ (o : Option (Id × Place)). after_push true (shown_id o) w (shown_place o) (settled arguments (held us (pending_of p)))) e,
)
trail_turn us p Two q w e = cc

trail_full : (us : List Use) (p : Option Use) (w : Text) → turn_fault top [] (walk_from (Trail p) us Two) w ≡ kind.UnknownArgument ∷ []
trail_full us p w = refl

word_turn : (us : List Use) (p : Option Use) (pl : Place) (q : Id × Place) (w : Text) → next_place pl ≡ Some q
    → bytes_eq w (45 ∷ 45 ∷ []) ≡ false → long_of w ≡ None → short_of w ≡ None
    → (turn_fault top [] (walk_from (Idle p) us pl) w ≡ settle_fault arguments false (held us (pending_of p)))
    × (walked arguments [] (walk_from (Idle p) us pl) w ≡ after_push false (id_text q.0) w (place_number q.1)
    (settled arguments (held us (pending_of p))))
unfolding walked
word_turn us p Zero q w e e1 e2 e3 = (
  rw (e1, e2, e3) (ap (asks us p) (and-false (is_for (codes "mode") p))),
  rw (e1, e2, e3) (ap (λ b. after_push false (codes "mode") w 2 (leaves us p b)) (and-false (is_for (codes "mode") p))
      ∙ ap (λ (o : Option (Id × Place)). after_push false (shown_id o) w (shown_place o) (settled arguments (held us (pending_of p)))) e),
)
word_turn us p One q w e e1 e2 e3 = (
  rw (e1, e2, e3) (ap (asks us p) (and-false (is_for (codes "rules") p))),
  rw (e1, e2, e3) (ap (λ b. after_push false (codes "rules") w 3 (leaves us p b)) (and-false (is_for (codes "rules") p))
      ∙ ap (λ (o : Option (Id × Place)). after_push false (shown_id o) w (shown_place o) (settled arguments (held us (pending_of p)))) e),
)
word_turn us p Two q w e e1 e2 e3 = cc

word_full : (us : List Use) (p : Option Use) (w : Text) → bytes_eq w (45 ∷ 45 ∷ []) ≡ false → long_of w ≡ None → short_of w ≡ None
    → turn_fault top [] (walk_from (Idle p) us Two) w ≡ kind.UnknownArgument ∷ []
word_full us p w e1 e2 e3 = rw (e1, e2, e3) refl

dashes_turn : (us : List Use) (p : Option Use) (pl : Place) (w : Text) → bytes_eq w (45 ∷ 45 ∷ []) ≡ true
    → (turn_fault top [] (walk_from (Idle p) us pl) w ≡ []) × (walked arguments [] (walk_from (Idle p) us pl) w ≡ walk_from (Trail p) us pl)
unfolding walked
dashes_turn us p pl w e1 = (rw e1 refl, rw e1 refl)

-- ---- options

by_long : (n : Text) → arg_by_long arguments n ≡ option_map rule_of_name (name_of n)
by_long n = go (bytes_eq (codes "late") n) (bytes_eq (codes "seed") n) (bytes_eq (codes "lines") n)
  where
    go : (a b d : Bool) → (if a || false then Some (rule_of_name Late) else if b || false then Some (rule_of_name Seed) else if d
        || false then Some (rule_of_name Lines) else None) ≡ option_map rule_of_name (name_by a b d)
    go true b d = refl
    go false true d = refl
    go false false true = refl
    go false false false = refl

pub or_else_none : (a : Kinds) → or_else a [] ≡ a
or_else_none [] = refl
or_else_none (k ∷ a) = refl

opens_turn : (us : List Use) (p : Option Use) (pl : Place) (o : OptionName) (w n : Text) → bytes_eq w (45 ∷ 45 ∷ []) ≡ false
    → long_of w ≡ Some (n, None) → arg_by_long arguments n ≡ Some (rule_of_name o)
    → (turn_fault top [] (walk_from (Idle p) us pl) w ≡ settle_fault arguments false (held us (pending_of p)))
    × (walked arguments [] (walk_from (Idle p) us pl) w ≡ after_open o pl (settled arguments (held us (pending_of p))))
unfolding walked
opens_turn us p pl Late w n e1 e2 a = (
  rw (e1, e2, a) (or_else_none (settle_fault arguments false (held us (pending_of p)))),
  rw (e1, e2, a) refl,
)
opens_turn us p pl Seed w n e1 e2 a = (
  rw (e1, e2, a) (or_else_none (settle_fault arguments false (held us (pending_of p)))),
  rw (e1, e2, a) refl,
)
opens_turn us p pl Lines w n e1 e2 a = (
  rw (e1, e2, a) (or_else_none (settle_fault arguments false (held us (pending_of p)))),
  rw (e1, e2, a) refl,
)

abbrev with_value : OptionName → Text → Held → Held
with_value o v h = record h { pending = pending_of (Some (Of o, v)) }

abbrev at_rest : Place → Held → Walk
at_rest pl h = record { held = h; waiting = idle; position = place_number pl; is_trailing = false; stopped = None }

whole_turn : (us : List Use) (p : Option Use) (pl : Place) (o : OptionName) (w n v : Text) → bytes_eq w (45 ∷ 45 ∷ []) ≡ false
    → long_of w ≡ Some (n, Some v) → arg_by_long arguments n ≡ Some (rule_of_name o)
    → (turn_fault top [] (walk_from (Idle p) us pl) w ≡ or_else (settle_fault arguments false (held us (pending_of p)))
    (settle_fault arguments false (with_value o v (settled arguments (held us (pending_of p))))))
    × (walked arguments [] (walk_from (Idle p) us pl) w ≡ at_rest pl
    (settled arguments (with_value o v (settled arguments (held us (pending_of p))))))
unfolding walked
whole_turn us p pl Late w n v e1 e2 a = (rw (e1, e2, a) (or_else_none _), rw (e1, e2, a) refl)
whole_turn us p pl Seed w n v e1 e2 a = (rw (e1, e2, a) (or_else_none _), rw (e1, e2, a) refl)
whole_turn us p pl Lines w n v e1 e2 a = (rw (e1, e2, a) (or_else_none _), rw (e1, e2, a) refl)

unknown_turn : (us : List Use) (p : Option (Text × List Text)) (waiting : Waiting) (pl : Place) (w n : Text) (v : Option Text)
    → subcommand_met [] waiting w ≡ None
    → bytes_eq w (45 ∷ 45 ∷ []) ≡ false → long_of w ≡ Some (n, v) → arg_by_long arguments n ≡ None
    → turn_fault top [] (walk_with p waiting false us pl) w ≡ kind.UnknownArgument ∷ []
unknown_turn us p waiting pl w n v e0 e1 e2 a = rw (e0, e1, e2, a) refl

-- ---- flags of one letter, of which there are none

short_fails : (y : ℕ) (ys : Text) (x : ℕ) (h : Held) → slice_get (chars (y ∷ ys)) 0 ≡ Some x → flags_fault arguments false (length (y ∷ ys))
    (y ∷ ys) 0 h ≡ kind.UnknownArgument ∷ []
unfolding flags_fault
short_fails y ys x h e = rw e refl

first_char : (cs : List ℕ) → (cs ≡ [] → ⊥) → (x : ℕ) × (slice_get cs 0 ≡ Some x)
first_char [] some = absurd (some refl)
first_char (c ∷ cs) some = (c, refl)

has_chars : (y : ℕ) (ys : Text) → IsUtf8 (45 ∷ y ∷ ys) → chars (y ∷ ys) ≡ [] → ⊥
unfolding chars lib.Utf8.encode
has_chars y ys utf8 none =
    let back : encodes (45 ∷ chars (y ∷ ys)) ≡ 45 ∷ y ∷ ys = encodes-chars (45 ∷ y ∷ ys) utf8 in
    let short : 45 ∷ [] ≡ 45 ∷ y ∷ ys = ap (λ cs. encodes (45 ∷ cs)) (sym none) ∙ back in
    let bad : 1 ≡ suc (suc (length ys)) = ap length short in absurd (omega (bad, arith))

some_is : (y : ℕ) (ys flags : Text) → Some (y ∷ ys) ≡ Some flags → flags ≡ y ∷ ys
some_is y ys flags e = ap (λ (o : Option Text). unwrap_or o []) (sym e)

short_parts : (w flags : Text) → short_of w ≡ Some flags → (y : ℕ) × (ys : Text) × (flags ≡ y ∷ ys) × (w ≡ 45 ∷ y ∷ ys)
short_parts [] flags e = cc
short_parts (x ∷ xs) flags e = go (x == 45) refl e
  where
    rest : (ts : Text) → x ≡ 45 → option_and_then short_of_rest (Some ts) ≡ Some flags → (y : ℕ) × (ys : Text) × (flags ≡ y ∷ ys)
        × (x ∷ ts ≡ 45 ∷ y ∷ ys)
    rest [] is e = cc
    rest (y ∷ ys) is e = next (y == 45) e
      where
        next : (b : Bool) → (if b then None else Some (y ∷ ys)) ≡ Some flags → (z : ℕ) × (zs : Text) × (flags ≡ z ∷ zs)
            × (x ∷ y ∷ ys ≡ 45 ∷ z ∷ zs)
        next true e = cc
        next false e = (y, ys, some_is y ys flags e, ap (λ h. h ∷ y ∷ ys) is)

    go : (b : Bool) → (x == 45) ≡ b → option_and_then short_of_rest (if b then Some xs else None) ≡ Some flags → (y : ℕ) × (ys : Text)
        × (flags ≡ y ∷ ys) × (x ∷ xs ≡ 45 ∷ y ∷ ys)
    go true is e = rest xs (eqb-true x 45 is) e
    go false is e = cc

bad_turn : (us : List Use) (p : Option (Text × List Text)) (waiting : Waiting) (pl : Place) (w flags : Text) → IsUtf8 w
    → subcommand_met [] waiting w ≡ None
    → bytes_eq w (45 ∷ 45 ∷ []) ≡ false → long_of w ≡ None → short_of w ≡ Some flags
    → turn_fault top [] (walk_with p waiting false us pl) w ≡ kind.UnknownArgument ∷ []
bad_turn us p waiting pl w flags utf8 e0 e1 e2 e3 =
    let (y, ys, f, whole) = short_parts w flags e3 in
    let (x, char) = first_char (chars (y ∷ ys)) (has_chars y ys (subst IsUtf8 whole utf8)) in
    let e4 : short_of w ≡ Some (y ∷ ys) = e3 ∙ ap (λ t. Some t) f in
    rw (e0, e1, e2, e4, short_fails y ys x (record (held us p) { skip = 0 }) char) refl

-- ---- a word behind an option that waits for its value

stale : (us : List Use) (o : OptionName) → settle_fault arguments false (held us (Some (id_text (Of o), []))) ≡ kind.InvalidValue ∷ []
stale us Late = refl
stale us Seed = refl
stale us Lines = refl

wait_word : (us : List Use) (o : OptionName) (pl : Place) (w : Text) → bytes_eq w (45 ∷ 45 ∷ []) ≡ false → long_of w ≡ None
    → short_of w ≡ None
    → (turn_fault top [] (walk_from (Waits o) us pl) w ≡ [])
    × (walked arguments [] (walk_from (Waits o) us pl) w ≡ walk_from (Idle (Some (Of o, w))) us pl)
unfolding walked
wait_word us Late pl w e1 e2 e3 = (rw (e1, e2, e3) refl, rw (e1, e2, e3) refl)
wait_word us Seed pl w e1 e2 e3 = (rw (e1, e2, e3) refl, rw (e1, e2, e3) refl)
wait_word us Lines pl w e1 e2 e3 = (rw (e1, e2, e3) refl, rw (e1, e2, e3) refl)

wait_named : (us : List Use) (o q : OptionName) (pl : Place) (w n : Text) (v : Option Text) → bytes_eq w (45 ∷ 45 ∷ []) ≡ false
    → long_of w ≡ Some (n, v) → arg_by_long arguments n ≡ Some (rule_of_name q)
    → turn_fault top [] (walk_from (Waits o) us pl) w ≡ kind.InvalidValue ∷ []
wait_named us o Late pl w n None e1 e2 a = rw (e1, e2, a, stale us o) refl
wait_named us o Seed pl w n None e1 e2 a = rw (e1, e2, a, stale us o) refl
wait_named us o Lines pl w n None e1 e2 a = rw (e1, e2, a, stale us o) refl
wait_named us o Late pl w n (Some v) e1 e2 a = rw (e1, e2, a, stale us o) refl
wait_named us o Seed pl w n (Some v) e1 e2 a = rw (e1, e2, a, stale us o) refl
wait_named us o Lines pl w n (Some v) e1 e2 a = rw (e1, e2, a, stale us o) refl

nothing : (k : Kinds) (rest : Kinds) → or_else k rest ≡ [] → k ≡ []
nothing [] rest e = refl
nothing (x ∷ xs) rest e = cc

-- `--` behind it: the option never gets its value
stale_trail : (us : List Use) (o : OptionName) (waiting : Waiting) (pl : Place) (ws : List Text)
    → total (walk_with (Some (id_text (Of o), [])) waiting true us pl) ws ≡ [] → ⊥
unfolding walk_fault
stale_trail us o waiting pl [] e = let bad : kind.InvalidValue ∷ [] ≡ [] = sym (stale us o) ∙ e in cc
stale_trail us o waiting pl (x ∷ ws) e =
    go pl (first_nil _ (total (walked arguments [] (walk_with (Some (id_text (Of o), [])) waiting true us pl) x) ws)
    (sym (total_next (walk_with (Some (id_text (Of o), [])) waiting true us pl) x ws) ∙ e))
  where
    go : (pl : Place) → turn_fault top [] (walk_with (Some (id_text (Of o), [])) waiting true us pl) x ≡ [] → ⊥
    go Zero e = let bad : kind.InvalidValue ∷ [] ≡ [] = sym (stale us o)
        ∙ sym (ap (λ b. if b then [] else settle_fault arguments false (held us (Some (id_text (Of o), []))))
        (and-false (bytes_eq (id_text (Of o)) (codes "mode")))) ∙ e in cc
    go One e = let bad : kind.InvalidValue ∷ [] ≡ [] = sym (stale us o)
        ∙ sym (ap (λ b. if b then [] else settle_fault arguments false (held us (Some (id_text (Of o), []))))
        (and-false (bytes_eq (id_text (Of o)) (codes "rules")))) ∙ e in cc
    go Two e = cc

wait_dashes : (us : List Use) (o : OptionName) (pl : Place) (w : Text) → bytes_eq w (45 ∷ 45 ∷ []) ≡ true
    → Stuck (walk_from (Waits o) us pl) w
unfolding walked
wait_dashes us o pl w e1 ws e =
    let here : walked arguments [] (walk_from (Waits o) us pl) w ≡ walk_with (Some (id_text (Of o), []))
    (option (id_text (Of o))) true us pl = rw e1 refl in
    let behind : total (walked arguments [] (walk_from (Waits o) us pl) w) ws ≡ [] =
    second_nil (turn_fault top [] (walk_from (Waits o) us pl) w) _ (sym (total_next (walk_from (Waits o) us pl) w ws) ∙ e) in
    stale_trail us o (option (id_text (Of o))) pl ws (sym (ap (λ v. total v ws) here) ∙ behind)

is_stuck : (w : Walk) (x : Text) (k : ErrorKind) → turn_fault top [] w x ≡ k ∷ [] → Stuck w x
is_stuck w x k e = stuck w x (λ none. let bad : k ∷ [] ≡ [] = sym e ∙ none in cc)

wait_fate : (us : List Use) (o : OptionName) (pl : Place) (w : Text) → IsUtf8 w → StepFate (walk_from (Waits o) us pl) w
    (step_from (Waits o) us pl w)
wait_fate us o pl w utf8 = go (bytes_eq w (45 ∷ 45 ∷ [])) (long_of w) (short_of w) refl refl refl
  where
    by_name : (q : Option OptionName) (n : Text) (v : Option Text) → name_of n ≡ q → bytes_eq w (45 ∷ 45 ∷ []) ≡ false
        → long_of w ≡ Some (n, v)
        → StepFate (walk_from (Waits o) us pl) w (wait_step (named q v) o w us pl)
    by_name None n v e e1 e2 = is_stuck _ w kind.UnknownArgument
        (unknown_turn us (Some (id_text (Of o), [])) (option (id_text (Of o))) pl w n v refl e1 e2 (by_long n
        ∙ ap (option_map rule_of_name) e))
    by_name (Some q) n None e e1 e2 =
        is_stuck _ w kind.InvalidValue (wait_named us o q pl w n None e1 e2 (by_long n ∙ ap (option_map rule_of_name) e))
    by_name (Some q) n (Some v) e e1 e2 =
        is_stuck _ w kind.InvalidValue (wait_named us o q pl w n (Some v) e1 e2 (by_long n ∙ ap (option_map rule_of_name) e))

    go : (b : Bool) (lo : Option (Text × Option Text)) (sh : Option Text) → bytes_eq w (45 ∷ 45 ∷ []) ≡ b → long_of w ≡ lo → short_of w ≡ sh
        → StepFate (walk_from (Waits o) us pl) w (wait_step (sort_by b lo sh) o w us pl)
    go true lo sh e1 e2 e3 = wait_dashes us o pl w e1
    go false (Some p) sh e1 e2 e3 = by_name (name_of p.0) p.0 p.1 refl e1 e2
    go false None (Some flags) e1 e2 e3 =
        is_stuck _ w kind.UnknownArgument (bad_turn us (Some (id_text (Of o), [])) (option (id_text (Of o))) pl w flags utf8 refl e1 e2 e3)
    go false None None e1 e2 e3 = wait_word us o pl w e1 e2 e3

-- ---- a word where nothing waits

word_case : (us : List Use) (p : Option Use) (pl : Place) (w : Text) (s : Option (List Use)) → SettleFate us p s
    → bytes_eq w (45 ∷ 45 ∷ []) ≡ false → long_of w ≡ None → short_of w ≡ None
    → StepFate (walk_from (Idle p) us pl) w (option_and_then (placed Idle w (next_place pl)) s)
word_case us p Zero w None fate e1 e2 e3 = stuck _ w (λ none. fate (sym (word_turn us p Zero (First, One) w refl e1 e2 e3).0 ∙ none))
word_case us p One w None fate e1 e2 e3 = stuck _ w (λ none. fate (sym (word_turn us p One (Second, Two) w refl e1 e2 e3).0 ∙ none))
word_case us p Two w None fate e1 e2 e3 = is_stuck _ w kind.UnknownArgument (word_full us p w e1 e2 e3)
word_case us p Zero w (Some more) fate e1 e2 e3 = let t = word_turn us p Zero (First, One) w refl e1 e2 e3 in
    (t.0 ∙ fate.0, t.1 ∙ ap (after_push false (codes "mode") w 2) fate.1)
word_case us p One w (Some more) fate e1 e2 e3 = let t = word_turn us p One (Second, Two) w refl e1 e2 e3 in
    (t.0 ∙ fate.0, t.1 ∙ ap (after_push false (codes "rules") w 3) fate.1)
word_case us p Two w (Some more) fate e1 e2 e3 = is_stuck _ w kind.UnknownArgument (word_full us p w e1 e2 e3)

opens_case : (us : List Use) (p : Option Use) (pl : Place) (o : OptionName) (w n : Text) (s : Option (List Use)) → SettleFate us p s
    → bytes_eq w (45 ∷ 45 ∷ []) ≡ false → long_of w ≡ Some (n, None) → arg_by_long arguments n ≡ Some (rule_of_name o)
    → StepFate (walk_from (Idle p) us pl) w (option_map (λ more. record { stage = Waits o; uses = more; place = pl }) s)
opens_case us p pl o w n None fate e1 e2 a = stuck _ w (λ none. fate (sym (opens_turn us p pl o w n e1 e2 a).0 ∙ none))
opens_case us p pl o w n (Some more) fate e1 e2 a = let t = opens_turn us p pl o w n e1 e2 a in
    (t.0 ∙ fate.0, t.1 ∙ ap (after_open o pl) fate.1)

whole_case : (us : List Use) (p : Option Use) (pl : Place) (o : OptionName) (w n v : Text) (s : Option (List Use)) → SettleFate us p s
    → bytes_eq w (45 ∷ 45 ∷ []) ≡ false → long_of w ≡ Some (n, Some v) → arg_by_long arguments n ≡ Some (rule_of_name o)
    → StepFate (walk_from (Idle p) us pl) w
    (option_and_then (λ more. option_map (λ all. record { stage = Idle None; uses = all; place = pl })
    (settle more (Some (Of o, v)))) s)
whole_case us p pl o w n v None fate e1 e2 a =
    stuck _ w (λ none. fate (first_nil _ (settle_fault arguments false (with_value o v (settled arguments (held us (pending_of p)))))
    (sym (whole_turn us p pl o w n v e1 e2 a).0 ∙ none)))
whole_case us p pl o w n v (Some more) fate e1 e2 a = go (settle more (Some (Of o, v))) (settle_fate more (Some (Of o, v)))
  where
    t : (turn_fault top [] (walk_from (Idle p) us pl) w ≡ settle_fault arguments false (held more (pending_of (Some (Of o, v)))))
        × (walked arguments [] (walk_from (Idle p) us pl) w ≡ at_rest pl (settled arguments (held more (pending_of (Some (Of o, v))))))
    t = let both = whole_turn us p pl o w n v e1 e2 a in (
      both.0 ∙ ap₂ or_else fate.0 (ap (λ h. settle_fault arguments false (with_value o v h)) fate.1),
      both.1
          ∙ ap (λ h. at_rest pl (settled arguments (with_value o v h))) fate.1,
    )

    go : (r : Option (List Use)) → SettleFate more (Some (Of o, v)) r → StepFate (walk_from (Idle p) us pl) w
        (option_map (λ all. record { stage = Idle None; uses = all; place = pl }) r)
    go None f = stuck _ w (λ none. f (sym t.0 ∙ none))
    go (Some all) f = (t.0 ∙ f.0, t.1 ∙ ap (at_rest pl) f.1)

idle_fate : (us : List Use) (p : Option Use) (pl : Place) (w : Text) → IsUtf8 w
    → StepFate (walk_from (Idle p) us pl) w (step_from (Idle p) us pl w)
idle_fate us p pl w utf8 = go (bytes_eq w (45 ∷ 45 ∷ [])) (long_of w) (short_of w) refl refl refl
  where
    by_name : (q : Option OptionName) (n : Text) (v : Option Text) → name_of n ≡ q → bytes_eq w (45 ∷ 45 ∷ []) ≡ false
        → long_of w ≡ Some (n, v)
        → StepFate (walk_from (Idle p) us pl) w (idle_step (named q v) p w us pl)
    by_name None n v e e1 e2 = is_stuck _ w kind.UnknownArgument (unknown_turn us (pending_of p) idle pl w n v refl e1 e2 (by_long n
        ∙ ap (option_map rule_of_name) e))
    by_name (Some q) n None e e1 e2 = opens_case us p pl q w n (settle us p) (settle_fate us p) e1 e2 (by_long n
        ∙ ap (option_map rule_of_name) e)
    by_name (Some q) n (Some v) e e1 e2 = whole_case us p pl q w n v (settle us p) (settle_fate us p) e1 e2 (by_long n
        ∙ ap (option_map rule_of_name) e)

    go : (b : Bool) (lo : Option (Text × Option Text)) (sh : Option Text) → bytes_eq w (45 ∷ 45 ∷ []) ≡ b → long_of w ≡ lo → short_of w ≡ sh
        → StepFate (walk_from (Idle p) us pl) w (idle_step (sort_by b lo sh) p w us pl)
    go true lo sh e1 e2 e3 = dashes_turn us p pl w e1
    go false (Some q) sh e1 e2 e3 = by_name (name_of q.0) q.0 q.1 refl e1 e2
    go false None (Some flags) e1 e2 e3 = is_stuck _ w kind.UnknownArgument (bad_turn us (pending_of p) idle pl w flags utf8 refl e1 e2 e3)
    go false None None e1 e2 e3 = word_case us p pl w (settle us p) (settle_fate us p) e1 e2 e3

trail_case : (us : List Use) (p : Option Use) (pl : Place) (w : Text) (s : Option (List Use)) → SettleFate us p s
    → StepFate (walk_from (Trail p) us pl) w (option_and_then (placed Trail w (next_place pl)) s)
trail_case us p Zero w None fate = stuck _ w (λ none. fate (sym (trail_turn us p Zero (First, One) w refl).0 ∙ none))
trail_case us p One w None fate = stuck _ w (λ none. fate (sym (trail_turn us p One (Second, Two) w refl).0 ∙ none))
trail_case us p Two w None fate = is_stuck _ w kind.UnknownArgument (trail_full us p w)
trail_case us p Zero w (Some more) fate = let t = trail_turn us p Zero (First, One) w refl in
    (t.0 ∙ fate.0, t.1 ∙ ap (after_push true (codes "mode") w 2) fate.1)
trail_case us p One w (Some more) fate = let t = trail_turn us p One (Second, Two) w refl in
    (t.0 ∙ fate.0, t.1 ∙ ap (after_push true (codes "rules") w 3) fate.1)
trail_case us p Two w (Some more) fate = is_stuck _ w kind.UnknownArgument (trail_full us p w)

step_fate : (stage : Stage) (us : List Use) (pl : Place) (w : Text) → IsUtf8 w
    → StepFate (walk_from stage us pl) w (step_from stage us pl w)
step_fate (Idle p) us pl w utf8 = idle_fate us p pl w utf8
step_fate (Waits o) us pl w utf8 = wait_fate us o pl w utf8
step_fate (Trail p) us pl w utf8 = trail_case us p pl w (settle us p) (settle_fate us p)

-- ---- all words

abbrev pub end_rows : Walk → List Text → List Row
end_rows w ws = (settled arguments (end_of w ws)).rows

abbrev pub Fate : Walk → List Text → Option (List Use) → Type 0
Fate w ws None = total w ws ≡ [] → ⊥
Fate w ws (Some us) = (total w ws ≡ []) × (end_rows w ws ≡ map row us)

end_fate : (stage : Stage) (us : List Use) (pl : Place) → Fate (walk_from stage us pl) [] (ends stage us)
unfolding walk_fault
end_fate (Waits o) us pl = λ none. let bad : kind.InvalidValue ∷ [] ≡ [] = sym (stale us o) ∙ none in cc
end_fate (Idle p) us pl = go (settle us p) (settle_fate us p)
  where
    go : (s : Option (List Use)) → SettleFate us p s → Fate (walk_from (Idle p) us pl) [] s
    go None f = f
    go (Some more) f = (f.0, ap (λ (h : Held). h.rows) f.1)
end_fate (Trail p) us pl = go (settle us p) (settle_fate us p)
  where
    go : (s : Option (List Use)) → SettleFate us p s → Fate (walk_from (Trail p) us pl) [] s
    go None f = f
    go (Some more) f = (f.0, ap (λ (h : Held). h.rows) f.1)

fate_next : (w v : Walk) (x : Text) (ws : List Text) (r : Option (List Use)) → turn_fault top [] w x ≡ [] → walked arguments [] w x ≡ v
    → Fate v ws r → Fate w (x ∷ ws) r
fate_next w v x ws None t n f = λ none. f (sym (total_next w x ws ∙ ap₂ (λ (k : Kinds) (u : Walk). or_else k (total u ws)) t n) ∙ none)
fate_next w v x ws (Some us) t n f = (
  total_next w x ws ∙ ap₂ (λ (k : Kinds) (u : Walk). or_else k (total u ws)) t n
      ∙ f.0,
  ap (λ (u : Walk). end_rows u ws) n ∙ f.1,
)

fate_step : (a : At) (x : Text) (ws : List Text) → ((b : At) → Fate (walk_at b) ws (uses_of b ws)) → (r : Option At)
    → StepFate (walk_at a) x r → Fate (walk_at a) (x ∷ ws) (option_and_then (λ b. uses_of b ws) r)
fate_step a x ws ih None f = f ws
fate_step a x ws ih (Some b) f = fate_next (walk_at a) (walk_at b) x ws (uses_of b ws) f.0 f.1 (ih b)

pub fate : (ws : List Text) → AreUtf8 ws → (a : At) → Fate (walk_at a) ws (uses_of a ws)
fate [] texts a = end_fate a.stage a.uses a.place
fate (x ∷ ws) texts a = fate_step a x ws (fate ws texts.1) (step_from a.stage a.uses a.place x) (step_fate a.stage a.uses a.place x texts.0)
