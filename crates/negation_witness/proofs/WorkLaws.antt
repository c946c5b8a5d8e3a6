-- Turns of the work of a Minus.
use Rattle.std.proofs.Common.{◌≡◌, refl, ap, sym, ◌∙◌, subst, ℕ, ◌+◌, ◌-◌, ◌<◌, true, false, is_some, List, [], ◌∷◌, ◌++◌, length, drop, map, Option, Some, None, MatchOption, Result, Ok, Err, IfOk, zero, suc, arith}
use Rattle.std.specs.List.{flat_map}
use Rattle.std.proofs.Math.Seq.{drop-nil}
use Rattle.std.proofs.lemmas.Bool.{true≢false}
use Rattle.event_changes.specs.declared.changes.Sign.{Sign}
use Rattle.ev_bind.specs.declared.rows.Row.{Row}
use Rattle.row_changes.specs.Changes.{SignedRow}
use Rattle.row_changes.specs.Visits.{Visit, At, Made, tally}
use Rattle.change_meaning.specs.MinusVisits.{TestTask, own_test, test, tested_rows, tests_at, joined_task, inner_task, before_task, after_task}
use Rattle.goal_store.specs.Goals.{rest}
use Rattle.goal_store.specs.Walks.{rows_left}
use Rattle.goal_store.specs.declared.walks.RowsFrom.{RowsFrom}
use Rattle.step_changes.specs.Notes.{noted}
use Rattle.step_changes.specs.Stretches.{made_none, made_one, made_more}
use Rattle.step_changes.specs.Tasks.{at_left, WorksOn, StopsAt, nil_of_map, row_stops, row_ends, none_left, task_left, task_begun, one_more}
use Rattle.step_changes.specs.declared.pending.Pending.{Pending}
use Rattle.negation_witness.specs.Looking.{rows_or_none}
use Rattle.negation_witness.specs.Testing.{under_left, minus_left}
use Rattle.negation_witness.specs.Working.{view_of, tasks_of, task_of, looked_at, told, tells, tests_of, visits_of, under_of, left_of, place_left, place_at, RowWork}
use Rattle.negation_witness.specs.declared.places.Test.{Test}
use Rattle.negation_witness.specs.declared.places.TestPlace.{TestPlace}
use Rattle.negation_witness.specs.declared.subtracting.MinusStep.{MinusStep}
use Rattle.negation_witness.specs.declared.subtracting.Operand.{Operand}
use Rattle.negation_witness.specs.declared.subtracting.Operand.TheVariants.{Joined, Inner, Before, After}

-- ---- walks

pub walk_is : (o : Option RowsFrom) (rows : List Row) → MatchOption o (rows ≡ []) (λ w. rows_left w ≡ rows) → rows_or_none o ≡ rows
walk_is None rows e = sym e
walk_is (Some w) rows e = e

-- ---- the joined rows of a changed row

module _ (m : MinusStep) (end : ℕ) where
  -- one is visited
  pub row_tested : (a : At) (rows behind : List Row) (row : Row) (p q : Sign → Row → ℕ) (all u : ℕ)
      → Made a (at_left (tests_of m end rows) p) all u → 0 < u → rows ≡ row ∷ behind
      → ((s : Sign) (r : Row) → q s r ≡ p s r + tally s r (tells m end row ∷ []))
      → Made a (at_left (tests_of m end behind) q) all (u - 1)
  unfolding tests_of
  row_tested a rows behind row p q all u h z e n =
      made_more a (at_left (map (tells m end) rows) p) (at_left (map (tells m end) behind) q) all u (u - 1) h
      (made_one (at_left (map (tells m end) rows) p) (at_left (map (tells m end) behind) q) (tells m end row) u (u - 1)
      (ap (map (tells m end)) e) (omega arith) n)

  -- all are
  pub rows_over : (a : At) (rows : List Row) (p : Sign → Row → ℕ) (all u : ℕ)
      → Made a (at_left (tests_of m end rows) p) all u → rows ≡ [] → Made a (at_left [] p) all u
  unfolding tests_of
  rows_over a rows p all u h e = subst (λ xs. Made a (at_left (map (tells m end) xs) p) all u) e h

  module _ (o : Option Test) (rows : List Row)
      (e : MatchOption o (rows ≡ []) (λ u. (u.end ≡ end) × (rest m.goals.now u.cursor ≡ rows) × (rows ≡ [] → ⊥))) where
    pub under_is : under_of m o ≡ tests_of m end rows
    unfolding tests_of
    under_is = at o e
      where
        at : (o : Option Test) → MatchOption o (rows ≡ []) (λ u. (u.end ≡ end) × (rest m.goals.now u.cursor ≡ rows) × (rows ≡ [] → ⊥))
            → under_of m o ≡ tests_of m end rows
        at None f = ap (map (tells m end)) (sym f)
        at (Some u) f = ap (λ k. map (tells m k) (rest m.goals.now u.cursor)) f.0 ∙ ap (map (tells m end)) f.1

    pub under_stops : StopsAt 0 o (under_of m o)
    unfolding tests_of
    under_stops = at o e under_is
      where
        at : (o : Option Test) → MatchOption o (rows ≡ []) (λ u. (u.end ≡ end) × (rest m.goals.now u.cursor ≡ rows) × (rows ≡ [] → ⊥))
            → under_of m o ≡ tests_of m end rows → StopsAt 0 o (under_of m o)
        at None f g = tt
        at (Some u) f g = (refl, λ n. f.2 (nil_of_map (tells m end) rows (sym g ∙ n)))

    pub under_made : (a : At) (p : Sign → Row → ℕ) (all u : ℕ) → Made a (at_left (tests_of m end rows) p) all u
        → Made a (at_left (under_of m o) p) all u
    under_made a p all u h = subst (λ xs. Made a (at_left xs p) all u) (sym under_is) h

module _ (m : MinusStep) (at : ℕ) (under : List Visit) (o : Option Test) (p q : Sign → Row → ℕ) (units rest : ℕ)
    (h : Made (at_left under p) (at_left (under_of m o) q) units rest) where
  -- the row under way stops
  pub stops_here : is_some o ≡ true → StopsAt rest o (under_of m o)
      → Made (at_left (left_of m at under) p) (at_left (left_of m at (under_of m o)) q) units 0 × (left_of m at (under_of m o) ≡ [] → ⊥)
  stops_here e s = by o e h s
    where
      by : (o : Option Test) → is_some o ≡ true → Made (at_left under p) (at_left (under_of m o) q) units rest
          → StopsAt rest o (under_of m o)
          → Made (at_left (left_of m at under) p) (at_left (left_of m at (under_of m o)) q) units 0 × (left_of m at (under_of m o) ≡ [] → ⊥)
      by None e h s = absurd (true≢false (sym e))
      by (Some u) e h s = row_stops (visits_of m) (tasks_of m) at under (under_of m (Some u)) p q units rest h s.0 s.1

  -- or comes to its end
  pub ends_here : is_some o ≡ false
      → Made (at_left (left_of m at under) p) (at_left (left_of m at (under_of m o)) q) units rest × (o ≡ None)
  ends_here e = by o e h
    where
      by : (o : Option Test) → is_some o ≡ false → Made (at_left under p) (at_left (under_of m o) q) units rest
          → Made (at_left (left_of m at under) p) (at_left (left_of m at (under_of m o)) q) units rest × (o ≡ None)
      by None e h = (row_ends (visits_of m) (tasks_of m) at under p q units rest h, refl)
      by (Some u) e h = absurd (true≢false e)

-- ---- places

module _ (m : MinusStep) where
  pub no_row : (place : TestPlace) (p : Pending) (units : ℕ) → place.under ≡ None
      → RowWork m place.at (under_of m place.under) place p p units (Some units)
  no_row place p units e = (made_none (place_at m place p) units, e, refl)

  -- no row is left
  pub none_now : (place : TestPlace) → place.under ≡ None → drop place.at (tasks_of m) ≡ [] → place_left m place ≡ []
  none_now place e d = ap (λ o. left_of m place.at (under_of m o)) e ∙ none_left (visits_of m) (tasks_of m) place.at d

  -- a row that isn't begun has its own visit
  own_visit : (t : TestTask) → visits_of m t ≡ own_test (view_of m) t ∷ map (test (view_of m) t.row) (tested_rows (view_of m) t)
  unfolding visits_of
  own_visit t = refl

  pub some_now : (place : TestPlace) (t : TestTask) (ts : List TestTask) → place.under ≡ None → drop place.at (tasks_of m) ≡ t ∷ ts
      → place_left m place ≡ [] → ⊥
  some_now place t ts e d n = task_left (visits_of m) (tasks_of m) place.at t ts d (own_test (view_of m) t)
      (map (test (view_of m) t.row) (tested_rows (view_of m) t)) (own_visit t)
      (sym (ap (λ o. left_of m place.at (under_of m o)) e) ∙ n)

  pub begins : (o : Operand) (d : SignedRow) (rows : List Row) → rows ≡ looked_at m o d.row
      → visits_of m (task_of (view_of m) o d) ≡ own_test (view_of m) (task_of (view_of m) o d) ∷ tests_of m d.row.span.end rows
  unfolding visits_of tests_of looked_at told
  begins Joined d rows e = ap (λ xs. own_test (view_of m) (joined_task d) ∷ map (test (view_of m) d.row) xs) (sym e)
  begins Inner d rows e = ap (λ xs. own_test (view_of m) (inner_task (view_of m) d) ∷ map (test (view_of m) d.row) xs) (sym e)
  begins Before d rows e = ap (λ xs. own_test (view_of m) (before_task (view_of m) d) ∷ map (test (view_of m) d.row) xs) (sym e)
  begins After d rows e = ap (λ xs. own_test (view_of m) (after_task (view_of m) d) ∷ map (test (view_of m) d.row) xs) (sym e)

  -- a row is begun
  pub row_begun : (place : TestPlace) (p q : Sign → Row → ℕ) (t : TestTask) (v : Visit) (under : List Visit) → place.under ≡ None
      → drop place.at (tasks_of m) ≡ t ∷ drop (place.at + 1) (tasks_of m) → visits_of m t ≡ v ∷ under
      → ((s : Sign) (r : Row) → q s r ≡ p s r + tally s r (v ∷ []))
      → Made (at_left (place_left m place) p) (at_left (left_of m (place.at + 1) under) q) 1 0
  row_begun place p q t v under e d own h =
      subst (λ o. Made (at_left (left_of m place.at (under_of m o)) p) (at_left (left_of m (place.at + 1) under) q) 1 0) (sym e)
      (task_begun (visits_of m) (tasks_of m) place.at t (drop (place.at + 1) (tasks_of m)) d v under p q own refl h)

  -- nothing is done
  pub stays : (a : At) (old new : TestPlace) (p q : Pending) (all u v : ℕ) → Made a (place_at m old p) all u → new ≡ old → q ≡ p → u ≡ v
      → Made a (place_at m new q) all v
  stays a old new p q all u v h e f g =
      subst (λ k. Made a (place_at m new q) all k) g (subst (λ x. Made a (place_at m new x) all u) (sym f)
      (subst (λ x. Made a (place_at m x p) all u) (sym e) h))

  pub still : (old new : TestPlace) → new ≡ old → (place_left m old ≡ [] → ⊥) → place_left m new ≡ [] → ⊥
  still old new e h n = h (ap (place_left m) (sym e) ∙ n)

-- a row is begun, and then its joined rows are visited
pub row_made : (a b c d : At) (all u rest : ℕ) → Made a b all u → 0 < u → Made b c 1 0 → Made c d (u - 1) rest → Made a d all rest
row_made a b c d all u rest h z e f = made_more a c d all (u - 1) rest (one_more a b c all u h z e) f

pub drop_lt : {X : Type 0} (xs : List X) (i : ℕ) (x : X) (ys : List X) → drop i xs ≡ x ∷ ys → i < length xs
drop_lt [] i x ys e = let k : [] ≡ x ∷ ys = sym (drop-nil i) ∙ e in absurd (cc)
drop_lt (y ∷ xs) zero x ys e = omega arith
drop_lt (y ∷ xs) (suc i) x ys e = let k = drop_lt xs i x ys e in omega (arith, k)

-- ---- the whole work

pub works_more : (a b c : At) (units rest : ℕ) (r : Option ℕ) → Made a b units rest → WorksOn b c rest r → WorksOn a c units r
works_more a b c units rest None m w = (made_more a b c units rest 0 m w.0, w.1)
works_more a b c units rest (Some k) m w = (made_more a b c units rest k m w.0, w.1)

abbrev pub left_at : MinusStep → TestPlace → List Visit
left_at m place = minus_left m.goals.now m.way m.joined.now m.inner.now m.before.now m.after.now place

left_same : (m : MinusStep) (place : TestPlace) → left_at m place ≡ place_left m place
unfolding minus_left visits_of tests_of told
left_same m place = at place.under
  where
    at : (o : Option Test) → under_left m.goals.now m.way o ++ flat_map (tests_at (view_of m)) (drop place.at (tasks_of m))
        ≡ under_of m o ++ flat_map (tests_at (view_of m)) (drop place.at (tasks_of m))
    at None = refl
    at (Some u) = refl

pub works_same : (m : MinusStep) (old new : TestPlace) (p q : Pending) (units : ℕ) (r : Option ℕ)
    → WorksOn (place_at m old p) (place_at m new q) units r
    → WorksOn (at_left (left_at m old) (noted p)) (at_left (left_at m new) (noted q)) units r
works_same m old new p q units r h =
    subst (λ xs. WorksOn (at_left xs (noted p)) (at_left (left_at m new) (noted q)) units r) (sym (left_same m old))
    (subst (λ xs. WorksOn (at_left (place_left m old) (noted p)) (at_left xs (noted q)) units r) (sym (left_same m new)) h)

pub if_ok : {X E : Type 0} (r : Result X E) (P Q : X → Type 0) → ((x : X) → P x → Q x) → IfOk r P → IfOk r Q
if_ok (Ok x) P Q f p = f x p
if_ok (Err e) P Q f p = tt
