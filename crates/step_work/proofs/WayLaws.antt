-- How steps work, from the indexes of a plan and of a store.
use Rattle.std.proofs.Common.{◌≡◌, refl, ap, sym, ◌∙◌, subst, inl, inr, ◌⊎◌, ℕ, zero, suc, ◌+◌, ◌<◌, ◌≤◌, Option, Some, unwrap_or, option_map, get_or, drop, List, [], ◌∷◌, ◌++◌, map, length, slice_get, append_assoc, length-append, arith}
use mathlib.Core.Logic.{∥∥₁_elim}
use Rattle.std.specs.List.{flat_map}
use Rattle.std.proofs.lemmas.List.{drop_more}
use Rattle.std.specs.Coded.{Coded, Coded-set, coded_option, coded_list, coded_ℕ, coded×, code_by}
use Rattle.std.proofs.lemmas.Option.{none-some, same_Some, slice_get-map, slice_get_read}
use Rattle.std.specs.declared.alloc.Global.{Global}
use Rattle.std.specs.declared.vec.Vec.{Vec}
use Rattle.event_model.specs.contracts.operators.Edge as edge
use Rattle.event_model.specs.declared.operators.Edge.{Edge}
use Rattle.event_model.specs.declared.operators.Edge.TheVariants.{Start, End}
use Rattle.event_model.specs.declared.operators.Op.{Op}
use Rattle.event_changes.specs.declared.changes.Sign.{Sign}
use Rattle.event_changes.specs.declared.events.EventChange.{EventChange}
use Rattle.interval_ops.specs.declared.ranges.Side.TheVariants.{Left, Right}
use Rattle.ev_bind.specs.declared.rows.Row.{Row}
use Rattle.rule_ast.specs.declared.plans.Step.{Step}
use Rattle.rule_ast.specs.PlainPlans.{PlainIndex, PlainStep, plain_step, Named, Leaf, Join, Either, Where, Exact, Within, Minus, Head}
use Rattle.step_meaning.specs.PlanOf.{each_once, index, partner_edge, slots_in, step_indexes}
use Rattle.change_meaning.specs.JoinVisits.{join_visits}
use Rattle.change_meaning.specs.Keys.{join_key}
use Rattle.change_meaning.specs.MinusVisits.{minus_visits}
use Rattle.goal_store.specs.Goals.{indexes_of, seen}
use Rattle.goal_store.specs.declared.kept.GoalStore.{GoalStore}
use Rattle.goal_store.specs.declared.marks.When.TheVariants.{Before, After}
use Rattle.step_changes.specs.Deltas.{plain_deltas}
use Rattle.step_changes.specs.Indexed.{index_at, index_of}
use Rattle.step_changes.specs.Tasks.{at_left, WorksOn}
use Rattle.step_changes.specs.declared.deltas.Delta.{Delta}
use Rattle.match_step.specs.Joining.{IsWay, view_of, join_left}
use Rattle.match_step.specs.declared.joining.Place.{Place}
use Rattle.match_step.specs.declared.ways.JoinWay.{JoinWay}
use Rattle.negation_witness.specs.Testing.{minus_left}
use Rattle.negation_witness.specs.Ways.{IsMinusWay, minus_view}
use Rattle.negation_witness.specs.declared.places.TestPlace.{TestPlace}
use Rattle.negation_witness.specs.declared.ways.MinusWay.{MinusWay}
use Rattle.step_work.specs.Asked.{in_place}
use Rattle.step_work.specs.Stepping.{StepWork}
use Rattle.step_work.specs.Views.{View, seen_join, seen_minus, seen_visits}
use Rattle.step_work.specs.Seen.{changed_rows, join_from, minus_from, view_in, joins_left, tests_left, left_of}
use Rattle.step_work.specs.Ways.{IsJoinWay, IsMinusOf, IsByJoin, IsByMinus, IsWayOf}
use Rattle.step_work.specs.declared.spots.Spot.{Spot}
use Rattle.step_work.specs.declared.ways.StepWay.{StepWay}
use Rattle.step_work.specs.declared.ways.StepWay.TheVariants as by

-- ---- the ways of a plan

last_or : (ways : List StepWay) (w : StepWay) (i : ℕ) (v : StepWay) → slice_get (ways ++ w ∷ []) i ≡ Some v
    → (slice_get ways i ≡ Some v) ⊎ ((i ≡ length ways) × (w ≡ v))
last_or [] w zero v e = inr (refl, same_Some w v e)
last_or [] w (suc i) v e = absurd (none-some v e)
last_or (x ∷ ways) w zero v e = inl e
last_or (x ∷ ways) w (suc i) v e = at (last_or ways w i v e)
  where
    at : (slice_get ways i ≡ Some v) ⊎ ((i ≡ length ways) × (w ≡ v)) → (slice_get ways i ≡ Some v) ⊎ ((suc i ≡ length (x ∷ ways)) × (w ≡ v))
    at (inl h) = inl h
    at (inr h) = let e = h.0 in inr (omega (arith, e), h.1)

-- one way more
pub ways_more : (P : ℕ → PlainStep → StepWay → Type 0) (steps : List PlainStep) (ways : List StepWay) (w : StepWay) (n : ℕ) (x : PlainStep)
    → n ≡ length ways → slice_get steps n ≡ Some x → P n x w
    → ((i : ℕ) (s : PlainStep) (v : StepWay) → slice_get steps i ≡ Some s → slice_get ways i ≡ Some v → P i s v)
    → (i : ℕ) (s : PlainStep) (v : StepWay) → slice_get steps i ≡ Some s → slice_get (ways ++ w ∷ []) i ≡ Some v → P i s v
ways_more P steps ways w n x long there p old i s v a b = at (last_or ways w i v b)
  where
    at : (slice_get ways i ≡ Some v) ⊎ ((i ≡ length ways) × (w ≡ v)) → P i s v
    at (inl h) = old i s v a h
    at (inr h) =
        let here : n ≡ i = long ∙ sym h.0 in
        let same : x ≡ s = same_Some x s (sym there ∙ ap (slice_get steps) here ∙ a) in
        subst (λ z. P i s z) h.1 (subst (λ z. P i z w) same (subst (λ k. P k x w) here p))

-- ---- the indexes of a store

plain_code : Coded PlainIndex
plain_code = code_by (ℕ × (List ℕ × Edge)) (coded× coded_ℕ (coded× (coded_list coded_ℕ) edge.the_row.coded))
    (λ x. (x.of, (x.key, x.edge))) (λ t. record { of = t.0; key = t.1.0; edge = t.1.1 }) (λ _. refl)

-- where there is an index, it is the one of its number
module _ (goals : GoalStore) (n : ℕ) (x : PlainIndex) (h : index_at goals n ≡ Some x) where
  index_is : index_of goals n ≡ x
  index_is = ap (λ o. unwrap_or o (record { of = 0; key = []; edge = Start })) h

  index_there : index_at goals n ≡ Some (index_of goals n)
  index_there = h ∙ ap Some (sym index_is)

module _ (goals : GoalStore) (most : Option ℕ) (slots : ℕ → List ℕ) (o : Op) (l r : ℕ) (w : JoinWay)
    (h : IsJoinWay (indexes_of goals) most slots o l r w) where
  left_is : index_of goals w.lefts ≡ index l (join_key slots l r) (partner_edge o Right)
  left_is = index_is goals w.lefts _ h.lefts

  right_is : index_of goals w.rights ≡ index r (join_key slots l r) (partner_edge o Left)
  right_is = index_is goals w.rights _ h.rights

  pub join_way_is : IsWay goals w
  join_way_is = record {
    left_there = index_there goals w.lefts _ h.lefts;
    right_there = index_there goals w.rights _ h.rights;
    left_edge = ap (λ x. x.edge) left_is ∙ ap (λ z. partner_edge z Right) (sym h.op);
    right_edge = ap (λ x. x.edge) right_is ∙ ap (λ z. partner_edge z Left) (sym h.op);
    same_key = ap (λ x. x.key) right_is ∙ sym (ap (λ x. x.key) left_is);
  }

  pub join_view_is : (count : ℕ → Row → ℕ) (changed : List (Vec Delta Global))
      → view_of goals w ≡ seen_join most slots (view_in goals count changed) o l r
  join_view_is count changed = λ i. record {
    op = h.op i;
    cap = h.cap i;
    key = (left_is i).key;
    lefts = seen goals (left_is i).of Before;
    rights = seen goals (right_is i).of After;
  }

module _ (goals : GoalStore) (most : Option ℕ) (slots : ℕ → List ℕ) (j f i l : ℕ) (w : MinusWay)
    (h : IsMinusOf (indexes_of goals) most slots j f i l w) where
  joined_inner_is : index_of goals w.joined_inner ≡ index j (slots i) Start
  joined_inner_is = index_is goals w.joined_inner _ h.joined_inner

  joined_before_is : index_of goals w.joined_before ≡ index j (slots f) Start
  joined_before_is = index_is goals w.joined_before _ h.joined_before

  joined_after_is : index_of goals w.joined_after ≡ index j (slots l) End
  joined_after_is = index_is goals w.joined_after _ h.joined_after

  before_is : index_of goals w.before ≡ index f (slots f) Start
  before_is = index_is goals w.before _ h.before

  inner_is : index_of goals w.inner ≡ index i (slots i) Start
  inner_is = index_is goals w.inner _ h.inner

  after_is : index_of goals w.after ≡ index l (slots l) End
  after_is = index_is goals w.after _ h.after

  pub minus_way_is : IsMinusWay goals w
  minus_way_is = record {
    joined_before_there = index_there goals w.joined_before _ h.joined_before;
    joined_inner_there = index_there goals w.joined_inner _ h.joined_inner;
    joined_after_there = index_there goals w.joined_after _ h.joined_after;
    before_there = index_there goals w.before _ h.before;
    inner_there = index_there goals w.inner _ h.inner;
    after_there = index_there goals w.after _ h.after;
    joined_before_edge = ap (λ x. x.edge) joined_before_is;
    joined_inner_edge = ap (λ x. x.edge) joined_inner_is;
    joined_after_edge = ap (λ x. x.edge) joined_after_is;
    before_edge = ap (λ x. x.edge) before_is;
    inner_edge = ap (λ x. x.edge) inner_is;
    after_edge = ap (λ x. x.edge) after_is;
    joined_inner_of = ap (λ x. x.of) joined_inner_is ∙ sym (ap (λ x. x.of) joined_before_is);
    joined_after_of = ap (λ x. x.of) joined_after_is ∙ sym (ap (λ x. x.of) joined_before_is);
    before_key = ap (λ x. x.key) joined_before_is ∙ sym (ap (λ x. x.key) before_is);
    inner_key = ap (λ x. x.key) joined_inner_is ∙ sym (ap (λ x. x.key) inner_is);
    after_key = ap (λ x. x.key) joined_after_is ∙ sym (ap (λ x. x.key) after_is);
  }

  pub minus_view_is : (count : ℕ → Row → ℕ) (changed : List (Vec Delta Global))
      → minus_view goals w ≡ seen_minus most slots (view_in goals count changed) j f i l
  minus_view_is count changed = λ k. record {
    cap = h.cap k;
    joined = seen goals (joined_before_is k).of After;
    before = seen goals (before_is k).of After;
    inner = seen goals (inner_is k).of After;
    after = seen goals (after_is k).of After;
    before_key = (before_is k).key;
    inner_key = (inner_is k).key;
    after_key = (after_is k).key;
  }

-- ---- that a way is good for a store is a proposition

module _ (goals : GoalStore) where
  at_set : {a b : Option PlainIndex} (x y : a ≡ b) → x ≡ y
  at_set {a} {b} x y = Coded-set (coded_option plain_code) a b x y

  edge_set : {a b : Edge} (x y : a ≡ b) → x ≡ y
  edge_set {a} {b} x y = Coded-set edge.the_row.coded a b x y

  key_set : {a b : List ℕ} (x y : a ≡ b) → x ≡ y
  key_set {a} {b} x y = Coded-set (coded_list coded_ℕ) a b x y

  of_set : {a b : ℕ} (x y : a ≡ b) → x ≡ y
  of_set {a} {b} x y = Coded-set coded_ℕ a b x y

  pub way_prop : (w : JoinWay) → IsProp (IsWay goals w)
  way_prop w x y = λ i. record {
    left_there = at_set x.left_there y.left_there i;
    right_there = at_set x.right_there y.right_there i;
    left_edge = edge_set x.left_edge y.left_edge i;
    right_edge = edge_set x.right_edge y.right_edge i;
    same_key = key_set x.same_key y.same_key i;
  }

  pub minus_way_prop : (w : MinusWay) → IsProp (IsMinusWay goals w)
  minus_way_prop w x y = λ i. record {
    joined_before_there = at_set x.joined_before_there y.joined_before_there i;
    joined_inner_there = at_set x.joined_inner_there y.joined_inner_there i;
    joined_after_there = at_set x.joined_after_there y.joined_after_there i;
    before_there = at_set x.before_there y.before_there i;
    inner_there = at_set x.inner_there y.inner_there i;
    after_there = at_set x.after_there y.after_there i;
    joined_before_edge = edge_set x.joined_before_edge y.joined_before_edge i;
    joined_inner_edge = edge_set x.joined_inner_edge y.joined_inner_edge i;
    joined_after_edge = edge_set x.joined_after_edge y.joined_after_edge i;
    before_edge = edge_set x.before_edge y.before_edge i;
    inner_edge = edge_set x.inner_edge y.inner_edge i;
    after_edge = edge_set x.after_edge y.after_edge i;
    joined_inner_of = of_set x.joined_inner_of y.joined_inner_of i;
    joined_after_of = of_set x.joined_after_of y.joined_after_of i;
    before_key = key_set x.before_key y.before_key i;
    inner_key = key_set x.inner_key y.inner_key i;
    after_key = key_set x.after_key y.after_key i;
  }

  pub none_prop : IsProp ⊥
  none_prop x y = absurd x

-- ---- the visits at a start

pub start_left : (goals : GoalStore) (changed : List (Vec Delta Global)) (count : ℕ → Row → ℕ) (indexes : List PlainIndex) (cap : Option ℕ)
    (slots : ℕ → List ℕ) (s : PlainStep) (way : StepWay) (spot : Spot)
    → ((w : JoinWay) (lefts rights : List Delta)
    → join_left goals w lefts rights spot.join ≡ join_visits (view_of goals w) (plain_deltas lefts) (plain_deltas rights))
    → ((w : MinusWay) (joined inner before after : List Delta) → minus_left goals w joined inner before after spot.tests
    ≡ minus_visits (minus_view goals w) (plain_deltas joined) (plain_deltas inner) (plain_deltas before) (plain_deltas after))
    → indexes_of goals ≡ indexes → IsWayOf indexes cap slots s way
    → left_of goals changed s way spot ≡ seen_visits cap slots s (view_in goals count changed)
unfolding left_of
start_left goals changed count indexes cap slots (Named n heads) way spot joins tests e h = refl
start_left goals changed count indexes cap slots (Leaf of p) way spot joins tests e h = refl
start_left goals changed count indexes cap slots (Join op l r) way spot joins tests e h = at way h
  where
    at : (v : StepWay) → IsByJoin indexes cap slots op l r v
        → joins_left goals changed l r v spot ≡ seen_visits cap slots (Join op l r) (view_in goals count changed)
    at by.Plain g = absurd g
    at (by.Join w) g = joins w (changed_rows changed l) (changed_rows changed r)
        ∙ ap (λ v. join_visits v (plain_deltas (changed_rows changed l)) (plain_deltas (changed_rows changed r)))
        (join_view_is goals cap slots op l r w (subst (λ xs. IsJoinWay xs cap slots op l r w) (sym e) g) count changed)
    at (by.Minus w) g = absurd g
start_left goals changed count indexes cap slots (Either l r) way spot joins tests e h = refl
start_left goals changed count indexes cap slots (Where of t) way spot joins tests e h = refl
start_left goals changed count indexes cap slots (Exact of q) way spot joins tests e h = refl
start_left goals changed count indexes cap slots (Within of q) way spot joins tests e h = refl
start_left goals changed count indexes cap slots (Minus j f i l) way spot joins tests e h = at way h
  where
    at : (v : StepWay) → IsByMinus indexes cap slots j f i l v
        → tests_left goals changed j f i l v spot ≡ seen_visits cap slots (Minus j f i l) (view_in goals count changed)
    at by.Plain g = absurd g
    at (by.Join w) g = absurd g
    at (by.Minus w) g = tests w (changed_rows changed j) (changed_rows changed i) (changed_rows changed f) (changed_rows changed l)
        ∙ ap (λ v. minus_visits v (plain_deltas (changed_rows changed j)) (plain_deltas (changed_rows changed i))
        (plain_deltas (changed_rows changed f)) (plain_deltas (changed_rows changed l)))
        (minus_view_is goals cap slots j f i l w (subst (λ xs. IsMinusOf xs cap slots j f i l w) (sym e) g) count changed)
start_left goals changed count indexes cap slots (Head of head) way spot joins tests e h = refl

-- ---- a step of a plan

-- its way, in the words of the whole plan
pub way_here : (whole before after : List PlainIndex) (slots to : List (List ℕ)) (cap most : Option ℕ) (s : PlainStep) (w : StepWay)
    → slots ≡ to → cap ≡ most → whole ≡ in_place before [] (step_indexes (slots_in to) s) after
    → IsWayOf (in_place before [] (step_indexes (slots_in slots) s) after) cap (slots_in slots) s w → IsWayOf whole most (slots_in to) s w
way_here whole before after slots to cap most s w e d h g =
    subst (λ x. IsWayOf x most (slots_in to) s w) (sym h)
    (subst (λ x. IsWayOf (in_place before [] (step_indexes (slots_in to) s) after) x (slots_in to) s w) d
    (subst (λ t. IsWayOf (in_place before [] (step_indexes (slots_in t) s) after) cap (slots_in t) s w) e g))

-- the indexes of the steps from one on: those of this one, and those of the others
module _ (steps : List Step) (whole : List PlainIndex) (i : ℕ) (x : Step) (h : i < length steps) (is : x ≡ get_or steps i x)
    (slots : ℕ → List ℕ) where
  abbrev pub own : PlainStep → List PlainIndex
  own s = each_once (step_indexes slots s)

  abbrev pub later : List PlainIndex
  later = flat_map own (map plain_step (drop (i + 1) steps))

  pub opened : (before : List PlainIndex) → whole ≡ before ++ flat_map own (map plain_step (drop i steps))
      → whole ≡ before ++ (own (plain_step x) ++ later)
  opened before e = e ∙ ap (λ l. before ++ flat_map own (map plain_step l)) (drop_more steps i x h)
      ∙ ap (λ y. before ++ (own (plain_step y) ++ later)) (sym is)

  pub here : slice_get (map plain_step steps) i ≡ Some (plain_step x)
  here = slice_get-map plain_step steps i ∙ ap (option_map plain_step) (slice_get_read steps (length steps) i x refl h is)

  pub number_fits : (before : List PlainIndex) → whole ≡ before ++ flat_map own (map plain_step (drop i steps)) → (first number : ℕ)
      → length before ≡ first → number ≡ length (own (plain_step x)) → first + number ≤ length whole
  number_fits before e first number long is =
      let a : length whole ≡ length (before ++ (own (plain_step x) ++ later)) = ap length (opened before e) in
      let b = length-append before (own (plain_step x) ++ later) in
      let c = length-append (own (plain_step x)) later in omega (arith, a, b, c, long, is)

  -- the indexes of the steps behind it
  pub place_more : (before : List PlainIndex) → whole ≡ before ++ flat_map own (map plain_step (drop i steps)) → (first number : ℕ)
      → length before ≡ first → number ≡ length (own (plain_step x))
      → (more : List PlainIndex) × (length more ≡ first + number) × (whole ≡ more ++ later)
  place_more before e first number long is = (
    before ++ own (plain_step x),
    (let a = length-append before (own (plain_step x)) in omega (arith, a, long, is)),
    opened before e ∙ sym (append_assoc before (own (plain_step x)) later),
  )

-- ---- the work on a step

module _ (goals : GoalStore) (cap : Option ℕ) (s : PlainStep) (way : StepWay) where
  abbrev pub IsGood : Type 0
  IsGood = ∥ ((slots : ℕ → List ℕ) × IsWayOf (indexes_of goals) cap slots s way) ∥₁

  same_way : (t : PlainStep) (v : StepWay) (slots : ℕ → List ℕ) → s ≡ t → way ≡ v → IsWayOf (indexes_of goals) cap slots s way
      → IsWayOf (indexes_of goals) cap slots t v
  same_way t v slots e d h =
      subst (λ x. IsWayOf (indexes_of goals) cap slots t x) d (subst (λ x. IsWayOf (indexes_of goals) cap slots x way) e h)

  pub join_good : (o : Op) (l r : ℕ) (w : JoinWay) → s ≡ Join o l r → way ≡ by.Join w → IsGood → IsWay goals w
  join_good o l r w e d h = ∥∥₁_elim h (way_prop goals w)
      (λ p. join_way_is goals cap p.0 o l r w (same_way (Join o l r) (by.Join w) p.0 e d p.1))

  pub minus_good : (j f i l : ℕ) (w : MinusWay) → s ≡ Minus j f i l → way ≡ by.Minus w → IsGood → IsMinusWay goals w
  minus_good j f i l w e d h = ∥∥₁_elim h (minus_way_prop goals w)
      (λ p. minus_way_is goals cap p.0 j f i l w (same_way (Minus j f i l) (by.Minus w) p.0 e d p.1))

  -- no step has a way of another kind
  pub no_way : (t : PlainStep) (v : StepWay) → s ≡ t → way ≡ v
      → ((slots : ℕ → List ℕ) → IsWayOf (indexes_of goals) cap slots t v → ⊥) → IsGood → ⊥
  no_way t v e d n h = ∥∥₁_elim h (none_prop goals) (λ p. n p.0 (same_way t v p.0 e d p.1))

  module _ (changed : List (Vec Delta Global)) (slots : ℕ → List ℕ) (v : View) (es : List EventChange) (spot : Spot)
      (n m : Sign → Row → ℕ) (units : ℕ) (result : Option ℕ) where
    pub join_stepped : (o : Op) (l r : ℕ) (w : JoinWay) (q : Place) → s ≡ Join o l r → way ≡ by.Join w
        → WorksOn (at_left (join_from goals changed l r w spot.join) n) (at_left (join_from goals changed l r w q) m) units result
        → StepWork cap slots s v es (at_left (left_of goals changed s way spot) n)
        (at_left (left_of goals changed s way (record { join = q; tests = spot.tests })) m) units result
    unfolding left_of
    join_stepped o l r w q e d h =
        subst (λ t. StepWork cap slots t v es (at_left (left_of goals changed t way spot) n)
        (at_left (left_of goals changed t way (record { join = q; tests = spot.tests })) m) units result) (sym e)
        (subst (λ x. WorksOn (at_left (left_of goals changed (Join o l r) x spot) n)
        (at_left (left_of goals changed (Join o l r) x (record { join = q; tests = spot.tests })) m) units result) (sym d) h)

    pub minus_stepped : (j f i l : ℕ) (w : MinusWay) (q : TestPlace) → s ≡ Minus j f i l → way ≡ by.Minus w
        → WorksOn (at_left (minus_from goals changed j f i l w spot.tests) n) (at_left (minus_from goals changed j f i l w q) m)
        units result
        → StepWork cap slots s v es (at_left (left_of goals changed s way spot) n)
        (at_left (left_of goals changed s way (record { join = spot.join; tests = q })) m) units result
    unfolding left_of
    minus_stepped j f i l w q e d h =
        subst (λ t. StepWork cap slots t v es (at_left (left_of goals changed t way spot) n)
        (at_left (left_of goals changed t way (record { join = spot.join; tests = q })) m) units result) (sym e)
        (subst (λ x. WorksOn (at_left (left_of goals changed (Minus j f i l) x spot) n)
        (at_left (left_of goals changed (Minus j f i l) x (record { join = spot.join; tests = q })) m) units result) (sym d) h)
