-- All visits of a join give what the join gets and loses, as far as it fits.
use Rattle.std.specs.Prelude.{ℕ, ◌≡◌, ◌+◌, refl, Bool, true, false, cond, ◌&&◌, if◌then◌else◌, Option, Some, None, List, [], ◌∷◌, ◌++◌, map}
use Rattle.std.specs.List.{filter, flat_map}
use Rattle.std.specs.Ordering.{is_eq}
use Rattle.std.proofs.Common.{ap, sym, ◌∙◌, arith}
use Rattle.std.proofs.lemmas.Bool.{true≢false, or_left, or_right}
use Rattle.std.proofs.lemmas.Grind.{flat_map-append}
use Rattle.ordered_lists.specs.Lists.{some_of, joins, total, total-append, total-filter, total-joins, Each}
use Rattle.ordered_lists.specs.Canon.{canon, has, Rising, Rising-filter, has-append}
use Rattle.event_model.specs.declared.operators.Op.{Op}
use Rattle.event_changes.specs.declared.changes.Sign.{Sign}
use Rattle.interval_ops.specs.Operators.{pairs, partner_range}
use Rattle.interval_ops.specs.Operators.{spanned as pair_span}
use Rattle.interval_ops.specs.declared.ranges.Side.{Side}
use Rattle.interval_ops.specs.declared.ranges.Side.TheVariants.{Left, Right}
use Rattle.ev_bind.specs.Bindings.{Pairs, pair_cmp, exact_pairs, single, IsBinding}
use Rattle.ev_bind.specs.Rows.{row_cmp, exact_rows}
use Rattle.ev_bind.specs.declared.rows.Row.{Row}
use Rattle.pattern_meaning.specs.PatternRows.{spanned}
use Rattle.pattern_meaning.specs.RuleRows.{joined}
use Rattle.step_meaning.specs.StepRows.{times}
use Rattle.row_changes.specs.Changes.{changed, signed_row, deltas}
use Rattle.row_changes.specs.Partners.{agree, is_listed}
use Rattle.row_changes.specs.Visits.{same_sign, hits, tally, signed}
use Rattle.change_meaning.specs.Caps.{fits, fitting}
use Rattle.change_meaning.specs.JoinVisits.{JoinView, JoinTask, join_task, across, partners, meeting, meeting_visit, visits_at, join_visits}
use Rattle.change_meaning.specs.Moved.{moved_of}
use Rattle.change_meaning.proofs.KeyLaws.{Binds, agree_in}
use Rattle.change_meaning.proofs.SpanLaws.{OnSpan, in_left_range, in_right_range}
use Rattle.change_meaning.proofs.Balance.{total-map}
use Rattle.change_meaning.proofs.Sums.{total_each, total_none, total_swap, exact_edge, total_reordered, sign_of, sum_moved, Each-changed, tally-append, tally-map, tally-flat_map, hits_fitting}

-- a row that can be looked for by the key
pub record IsFound (key : List ℕ) (r : Row) : Type 0 where
  pub span : OnSpan r
  pub binding : IsBinding r.binding
  pub bound : Binds key r.binding

among_left : (a b : Pairs) (q : _) → has pair_cmp q a ≡ true → has pair_cmp q (a ++ b) ≡ true
among_left a b q e = has-append exact_pairs q a b ∙ or_left (has pair_cmp q a) (has pair_cmp q b) e

among_right : (a b : Pairs) (q : _) → has pair_cmp q b ≡ true → has pair_cmp q (a ++ b) ≡ true
among_right a b q e = has-append exact_pairs q a b ∙ or_right (has pair_cmp q a) (has pair_cmp q b) e

module _ (op : Op) (key : List ℕ) (x y : Row) (fx : IsFound key x) (fy : IsFound key y) where
  abbrev all : Pairs
  all = x.binding ++ y.binding

  left_agree : single all ≡ true → agree key x.binding y.binding ≡ true
  left_agree one =
      agree_in key all one x.binding y.binding fx.binding fy.binding (among_left x.binding y.binding) (among_right x.binding y.binding)
      fx.bound fy.bound

  right_agree : single all ≡ true → agree key y.binding x.binding ≡ true
  right_agree one =
      agree_in key all one y.binding x.binding fy.binding fx.binding (among_right x.binding y.binding) (among_left x.binding y.binding)
      fy.bound fx.bound

  none_when : (b : Bool) → (pairs op x.span y.span ≡ true → single all ≡ true → b ≡ true) → b ≡ false → joined op x y ≡ None
  none_when b h e = at (pairs op x.span y.span) refl (single all) refl
    where
      at : (c : Bool) → pairs op x.span y.span ≡ c → (d : Bool) → single all ≡ d
          → spanned (cond c (Some (pair_span op x.span y.span)) None) (cond d (Some (canon pair_cmp all)) None) ≡ None
      at true p true q = absurd (true≢false (sym (h p q) ∙ e))
      at true p false q = refl
      at false p d q = refl

  -- a row that isn't looked at doesn't join
  pub no_right : is_listed key (partner_range op Left x.span) x.binding y ≡ false → joined op x y ≡ None
  no_right =
      none_when (is_listed key (partner_range op Left x.span) x.binding y)
      (λ p one i. left_agree one i && in_left_range op x.span y.span fx.span fy.span p i)

  pub no_left : is_listed key (partner_range op Right y.span) y.binding x ≡ false → joined op x y ≡ None
  no_left =
      none_when (is_listed key (partner_range op Right y.span) y.binding x)
      (λ p one i. right_agree one i && in_right_range op x.span y.span fx.span fy.span p i)

module _ (v : JoinView) (s : Sign) (r : Row) where
  -- what the partners of a row of a side give of r
  abbrev pub weight : Side → Row → Row → ℕ
  weight side x y = cond (fits v.cap r) (times r (some_of (meeting v.op side x y))) 0

  signed_total : (b : Bool) (f : Row → ℕ) (ys : List Row) → total (λ y. if b then f y else 0) ys ≡ (if b then total f ys else 0)
  signed_total true f ys = refl
  signed_total false f ys = total_none ys

  -- the visits of a row of a side, where what isn't looked at doesn't join
  at_row : (t : JoinTask) → Rising row_cmp (across v t.side) → Each (IsFound v.key) (across v t.side)
      → ((y : Row) → IsFound v.key y → is_listed v.key (partner_range v.op t.side t.row.span) t.row.binding y ≡ false
      → meeting v.op t.side t.row y ≡ None)
      → tally s r (visits_at v t) ≡ (if same_sign s t.sign then total (weight t.side t.row) (across v t.side) else 0)
  at_row t u found none =
      let range = partner_range v.op t.side t.row.span in
      let ys = across v t.side in
      let test = is_listed v.key range t.row.binding in
      let gives : Row → ℕ = λ y. hits s r (meeting_visit v t y) in
      let given : Row → ℕ = λ y. if same_sign s t.sign then weight t.side t.row y else 0 in
      let zero : 0 + tally s r (map (meeting_visit v t) (partners v t.side t.row)) ≡ tally s r (map (meeting_visit v t) (partners v t.side t.row)) =
      omega arith in
      zero
      ∙ tally-map s r (meeting_visit v t) (partners v t.side t.row)
      ∙ total_reordered exact_rows (exact_edge range.edge) gives (filter test ys) (Rising-filter exact_rows test ys u)
      ∙ total-filter gives test ys
      ∙ total_each (IsFound v.key) (λ y. cond (test y) (gives y) 0) given
      (λ y f. at y f (test y) refl ∙ hits_fitting s t.sign r v.cap (meeting v.op t.side t.row y)) ys found
      ∙ signed_total (same_sign s t.sign) (weight t.side t.row) ys
    where
      at : (y : Row) → IsFound v.key y → (b : Bool) → is_listed v.key (partner_range v.op t.side t.row.span) t.row.binding y ≡ b
          → cond b (hits s r (meeting_visit v t y)) 0 ≡ hits s r (meeting_visit v t y)
      at y f true e = refl
      at y f false e = ap (λ o. hits s r (signed t.sign (fitting v.cap o))) (sym (none y f e))

  -- and of all changed rows of a side
  of_side : (side : Side) (xs ys : List Row) → Rising row_cmp xs → Rising row_cmp ys → Each (IsFound v.key) xs → Each (IsFound v.key) ys
      → Rising row_cmp (across v side) → Each (IsFound v.key) (across v side)
      → ((x y : Row) → IsFound v.key x → IsFound v.key y → is_listed v.key (partner_range v.op side x.span) x.binding y ≡ false
      → meeting v.op side x y ≡ None)
      → tally s r (flat_map (visits_at v) (map (join_task side) (deltas xs ys)))
      ≡ total (λ x. total (weight side x) (across v side)) (moved_of s xs ys)
  of_side side xs ys u w fx fy uo fo none =
      let k : Row → ℕ = λ x. total (weight side x) (across v side) in
      tally-flat_map s r (visits_at v) (map (join_task side) (deltas xs ys))
      ∙ total-map (λ t. tally s r (visits_at v t)) (join_task side) (deltas xs ys)
      ∙ total-map (λ d. tally s r (visits_at v (join_task side d))) (signed_row ys) (changed xs ys)
      ∙ total_each (IsFound v.key) (λ x. tally s r (visits_at v (join_task side (signed_row ys x))))
      (λ x. if same_sign s (sign_of ys x) then k x else 0)
      (λ x f. at_row (join_task side (signed_row ys x)) uo fo (λ y g. none x y f g)) (changed xs ys)
      (Each-changed (IsFound v.key) xs ys fx fy)
      ∙ sum_moved s k xs ys u w

-- all visits of a join give what it gets and loses
pub join_gives : (s : Sign) (r : Row) (op : Op) (cap : Option ℕ) (key : List ℕ) (lb la rb ra : List Row)
    → Rising row_cmp lb → Rising row_cmp la → Rising row_cmp rb → Rising row_cmp ra
    → Each (IsFound key) lb → Each (IsFound key) la → Each (IsFound key) rb → Each (IsFound key) ra
    → tally s r (join_visits (record { op = op; cap = cap; key = key; lefts = lb; rights = ra }) (deltas lb la) (deltas rb ra))
    ≡ cond (fits cap r) (times r (joins (joined op) (moved_of s lb la) ra ++ joins (joined op) lb (moved_of s rb ra))) 0
join_gives s r op cap key lb la rb ra ulb ula urb ura flb fla frb fra =
    let v : JoinView = record { op = op; cap = cap; key = key; lefts = lb; rights = ra } in
    let j = joined op in
    let one : Row → ℕ = λ x. cond (is_eq (row_cmp r x)) 1 0 in
    let h : Row → Row → ℕ = λ x y. times r (some_of (j x y)) in
    let cl = moved_of s lb la in
    let cr = moved_of s rb ra in
    ap (tally s r) (flat_map-append (visits_at v) (map (join_task Left) (deltas lb la)) (map (join_task Right) (deltas rb ra)))
    ∙ tally-append s r (flat_map (visits_at v) (map (join_task Left) (deltas lb la)))
    (flat_map (visits_at v) (map (join_task Right) (deltas rb ra)))
    ∙ (λ i. of_side v s r Left lb la ulb ula flb fla ura fra (λ x y f g e. no_right op key x y f g e) i
    + of_side v s r Right rb ra urb ura frb fra ulb flb (λ y x f g e. no_left op key x y g f e) i)
    ∙ at (fits cap r) cl cr
  where
    at : (b : Bool) (cl cr : List Row)
        → total (λ x. total (λ y. cond b (times r (some_of (joined op x y))) 0) ra) cl
        + total (λ y. total (λ x. cond b (times r (some_of (joined op x y))) 0) lb) cr
        ≡ cond b (times r (joins (joined op) cl ra ++ joins (joined op) lb cr)) 0
    at true cl cr =
        let one : Row → ℕ = λ x. cond (is_eq (row_cmp r x)) 1 0 in
        omega (
          arith,
          total-append one (joins (joined op) cl ra) (joins (joined op) lb cr),
          total-joins (joined op) one cl ra,
          total-joins (joined op) one lb cr,
          total_swap (λ x y. times r (some_of (joined op x y))) lb cr,
        )
    at false cl cr =
        let left : total (λ x. total (λ (y : Row). 0) ra) cl ≡ 0 = zeros ra cl in
        let right : total (λ y. total (λ (x : Row). 0) lb) cr ≡ 0 = zeros lb cr in
        omega (arith, left, right)
      where
        zeros : (ys xs : List Row) → total (λ (x : Row). total (λ (y : Row). 0) ys) xs ≡ 0
        zeros ys [] = refl
        zeros ys (x ∷ xs) = omega (arith, total_none ys, zeros ys xs)
