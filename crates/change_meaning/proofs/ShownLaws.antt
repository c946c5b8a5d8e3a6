-- What the changed rows of the shown steps tell is what stands after and not before, and the other way round.
use Rattle.std.specs.Prelude.{ℕ, ◌≡◌, ◌-◌, ◌<◌, ◌==◌, refl, Bool, true, false, cond, not, ◌&&◌, ◌||◌, List, [], ◌∷◌, ◌++◌, map, length}
use Rattle.std.specs.List.{filter, flat_map, list_any}
use Rattle.std.specs.Ordering.{is_eq}
use Rattle.std.specs.Str.{bytes_eq}
use Rattle.std.specs.Cmp.{tied_itself}
use Rattle.std.proofs.Common.{ap, sym, ◌∙◌, arith}
use Rattle.std.proofs.lemmas.Bool.{true≢false, and_parts, eqb-true, eq-eqb, or_left, or_right}
use Rattle.std.proofs.lemmas.Bool.Decides.{nat_tests}
use Rattle.std.proofs.lemmas.Slice.Eq.{bytes_eq-Decides}
use Rattle.ordered_lists.specs.Lists.{Each}
use Rattle.ordered_lists.specs.Canon.{canon, has, Rising, Rising-canon, Rising-filter, has-canon, has-filter, canon_one}
use Rattle.ordered_lists.specs.Members.{without, has-without, list_any-flat_map, list_any-map, list_any_agree}
use Rattle.event_model.specs.EventOrder.{detection_cmp, exact_detections, name_cmp}
use Rattle.event_model.specs.declared.atoms.NameArity.{NameArity}
use Rattle.event_model.specs.declared.events.Detection.{Detection}
use Rattle.event_model.specs.declared.events.Event.{Event}
use Rattle.event_changes.specs.declared.changes.Sign.{Sign}
use Rattle.event_changes.specs.declared.changes.Sign.TheVariants.{Plus, Minus}
use Rattle.event_changes.specs.declared.events.EventChange.{EventChange}
use Rattle.ev_bind.specs.Bindings.{same_Bool}
use Rattle.ev_bind.specs.Projections.{tie}
use Rattle.ev_bind.specs.Rows.{row_cmp, exact_rows, same_rows}
use Rattle.ev_bind.specs.declared.rows.Row.{Row}
use Rattle.rule_ast.specs.PlainPlans.{PlainStep}
use Rattle.rule_ast.specs.Trees.{PlainStatement}
use Rattle.rule_check.specs.Cycles.{IsRanking, rank_of}
use Rattle.rule_check.specs.Names.{outputs}
use Rattle.rule_check.specs.Sound.{rules_of}
use Rattle.pattern_meaning.specs.Bound.{IsRowOfName}
use Rattle.pattern_meaning.specs.Depths.{ties_itself}
use Rattle.pattern_meaning.specs.Found.{found_row}
use Rattle.pattern_meaning.specs.PatternRows.{numbered, args_of, is_of}
use Rattle.pattern_meaning.specs.Replies.{change_between}
use Rattle.pattern_meaning.specs.RuleRows.{name_rows}
use Rattle.pattern_meaning.specs.Standing.{detection_of, standing}
use Rattle.pattern_meaning.proofs.BoundLaws.{names_bound}
use Rattle.pattern_meaning.proofs.FoundLaws.{args_of-found}
use Rattle.step_meaning.specs.NamedSteps.{placed_at, plan_lower, names_have_steps, outputs_in_plan}
use Rattle.step_meaning.specs.Operands.{AreLower}
use Rattle.step_meaning.specs.PastRows.{past_presence}
use Rattle.step_meaning.specs.PlanOf.{step_of, plan_steps, plan_of}
use Rattle.step_meaning.specs.StepRows.{step_at, step_rows, detections_of}
use Rattle.row_changes.specs.Changes.{changed, signed_row, deltas, delta_rows}
use Rattle.row_changes.specs.Kept.{within}
use Rattle.row_changes.specs.Visits.{same_sign}
use Rattle.change_meaning.specs.Caps.{PlainCaps, fits, is_late, keeps, kept_rows}
use Rattle.change_meaning.specs.Courses.{Course, course_of, changed_at}
use Rattle.change_meaning.specs.Moved.{moved_of, IsMoved}
use Rattle.change_meaning.specs.Shown.{signed_rows, shown_change, AreShownWhole}
use Rattle.change_meaning.proofs.ChainLaws.{any_each, any_and}
use Rattle.change_meaning.proofs.RowLaws.{rows_rise, kept_rise}
use Rattle.change_meaning.proofs.SpanLaws.{goes}
use Rattle.change_meaning.proofs.Sums.{sign_of, moved_sign, moved_rises, Each-moved}

-- ---- the changed rows of a sign

signed_back : (s : Sign) (ys rs : List Row) → signed_rows s (map (signed_row ys) rs) ≡ filter (λ r. same_sign s (sign_of ys r)) rs
signed_back s ys [] = refl
signed_back s ys (x ∷ rs) = at (same_sign s (sign_of ys x)) (signed_back s ys rs)
  where
    at : (b : Bool) → signed_rows s (map (signed_row ys) rs) ≡ filter (λ r. same_sign s (sign_of ys r)) rs
        → delta_rows (cond b (signed_row ys x ∷ filter (λ d. same_sign s d.sign) (map (signed_row ys) rs))
        (filter (λ d. same_sign s d.sign) (map (signed_row ys) rs)))
        ≡ cond b (x ∷ filter (λ r. same_sign s (sign_of ys r)) rs) (filter (λ r. same_sign s (sign_of ys r)) rs)
    at true i = ap (λ l. x ∷ l) i
    at false i = i

-- the changed rows with Plus are those that come, and those with Minus those that go
pub signed_moved : (s : Sign) (xs ys : List Row) → Rising row_cmp xs → Rising row_cmp ys → signed_rows s (deltas xs ys) ≡ moved_of s xs ys
signed_moved s xs ys u v = signed_back s ys (changed xs ys) ∙ moved_sign s xs ys u v

-- ---- kept rows

whole : (k : Bool) (x y : Bool) → x ≡ y → ((k && x) && not (k && y)) ≡ (x && not y)
whole true x y e = refl
whole false true true e = refl
whole false true false e = absurd (true≢false e)
whole false false y e = refl

-- a row of which one list fits
kept_only : (fit late reach x y : Bool) → (x ≡ true → fit ≡ true) → (late ≡ false → x ≡ y)
    → (((fit && (late || reach)) && x) && not ((fit && (late || reach)) && y)) ≡ (x && not y)
kept_only fit late reach false y f s = none (fit && (late || reach))
  where
    none : (k : Bool) → ((k && false) && not (k && y)) ≡ false
    none true = refl
    none false = refl
kept_only fit true reach true y f s = ap (λ t. ((t && true) && true) && not ((t && true) && y)) (f refl)
kept_only fit false reach true y f s = whole (fit && reach) true y (s refl)

module _ (steps : List PlainStep) (lower : AreLower steps) (caps : PlainCaps) (b : ℕ) (E F : List Event) (es : List EventChange)
    (mv : IsMoved b E F es) (i : ℕ)
    (old_fit : (r : Row) → has row_cmp r (step_rows steps i E) ≡ true → fits (caps.cap i) r ≡ true)
    (new_fit : (r : Row) → has row_cmp r (step_rows steps i F) ≡ true → fits (caps.cap i) r ≡ true) where
  same_early : (r : Row) → is_late b r ≡ false → has row_cmp r (step_rows steps i E) ≡ has row_cmp r (step_rows steps i F)
  same_early r e =
      let lt : r.span.end < b = grind (arith, nat_tests, e) in
      past_presence b E F (goes E mv.before_spans) (goes F mv.after_spans) mv.same_below r lt steps i

  -- of a step of which all rows fit, the kept rows change as all rows do
  pub moved_whole : (s : Sign) → moved_of s (kept_rows steps caps b E i) (kept_rows steps caps b F i)
      ≡ moved_of s (step_rows steps i E) (step_rows steps i F)
  moved_whole s =
      canon_one exact_rows _ _
      (moved_rises s (kept_rows steps caps b E i) (kept_rows steps caps b F i) (kept_rise steps lower E caps b i) (kept_rise steps lower F caps b i))
      (moved_rises s (step_rows steps i E) (step_rows steps i F) (rows_rise steps lower E i) (rows_rise steps lower F i)) (at s)
    where
      old : Row → Bool
      old r = has row_cmp r (step_rows steps i E)

      kept_has : (G : List Event) (r : Row) → has row_cmp r (kept_rows steps caps b G i) ≡ (keeps caps b i r && has row_cmp r (step_rows steps i G))
      kept_has G r = has-filter exact_rows (keeps caps b i) r (step_rows steps i G)

      at : (s : Sign) (r : Row) → has row_cmp r (moved_of s (kept_rows steps caps b E i) (kept_rows steps caps b F i))
          ≡ has row_cmp r (moved_of s (step_rows steps i E) (step_rows steps i F))
      at Plus r =
          has-without exact_rows r (kept_rows steps caps b F i) (kept_rows steps caps b E i)
          ∙ (λ k. kept_has F r k && not (kept_has E r k))
          ∙ kept_only (fits (caps.cap i) r) (is_late b r) (within (caps.reach i) (b - r.span.start)) (has row_cmp r (step_rows steps i F))
          (has row_cmp r (step_rows steps i E)) (new_fit r) (λ e. sym (same_early r e))
          ∙ sym (has-without exact_rows r (step_rows steps i F) (step_rows steps i E))
      at Minus r =
          has-without exact_rows r (kept_rows steps caps b E i) (kept_rows steps caps b F i)
          ∙ (λ k. kept_has E r k && not (kept_has F r k))
          ∙ kept_only (fits (caps.cap i) r) (is_late b r) (within (caps.reach i) (b - r.span.start)) (has row_cmp r (step_rows steps i E))
          (has row_cmp r (step_rows steps i F)) (old_fit r) (same_early r)
          ∙ sym (has-without exact_rows r (step_rows steps i E) (step_rows steps i F))

-- ---- detections of names

-- the name of a detection
abbrev name_in : Detection → NameArity
name_in d = record { name = d.atom.name; arity = length d.atom.args }

own_name : (n : NameArity) (d : Detection) → is_of n d.atom ≡ true → n ≡ name_in d
own_name n d e =
    let parts = and_parts (bytes_eq n.name d.atom.name) (n.arity == length d.atom.args) e in
    λ i. record { name = (bytes_eq-Decides n.name d.atom.name).0 parts.0 i; arity = eqb-true n.arity (length d.atom.args) parts.1 i }

-- a detection is that of a row of a name exactly where it is of the name, and the row has its arguments and span
is_detection : (n : NameArity) (d : Detection) (r : Row) → IsRowOfName n r
    → is_eq (detection_cmp d (detection_of n r)) ≡ (is_of n d.atom && is_eq (row_cmp (found_row d) r))
is_detection n d r own = same_Bool _ _ there back
  where
    there : is_eq (detection_cmp d (detection_of n r)) ≡ true → (is_of n d.atom && is_eq (row_cmp (found_row d) r)) ≡ true
    there e =
        let same : d ≡ detection_of n r = exact_detections.same d (detection_of n r) (tie (detection_cmp d (detection_of n r)) e) in
        let name : bytes_eq n.name d.atom.name ≡ true = (bytes_eq-Decides n.name d.atom.name).1 (sym (ap (λ (d : Detection). d.atom.name) same)) in
        let count : n.arity ≡ length d.atom.args = sym own.1 ∙ sym (ap (λ (d : Detection). length d.atom.args) same) in
        let arity : (n.arity == length d.atom.args) ≡ true = eq-eqb n.arity (length d.atom.args) count in
        let row : found_row d ≡ r =
        (λ i. record { binding = numbered 0 (same i).atom.args; span = (same i).span }) ∙ (λ i. record { binding = sym own.0 i; span = r.span }) in
        λ i. (name i && arity i) && is_eq ((ap (row_cmp (found_row d)) (sym row) ∙ tied_itself exact_rows.total (found_row d)) i)

    back : (is_of n d.atom && is_eq (row_cmp (found_row d) r)) ≡ true → is_eq (detection_cmp d (detection_of n r)) ≡ true
    back e =
        let parts = and_parts (is_of n d.atom) (is_eq (row_cmp (found_row d) r)) e in
        let name : n ≡ name_in d = own_name n d parts.0 in
        let row : found_row d ≡ r = same_rows (found_row d) r parts.1 in
        let args : args_of r ≡ d.atom.args = sym (ap args_of row) ∙ args_of-found d.atom.args d.span in
        let same : detection_of n r ≡ d =
        λ i. record { atom = record { name = ap (λ (n : NameArity). n.name) name i; args = args i }; span = sym (ap (λ (r : Row). r.span) row) i } in
        ap is_eq (ap (detection_cmp d) same ∙ tied_itself exact_detections.total d)

has_detection : (n : NameArity) (d : Detection) (rows : List Row) → Each (IsRowOfName n) rows
    → has detection_cmp d (map (detection_of n) rows) ≡ (is_of n d.atom && has row_cmp (found_row d) rows)
has_detection n d rows own =
    list_any-map (λ x. is_eq (detection_cmp d x)) (detection_of n) rows
    ∙ any_each (IsRowOfName n) (λ r. is_eq (detection_cmp d (detection_of n r))) (λ r. is_of n d.atom && is_eq (row_cmp (found_row d) r))
    (λ r h. is_detection n d r h) rows own
    ∙ sym (any_and (is_of n d.atom) (λ r. is_eq (row_cmp (found_row d) r)) rows)

-- whether any of these rows, each of a name, is that of the detection
has_named : (X : NameArity → List Row) → ((n : NameArity) → Each (IsRowOfName n) (X n)) → (ns : List NameArity) (d : Detection)
    → has detection_cmp d (flat_map (λ n. map (detection_of n) (X n)) ns)
    ≡ (list_any (λ n. is_of n d.atom) ns && has row_cmp (found_row d) (X (name_in d)))
has_named X own ns d =
    list_any-flat_map (λ x. is_eq (detection_cmp d x)) (λ n. map (detection_of n) (X n)) ns
    ∙ list_any_agree (λ n. has detection_cmp d (map (detection_of n) (X n))) (λ n. is_of n d.atom && has row_cmp (found_row d) (X (name_in d)))
    (λ n. has_detection n d (X n) (own n) ∙ at n (is_of n d.atom) refl) ns
    ∙ any_with (has row_cmp (found_row d) (X (name_in d))) ns
  where
    at : (n : NameArity) (t : Bool) → is_of n d.atom ≡ t → (t && has row_cmp (found_row d) (X n)) ≡ (t && has row_cmp (found_row d) (X (name_in d)))
    at n true e = ap (λ m. has row_cmp (found_row d) (X m)) (own_name n d e)
    at n false e = refl

    any_with : (c : Bool) (ns : List NameArity) → list_any (λ n. is_of n d.atom && c) ns ≡ (list_any (λ n. is_of n d.atom) ns && c)
    any_with c [] = refl
    any_with c (n ∷ ns) = ap (λ t. (is_of n d.atom && c) || t) (any_with c ns) ∙ both (is_of n d.atom) (list_any (λ n. is_of n d.atom) ns) c
      where
        both : (x y c : Bool) → ((x && c) || (y && c)) ≡ ((x || y) && c)
        both true true true = refl
        both true true false = refl
        both true false true = refl
        both true false false = refl
        both false y c = refl

module _ (statements : List PlainStatement) (ranking : IsRanking (rules_of statements) (rank_of (rules_of statements))) (E F : List Event) where
  abbrev X : List Event → NameArity → List Row
  X G n = name_rows (rules_of statements) G n

  of_name : (G : List Event) (n : NameArity) → Each (IsRowOfName n) (X G n)
  of_name G n = names_bound (rules_of statements) G (length (rules_of statements)) n

  abbrev told : Sign → List Detection
  told s = flat_map (λ n. map (detection_of n) (moved_of s (X E n) (X F n))) (outputs statements)

  has_told : (s : Sign) (d : Detection) → has detection_cmp d (told s)
      ≡ (list_any (λ n. is_of n d.atom) (outputs statements) && has row_cmp (found_row d) (moved_of s (X E (name_in d)) (X F (name_in d))))
  has_told s d =
      has_named (λ n. moved_of s (X E n) (X F n)) (λ n. Each-moved (IsRowOfName n) s (X E n) (X F n) (of_name E n) (of_name F n)) (outputs statements) d

  has_standing : (G : List Event) (d : Detection) → has detection_cmp d (standing statements G)
      ≡ (list_any (λ n. is_of n d.atom) (outputs statements) && has row_cmp (found_row d) (X G (name_in d)))
  unfolding standing
  has_standing G d =
      has-canon exact_detections d (flat_map (λ n. map (detection_of n) (X G n)) (outputs statements)) ∙ has_named (X G) (of_name G) (outputs statements) d

  standing_rises : (G : List Event) → Rising detection_cmp (standing statements G)
  unfolding standing
  standing_rises G = Rising-canon exact_detections (flat_map (λ n. map (detection_of n) (X G n)) (outputs statements))

  only_one : (a x y : Bool) → ((a && x) && not (a && y)) ≡ (a && (x && not y))
  only_one true x y = refl
  only_one false x y = refl

  -- what stands only after, and what stood only before
  come_is : without detection_cmp (standing statements F) (standing statements E) ≡ canon detection_cmp (told Plus)
  come_is =
      canon_one exact_detections _ _ (Rising-filter exact_detections _ (standing statements F) (standing_rises F)) (Rising-canon exact_detections (told Plus))
      (λ d. has-without exact_detections d (standing statements F) (standing statements E)
      ∙ (λ i. has_standing F d i && not (has_standing E d i))
      ∙ only_one (list_any (λ n. is_of n d.atom) (outputs statements)) (has row_cmp (found_row d) (X F (name_in d)))
      (has row_cmp (found_row d) (X E (name_in d)))
      ∙ ap (λ t. list_any (λ n. is_of n d.atom) (outputs statements) && t) (sym (has-without exact_rows (found_row d) (X F (name_in d)) (X E (name_in d))))
      ∙ sym (has-canon exact_detections d (told Plus) ∙ has_told Plus d))

  gone_is : without detection_cmp (standing statements E) (standing statements F) ≡ canon detection_cmp (told Minus)
  gone_is =
      canon_one exact_detections _ _ (Rising-filter exact_detections _ (standing statements E) (standing_rises E)) (Rising-canon exact_detections (told Minus))
      (λ d. has-without exact_detections d (standing statements E) (standing statements F)
      ∙ (λ i. has_standing E d i && not (has_standing F d i))
      ∙ only_one (list_any (λ n. is_of n d.atom) (outputs statements)) (has row_cmp (found_row d) (X E (name_in d)))
      (has row_cmp (found_row d) (X F (name_in d)))
      ∙ ap (λ t. list_any (λ n. is_of n d.atom) (outputs statements) && t) (sym (has-without exact_rows (found_row d) (X E (name_in d)) (X F (name_in d))))
      ∙ sym (has-canon exact_detections d (told Minus) ∙ has_told Minus d))

  -- ---- the shown steps

  module _ (caps : PlainCaps) (b : ℕ) (es : List EventChange) (mv : IsMoved b E F es) where
    abbrev steps : List PlainStep
    steps = plan_steps statements

    lower : AreLower steps
    lower = plan_lower statements E ranking

    abbrev c : Course
    c = course_of steps caps b E F

    abbrev IsWholeAt : List Event → ℕ → Type 0
    IsWholeAt G i = (r : Row) → has row_cmp r (step_rows steps i G) ≡ true → fits (caps.cap i) r ≡ true

    rows_told : (s : Sign) (ns : List NameArity) → ((n : NameArity) → has name_cmp n ns ≡ true → has name_cmp n (outputs statements) ≡ true)
        → Each (IsWholeAt E) (map (step_of steps) ns) → Each (IsWholeAt F) (map (step_of steps) ns)
        → flat_map (λ i. detections_of (step_at steps i) (signed_rows s (changed_at c i))) (map (step_of steps) ns)
        ≡ flat_map (λ n. map (detection_of n) (moved_of s (X E n) (X F n))) ns
    rows_told s [] h we wf = refl
    rows_told s (n ∷ ns) h we wf =
        let here = outputs_in_plan statements E ranking n (h n (or_left _ _ (ties_itself n))) in
        let old = names_have_steps statements E ranking n here in
        let new = names_have_steps statements F ranking n here in
        let there = placed_at steps n old.0 in
        let i = step_of steps n in
        let rows : signed_rows s (changed_at c i) ≡ moved_of s (X E n) (X F n) =
        signed_moved s (kept_rows steps caps b E i) (kept_rows steps caps b F i) (kept_rise steps lower E caps b i) (kept_rise steps lower F caps b i)
        ∙ moved_whole steps lower caps b E F es mv i we.0 wf.0 s
        ∙ (λ k. moved_of s (old.1 k) (new.1 k)) in
        let one = ap (λ t. detections_of t (signed_rows s (changed_at c i))) there.1 ∙ ap (map (detection_of n)) rows in
        λ k. one k ++ rows_told s ns (λ m e. h m (or_right _ _ e)) we.1 wf.1 k

    -- the changed rows of the shown steps are the change between what stood and what stands
    pub change_is_shown : AreShownWhole (plan_of statements) caps E → AreShownWhole (plan_of statements) caps F
        → change_between (standing statements E) (standing statements F) ≡ shown_change (plan_of statements) c
    change_is_shown we wf = λ k. record {
      gone = (gone_is ∙ ap (canon detection_cmp) (sym (rows_told Minus (outputs statements) (λ n e. e) we wf))) k;
      come = (come_is ∙ ap (canon detection_cmp) (sym (rows_told Plus (outputs statements) (λ n e. e) we wf))) k;
    }
