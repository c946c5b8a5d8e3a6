use Rattle.std.proofs.Common.{◌≡◌, ◌∙◌, ap, sym, subst, ℕ, ◌<◌, Some, None, [], ◌∷◌, ◌++◌, map, length, get_or, slice_get, length-append, arith}
use Rattle.std.proofs.lemmas.List.{length-map}
use Rattle.rule_ast.specs.PlainPlans.{PlainStep, plain_index, plain_step, slots_list}
use Rattle.step_meaning.specs.PlanOf.{each_once, slots_in, slots_table, step_indexes}
use Rattle.change_meaning.specs.Caps.{caps_in}
use Rattle.change_meaning.specs.Keys.{slots_at}
use Rattle.step_work.specs.Ways.{IsWayOf}
use Rattle.step_work.specs.declared.ways.StepWay.{StepWay}
use Rattle.step_work.proofs.WayLaws.{number_fits, place_more, opened, here, way_here, ways_more}
use Rattle.step_work.proofs.ways.ways_of.Goals as goal

pub overflow_add-first : goal.overflow_add-first
overflow_add-first c =
    let plan = c.args.plan.now in
    let steps = plan.steps.items in
    let value : c.deref-step-items.result.now ≡ steps = c.deref-step-items.ensures.value in
    let h : c.loop-step.step-index < length steps = subst (λ l. c.loop-step.step-index < length l) value c.loop-step-test.true in
    let is : c.step-item.result ≡ get_or steps c.loop-step.step-index c.step-item.result =
    c.step-item.is ∙ ap (λ l. get_or l c.loop-step.step-index c.step-item.result) value in
    let same : map slots_list c.deref-in-loop-step.result.now ≡ slots_table (map plain_step steps) [] =
    ap (map slots_list) c.deref-in-loop-step.ensures.value ∙ c.in_ok-slots.ensures
    ∙ ap (λ l. slots_table (map plain_step l) []) c.deref.ensures.value in
    let number = c.in_ok-way.ensures.number
    ∙ ap (λ t. length (each_once (step_indexes (slots_in t) (plain_step c.step-item.result)))) same in
    let place = c.loop-step.invariant.place in
    let fits = number_fits steps (map plain_index plan.indexes.items) c.loop-step.step-index c.step-item.result h is
    (slots_at (map plain_step steps)) place.0 place.2 c.loop-step.first c.in_ok-way.number place.1 number in
    let long = length-map plan.indexes.items plain_index in
    omega (arith, fits, long, plan.indexes.ok.0, plan.indexes.ok.1, plan.indexes.small)

pub loop-step-preserved : goal.loop-step-preserved
loop-step-preserved c =
    let plan = c.args.plan.now in
    let steps = plan.steps.items in
    let whole = map plain_index plan.indexes.items in
    let slots = slots_at (map plain_step steps) in
    let i = c.loop-step.step-index in
    let x = c.step-item.result in
    let value : c.deref-step-items.result.now ≡ steps = c.deref-step-items.ensures.value in
    let h : i < length steps = subst (λ l. i < length l) value c.loop-step-test.true in
    let is : x ≡ get_or steps i x = c.step-item.is ∙ ap (λ l. get_or l i x) value in
    let same : map slots_list c.deref-in-loop-step.result.now ≡ slots_table (map plain_step steps) [] =
    ap (map slots_list) c.deref-in-loop-step.ensures.value ∙ c.in_ok-slots.ensures
    ∙ ap (λ l. slots_table (map plain_step l) []) c.deref.ensures.value in
    let number = c.in_ok-way.ensures.number ∙ ap (λ t. length (each_once (step_indexes (slots_in t) (plain_step x)))) same in
    let place = c.loop-step.invariant.place in
    let ways = c.loop-step.ways.items in
    let cap : c.cap_at-cap.result ≡ (caps_in c.args.caps.now).cap i =
    c.cap_at-cap.ensures
    ∙ ap (λ k. get_or c.args.caps.now.cap.items k None) (c.len-in-loop-step.ensures ∙ c.loop-step.ways.ok.0 ∙ c.loop-step.invariant.long) in
    let P : ℕ → PlainStep → StepWay → Type 0 = λ j s w. IsWayOf whole ((caps_in c.args.caps.now).cap j) slots s w in
    let way : P i (plain_step x) c.in_ok-way.way =
    way_here whole place.0 _ (map slots_list c.deref-in-loop-step.result.now) (slots_table (map plain_step steps) []) _ _ (plain_step x)
    c.in_ok-way.way same cap (opened steps whole i x h is slots place.0 place.2) (c.in_ok-way.ensures.way place.0 _ place.1) in
    let items : c.push.new.self.items ≡ ways ++ c.in_ok-way.way ∷ [] = c.in_ok-push.ensures.items in
    record {
      long = (let a : length c.push.new.self.items ≡ length (ways ++ c.in_ok-way.way ∷ []) = ap length items in
          let b = length-append ways (c.in_ok-way.way ∷ []) in let e = c.loop-step.invariant.long in omega (arith, a, b, e));
      place = place_more steps whole i x h is slots place.0 place.2 c.loop-step.first c.in_ok-way.number place.1 number;
      ways = subst (λ vs. (j : ℕ) (s : PlainStep) (w : StepWay) → slice_get (map plain_step steps) j ≡ Some s
          → slice_get vs j ≡ Some w → P j s w) (sym items)
          (ways_more P (map plain_step steps) ways c.in_ok-way.way i (plain_step x) (sym c.loop-step.invariant.long)
          (here steps whole i x h is slots) way c.loop-step.invariant.ways);
    }
