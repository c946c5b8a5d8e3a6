use Rattle.std.proofs.Common.{◌≡◌, refl, ap, sym, ◌∙◌, ℕ, List, [], ◌∷◌, map}
use Rattle.event_model.specs.declared.operators.Edge.TheVariants.{Start, End}
use Rattle.rule_ast.specs.PlainPlans.{PlainIndex, slots_list}
use Rattle.step_meaning.specs.PlanOf.{index, slots_in}
use Rattle.step_work.proofs.IndexLaws.{asked_so, asked_at}
use Rattle.step_work.proofs.ways.minus_way.Goals as goal

starts : (of : ℕ) (key other : List ℕ) → key ≡ other → index of key Start ≡ index of other Start
starts of key other e = ap (λ k. index of k Start) e

ends : (of : ℕ) (key other : List ℕ) → key ≡ other → index of key End ≡ index of other End
ends of key other e = ap (λ k. index of k End) e

pub returns-clause-way : goal.returns-clause-way
returns-clause-way c = λ front behind long.
    let at = slots_in (map slots_list c.args.slots.now) in
    let inner = c.slots_at-inner_key.ensures in
    let before = c.slots_at-before_key.ensures in
    let after = c.slots_at-after_key.ensures in
    let a = asked_so _ _ [] _ _ c.none-asked.ensures.indexes (starts c.args.joined _ _ inner) c.in_ok-joined_inner.ensures.indexes in
    let b = asked_so _ _ _ _ _ a (starts c.args.joined _ _ before) c.in_ok-joined_before.ensures.indexes in
    let d = asked_so _ _ _ _ _ b (ends c.args.joined _ _ after) c.in_ok-joined_after.ensures.indexes in
    let e = asked_so _ _ _ _ _ d (starts c.args.before _ _ before) c.in_ok-before_number.ensures.indexes in
    let f = asked_so _ _ _ _ _ e (starts c.args.inner _ _ inner) c.in_ok-inner_number.ensures.indexes in
    let g = asked_so _ _ _ _ _ f (ends c.args.after _ _ after) c.in_ok-after_number.ensures.indexes in
    let at_a = long ∙ sym c.none-asked.ensures.first in
    let at_b = at_a ∙ sym c.in_ok-joined_inner.ensures.first in
    let at_d = at_b ∙ sym c.in_ok-joined_before.ensures.first in
    let at_e = at_d ∙ sym c.in_ok-joined_after.ensures.first in
    let at_f = at_e ∙ sym c.in_ok-before_number.ensures.first in
    let at_g = at_f ∙ sym c.in_ok-inner_number.ensures.first in
    let none : List PlainIndex = [] in
    let last = index c.args.after (at c.args.after) End ∷ none in
    let last_two = index c.args.inner (at c.args.inner) Start ∷ last in
    let last_three = index c.args.before (at c.args.before) Start ∷ last_two in
    let last_four = index c.args.joined (at c.args.after) End ∷ last_three in
    let last_five = index c.args.joined (at c.args.before) Start ∷ last_four in
    record {
      cap = refl;
      joined_inner = asked_at front _ _ last_five behind _ _ c.in_ok-joined_inner.joined_inner a (starts c.args.joined _ _ inner)
          (c.in_ok-joined_inner.ensures.number front last_five behind at_a);
      joined_before = asked_at front _ _ last_four behind _ _ c.in_ok-joined_before.joined_before b (starts c.args.joined _ _ before)
          (c.in_ok-joined_before.ensures.number front last_four behind at_b);
      joined_after = asked_at front _ _ last_three behind _ _ c.in_ok-joined_after.joined_after d (ends c.args.joined _ _ after)
          (c.in_ok-joined_after.ensures.number front last_three behind at_d);
      before = asked_at front _ _ last_two behind _ _ c.in_ok-before_number.before_number e (starts c.args.before _ _ before)
          (c.in_ok-before_number.ensures.number front last_two behind at_e);
      inner = asked_at front _ _ last behind _ _ c.in_ok-inner_number.inner_number f (starts c.args.inner _ _ inner)
          (c.in_ok-inner_number.ensures.number front last behind at_f);
      after = asked_at front _ _ none behind _ _ c.in_ok-after_number.after_number g (ends c.args.after _ _ after)
          (c.in_ok-after_number.ensures.number front none behind at_g);
    }
