use Rattle.std.proofs.Common.{◌≡◌, refl, sym, ◌∙◌, List, [], ◌∷◌, map}
use Rattle.rule_ast.specs.PlainPlans.{PlainIndex, slots_list}
use Rattle.interval_ops.specs.declared.ranges.Side.TheVariants.{Left, Right}
use Rattle.step_meaning.specs.PlanOf.{in_both, index, partner_edge, slots_in}
use Rattle.change_meaning.specs.Keys.{join_key}
use Rattle.step_work.proofs.IndexLaws.{asked_so, asked_at}
use Rattle.step_work.proofs.ways.join_way.Goals as goal

pub returns-clause-way : goal.returns-clause-way
returns-clause-way c = λ before after long.
    let at = slots_in (map slots_list c.args.slots.now) in
    let both = join_key at c.args.left c.args.right in
    let key : slots_list c.both_slots-key.result ≡ both =
    c.both_slots-key.ensures ∙ (λ i. in_both (c.slots_at.ensures i) (c.slots_at-2.ensures i)) in
    let x : index c.args.left (slots_list c.both_slots-key.result) c.partner_edge.result
    ≡ index c.args.left both (partner_edge c.args.op Right) = λ i. index c.args.left (key i) (c.partner_edge.ensures i) in
    let y : index c.args.right (slots_list c.both_slots-key.result) c.partner_edge-2.result
    ≡ index c.args.right both (partner_edge c.args.op Left) = λ i. index c.args.right (key i) (c.partner_edge-2.ensures i) in
    let one = asked_so _ _ [] _ _ c.none-asked.ensures.indexes x c.in_ok-lefts.ensures.indexes in
    let two = asked_so _ _ _ _ _ one y c.in_ok-rights.ensures.indexes in
    let none : List PlainIndex = [] in
    let last = index c.args.right both (partner_edge c.args.op Left) ∷ none in
    let first = long ∙ sym c.none-asked.ensures.first in
    record {
      op = refl;
      cap = refl;
      lefts = asked_at before _ _ last after _ _ c.in_ok-lefts.lefts one x (c.in_ok-lefts.ensures.number before last after first);
      rights = asked_at before _ _ none after _ _ c.in_ok-rights.rights two y
          (c.in_ok-rights.ensures.number before none after (first ∙ sym c.in_ok-lefts.ensures.first));
    }
