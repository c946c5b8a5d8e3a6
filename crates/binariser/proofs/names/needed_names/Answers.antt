use Rattle.std.proofs.Common.{rules, ap, ◌∙◌, ◌<◌, arith, subst, length}
use Rattle.ordered_lists.specs.Canon.{has}
use Rattle.event_model.specs.EventOrder.{name_cmp}
use Rattle.rule_ast.specs.Plain.{plain_rules}
use Rattle.binariser.specs.Needed.{IsGrown, bodies_names}
use Rattle.binariser.proofs.NeedsLaws.{closing_begins, closing_more, closing_ends, few_names, name_at}
use Rattle.binariser.proofs.names.needed_names.Goals as goal

pub loop-next-init : goal.loop-next-init
loop-next-init c =
    closing_begins (plain_rules c.args.checked.now) c.requires.ranking _
    (λ m. c.in_ok-needed.ensures m ∙ ap (has name_cmp m) c.shown.ensures)

pub loop-next-smaller : goal.loop-next-smaller
loop-next-smaller c =
    let few = few_names (plain_rules c.args.checked.now) c.requires.ranking c.loop-next.needed.keys c.loop-next.next
    c.loop-next.invariant c.len.ensures.unique in
    omega (arith, few, c.len.ensures.len)

pub loop-next-preserved : goal.loop-next-preserved
loop-next-preserved c =
    let inside : c.loop-next.next < length c.loop-next.needed.keys = search rules in
    let own = name_at c.loop-next.needed.keys c.loop-next.next inside in
    closing_more (plain_rules c.args.checked.now) c.requires.ranking c.loop-next.needed.keys c.loop-next.next c.loop-next.invariant
    own.0 _ inside own.1
    (subst (λ rs. IsGrown c.loop-next.needed.keys (bodies_names rs) c.add_needs.new.needed.keys) (c.requires.heads own.0)
    (c.in_ok-add_needs.ensures own.0 own.1))

pub returns : goal.returns
returns c =
    closing_ends (plain_rules c.args.checked.now) c.requires.ranking c.loop-next.needed.keys c.loop-next.next c.loop-next.invariant
    (search rules)
