use Rattle.std.proofs.Common.{rules}
use Rattle.rule_parser.proofs.FileRuns.{items_one, items_more, show_read}
use Rattle.rule_parser.proofs.statements.show_at.Goals as goal

pub loop-more-init : goal.loop-more-init
loop-more-init c = items_one c.in_ok-first.ensures (search (rules, c.in_ok-push.ensures.items, c.new-names.ensures.items))

pub loop-more-preserved : goal.loop-more-preserved
loop-more-preserved c = items_more c.loop-more.invariant c.in-Some.ensures c.in_ok-name.ensures c.in_ok-push-2.ensures.items

pub returns : goal.returns
returns c = show_read c.loop-more.invariant c.in_ok-rest.ensures.ok
