use Rattle.std.proofs.Common.{sym, ◌∙◌}
use Rattle.rule_check.proofs.FirstOutside.{found_in}
use Rattle.rule_check.specs.Allowed.{allowed}
use Rattle.rule_check.proofs.outside.+outside.Goals as goal

pub outside_arguments-returns-then-is_some : goal.outside_arguments-returns-then-is_some
outside_arguments-returns-then-is_some t c =
    found_in (allowed c.args.may.now) c.args.pats.now c.loop-pat.pat-index c.pat-item.result c.outside_argument-found.result c.loop-pat-test.true c.pat-item.is
    c.loop-pat.invariant c.outside_argument-found.ensures (sym c.is_some.ensures ∙ c.if-is_some.true)
