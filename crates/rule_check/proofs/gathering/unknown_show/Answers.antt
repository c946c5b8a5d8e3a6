use Rattle.std.proofs.Common.{◌+◌, ap, sym}
use Rattle.rule_check.proofs.Gathered.{known_more, unknown_at}
use Rattle.rule_check.proofs.gathering.unknown_show.Goals as goal

pub returns-then-not-has : goal.returns-then-not-has
returns-then-not-has c =
    unknown_at c.args.heads.now c.args.shown.now c.loop-name.name-index c.name-item.result c.loop-name-test.true c.name-item.is c.loop-name.invariant.known c.loop-name.number c.loop-name.invariant.counted
    (sym c.if-not-has.ensures)

pub loop-name-preserved : goal.loop-name-preserved
loop-name-preserved c = record {
  counted = ap (λ n. n + 1) c.loop-name.invariant.counted;
  known = known_more c.args.heads.now c.args.shown.now c.loop-name.name-index c.name-item.result c.loop-name-test.true c.name-item.is c.loop-name.invariant.known (sym c.if-not-has.ensures);
}
