use Rattle.std.proofs.Common.{◌≡◌, [], take}
use Rattle.rule_check.specs.Names.{unknown_shows}
use Rattle.rule_check.proofs.gathering.unknown_show.Given as goal

abbrev pub invariant-loop-name : goal.invariant-loop-name
invariant-loop-name l = record {
  counted : l.number ≡ l.name-index;
  known : unknown_shows 1 l.heads (take l.name-index l.shown) ≡ [];
}
