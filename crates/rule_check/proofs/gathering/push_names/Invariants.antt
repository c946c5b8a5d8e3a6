use Rattle.std.proofs.Common.{◌≡◌, ◌++◌, take}
use Rattle.rule_check.proofs.gathering.push_names.Given as goal

abbrev pub invariant-loop-one : goal.invariant-loop-one
invariant-loop-one l = l.names.items ≡ l.initial.names.items ++ take l.one-index l.more
