use Rattle.std.proofs.Common.{◌≡◌, false, ◌+◌, drop}
use Rattle.rule_lexer.specs.Places.{skipped}
use Rattle.rule_lexer.proofs.scanning.skipped.Given as goal

abbrev pub invariant-loop-index : goal.invariant-loop-index
invariant-loop-index l = skipped false l.bytes ≡ l.index + skipped l.in_comment (drop l.index l.bytes)
