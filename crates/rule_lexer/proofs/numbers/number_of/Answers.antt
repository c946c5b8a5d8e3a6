use Rattle.std.proofs.Common.{arith}
use Rattle.rule_lexer.proofs.NumberLaws.{number_over}
use Rattle.rule_lexer.proofs.numbers.number_of.Goals as goal

pub returns-then-value-digit : goal.returns-then-value-digit
returns-then-value-digit c = number_over c.args.digits.now c.loop-byte.value c.loop-byte.byte-index (omega arith) c.loop-byte.invariant.0 (rw (← c.from-digit.ensures) c.if-value-digit.true)
