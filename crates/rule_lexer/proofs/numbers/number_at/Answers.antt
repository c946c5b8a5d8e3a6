use Rattle.std.specs.Char.{is_ascii_digit}
use Rattle.rule_lexer.proofs.Runs.{run_passes}
use Rattle.rule_lexer.proofs.NumberLaws.{number_longest, number_none}
use Rattle.rule_lexer.proofs.numbers.number_at.Goals as goal

pub number_of-requires : goal.number_of-requires
number_of-requires c = rw c.digits_len-len.ensures (run_passes is_ascii_digit c.args.bytes.now)

pub returns-in-Some : goal.returns-in-Some
returns-in-Some c = let h = c.in-Some.ensures in number_longest c.args.bytes.now c.in-Some.value c.digits_len-len.result c.requires c.digits_len-len.ensures h.0 h.1

pub returns-in-None : goal.returns-in-None
returns-in-None c = (number_none c.args.bytes.now c.digits_len-len.result c.requires c.digits_len-len.ensures c.in-None.ensures, (c.requires, rw (← c.digits_len-len.ensures) c.in-None.ensures))
