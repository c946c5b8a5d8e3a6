use Rattle.std.proofs.Common.{◌≡◌, true, ◌≤◌, ◌^◌, drop}
use Rattle.std.specs.Char.{is_ascii_digit}
use Rattle.std.specs.List.{list_all}
use Rattle.rule_lexer.specs.Spelling.{number_of, number_from}
use Rattle.rule_lexer.proofs.numbers.number_of.Given as goal

abbrev pub invariant-loop-byte : goal.invariant-loop-byte
invariant-loop-byte l = (number_of l.digits ≡ number_from l.value (drop l.byte-index l.digits)) × (l.value ≤ 2 ^ 63) × (list_all is_ascii_digit (drop l.byte-index l.digits) ≡ true)
