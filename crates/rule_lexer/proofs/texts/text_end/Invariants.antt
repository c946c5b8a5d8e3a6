use Rattle.std.proofs.Common.{◌≡◌, false, drop}
use Rattle.rule_lexer.specs.Reading.{text_end}
use Rattle.rule_lexer.proofs.texts.text_end.Given as goal

abbrev pub invariant-loop-index : goal.invariant-loop-index
invariant-loop-index l = text_end false 0 l.inside ≡ text_end l.escaped l.index (drop l.index l.inside)
