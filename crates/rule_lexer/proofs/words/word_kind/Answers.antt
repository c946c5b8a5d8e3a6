use Rattle.std.proofs.Common.{sym, ◌∙◌}
use Rattle.rule_lexer.proofs.WordLaws.{reserved_token}
use Rattle.rule_lexer.proofs.words.word_kind.Goals as goal

pub returns-in-Some : goal.returns-in-Some
returns-in-Some c = λ rest. reserved_token c.args.bytes.now rest c.in-Some.word (sym c.reserved.ensures ∙ c.in-Some.is)
