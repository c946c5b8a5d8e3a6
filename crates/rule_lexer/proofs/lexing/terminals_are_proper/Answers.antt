use Rattle.rule_lexer.proofs.ReadTerminals.{lexed_proper}
use Rattle.rule_lexer.proofs.lexing.terminals_are_proper.Goals as goal

pub returns : goal.returns
returns c = lexed_proper
