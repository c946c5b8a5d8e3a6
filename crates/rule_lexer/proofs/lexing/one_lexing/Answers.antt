use Rattle.rule_lexer.proofs.OneLexing.{same_lexing, few_terminals}
use Rattle.rule_lexer.proofs.lexing.one_lexing.Goals as goal

pub returns-clause-same : goal.returns-clause-same
returns-clause-same c = same_lexing

pub returns-clause-few : goal.returns-clause-few
returns-clause-few c = few_terminals
