use Rattle.rule_lexer.proofs.RoundTrip.{written_is_lexed}
use Rattle.rule_lexer.proofs.writing.written_is_read.Goals as goal

pub returns : goal.returns
returns c = written_is_lexed
