use Rattle.rule_parser.proofs.Meanings.{one_meaning}
use Rattle.rule_parser.proofs.parsing.one_meaning.Goals as goal

pub returns : goal.returns
returns c = one_meaning
