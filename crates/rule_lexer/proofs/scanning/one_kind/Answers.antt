use Rattle.rule_lexer.proofs.KindLaws.{same_kind, same_token}
use Rattle.rule_lexer.proofs.scanning.one_kind.Goals as goal

pub returns : goal.returns
returns c = record { kind = same_kind; token = same_token }
