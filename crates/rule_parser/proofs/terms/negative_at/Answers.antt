use Rattle.rule_parser.proofs.TermRuns.{word_negative}
use Rattle.rule_parser.proofs.terms.negative_at.Goals as goal

pub returns-in-Number : goal.returns-in-Number
returns-in-Number c = word_negative c.in-Some.ensures c.in-Number.is c.value.ensures.value c.value.ensures.bound
