use Rattle.rule_parser.proofs.TermRuns.{word_number, word_text}
use Rattle.rule_parser.proofs.terms.word_at.Goals as goal

pub returns-in-Number : goal.returns-in-Number
returns-in-Number c = word_number c.in-Some.ensures c.in-Number.is c.value.ensures.value c.value.ensures.bound

pub returns-in_ok-share-in-Text : goal.returns-in_ok-share-in-Text
returns-in_ok-share-in-Text c = word_text c.in-Some.ensures c.in-Text.is c.in_ok-share-in-Text.ensures
