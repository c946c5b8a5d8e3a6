use Rattle.rule_parser.proofs.Meanings.{answers, gives, shaped, few_shown}
use Rattle.rule_parser.proofs.parsing.parse.Goals as goal

pub returns-clause-answers : goal.returns-clause-answers
returns-clause-answers c = answers _ _ _ _ _ _ c.in_ok-lexed.ensures c.parsed.ensures

pub returns-clause-only : goal.returns-clause-only
returns-clause-only c = gives _ _ _ _ _ _ c.in_ok-lexed.ensures c.parsed.ensures

pub returns-clause-shaped : goal.returns-clause-shaped
returns-clause-shaped c = shaped _ _ _ _ _ c.parsed.ensures

pub returns-clause-few_shown : goal.returns-clause-few_shown
returns-clause-few_shown c = few_shown _ _ _ _ _ _ c.in_ok-lexed.ensures c.parsed.ensures
