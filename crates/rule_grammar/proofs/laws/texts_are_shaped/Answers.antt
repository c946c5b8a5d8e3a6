use Rattle.rule_grammar.proofs.ShapedLaws.{shaped_text, shown_few}
use Rattle.rule_grammar.proofs.laws.texts_are_shaped.Goals as goal

pub returns-clause-shaped : goal.returns-clause-shaped
returns-clause-shaped c = shaped_text

pub returns-clause-few_shown : goal.returns-clause-few_shown
returns-clause-few_shown c = shown_few
