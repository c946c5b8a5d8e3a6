use Rattle.std.proofs.Common.{◌≡◌, drop}
use Rattle.pattern_meaning.specs.Found.{with_rules}
use Rattle.pattern_meaning.specs.Words.{words_of}
use Rattle.pattern_meaning.specs.RuleOrder.{rules_at}
use Rattle.pattern_meaning.proofs.evaluating.push_rules.Given as goal

-- those that are left make of what was found all that there is to find
abbrev pub invariant-loop-ranked : goal.invariant-loop-ranked
invariant-loop-ranked l = with_rules (words_of l.found) (rules_at (drop l.ranked-index l.rules)) ≡ with_rules (words_of l.initial.found) (rules_at l.rules)
