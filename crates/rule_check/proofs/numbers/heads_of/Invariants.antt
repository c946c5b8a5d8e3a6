use Rattle.std.proofs.Common.{◌≡◌, take}
use Rattle.rule_check.specs.Gathered.{rules_at}
use Rattle.rule_check.specs.Names.{head_names}
use Rattle.rule_check.specs.Numbers.{first_seen}
use Rattle.rule_check.proofs.numbers.heads_of.Given as goal

abbrev pub invariant-loop-rule : goal.invariant-loop-rule
invariant-loop-rule l = l.heads ≡ first_seen (head_names (rules_at (take l.rule-index l.rules)))
