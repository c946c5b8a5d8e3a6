use Rattle.std.proofs.Common.{◌≡◌, map, take}
use Rattle.rule_ast.specs.Plain.{plain_rules}
use Rattle.rule_check.specs.Sound.{rules_of}
use Rattle.binariser.specs.Ranks.{ranked}
use Rattle.binariser.proofs.ranks.with_ranks.Given as goal

abbrev pub invariant-loop-name : goal.invariant-loop-name
invariant-loop-name l = l.all.items ≡ map (ranked (rules_of (plain_rules l.checked))) (take l.name-index l.names)
