use Rattle.std.proofs.Common.{◌≡◌, None, take}
use Rattle.std.specs.List.{flat_map}
use Rattle.rule_ast.specs.Vars.{slots_of}
use Rattle.rule_check.specs.Allowed.{allowed}
use Rattle.rule_check.specs.Offenders.{first, outside}
use Rattle.rule_check.proofs.outside.+outside.Given as goal

abbrev pub invariant-outside_arguments-loop-pat : goal.invariant-outside_arguments-loop-pat
invariant-outside_arguments-loop-pat l = first (outside (allowed l.may) (flat_map slots_of (take l.pat-index l.pats))) ≡ None
