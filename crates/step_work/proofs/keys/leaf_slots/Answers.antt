use Rattle.rule_ast.specs.Vars.{atom_vars, is_in}
use Rattle.step_work.proofs.SlotLaws.{tested_slots}
use Rattle.step_work.proofs.keys.leaf_slots.Goals as goal

pub returns : goal.returns
returns c = tested_slots c.vars_of_atom.result (λ t. is_in t (atom_vars c.args.pat.now)) c.vars_of_atom.ensures
