use Rattle.std.proofs.Common.{◌∙◌}
use Rattle.ev_bind.specs.Matching.{instance-Var}
use Rattle.term_eval.proofs.Equal.{same_turned}
use Rattle.term_eval.proofs.same.is_value.Goals as goal

pub returns-in-Some : goal.returns-in-Some
returns-in-Some c = rw (instance-Var, ← c.get.ensures, c.in-Some.is) (c.is_term.ensures ∙ same_turned _ _)
