use Rattle.std.proofs.Common.{◌≡◌}
use Rattle.std.specs.List.{filter}
use Rattle.rule_ast.specs.Plain.{plain_cond}
use Rattle.term_eval.specs.Values.{holds}
use Rattle.pattern_meaning.proofs.forms.rows_where.Given as goal

abbrev pub invariant-loop-row : goal.invariant-loop-row
invariant-loop-row l = l.kept.items ≡ filter (λ r. holds (plain_cond l.cond) r.binding) l.yielded
