use Rattle.std.proofs.Common.{◌≡◌}
use Rattle.ordered_lists.specs.Members.{without}
use Rattle.ev_bind.specs.Rows.{row_cmp}
use Rattle.pattern_meaning.proofs.forms.rows_without.Given as goal

abbrev pub invariant-loop-row : goal.invariant-loop-row
invariant-loop-row l = l.kept.items ≡ without row_cmp l.yielded l.others
