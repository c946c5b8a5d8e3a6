use Rattle.std.proofs.Common.{◌≡◌}
use Rattle.std.specs.List.{filter}
use Rattle.pattern_meaning.specs.RuleRows.{is_short}
use Rattle.pattern_meaning.proofs.forms.rows_within.Given as goal

abbrev pub invariant-loop-row : goal.invariant-loop-row
invariant-loop-row l = l.kept.items ≡ filter (is_short l.length) l.yielded
