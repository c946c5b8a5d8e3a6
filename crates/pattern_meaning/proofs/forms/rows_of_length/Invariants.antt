use Rattle.std.proofs.Common.{◌≡◌}
use Rattle.std.specs.List.{filter}
use Rattle.pattern_meaning.specs.RuleRows.{is_long}
use Rattle.pattern_meaning.proofs.forms.rows_of_length.Given as goal

abbrev pub invariant-loop-row : goal.invariant-loop-row
invariant-loop-row l = l.kept.items ≡ filter (is_long l.length) l.yielded
