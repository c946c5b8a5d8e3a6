use Rattle.std.proofs.Common.{◌≡◌, ◌++◌, drop}
use Rattle.ordered_lists.specs.Lists.{joins}
use Rattle.pattern_meaning.specs.RuleRows.{joined}
use Rattle.pattern_meaning.proofs.forms.join_rows.Given as goal

-- the pairs so far and those that are left are all
abbrev pub invariant-loop-row : goal.invariant-loop-row
invariant-loop-row l = l.rows.items ++ joins (joined l.op) (drop l.row-index l.left) l.right ≡ joins (joined l.op) l.left l.right
