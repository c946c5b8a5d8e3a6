use Rattle.std.proofs.Common.{◌≡◌, ◌++◌, drop}
use Rattle.ordered_lists.specs.Lists.{with_each}
use Rattle.pattern_meaning.specs.RuleRows.{joined}
use Rattle.pattern_meaning.proofs.forms.push_partners.Given as goal

-- the pairs so far and those that are left are all
abbrev pub invariant-loop-partner : goal.invariant-loop-partner
invariant-loop-partner l = l.rows.items ++ with_each (joined l.op) (drop l.partner-index l.right) l.row ≡ l.initial.rows.items ++ with_each (joined l.op) l.right l.row
