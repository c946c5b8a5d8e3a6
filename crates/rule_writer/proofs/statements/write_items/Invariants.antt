use Rattle.std.proofs.Common.{take}
use Rattle.rule_writer.specs.Writes.{Appends, all_items}
use Rattle.rule_writer.proofs.statements.write_items.Given as goal

-- the names before this one are written
abbrev pub invariant-loop-i : goal.invariant-loop-i
invariant-loop-i l = Appends l.fn.out.items l.out.items (all_items (take l.i l.names))
