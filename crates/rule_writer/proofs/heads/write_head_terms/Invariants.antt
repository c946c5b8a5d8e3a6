use Rattle.std.proofs.Common.{take}
use Rattle.rule_writer.specs.Writes.{Appends, all_head_terms}
use Rattle.rule_writer.proofs.heads.write_head_terms.Given as goal

-- the terms before this one are written
abbrev pub invariant-loop-i : goal.invariant-loop-i
invariant-loop-i l = Appends l.fn.out.items l.out.items (all_head_terms l.names (take l.i l.args))
