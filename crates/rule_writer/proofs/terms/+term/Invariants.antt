use Rattle.std.proofs.Common.{ℕ, take}
use Rattle.rule_writer.specs.Writes.{Appends, all_arguments}
use Rattle.rule_writer.proofs.terms.+term.Given as goal

-- the arguments before this one are written
abbrev pub invariant-write_arguments-loop-i : goal.invariant-write_arguments-loop-i
invariant-write_arguments-loop-i l = (d : ℕ) → Appends l.fn.out.items l.out.items (all_arguments l.place l.names (take l.i l.args) d)
