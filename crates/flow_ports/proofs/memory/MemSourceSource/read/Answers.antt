use Rattle.std.proofs.Common.{◌≤◌, ◌+◌, ◌-◌, Some, length, ap, arith}
use Rattle.flow_ports.proofs.FlowLemmas.{took}
use Rattle.flow_ports.proofs.memory.MemSourceSource.read.Goals as goal
use Rattle.flow_ports.proofs.memory.MemSourceSource.read.Goals.{in-Some, in-None}

pub returns-clause-bytes : goal.returns-clause-bytes
returns-clause-bytes c =
    let copied = rw c.deref-3.ensures.value at c.copy_front.ensures.front in
    let s = c.args.self.now in
    let n = c.match-piece.n in
    let small : n ≤ length s.bytes.items - s.at = elim c.match-piece.branch [ in-Some w ↦ omega arith | in-None w ↦ omega arith ] in
    ap Some (took s.bytes.items c.copy_front.new.buf s.at n (s.at + n - s.at) (omega arith) small copied)
