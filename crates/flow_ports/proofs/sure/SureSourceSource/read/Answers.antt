use Rattle.std.proofs.Common.{Some, ap, arith}
use Rattle.flow_ports.proofs.FlowLemmas.{took}
use Rattle.flow_ports.proofs.sure.SureSourceSource.read.Goals as goal

pub returns-clause-bytes : goal.returns-clause-bytes
returns-clause-bytes c =
    let copied = rw c.deref.ensures.value at c.copy_front.ensures.front in
    let s = c.args.self.now in
    let n = c.min-n.result in
    ap Some (took s.bytes.items c.copy_front.new.buf s.at n _ (omega arith) (omega arith) copied)
