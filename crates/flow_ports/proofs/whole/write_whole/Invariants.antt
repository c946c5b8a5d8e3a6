use Rattle.std.proofs.Common.{length, ◌-◌, ◌≡◌, ◌≤◌, take}
use Rattle.flow_ports.specs.Flow.{Gives}
use Rattle.flow_ports.proofs.whole.write_whole.Given as goal

abbrev pub invariant-loop-at : goal.invariant-loop-at
invariant-loop-at g l = record {
  bound : l.at ≤ length l.bytes;
  given : Gives (g.K.Sink.got l.initial.sink) (g.K.Sink.got l.sink) (take l.at l.bytes);
  count : g.K.Sink.faults l.sink ≡ g.K.Sink.faults l.initial.sink;
  untouched : length l.bytes ≡ 0 → l.sink ≡ l.initial.sink;
}

abbrev pub decreases-loop-at : goal.decreases-loop-at
decreases-loop-at g l = length l.bytes - l.at
