use Rattle.std.proofs.Common.{◌≡◌}
use Rattle.drill_lines.specs.Drill.{numbers}
use Rattle.drill_lines.proofs.lines.draw_args.Given as goal

abbrev pub invariant-loop-number : goal.invariant-loop-number
invariant-loop-number l = record {
  args : l.args.items ≡ (numbers l._number l.initial.draws).args;
  state : l.draws ≡ (numbers l._number l.initial.draws).state;
}
