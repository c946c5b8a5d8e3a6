use Rattle.std.proofs.Common.{◌≡◌, ◌-◌, ℕ, List}
use Rattle.etalis_cli.specs.StandsFor.{setting_of}
use Rattle.etalis_cli.specs.Outcome.{Reached}
use Rattle.etalis_cli.specs.declared.serving.TheConstants.{INPUT_LIMIT}
use Rattle.etalis_cli.proofs.serving.serve.Given as goal

abbrev pub invariant-loop-taken : goal.invariant-loop-taken
invariant-loop-taken g l = record {
  progress : (done : List ℕ) × Reached (setting_of l.initial.session) (g.I.Source.left l.initial.input) (g.I.Source.left l.input) (g.O.Sink.got l.initial.out)
      l.session l.reader (g.O.Sink.got l.out) l.taken done;
  source_count : g.I.Source.faults l.input ≡ g.I.Source.faults l.initial.input;
  sink_count : g.O.Sink.faults l.out ≡ g.O.Sink.faults l.initial.out;
}

abbrev pub decreases-loop-taken : goal.decreases-loop-taken
decreases-loop-taken g l = INPUT_LIMIT - l.taken
