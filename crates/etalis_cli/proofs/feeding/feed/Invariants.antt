use Rattle.std.proofs.Common.{◌≡◌, ℕ, List}
use Rattle.line_reader.specs.Holding.{bytes_kept}
use Rattle.etalis_cli.specs.Output.{Talk}
use Rattle.etalis_cli.specs.Feeds.{Between}
use Rattle.etalis_cli.proofs.FeedLaws.{Sending}
use Rattle.etalis_cli.proofs.feeding.feed.Given as goal

abbrev pub invariant-loop-line : goal.invariant-loop-line
invariant-loop-line g l = record {
  sending : (t : Talk) (part : List ℕ) → Between l.fn.session l.fn.reader t part
      → Sending t part l.piece (g.O.Sink.got l.initial.out) (g.O.Sink.got l.out) l.text.items l.session l.reader;
  count : g.O.Sink.faults l.out ≡ g.O.Sink.faults l.initial.out;
}

abbrev pub decreases-loop-line : goal.decreases-loop-line
decreases-loop-line g l = bytes_kept l.reader
