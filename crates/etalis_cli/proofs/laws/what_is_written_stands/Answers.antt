use Rattle.etalis_cli.specs.Output.{start}
use Rattle.etalis_cli.proofs.OutputLaws.{written, written_held, scratched, drilled, first_replies, left_after}
use Rattle.etalis_cli.proofs.laws.what_is_written_stands.Goals as goal

pub returns : goal.returns
returns c = record { written = written; held = written_held; scratched = scratched; drilled = drilled; first = λ w. first_replies (start w).state; left = left_after }
