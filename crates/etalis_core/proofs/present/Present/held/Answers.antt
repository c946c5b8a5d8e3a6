use Rattle.etalis_core.specs.Kept.{number_of}
use Rattle.etalis_core.proofs.PresentLaws.{events_from, rising_from, has_from}
use Rattle.etalis_core.proofs.present.Present.held.Goals as goal

pub returns : goal.returns
returns c = λ from inputs same. c.held.ensures (events_from from inputs) (rising_from from inputs) (has_from from inputs (number_of c.args.self.now) same)
