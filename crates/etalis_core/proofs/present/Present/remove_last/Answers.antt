use Rattle.support_table.specs.Copies.{copies_of}
use Rattle.etalis_core.proofs.PresentLaws.{was_gone}
use Rattle.etalis_core.proofs.present.Present.remove_last.Goals as goal

pub returns-clause-was : goal.returns-clause-was
returns-clause-was c =
    was_gone c.args.event.now (copies_of c.args.self.now.numbers) (copies_of c.take.new.self) c.args.self.now.changed.keys c.take.ensures.copies c.requires
    c.flip.new.events.keys c.in_ok-flip.ensures.ok
