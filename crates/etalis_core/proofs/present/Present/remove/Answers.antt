use Rattle.std.proofs.Common.{◌∙◌}
use Rattle.support_table.specs.Copies.{copies_of}
use Rattle.etalis_core.proofs.PresentLaws.{was_less}
use Rattle.etalis_core.proofs.present.Present.remove.Goals as goal

pub returns-clause-was : goal.returns-clause-was
returns-clause-was c =
    was_less c.args.event.now (copies_of c.args.self.now.numbers) (copies_of c.take.new.self) c.args.self.now.changed.keys c.take.ensures.copies
    (λ is. c.if-number_of-eq1.false (c.number_of.ensures ∙ is))
