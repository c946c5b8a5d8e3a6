use Rattle.std.proofs.Common.{sym, ◌∙◌}
use Rattle.etalis_core.proofs.PresentLaws.{turned_out}
use Rattle.etalis_core.proofs.present.flip.Goals as goal

pub returns-else-not-remove-clause-ok : goal.returns-else-not-remove-clause-ok
returns-else-not-remove-clause-ok c = λ e. turned_out c.args.event.now e c.args.events.now.keys c.remove.new.self.keys (sym c.remove.ensures.test ∙ c.if-not-remove.false) (c.remove.ensures.updates.0 e)
