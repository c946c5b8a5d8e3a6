use Rattle.std.proofs.Common.{sym, ◌∙◌}
use Rattle.support_table.specs.Copies.{copies_of}
use Rattle.etalis_core.proofs.PresentLaws.{was_come, was_more, was_none, was_some}
use Rattle.etalis_core.proofs.present.Present.add.Goals as goal

pub returns-in_default-clause-was : goal.returns-in_default-clause-was
returns-in_default-clause-was c =
    was_come c.args.event.now (copies_of c.args.self.now.numbers) (copies_of c.add.new.self) c.args.self.now.changed.keys c.in_ok-add.ensures.copies
    (was_none _ (sym c.in-Appeared.is ∙ c.in_ok-add.ensures.change)) c.flip.new.events.keys c.in_default.ensures.ok

pub returns-in-Same : goal.returns-in-Same
returns-in-Same c = record {
  numbers = c.in_ok-add.ensures.copies;
  was = was_more c.args.event.now (copies_of c.args.self.now.numbers) (copies_of c.add.new.self) c.args.self.now.changed.keys c.in_ok-add.ensures.copies
      (was_some _ _ c.in-Same.is c.in_ok-add.ensures.change);
  err_numbers = λ e. tt;
  err_changed = tt;
}
