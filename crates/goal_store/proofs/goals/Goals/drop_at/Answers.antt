use Rattle.std.proofs.Common.{◌≡◌, ◌∙◌, Some, refl, sym, ap, length}
use Rattle.std.specs.Option.{is_some}
use Rattle.row_table.specs.Steps.{step_value}
use Rattle.goal_store.specs.declared.marks.Mark.TheVariants.{Old, Dying}
use Rattle.std.proofs.lemmas.Bool.{ltb-true}
use Rattle.goal_store.proofs.Changing.{good_dropped, room_left}
use Rattle.goal_store.proofs.Holding.{row_there}
use Rattle.goal_store.proofs.goals.Goals.drop_at.Goals as goal

pub note-requires : goal.note-requires
note-requires c =
    let was : step_value c.args.self.now.held.rows c.args.number c.args.step ≡ Some Old = sym c.in-Some-Old.ensures ∙ ap Some c.in-Some-Old.field-0-is in
    let row = row_there c.args.self.now.held.rows c.args.number c.args.step (ap is_some was) in
    record {
      room = room_left c.args.self.now c.requires.good c.args.number c.args.step was c.set.new.self c.set.ensures.held row.0 row.1
          (c.set.ensures.mark row.0 row.1) (ap (λ s. length s.items) c.set.ensures.steps);
    }

pub returns-in-Some-Old-clause-good : goal.returns-in-Some-Old-clause-good
returns-in-Some-Old-clause-good c =
    let was : step_value c.args.self.now.held.rows c.args.number c.args.step ≡ Some Old = sym c.in-Some-Old.ensures ∙ ap Some c.in-Some-Old.field-0-is in
    let row = row_there c.args.self.now.held.rows c.args.number c.args.step (ap is_some was) in
    good_dropped c.args.self.now (record { held = c.set.new.self; changed = c.note.new.changed }) c.requires.good c.set.ensures.held c.args.number c.args.step
    (Some Dying) c.set.ensures.one (record { number = c.args.number; step = c.args.step }) refl c.note.ensures.items c.note.ensures.len row.0 row.1
    (c.set.ensures.mark row.0 row.1) (ap (λ s. length s.items) c.set.ensures.steps)
    (ltb-true c.args.step _ (c.requires.good.held.within c.args.number c.args.step (ap is_some was))) was refl c.set.ensures.number c.note.ensures.capacity

pub returns-in-Some-Old-clause-dropped : goal.returns-in-Some-Old-clause-dropped
returns-in-Some-Old-clause-dropped c row at h = c.set.ensures.mark row at
