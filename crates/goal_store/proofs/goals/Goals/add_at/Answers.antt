use Rattle.std.proofs.Common.{◌∙◌, ◌+◌, ◌++◌, ◌∷◌, [], Some, refl, ap, arith}
use Rattle.goal_store.specs.declared.marks.Mark.TheVariants.{Fresh}
use Rattle.goal_store.proofs.Changing.{good_added, good_same}
use Rattle.goal_store.proofs.Holding.{some_row}
use Rattle.goal_store.proofs.goals.Goals.add_at.Goals as goal

pub returns-in_err-add-clause-good : goal.returns-in_err-add-clause-good
returns-in_err-add-clause-good c =
    good_same c.args.self.now (record { held = c.add.new.self; changed = c.make_room.new.changed }) c.requires.good c.add.ensures.held c.add.ensures.rows
    c.in_err-add.ensures.err c.add.ensures.length c.in_err-add.ensures.err_number c.make_room.ensures.items c.make_room.ensures.len c.make_room.ensures.capacity

pub returns-clause-good : goal.returns-clause-good
returns-clause-good c =
    let row = some_row _ c.requires.row in
    good_added c.args.self.now (record { held = c.add.new.self; changed = c.note.new.changed }) c.requires.good c.add.ensures.held c.args.number c.args.step (Some Fresh)
    c.in_ok-add.ensures.one (record { number = c.args.number; step = c.args.step }) refl
    (c.note.ensures.items ∙ ap (λ l. l ++ record { number = c.args.number; step = c.args.step } ∷ []) c.make_room.ensures.items)
    (c.note.ensures.len ∙ ap (λ n. n + 1) c.make_room.ensures.len) row.0 row.1 (c.in_ok-add.ensures.mark row.0 row.1) c.add.ensures.length c.requires.step
    c.requires.absent refl c.in_ok-add.ensures.number (omega (arith, c.note.ensures.capacity, c.in_ok-make_room.ensures.ok, c.in_ok-add.ensures.number))
