use Rattle.std.proofs.Common.{◌≡◌, ◌∙◌, Some, None, refl, sym, ap, arith, length}
use Rattle.std.specs.Option.{is_some}
use Rattle.row_table.specs.Steps.{step_value}
use Rattle.goal_store.specs.Marks.{settled}
use Rattle.goal_store.specs.declared.marks.Mark.TheVariants.{Old, Fresh, Dying}
use Rattle.goal_store.proofs.Changing.{settles_one}
use Rattle.goal_store.proofs.goals.settle_at.Goals as goal

pub returns-in-Some-Fresh-clause-done : goal.returns-in-Some-Fresh-clause-done
returns-in-Some-Fresh-clause-done c =
    let was : step_value c.args.held.now.rows c.args.number c.args.step ≡ Some Fresh = sym c.in-Some-Fresh.ensures ∙ ap Some c.in-Some-Fresh.field-0-is in
    settles_one c.args.held.now c.set.new.self c.requires.held c.set.ensures.held c.args.number c.args.step (Some Old) c.set.ensures.one c.set.ensures.mark
    (ap (λ s. length s.items) c.set.ensures.steps) (ap is_some was) (sym (ap settled was)) refl
    (omega (arith, c.set.ensures.number)) (omega (arith, c.set.ensures.number))

pub returns-in-Some-Dying-clause-done : goal.returns-in-Some-Dying-clause-done
returns-in-Some-Dying-clause-done c =
    let was : step_value c.args.held.now.rows c.args.number c.args.step ≡ Some Dying = sym c.in-Some-Dying.ensures ∙ ap Some c.in-Some-Dying.field-0-is in
    settles_one c.args.held.now c.take.new.self c.requires.held c.take.ensures.held c.args.number c.args.step None c.take.ensures.one c.take.ensures.mark
    c.take.ensures.length (ap is_some was) (sym (ap settled was)) refl
    (omega (arith, c.take.ensures.number)) (omega (arith, c.take.ensures.number))
