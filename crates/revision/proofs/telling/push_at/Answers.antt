use Rattle.std.proofs.Common.{◌≡◌, ◌++◌, List, refl, sym, ◌∙◌, append-nil, subst, length, ◌<◌, ◌≤◌, arith, Some}
use Rattle.std.specs.Prelude.{Option, OnOk}
use Rattle.std.proofs.lemmas.Option.{slice_get_read, slice_get_past}
use Rattle.rule_ast.specs.PlainPlans.{PlainStep, plain_step}
use Rattle.step_meaning.specs.StepRows.{detections_of}
use Rattle.change_meaning.specs.Shown.{signed_rows}
use Rattle.step_changes.specs.Deltas.{plain_deltas}
use Rattle.step_changes.specs.declared.deltas.Delta.{Delta}
use Rattle.step_work.specs.Seen.{changed_rows}
use Rattle.revision.specs.Lists.{rows_at}
use Rattle.revision.proofs.PartLaws.{step_there, none_there}
use Rattle.revision.proofs.telling.push_at.Goals as goal

pub returns : goal.returns
returns c =
    let steps = c.args.steps.now in
    let past : length steps ≤ c.args.id = omega (arith, c.if-at-steps.false) in
    let none = none_there steps c.args.id (slice_get_past steps c.args.id past) in
    sym (append-nil c.args.out.now.items)
    ∙ (λ i. c.args.out.now.items ++ detections_of (sym none i) (signed_rows c.args.sign (rows_at c.args.changed.now c.args.id)))

pub returns-then-at-steps : goal.returns-then-at-steps
returns-then-at-steps c =
    let steps = c.args.steps.now in
    let within : c.args.id < length steps = omega (arith, c.if-at-steps.true) in
    let there = step_there steps c.args.id c.index-steps-at.result
    (slice_get_read steps (length steps) c.args.id c.index-steps-at.result refl within c.index-steps-at.is) in
    let tells : Option PlainStep → List Delta → Type 0 = λ o rows.
    OnOk c.push_step.result (c.push_step.new.out.items
    ≡ c.args.out.now.items ++ detections_of o (signed_rows c.args.sign (plain_deltas rows))) in
    subst (λ o. tells o (changed_rows c.args.changed.now c.args.id)) (sym there)
    (subst (λ rows. tells (Some (plain_step c.index-steps-at.result)) rows) c.rows_of-rows.ensures c.push_step.ensures)
