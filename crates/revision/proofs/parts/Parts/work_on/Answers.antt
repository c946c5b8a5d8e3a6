use mathlib.Core.Logic.{∥∥₁_elim, ∥∥₁_map}
use Rattle.std.proofs.Math.Bridge.{le_prop}
use Rattle.std.proofs.Common.{◌<◌, length, refl, sym, subst, arith}
use Rattle.std.proofs.lemmas.List.{length-map}
use Rattle.rule_ast.specs.PlainPlans.{plain_step}
use Rattle.change_meaning.specs.Keys.{slots_at}
use Rattle.support_table.specs.Supports.{count_of}
use Rattle.goal_store.specs.Goals.{indexes_of}
use Rattle.step_changes.specs.Notes.{noted}
use Rattle.step_work.specs.Ways.{IsWayOf}
use Rattle.revision.specs.InHand.{steps_in}
use Rattle.revision.proofs.PartLaws.{read_at, sliced, step_there, work_at}
use Rattle.revision.proofs.parts.Parts.work_on.Goals as goal

pub index-way-requires : goal.index-way-requires
index-way-requires c = ∥∥₁_elim c.requires.course le_prop (λ p.
    let me = c.args.self.now in
    let n = p.2.ready.ways.number in
    let m = length-map me.plan.steps.items plain_step in
    let lt = c.requires.within in omega (arith, n, m, lt, me.ways.ok.0))

pub work-requires : goal.work-requires
work-requires c = ∥∥₁_map c.requires.course (λ p.
    let me = c.args.self.now in
    let step = read_at me.plan.steps.items me.finished c.index-step.result.now c.requires.within c.index-step.ensures in
    let n = p.2.ready.ways.number in
    let m = length-map me.plan.steps.items plain_step in
    let lt = c.requires.within in
    let within : me.finished < length me.ways.items = omega (arith, n, m, lt) in
    let way = read_at me.ways.items me.finished c.index-way.result.now within c.index-way.ensures in (
      slots_at (steps_in me),
      subst (λ cap. IsWayOf (indexes_of me.goals) cap (slots_at (steps_in me)) (plain_step c.index-step.result.now) c.index-way.result.now)
          (sym c.cap_at-cap.ensures)
          (p.2.ready.ways.each me.finished (plain_step c.index-step.result.now) c.index-way.result.now
          (sliced (steps_in me) me.finished (plain_step c.index-step.result.now)
          (step_there me.plan.steps.items me.finished c.index-step.result.now step))
          way),
    ))

pub returns-clause-work : goal.returns-clause-work
returns-clause-work c = λ s here ready.
    let me = c.args.self.now in
    let step = read_at me.plan.steps.items me.finished c.index-step.result.now c.requires.within c.index-step.ensures in
    let n = ready.ways.number in
    let m = length-map me.plan.steps.items plain_step in
    let lt = c.requires.within in
    let within : me.finished < length me.ways.items = omega (arith, n, m, lt) in
    let way = read_at me.ways.items me.finished c.index-way.result.now within c.index-way.ensures in
    work_at me.goals me.changed.items (count_of me.supports) me.events.items (steps_in me) me.ways.items me.finished c.cap_at-cap.result _
    (slots_at (steps_in me)) (plain_step c.index-step.result.now) s c.index-way.result.now me.spot c.work.new.spot (noted me.pending)
    (noted c.work.new.pending) c.args.units c.work.result (step_there me.plan.steps.items me.finished c.index-step.result.now step) way here
    c.cap_at-cap.ensures
    (rw c.deref.ensures.value at (rw c.deref-2.ensures.value at (c.work.ensures (slots_at (steps_in me)) (count_of me.supports))))
