use mathlib.Core.Logic.{∥∥₁_elim}
use Rattle.std.proofs.Math.Bridge.{le_prop}
use Rattle.std.specs.Coded.{Coded-set, coded_ℕ}
use Rattle.std.proofs.Common.{◌≡◌, ◌<◌, ◌^◌, length, refl, sym, ◌∙◌, arith}
use Rattle.std.proofs.lemmas.Option.{same_Some}
use Rattle.event_changes.specs.declared.changes.Sign.{Sign}
use Rattle.ev_bind.specs.declared.rows.Row.{Row}
use Rattle.rule_ast.specs.PlainPlans.{plain_step}
use Rattle.support_table.specs.Supports.{count_of}
use Rattle.step_changes.specs.Notes.{noted}
use Rattle.step_work.specs.Views.{settled}
use Rattle.revision.proofs.MarkLaws.{mark_set}
use Rattle.revision.proofs.PartLaws.{read_at, step_there, over_fewer, over_room, over_marks, step_stored, step_listed, finished_then, ready_then}
use Rattle.revision.proofs.parts.Parts.finish_step.Goals as goal

pub overflow_cast-id : goal.overflow_cast-id
overflow_cast-id c =
    let small : c.args.self.now.finished < 2 ^ 32 =
    ∥∥₁_elim c.requires.over le_prop (λ o. let few = o.ready.few in let lt = c.requires.within in omega (arith, few, lt)) in
    omega (arith, small)

pub settle_notes-requires : goal.settle_notes-requires
settle_notes-requires c = λ s r. ∥∥₁_elim c.requires.over (Coded-set coded_ℕ _ _) (λ o. o.ready.none s r)

pub apply_notes-requires-clause-step : goal.apply_notes-requires-clause-step
apply_notes-requires-clause-step c = ∥∥₁_elim c.requires.over le_prop (λ o. step_stored c.args.self.now o c.requires.within)

pub apply_notes-requires-clause-list : goal.apply_notes-requires-clause-list
apply_notes-requires-clause-list c = ∥∥₁_elim c.requires.over le_prop (λ o. step_listed c.args.self.now o c.requires.within)

pub apply_notes-requires-clause-room : goal.apply_notes-requires-clause-room
apply_notes-requires-clause-room c = λ r. ∥∥₁_elim c.requires.over le_prop (λ o.
    let me = c.args.self.now in
    let there = read_at me.plan.steps.items me.finished c.index-step.result.now c.requires.within c.index-step.ensures in
    over_room me o c.index-step.result.now there (noted c.settle_notes.new.pending) c.in_ok-settle_notes.ensures.noted r)

pub apply_notes-requires-clause-fewer : goal.apply_notes-requires-clause-fewer
apply_notes-requires-clause-fewer c = λ r. ∥∥₁_elim c.requires.over le_prop (λ o.
    let me = c.args.self.now in
    let there = read_at me.plan.steps.items me.finished c.index-step.result.now c.requires.within c.index-step.ensures in
    over_fewer me o c.index-step.result.now there (noted c.settle_notes.new.pending) c.in_ok-settle_notes.ensures.noted r)

pub apply_notes-requires-clause-old : goal.apply_notes-requires-clause-old
apply_notes-requires-clause-old c = λ r. ∥∥₁_elim c.requires.over (mark_set _ _) (λ o. over_marks c.args.self.now o r)

pub returns-clause-finishes : goal.returns-clause-finishes
returns-clause-finishes c = λ s here ready.
    let me = c.args.self.now in
    let there = read_at me.plan.steps.items me.finished c.index-step.result.now c.requires.within c.index-step.ensures in
    let same : plain_step c.index-step.result.now ≡ s =
    same_Some (plain_step c.index-step.result.now) s
    (sym (step_there me.plan.steps.items me.finished c.index-step.result.now there) ∙ here) in
    let settles : (t : Sign) (r : Row) → noted c.settle_notes.new.pending t r
    ≡ settled s (count_of me.supports me.finished) (noted me.pending) t r =
    (λ t r. c.in_ok-settle_notes.ensures.noted t r ∙ (λ i. settled (same i) (count_of me.supports me.finished) (noted me.pending) t r)) in
    let done = c.in_ok-apply_notes.ensures in
    finished_then me s here ready c.apply_notes.new.goals c.apply_notes.new.supports c.apply_notes.new.pending c.settle_notes.new.spare
    c.apply_notes.new.changed c.start.result c.start.ensures (noted c.settle_notes.new.pending) settles done.plan
    done.counts (λ j r d. done.other_counts j r d)
    (λ r. ∥∥₁_elim c.requires.over le_prop (λ o.
    over_room me o c.index-step.result.now there (noted c.settle_notes.new.pending) c.in_ok-settle_notes.ensures.noted r))
    done.changed done.other_changed done.marks done.other_marks done.empty

pub returns-clause-ready : goal.returns-clause-ready
returns-clause-ready c = λ ready.
    let me = c.args.self.now in
    let there = read_at me.plan.steps.items me.finished c.index-step.result.now c.requires.within c.index-step.ensures in
    let done = c.in_ok-apply_notes.ensures in
    ready_then me (plain_step c.index-step.result.now) (step_there me.plan.steps.items me.finished c.index-step.result.now there) ready
    c.apply_notes.new.goals c.apply_notes.new.supports c.apply_notes.new.pending c.settle_notes.new.spare
    c.apply_notes.new.changed c.start.result c.start.ensures (noted c.settle_notes.new.pending) c.in_ok-settle_notes.ensures.noted done.plan
    done.lists c.in_ok-settle_notes.ensures.none
