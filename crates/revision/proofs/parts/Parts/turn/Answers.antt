use mathlib.Core.Logic.{∥∥₁_elim, ∥∥₁_map}
use Rattle.std.proofs.Math.Bridge.{le_prop}
use Rattle.std.proofs.Common.{◌+◌, ◌∙◌, ap, length, arith}
use Rattle.change_meaning.specs.Caps.{caps_in}
use Rattle.change_meaning.specs.Courses.{course_of}
use Rattle.revision.specs.Holding.{counted}
use Rattle.revision.specs.InHand.{steps_in}
use Rattle.revision.proofs.EndLaws.{still_goes, goes_on, stays_due, all_due, all_over}
use Rattle.revision.proofs.parts.Parts.turn.Goals as goal

pub returns-in-None-clause-turned : goal.returns-in-None-clause-turned
returns-in-None-clause-turned c = λ b E F left w ready.
    let me = c.args.self.now in
    let k = course_of (steps_in me) (caps_in me.caps) b E F in
    let t = rw c.in-None.is at (c.in_ok-all_steps.ensures.turned k left (record { on = w.course; ready = ready })) in
    goes_on me c.all_steps.new.self b E F left c.args.units w c.all_steps.ensures.stays t.0 t.1 t.2 t.3 c.saturating_add-self.result
    (c.saturating_add-self.ensures ∙ ap (λ n. counted (n + c.args.units)) c.all_steps.ensures.stays.made)

pub returns-in-None-clause-on : goal.returns-in-None-clause-on
returns-in-None-clause-on c = λ e. ∥∥₁_map c.requires (λ p.
    let t = rw c.in-None.is at (c.in_ok-all_steps.ensures.turned p.0 p.1 p.2) in
    (p.0, t.0, still_goes c.all_steps.new.self c.saturating_add-self.result p.0 t.0 t.1))

pub returns-in-None-clause-less : goal.returns-in-None-clause-less
returns-in-None-clause-less c = λ e. rw c.in-None.is at c.in_ok-all_steps.ensures.less

pub returns-in-None-clause-kept : goal.returns-in-None-clause-kept
returns-in-None-clause-kept c = λ e. let s = c.all_steps.ensures.stays in (λ i. record { gone = (s.gone i).items; come = (s.come i).items })

pub returns-in-None-clause-due : goal.returns-in-None-clause-due
returns-in-None-clause-due c = λ b E F left w ready was.
    stays_due c.args.self.now c.all_steps.new.self b E c.all_steps.ensures.stays was

pub follow_changes-requires : goal.follow_changes-requires
follow_changes-requires c = ∥∥₁_elim c.requires le_prop (λ p.
    let t = rw c.in-Some.is at (c.in_ok-all_steps.ensures.turned p.0 p.1 p.2) in
    let listed = t.0.ready.listed in
    let few = t.0.ready.few in
    let value = ap length c.deref-in-Some.ensures.value in omega (arith, listed, few, value))

pub returns-in_ok-follow_changes-in-Some-clause-turned : goal.returns-in_ok-follow_changes-in-Some-clause-turned
returns-in_ok-follow_changes-in-Some-clause-turned c = λ b E F left w ready.
    let me = c.args.self.now in
    let mid = c.all_steps.new.self in
    let k = course_of (steps_in me) (caps_in me.caps) b E F in
    let g = rw c.in-Some.is at (c.in_ok-all_steps.ensures.turned k left (record { on = w.course; ready = ready })) in
    all_over me mid c.all_steps.ensures.stays b E F left c.args.units c.in-Some.rest w g c.settle.new.self c.follow_changes.new.expiries
    c.tell_change.new.gone c.tell_change.new.come c.saturating_add-self-in-Some.result c.settle.ensures.marks c.settle.ensures.plan
    (rw c.deref.ensures.value at c.in_ok-tell_change-in-Some.ensures.gone)
    (rw c.deref.ensures.value at c.in_ok-tell_change-in-Some.ensures.come)
    (c.saturating_add-self-in-Some.ensures
    ∙ (λ i. counted (c.all_steps.ensures.stays.made i + c.saturating_sub.ensures i)))

pub returns-in_ok-follow_changes-in-Some-clause-due : goal.returns-in_ok-follow_changes-in-Some-clause-due
returns-in_ok-follow_changes-in-Some-clause-due c = λ b E F left w ready was.
    let me = c.args.self.now in
    let mid = c.all_steps.new.self in
    let k = course_of (steps_in me) (caps_in me.caps) b E F in
    let g = rw c.in-Some.is at (c.in_ok-all_steps.ensures.turned k left (record { on = w.course; ready = ready })) in
    all_due me mid c.all_steps.ensures.stays b E F left c.args.units c.in-Some.rest w g was c.follow_changes.new.expiries
    (rw c.deref-in-Some.ensures.value at c.in_ok-follow_changes-in-Some.ensures)
