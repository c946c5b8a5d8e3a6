use mathlib.Core.Logic.{∥∥₁_elim, ∥∥₁_map}
use Rattle.std.specs.Coded.{Coded-set, coded_ℕ}
use Rattle.std.proofs.Common.{◌+◌, ◌<◌, length, map, refl, ◌∙◌, ap, arith}
use Rattle.std.proofs.lemmas.List.{length-map}
use Rattle.rule_ast.specs.PlainPlans.{plain_step}
use Rattle.revision.specs.InHand.{steps_in}
use Rattle.revision.specs.declared.parts.Parts.{Parts}
use Rattle.revision.proofs.PartLaws.{read_at, some_step, step_there, ready_on, there_on, stays_mid, stays_at, goes_on, fewer_on, over_on, ends_on}
use Rattle.revision.proofs.parts.Parts.one_step.Goals as goal

here : (p : Parts) → p.finished < length p.plan.steps.items → p.finished < length (steps_in p)
here p lt = let n = length-map p.plan.steps.items plain_step in omega (arith, n, lt)

pub returns-in_default-clause-turn : goal.returns-in_default-clause-turn
returns-in_default-clause-turn c = λ k left g.
    let me = c.args.self.now in
    let s = some_step (steps_in me) me.finished (here me c.requires.within) in
    let w = rw c.in_default.is at (c.in_ok-rest.ensures.work s.0 s.1 g.ready) in
    goes_on me c.work_on.new.self c.work_on.ensures.rest k left c.args.units g s.0 s.1 w

pub returns-in_default-clause-further : goal.returns-in_default-clause-further
returns-in_default-clause-further c =
    let me = c.args.self.now in
    let e = c.work_on.ensures.rest in (
      ap (λ p. length (steps_in p)) e,
      ap (λ p. p.finished) e,
      ∥∥₁_elim c.requires.course (Coded-set coded_ℕ _ _) (λ p.
          let s = some_step (steps_in me) me.finished (here me c.requires.within) in
          let w = rw c.in_default.is at (c.in_ok-rest.ensures.work s.0 s.1 p.2.ready) in
          fewer_on me c.work_on.new.self e p.0 p.1 c.args.units p.2 s.0 s.1 w),
    )

pub finish_step-requires-clause-within : goal.finish_step-requires-clause-within
finish_step-requires-clause-within c =
    let e = c.work_on.ensures.rest in
    let n = ap (λ p. p.finished) e in
    let m = ap (λ p. length p.plan.steps.items) e in
    let lt = c.requires.within in omega (arith, n, m, lt)

pub finish_step-requires-clause-over : goal.finish_step-requires-clause-over
finish_step-requires-clause-over c = ∥∥₁_map c.requires.course (λ p.
    let me = c.args.self.now in
    let s = some_step (steps_in me) me.finished (here me c.requires.within) in
    let w = rw c.in-Some.is at (c.in_ok-rest.ensures.work s.0 s.1 p.2.ready) in
    over_on me c.work_on.new.self c.work_on.ensures.rest p.0 p.1 c.args.units p.2 s.0 s.1 c.in-Some.rest w)

pub returns-clause-turn : goal.returns-clause-turn
returns-clause-turn c = λ k left g.
    let me = c.args.self.now in
    let mid = c.work_on.new.self in
    let e = c.work_on.ensures.rest in
    let s = some_step (steps_in me) me.finished (here me c.requires.within) in
    let w = rw c.in-Some.is at (c.in_ok-rest.ensures.work s.0 s.1 g.ready) in
    let ready = ready_on me mid e g.ready in
    ends_on me mid e k left c.args.units g s.0 s.1 c.in-Some.rest c.finish_step.new.self w
    (c.in_ok-finish_step.ensures.finishes s.0 (there_on me mid e s.0 s.1) ready) (c.in_ok-finish_step.ensures.ready ready)

pub returns-clause-further : goal.returns-clause-further
returns-clause-further c =
    let me = c.args.self.now in
    let mid = c.work_on.new.self in
    let e = c.work_on.ensures.rest in (
      ap (λ p. length (map plain_step p.steps.items)) c.finish_step.ensures.stays.plan ∙ ap (λ p. length (steps_in p)) e,
      c.in_ok-finish_step.ensures.next ∙ ap (λ p. p.finished + 1) e,
    )

pub returns-clause-stays : goal.returns-clause-stays
returns-clause-stays c =
    stays_mid c.args.self.now c.work_on.new.self c.work_on.ensures.rest c.finish_step.new.self c.finish_step.ensures.stays

pub returns-in_default-clause-stays : goal.returns-in_default-clause-stays
returns-in_default-clause-stays c = stays_at c.args.self.now c.work_on.new.self c.work_on.ensures.rest

pub returns-then-is_idle-clause-turn : goal.returns-then-is_idle-clause-turn
returns-then-is_idle-clause-turn c = λ k left g.
    let me = c.args.self.now in
    let there = read_at me.plan.steps.items me.finished c.index-step.result.now c.requires.within c.index-step.ensures in
    c.pass_step.ensures.passes k left c.args.units (plain_step c.index-step.result.now) g
    (step_there me.plan.steps.items me.finished c.index-step.result.now there)
    ((rw c.deref.ensures.value at c.is_idle.ensures) c.if-is_idle.true)

pub returns-then-is_idle-clause-further : goal.returns-then-is_idle-clause-further
returns-then-is_idle-clause-further c =
    (ap (λ p. length (map plain_step p.steps.items)) c.pass_step.ensures.stays.plan, c.pass_step.ensures.next)
