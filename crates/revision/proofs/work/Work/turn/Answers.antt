use mathlib.Core.Logic.{∥∥₁_map}
use Rattle.std.proofs.Common.{refl, ap, map}
use Rattle.rule_ast.specs.PlainPlans.{plain_step}
use Rattle.change_meaning.specs.Caps.{caps_in}
use Rattle.revision.specs.Working.{hand_of, shown_of, IsFit, HasDue, change_of, made_of, is_working, is_broken, work_left}
use Rattle.revision.proofs.WorkLaws.{stands_on, made_more, made_all}
use Rattle.revision.proofs.work.Work.turn.Goals as goal

pub turn-requires : goal.turn-requires
unfolding is_working
turn-requires c = ∥∥₁_map c.args.self.now.stands (λ s. stands_on c.args.self.now.state c.args.self.now.parts c.requires s)

pub returns-in-Ok-More-clause-turned : goal.returns-in-Ok-More-clause-turned
unfolding hand_of IsFit HasDue made_of is_working is_broken
returns-in-Ok-More-clause-turned c = λ b E F left w.
    let done = c.turn.ensures in
    let g = rw c.in-Ok-More.field-0-is at (c.in-Ok-More.ensures.turned b E F left w.works w.fit) in (
      g.now,
      record {
        works = g.works;
        due = rw c.in-Ok-More.field-0-is at (c.in-Ok-More.ensures.due b E F left w.works w.fit w.due);
        fit = g.ready;
        made = made_more c.args.self.now.parts c.turn.new.self done.plan done.caps b E F left c.args.units w.works w.made g;
        working = refl;
        unbroken = refl;
      },
      g.spent,
      g.more,
    )

pub returns-in-Ok-Done-clause-turned : goal.returns-in-Ok-Done-clause-turned
unfolding hand_of IsFit HasDue made_of is_working is_broken
returns-in-Ok-Done-clause-turned c = λ b E F left w.
    let done = c.turn.ensures in
    let g = rw c.in-Ok-Done.field-0-is at (c.in-Ok-Done.ensures.turned b E F left w.works w.fit) in (
      record {
        holds = g.holds;
        due = rw c.in-Ok-Done.field-0-is at (c.in-Ok-Done.ensures.due b E F left w.works w.fit w.due);
        fit = g.ready;
        resting = refl;
        unbroken = refl;
      },
      g.within,
      made_all c.args.self.now.parts c.turn.new.self done.plan done.caps b E F left c.args.units w.works w.made g,
    )

pub returns-in-Ok-Done-clause-change : goal.returns-in-Ok-Done-clause-change
unfolding hand_of shown_of IsFit change_of
returns-in-Ok-Done-clause-change c = λ b E F left w e.
    (rw c.in-Ok-Done.field-0-is at (c.in-Ok-Done.ensures.turned b E F left w.works w.fit)).told

pub returns-in-Ok-More-clause-kept : goal.returns-in-Ok-More-clause-kept
unfolding change_of
returns-in-Ok-More-clause-kept c = λ e. (rw c.in-Ok-More.field-0-is at c.in-Ok-More.ensures.kept) refl

pub returns-in-Ok-More-clause-less : goal.returns-in-Ok-More-clause-less
unfolding hand_of work_left
returns-in-Ok-More-clause-less c = λ some e. (rw c.in-Ok-More.field-0-is at c.in-Ok-More.ensures.less) refl some

pub invariant_of-self : goal.invariant_of-self
invariant_of-self c = record { stands = (rw c.in-Ok-More.field-0-is at c.in-Ok-More.ensures.on) refl }

pub returns-in-Ok-More-clause-plan : goal.returns-in-Ok-More-clause-plan
unfolding hand_of shown_of
returns-in-Ok-More-clause-plan c = record {
  steps = ap (λ p. map plain_step p.steps.items) c.turn.ensures.plan;
  caps = ap caps_in c.turn.ensures.caps;
  shown = ap (λ p. p.shown.items) c.turn.ensures.plan;
}

pub returns-in-Ok-Done-clause-plan : goal.returns-in-Ok-Done-clause-plan
unfolding hand_of shown_of
returns-in-Ok-Done-clause-plan c = record {
  steps = ap (λ p. map plain_step p.steps.items) c.turn.ensures.plan;
  caps = ap caps_in c.turn.ensures.caps;
  shown = ap (λ p. p.shown.items) c.turn.ensures.plan;
}

pub returns-in-Err-clause-plan : goal.returns-in-Err-clause-plan
unfolding hand_of shown_of
returns-in-Err-clause-plan c = record {
  steps = ap (λ p. map plain_step p.steps.items) c.turn.ensures.plan;
  caps = ap caps_in c.turn.ensures.caps;
  shown = ap (λ p. p.shown.items) c.turn.ensures.plan;
}
