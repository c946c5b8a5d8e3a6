use Rattle.std.proofs.Common.{ap, ◌∙◌}
use Rattle.pattern_meaning.specs.Replies.{change_by}
use Rattle.revision.specs.Holding.{counted as capped}
use Rattle.etalis_core.specs.StandsFor.{visits_by}
use Rattle.etalis_cli.proofs.replying.go_on.Goals as goal

pub loop-preserved : goal.loop-preserved
loop-preserved c = record {
  working = c.in-Ok-More.ensures.working c.in-Ok-More.field-0-is;
  works = λ h input left w.
      let (now, on) = c.loop.invariant.works h input left w in
      let more = c.in-Ok-More.ensures.more h input now on c.in-Ok-More.field-0-is in (more.0, more.1);
  rules = c.turn.ensures.rules ∙ c.loop.invariant.rules;
  late = c.turn.ensures.late ∙ c.loop.invariant.late;
}

pub returns-in-Ok-Done-clause-stands : goal.returns-in-Ok-Done-clause-stands
returns-in-Ok-Done-clause-stands c = λ h input left w.
    let (now, on) = c.loop.invariant.works h input left w in c.in-Ok-Done.ensures.done h input now on c.in-Ok-Done.field-0-is

pub returns-in-Ok-Done-clause-change : goal.returns-in-Ok-Done-clause-change
returns-in-Ok-Done-clause-change c = λ h input left w.
    let (now, on) = c.loop.invariant.works h input left w in
    c.in-Ok-Done.ensures.change h input now on c.in-Ok-Done.field-0-is
    ∙ ap (λ r. change_by r h input) (c.turn.ensures.rules ∙ c.loop.invariant.rules)

pub returns-in-Ok-Done-clause-visits : goal.returns-in-Ok-Done-clause-visits
returns-in-Ok-Done-clause-visits c = λ h input left w.
    let (now, on) = c.loop.invariant.works h input left w in
    c.in-Ok-Done.ensures.visits h input now on c.in-Ok-Done.field-0-is
    ∙ (λ i. capped (visits_by (c.loop.invariant.rules i) (c.loop.invariant.late i) h input))
