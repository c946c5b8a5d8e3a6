use Rattle.std.proofs.Common.{ap, ◌∙◌}
use Rattle.pattern_meaning.specs.Replies.{change_by}
use Rattle.parcel_watch.proofs.watch.finish.Goals as goal

pub loop-preserved : goal.loop-preserved
loop-preserved c = record {
  working = c.in_ok-turn.ensures.working c.in-More.is;
  works = λ h input left w.
      let (now, on) = c.loop.invariant.works h input left w in
      let more = c.in_ok-turn.ensures.more h input now on c.in-More.is in (more.0, more.1);
  rules = c.turn.ensures.rules ∙ c.loop.invariant.rules;
  late = c.turn.ensures.late ∙ c.loop.invariant.late;
}

pub returns-in-Done-clause-stands : goal.returns-in-Done-clause-stands
returns-in-Done-clause-stands c = λ h input left w.
    let (now, on) = c.loop.invariant.works h input left w in c.in_ok-turn.ensures.done h input now on c.in-Done.is

pub returns-in-Done-clause-change : goal.returns-in-Done-clause-change
returns-in-Done-clause-change c = λ h input left w.
    let (now, on) = c.loop.invariant.works h input left w in
    c.in_ok-turn.ensures.change h input now on c.in-Done.is
    ∙ ap (λ r. change_by r h input) (c.turn.ensures.rules ∙ c.loop.invariant.rules)
