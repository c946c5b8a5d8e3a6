use Rattle.event_model.specs.declared.inputs.Input.TheVariants.{Add}
use Rattle.std.proofs.Common.{inr}
use Rattle.turn_calls.proofs.turns.add.Goals as goal

pub turn-requires : goal.turn-requires
turn-requires c = let (h, s, few) = c.requires in inr (c.in_ok-begin_adding.ensures h s).1.is_begun

pub returns-in-Done : goal.returns-in-Done
returns-in-Done c = λ h s.
    let (left, works) = c.in_ok-begin_adding.ensures h s in
    c.in_ok-turn.ensures.done h (Add c.args.event) left works c.in-Done.is
