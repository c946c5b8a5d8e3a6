use Rattle.std.proofs.Common.{ap, ◌∙◌, arith}
use Rattle.pattern_meaning.specs.Replies.{change_by}
use Rattle.revision.specs.Holding.{counted as capped}
use Rattle.etalis_core.specs.StandsFor.{visits_by}
use Rattle.etalis_cli.proofs.SendLaws.{sends_none, part_none, before_quick, before_slow}
use Rattle.etalis_cli.proofs.replying.finish.Goals as goal

-- one turn was enough

pub returns-in-Ok-Done-clause-stands : goal.returns-in-Ok-Done-clause-stands
returns-in-Ok-Done-clause-stands g c = λ h input left w. c.in-Ok-Done.ensures.done h input left w c.in-Ok-Done.field-0-is

pub returns-in-Ok-Done-clause-change : goal.returns-in-Ok-Done-clause-change
returns-in-Ok-Done-clause-change g c = λ h input left w.
    c.in-Ok-Done.ensures.change h input left w c.in-Ok-Done.field-0-is ∙ ap (λ r. change_by r h input) c.turn.ensures.rules

pub returns-in-Ok-Done-clause-visits : goal.returns-in-Ok-Done-clause-visits
returns-in-Ok-Done-clause-visits g c = λ h input left w. c.in-Ok-Done.ensures.visits h input left w c.in-Ok-Done.field-0-is

pub returns-in-Ok-Done-clause-early : goal.returns-in-Ok-Done-clause-early
returns-in-Ok-Done-clause-early g c = λ h input left w.
    before_quick left (g.O.Sink.got c.args.out.now) c.args.text.now.items (c.in-Ok-Done.ensures.enough h input left w c.in-Ok-Done.field-0-is)

pub returns-in-Ok-Done-clause-sends : goal.returns-in-Ok-Done-clause-sends
returns-in-Ok-Done-clause-sends g c = sends_none (g.O.Sink.got c.args.out.now) c.args.text.now.items

pub returns-in-Err-clause-err : goal.returns-in-Err-clause-err
returns-in-Err-clause-err g c = part_none (g.O.Sink.got c.args.out.now) c.args.text.now.items

-- it wasn't

pub returns-in_err-send_all-in-Ok-More-clause-first : goal.returns-in_err-send_all-in-Ok-More-clause-first
returns-in_err-send_all-in-Ok-More-clause-first g c = λ h input left w failed.
    let (now, on, sum, some) = c.in-Ok-More.ensures.more h input left w c.in-Ok-More.field-0-is in (now, on, sum)

pub returns-in_ok-go_on-in-Ok-More-clause-stands : goal.returns-in_ok-go_on-in-Ok-More-clause-stands
returns-in_ok-go_on-in-Ok-More-clause-stands g c = λ h input left w.
    let (now, on, sum, some) = c.in-Ok-More.ensures.more h input left w c.in-Ok-More.field-0-is in
    c.in_ok-go_on-in-Ok-More.ensures.stands h input now on

pub returns-in_ok-go_on-in-Ok-More-clause-change : goal.returns-in_ok-go_on-in-Ok-More-clause-change
returns-in_ok-go_on-in-Ok-More-clause-change g c = λ h input left w.
    let (now, on, sum, some) = c.in-Ok-More.ensures.more h input left w c.in-Ok-More.field-0-is in
    c.in_ok-go_on-in-Ok-More.ensures.change h input now on ∙ ap (λ r. change_by r h input) c.turn.ensures.rules

pub returns-in_ok-go_on-in-Ok-More-clause-visits : goal.returns-in_ok-go_on-in-Ok-More-clause-visits
returns-in_ok-go_on-in-Ok-More-clause-visits g c = λ h input left w.
    let (now, on, sum, some) = c.in-Ok-More.ensures.more h input left w c.in-Ok-More.field-0-is in
    c.in_ok-go_on-in-Ok-More.ensures.visits h input now on ∙ (λ i. capped (visits_by (c.turn.ensures.rules i) (c.turn.ensures.late i) h input))

pub returns-in_ok-go_on-in-Ok-More-clause-early : goal.returns-in_ok-go_on-in-Ok-More-clause-early
returns-in_ok-go_on-in-Ok-More-clause-early g c = λ h input left w.
    let (now, on, sum, some) = c.in-Ok-More.ensures.more h input left w c.in-Ok-More.field-0-is in
    before_slow left _ _ c.args.text.now.items _ (omega (arith, sum, some)) c.in_ok-send_all-in-Ok-More.ensures.ok c.in_ok-send_all-in-Ok-More.ensures.none
