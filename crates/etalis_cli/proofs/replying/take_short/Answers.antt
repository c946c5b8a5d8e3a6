use Rattle.std.proofs.Common.{sym, ap, ◌∙◌, subst}
use Rattle.std.proofs.lemmas.Result.{on_ok_weaker}
use Rattle.event_model.specs.Presence.{Says, Fails, verdict}
use Rattle.event_model.specs.declared.inputs.Refusal.TheVariants.{Syntax}
use Rattle.event_reader.specs.Machine.{heard}
use Rattle.event_reader.proofs.LineLaws.{heard_short}
use Rattle.etalis_core.specs.StandsFor.{StandsFor, rules_of, late_of, last_change, visits_of}
use Rattle.etalis_cli.specs.Replying.{refusal_of}
use Rattle.etalis_cli.specs.StandsFor.{KeepsAll}
use Rattle.etalis_cli.proofs.ReplyLaws.{fails, says_refused, says_accepted, refused_reply, refused_history, accepted_history, accepted_answer, accepted_visits, not_refused, may_begin}
use Rattle.etalis_cli.specs.Feeds.{SendsBefore}
use Rattle.etalis_cli.proofs.SendLaws.{sends_none, part_none, before_none, for_refused, for_accepted}
use Rattle.etalis_cli.proofs.replying.take_short.Goals as goal

pub returns-in-Err-Syntax-clause-stands : goal.returns-in-Err-Syntax-clause-stands
returns-in-Err-Syntax-clause-stands g c = λ h p.
    let line = c.args.line.now in
    let late = late_of c.args.engine.now in
    let says = heard_short line (Fails c.in-Err-Syntax.at) (rw c.in-Err-Syntax.field-0-is at c.in-Err-Syntax.ensures) in
    subst (StandsFor c.args.engine.now) (refused_history h (verdict late h (heard line)) (Syntax c.in-Err-Syntax.at) (fails late h line c.in-Err-Syntax.at says)) p

pub returns-in-Err-Syntax-clause-all : goal.returns-in-Err-Syntax-clause-all
returns-in-Err-Syntax-clause-all g c = λ h p all.
    let line = c.args.line.now in
    let late = late_of c.args.engine.now in
    let says = heard_short line (Fails c.in-Err-Syntax.at) (rw c.in-Err-Syntax.field-0-is at c.in-Err-Syntax.ensures) in
    subst (KeepsAll c.args.roll.now late) (refused_history h (verdict late h (heard line)) (Syntax c.in-Err-Syntax.at) (fails late h line c.in-Err-Syntax.at says)) all

pub returns-in-Err-Syntax-clause-reply : goal.returns-in-Err-Syntax-clause-reply
returns-in-Err-Syntax-clause-reply g c = λ h p n.
    let line = c.args.line.now in
    let late = late_of c.args.engine.now in
    let says = heard_short line (Fails c.in-Err-Syntax.at) (rw c.in-Err-Syntax.field-0-is at c.in-Err-Syntax.ensures) in
    refused_reply (rules_of c.args.engine.now) h n (verdict late h (heard line)) (Syntax c.in-Err-Syntax.at) (fails late h line c.in-Err-Syntax.at says)

pub take_input-requires : goal.take_input-requires
take_input-requires g c =
    let (h, p, all, few) = c.requires.stands in
    (h, may_begin c.args.engine.now h c.in-Ok.input p (not_refused _ (sym (ap refusal_of (c.judge.ensures h p)) ∙ sym c.refusal_of.ensures ∙ c.in-None.is)) few, all)

pub returns-in-Some-clause-stands : goal.returns-in-Some-clause-stands
returns-in-Some-clause-stands g c = λ h p.
    let line = c.args.line.now in
    let late = late_of c.args.engine.now in
    let refuses = says_refused late h line c.in-Ok.input c.in-Some.refusal (heard_short line (Says c.in-Ok.input) c.in-Ok.ensures) (sym (ap refusal_of (c.judge.ensures h p)) ∙ sym c.refusal_of.ensures ∙ c.in-Some.is) in
    subst (StandsFor c.args.engine.now) (refused_history h (verdict late h (heard line)) c.in-Some.refusal refuses) p

pub returns-in-Some-clause-all : goal.returns-in-Some-clause-all
returns-in-Some-clause-all g c = λ h p all.
    let line = c.args.line.now in
    let late = late_of c.args.engine.now in
    let refuses = says_refused late h line c.in-Ok.input c.in-Some.refusal (heard_short line (Says c.in-Ok.input) c.in-Ok.ensures) (sym (ap refusal_of (c.judge.ensures h p)) ∙ sym c.refusal_of.ensures ∙ c.in-Some.is) in
    subst (KeepsAll c.args.roll.now late) (refused_history h (verdict late h (heard line)) c.in-Some.refusal refuses) all

pub returns-in-Some-clause-reply : goal.returns-in-Some-clause-reply
returns-in-Some-clause-reply g c = λ h p n.
    let line = c.args.line.now in
    let late = late_of c.args.engine.now in
    let refuses = says_refused late h line c.in-Ok.input c.in-Some.refusal (heard_short line (Says c.in-Ok.input) c.in-Ok.ensures) (sym (ap refusal_of (c.judge.ensures h p)) ∙ sym c.refusal_of.ensures ∙ c.in-Some.is) in
    refused_reply (rules_of c.args.engine.now) h n (verdict late h (heard line)) c.in-Some.refusal refuses

pub returns-in-None-clause-stands : goal.returns-in-None-clause-stands
returns-in-None-clause-stands g c = λ h p.
    let line = c.args.line.now in
    let late = late_of c.args.engine.now in
    let fine = not_refused _ (sym (ap refusal_of (c.judge.ensures h p)) ∙ sym c.refusal_of.ensures ∙ c.in-None.is) in
    let takes = says_accepted late h line c.in-Ok.input (heard_short line (Says c.in-Ok.input) c.in-Ok.ensures) fine in
    on_ok_weaker c.take_input.result (λ s. subst (StandsFor c.take_input.new.engine) (accepted_history h (verdict late h (heard line)) c.in-Ok.input takes) s) (c.take_input.ensures.stands h p)

pub returns-in-None-clause-all : goal.returns-in-None-clause-all
returns-in-None-clause-all g c = λ h p all.
    let line = c.args.line.now in
    let late = late_of c.args.engine.now in
    let fine = not_refused _ (sym (ap refusal_of (c.judge.ensures h p)) ∙ sym c.refusal_of.ensures ∙ c.in-None.is) in
    let takes = says_accepted late h line c.in-Ok.input (heard_short line (Says c.in-Ok.input) c.in-Ok.ensures) fine in
    on_ok_weaker c.take_input.result (λ k. subst (KeepsAll c.take_input.new.roll late) (accepted_history h (verdict late h (heard line)) c.in-Ok.input takes) k)
    (c.take_input.ensures.all h p fine all)

pub returns-in-None-clause-reply : goal.returns-in-None-clause-reply
returns-in-None-clause-reply g c = λ h p.
    let line = c.args.line.now in
    let late = late_of c.args.engine.now in
    let fine = not_refused _ (sym (ap refusal_of (c.judge.ensures h p)) ∙ sym c.refusal_of.ensures ∙ c.in-None.is) in
    let takes = says_accepted late h line c.in-Ok.input (heard_short line (Says c.in-Ok.input) c.in-Ok.ensures) fine in
    accepted_answer (rules_of c.args.engine.now) h (verdict late h (heard line)) c.in-Ok.input takes (last_change c.take_input.new.engine) c.take_input.result (c.take_input.ensures.reply h p)

pub returns-in-None-clause-visits : goal.returns-in-None-clause-visits
returns-in-None-clause-visits g c = λ h p.
    let line = c.args.line.now in
    let late = late_of c.args.engine.now in
    let fine = not_refused _ (sym (ap refusal_of (c.judge.ensures h p)) ∙ sym c.refusal_of.ensures ∙ c.in-None.is) in
    let takes = says_accepted late h line c.in-Ok.input (heard_short line (Says c.in-Ok.input) c.in-Ok.ensures) fine in
    accepted_visits (rules_of c.args.engine.now) late h (verdict late h (heard line)) c.in-Ok.input takes (visits_of c.take_input.new.engine) c.take_input.result (c.take_input.ensures.visits h p)

-- what goes out

pub returns-in-Err-Syntax-clause-sends : goal.returns-in-Err-Syntax-clause-sends
returns-in-Err-Syntax-clause-sends g c = sends_none (g.O.Sink.got c.args.out.now) c.args.text.now.items

pub returns-in-Err-Syntax-clause-early : goal.returns-in-Err-Syntax-clause-early
returns-in-Err-Syntax-clause-early g c = λ h p.
    let line = c.args.line.now in
    let late = late_of c.args.engine.now in
    let says = heard_short line (Fails c.in-Err-Syntax.at) (rw c.in-Err-Syntax.field-0-is at c.in-Err-Syntax.ensures) in
    before_none _ (g.O.Sink.got c.args.out.now) c.args.text.now.items
    (for_refused (rules_of c.args.engine.now) late h (verdict late h (heard line)) (Syntax c.in-Err-Syntax.at) (fails late h line c.in-Err-Syntax.at says))

pub returns-in-Err-Memory-clause-err : goal.returns-in-Err-Memory-clause-err
returns-in-Err-Memory-clause-err g c = part_none (g.O.Sink.got c.args.out.now) c.args.text.now.items

pub returns-in-Some-clause-sends : goal.returns-in-Some-clause-sends
returns-in-Some-clause-sends g c = sends_none (g.O.Sink.got c.args.out.now) c.args.text.now.items

pub returns-in-Some-clause-early : goal.returns-in-Some-clause-early
returns-in-Some-clause-early g c = λ h p.
    let line = c.args.line.now in
    let late = late_of c.args.engine.now in
    let refuses = says_refused late h line c.in-Ok.input c.in-Some.refusal (heard_short line (Says c.in-Ok.input) c.in-Ok.ensures) (sym (ap refusal_of (c.judge.ensures h p)) ∙ sym c.refusal_of.ensures ∙ c.in-Some.is) in
    before_none _ (g.O.Sink.got c.args.out.now) c.args.text.now.items (for_refused (rules_of c.args.engine.now) late h (verdict late h (heard line)) c.in-Some.refusal refuses)

pub returns-in-None-clause-early : goal.returns-in-None-clause-early
returns-in-None-clause-early g c = λ h p.
    let line = c.args.line.now in
    let late = late_of c.args.engine.now in
    let fine = not_refused _ (sym (ap refusal_of (c.judge.ensures h p)) ∙ sym c.refusal_of.ensures ∙ c.in-None.is) in
    let takes = says_accepted late h line c.in-Ok.input (heard_short line (Says c.in-Ok.input) c.in-Ok.ensures) fine in
    on_ok_weaker c.take_input.result
    (λ s. subst (λ v. SendsBefore v (g.O.Sink.got c.args.out.now) (g.O.Sink.got c.take_input.new.out) c.args.text.now.items c.take_input.new.text.items)
    (for_accepted (rules_of c.args.engine.now) late h (verdict late h (heard line)) c.in-Ok.input takes) s)
    (c.take_input.ensures.early h p)
