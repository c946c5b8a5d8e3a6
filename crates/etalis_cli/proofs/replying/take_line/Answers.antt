use Rattle.std.proofs.Common.{◌≤◌, length, sym, subst}
use Rattle.event_model.specs.Lines.{without_cr}
use Rattle.event_model.specs.Presence.{verdict}
use Rattle.event_model.specs.declared.inputs.Refusal.TheVariants.{Syntax}
use Rattle.event_model.specs.declared.inputs.TheConstants.{MOST_LINE_BYTES}
use Rattle.line_reader.specs.Cutting.{IsLine}
use Rattle.event_reader.specs.Machine.{heard}
use Rattle.etalis_core.specs.StandsFor.{StandsFor, rules_of, late_of}
use Rattle.etalis_cli.specs.StandsFor.{KeepsAll}
use Rattle.etalis_cli.proofs.ReplyLaws.{fails, refused_reply, refused_history}
use Rattle.etalis_cli.proofs.SessionLaws.{heard_long}
use Rattle.etalis_cli.proofs.SendLaws.{sends_none, before_none, for_refused}
use Rattle.etalis_cli.proofs.replying.take_line.Goals as goal

pub take_short-requires-clause-short : goal.take_short-requires-clause-short
take_short-requires-clause-short g c =
    let (raw, is) = c.requires.line in
    let line = subst (λ line. IsLine line raw) c.in-Bytes.is is in
    subst (λ l. length l ≤ MOST_LINE_BYTES) (sym line.0) line.1

pub returns-in-Long-clause-stands : goal.returns-in-Long-clause-stands
returns-in-Long-clause-stands g c = λ h raw p is.
    let line = without_cr raw in
    let late = late_of c.args.engine.now in
    let says = heard_long line (subst (λ line. IsLine line raw) c.in-Long.is is) in
    subst (StandsFor c.args.engine.now) (refused_history h (verdict late h (heard line)) (Syntax MOST_LINE_BYTES) (fails late h line MOST_LINE_BYTES says)) p

pub returns-in-Long-clause-all : goal.returns-in-Long-clause-all
returns-in-Long-clause-all g c = λ h raw p all is.
    let line = without_cr raw in
    let late = late_of c.args.engine.now in
    let says = heard_long line (subst (λ line. IsLine line raw) c.in-Long.is is) in
    subst (KeepsAll c.args.roll.now late) (refused_history h (verdict late h (heard line)) (Syntax MOST_LINE_BYTES) (fails late h line MOST_LINE_BYTES says)) all

pub returns-in-Long-clause-reply : goal.returns-in-Long-clause-reply
returns-in-Long-clause-reply g c = λ h raw p is n.
    let line = without_cr raw in
    let late = late_of c.args.engine.now in
    let says = heard_long line (subst (λ line. IsLine line raw) c.in-Long.is is) in
    refused_reply (rules_of c.args.engine.now) h n (verdict late h (heard line)) (Syntax MOST_LINE_BYTES) (fails late h line MOST_LINE_BYTES says)

pub returns-in-Long-clause-sends : goal.returns-in-Long-clause-sends
returns-in-Long-clause-sends g c = sends_none (g.O.Sink.got c.args.out.now) c.args.text.now.items

pub returns-in-Long-clause-early : goal.returns-in-Long-clause-early
returns-in-Long-clause-early g c = λ h raw p is.
    let line = without_cr raw in
    let late = late_of c.args.engine.now in
    let says = heard_long line (subst (λ line. IsLine line raw) c.in-Long.is is) in
    before_none _ (g.O.Sink.got c.args.out.now) c.args.text.now.items
    (for_refused (rules_of c.args.engine.now) late h (verdict late h (heard line)) (Syntax MOST_LINE_BYTES) (fails late h line MOST_LINE_BYTES says))
