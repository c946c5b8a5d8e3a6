use Rattle.std.proofs.Common.{◌++◌, sym, ap, ◌∙◌, append_assoc}
use Rattle.std.proofs.lemmas.Result.{on_ok_weaker}
use Rattle.pattern_meaning.specs.Replies.{reply_text}
use Rattle.etalis_core.specs.StandsFor.{rules_of, late_of, last_change, rows_kept, events_kept}
use Rattle.etalis_cli.specs.Output.{held_in, voiced}
use Rattle.etalis_cli.specs.Replying.{reply_by}
use Rattle.etalis_cli.proofs.telling.push_answer.Goals as goal

pub returns-in_ok-push_reply-in-Held : goal.returns-in_ok-push_reply-in-Held
returns-in_ok-push_reply-in-Held c = λ h s.
    let old = c.args.out.now.items in
    let reply = reply_by c.args.number c.args.answer (last_change c.args.engine.now) in
    let rows = rows_kept (rules_of c.args.engine.now) (late_of c.args.engine.now) h in
    let events = events_kept (late_of c.args.engine.now) h in
    on_ok_weaker c.push_held.result
    (λ e. e ∙ ap (λ l. l ++ held_in reply rows events) c.in_ok-push_reply-in-Held.ensures
    ∙ append_assoc old (reply_text reply) (held_in reply rows events) ∙ sym (ap (λ v. old ++ voiced v reply rows events) c.in-Held.is))
    (c.push_held.ensures h c.args.number s)
