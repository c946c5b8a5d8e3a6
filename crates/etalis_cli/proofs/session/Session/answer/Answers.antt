use Rattle.std.proofs.Common.{◌++◌, ◌+◌, refl, ap, ◌∙◌, subst, arith}
use Rattle.event_model.specs.Lines.{without_cr}
use Rattle.event_model.specs.Presence.{after_verdict}
use Rattle.etalis_cli.specs.Output.{reply_to}
use Rattle.etalis_cli.specs.Feeds.{SendsBefore}
use Rattle.etalis_cli.specs.declared.voices.Tally.{Tally}
use Rattle.etalis_cli.proofs.NoteLaws.{any_err}
use Rattle.etalis_cli.proofs.SendLaws.{sends_more, part_sent, visits_here}
use Rattle.etalis_cli.proofs.SessionLaws.{judged_in, told, visits_of, tallied, stands_after}
use Rattle.etalis_cli.proofs.session.Session.answer.Goals as goal

pub count_answer-self-requires-clause-few_told : goal.count_answer-self-requires-clause-few_told
count_answer-self-requires-clause-few_told g c =
    let (t, p, few) = c.requires.stands in omega (arith, few, p.within.told, ap (λ (x : Tally). x.told) p.same_tally)

pub count_answer-self-requires-clause-few_withdrawn : goal.count_answer-self-requires-clause-few_withdrawn
count_answer-self-requires-clause-few_withdrawn g c =
    let (t, p, few) = c.requires.stands in omega (arith, few, p.within.withdrawn, ap (λ (x : Tally). x.withdrawn) p.same_tally)

-- what is told of the line is behind what is still gathered
pub returns-clause-reply : goal.returns-clause-reply
returns-clause-reply g c = λ t raw p is.
    let text = c.take_line.new.text.items in
    let self = c.args.self.now in
    let line = without_cr raw in
    let taken = c.in_ok-answer.ensures in
    sends_more (g.O.Sink.got c.args.out.now) (g.O.Sink.got c.take_line.new.out) c.args.text.now.items text (reply_to t line) c.push_answer.new.out.items taken.sends
    (c.in_ok-push_answer.ensures (after_verdict t.state.history (judged_in self t line)) (taken.stands t.state.history raw p.inputs is)
    ∙ ap (λ r. text ++ r) (told self c.take_line.new.engine t line _ p (taken.reply t.state.history raw p.inputs is (self.count + 1)) taken.rules taken.late))

pub returns-clause-early : goal.returns-clause-early
returns-clause-early g c = λ t raw p is.
    let text = c.take_line.new.text.items in
    let self = c.args.self.now in
    let line = without_cr raw in
    let taken = c.in_ok-answer.ensures in (
      text,
      subst (λ v. SendsBefore v (g.O.Sink.got c.args.out.now) (g.O.Sink.got c.take_line.new.out) c.args.text.now.items text) (visits_here self t line p)
          (taken.early t.state.history raw p.inputs is),
      c.in_ok-push_answer.ensures (after_verdict t.state.history (judged_in self t line)) (taken.stands t.state.history raw p.inputs is)
          ∙ ap (λ r. text ++ r) (told self c.take_line.new.engine t line _ p (taken.reply t.state.history raw p.inputs is (self.count + 1)) taken.rules taken.late),
    )

pub returns-in_err-push_answer-clause-err : goal.returns-in_err-push_answer-clause-err
returns-in_err-push_answer-clause-err g c =
    any_err _ (part_sent (g.O.Sink.got c.args.out.now) (g.O.Sink.got c.take_line.new.out) c.args.text.now.items c.take_line.new.text.items c.in_ok-answer.ensures.sends)

pub returns-clause-after : goal.returns-clause-after
returns-clause-after g c = λ t raw p is.
    let self = c.args.self.now in
    let line = without_cr raw in
    let taken = c.in_ok-answer.ensures in
    let stands = taken.stands t.state.history raw p.inputs is in
    let tally = c.count_answer-self.ensures.counts (after_verdict t.state.history (judged_in self t line)) (self.count + 1) (visits_of self t line) stands
    (taken.visits t.state.history raw p.inputs is)
    ∙ tallied self c.take_line.new.engine t line _ p (taken.reply t.state.history raw p.inputs is (self.count + 1)) taken.rules taken.late in
    stands_after self _ t line p taken.rules taken.late refl refl tally c.count_answer-self.ensures.more_told c.count_answer-self.ensures.more_withdrawn
    stands c.take_line.ensures.there (taken.all t.state.history raw p.inputs p.all is)
