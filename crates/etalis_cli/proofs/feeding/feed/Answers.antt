use Rattle.std.proofs.Common.{[], ◌++◌, refl, sym, ◌∙◌, subst, arith}
use Rattle.flow_ports.specs.Flow.{Gives, GivesPart}
use Rattle.flow_ports.proofs.FlowLemmas.{append_known-nil}
use Rattle.event_model.specs.Lines.{without_cr}
use Rattle.etalis_cli.specs.Output.{reply_to}
use Rattle.etalis_cli.proofs.NoteLaws.{any_err, gives_both}
use Rattle.etalis_cli.proofs.FeedLaws.{drained_none, drained_line, drained_all, taken_line, taken_count, reply_more, sent_more, part_taken}
use Rattle.etalis_cli.proofs.feeding.feed.Goals as goal

pub loop-line-init : goal.loop-line-init
loop-line-init g c = record {
  sending = λ s part b. record {
    sent = [];
    gives = sym (append_known-nil (g.O.Sink.got c.args.out.now));
    drained = drained_none s part c.args.piece.now c.clear.new.self.items c.args.session.now c.feed.new.self c.clear.ensures.items b.stands (c.in_ok-feed.ensures.ok part b.holds);
  };
  count = refl;
}

pub answer-requires : goal.answer-requires
answer-requires g c =
    let (s, part, b, few) = c.requires in
    let d = (c.loop-line.invariant.sending s part b).drained in
    let q = c.in-Some.ensures.line d.taken.left d.holds in
    record {
      stands = (d.taken.reached, d.stands, omega (arith, few, taken_count s part c.args.piece.now _ d.taken b.plain));
      line = (q.0, q.4);
    }

-- where a call fails, what went out is a first part of the replies

pub returns-in_err-answer-clause-err : goal.returns-in_err-answer-clause-err
returns-in_err-answer-clause-err g c = λ t part b.
    let so_far = c.loop-line.invariant.sending t part b in
    any_err _ (part_taken t part c.args.piece.now so_far.sent c.loop-line.text.items (g.O.Sink.got c.args.out.now) (g.O.Sink.got c.loop-line.out) (g.O.Sink.got c.answer.new.out)
    so_far.drained.taken b.plain so_far.gives c.in_err-answer.ensures.err)

pub returns-in_err-send_full-clause-err : goal.returns-in_err-send_full-clause-err
returns-in_err-send_full-clause-err g c = λ t part b.
    let so_far = c.loop-line.invariant.sending t part b in
    let d = so_far.drained in
    let text = c.loop-line.text.items in
    let (raw, more, e, plain, is) = c.in-Some.ensures.line d.taken.left d.holds in
    let reply = reply_to d.taken.reached (without_cr raw) in
    let answered = c.in_ok-answer.ensures.reply d.taken.reached raw d.stands is in
    let sent = so_far.sent ++ answered.sent in
    let now = c.answer.new.text.items in
    any_err _ (part_taken t part c.args.piece.now sent now (g.O.Sink.got c.args.out.now) (g.O.Sink.got c.answer.new.out) (g.O.Sink.got c.send_full.new.out)
    (taken_line t part c.args.piece.now (so_far.sent ++ text) (sent ++ now) d.taken raw more e plain
    (sent_more so_far.sent (text ++ reply) answered.sent now answered.whole ∙ reply_more so_far.sent text (text ++ reply) reply refl))
    b.plain (gives_both _ _ _ so_far.sent answered.sent so_far.gives answered.gives) c.in_err-send_full.ensures.err)

pub loop-line-preserved : goal.loop-line-preserved
loop-line-preserved g c = record {
  sending = λ s part b.
      let so_far = c.loop-line.invariant.sending s part b in
      let d = so_far.drained in
      let text = c.loop-line.text.items in
      let (raw, more, e, plain, is) = c.in-Some.ensures.line d.taken.left d.holds in
      let reply = reply_to d.taken.reached (without_cr raw) in
      let answered = c.in_ok-answer.ensures.reply d.taken.reached raw d.stands is in
      let sent = so_far.sent ++ answered.sent in
      let now = c.answer.new.text.items in
      let sends = c.in_ok-send_full.ensures.ok in
      record {
        sent = sent ++ sends.sent;
        gives = gives_both _ _ _ sent sends.sent (gives_both _ _ _ so_far.sent answered.sent so_far.gives answered.gives) sends.gives;
        drained = drained_line s part c.args.piece.now (so_far.sent ++ text) ((sent ++ sends.sent) ++ c.send_full.new.text.items) c.loop-line.session c.answer.new.self
            c.loop-line.reader c.next_line.follows.lender-at-none d raw more e plain (c.next_line.follows.holds-at-none.behind d.taken.left raw more d.holds e plain)
            (sent_more sent now sends.sent c.send_full.new.text.items sends.whole ∙ sent_more so_far.sent (text ++ reply) answered.sent now answered.whole
            ∙ reply_more so_far.sent text (text ++ reply) reply refl)
            (c.in_ok-answer.ensures.after d.taken.reached raw d.stands is);
      };
  count = c.in_ok-send_full.ensures.count ∙ c.in_ok-answer.ensures.count ∙ c.loop-line.invariant.count;
}

pub returns-in_err-write_whole-clause-err : goal.returns-in_err-write_whole-clause-err
returns-in_err-write_whole-clause-err g c = λ t part b.
    let so_far = c.loop-line.invariant.sending t part b in
    let got = g.O.Sink.got c.loop-line.out in
    let got' = g.O.Sink.got c.write_whole.new.sink in
    any_err _ (part_taken t part c.args.piece.now so_far.sent c.loop-line.text.items (g.O.Sink.got c.args.out.now) got got'
    so_far.drained.taken b.plain so_far.gives (subst (GivesPart got got') c.deref.ensures.value c.in_err-write_whole.ensures.err))

pub returns-clause-ok : goal.returns-clause-ok
returns-clause-ok g c = λ s part b.
    let so_far = c.loop-line.invariant.sending s part b in
    let d = so_far.drained in
    let plain = c.in_default.ensures.line d.taken.left d.holds in
    let got = g.O.Sink.got c.loop-line.out in
    let got' = g.O.Sink.got c.write_whole.new.sink in
    drained_all s part c.args.piece.now (so_far.sent ++ c.loop-line.text.items) (g.O.Sink.got c.args.out.now) got' c.loop-line.session c.loop-line.reader c.next_line.follows.lender-at-none d b.plain plain
    (c.next_line.follows.holds-at-none.same d.taken.left d.holds plain)
    (gives_both _ got got' so_far.sent c.loop-line.text.items so_far.gives (subst (Gives got got') c.deref.ensures.value c.in_ok-write_whole.ensures.ok))
