use Rattle.event_model.specs.Lines.{without_cr}
use Rattle.etalis_cli.specs.Output.{after_line}
use Rattle.etalis_cli.proofs.SendLaws.{part_empty, before_empty}
use Rattle.etalis_cli.proofs.ServeLaws.{tail_some}
use Rattle.etalis_cli.proofs.serving.last_text.Goals as goal

pub close-requires : goal.close-requires
close-requires g c =
    let (t, part, b, few) = c.requires in
    let (some, is) = c.in-Some.ensures.line part b.holds b.plain in
    (after_line t (without_cr part), c.in_ok-answer-in-Some.ensures.after t part b.stands is)

pub returns-in_ok-close-in-Some-clause-text : goal.returns-in_ok-close-in-Some-clause-text
returns-in_ok-close-in-Some-clause-text g c = λ t part b.
    let (some, is) = c.in-Some.ensures.line part b.holds b.plain in
    let (kept, before, told) = c.in_ok-answer-in-Some.ensures.early t part b.stands is in
    let none = before_empty _ (g.O.Sink.got c.args.out.now) (g.O.Sink.got c.answer.new.out) c.clear.new.self.items kept c.clear.ensures.items before in
    tail_some t part kept c.answer.new.text.items c.close.new.out.items some none.1 told
    (c.in_ok-close-in-Some.ensures (after_line t (without_cr part)) (c.in_ok-answer-in-Some.ensures.after t part b.stands is))

-- nothing was gathered before the line

pub returns-in_err-answer-in-Some-clause-unsent : goal.returns-in_err-answer-in-Some-clause-unsent
returns-in_err-answer-in-Some-clause-unsent g c =
    part_empty (g.O.Sink.got c.args.out.now) (g.O.Sink.got c.answer.new.out) c.clear.new.self.items c.clear.ensures.items c.in_err-answer-in-Some.ensures.err

pub returns-in_err-close-in-Some-clause-unsent : goal.returns-in_err-close-in-Some-clause-unsent
returns-in_err-close-in-Some-clause-unsent g c =
    let (t, part, b, few) = c.requires in
    let (some, is) = c.in-Some.ensures.line part b.holds b.plain in
    let (kept, before, told) = c.in_ok-answer-in-Some.ensures.early t part b.stands is in
    (before_empty _ (g.O.Sink.got c.args.out.now) (g.O.Sink.got c.answer.new.out) c.clear.new.self.items kept c.clear.ensures.items before).0

pub returns-in_ok-close-in-Some-clause-unsent : goal.returns-in_ok-close-in-Some-clause-unsent
returns-in_ok-close-in-Some-clause-unsent g c =
    let (t, part, b, few) = c.requires in
    let (some, is) = c.in-Some.ensures.line part b.holds b.plain in
    let (kept, before, told) = c.in_ok-answer-in-Some.ensures.early t part b.stands is in
    (before_empty _ (g.O.Sink.got c.args.out.now) (g.O.Sink.got c.answer.new.out) c.clear.new.self.items kept c.clear.ensures.items before).0
