use Rattle.std.proofs.Common.{◌≡◌, Bool, true, false, sym, ap, ◌∙◌, subst}
use Rattle.event_model.specs.Presence.{settles}
use Rattle.pattern_meaning.specs.Replies.{change_by}
use Rattle.revision.specs.Holding.{counted as capped}
use Rattle.etalis_core.specs.StandsFor.{rules_of, late_of, visits_by}
use Rattle.etalis_cli.specs.Feeds.{SendsBefore}
use Rattle.etalis_cli.proofs.ReplyLaws.{settles_where}
use Rattle.etalis_cli.proofs.SendLaws.{sends_none, part_none, before_none, made_none, made_all}
use Rattle.etalis_cli.proofs.replying.accept.Goals as goal

pub returns-then-not-working-clause-stands : goal.returns-then-not-working-clause-stands
returns-then-not-working-clause-stands g c = λ h s.
    let begun = c.in-Ok.ensures in
    let left = visits_by (rules_of c.args.engine.now) (late_of c.args.engine.now) h c.args.input in
    begun.stands h s (settles_where c.begin.new.self h c.args.input false (λ e. (left, begun.works h s e)) (begun.stands h s)
    (sym c.working.ensures ∙ c.if-not-working.true))

pub returns-then-not-working-clause-settled : goal.returns-then-not-working-clause-settled
returns-then-not-working-clause-settled g c = λ h s.
    let begun = c.in-Ok.ensures in
    let left = visits_by (rules_of c.args.engine.now) (late_of c.args.engine.now) h c.args.input in
    sym (settles_where c.begin.new.self h c.args.input false (λ e. (left, begun.works h s e)) (begun.stands h s)
    (sym c.working.ensures ∙ c.if-not-working.true))

pub returns-clause-settled : goal.returns-clause-settled
returns-clause-settled g c = λ h s.
    let begun = c.in-Ok.ensures in
    let left = visits_by (rules_of c.args.engine.now) (late_of c.args.engine.now) h c.args.input in
    sym (settles_where c.begin.new.self h c.args.input true (λ e. (left, begun.works h s e)) (begun.stands h s)
    (sym c.working.ensures ∙ c.if-not-working.false))

pub returns-clause-stands : goal.returns-clause-stands
returns-clause-stands g c = λ h s.
    let begun = c.in-Ok.ensures in
    let left = visits_by (rules_of c.args.engine.now) (late_of c.args.engine.now) h c.args.input in
    let settling = settles_where c.begin.new.self h c.args.input true (λ e. (left, begun.works h s e)) (begun.stands h s)
    (sym c.working.ensures ∙ c.if-not-working.false) in
    c.in_ok-finish.ensures.stands h c.args.input left (begun.works h s settling)

pub returns-clause-change : goal.returns-clause-change
returns-clause-change g c = λ h s settling.
    let left = visits_by (rules_of c.args.engine.now) (late_of c.args.engine.now) h c.args.input in
    c.in_ok-finish.ensures.change h c.args.input left (c.in-Ok.ensures.works h s settling)
    ∙ ap (λ r. change_by r h c.args.input) c.begin.ensures.rules

pub returns-clause-visits : goal.returns-clause-visits
returns-clause-visits g c = λ h s settling.
    let left = visits_by (rules_of c.args.engine.now) (late_of c.args.engine.now) h c.args.input in
    c.in_ok-finish.ensures.visits h c.args.input left (c.in-Ok.ensures.works h s settling)
    ∙ (λ i. capped (visits_by (c.begin.ensures.rules i) (c.begin.ensures.late i) h c.args.input))

-- what goes out

pub returns-in-Err-clause-err : goal.returns-in-Err-clause-err
returns-in-Err-clause-err g c = part_none (g.O.Sink.got c.args.out.now) c.args.text.now.items

pub returns-then-not-working-clause-sends : goal.returns-then-not-working-clause-sends
returns-then-not-working-clause-sends g c = sends_none (g.O.Sink.got c.args.out.now) c.args.text.now.items

pub returns-then-not-working-clause-early : goal.returns-then-not-working-clause-early
returns-then-not-working-clause-early g c = λ h s.
    let begun = c.in-Ok.ensures in
    let left = visits_by (rules_of c.args.engine.now) (late_of c.args.engine.now) h c.args.input in
    before_none _ (g.O.Sink.got c.args.out.now) c.args.text.now.items (made_none (rules_of c.args.engine.now) (late_of c.args.engine.now) h c.args.input
    (settles_where c.begin.new.self h c.args.input false (λ e. (left, begun.works h s e)) (begun.stands h s) (sym c.working.ensures ∙ c.if-not-working.true)))

pub returns-clause-early : goal.returns-clause-early
returns-clause-early g c = λ h s.
    let begun = c.in-Ok.ensures in
    let left = visits_by (rules_of c.args.engine.now) (late_of c.args.engine.now) h c.args.input in
    let settling = settles_where c.begin.new.self h c.args.input true (λ e. (left, begun.works h s e)) (begun.stands h s)
    (sym c.working.ensures ∙ c.if-not-working.false) in
    subst (λ v. SendsBefore v (g.O.Sink.got c.args.out.now) (g.O.Sink.got c.finish.new.out) c.args.text.now.items c.finish.new.text.items)
    (sym (made_all (rules_of c.args.engine.now) (late_of c.args.engine.now) h c.args.input settling))
    (c.in_ok-finish.ensures.early h c.args.input left (begun.works h s settling))
