use Rattle.std.proofs.Common.{◌≡◌, sym, ◌∙◌, subst, inl, inr}
use Rattle.etalis_core.specs.StandsFor.{rules_of, late_of, last_change, visits_of}
use Rattle.etalis_cli.specs.StandsFor.{KeepsAll}
use Rattle.etalis_cli.proofs.ReplyLaws.{keeps_on, silent_reply, told_reply, told_visits}
use Rattle.etalis_cli.proofs.NoteLaws.{any_err}
use Rattle.etalis_cli.proofs.SendLaws.{part_none}
use Rattle.etalis_cli.proofs.replying.take_input.Goals as goal

pub keep-requires : goal.keep-requires
keep-requires g c = let (h, can, all) = c.requires in (h, subst (λ l. KeepsAll c.args.roll.now l h) (sym c.late.ensures) all, can.room)

pub returns-then-not-settled-clause-all : goal.returns-then-not-settled-clause-all
returns-then-not-settled-clause-all g c = λ h s fine all.
    keeps_on c.args.roll.now c.keep.new.roll _ _ h c.args.input c.late.ensures (c.in_ok-keep.ensures.all h) all s.accepted fine

pub returns-clause-all : goal.returns-clause-all
returns-clause-all g c = λ h s fine all.
    keeps_on c.args.roll.now c.keep.new.roll _ _ h c.args.input c.late.ensures (c.in_ok-keep.ensures.all h) all s.accepted fine

pub returns-then-not-settled-clause-reply : goal.returns-then-not-settled-clause-reply
returns-then-not-settled-clause-reply g c = λ h s n.
    silent_reply (rules_of c.args.engine.now) (late_of c.args.engine.now) h c.args.input (elim c.then-not-settled.either [
      | inl e ↦ inl (sym (c.in_ok-settled.ensures.settled h s) ∙ e)
      | inr e ↦ inr (sym c.says_nothing-silent.ensures ∙ e.1)
    ]) n

pub returns-clause-reply : goal.returns-clause-reply
returns-clause-reply g c = λ h s n.
    let settling = sym (c.in_ok-settled.ensures.settled h s) ∙ c.if-not-settled.false in
    told_reply (rules_of c.args.engine.now) (late_of c.args.engine.now) h c.args.input settling (sym c.says_nothing-silent.ensures ∙ c.if-silent.false)
    (last_change c.accept.new.engine) (c.in_ok-settled.ensures.change h s settling) n

pub returns-clause-visits : goal.returns-clause-visits
returns-clause-visits g c = λ h s.
    let settling = sym (c.in_ok-settled.ensures.settled h s) ∙ c.if-not-settled.false in
    told_visits (rules_of c.args.engine.now) (late_of c.args.engine.now) h c.args.input settling (sym c.says_nothing-silent.ensures ∙ c.if-silent.false)
    (visits_of c.accept.new.engine) (c.in_ok-settled.ensures.visits h s settling)

pub returns-in_err-keep-clause-err : goal.returns-in_err-keep-clause-err
returns-in_err-keep-clause-err g c = any_err _ (part_none (g.O.Sink.got c.args.out.now) c.args.text.now.items)
