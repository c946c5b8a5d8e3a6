use Rattle.std.proofs.Common.{ap, sym, ◌∙◌}
use Rattle.std.proofs.lemmas.Result.{on_ok_weaker}
use Rattle.std.specs.Option.{option_copied}
use Rattle.change_meaning.specs.Caps.{caps_in}
use Rattle.goal_purge.specs.Expiring.{due}
use Rattle.revision.proofs.AnewLaws.{none_under, row_under}
use Rattle.revision.proofs.expiring.follow_number.Goals as goal

pub returns-in-None : goal.returns-in-None
returns-in-None c = λ d s r.
    none_under (caps_in c.args.caps.now) c.args.goals.now c.args.number d s r (due c.args.expiries.now d s r) (due c.args.expiries.now d s r)
    (sym c.row_at.ensures ∙ ap option_copied c.in-None.is)

pub returns-in-Some : goal.returns-in-Some
returns-in-Some c = λ d s r.
    let e = sym c.row_at.ensures ∙ ap option_copied c.in-Some.is in
    on_ok_weaker c.follow_steps.result
    (row_under (caps_in c.args.caps.now) c.args.goals.now c.args.number d s r (due c.args.expiries.now d s r)
    (due c.follow_steps.new.expiries d s r) c.in-Some.row.now c.marks_at.result.now e (c.marks_at.ensures c.in-Some.row.now e))
    (c.follow_steps.ensures d s r)
