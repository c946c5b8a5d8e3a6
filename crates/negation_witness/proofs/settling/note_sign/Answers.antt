use Rattle.std.proofs.Common.{ap, sym, ◌∙◌, ◌+◌, add-zero}
use Rattle.step_changes.specs.Notes.{noted}
use Rattle.negation_witness.specs.Working.{times_of}
use Rattle.negation_witness.proofs.SettleLaws.{note_here, note_apart, on_ok}
use Rattle.negation_witness.proofs.settling.note_sign.Goals as goal

pub returns-in-Some-clause-here : goal.returns-in-Some-clause-here
returns-in-Some-clause-here c = λ s. on_ok c.note.result _ _
    (λ e. e
    ∙ ap (λ k. noted c.args.settled.now s c.args.row + k) (note_here s c.in-Some.sign c.args.row ∙ ap (times_of s) (sym c.in-Some.is)))
    (c.note.ensures.ok s c.args.row)

pub returns-in-Some-clause-apart : goal.returns-in-Some-clause-apart
returns-in-Some-clause-apart c = λ s r n. on_ok c.note.result _ _
    (λ e. e ∙ ap (λ k. noted c.args.settled.now s r + k) (note_apart s c.in-Some.sign c.args.row r n)
    ∙ add-zero (noted c.args.settled.now s r))
    (c.note.ensures.ok s r)
