use Rattle.std.proofs.Common.{◌≡◌, ◌+◌, sym, subst, [], ◌∷◌, OnOk}
use Rattle.event_changes.specs.declared.changes.Sign.{Sign}
use Rattle.change_meaning.specs.MinusVisits.{own_verdict}
use Rattle.row_changes.specs.Visits.{tally}
use Rattle.step_changes.specs.Notes.{noted}
use Rattle.negation_witness.specs.Working.{told, view_of}
use Rattle.negation_witness.proofs.subtracting.MinusStep.note_joined.Goals as goal

pub returns-in-Plus : goal.returns-in-Plus
unfolding told
returns-in-Plus c = λ s r.
    subst (λ (k : Sign). OnOk c.note_verdict.result (noted c.note_verdict.new.pending s r
    ≡ noted c.args.pending.now s r + tally s r (own_verdict (view_of c.args.self.now) k c.args.delta.now.row ∷ [])))
    (sym c.in-Plus.is) (c.note_verdict.ensures s r)
