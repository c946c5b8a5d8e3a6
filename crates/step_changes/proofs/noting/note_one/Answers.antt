use Rattle.std.proofs.Common.{◌≡◌, refl, ◌+◌, [], ◌∷◌, subst, OnOk}
use Rattle.std.proofs.lemmas.Fn.{says_at}
use Rattle.row_changes.specs.Visits.{tally, signed}
use Rattle.step_changes.specs.Notes.{noted}
use Rattle.step_changes.proofs.noting.note_one.Goals as goal

pub returns : goal.returns
returns t c = λ g gives s r.
    let same : c.in_ok-item.item ≡ g c.args.delta.now.row = gives c.args.delta.now.row _ (says_at t.F.Fn c.in_ok-item.ensures refl) in
    subst (λ o. OnOk c.note_item.result (noted c.note_item.new.pending s r ≡ noted c.args.pending.now s r + tally s r (signed c.args.delta.now.sign o ∷ [])))
    same (c.note_item.ensures.ok s r)
