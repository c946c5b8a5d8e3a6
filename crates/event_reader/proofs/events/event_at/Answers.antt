use Rattle.std.proofs.lemmas.Result.{err_from_is_err_and}
use Rattle.event_reader.proofs.Pieces.{atom_fails, end_fails, span_fails, event_read}
use Rattle.event_reader.proofs.events.event_at.Goals as goal

pub returns-in_err-atom : goal.returns-in_err-atom
returns-in_err-atom c =
    let p = err_from_is_err_and c.from_residual-in_err-atom.result c.from_residual-in_err-atom.ensures.1 in
    rw (p.1, p.2) (atom_fails _ _ _ _ _ _ c.in_ok-times.ensures c.in-Some.ensures c.in_err-atom.ensures)

pub returns-in_err-end_at : goal.returns-in_err-end_at
returns-in_err-end_at c =
    let p = err_from_is_err_and c.from_residual-in_err-end_at.result c.from_residual-in_err-end_at.ensures.1 in
    rw (p.1, p.2) (end_fails _ _ _ _ _ _ _ _ c.in_ok-times.ensures c.in-Some.ensures c.in_ok-atom.ensures c.in_err-end_at.ensures)

pub returns-in_err-span : goal.returns-in_err-span
returns-in_err-span c =
    let p = err_from_is_err_and c.from_residual-in_err-span.result c.from_residual-in_err-span.ensures.1 in
    rw (p.1, p.2) (span_fails _ _ _ _ _ _ _ _ c.in_ok-times.ensures c.in-Some.ensures c.in_ok-atom.ensures c.in_ok-end_at.ensures c.in_err-span.ensures)

pub returns : goal.returns
returns c = event_read _ _ _ _ _ _ _ _ c.in_ok-times.ensures c.in-Some.ensures c.in_ok-atom.ensures c.in_ok-end_at.ensures c.in_ok-span.ensures
