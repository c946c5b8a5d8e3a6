use Rattle.std.proofs.lemmas.Result.{err_from_is_err_and}
use Rattle.event_reader.proofs.Pieces.{advance_stops, advance_read}
use Rattle.event_reader.proofs.times.advance_at.Goals as goal

pub returns-in_err-end_at : goal.returns-in_err-end_at
returns-in_err-end_at c =
    let p = err_from_is_err_and c.from_residual-in_err-end_at.result c.from_residual-in_err-end_at.ensures.1 in
    rw (p.1, p.2) (advance_stops _ _ _ _ _ c.in_ok-time.ensures c.in_err-end_at.ensures)

pub returns : goal.returns
returns c = advance_read _ _ _ _ c.in_ok-time.ensures c.in_ok-end_at.ensures
