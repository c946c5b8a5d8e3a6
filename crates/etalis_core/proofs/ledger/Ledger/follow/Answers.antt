use Rattle.std.proofs.Common.{refl, ap, ◌∙◌}
use Rattle.std.specs.Prelude.{max}
use Rattle.etalis_core.proofs.PresentLaws.{on_err}
use Rattle.etalis_core.proofs.LedgerLaws.{ledger_next, ledger_same}
use Rattle.etalis_core.proofs.ledger.Ledger.follow.Goals as goal

pub returns-clause-ok : goal.returns-clause-ok
returns-clause-ok c = λ history l a fine.
    ledger_next c.args.self.now _ c.args.late history c.args.input.now l a fine c.in_ok-follow.ensures.numbers c.in_ok-follow.ensures.was refl
    (c.max-next_bound.ensures ∙ ap (max c.args.self.now.next_bound) c.raised.ensures.raised) (c.is_in_batch_after-in_batch.ensures history l.batch)

pub returns-in_err-follow-clause-err : goal.returns-in_err-follow-clause-err
returns-in_err-follow-clause-err c = λ told history l.
    on_err c.from_residual.result (ledger_same c.args.self.now _ c.args.late told history l c.in_err-follow.ensures.err_numbers c.in_err-follow.ensures.err_changed refl refl refl)
