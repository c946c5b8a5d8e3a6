use Rattle.std.proofs.Common.{refl, ◌∙◌}
use Rattle.etalis_core.proofs.LedgerLaws.{ledger_over}
use Rattle.etalis_core.proofs.ledger.Ledger.over.Goals as goal

pub returns : goal.returns
returns c = λ late h outside bounded copies.
    ledger_over _ late h outside (λ e. c.over.ensures.numbers e ∙ copies e) c.over.ensures.changed bounded bounded refl
