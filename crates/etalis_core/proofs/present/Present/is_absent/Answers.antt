use Rattle.std.proofs.Common.{◌≡◌, false, ap, ◌∙◌, sym}
use Rattle.std.specs.Prelude.{◌==◌, nat_lt, if◌then◌else◌}
use Rattle.event_model.specs.Events.{time_of}
use Rattle.event_model.specs.Presence.{copies, is_absent, is_below}
use Rattle.etalis_core.proofs.present.Present.is_absent.Goals as goal

pub returns-in-Take : goal.returns-in-Take
returns-in-Take c = λ from inputs same above.
    let here : nat_lt (time_of c.in-Take.event) from ≡ false = ap (is_below from) (sym c.in-Take.is) ∙ above in
    ap (λ n. n == 0) (c.number_of.ensures ∙ same c.in-Take.event ∙ ap (λ b. if b then 0 else copies inputs c.in-Take.event) here)
    ∙ ap (is_absent inputs) (sym c.in-Take.is)
