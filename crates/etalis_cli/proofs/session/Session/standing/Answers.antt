use Rattle.std.proofs.Common.{◌∙◌, subst}
use Rattle.std.proofs.lemmas.Result.{IfOk-weaker}
use Rattle.pattern_meaning.specs.Standing.{standing}
use Rattle.etalis_core.specs.StandsFor.{late_of}
use Rattle.etalis_cli.specs.StandsFor.{KeepsAll}
use Rattle.etalis_cli.proofs.session.Session.standing.Goals as goal

pub returns-in_ok-events-in-Some : goal.returns-in_ok-events-in-Some
returns-in_ok-events-in-Some c = λ t p.
    let late = late_of c.args.self.now.engine in
    let roll = subst (λ r. KeepsAll r late t.state.history) c.in-Some.is p.all in
    let events = c.deref.ensures.value ∙ c.in_ok-events-in-Some.ensures late t.state.history roll in
    IfOk-weaker c.scratch.result _ _ (λ v e. e ∙ (λ i. standing (c.checked.ensures i) (events i))) c.scratch.ensures
