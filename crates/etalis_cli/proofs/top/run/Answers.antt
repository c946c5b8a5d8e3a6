use Rattle.std.proofs.Common.{sym, ◌∙◌}
use Rattle.etalis_cli.proofs.TopLaws.{done, part, replied, long_replied, complete}
use Rattle.etalis_cli.proofs.top.run.Goals as goal

pub returns-clause-done : goal.returns-clause-done
returns-clause-done g c = λ e. done _ _ _ _ _ _ _ _ _ _ c.work-cause.result c.work-cause.ensures (sym c.status_of.ensures ∙ e)

pub returns-clause-part : goal.returns-clause-part
returns-clause-part g c = part _ _ _ _ _ _ _ _ _ _ c.work-cause.result c.work-cause.ensures

pub returns-clause-replied : goal.returns-clause-replied
returns-clause-replied g c = λ e. replied _ _ _ _ _ _ _ _ _ _ c.work-cause.result c.work-cause.ensures (sym c.status_of.ensures ∙ e)

pub returns-clause-long_replied : goal.returns-clause-long_replied
returns-clause-long_replied g c = λ e. long_replied _ _ _ _ _ _ _ _ _ _ c.work-cause.result c.work-cause.ensures (sym c.status_of.ensures ∙ e)

pub returns-clause-complete : goal.returns-clause-complete
returns-clause-complete g c =
    let done = complete _ _ _ _ _ _ _ _ _ _ c.work-cause.result c.work-cause.ensures in
    rw c.status_of.ensures done
