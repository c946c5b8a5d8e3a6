use Rattle.std.proofs.Common.{◌&&◌, ap, sym, ◌∙◌}
use Rattle.ev_bind.specs.Projections.{project, same_pairs}
use Rattle.goal_store.specs.Marks.{seen_as}
use Rattle.goal_store.proofs.Walking.{decides_same}
use Rattle.goal_store.proofs.walks.RowsFrom.shows.Goals as goal

pub returns-then-sees : goal.returns-then-sees
returns-then-sees c =
    let walk = c.args.self.now in
    let mine = project walk.slots c.args.place.now.row.binding in
    let key = project walk.slots walk.key.now in
    decides_same c.same_on.result mine key c.same_on.ensures
    ∙ sym (ap (λ b. b && same_pairs mine key) (ap (seen_as walk.when) (sym c.in-Some.ensures) ∙ sym c.sees.ensures ∙ c.if-sees.true))
