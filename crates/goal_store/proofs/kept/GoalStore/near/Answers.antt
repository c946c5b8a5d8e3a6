use Rattle.std.proofs.Common.{Some, sym, ap, ◌∙◌}
use Rattle.ev_bind.specs.Rows.{same_rows}
use Rattle.goal_store.proofs.kept.GoalStore.near.Goals as goal

pub returns-then-eq : goal.returns-then-eq
returns-then-eq c = sym c.in-Some.ensures ∙ ap Some (same_rows c.in-Some.found.now c.args.row.now (sym c.eq.ensures ∙ c.if-eq.true))
