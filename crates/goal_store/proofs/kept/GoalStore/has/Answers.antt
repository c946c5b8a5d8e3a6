use Rattle.std.proofs.Common.{ap, sym, ◌∙◌}
use Rattle.ev_bind.specs.Rows.{exact_rows}
use Rattle.goal_store.specs.Marks.{seen_as}
use Rattle.goal_store.proofs.Marking.{mark_found, mark_absent}
use Rattle.goal_store.proofs.kept.GoalStore.has.Goals as goal

pub get-requires-clause-exact : goal.get-requires-clause-exact
get-requires-clause-exact c = exact_rows

pub returns-in-None : goal.returns-in-None
returns-in-None c = sym (ap (seen_as c.args.when) (mark_absent c.args.self.now c.args.step c.args.row.now c.in-None.ensures))

pub returns-in-Some : goal.returns-in-Some
returns-in-Some c = c.sees.ensures ∙ sym (ap (seen_as c.args.when) (mark_found c.args.self.now c.args.step c.args.row.now c.in-Some.mark c.in-Some.ensures))
