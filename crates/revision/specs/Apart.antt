-- A work taken apart: nothing else is kept than the plan with its caps, and the rows of its steps with their counts.
--     parts_of w            the parts of a work
--     PartsHold p b E       they hold the kept rows over the events E
use Rattle.std.specs.Prelude.{ℕ, ◌≡◌, ◌<◌, ◌^◌, List, [], length, map}
use Rattle.event_model.specs.declared.events.Event.{Event}
use Rattle.rule_ast.specs.PlainPlans.{PlainStep, PlainPlan, plain_index, plain_step}
use Rattle.step_meaning.specs.PlanOf.{plan_indexes}
use Rattle.change_meaning.specs.Caps.{caps_in, kept_rows, kept_count}
use Rattle.change_meaning.specs.Keys.{IsWorkable}
use Rattle.support_table.specs.Supports.{count_of}
use Rattle.goal_store.specs.Goals.{steps_of, indexes_of}
use Rattle.step_work.specs.Seen.{view_in}
use Rattle.revision.specs.Works.{HasRows}
use Rattle.revision.specs.declared.apart.WorkParts.{WorkParts}
use Rattle.revision.specs.declared.parts.Parts.{Parts}
use Rattle.revision.specs.declared.work.Work.{Work}

abbrev pub parts_in : Parts → WorkParts
parts_in p = record { plan = p.plan; caps = p.caps; goals = p.goals; supports = p.supports }

unfoldable pub parts_of : Work → WorkParts
parts_of w = parts_in w.parts

-- the steps of their plan
abbrev pub steps_apart : WorkParts → List PlainStep
steps_apart p = map plain_step p.plan.steps.items

abbrev pub plan_apart : WorkParts → PlainPlan
plan_apart p = record { steps = steps_apart p; indexes = plan_indexes (steps_apart p); shown = p.plan.shown.items }

-- The plan can be worked with, and has the indexes for which its steps ask. The store is over its steps and indexes, and each step has
-- exactly its kept rows over the events E at the bound b, and each of these its supports.
pub record PartsHold (p : WorkParts) (b : ℕ) (E : List Event) : Type 0 where
  pub workable : IsWorkable (steps_apart p)
  pub planned : map plain_index p.plan.indexes.items ≡ plan_indexes (steps_apart p)
  pub few : length p.plan.steps.items < 2 ^ 32
  pub stored : steps_of p.goals ≡ length p.plan.steps.items
  pub indexed : indexes_of p.goals ≡ map plain_index p.plan.indexes.items
  pub rows : HasRows (view_in p.goals (count_of p.supports) []) (kept_rows (steps_apart p) (caps_in p.caps) b E)
      (kept_count (steps_apart p) (caps_in p.caps) b E)
