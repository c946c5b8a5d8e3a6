-- The visits of a whole change, and what turns of so many units answer.
use Rattle.std.specs.Prelude.{ℕ, ◌+◌, ◌-◌, nat_le, if◌then◌else◌, List, [], ◌∷◌, ◌++◌}
use Rattle.ordered_lists.specs.Lists.{total}
use Rattle.event_changes.specs.declared.changes.Progress.{Progress}
use Rattle.event_changes.specs.declared.changes.Progress.TheVariants.{More, Done}
use Rattle.interval_ops.specs.declared.ranges.Range.{Range}
use Rattle.ev_bind.specs.Bindings.{Pairs}
use Rattle.ev_bind.specs.declared.rows.Row.{Row}
use Rattle.rule_ast.specs.PlainPlans.{PlainStep}
use Rattle.row_changes.specs.Partners.{is_listed}
use Rattle.row_changes.specs.Visits.{Visit}
use Rattle.change_meaning.specs.Caps.{PlainCaps}
use Rattle.change_meaning.specs.Courses.{Course, visits}
use Rattle.change_meaning.specs.Keys.{slots_at}

-- the visits of these steps, of which the first has the number i, one step behind the other
abbrev pub visits_from : PlainCaps → (ℕ → List ℕ) → Course → ℕ → List PlainStep → List Visit
visits_from caps slots c i [] = []
visits_from caps slots c i (s ∷ ss) = visits (caps.cap i) slots s c ++ visits_from caps slots c (i + 1) ss

-- those of all steps of a plan
abbrev pub plan_visits : List PlainStep → PlainCaps → Course → List Visit
plan_visits steps caps c = visits_from caps (slots_at steps) c 0 steps

-- how many rows have a binding's values at a key, and lie in a range
abbrev pub number_listed : List ℕ → Range → Pairs → List Row → ℕ
number_listed key range b rows = total (λ r. if is_listed key range b r then 1 else 0) rows

-- The answers of turns of so many units each, until one is Done, where so many visits are left: Done where the units suffice for
-- all of them, and else More.
abbrev pub answers : ℕ → List ℕ → List Progress
answers left [] = []
answers left (units ∷ turns) = if nat_le left units then Done ∷ [] else More ∷ answers (left - units) turns

-- the units of these turns
abbrev pub sum_of : List ℕ → ℕ
sum_of turns = total (λ units. units) turns
