-- How long the rows of a step can be, and how long and how far back they count: what a plan may forget without loss.
--     below steps i        no row of step i is longer
--     holds plan           for each step its cap, above which no row counts, and its reach
--     keeps plan b i       whether a row of step i is kept at the bound b
use Rattle.std.specs.Prelude.{ℕ, ◌≡◌, ◌+◌, ◌==◌, Bool, true, false, cond, ◌&&◌, Some, None, List, [], ◌∷◌, ◌++◌, map, get_or}
use Rattle.std.specs.List.{filter, list_any}
use Rattle.event_model.specs.declared.events.Event.{Event}
use Rattle.event_model.specs.declared.operators.Op.{Op}
use Rattle.event_model.specs.declared.operators.Op.TheVariants.{Seq, And, Par, Equals, Meets, During, Starts, Finishes}
use Rattle.ev_bind.specs.declared.rows.Row.{Row}
use Rattle.rule_ast.specs.PlainPlans.{PlainStep, Named, Leaf, Join, Either, Where, Exact, Within, Minus, Head, PlainPlan}
use Rattle.row_changes.specs.declared.caps.CapList.{CapList}
use Rattle.row_changes.specs.declared.caps.Reach.{Reach}
use Rattle.row_changes.specs.declared.caps.Reach.TheVariants.{NoUser}
use Rattle.row_changes.specs.Kept.{kept}
use Rattle.step_meaning.specs.StepRows.{step_rows}
use Rattle.horizon_meaning.specs.Lengths.{Length, least, greatest, sum_of, further, needed}

-- ---- operands and users

-- the numbers of the steps whose rows a step is made of
abbrev pub operands : PlainStep → List ℕ
operands (Named n heads) = heads
operands (Leaf of p) = of ∷ []
operands (Join op left right) = left ∷ right ∷ []
operands (Either left right) = left ∷ right ∷ []
operands (Where of c) = of ∷ []
operands (Exact of q) = of ∷ []
operands (Within of q) = of ∷ []
operands (Minus joined before inner after) = joined ∷ before ∷ inner ∷ after ∷ []
operands (Head of head) = of ∷ []

-- the number is one of these
abbrev pub is_among : ℕ → List ℕ → Bool
is_among i js = list_any (λ j. j == i) js

-- step i is an operand of the step
abbrev pub uses : ℕ → PlainStep → Bool
uses i s = is_among i (operands s)

-- the step looks for partners of a row among rows on other spans; each other step has the span of its operand's row
abbrev pub seeks : PlainStep → Bool
seeks (Named n heads) = false
seeks (Leaf of p) = false
seeks (Join op left right) = true
seeks (Either left right) = false
seeks (Where of c) = false
seeks (Exact of q) = false
seeks (Within of q) = false
seeks (Minus joined before inner after) = true
seeks (Head of head) = false

-- the test that every user passes
abbrev pub each_user : PlainStep → Bool
each_user s = true

-- ---- how long rows can be

-- a row that is joined from rows of these lengths
abbrev pub below_join : Op → Length → Length → Length
below_join Seq a b = None
below_join And a b = None
below_join Par a b = sum_of a b
below_join Equals a b = least a b
below_join Meets a b = sum_of a b
below_join During a b = b
below_join Starts a b = b
below_join Finishes a b = b

-- the rows of a step, where `at i` is how long those of step i can be; each name can have an event of any length
abbrev pub below_of : (ℕ → Length) → PlainStep → Length
below_of at (Named n heads) = None
below_of at (Leaf of p) = at of
below_of at (Join op left right) = below_join op (at left) (at right)
below_of at (Either left right) = greatest (at left) (at right)
below_of at (Where of c) = at of
below_of at (Exact of q) = least (Some q) (at of)
below_of at (Within of q) = least (Some q) (at of)
below_of at (Minus joined before inner after) = None
below_of at (Head of head) = at of

-- the length of step i in a list; there is no limit past its end
abbrev pub length_at : List Length → ℕ → Length
length_at lengths i = get_or lengths i None

-- those of each of these steps, behind the lengths t of the steps before
abbrev pub belows : List PlainStep → List Length → List Length
belows [] t = t
belows (s ∷ ss) t = belows ss (t ++ below_of (length_at t) s ∷ [])

-- how long the rows of step i can be
abbrev pub below : List PlainStep → ℕ → Length
below steps i = length_at (belows steps []) i

-- ---- caps and reaches

-- how long a row of a step counts, and how long a row is whose partners may be among its rows
pub record Hold : Type 0 where
  pub cap : Length
  pub reach : Reach

-- the greatest cap among the users of step i that pass a test, of these steps with these holds
abbrev pub use_of : (PlainStep → Bool) → ℕ → List PlainStep → List Hold → Reach
use_of test i [] hs = NoUser
use_of test i (s ∷ ss) [] = NoUser
use_of test i (s ∷ ss) (h ∷ hs) = cond (test s && uses i s) (further h.cap (use_of test i ss hs)) (use_of test i ss hs)

-- the longest row that is needed: the greatest cap of all users, and no limit where the step gives out what it has
abbrev pub above_of : (given_out : Bool) → Reach → Length
above_of given_out users = cond given_out None (needed users)

module _ (shown : List ℕ) (longest : ℕ → Length) where
  -- the hold of step i, over the steps behind it with their holds
  abbrev pub hold_of : ℕ → List PlainStep → List Hold → Hold
  hold_of i ss hs = record {
    cap = least (longest i) (above_of (is_among i shown) (use_of each_user i ss hs));
    reach = use_of seeks i ss hs;
  }

  -- one hold more in front
  abbrev pub with_hold : ℕ → List PlainStep → List Hold → List Hold
  with_hold i ss hs = hold_of i ss hs ∷ hs

  -- the holds of the steps from the number n on, made from the last to the first
  abbrev pub holds_from : ℕ → List PlainStep → List Hold
  holds_from n [] = []
  holds_from n (s ∷ ss) = with_hold n ss (holds_from (n + 1) ss)

-- the hold of each step of a plan
abbrev pub holds : PlainPlan → List Hold
holds plan = holds_from plan.shown (below plan.steps) 0 plan.steps

-- the hold of a step that isn't there
abbrev pub no_hold : Hold
no_hold = record { cap = Some 0; reach = NoUser }

-- the hold of step i in a list
abbrev pub hold_at : List Hold → ℕ → Hold
hold_at hs i = get_or hs i no_hold

-- the cap of step i
abbrev pub cap_of : PlainPlan → ℕ → Length
cap_of plan i = (hold_at (holds plan) i).cap

-- the reach of step i
abbrev pub reach_of : PlainPlan → ℕ → Reach
reach_of plan i = (hold_at (holds plan) i).reach

-- ---- what is kept

-- a row of step i is kept at a bound
abbrev pub keeps : PlainPlan → ℕ → ℕ → Row → Bool
keeps plan b i r = kept (cap_of plan i) (reach_of plan i) b r.span

-- the rows of step i that are kept at a bound
abbrev pub kept_rows : PlainPlan → ℕ → List Event → ℕ → List Row
kept_rows plan b events i = filter (keeps plan b i) (step_rows plan.steps i events)

-- these are the caps and the reaches of the plan's steps, in their order
pub record AreCaps (plan : PlainPlan) (caps : CapList) : Type 0 where
  pub cap : caps.cap.items ≡ map (λ h. h.cap) (holds plan)
  pub reach : caps.reach.items ≡ map (λ h. h.reach) (holds plan)
