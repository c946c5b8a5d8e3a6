-- How the steps of a plan work: which indexes a join and a Minus look by.
--     IsWayOf indexes cap slots s way     the step s works so, where `slots i` are the slots that the rows of step i bind
--     AreWays indexes caps steps ways     these are the ways of all steps, in their order
use Rattle.std.specs.Prelude.{ℕ, ◌≡◌, Option, Some, List, length, slice_get}
use Rattle.event_model.specs.declared.operators.Edge.{Edge}
use Rattle.event_model.specs.declared.operators.Edge.TheVariants.{Start, End}
use Rattle.event_model.specs.declared.operators.Op.{Op}
use Rattle.interval_ops.specs.declared.ranges.Side.TheVariants.{Left, Right}
use Rattle.rule_ast.specs.PlainPlans.{PlainIndex, PlainStep, Named, Leaf, Join, Either, Where, Exact, Within, Minus, Head}
use Rattle.step_meaning.specs.PlanOf.{index, partner_edge}
use Rattle.change_meaning.specs.Caps.{PlainCaps}
use Rattle.change_meaning.specs.Keys.{join_key, slots_at}
use Rattle.match_step.specs.declared.ways.JoinWay.{JoinWay}
use Rattle.negation_witness.specs.declared.ways.MinusWay.{MinusWay}
use Rattle.step_work.specs.declared.ways.StepWay.{StepWay}
use Rattle.step_work.specs.declared.ways.StepWay.TheVariants as by

-- the index under this number
abbrev pub IsIndex : List PlainIndex → ℕ → (of : ℕ) → List ℕ → Edge → Type 0
IsIndex indexes n of key edge = slice_get indexes n ≡ Some (index of key edge)

-- a join of the steps l and r
pub record IsJoinWay (indexes : List PlainIndex) (most : Option ℕ) (slots : ℕ → List ℕ) (o : Op) (l r : ℕ) (w : JoinWay) : Type 0 where
  pub op : w.op ≡ o
  pub cap : w.cap ≡ most
  pub lefts : IsIndex indexes w.lefts l (join_key slots l r) (partner_edge o Right)
  pub rights : IsIndex indexes w.rights r (join_key slots l r) (partner_edge o Left)

-- a Minus of joined rows j, of rows before, inside and after
pub record IsMinusOf (indexes : List PlainIndex) (most : Option ℕ) (slots : ℕ → List ℕ) (j f i l : ℕ) (w : MinusWay) : Type 0 where
  pub cap : w.cap ≡ most
  pub joined_inner : IsIndex indexes w.joined_inner j (slots i) Start
  pub joined_before : IsIndex indexes w.joined_before j (slots f) Start
  pub joined_after : IsIndex indexes w.joined_after j (slots l) End
  pub before : IsIndex indexes w.before f (slots f) Start
  pub inner : IsIndex indexes w.inner i (slots i) Start
  pub after : IsIndex indexes w.after l (slots l) End

abbrev pub IsPlain : StepWay → Type 0
IsPlain way = way ≡ by.Plain

abbrev pub IsByJoin : List PlainIndex → Option ℕ → (ℕ → List ℕ) → Op → (left right : ℕ) → StepWay → Type 0
IsByJoin indexes cap slots op l r by.Plain = ⊥
IsByJoin indexes cap slots op l r (by.Join w) = IsJoinWay indexes cap slots op l r w
IsByJoin indexes cap slots op l r (by.Minus w) = ⊥

abbrev pub IsByMinus : List PlainIndex → Option ℕ → (ℕ → List ℕ) → (joined before inner after : ℕ) → StepWay → Type 0
IsByMinus indexes cap slots j f i l by.Plain = ⊥
IsByMinus indexes cap slots j f i l (by.Join w) = ⊥
IsByMinus indexes cap slots j f i l (by.Minus w) = IsMinusOf indexes cap slots j f i l w

abbrev pub IsWayOf : List PlainIndex → Option ℕ → (ℕ → List ℕ) → PlainStep → StepWay → Type 0
IsWayOf indexes cap slots (Named n heads) way = IsPlain way
IsWayOf indexes cap slots (Leaf of p) way = IsPlain way
IsWayOf indexes cap slots (Join op l r) way = IsByJoin indexes cap slots op l r way
IsWayOf indexes cap slots (Either l r) way = IsPlain way
IsWayOf indexes cap slots (Where of t) way = IsPlain way
IsWayOf indexes cap slots (Exact of q) way = IsPlain way
IsWayOf indexes cap slots (Within of q) way = IsPlain way
IsWayOf indexes cap slots (Minus j f i l) way = IsByMinus indexes cap slots j f i l way
IsWayOf indexes cap slots (Head of head) way = IsPlain way

pub record AreWays (indexes : List PlainIndex) (caps : PlainCaps) (steps : List PlainStep) (ways : List StepWay) : Type 0 where
  pub number : length ways ≡ length steps
  pub each : (i : ℕ) (s : PlainStep) (w : StepWay) → slice_get steps i ≡ Some s → slice_get ways i ≡ Some w
      → IsWayOf indexes (caps.cap i) (slots_at steps) s w
