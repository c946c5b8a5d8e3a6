-- Plans as plain data: what definitions and proofs speak of. Steps are named by number, from 0.
use Rattle.std.specs.Prelude.{ℕ, zero, suc, List, [], ◌∷◌, ◌++◌, map}
use Rattle.std.specs.List.{filter}
use Rattle.event_model.specs.SlotSets.{slot_in}
use Rattle.event_model.specs.declared.atoms.NameArity.{NameArity}
use Rattle.event_model.specs.declared.atoms.PatAtom.{PatAtom}
use Rattle.event_model.specs.declared.operators.Edge.{Edge}
use Rattle.event_model.specs.declared.operators.Op.{Op}
use Rattle.event_model.specs.declared.terms.TheConstants.{MOST_SLOTS}
use Rattle.rule_ast.specs.declared.plans.Index.{Index}
use Rattle.rule_ast.specs.declared.plans.Plan.{Plan}
use Rattle.rule_ast.specs.declared.plans.Step.{Step}
use Rattle.rule_ast.specs.declared.plans.Step.TheVariants as made
use Rattle.rule_ast.specs.Plain.{plain_cond}
use Rattle.rule_ast.specs.Trees.{PlainCond}

pub data PlainStep : Type 0 where
  Named : (name : NameArity) (heads : List ℕ) → PlainStep
  Leaf : (of : ℕ) → PatAtom → PlainStep
  Join : Op → (left right : ℕ) → PlainStep
  Either : (left right : ℕ) → PlainStep
  Where : (of : ℕ) → PlainCond → PlainStep
  Exact : (of q : ℕ) → PlainStep
  Within : (of q : ℕ) → PlainStep
  Minus : (joined before inner after : ℕ) → PlainStep
  Head : (of : ℕ) → PatAtom → PlainStep

-- the key is the list of its slots, from the least
pub record PlainIndex : Type 0 where
  pub of : ℕ
  pub key : List ℕ
  pub edge : Edge

pub record PlainPlan : Type 0 where
  pub steps : List PlainStep
  pub indexes : List PlainIndex
  pub shown : List ℕ

abbrev pub plain_step : Step → PlainStep
plain_step (made.Named name heads) = Named name heads.items
plain_step (made.Leaf of pat) = Leaf of pat
plain_step (made.Join op left right) = Join op left right
plain_step (made.Either left right) = Either left right
plain_step (made.Where of c) = Where of (plain_cond c)
plain_step (made.Exact of q) = Exact of q
plain_step (made.Within of q) = Within of q
plain_step (made.Minus joined before inner after) = Minus joined before inner after
plain_step (made.Head of head) = Head of head

-- the numbers below this one, from 0
abbrev pub first_slots : ℕ → List ℕ
first_slots zero = []
first_slots (suc n) = first_slots n ++ n ∷ []

-- the slots of a set
unfoldable pub slots_list : ℕ → List ℕ
slots_list slots = filter (slot_in slots) (first_slots MOST_SLOTS)

abbrev pub plain_index : Index → PlainIndex
plain_index i = record { of = i.of; key = slots_list i.key; edge = i.edge }

abbrev pub plain_plan : Plan → PlainPlan
plain_plan p = record { steps = map plain_step p.steps.items; indexes = map plain_index p.indexes.items; shown = p.shown.items }
