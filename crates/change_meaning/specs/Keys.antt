-- The slots by which the steps of a plan look for partners, and what a plan has to meet so that rows bind them.
use Rattle.std.specs.Prelude.{ℕ, ◌≡◌, ◌<◌, Bool, true, false, Option, Some, None, List, []}
use Rattle.event_model.specs.declared.terms.TheConstants.{MOST_SLOTS}
use Rattle.ev_bind.specs.Bindings.{IsBinding}
use Rattle.ev_bind.specs.declared.rows.Row.{Row}
use Rattle.rule_ast.specs.PlainPlans.{PlainStep, Named, Leaf, Join, Either, Where, Exact, Within, Minus, Head}
use Rattle.rule_ast.specs.Vars.{atom_vars, is_in}
use Rattle.rule_check.specs.Sound.{AreAmong}
use Rattle.pattern_meaning.specs.Bound.{BindsExactly}
use Rattle.step_meaning.specs.Operands.{AreLower}
use Rattle.step_meaning.specs.PlanOf.{slots_in, slots_table, in_either, in_both}
use Rattle.step_meaning.specs.StepRows.{step_at}

-- the slots that the rows of a step bind
abbrev pub slots_at : List PlainStep → ℕ → List ℕ
slots_at steps i = slots_in (slots_table steps []) i

-- those by which the operands of a join look for each other
abbrev pub join_key : (ℕ → List ℕ) → (left right : ℕ) → List ℕ
join_key slots left right = in_both (slots left) (slots right)

-- a row is a binding of exactly these slots
pub record IsBoundOn (slots : List ℕ) (r : Row) : Type 0 where
  pub binding : IsBinding r.binding
  pub exact : BindsExactly slots r

-- whether the rows of a step bind the variables of a rule: those of names and heads number their arguments
abbrev pub is_body_step : Option PlainStep → Bool
is_body_step None = false
is_body_step (Some (Named n heads)) = false
is_body_step (Some (Leaf of p)) = true
is_body_step (Some (Join op l r)) = true
is_body_step (Some (Either l r)) = true
is_body_step (Some (Where of c)) = true
is_body_step (Some (Exact of q)) = true
is_body_step (Some (Within of q)) = true
is_body_step (Some (Minus j b i a)) = true
is_body_step (Some (Head of head)) = false

abbrev pub IsBody : List PlainStep → ℕ → Type 0
IsBody steps i = is_body_step (step_at steps i) ≡ true

abbrev pub AreSameSlots : List ℕ → List ℕ → Type 0
AreSameSlots xs ys = (s : ℕ) → is_in s xs ≡ is_in s ys

-- of a Minus: its joined rows bind what those before and after bind, and those inside bind nothing else
pub record IsKeyedMinus (slots : ℕ → List ℕ) (j b i a : ℕ) : Type 0 where
  pub limits : AreSameSlots (slots j) (in_either (slots b) (slots a))
  pub inside : AreAmong (slots i) (slots j)

-- the two sides of an OR bind the same, and the variables of atoms fit in a set of slots
abbrev pub IsKeyedStep : List PlainStep → PlainStep → Type 0
IsKeyedStep steps (Named n heads) = Unit {0}
IsKeyedStep steps (Leaf of p) = (s : ℕ) → is_in s (atom_vars p) ≡ true → s < MOST_SLOTS
IsKeyedStep steps (Join op l r) = IsBody steps l × IsBody steps r
IsKeyedStep steps (Either l r) = IsBody steps l × IsBody steps r × AreSameSlots (slots_at steps l) (slots_at steps r)
IsKeyedStep steps (Where of c) = IsBody steps of
IsKeyedStep steps (Exact of q) = IsBody steps of
IsKeyedStep steps (Within of q) = IsBody steps of
IsKeyedStep steps (Minus j b i a) =
    IsBody steps j × IsBody steps b × IsBody steps i × IsBody steps a × IsKeyedMinus (slots_at steps) j b i a
IsKeyedStep steps (Head of head) = Unit {0}

-- so that each row binds exactly the slots of its step
abbrev pub IsKeyed : List PlainStep → Type 0
IsKeyed steps = (i : ℕ) (s : PlainStep) → step_at steps i ≡ Some s → IsKeyedStep steps s

-- what an evaluator that works by changes needs of a plan: operands come first, and rows bind the slots by which they are looked for
pub record IsWorkable (steps : List PlainStep) : Type 0 where
  pub lower : AreLower steps
  pub keyed : IsKeyed steps
