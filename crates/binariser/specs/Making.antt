-- How the steps of a plan are made: what each part of the work answers, and what it leaves.
use Rattle.std.specs.Prelude.{ℕ, ◌≡◌, ◌<◌, ◌≤◌, cond, Result, Ok, Err, unwrap_or, List, [], ◌∷◌, ◌++◌, length}
use Rattle.std.specs.Map.{lookup}
use Rattle.std.specs.Ordering.{is_eq, eq_by_cmp}
use Rattle.ordered_lists.specs.Lists.{Each}
use Rattle.event_model.specs.EventOrder.{name_cmp}
use Rattle.event_model.specs.declared.atoms.NameArity.{NameArity}
use Rattle.rule_ast.specs.Trees.{PlainPattern, PlainRule}
use Rattle.rule_ast.specs.Trees as tree
use Rattle.rule_ast.specs.declared.plans.Plan.{Plan}
use Rattle.rule_ast.specs.PlainPlans.{PlainPlan, PlainStep, Named, Join, Either, Where, Exact, Within, plain_plan}
use Rattle.step_meaning.specs.PlanOf.{top, body_steps, rule_steps}
use Rattle.binariser.specs.declared.faults.TheConstants.{MOST_STEPS}
use Rattle.binariser.specs.declared.faults.PlanFault.{PlanFault}
use Rattle.binariser.specs.declared.faults.PlanFault.TheVariants.{TooMany, Memory}

-- ---- answers

-- where these are the steps to be made: they stand there, and the number is that of the last; or they are too many
abbrev pub AreMade : Result ℕ PlanFault → List PlainStep → List PlainStep → Type 0
AreMade (Ok i) want new = (new ≡ want) × (i ≡ top want) × (length want ≤ MOST_STEPS)
AreMade (Err TooMany) want new = MOST_STEPS < length want
AreMade (Err Memory) want new = Unit {0}

-- where these are the steps to be made, with the numbers of heads
abbrev pub AreAdded : {A : Type 0} → Result A PlanFault → List PlainStep × List ℕ → List PlainStep → List ℕ → Type 0
AreAdded (Ok x) made new heads = (new ≡ made.0) × (heads ≡ made.1) × (length made.0 ≤ MOST_STEPS)
AreAdded (Err TooMany) made new heads = MOST_STEPS < length made.0
AreAdded (Err Memory) made new heads = Unit {0}

-- where these are the steps to be made
abbrev pub AreLeft : {A : Type 0} → Result A PlanFault → List PlainStep → List PlainStep → Type 0
AreLeft (Ok x) want new = (new ≡ want) × (length want ≤ MOST_STEPS)
AreLeft (Err TooMany) want new = MOST_STEPS < length want
AreLeft (Err Memory) want new = Unit {0}

-- the plan, or that it would have too many steps
abbrev pub IsPlan : Result Plan PlanFault → PlainPlan → Type 0
IsPlan (Ok p) want = (plain_plan p ≡ want) × (length want.steps ≤ MOST_STEPS)
IsPlan (Err TooMany) want = MOST_STEPS < length want.steps
IsPlan (Err Memory) want = Unit {0}

-- ---- patterns

-- the steps of a pattern, behind those of its left part
abbrev pub steps_over : (NameArity → ℕ) → PlainPattern → List PlainStep → List PlainStep
steps_over of (tree.Atom a) ss = ss
steps_over of (tree.Both op l r) ss = let right = body_steps of r ss in right ++ Join op (top ss) (top right) ∷ []
steps_over of (tree.Either l r) ss = let right = body_steps of r ss in right ++ Either (top ss) (top right) ∷ []
steps_over of (tree.Where p c) ss = ss ++ Where (top ss) c ∷ []
steps_over of (tree.Exact p q) ss = ss ++ Exact (top ss) q ∷ []
steps_over of (tree.Within p q) ss = ss ++ Within (top ss) q ∷ []
steps_over of (tree.Not i b a) ss = ss

-- the steps of the first of these patterns, of which each is the left part of the one before it, behind those of the last one's left part
abbrev pub steps_climbed : (NameArity → ℕ) → List PlainPattern → List PlainStep → List PlainStep
steps_climbed of [] ss = ss
steps_climbed of (p ∷ ps) ss = steps_over of p (steps_climbed of ps ss)

-- ---- names

-- the number beside a name, or this one where it isn't there
abbrev pub place_or : ℕ → List (NameArity × ℕ) → NameArity → ℕ
place_or other ps n = unwrap_or (lookup (eq_by_cmp name_cmp n) ps) other

-- the number beside a name; 0 where it isn't there
abbrev pub place_in : List (NameArity × ℕ) → NameArity → ℕ
place_in = place_or 0

-- the numbers of arguments of these names fit a byte
abbrev pub AreNarrow : List (NameArity × ℕ) → Type 0
AreNarrow ps = Each (λ p. p.0.arity < 256) ps

-- with this number for a name
abbrev pub with_place : (NameArity → ℕ) → NameArity → ℕ → NameArity → ℕ
with_place of n k m = cond (is_eq (name_cmp n m)) k (of m)

-- the steps of a name: those of these rules, and then its own
abbrev pub named_steps : (NameArity → ℕ) → List PlainRule → List PlainStep → NameArity → List PlainStep
named_steps of rules ss n =
    let made = rule_steps of rules ss [] in
    made.0 ++ Named n made.1 ∷ []

-- the steps of names, one behind the other, where `of` gives the steps of the names so far
abbrev pub names_steps_by : (NameArity → List PlainRule) → List NameArity → (NameArity → ℕ) → List PlainStep → List PlainStep
names_steps_by rules [] of ss = ss
names_steps_by rules (n ∷ ns) of ss =
    let made = named_steps of (rules n) ss n in
    names_steps_by rules ns (with_place of n (top made)) made
