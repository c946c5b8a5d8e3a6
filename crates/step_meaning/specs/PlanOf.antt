-- The plan of the rules of a file: which steps it has, in which order, and with which indexes.
use Rattle.std.specs.Prelude.{ℕ, zero, suc, ◌-◌, Bool, true, false, cond, fold, ◌&&◌, ◌||◌, ◌==◌, List, [], ◌∷◌, ◌++◌, map, length, get_or}
use Rattle.std.specs.List.{filter, flat_map, list_any}
use Rattle.std.specs.Str.{bytes_eq}
use Rattle.std.specs.Ordering.{nat_cmp, on, then_cmp}
use Rattle.std.specs.declared.cmp.Ordering.{Ordering}
use Rattle.ordered_lists.specs.Canon.{canon}
use Rattle.event_model.specs.EventOrder.{name_cmp}
use Rattle.event_model.specs.declared.operators.Op.{Op}
use Rattle.event_model.specs.declared.operators.Op.TheVariants.{Seq}
use Rattle.event_model.specs.declared.operators.Edge.{Edge}
use Rattle.event_model.specs.declared.operators.Edge.TheVariants.{Start, End}
use Rattle.event_model.specs.declared.atoms.NameArity.{NameArity}
use Rattle.event_model.specs.declared.terms.TheConstants.{MOST_SLOTS}
use Rattle.interval_ops.specs.Operators.{partner_range}
use Rattle.interval_ops.specs.declared.ranges.Side.{Side}
use Rattle.interval_ops.specs.declared.ranges.Side.TheVariants.{Left, Right}
use Rattle.rule_ast.specs.Trees.{PlainPattern, PlainRule, PlainStatement}
use Rattle.rule_ast.specs.Trees as tree
use Rattle.rule_ast.specs.Vars.{atom_vars, is_in}
use Rattle.rule_ast.specs.PlainPlans.{PlainStep, Named, Leaf, Join, Either, Where, Exact, Within, Minus, Head, PlainIndex, PlainPlan, first_slots}
use Rattle.rule_check.specs.Cycles.{below, rank_of}
use Rattle.rule_check.specs.Names.{outputs}
use Rattle.rule_check.specs.Sound.{rules_of}
use Rattle.pattern_meaning.specs.PatternRows.{name_of}
use Rattle.pattern_meaning.specs.RuleRows.{has_head}

-- ---- the names that have steps

-- a name and those that it needs, at most k rules deep: the names in the bodies of its rules, and what these need
abbrev pub needs : ℕ → List PlainRule → NameArity → List NameArity
needs zero rules n = n ∷ []
needs (suc k) rules n = n ∷ flat_map (needs k rules) (below rules n)

-- by rank, then by name and number of arguments
abbrev pub by_rank : List PlainRule → NameArity → NameArity → Ordering
by_rank rules = then_cmp (on (rank_of rules) nat_cmp) name_cmp

-- the names that are given out and those that they need, in the order of their steps
abbrev pub plan_names : List PlainStatement → List NameArity
plan_names statements =
    let rules = rules_of statements in
    canon (by_rank rules) (flat_map (needs (length rules) rules) (outputs statements))

-- ---- steps

-- the number of the last of these steps
abbrev pub top : List PlainStep → ℕ
top ss = length ss - 1

abbrev pub is_named : NameArity → PlainStep → Bool
is_named n (Named m heads) = bytes_eq n.name m.name && (n.arity == m.arity)
is_named n (Leaf of p) = false
is_named n (Join op left right) = false
is_named n (Either left right) = false
is_named n (Where of c) = false
is_named n (Exact of q) = false
is_named n (Within of q) = false
is_named n (Minus joined before inner after) = false
is_named n (Head of head) = false

-- the number of the step of a name; where it has none, that of no step
abbrev pub step_of : List PlainStep → NameArity → ℕ
step_of [] n = 0
step_of (s ∷ ss) n = cond (is_named n s) 0 (suc (step_of ss n))

-- the steps of a pattern behind others, where `of n` is the step of the name n
abbrev pub body_steps : (NameArity → ℕ) → PlainPattern → List PlainStep → List PlainStep
body_steps of (tree.Atom a) ss = ss ++ Leaf (of (name_of a)) a ∷ []
body_steps of (tree.Both op l r) ss =
    let left = body_steps of l ss in
    let right = body_steps of r left in
    right ++ Join op (top left) (top right) ∷ []
body_steps of (tree.Either l r) ss =
    let left = body_steps of l ss in
    let right = body_steps of r left in
    right ++ Either (top left) (top right) ∷ []
body_steps of (tree.Where p c) ss = let inner = body_steps of p ss in inner ++ Where (top inner) c ∷ []
body_steps of (tree.Exact p q) ss = let inner = body_steps of p ss in inner ++ Exact (top inner) q ∷ []
body_steps of (tree.Within p q) ss = let inner = body_steps of p ss in inner ++ Within (top inner) q ∷ []
body_steps of (tree.Not i b a) ss =
    let before = body_steps of b ss in
    let after = body_steps of a before in
    let joined = after ++ Join Seq (top before) (top after) ∷ [] in
    let inner = body_steps of i joined in
    inner ++ Minus (top joined) (top before) (top inner) (top after) ∷ []

-- the steps of rules behind others, each with its head last, and the numbers of the heads behind those so far
abbrev pub rule_steps : (NameArity → ℕ) → List PlainRule → List PlainStep → List ℕ → List PlainStep × List ℕ
rule_steps of [] ss heads = (ss, heads)
rule_steps of (r ∷ rs) ss heads =
    let body = body_steps of r.body ss in
    let with_head = body ++ Head (top body) r.head ∷ [] in
    rule_steps of rs with_head (heads ++ top with_head ∷ [])

-- the steps of a name: those of its rules in the order of the file, and then its own
abbrev pub name_steps : List PlainRule → List PlainStep → NameArity → List PlainStep
name_steps rules ss n =
    let made = rule_steps (step_of ss) (filter (has_head n) rules) ss [] in
    made.0 ++ Named n made.1 ∷ []

-- the steps of names, one behind the other
abbrev pub names_steps : List PlainRule → List NameArity → List PlainStep → List PlainStep
names_steps rules [] ss = ss
names_steps rules (n ∷ ns) ss = names_steps rules ns (name_steps rules ss n)

abbrev pub plan_steps : List PlainStatement → List PlainStep
plan_steps statements = names_steps (rules_of statements) (plan_names statements) []

-- ---- the slots of its rule that the rows of a step bind, from the least; of names and heads none, since no index is on them

-- the slots that pass a test
unfoldable pub slots_that : (ℕ → Bool) → List ℕ
slots_that test = filter test (first_slots MOST_SLOTS)

abbrev pub in_either : List ℕ → List ℕ → List ℕ
in_either xs ys = slots_that (λ s. is_in s xs || is_in s ys)

abbrev pub in_both : List ℕ → List ℕ → List ℕ
in_both xs ys = slots_that (λ s. is_in s xs && is_in s ys)

abbrev pub step_slots : (ℕ → List ℕ) → PlainStep → List ℕ
step_slots at (Named n heads) = []
step_slots at (Leaf of p) = slots_that (λ s. is_in s (atom_vars p))
step_slots at (Join op left right) = in_either (at left) (at right)
step_slots at (Either left right) = in_either (at left) (at right)
step_slots at (Where of c) = at of
step_slots at (Exact of q) = at of
step_slots at (Within of q) = at of
step_slots at (Minus joined before inner after) = at joined
step_slots at (Head of head) = []

abbrev pub slots_in : List (List ℕ) → ℕ → List ℕ
slots_in t i = get_or t i []

-- the slots of each of these steps, behind those t of the steps before
abbrev pub slots_table : List PlainStep → List (List ℕ) → List (List ℕ)
slots_table [] t = t
slots_table (s ∷ ss) t = slots_table ss (t ++ step_slots (slots_in t) s ∷ [])

-- ---- indexes

-- at which edge the partners of a side's spans lie in a range
abbrev pub partner_edge : Op → Side → Edge
partner_edge op side = (partner_range op side (record { start = 0; end = 0 })).edge

abbrev pub index : ℕ → List ℕ → Edge → PlainIndex
index of key edge = record { of = of; key = key; edge = edge }

-- the indexes by which a step's rows are looked for, where `at i` are the slots of step i
abbrev pub step_indexes : (ℕ → List ℕ) → PlainStep → List PlainIndex
step_indexes at (Named n heads) = []
step_indexes at (Leaf of p) = []
step_indexes at (Join op left right) =
    index left (in_both (at left) (at right)) (partner_edge op Right)
    ∷ (index right (in_both (at left) (at right)) (partner_edge op Left) ∷ [])
step_indexes at (Either left right) = []
step_indexes at (Where of c) = []
step_indexes at (Exact of q) = []
step_indexes at (Within of q) = []
step_indexes at (Minus joined before inner after) =
    index joined (at inner) Start ∷ (index joined (at before) Start ∷ (index joined (at after) End
    ∷ (index before (at before) Start ∷ (index inner (at inner) Start ∷ (index after (at after) End ∷ [])))))
step_indexes at (Head of head) = []

abbrev pub same_edge : Edge → Edge → Bool
same_edge Start Start = true
same_edge Start End = false
same_edge End Start = false
same_edge End End = true

abbrev pub same_index : PlainIndex → PlainIndex → Bool
same_index x y = (x.of == y.of) && (bytes_eq x.key y.key && same_edge x.edge y.edge)

-- with one index more, where it isn't there yet
abbrev pub with_index : List PlainIndex → PlainIndex → List PlainIndex
with_index xs x = cond (list_any (same_index x) xs) xs (xs ++ x ∷ [])

-- each once, where it stands first
abbrev pub each_once : List PlainIndex → List PlainIndex
each_once xs = fold with_index [] xs

-- those of each step, in the order of the steps that look by them
abbrev pub plan_indexes : List PlainStep → List PlainIndex
plan_indexes steps = flat_map (λ s. each_once (step_indexes (slots_in (slots_table steps [])) s)) steps

-- ---- the plan

abbrev pub plan_of : List PlainStatement → PlainPlan
plan_of statements = record {
  steps = plan_steps statements;
  indexes = plan_indexes (plan_steps statements);
  shown = map (step_of (plan_steps statements)) (outputs statements);
}
