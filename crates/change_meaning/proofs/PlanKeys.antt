-- The rows of the plan of shaped and sound rules bind the slots by which they are looked for.
use Rattle.std.specs.Prelude.{ℕ, zero, suc, ◌≡◌, ◌+◌, ◌<◌, ◌≤◌, ◌==◌, ◌⊎◌, refl, Bool, true, false, ◌&&◌, ◌||◌, nat_lt, nat_le, Some, List, [], ◌∷◌, ◌++◌, map, length}
use Rattle.std.specs.List.{filter, flat_map, list_all}
use Rattle.std.proofs.Common.{inl, inr, ap, sym, ◌∙◌, arith, subst, length-append}
use Rattle.std.proofs.lemmas.Bool.{true≢false, and_parts, or_cases, eqb-true}
use Rattle.std.proofs.lemmas.Bool.Decides.{nat_tests}
use Rattle.std.proofs.lemmas.Option.{none-some}
use Rattle.ordered_lists.specs.Lists.{Each, Each-filter}
use Rattle.event_model.specs.declared.atoms.NameArity.{NameArity}
use Rattle.event_model.specs.declared.operators.Op.TheVariants.{Seq}
use Rattle.event_model.specs.declared.terms.TheConstants.{MOST_SLOTS}
use Rattle.event_model.specs.declared.terms.Pat.{Pat, out-Pat, roll-Pat, out-roll-Pat}
use Rattle.event_model.specs.declared.terms.Pat.TheOpen.{Pat-F}
use Rattle.event_model.specs.declared.terms.Pat.TheOpen.Pat-F.{Var, Any, Num, Sym, Text, Comp}
use Rattle.event_model.specs.declared.terms.Pat.TheFolds.{map-Pat, fold_out-Pat}
use Rattle.event_model.proofs.Layers.{Each as EachPart, args_of as parts_of, by_layers}
use Rattle.rule_ast.specs.PlainPlans.{PlainStep, Named, Leaf, Join, Either, Where, Exact, Within, Minus, Head}
use Rattle.rule_ast.specs.Shaped.{parts_pass, passes, is_argument, is_shaped_cond, is_length, is_shaped_pattern, is_shaped_head, names_differ, is_shaped_rule, is_shaped_statement, IsShaped}
use Rattle.rule_ast.specs.Trees.{PlainPattern, PlainRule, PlainStatement, Clause, Show}
use Rattle.rule_ast.specs.Trees as tree
use Rattle.rule_ast.specs.Vars.{slots_of, slots_step, slots_at as slots_layer, atom_vars, vars, is_in, is_in-none, is_in-cons, is_in-append}
use Rattle.rule_check.specs.Cycles.{IsRanking, rank_of}
use Rattle.rule_check.specs.Sound.{rules_of, AreAmong, AreOrsAlike, AreNotsBound, AreSafe}
use Rattle.rule_check.specs.Verdict.{IsSound}
use Rattle.pattern_meaning.specs.PatternRows.{name_of}
use Rattle.pattern_meaning.specs.RuleRows.{has_head}
use Rattle.step_meaning.specs.Growing.{AtPush}
use Rattle.step_meaning.specs.NamedSteps.{plan_lower}
use Rattle.step_meaning.specs.PlanOf.{top, step_of, body_steps, rule_steps, name_steps, names_steps, plan_names, plan_steps, in_either, step_slots, slots_in, slots_table}
use Rattle.step_meaning.specs.StepRows.{step_at}
use Rattle.change_meaning.specs.Keys.{slots_at, is_body_step, IsBody, AreSameSlots, IsKeyedStep, IsWorkable}
use Rattle.change_meaning.proofs.SlotLaws.{in_that_small, in_either_is, small_at, slots_front, slots_end}

-- ---- the variables of shaped atoms are small

passes_at : (t : ℕ → Bool) (any : Bool) (p : Pat) {x : Pat-F Pat} → out-Pat p ≡ x
    → passes t any p ≡ parts_pass t any (map-Pat Pat Bool (passes t any) x)
unfolding passes
passes_at t any p e = fold_out-Pat Bool (parts_pass t any) p ∙ ap (λ x. parts_pass t any (map-Pat Pat Bool (passes t any) x)) e

module _ (t : ℕ → Bool) (any : Bool) where
  -- each variable of an argument that passes passes
  abbrev Pass : Pat → Type 0
  Pass p = passes t any p ≡ true → (s : ℕ) → is_in s (slots_of p) ≡ true → t s ≡ true

  parts_all : (ps : List Pat) → EachPart Pass ps → list_all (λ b. b) (map (passes t any) ps) ≡ true → (s : ℕ)
      → is_in s (flat_map (λ slots. slots) (map slots_of ps)) ≡ true → t s ≡ true
  parts_all [] h e s i = absurd (true≢false (sym i ∙ is_in-none s))
  parts_all (p ∷ ps) h e s i =
      let parts = and_parts (passes t any p) (list_all (λ b. b) (map (passes t any) ps)) e in
      at (or_cases (is_in s (slots_of p)) (is_in s (flat_map (λ slots. slots) (map slots_of ps)))
      (sym (is_in-append s (slots_of p) (flat_map (λ slots. slots) (map slots_of ps))) ∙ i)) (h.0 parts.0 s) (parts_all ps h.1 parts.1 s)
    where
      at : (is_in s (slots_of p) ≡ true) ⊎ (is_in s (flat_map (λ slots. slots) (map slots_of ps)) ≡ true)
          → (is_in s (slots_of p) ≡ true → t s ≡ true)
          → (is_in s (flat_map (λ slots. slots) (map slots_of ps)) ≡ true → t s ≡ true) → t s ≡ true
      at (inl k) f g = f k
      at (inr k) f g = g k

  layer_all : (a : Pat-F Pat) → EachPart Pass (parts_of a) → parts_pass t any (map-Pat Pat Bool (passes t any) a) ≡ true → (s : ℕ)
      → is_in s (slots_step (map-Pat Pat (List ℕ) slots_of a)) ≡ true → t s ≡ true
  layer_all (Var slot) h e s i =
      at (or_cases (slot == s) (is_in s []) (sym (is_in-cons s slot []) ∙ i))
    where
      at : ((slot == s) ≡ true) ⊎ (is_in s [] ≡ true) → t s ≡ true
      at (inl k) = ap t (sym (eqb-true slot s k)) ∙ e
      at (inr k) = absurd (true≢false (sym k ∙ is_in-none s))
  layer_all Any h e s i = absurd (true≢false (sym i ∙ is_in-none s))
  layer_all (Num n) h e s i = absurd (true≢false (sym i ∙ is_in-none s))
  layer_all (Sym w) h e s i = absurd (true≢false (sym i ∙ is_in-none s))
  layer_all (Text w) h e s i = absurd (true≢false (sym i ∙ is_in-none s))
  layer_all (Comp name ps) h e s i = parts_all ps h e s i

  vars_pass : (p : Pat) → Pass p
  vars_pass = by_layers Pass (λ a h e s i.
      layer_all a h (sym (passes_at t any (roll-Pat a) (out-roll-Pat a)) ∙ e) s
      (sym (ap (is_in s) (slots_layer (roll-Pat a) (out-roll-Pat a))) ∙ i))

-- the variables of each atom are below the limit
abbrev AreSmallAtoms : PlainPattern → Type 0
AreSmallAtoms (tree.Atom a) = (s : ℕ) → is_in s (atom_vars a) ≡ true → s < MOST_SLOTS
AreSmallAtoms (tree.Both op l r) = AreSmallAtoms l × AreSmallAtoms r
AreSmallAtoms (tree.Either l r) = AreSmallAtoms l × AreSmallAtoms r
AreSmallAtoms (tree.Where p c) = AreSmallAtoms p
AreSmallAtoms (tree.Exact p q) = AreSmallAtoms p
AreSmallAtoms (tree.Within p q) = AreSmallAtoms p
AreSmallAtoms (tree.Not i b a) = AreSmallAtoms i × AreSmallAtoms b × AreSmallAtoms a

module _ (k : ℕ) (le : k ≤ MOST_SLOTS) where
  args_small : (args : List Pat) → list_all (is_argument k) args ≡ true → (s : ℕ) → is_in s (flat_map slots_of args) ≡ true → s < MOST_SLOTS
  args_small [] e s i = absurd (true≢false (sym i ∙ is_in-none s))
  args_small (p ∷ args) e s i =
      let parts = and_parts (is_argument k p) (list_all (is_argument k) args) e in
      at (or_cases (is_in s (slots_of p)) (is_in s (flat_map slots_of args)) (sym (is_in-append s (slots_of p) (flat_map slots_of args)) ∙ i))
      (vars_pass (λ slot. nat_lt slot k) true p parts.0 s) (args_small args parts.1 s)
    where
      at : (is_in s (slots_of p) ≡ true) ⊎ (is_in s (flat_map slots_of args) ≡ true) → (is_in s (slots_of p) ≡ true → nat_lt s k ≡ true)
          → (is_in s (flat_map slots_of args) ≡ true → s < MOST_SLOTS) → s < MOST_SLOTS
      at (inl d) f g = let lt : s < k = (let h = f d in grind (arith, nat_tests, h)) in omega (arith, lt, le)
      at (inr d) f g = g d

  small_atoms : (p : PlainPattern) → is_shaped_pattern k p ≡ true → AreSmallAtoms p
  small_atoms (tree.Atom a) e = args_small a.args (and_parts _ (list_all (is_argument k) a.args) e).1
  small_atoms (tree.Both op l r) e =
      let parts = and_parts (is_shaped_pattern k l) (is_shaped_pattern k r) e in (small_atoms l parts.0, small_atoms r parts.1)
  small_atoms (tree.Either l r) e =
      let parts = and_parts (is_shaped_pattern k l) (is_shaped_pattern k r) e in (small_atoms l parts.0, small_atoms r parts.1)
  small_atoms (tree.Where p c) e = small_atoms p (and_parts (is_shaped_pattern k p) (is_shaped_cond k c) e).0
  small_atoms (tree.Exact p q) e = small_atoms p (and_parts (is_shaped_pattern k p) (is_length q) e).0
  small_atoms (tree.Within p q) e = small_atoms p (and_parts (is_shaped_pattern k p) (is_length q) e).0
  small_atoms (tree.Not i b a) e =
      let first = and_parts (is_shaped_pattern k i) (is_shaped_pattern k b && is_shaped_pattern k a) e in
      let rest = and_parts (is_shaped_pattern k b) (is_shaped_pattern k a) first.1 in
      (small_atoms i first.0, small_atoms b rest.0, small_atoms a rest.1)

-- ---- more steps

table_push : (ss : List PlainStep) (s : PlainStep) (t : List (List ℕ))
    → slots_table (ss ++ s ∷ []) t ≡ slots_table ss t ++ step_slots (slots_in (slots_table ss t)) s ∷ []
table_push [] s t = refl
table_push (x ∷ ss) s t = table_push ss s (t ++ step_slots (slots_in t) x ∷ [])

table_length : (ss : List PlainStep) (t : List (List ℕ)) → length (slots_table ss t) ≡ length t + length ss
table_length [] t = omega arith
table_length (x ∷ ss) t =
    table_length ss (t ++ step_slots (slots_in t) x ∷ []) ∙ omega (arith, length-append t (step_slots (slots_in t) x ∷ []))

pushed_slots : (ss : List PlainStep) (s : PlainStep) (j : ℕ) → j < length ss → slots_at (ss ++ s ∷ []) j ≡ slots_at ss j
pushed_slots ss s j h =
    ap (λ t. slots_in t j) (table_push ss s [])
    ∙ slots_front (slots_table ss []) (step_slots (slots_at ss) s) j (omega (arith, h, table_length ss []))

last_slots : (ss : List PlainStep) (s : PlainStep) → slots_at (ss ++ s ∷ []) (length ss) ≡ step_slots (slots_at ss) s
last_slots ss s =
    (let e : length ss ≡ length (slots_table ss []) = omega (arith, table_length ss []) in ap (slots_at (ss ++ s ∷ [])) e)
    ∙ ap (λ t. slots_in t (length (slots_table ss []))) (table_push ss s [])
    ∙ slots_end (slots_table ss []) (step_slots (slots_at ss) s)

pushed_step : (ss : List PlainStep) (s : PlainStep) (j : ℕ) → j < length ss → step_at (ss ++ s ∷ []) j ≡ step_at ss j
pushed_step [] s j h = absurd (let k : ⊥ = omega (arith, h) in k)
pushed_step (x ∷ ss) s zero h = refl
pushed_step (x ∷ ss) s (suc j) h = let lt : j < length ss = omega (arith, h) in pushed_step ss s j lt

last_step : (ss : List PlainStep) (s : PlainStep) → step_at (ss ++ s ∷ []) (length ss) ≡ Some s
last_step [] s = refl
last_step (x ∷ ss) s = last_step ss s

last_top : (ss : List PlainStep) (s : PlainStep) → top (ss ++ s ∷ []) ≡ length ss
last_top ss s = omega (arith, length-append ss (s ∷ []))

-- steps behind others leave the steps and slots of these
record Grows (ss more : List PlainStep) : Type 0 where
  longer : length ss ≤ length more
  slots : (j : ℕ) → j < length ss → slots_at more j ≡ slots_at ss j
  steps : (j : ℕ) → j < length ss → step_at more j ≡ step_at ss j

push_grows : (ss : List PlainStep) (s : PlainStep) → Grows ss (ss ++ s ∷ [])
push_grows ss s = record { longer = omega (arith, length-append ss (s ∷ [])); slots = pushed_slots ss s; steps = pushed_step ss s }

◌and_then◌ : {a b c : List PlainStep} → Grows a b → Grows b c → Grows a c
◌and_then◌ p q = record {
  longer = omega (arith, p.longer, q.longer);
  slots = λ j h. q.slots j (omega (arith, h, p.longer)) ∙ p.slots j h;
  steps = λ j h. q.steps j (omega (arith, h, p.longer)) ∙ p.steps j h;
}

body_grows : (of : NameArity → ℕ) (p : PlainPattern) (ss : List PlainStep) → Grows ss (body_steps of p ss)
body_grows of (tree.Atom a) ss = push_grows ss _
body_grows of (tree.Both op l r) ss = ◌and_then◌ (body_grows of l ss) (◌and_then◌ (body_grows of r _) (push_grows _ _))
body_grows of (tree.Either l r) ss = ◌and_then◌ (body_grows of l ss) (◌and_then◌ (body_grows of r _) (push_grows _ _))
body_grows of (tree.Where p c) ss = ◌and_then◌ (body_grows of p ss) (push_grows _ _)
body_grows of (tree.Exact p q) ss = ◌and_then◌ (body_grows of p ss) (push_grows _ _)
body_grows of (tree.Within p q) ss = ◌and_then◌ (body_grows of p ss) (push_grows _ _)
body_grows of (tree.Not i b a) ss =
    ◌and_then◌ (body_grows of b ss) (◌and_then◌ (body_grows of a _)
    (◌and_then◌ (push_grows _ _) (◌and_then◌ (body_grows of i _) (push_grows _ _))))

-- ---- steps that bind their slots

-- the operands on whose slots a step depends are among these
abbrev IsInner : ℕ → PlainStep → Type 0
IsInner i (Named n heads) = Unit {0}
IsInner i (Leaf of p) = Unit {0}
IsInner i (Join op l r) = (l < i) × (r < i)
IsInner i (Either l r) = (l < i) × (r < i)
IsInner i (Where of c) = of < i
IsInner i (Exact of q) = of < i
IsInner i (Within of q) = of < i
IsInner i (Minus j b n a) = (j < i) × (b < i) × (n < i) × (a < i)
IsInner i (Head of head) = Unit {0}

inner_more : (i k : ℕ) → i ≤ k → (s : PlainStep) → IsInner i s → IsInner k s
inner_more i k le (Named n heads) h = tt
inner_more i k le (Leaf of p) h = tt
inner_more i k le (Join op l r) h = (omega (arith, h.0, le), omega (arith, h.1, le))
inner_more i k le (Either l r) h = (omega (arith, h.0, le), omega (arith, h.1, le))
inner_more i k le (Where of c) h = omega (arith, h, le)
inner_more i k le (Exact of q) h = omega (arith, h, le)
inner_more i k le (Within of q) h = omega (arith, h, le)
inner_more i k le (Minus j b n a) h = (omega (arith, h.0, le), omega (arith, h.1, le), omega (arith, h.2, le), omega (arith, h.3, le))
inner_more i k le (Head of head) h = tt

module _ (ss more : List PlainStep) (g : Grows ss more) where
  body_stays : (j : ℕ) → j < length ss → IsBody ss j → IsBody more j
  body_stays j h e = ap is_body_step (g.steps j h) ∙ e

  slot_stays : (s j : ℕ) → j < length ss → is_in s (slots_at more j) ≡ is_in s (slots_at ss j)
  slot_stays s j h = ap (is_in s) (g.slots j h)

  keyed_stays : (s : PlainStep) → IsInner (length ss) s → IsKeyedStep ss s → IsKeyedStep more s
  keyed_stays (Named n heads) h k = tt
  keyed_stays (Leaf of p) h k = k
  keyed_stays (Join op l r) h k = (body_stays l h.0 k.0, body_stays r h.1 k.1)
  keyed_stays (Either l r) h k = (
    body_stays l h.0 k.0,
    body_stays r h.1 k.1,
    λ s. slot_stays s l h.0 ∙ k.2 s ∙ sym (slot_stays s r h.1),
  )
  keyed_stays (Where of c) h k = body_stays of h k
  keyed_stays (Exact of q) h k = body_stays of h k
  keyed_stays (Within of q) h k = body_stays of h k
  keyed_stays (Minus j b n a) h k = (
    body_stays j h.0 k.0,
    body_stays b h.1 k.1,
    body_stays n h.2 k.2,
    body_stays a h.3 k.3,
    record {
      limits = λ s. slot_stays s j h.0 ∙ k.4.limits s
          ∙ ap (is_in s) (λ i. in_either (sym (g.slots b h.1) i) (sym (g.slots a h.3) i));
      inside = λ s e. slot_stays s j h.0 ∙ k.4.inside s (sym (slot_stays s n h.2) ∙ e);
    },
  )
  keyed_stays (Head of head) h k = tt

-- each step binds its slots, by operands among these
abbrev AreKeyed : List PlainStep → Type 0
AreKeyed ss = (i : ℕ) (s : PlainStep) → step_at ss i ≡ Some s → IsKeyedStep ss s × IsInner (length ss) s

keyed_push : (ss : List PlainStep) (s : PlainStep) → AreKeyed ss → IsKeyedStep ss s → IsInner (length ss) s → AreKeyed (ss ++ s ∷ [])
keyed_push ss s all k h i x e = at (AtPush ss s x i e)
  where
    le : length ss ≤ length (ss ++ s ∷ [])
    le = omega (arith, length-append ss (s ∷ []))

    at : ((i < length ss) × (step_at ss i ≡ Some x)) ⊎ ((i ≡ length ss) × (s ≡ x))
        → IsKeyedStep (ss ++ s ∷ []) x × IsInner (length (ss ++ s ∷ [])) x
    at (inl d) =
        let old = all i x d.1 in
        (keyed_stays ss (ss ++ s ∷ []) (push_grows ss s) x old.1 old.0, inner_more (length ss) (length (ss ++ s ∷ [])) le x old.1)
    at (inr d) =
        subst (λ y. IsKeyedStep (ss ++ s ∷ []) y × IsInner (length (ss ++ s ∷ [])) y) d.1
        (keyed_stays ss (ss ++ s ∷ []) (push_grows ss s) s h k, inner_more (length ss) (length (ss ++ s ∷ [])) le s h)

-- the steps of a pattern, the last of which binds its variables
record IsMade (p : PlainPattern) (more : List PlainStep) : Type 0 where
  keyed : AreKeyed more
  some : 0 < length more
  body : IsBody more (top more)
  slots : AreSameSlots (slots_at more (top more)) (vars p)

top_in : (more : List PlainStep) → 0 < length more → (k : ℕ) → length more ≤ k → top more < k
top_in more some k le = omega (arith, some, le)

-- one more step, which is the pattern's
made_last : (p : PlainPattern) (ss : List PlainStep) (s : PlainStep) → AreKeyed ss → IsKeyedStep ss s → IsInner (length ss) s
    → is_body_step (Some s) ≡ true → AreSameSlots (step_slots (slots_at ss) s) (vars p) → IsMade p (ss ++ s ∷ [])
made_last p ss s all k h b same = record {
  keyed = keyed_push ss s all k h;
  some = omega (arith, length-append ss (s ∷ []));
  body = ap is_body_step (ap (step_at (ss ++ s ∷ [])) (last_top ss s) ∙ last_step ss s) ∙ b;
  slots = λ t. ap (is_in t) (ap (slots_at (ss ++ s ∷ [])) (last_top ss s) ∙ last_slots ss s) ∙ same t;
}

-- what is used of a rule
abbrev IsFine : PlainRule → Type 0
IsFine r = AreOrsAlike r.body × AreNotsBound r.body × AreSmallAtoms r.body

module _ (of : NameArity → ℕ) where
  -- what holds of a part still holds behind it
  part_body : (p : PlainPattern) (part more : List PlainStep) → IsMade p part → Grows part more → IsBody more (top part)
  part_body p part more m g = body_stays part more g (top part) (top_in part m.some (length part) (omega arith)) m.body

  part_slots : (p : PlainPattern) (part more : List PlainStep) → IsMade p part → Grows part more → AreSameSlots (slots_at more (top part)) (vars p)
  part_slots p part more m g s =
      slot_stays part more g s (top part) (top_in part m.some (length part) (omega arith)) ∙ m.slots s

  either_slots : (ss : List PlainStep) (l r : ℕ) (xs ys : List ℕ) → AreSameSlots (slots_at ss l) xs → AreSameSlots (slots_at ss r) ys
      → AreSameSlots (in_either (slots_at ss l) (slots_at ss r)) (xs ++ ys)
  either_slots ss l r xs ys h g s =
      in_either_is (slots_at ss l) (slots_at ss r) (small_at ss l) (small_at ss r) s ∙ (λ i. h s i || g s i) ∙ sym (is_in-append s xs ys)

  alike : (xs ys : List ℕ) → AreAmong xs ys → AreAmong ys xs → AreSameSlots xs ys
  alike xs ys h g s = at (is_in s xs) refl (is_in s ys) refl
    where
      at : (a : Bool) → is_in s xs ≡ a → (b : Bool) → is_in s ys ≡ b → a ≡ b
      at true e true d = refl
      at true e false d = absurd (true≢false (sym (h s e) ∙ d))
      at false e true d = absurd (true≢false (sym (g s d) ∙ e))
      at false e false d = refl

  made_of : (p : PlainPattern) (ss : List PlainStep) → AreKeyed ss → AreOrsAlike p → AreNotsBound p → AreSmallAtoms p
      → IsMade p (body_steps of p ss)
  made_of (tree.Atom a) ss all o n small =
      made_last (tree.Atom a) ss (Leaf (of (name_of a)) a) all small tt refl
      (in_that_small (λ s. is_in s (atom_vars a)) (λ s e. (let lt = small s e in grind (arith, nat_tests, lt))))
  made_of (tree.Both op l r) ss all o n small =
      let left = body_steps of l ss in
      let right = body_steps of r left in
      let ml = made_of l ss all o.0 n.0 small.0 in
      let mr = made_of r left ml.keyed o.1 n.1 small.1 in
      let g = body_grows of r left in
      made_last (tree.Both op l r) right (Join op (top left) (top right)) mr.keyed (part_body l left right ml g, mr.body)
      (top_in left ml.some (length right) g.longer, top_in right mr.some (length right) (omega arith)) refl
      (either_slots right (top left) (top right) (vars l) (vars r) (part_slots l left right ml g) mr.slots)
  made_of (tree.Either l r) ss all o n small =
      let left = body_steps of l ss in
      let right = body_steps of r left in
      let ml = made_of l ss all o.0 n.0 small.0 in
      let mr = made_of r left ml.keyed o.1 n.1 small.1 in
      let g = body_grows of r left in
      let ls = part_slots l left right ml g in
      let both : AreSameSlots (slots_at right (top left)) (slots_at right (top right)) =
      λ s. ls s ∙ alike (vars l) (vars r) o.2 o.3 s ∙ sym (mr.slots s) in
      made_last (tree.Either l r) right (Either (top left) (top right)) mr.keyed (part_body l left right ml g, mr.body, both)
      (top_in left ml.some (length right) g.longer, top_in right mr.some (length right) (omega arith)) refl
      (either_slots right (top left) (top right) (vars l) (vars r) ls mr.slots)
  made_of (tree.Where p c) ss all o n small =
      let inner = body_steps of p ss in
      let m = made_of p ss all o n small in
      made_last (tree.Where p c) inner (Where (top inner) c) m.keyed m.body (top_in inner m.some (length inner) (omega arith)) refl m.slots
  made_of (tree.Exact p q) ss all o n small =
      let inner = body_steps of p ss in
      let m = made_of p ss all o n small in
      made_last (tree.Exact p q) inner (Exact (top inner) q) m.keyed m.body (top_in inner m.some (length inner) (omega arith)) refl m.slots
  made_of (tree.Within p q) ss all o n small =
      let inner = body_steps of p ss in
      let m = made_of p ss all o n small in
      made_last (tree.Within p q) inner (Within (top inner) q) m.keyed m.body (top_in inner m.some (length inner) (omega arith)) refl m.slots
  made_of (tree.Not i b a) ss all o n small =
      let before = body_steps of b ss in
      let after = body_steps of a before in
      let j = Join Seq (top before) (top after) in
      let joined = after ++ j ∷ [] in
      let inner = body_steps of i joined in
      let mb = made_of b ss all o.1 n.1 small.1 in
      let ma = made_of a before mb.keyed o.2 n.2 small.2 in
      let ga = body_grows of a before in
      let gj = push_grows after j in
      let gi = body_grows of i joined in
      let mj : IsMade (tree.Both Seq b a) joined =
      made_last (tree.Both Seq b a) after j ma.keyed (part_body b before after mb ga, ma.body)
      (top_in before mb.some (length after) ga.longer, top_in after ma.some (length after) (omega arith)) refl
      (either_slots after (top before) (top after) (vars b) (vars a) (part_slots b before after mb ga) ma.slots) in
      let mi = made_of i joined mj.keyed o.0 n.0 small.0 in
      let gb = ◌and_then◌ ga (◌and_then◌ gj gi) in
      let gaft = ◌and_then◌ gj gi in
      let sj = part_slots (tree.Both Seq b a) joined inner mj gi in
      made_last (tree.Not i b a) inner (Minus (top joined) (top before) (top inner) (top after)) mi.keyed (
        part_body (tree.Both Seq b a) joined inner mj gi,
        part_body b before inner mb gb,
        mi.body,
        part_body a after inner ma gaft,
        record {
          limits = λ s. sj s ∙ sym (either_slots inner (top before) (top after) (vars b) (vars a) (part_slots b before inner mb gb)
              (part_slots a after inner ma gaft) s);
          inside = λ s e. sj s ∙ n.3 s (sym (mi.slots s) ∙ e);
        },
      ) (
        top_in joined mj.some (length inner) gi.longer,
        top_in before mb.some (length inner) gb.longer,
        top_in inner mi.some (length inner) (omega arith),
        top_in after ma.some (length inner) gaft.longer,
      ) refl sj

  -- ---- rules

  rules_keyed : (rs : List PlainRule) → Each IsFine rs → (ss : List PlainStep) (heads : List ℕ) → AreKeyed ss → AreKeyed (rule_steps of rs ss heads).0
  rules_keyed [] f ss heads all = all
  rules_keyed (r ∷ rs) f ss heads all =
      let body = body_steps of r.body ss in
      let m = made_of r.body ss all f.0.0 f.0.1 f.0.2 in
      let with_head = body ++ Head (top body) r.head ∷ [] in
      rules_keyed rs f.1 with_head (heads ++ top with_head ∷ []) (keyed_push body (Head (top body) r.head) m.keyed tt tt)

name_keyed : (rules : List PlainRule) → Each IsFine rules → (ss : List PlainStep) (n : NameArity) → AreKeyed ss → AreKeyed (name_steps rules ss n)
name_keyed rules f ss n all =
    let made = rule_steps (step_of ss) (filter (has_head n) rules) ss [] in
    keyed_push made.0 (Named n made.1) (rules_keyed (step_of ss) (filter (has_head n) rules) (Each-filter IsFine (has_head n) rules f) ss [] all) tt tt

names_keyed : (rules : List PlainRule) → Each IsFine rules → (ns : List NameArity) (ss : List PlainStep) → AreKeyed ss → AreKeyed (names_steps rules ns ss)
names_keyed rules f [] ss all = all
names_keyed rules f (n ∷ ns) ss all = names_keyed rules f ns (name_steps rules ss n) (name_keyed rules f ss n all)

fine_rules : (statements : List PlainStatement) → list_all is_shaped_statement statements ≡ true → AreSafe (rules_of statements)
    → Each IsFine (rules_of statements)
fine_rules [] e safe = tt
fine_rules (Clause r ∷ statements) e safe =
    let parts = and_parts (is_shaped_rule r) (list_all is_shaped_statement statements) e in
    let shape = and_parts (nat_le (length r.vars) MOST_SLOTS && names_differ r.vars)
    (is_shaped_head (length r.vars) r.head && is_shaped_pattern (length r.vars) r.body) parts.0 in
    let few = (and_parts (nat_le (length r.vars) MOST_SLOTS) (names_differ r.vars) shape.0).0 in
    let le : length r.vars ≤ MOST_SLOTS = grind (arith, nat_tests, few) in
    let body = (and_parts (is_shaped_head (length r.vars) r.head) (is_shaped_pattern (length r.vars) r.body) shape.1).1 in
    ((safe.0.ors_alike, safe.0.nots_bound, small_atoms (length r.vars) le r.body body), fine_rules statements parts.1 safe.1)
fine_rules (Show names ∷ statements) e safe = fine_rules statements (and_parts _ (list_all is_shaped_statement statements) e).1 safe

-- the plan of shaped and sound rules is one to work with
pub plan_workable : (statements : List PlainStatement) → IsShaped statements → IsSound statements
    → IsRanking (rules_of statements) (rank_of (rules_of statements)) → IsWorkable (plan_steps statements)
plan_workable statements shaped sound ranking = record {
  lower = plan_lower statements [] ranking;
  keyed = λ i s e.
      (names_keyed (rules_of statements) (fine_rules statements shaped.each sound.safe) (plan_names statements) []
      (λ i s e. absurd (none-some s e)) i s e).0;
}
