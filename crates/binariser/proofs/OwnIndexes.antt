-- No two steps of a plan look by the same index, so its indexes are those of all its steps, each once.
use Rattle.std.proofs.Common.{inl, inr, ◌⊎◌, ℕ, zero, suc, ◌≡◌, ◌+◌, ◌-◌, ◌<◌, ◌≤◌, Bool, true, false, cond, ◌&&◌, ◌||◌, ◌==◌, List, [], ◌∷◌, ◌++◌, map, length, fold, refl, sym, ap, ◌∙◌, arith, subst, append_assoc, append-nil, length-append}
use Rattle.std.specs.List.{filter, flat_map, list_any}
use Rattle.std.proofs.lemmas.Bool.Decides.{nat_tests}
use Rattle.std.proofs.lemmas.Bool.{or_parts, or_from}
use Rattle.ordered_lists.specs.Lists.{Each, Each-append}
use Rattle.event_model.specs.declared.atoms.NameArity.{NameArity}
use Rattle.event_model.specs.declared.operators.Edge.{Edge}
use Rattle.event_model.specs.declared.operators.Edge.TheVariants.{Start, End}
use Rattle.event_model.specs.declared.operators.Op.{Op}
use Rattle.event_model.specs.declared.operators.Op.TheVariants.{Seq}
use Rattle.interval_ops.specs.declared.ranges.Side.TheVariants.{Left, Right}
use Rattle.rule_ast.specs.PlainPlans.{PlainIndex, PlainStep, Named, Leaf, Join, Either, Where, Exact, Within, Minus, Head}
use Rattle.rule_ast.specs.Trees.{PlainPattern, PlainRule, PlainStatement}
use Rattle.rule_ast.specs.Trees as tree
use Rattle.rule_check.specs.Sound.{rules_of}
use Rattle.pattern_meaning.specs.RuleRows.{has_head}
use Rattle.step_meaning.specs.PlanOf.{top, body_steps, rule_steps, name_steps, names_steps, plan_names, plan_steps, step_of, partner_edge, index, step_indexes, same_edge, same_index, with_index, each_once, plan_indexes, slots_in, slots_table}

-- ---- what a step looks by: the step of an index, and its edge

abbrev Look : Type 0
Look = ℕ × Edge

abbrev looks : PlainStep → List Look
looks (Named n heads) = []
looks (Leaf of p) = []
looks (Join op l r) = (l, partner_edge op Right) ∷ ((r, partner_edge op Left) ∷ [])
looks (Either l r) = []
looks (Where of c) = []
looks (Exact of q) = []
looks (Within of q) = []
looks (Minus j b i a) = (j, Start) ∷ ((j, Start) ∷ ((j, End) ∷ ((b, Start) ∷ ((i, Start) ∷ ((a, End) ∷ [])))))
looks (Head of h) = []

abbrev same_look : Look → Look → Bool
same_look v u = (v.0 == u.0) && same_edge v.1 u.1

-- the later step looks by nothing by which the earlier one does
abbrev Apart : (earlier later : PlainStep) → Type 0
Apart x y = Each (λ v. Each (λ u. same_look v u ≡ false) (looks x)) (looks y)

abbrev AreApart : List PlainStep → Type 0
AreApart [] = Unit {0}
AreApart (x ∷ xs) = Each (Apart x) xs × AreApart xs

abbrev LooksIn : ℕ → ℕ → PlainStep → Type 0
LooksIn lo hi x = Each (λ u. (lo ≤ u.0) × (u.0 < hi)) (looks x)

abbrev LooksOut : ℕ → ℕ → PlainStep → Type 0
LooksOut lo hi y = Each (λ v. (v.0 < lo) ⊎ (hi ≤ v.0)) (looks y)

every : {A : Type 0} (P Q : A → Type 0) → ((x : A) → P x → Q x) → (xs : List A) → Each P xs → Each Q xs
every P Q h [] a = tt
every P Q h (x ∷ xs) a = (h x a.0, every P Q h xs a.1)

none_same : {A : Type 0} (xs : List A) → Each (λ x. Unit {0}) xs
none_same [] = tt
none_same (x ∷ xs) = (tt, none_same xs)

other_step : (v u : Look) (lo hi : ℕ) → (lo ≤ u.0) × (u.0 < hi) → (v.0 < lo) ⊎ (hi ≤ v.0) → same_look v u ≡ false
other_step v u lo hi h (inl g) =
    let a : lo ≤ u.0 = h.0 in
    let e : (v.0 == u.0) ≡ false = grind (arith, nat_tests) in ap (λ b. b && same_edge v.1 u.1) e
other_step v u lo hi h (inr g) =
    let a : u.0 < hi = h.1 in
    let e : (v.0 == u.0) ≡ false = grind (arith, nat_tests) in ap (λ b. b && same_edge v.1 u.1) e

apart_out : (lo hi : ℕ) (x y : PlainStep) → LooksIn lo hi x → LooksOut lo hi y → Apart x y
apart_out lo hi x y inside out =
    every (λ v. (v.0 < lo) ⊎ (hi ≤ v.0)) (λ v. Each (λ u. same_look v u ≡ false) (looks x))
    (λ v g. every (λ u. (lo ≤ u.0) × (u.0 < hi)) (λ u. same_look v u ≡ false) (λ u h. other_step v u lo hi h g) (looks x) inside)
    (looks y) out

wider : (a b c d : ℕ) → c ≤ a → b ≤ d → (x : PlainStep) → LooksIn a b x → LooksIn c d x
wider a b c d h g x inside =
    every (λ u. (a ≤ u.0) × (u.0 < b)) (λ u. (c ≤ u.0) × (u.0 < d))
    (λ u k. (let l : a ≤ u.0 = k.0 in omega (arith, l, h), let m : u.0 < b = k.1 in omega (arith, m, g))) (looks x) inside

behind : (a b c d : ℕ) → b ≤ c → (y : PlainStep) → LooksIn c d y → LooksOut a b y
behind a b c d h y inside =
    every (λ v. (c ≤ v.0) × (v.0 < d)) (λ v. (v.0 < a) ⊎ (b ≤ v.0)) (λ v k. inr (let l : c ≤ v.0 = k.0 in omega (arith, l, h)))
    (looks y) inside

apart-append : (xs ys : List PlainStep) → AreApart xs → AreApart ys → Each (λ x. Each (Apart x) ys) xs → AreApart (xs ++ ys)
apart-append [] ys a b c = b
apart-append (x ∷ xs) ys a b c = (Each-append (Apart x) xs ys a.0 c.0, apart-append xs ys a.1 b c.1)

-- ---- steps behind others

-- the steps behind `ss` look at steps from lo on that are below hi, and no two of them look by the same
record Grown (lo hi : ℕ) (ss more : List PlainStep) : Type 0 where
  new : List PlainStep
  is : more ≡ ss ++ new
  inside : Each (LooksIn lo hi) new
  apart : AreApart new

abbrev then : {a b c d : ℕ} {ss mid more : List PlainStep} → b ≤ c → a ≤ c → b ≤ d → Grown a b ss mid → Grown c d mid more → Grown a d ss more
then {a} {b} {c} {d} {ss} {mid} {more} h k l p q = record {
  new = p.new ++ q.new;
  is = q.is ∙ ap (λ t. t ++ q.new) p.is ∙ append_assoc ss p.new q.new;
  inside = Each-append (LooksIn a d) p.new q.new
      (every (LooksIn a b) (LooksIn a d) (wider a b a d (omega arith) l) p.new p.inside)
      (every (LooksIn c d) (LooksIn a d) (wider c d a d k (omega arith)) q.new q.inside);
  apart = apart-append p.new q.new p.apart q.apart
      (every (LooksIn a b) (λ x. Each (Apart x) q.new)
      (λ x i. every (LooksIn c d) (Apart x) (λ y j. apart_out a b x y i (behind a b c d h y j)) q.new q.inside) p.new p.inside);
}

abbrev push : {lo hi : ℕ} {ss more : List PlainStep} (top : ℕ) (s : PlainStep) → hi ≤ top → (p : Grown lo hi ss more) → LooksIn lo top s
    → Each (λ x. Apart x s) p.new → Grown lo top ss (more ++ s ∷ [])
push {lo} {hi} {ss} {more} top s h p inside apart = record {
  new = p.new ++ s ∷ [];
  is = ap (λ t. t ++ s ∷ []) p.is ∙ append_assoc ss p.new (s ∷ []);
  inside = Each-append (LooksIn lo top) p.new (s ∷ [])
      (every (LooksIn lo hi) (LooksIn lo top) (wider lo hi lo top (omega arith) h) p.new p.inside) (inside, tt);
  apart = apart-append p.new (s ∷ []) p.apart (tt, tt) (every (λ x. Apart x s) (λ x. Each (Apart x) (s ∷ [])) (λ x a. (a, tt)) p.new apart);
}

-- a step that looks by nothing
abbrev push_plain : {lo hi : ℕ} {ss more : List PlainStep} (top : ℕ) (s : PlainStep) → looks s ≡ [] → hi ≤ top → Grown lo hi ss more
    → Grown lo top ss (more ++ s ∷ [])
push_plain {lo} {hi} {ss} {more} top s none h p =
    push top s h p (subst (λ l. Each (λ u. (lo ≤ u.0) × (u.0 < top)) l) (sym none) tt)
    (every (λ x. Unit {0}) (λ x. Apart x s)
    (λ x _. subst (λ l. Each (λ v. Each (λ u. same_look v u ≡ false) (looks x)) l) (sym none) tt) p.new (none_same p.new))

-- ---- the steps of a pattern

more_by : (a b : ℕ) (t : List PlainStep) (s : PlainStep) → a < b → b < length t → a < length (t ++ s ∷ [])
more_by a b t s h g = omega (arith, h, g, length-append t (s ∷ []))

longer : (of : NameArity → ℕ) (p : PlainPattern) (ss : List PlainStep) → length ss < length (body_steps of p ss)
longer of (tree.Atom a) ss = omega (arith, length-append ss (body_steps of (tree.Atom a) []))
longer of (tree.Both op l r) ss =
    let left = body_steps of l ss in
    let right = body_steps of r left in
    more_by (length ss) (length left) right (Join op (top left) (top right)) (longer of l ss) (longer of r left)
longer of (tree.Either l r) ss =
    let left = body_steps of l ss in
    let right = body_steps of r left in
    more_by (length ss) (length left) right (Either (top left) (top right)) (longer of l ss) (longer of r left)
longer of (tree.Where p c) ss = let h = longer of p ss in let inner = body_steps of p ss in
    omega (arith, h, length-append inner (Where (top inner) c ∷ []))
longer of (tree.Exact p q) ss = let h = longer of p ss in let inner = body_steps of p ss in
    omega (arith, h, length-append inner (Exact (top inner) q ∷ []))
longer of (tree.Within p q) ss = let h = longer of p ss in let inner = body_steps of p ss in
    omega (arith, h, length-append inner (Within (top inner) q ∷ []))
longer of (tree.Not i b a) ss =
    let before = body_steps of b ss in
    let after = body_steps of a before in
    let s = Join Seq (top before) (top after) in
    let joined = after ++ s ∷ [] in
    let inner = body_steps of i joined in
    let h = longer of b ss in
    let g = longer of a before in
    let k = longer of i joined in
    omega (arith, h, g, k, length-append after (s ∷ []), length-append inner (Minus (top joined) (top before) (top inner) (top after) ∷ []))

differ : (v u : Look) → (v.0 < u.0) ⊎ (u.0 < v.0) → same_look v u ≡ false
differ v u (inl h) = let e : (v.0 == u.0) ≡ false = grind (arith, nat_tests) in ap (λ b. b && same_edge v.1 u.1) e
differ v u (inr h) = let e : (v.0 == u.0) ≡ false = grind (arith, nat_tests) in ap (λ b. b && same_edge v.1 u.1) e

and_no : (b : Bool) → (b && false) ≡ false
and_no true = refl
and_no false = refl

module _ (of : NameArity → ℕ) where
  -- one step more, which is last
  abbrev last_step : {lo hi : ℕ} {ss more : List PlainStep} (s : PlainStep) → hi ≤ length more → (p : Grown lo hi ss more)
      → LooksIn lo (length more) s → Each (λ x. Apart x s) p.new → Grown lo (top (more ++ s ∷ [])) ss (more ++ s ∷ [])
  last_step {lo} {hi} {ss} {more} s h p inside apart =
      let e : length (more ++ s ∷ []) ≡ length more + 1 = length-append more (s ∷ []) in
      push (top (more ++ s ∷ [])) s (omega (arith, e, h)) p
      (wider lo (length more) lo (top (more ++ s ∷ [])) (omega arith) (omega (arith, e)) s inside) apart

  abbrev last_plain : {lo hi : ℕ} {ss more : List PlainStep} (s : PlainStep) → looks s ≡ [] → hi ≤ length more → Grown lo hi ss more
      → Grown lo (top (more ++ s ∷ [])) ss (more ++ s ∷ [])
  last_plain {lo} {hi} {ss} {more} s none h p =
      let e : length (more ++ s ∷ []) ≡ length more + 1 = length-append more (s ∷ []) in
      push_plain (top (more ++ s ∷ [])) s none (omega (arith, e, h)) p

  abbrev of_two : (ss left right : List PlainStep) (s : PlainStep) → length ss < length left → length left < length right
      → LooksIn (length ss) (length right) s → LooksOut (length ss) (top left) s → LooksOut (length left) (top right) s
      → Grown (length ss) (top left) ss left → Grown (length left) (top right) left right
      → Grown (length ss) (top (right ++ s ∷ [])) ss (right ++ s ∷ [])
  of_two ss left right s h g inside first second p q =
      last_step s (omega arith) (then (omega arith) (omega (arith, h)) (omega (arith, g)) p q) inside
      (Each-append (λ x. Apart x s) p.new q.new
      (every (LooksIn (length ss) (top left)) (λ x. Apart x s) (λ x i. apart_out (length ss) (top left) x s i first) p.new p.inside)
      (every (LooksIn (length left) (top right)) (λ x. Apart x s) (λ x i. apart_out (length left) (top right) x s i second) q.new q.inside))

  grown_body : (p : PlainPattern) (ss : List PlainStep) → Grown (length ss) (top (body_steps of p ss)) ss (body_steps of p ss)
  grown_body (tree.Atom a) ss = record { new = body_steps of (tree.Atom a) []; is = refl; inside = (tt, tt); apart = (tt, tt) }
  grown_body (tree.Both op l r) ss =
      let left = body_steps of l ss in
      let right = body_steps of r left in
      let h = longer of l ss in
      let g = longer of r left in
      of_two ss left right (Join op (top left) (top right)) h g
      ((omega (arith, h), omega (arith, h, g)), ((omega (arith, h, g), omega (arith, g)), tt))
      (inr (omega arith), (inr (omega (arith, g)), tt))
      (inl (omega (arith, h)), (inr (omega arith), tt))
      (grown_body l ss) (grown_body r left)
  grown_body (tree.Either l r) ss =
      let left = body_steps of l ss in
      let right = body_steps of r left in
      let h = longer of l ss in
      let g = longer of r left in
      last_plain (Either (top left) (top right)) refl (omega arith)
      (then (omega arith) (omega (arith, h)) (omega (arith, g)) (grown_body l ss) (grown_body r left))
  grown_body (tree.Where p c) ss = last_plain (Where (top (body_steps of p ss)) c) refl (omega arith) (grown_body p ss)
  grown_body (tree.Exact p q) ss = last_plain (Exact (top (body_steps of p ss)) q) refl (omega arith) (grown_body p ss)
  grown_body (tree.Within p q) ss = last_plain (Within (top (body_steps of p ss)) q) refl (omega arith) (grown_body p ss)
  grown_body (tree.Not i b a) ss =
      let before = body_steps of b ss in
      let after = body_steps of a before in
      let j = Join Seq (top before) (top after) in
      let joined = after ++ j ∷ [] in
      let inner = body_steps of i joined in
      let m = Minus (top joined) (top before) (top inner) (top after) in
      let h = longer of b ss in
      let g = longer of a before in
      let k = longer of i joined in
      let one : length joined ≡ length after + 1 = length-append after (j ∷ []) in
      let p = grown_body b ss in
      let q = grown_body a before in
      let r = grown_body i joined in
      let both = of_two ss before after j h g
      ((omega (arith, h), omega (arith, h, g)), ((omega (arith, h, g), omega (arith, g)), tt))
      (inr (omega arith), (inr (omega (arith, g)), tt))
      (inl (omega (arith, h)), (inr (omega arith), tt)) p q in
      last_step m (omega arith) (then (omega arith) (omega (arith, one, h, g)) (omega (arith, k)) both r) (
        (omega (arith, one, h, g), omega (arith, one, k)),
        (
          (omega (arith, one, h, g), omega (arith, one, k)),
          (
            (omega (arith, one, h, g), omega (arith, one, k)),
            (
              (omega (arith, h), omega (arith, one, h, g, k)),
              ((omega (arith, one, h, g, k), omega (arith, k)), ((omega (arith, h, g), omega (arith, one, g, k)), tt)),
            ),
          ),
        ),
      )
      (Each-append (λ x. Apart x m) ((p.new ++ q.new) ++ j ∷ []) r.new
      (Each-append (λ x. Apart x m) (p.new ++ q.new) (j ∷ [])
      (Each-append (λ x. Apart x m) p.new q.new
      (every (LooksIn (length ss) (top before)) (λ x. Apart x m) (λ x at. apart_out (length ss) (top before) x m at (
        inr (omega (arith, one, g)),
        (
          inr (omega (arith, one, g)),
          (
            inr (omega (arith, one, g)),
            (
              inr (omega arith),
              (inr (omega (arith, one, g, k)), (inr (omega (arith, g)), tt)),
            ),
          ),
        ),
      )) p.new p.inside)
      (every (LooksIn (length before) (top after)) (λ x. Apart x m) (λ x at. apart_out (length before) (top after) x m at (
        inr (omega (arith, one)),
        (
          inr (omega (arith, one)),
          (
            inr (omega (arith, one)),
            (
              inl (omega (arith, h)),
              (inr (omega (arith, one, k)), (inr (omega arith), tt)),
            ),
          ),
        ),
      )) q.new q.inside))
      (own_join before after inner joined h g one k, tt))
      (every (LooksIn (length joined) (top inner)) (λ x. Apart x m) (λ x at. apart_out (length joined) (top inner) x m at (
        inl (omega (arith, one)),
        (
          inl (omega (arith, one)),
          (
            inl (omega (arith, one)),
            (
              inl (omega (arith, one, g)),
              (inr (omega arith), (inl (omega (arith, one)), tt)),
            ),
          ),
        ),
      )) r.new r.inside))
    where
      own_join : (before after inner joined : List PlainStep) → length ss < length before → length before < length after
          → length joined ≡ length after + 1 → length joined < length inner
          → Apart (Join Seq (top before) (top after)) (Minus (top joined) (top before) (top inner) (top after))
      own_join before after inner joined h g one k =
          let tj = top joined in
          let tb = top before in
          let ti = top inner in
          let ta = top after in (
            (differ (tj, Start) (tb, End) (inr (omega (arith, one, g))), (differ (tj, Start) (ta, Start) (inr (omega (arith, one, g))), tt)),
            (
              (differ (tj, Start) (tb, End) (inr (omega (arith, one, g))), (differ (tj, Start) (ta, Start) (inr (omega (arith, one, g))), tt)),
              (
                (differ (tj, End) (tb, End) (inr (omega (arith, one, g))), (differ (tj, End) (ta, Start) (inr (omega (arith, one, g))), tt)),
                (
                  (and_no (tb == tb), (differ (tb, Start) (ta, Start) (inl (omega (arith, h, g))), tt)),
                  (
                    (differ (ti, Start) (tb, End) (inr (omega (arith, one, g, k))), (differ (ti, Start) (ta, Start) (inr (omega (arith, one, g, k))), tt)),
                    ((differ (ta, End) (tb, End) (inr (omega (arith, h, g))), (and_no (ta == ta), tt)), tt),
                  ),
                ),
              ),
            ),
          )

  -- ---- rules and names

  grown_rules : (rs : List PlainRule) (ss : List PlainStep) (hs : List ℕ)
      → Grown (length ss) (length (rule_steps of rs ss hs).0) ss (rule_steps of rs ss hs).0 × (length ss ≤ length (rule_steps of rs ss hs).0)
  grown_rules [] ss hs = (record { new = []; is = sym (append-nil ss); inside = tt; apart = tt }, omega arith)
  grown_rules (r ∷ rs) ss hs =
      let body = body_steps of r.body ss in
      let s = Head (top body) r.head in
      let more = body ++ s ∷ [] in
      let one : length more ≡ length body + 1 = length-append body (s ∷ []) in
      let h = longer of r.body ss in
      let rest = grown_rules rs more (hs ++ top more ∷ []) in
      let le = rest.1 in (
        then (omega arith) (omega (arith, one, h)) (omega (arith, le)) (last_plain s refl (omega arith) (grown_body r.body ss)) rest.0,
        omega (arith, one, h, le),
      )

grown_names : (rules : List PlainRule) (ns : List NameArity) (ss : List PlainStep)
    → Grown (length ss) (length (names_steps rules ns ss)) ss (names_steps rules ns ss) × (length ss ≤ length (names_steps rules ns ss))
grown_names rules [] ss = (record { new = []; is = sym (append-nil ss); inside = tt; apart = tt }, omega arith)
grown_names rules (n ∷ ns) ss =
    let made = rule_steps (step_of ss) (filter (has_head n) rules) ss [] in
    let s = Named n made.1 in
    let more = made.0 ++ s ∷ [] in
    let one : length more ≡ length made.0 + 1 = length-append made.0 (s ∷ []) in
    let first = grown_rules (step_of ss) (filter (has_head n) rules) ss [] in
    let rest = grown_names rules ns more in
    let le = first.1 in
    let me = rest.1 in (
      then (omega arith) (omega (arith, one, le)) (omega (arith, me)) (last_plain (step_of ss) s refl (omega arith) first.0) rest.0,
      omega (arith, one, le, me),
    )

-- no two steps of a plan look by the same
plan_apart : (statements : List PlainStatement) → AreApart (plan_steps statements)
plan_apart statements = let g = (grown_names (rules_of statements) (plan_names statements) []).0 in subst AreApart (sym g.is) g.apart

-- ---- each once

or_turn : (a b c : Bool) → (a || (b || c)) ≡ ((a || b) || c)
or_turn true b c = refl
or_turn false b c = refl

list_any_more : {A : Type 0} (p : A → Bool) (xs ys : List A) → list_any p (xs ++ ys) ≡ (list_any p xs || list_any p ys)
list_any_more p [] ys = refl
list_any_more p (x ∷ xs) ys = ap (λ b. p x || b) (list_any_more p xs ys) ∙ or_turn (p x) (list_any p xs) (list_any p ys)

-- those of a list aren't among these: each goes behind them
fold_behind : (acc own ys : List PlainIndex) → Each (λ y. list_any (same_index y) acc ≡ false) ys
    → fold with_index (acc ++ own) ys ≡ acc ++ fold with_index own ys
fold_behind acc own [] h = refl
fold_behind acc own (y ∷ ys) h = ap (λ t. fold with_index t ys) here ∙ fold_behind acc (with_index own y) ys h.1
  where
    at : (b : Bool) → cond b (acc ++ own) ((acc ++ own) ++ y ∷ []) ≡ acc ++ cond b own (own ++ y ∷ [])
    at true = refl
    at false = append_assoc acc own (y ∷ [])

    here : with_index (acc ++ own) y ≡ acc ++ with_index own y
    here = ap (λ b. cond b (acc ++ own) ((acc ++ own) ++ y ∷ []))
        (list_any_more (same_index y) acc own ∙ ap (λ b. b || list_any (same_index y) own) h.0) ∙ at (list_any (same_index y) own)

fold_more : (acc xs ys : List PlainIndex) → fold with_index acc (xs ++ ys) ≡ fold with_index (fold with_index acc xs) ys
fold_more acc [] ys = refl
fold_more acc (x ∷ xs) ys = fold_more (with_index acc x) xs ys

-- what isn't in a list isn't in it with each once
any_once : (p : PlainIndex → Bool) (acc xs : List PlainIndex) → list_any p acc ≡ false → list_any p xs ≡ false
    → list_any p (fold with_index acc xs) ≡ false
any_once p acc [] h g = h
any_once p acc (x ∷ xs) h g =
    let parts = or_parts (p x) (list_any p xs) g in any_once p (with_index acc x) xs (at (list_any (same_index x) acc) parts.0) parts.1
  where
    at : (b : Bool) → p x ≡ false → list_any p (cond b acc (acc ++ x ∷ [])) ≡ false
    at true e = h
    at false e = list_any_more p acc (x ∷ []) ∙ or_from (list_any p acc) (p x || false) h (or_from (p x) false e refl)

module _ (at : ℕ → List ℕ) where
  look_of : PlainIndex → Look
  look_of x = (x.of, x.edge)

  looks_are : (s : PlainStep) → map (λ x. (x.of, x.edge)) (step_indexes at s) ≡ looks s
  looks_are (Named n heads) = refl
  looks_are (Leaf of p) = refl
  looks_are (Join op l r) = refl
  looks_are (Either l r) = refl
  looks_are (Where of c) = refl
  looks_are (Exact of q) = refl
  looks_are (Within of q) = refl
  looks_are (Minus j b i a) = refl
  looks_are (Head of h) = refl

  and_middle : (a b c : Bool) → (a && c) ≡ false → (a && (b && c)) ≡ false
  and_middle true true c e = e
  and_middle true false c e = refl
  and_middle false b c e = refl

  none_like : (y : PlainIndex) (xs : List PlainIndex) → Each (λ u. same_look (y.of, y.edge) u ≡ false) (map (λ x. (x.of, x.edge)) xs)
      → list_any (same_index y) xs ≡ false
  none_like y [] h = refl
  none_like y (x ∷ xs) h = or_from (same_index y x) (list_any (same_index y) xs) (and_middle (y.of == x.of) _ _ h.0) (none_like y xs h.1)

  each_like : (xs ys : List PlainIndex)
      → Each (λ v. Each (λ u. same_look v u ≡ false) (map (λ x. (x.of, x.edge)) xs)) (map (λ x. (x.of, x.edge)) ys)
      → Each (λ y. list_any (same_index y) xs ≡ false) ys
  each_like xs [] h = tt
  each_like xs (y ∷ ys) h = (none_like y xs h.0, each_like xs ys h.1)

  apart_like : (s t : PlainStep) → Apart s t → Each (λ y. list_any (same_index y) (step_indexes at s) ≡ false) (step_indexes at t)
  apart_like s t h = each_like (step_indexes at s) (step_indexes at t)
      (subst (λ l. Each (λ v. Each (λ u. same_look v u ≡ false) l) (map (λ x. (x.of, x.edge)) (step_indexes at t))) (sym (looks_are s))
      (subst (λ l. Each (λ v. Each (λ u. same_look v u ≡ false) (looks s)) l) (sym (looks_are t)) h))

  rest_like : (s : PlainStep) (ss : List PlainStep) → Each (Apart s) ss
      → Each (λ y. list_any (same_index y) (each_once (step_indexes at s)) ≡ false) (flat_map (step_indexes at) ss)
  rest_like s [] h = tt
  rest_like s (t ∷ ss) h =
      Each-append (λ y. list_any (same_index y) (each_once (step_indexes at s)) ≡ false) (step_indexes at t) (flat_map (step_indexes at) ss)
      (every (λ y. list_any (same_index y) (step_indexes at s) ≡ false) (λ y. list_any (same_index y) (each_once (step_indexes at s)) ≡ false)
      (λ y e. any_once (same_index y) [] (step_indexes at s) refl e) (step_indexes at t) (apart_like s t h.0))
      (rest_like s ss h.1)

  apart_once : (ss : List PlainStep) → AreApart ss
      → flat_map (λ s. each_once (step_indexes at s)) ss ≡ each_once (flat_map (step_indexes at) ss)
  apart_once [] h = refl
  apart_once (s ∷ ss) h =
      ap (λ l. each_once (step_indexes at s) ++ l) (apart_once ss h.1)
      ∙ sym (fold_behind (each_once (step_indexes at s)) [] (flat_map (step_indexes at) ss) (rest_like s ss h.0))
      ∙ ap (λ l. fold with_index l (flat_map (step_indexes at) ss)) (append-nil (each_once (step_indexes at s)))
      ∙ sym (fold_more [] (step_indexes at s) (flat_map (step_indexes at) ss))

-- the indexes of a plan are those of all its steps, each once
pub indexes_once : (statements : List PlainStatement)
    → plan_indexes (plan_steps statements)
    ≡ each_once (flat_map (step_indexes (slots_in (slots_table (plan_steps statements) []))) (plan_steps statements))
indexes_once statements = apart_once (slots_in (slots_table (plan_steps statements) [])) (plan_steps statements) (plan_apart statements)
