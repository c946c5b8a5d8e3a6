-- The steps of a pattern stand behind those before, leave the rows of these as they are, and the last has the rows of the pattern.
use Rattle.std.specs.Prelude.{cond, ℕ, zero, suc, ◌≡◌, ◌+◌, ◌-◌, ◌<◌, ◌≤◌, ◌⊎◌, refl, Bool, true, false, Some, List, [], ◌∷◌, ◌++◌, length}
use Rattle.std.specs.List.{filter, flat_map}
use Rattle.std.proofs.Common.{inl, inr, ap, sym, ◌∙◌, arith, subst, length-append}
use Rattle.std.proofs.lemmas.Bool.{true≢false}
use Rattle.std.proofs.lemmas.Option.{none-some, same_Some}
use Rattle.ordered_lists.specs.Canon.{has}
use Rattle.ordered_lists.specs.Members.{without}
use Rattle.event_model.specs.declared.events.Event.{Event}
use Rattle.event_model.specs.declared.operators.Op.TheVariants.{Seq}
use Rattle.event_model.specs.declared.atoms.NameArity.{NameArity}
use Rattle.ev_bind.specs.Rows.{row_cmp}
use Rattle.ev_bind.specs.declared.rows.Row.{Row}
use Rattle.rule_ast.specs.Trees.{PlainPattern}
use Rattle.rule_ast.specs.Trees as tree
use Rattle.term_eval.specs.Values.{holds}
use Rattle.rule_check.specs.Names.{body_names, name_of_atom}
use Rattle.pattern_meaning.specs.PatternRows.{rows_of, matched, name_of}
use Rattle.pattern_meaning.specs.RuleRows.{joined_rows, is_long, is_short, rows}
use Rattle.event_model.specs.EventOrder.{name_cmp}
use Rattle.pattern_meaning.specs.Depths.{in_left, in_right, or_left, ties_itself}
use Rattle.rule_ast.specs.PlainPlans.{PlainStep, Named, Leaf, Join, Either, Where, Exact, Within, Minus, Head}
use Rattle.step_meaning.specs.StepRows.{step_at, supports, entry, table}
use Rattle.step_meaning.specs.PlanOf.{top, is_named, step_of, body_steps}

abbrev pub names_one : PlainStep → Bool
names_one (Named n heads) = true
names_one (Leaf of p) = false
names_one (Join op left right) = false
names_one (Either left right) = false
names_one (Where of c) = false
names_one (Exact of q) = false
names_one (Within of q) = false
names_one (Minus joined before inner after) = false
names_one (Head of head) = false

-- where a step of some steps with one more stands
pub AtPush : (ss : List PlainStep) (s x : PlainStep) (i : ℕ) → step_at (ss ++ s ∷ []) i ≡ Some x
    → ((i < length ss) × (step_at ss i ≡ Some x)) ⊎ ((i ≡ length ss) × (s ≡ x))
AtPush [] s x zero e = inr (refl, same_Some s x e)
AtPush [] s x (suc i) e = absurd (none-some x e)
AtPush (y ∷ ss) s x zero e = inl (omega arith, e)
AtPush (y ∷ ss) s x (suc i) e = more (AtPush ss s x i e)
  where
    more : ((i < length ss) × (step_at ss i ≡ Some x)) ⊎ ((i ≡ length ss) × (s ≡ x))
        → ((suc i < length (y ∷ ss)) × (step_at ss i ≡ Some x)) ⊎ ((suc i ≡ length (y ∷ ss)) × (s ≡ x))
    more (inl h) = let lt : i < length ss = h.0 in inl (omega (arith, lt), h.1)
    more (inr h) = let eq : i ≡ length ss = h.0 in inr (omega (arith, eq), h.1)

-- a name that has a step keeps it
pub placed_push : (ss : List PlainStep) (s : PlainStep) (n : NameArity) → step_of ss n < length ss
    → step_of (ss ++ s ∷ []) n < length (ss ++ s ∷ [])
placed_push [] s n h = absurd (omega (arith, h))
placed_push (x ∷ ss) s n h = at (is_named n x) h (placed_push ss s n)
  where
    at : (b : Bool) → cond b 0 (suc (step_of ss n)) < length (x ∷ ss)
        → (step_of ss n < length ss → step_of (ss ++ s ∷ []) n < length (ss ++ s ∷ []))
        → cond b 0 (suc (step_of (ss ++ s ∷ []) n)) < length (x ∷ (ss ++ s ∷ []))
    at true h more = omega arith
    at false h more = let lt : step_of (ss ++ s ∷ []) n < length (ss ++ s ∷ []) = more (omega (arith, h)) in omega (arith, lt)

-- and at the same number
pub steady_push : (ss : List PlainStep) (s : PlainStep) (n : NameArity) → step_of ss n < length ss → step_of (ss ++ s ∷ []) n ≡ step_of ss n
steady_push [] s n h = absurd (omega (arith, h))
steady_push (x ∷ ss) s n h = at (is_named n x) h (steady_push ss s n)
  where
    at : (b : Bool) → cond b 0 (suc (step_of ss n)) < length (x ∷ ss) → (step_of ss n < length ss → step_of (ss ++ s ∷ []) n ≡ step_of ss n)
        → cond b 0 (suc (step_of (ss ++ s ∷ []) n)) ≡ cond b 0 (suc (step_of ss n))
    at true h more = refl
    at false h more = ap suc (more (omega (arith, h)))

-- and one whose step is put last has one
pub placed_last : (ss : List PlainStep) (s : PlainStep) (n : NameArity) → is_named n s ≡ true
    → step_of (ss ++ s ∷ []) n < length (ss ++ s ∷ [])
placed_last [] s n e = subst (λ b. cond b 0 1 < 1) (sym e) (omega arith)
placed_last (x ∷ ss) s n e = at (is_named n x) (placed_last ss s n e)
  where
    at : (b : Bool) → step_of (ss ++ s ∷ []) n < length (ss ++ s ∷ [])
        → cond b 0 (suc (step_of (ss ++ s ∷ []) n)) < length (x ∷ (ss ++ s ∷ []))
    at true more = omega arith
    at false more = omega (arith, more)

module _ (events : List Event) where
  abbrev pub at : List PlainStep → ℕ → List Row
  at ss i = entry (table events ss []) i

  table-push : (ss : List PlainStep) (s : PlainStep) (t : List (List Row))
      → table events (ss ++ s ∷ []) t ≡ table events ss t ++ rows_of (supports events (entry (table events ss t)) s) ∷ []
  table-push [] s t = refl
  table-push (x ∷ ss) s t = table-push ss s (t ++ rows_of (supports events (entry t) x) ∷ [])

  length-table : (ss : List PlainStep) (t : List (List Row)) → length (table events ss t) ≡ length t + length ss
  length-table [] t = omega arith
  length-table (x ∷ ss) t = length-table ss (t ++ rows_of (supports events (entry t) x) ∷ [])
      ∙ omega (arith, length-append t (rows_of (supports events (entry t) x) ∷ []))

  pub entry_front : (t : List (List Row)) (x : List Row) (i : ℕ) → i < length t → entry (t ++ x ∷ []) i ≡ entry t i
  entry_front [] x i h = absurd (omega arith)
  entry_front (y ∷ t) x zero h = refl
  entry_front (y ∷ t) x (suc i) h = entry_front t x i (omega arith)

  pub entry_end : (t : List (List Row)) (x : List Row) → entry (t ++ x ∷ []) (length t) ≡ x
  entry_end [] x = refl
  entry_end (y ∷ t) x = entry_end t x

  -- more steps, with the same rows of those before, and no name's step among them
  pub record Extends (ss more : List PlainStep) : Type 0 where
    pub longer : length ss ≤ length more
    pub same : (i : ℕ) → i < length ss → at more i ≡ at ss i
    pub placed : (n : NameArity) → step_of ss n < length ss → step_of more n < length more
    pub steady : (n : NameArity) → step_of ss n < length ss → step_of more n ≡ step_of ss n
    pub no_names : (i : ℕ) (n : NameArity) (heads : List ℕ) → step_at more i ≡ Some (Named n heads)
        → (i < length ss) × (step_at ss i ≡ Some (Named n heads))

  pub same_push : (ss : List PlainStep) (s : PlainStep) (i : ℕ) → i < length ss → at (ss ++ s ∷ []) i ≡ at ss i
  same_push ss s i h = ap (λ t. entry t i) (table-push ss s []) ∙ entry_front (table events ss []) _ i (omega (arith, length-table ss []))

  pub stay : (ss : List PlainStep) → Extends ss ss
  stay ss = record {
    longer = omega arith;
    same = λ i h. refl;
    placed = λ n h. h;
    steady = λ n h. refl;
    no_names = λ i n heads e.
        (in_range ss i (Named n heads) e, e);
  }
    where
      in_range : (ss : List PlainStep) (i : ℕ) (x : PlainStep) → step_at ss i ≡ Some x → i < length ss
      in_range [] i x e = absurd (none-some x e)
      in_range (s ∷ ss) zero x e = omega arith
      in_range (s ∷ ss) (suc i) x e = let lt : i < length ss = in_range ss i x e in omega (arith, lt)

  pub push : (ss : List PlainStep) (s : PlainStep) → names_one s ≡ false → Extends ss (ss ++ s ∷ [])
  push ss s e = record {
    longer = omega (arith, length-append ss (s ∷ []));
    same = same_push ss s;
    placed = placed_push ss s;
    steady = steady_push ss s;
    no_names = λ i n heads d. front n heads i (AtPush ss s (Named n heads) i d);
  }
    where
      front : (n : NameArity) (heads : List ℕ) (i : ℕ)
          → ((i < length ss) × (step_at ss i ≡ Some (Named n heads))) ⊎ ((i ≡ length ss) × (s ≡ Named n heads))
          → (i < length ss) × (step_at ss i ≡ Some (Named n heads))
      front n heads i (inl h) = h
      front n heads i (inr h) = absurd (true≢false (sym (ap names_one h.1) ∙ e))

  pub ◌then◌ : {a b c : List PlainStep} → Extends a b → Extends b c → Extends a c
  ◌then◌ p q = record {
    longer = omega (arith, p.longer, q.longer);
    same = λ i h. q.same i (omega (arith, p.longer)) ∙ p.same i h;
    placed = λ n h. q.placed n (p.placed n h);
    steady = λ n h. q.steady n (p.placed n h) ∙ p.steady n h;
    no_names = λ i n heads e. p.no_names i n heads (q.no_names i n heads e).1;
  }

  -- the rows of a step that was put last
  pub at_end : (ss : List PlainStep) (s : PlainStep) → at (ss ++ s ∷ []) (length ss) ≡ rows_of (supports events (at ss) s)
  at_end ss s = (let e : length ss ≡ length (table events ss []) = omega (arith, length-table ss []) in ap (at (ss ++ s ∷ [])) e)
      ∙ ap (λ t. entry t (length (table events ss []))) (table-push ss s []) ∙ entry_end (table events ss []) _

  pub at_top : (ss : List PlainStep) (s : PlainStep) → at (ss ++ s ∷ []) (top (ss ++ s ∷ [])) ≡ rows_of (supports events (at ss) s)
  at_top ss s = (let e : length (ss ++ s ∷ []) - 1 ≡ length ss = omega (arith, length-append ss (s ∷ [])) in ap (at (ss ++ s ∷ [])) e)
      ∙ at_end ss s

  pushed : (ss : List PlainStep) (s : PlainStep) → 0 < length (ss ++ s ∷ [])
  pushed ss s = omega (arith, length-append ss (s ∷ []))

  module _ (of : NameArity → ℕ) where
    pub extends : (p : PlainPattern) (ss : List PlainStep) → Extends ss (body_steps of p ss)
    extends (tree.Atom a) ss = push ss _ refl
    extends (tree.Both op l r) ss = ◌then◌ (extends l ss) (◌then◌ (extends r _) (push _ _ refl))
    extends (tree.Either l r) ss = ◌then◌ (extends l ss) (◌then◌ (extends r _) (push _ _ refl))
    extends (tree.Where p c) ss = ◌then◌ (extends p ss) (push _ _ refl)
    extends (tree.Exact p q) ss = ◌then◌ (extends p ss) (push _ _ refl)
    extends (tree.Within p q) ss = ◌then◌ (extends p ss) (push _ _ refl)
    extends (tree.Not i b a) ss =
        ◌then◌ (extends b ss) (◌then◌ (extends a _) (◌then◌ (push _ _ refl) (◌then◌ (extends i _) (push _ _ refl))))

    -- a pattern has a step
    pub some_steps : (p : PlainPattern) (ss : List PlainStep) → 0 < length (body_steps of p ss)
    some_steps (tree.Atom a) ss = omega (arith, length-append ss (Leaf (of (name_of a)) a ∷ []))
    some_steps (tree.Both op l r) ss = pushed (body_steps of r (body_steps of l ss)) _
    some_steps (tree.Either l r) ss = pushed (body_steps of r (body_steps of l ss)) _
    some_steps (tree.Where p c) ss = pushed (body_steps of p ss) _
    some_steps (tree.Exact p q) ss = pushed (body_steps of p ss) _
    some_steps (tree.Within p q) ss = pushed (body_steps of p ss) _
    some_steps (tree.Not i b a) ss = let before = body_steps of b ss in let after = body_steps of a before in
        pushed (body_steps of i (after ++ Join Seq (top before) (top after) ∷ [])) _

    top_of : {more : List PlainStep} → 0 < length more → {rest : List PlainStep} → Extends more rest
        → at rest (top more) ≡ at more (top more)
    top_of {more} p q = let lt : length more - 1 < length more = omega (arith, p) in q.same (length more - 1) lt

    module _ (N : NameArity → List Row) where
      -- the names of a pattern have steps with their rows
      abbrev pub HasNames : PlainPattern → List PlainStep → Type 0
      HasNames p ss = (n : NameArity) → has name_cmp n (body_names p) ≡ true → (of n < length ss) × (at ss (of n) ≡ N n)

      pub still : (p : PlainPattern) {ss more : List PlainStep} → Extends ss more → HasNames p ss → HasNames p more
      still p x h n e = (omega (arith, (h n e).0, x.longer), x.same (of n) (h n e).0 ∙ (h n e).1)

      -- the last step of a pattern has its rows
      pub compiled : (p : PlainPattern) (ss : List PlainStep) → HasNames p ss
          → at (body_steps of p ss) (top (body_steps of p ss)) ≡ rows N p
      compiled (tree.Atom a) ss h = at_top ss _
          ∙ ap (λ l. rows_of (flat_map (matched a) l)) (h (name_of_atom a) (or_left _ false (ties_itself (name_of_atom a)))).1
      compiled (tree.Both op l r) ss h =
          let left = body_steps of l ss in
          let right = body_steps of r left in
          let el = extends l ss in
          let er = extends r left in
          let hl : HasNames l ss = λ n e. h n (in_left n (body_names l) (body_names r) e) in
          let hr : HasNames r ss = λ n e. h n (in_right n (body_names l) (body_names r) e) in
          at_top right (Join op (top left) (top right))
          ∙ (λ k. joined_rows op ((top_of (some_steps l ss) er ∙ compiled l ss hl) k) (compiled r left (still r el hr) k))
      compiled (tree.Either l r) ss h =
          let left = body_steps of l ss in
          let right = body_steps of r left in
          let el = extends l ss in
          let er = extends r left in
          let hl : HasNames l ss = λ n e. h n (in_left n (body_names l) (body_names r) e) in
          let hr : HasNames r ss = λ n e. h n (in_right n (body_names l) (body_names r) e) in
          at_top right (Either (top left) (top right))
          ∙ (λ k. rows_of ((top_of (some_steps l ss) er ∙ compiled l ss hl) k ++ compiled r left (still r el hr) k))
      compiled (tree.Where p c) ss h = at_top (body_steps of p ss) (Where (top (body_steps of p ss)) c)
          ∙ ap (λ l. rows_of (filter (λ r. holds c r.binding) l)) (compiled p ss h)
      compiled (tree.Exact p q) ss h = at_top (body_steps of p ss) (Exact (top (body_steps of p ss)) q)
          ∙ ap (λ l. rows_of (filter (is_long q) l)) (compiled p ss h)
      compiled (tree.Within p q) ss h = at_top (body_steps of p ss) (Within (top (body_steps of p ss)) q)
          ∙ ap (λ l. rows_of (filter (is_short q) l)) (compiled p ss h)
      compiled (tree.Not i b a) ss h =
          let before = body_steps of b ss in
          let after = body_steps of a before in
          let j = Join Seq (top before) (top after) in
          let joined = after ++ j ∷ [] in
          let inner = body_steps of i joined in
          let eb = extends b ss in
          let ea = extends a before in
          let ej = push after j refl in
          let ei = extends i joined in
          let hi : HasNames i ss = λ n e. h n (in_left n (body_names i) (body_names b ++ body_names a) e) in
          let hb : HasNames b ss = λ n e. h n
          (in_right n (body_names i) (body_names b ++ body_names a) (in_left n (body_names b) (body_names a) e)) in
          let ha : HasNames a ss = λ n e. h n
          (in_right n (body_names i) (body_names b ++ body_names a) (in_right n (body_names b) (body_names a) e)) in
          let B : at inner (top before) ≡ rows N b = top_of (some_steps b ss) (◌then◌ ea (◌then◌ ej ei)) ∙ compiled b ss hb in
          let A : at inner (top after) ≡ rows N a = top_of (some_steps a before) (◌then◌ ej ei) ∙ compiled a before (still a eb ha) in
          let I : at inner (top inner) ≡ rows N i = compiled i joined (still i (◌then◌ eb (◌then◌ ea ej)) hi) in
          let J : at inner (top joined) ≡ joined_rows Seq (rows N b) (rows N a) = top_of (pushed after j) ei ∙ at_top after j
          ∙ (λ k. joined_rows Seq ((top_of (some_steps b ss) ea ∙ compiled b ss hb) k) (compiled a before (still a eb ha) k)) in
          at_top inner (Minus (top joined) (top before) (top inner) (top after))
          ∙ (λ k. rows_of (without row_cmp (J k) (joined_rows Seq (joined_rows Seq (B k) (I k)) (A k))))
