-- Lists of names as sets, and the ranks of the names that others stand on.
use Rattle.std.specs.Prelude.{ℕ, zero, suc, ◌≡◌, ◌+◌, ◌<◌, ◌≤◌, refl, Bool, true, false, cond, ◌||◌, List, [], ◌∷◌, ◌++◌, map}
use Rattle.std.specs.List.{flat_map}
use Rattle.std.specs.Ordering.{is_eq}
use Rattle.std.specs.declared.cmp.Ordering.{Ordering}
use Rattle.std.specs.declared.cmp.Ordering.TheVariants.{Less, Equal, Greater}
use Rattle.std.proofs.Common.{ap, sym, ◌∙◌, arith, subst}
use Rattle.std.proofs.lemmas.Bool.{true≢false}
use Rattle.ordered_lists.specs.Canon.{has, has-append}
use Rattle.event_model.specs.declared.atoms.NameArity.{NameArity}
use Rattle.rule_ast.specs.Trees.{PlainRule}
use Rattle.rule_check.specs.Names.{head_name, head_names, body_names}
use Rattle.rule_check.specs.Graphs.{greatest}
use Rattle.rule_check.specs.Cycles.{below, IsRanking}
use Rattle.event_model.specs.EventOrder.{name_cmp, exact_names}
use Rattle.pattern_meaning.specs.Depths.{or_left, or_right, in_left, in_right, ties_itself, greatest_of}
use Rattle.step_meaning.specs.PlanOf.{needs}

-- a member of what lists give is a member of what one of them gives
pub in_flat : (P : Type 0) (f : NameArity → List NameArity) (q : NameArity) (xs : List NameArity) → has name_cmp q (flat_map f xs) ≡ true
    → ((x : NameArity) → has name_cmp x xs ≡ true → has name_cmp q (f x) ≡ true → P) → P
in_flat P f q [] e k = absurd (true≢false (sym e))
in_flat P f q (x ∷ xs) e k = at (has name_cmp q (f x)) refl (sym (has-append exact_names q (f x) (flat_map f xs)) ∙ e) (in_flat P f q xs)
  where
    at : (b : Bool) → has name_cmp q (f x) ≡ b → (b || has name_cmp q (flat_map f xs)) ≡ true
        → (has name_cmp q (flat_map f xs) ≡ true → ((x : NameArity) → has name_cmp x xs ≡ true → has name_cmp q (f x) ≡ true → P) → P) → P
    at true d g more = k x (or_left _ _ (ties_itself x)) d
    at false d g more = more g (λ y h. k y (or_right _ _ h))

pub flat_in : (f : NameArity → List NameArity) (q x : NameArity) (xs : List NameArity) → has name_cmp x xs ≡ true
    → has name_cmp q (f x) ≡ true → has name_cmp q (flat_map f xs) ≡ true
flat_in f q x [] e d = absurd (true≢false (sym e))
flat_in f q x (y ∷ xs) e d = at (name_cmp x y) refl e (flat_in f q x xs)
  where
    at : (c : Ordering) → name_cmp x y ≡ c → (is_eq c || has name_cmp x xs) ≡ true
        → (has name_cmp x xs ≡ true → has name_cmp q (f x) ≡ true → has name_cmp q (flat_map f xs) ≡ true)
        → has name_cmp q (f y ++ flat_map f xs) ≡ true
    at Less g h more = in_right q (f y) (flat_map f xs) (more h d)
    at Equal g h more = in_left q (f y) (flat_map f xs) (subst (λ z. has name_cmp q (f z) ≡ true) (exact_names.same x y g) d)
    at Greater g h more = in_right q (f y) (flat_map f xs) (more h d)

-- a name that heads no rule stands on none
no_heads_below : (n : NameArity) (rs : List PlainRule) → has name_cmp n (head_names rs) ≡ false → below rs n ≡ []
no_heads_below n [] h = refl
no_heads_below n (r ∷ rs) h = at (is_eq (name_cmp n (head_name r))) h (no_heads_below n rs)
  where
    at : (c : Bool) → (c || has name_cmp n (head_names rs)) ≡ false → (has name_cmp n (head_names rs) ≡ false → below rs n ≡ [])
        → cond c (body_names r.body) [] ++ below rs n ≡ []
    at true g more = absurd (true≢false g)
    at false g more = more g

module _ (rules : List PlainRule) (rank : NameArity → ℕ) (ranking : IsRanking rules rank) where
  -- what a name stands on has a lesser rank
  pub rank_below : (n m : NameArity) → has name_cmp m (below rules n) ≡ true → rank m < rank n
  rank_below n m e = at (has name_cmp n (head_names rules)) refl
    where
      at : (b : Bool) → has name_cmp n (head_names rules) ≡ b → rank m < rank n
      at true g =
          let r : rank n ≡ greatest (map rank (below rules n)) + 1 = ranking n
          ∙ ap (λ b. cond b (greatest (map rank (below rules n)) + 1) 0) g in
          let most = greatest_of rank m (below rules n) e in omega (arith, r, most)
      at false g = absurd (true≢false (sym (sym (ap (has name_cmp m) (no_heads_below n rules g)) ∙ e)))

  -- what a needed name stands on is needed too
  pub needs_closed : (k : ℕ) (n x y : NameArity) → rank n ≤ k → has name_cmp x (needs k rules n) ≡ true
      → has name_cmp y (below rules x) ≡ true → has name_cmp y (needs k rules n) ≡ true
  needs_closed zero n x y h e d = at (name_cmp x n) refl e
    where
      at : (c : Ordering) → name_cmp x n ≡ c → (is_eq c || false) ≡ true → has name_cmp y (needs zero rules n) ≡ true
      at Less g f = absurd (true≢false (sym f))
      at Equal g f = let lt : rank y < rank x = rank_below x y d in let same : rank x ≡ rank n = ap rank (exact_names.same x n g) in
          absurd (omega (arith, lt, same, h))
      at Greater g f = absurd (true≢false (sym f))
  needs_closed (suc k) n x y h e d = at (name_cmp x n) refl e (needs_closed k)
    where
      deeper : (has name_cmp x (flat_map (needs k rules) (below rules n))) ≡ true
          → ((m x y : NameArity) → rank m ≤ k → has name_cmp x (needs k rules m) ≡ true → has name_cmp y (below rules x) ≡ true
          → has name_cmp y (needs k rules m) ≡ true)
          → has name_cmp y (needs (suc k) rules n) ≡ true
      deeper f more = in_flat (has name_cmp y (needs (suc k) rules n) ≡ true) (needs k rules) x (below rules n) f (λ z g i.
          let lt : rank z < rank n = rank_below n z g in
          let le : rank z ≤ k = omega (arith, lt, h) in
          or_right _ _ (flat_in (needs k rules) y z (below rules n) g (more z x y le i d)))

      first : (j : ℕ) → has name_cmp y (needs j rules y) ≡ true
      first zero = or_left _ _ (ties_itself y)
      first (suc j) = or_left _ _ (ties_itself y)

      at : (c : Ordering) → name_cmp x n ≡ c → (is_eq c || has name_cmp x (flat_map (needs k rules) (below rules n))) ≡ true
          → ((m x y : NameArity) → rank m ≤ k → has name_cmp x (needs k rules m) ≡ true → has name_cmp y (below rules x) ≡ true
          → has name_cmp y (needs k rules m) ≡ true)
          → has name_cmp y (needs (suc k) rules n) ≡ true
      at Less g f more = deeper f more
      at Equal g f more = or_right _ _
          (flat_in (needs k rules) y y (below rules n) (subst (λ z. has name_cmp y (below rules z) ≡ true) (exact_names.same x n g) d)
          (first k))
      at Greater g f more = deeper f more
