-- Unions of several pairs.
use Rattle.std.proofs.Common.{ℕ, ◌≡◌, refl, ap, sym, ◌∙◌, subst, append_assoc, append-nil, Bool, true, false, cond, ◌||◌, Option, Some, None, List, [], ◌∷◌, ◌++◌, ◌+◌, ◌<◌, length, map, take, drop, get_or, arith}
use Rattle.std.specs.Prelude.{option_and_then}
use Rattle.std.proofs.lemmas.List.{take_more, drop_more, length-take, length-drop}
use Rattle.ordered_lists.specs.Canon.{canon, has, has-append}
use Rattle.event_model.specs.declared.terms.Term.{Term}
use Rattle.ev_bind.specs.Bindings.{Pair, Pairs, pair_cmp, single, union_of, join, IsBinding, exact_pairs, union_same, union_of-itself, join_twice, IsBinding-canon}
use Rattle.ev_bind.specs.Matching.{with_pairs, pairs_of, pairs_of_all, pairs_of-Var, values, match_of_args}
use Rattle.event_model.specs.declared.terms.Pat.TheVariants as pat
use Rattle.event_model.specs.declared.terms.Pat.{Pat}

-- a union is a binding
pub is_union : (xs d : Pairs) → union_of xs ≡ Some d → IsBinding d
is_union xs d e = at (single xs) refl e
  where
    at : (t : Bool) → single xs ≡ t → cond t (Some (canon pair_cmp xs)) None ≡ Some d → IsBinding d
    at true s e = let same : canon pair_cmp xs ≡ d = cc in subst IsBinding same (IsBinding-canon xs s)
    at false s e = cc

pub join_nothing : (b : Pairs) → IsBinding b → join b [] ≡ Some b
join_nothing b h = ap union_of (append-nil b) ∙ union_of-itself b h

-- the pairs of the other arguments, and then those of one
join_with : (b : Pairs) (x y : Option Pairs) → option_and_then (join b) (with_pairs x y) ≡ option_and_then (λ d. option_and_then (join d) x) (option_and_then (join b) y)
join_with b None y = sym (none (option_and_then (join b) y))
  where
    none : (o : Option Pairs) → option_and_then {T = Pairs} {U = Pairs} (λ d. None) o ≡ None
    none None = refl
    none (Some d) = refl
join_with b (Some xs) None = refl
join_with b (Some xs) (Some ys) = union_same (b ++ (xs ++ ys)) ((b ++ ys) ++ xs) same ∙ sym (join_twice b ys xs)
  where
    or_turn : (s t u : Bool) → (s || (t || u)) ≡ ((s || u) || t)
    or_turn true t u = refl
    or_turn false true true = refl
    or_turn false true false = refl
    or_turn false false true = refl
    or_turn false false false = refl

    same : (q : Pair) → has pair_cmp q (b ++ (xs ++ ys)) ≡ has pair_cmp q ((b ++ ys) ++ xs)
    same q = has-append exact_pairs q b (xs ++ ys) ∙ ap (λ t. has pair_cmp q b || t) (has-append exact_pairs q xs ys)
        ∙ or_turn (has pair_cmp q b) (has pair_cmp q xs) (has pair_cmp q ys)
        ∙ ap (λ t. t || has pair_cmp q xs) (sym (has-append exact_pairs q b ys)) ∙ sym (has-append exact_pairs q (b ++ ys) xs)

-- ---- argument by argument, from the last

pub args_differ : (ps : List Pat) (ts : List Term) → (length ps ≡ length ts → ⊥) → pairs_of_all (map pairs_of ps) ts ≡ None
args_differ [] [] n = absurd (n refl)
args_differ [] (t ∷ ts) n = refl
args_differ (p ∷ ps) [] n = refl
args_differ (p ∷ ps) (t ∷ ts) n = ap (with_pairs (pairs_of p t)) (args_differ ps ts (λ e. n (omega (arith, e)))) ∙ with_none (pairs_of p t)
  where
    with_none : (o : Option Pairs) → with_pairs o None ≡ None
    with_none None = refl
    with_none (Some xs) = refl

abbrev pub joined_args : Pairs → List Pat → List Term → Option Pairs
joined_args b ps ts = option_and_then (join b) (pairs_of_all (map pairs_of ps) ts)

-- the first arguments, and then one more
with_last : (ps : List Pat) (ts : List Term) (p : Pat) (t : Term) → length ps ≡ length ts → pairs_of_all (map pairs_of (ps ++ p ∷ [])) (ts ++ t ∷ []) ≡ with_pairs (pairs_of_all (map pairs_of ps) ts) (pairs_of p t)
with_last [] [] p t e = alone (pairs_of p t)
  where
    alone : (o : Option Pairs) → with_pairs o (Some []) ≡ with_pairs (Some []) o
    alone None = refl
    alone (Some xs) = ap Some (append-nil xs)
with_last [] (u ∷ ts) p t e = absurd (omega (arith, e))
with_last (q ∷ ps) [] p t e = absurd (omega (arith, e))
with_last (q ∷ ps) (u ∷ ts) p t e = ap (with_pairs (pairs_of q u)) (with_last ps ts p t (omega (arith, e))) ∙ regroup (pairs_of q u) (pairs_of_all (map pairs_of ps) ts) (pairs_of p t)
  where
    regroup : (x y z : Option Pairs) → with_pairs x (with_pairs y z) ≡ with_pairs (with_pairs x y) z
    regroup None y z = refl
    regroup (Some xs) None z = refl
    regroup (Some xs) (Some ys) None = refl
    regroup (Some xs) (Some ys) (Some zs) = ap Some (sym (append_assoc xs ys zs))

taken_one : {X : Type 0} (xs : List X) (i : ℕ) (x : X) → i < length xs → x ≡ get_or xs i x → take (i + 1) xs ≡ take i xs ++ x ∷ []
taken_one xs i x lt is = take_more xs i x lt ∙ ap (λ y. take i xs ++ y ∷ []) (sym is)

-- the first n of them, of which one is the last
module _ (b : Pairs) (ps : List Pat) (ts : List Term) (n i : ℕ) (p : Pat) (t : Term) (ni : n ≡ i + 1) (lp : i < length ps) (lt : i < length ts) (ip : p ≡ get_or ps i p) (it : t ≡ get_or ts i t) where
  args_at : joined_args b (take n ps) (take n ts) ≡ option_and_then (λ d. joined_args d (take i ps) (take i ts)) (option_and_then (join b) (pairs_of p t))
  args_at = ap (λ n. joined_args b (take n ps) (take n ts)) ni
      ∙ (λ k. joined_args b (taken_one ps i p lp ip k) (taken_one ts i t lt it k))
      ∙ ap (option_and_then (join b)) (with_last (take i ps) (take i ts) p t (simp length-take (omega (arith, lp, lt))))
      ∙ join_with b (pairs_of_all (map pairs_of (take i ps)) (take i ts)) (pairs_of p t)

  pub args_refused : option_and_then (join b) (pairs_of p t) ≡ None → joined_args b (take n ps) (take n ts) ≡ None
  args_refused refused = args_at ∙ ap (option_and_then (λ d. joined_args d (take i ps) (take i ts))) refused

  pub args_taken : (d : Pairs) → option_and_then (join b) (pairs_of p t) ≡ Some d → joined_args b (take n ps) (take n ts) ≡ joined_args d (take i ps) (take i ts)
  args_taken d taken = args_at ∙ ap (option_and_then (λ d. joined_args d (take i ps) (take i ts))) taken

-- ---- the arguments that are the variables of the slots

pub variables_more : (pats : List Pat) (at slot : ℕ) (t : Term) (s : ℕ) (p : Pat) (rest w : Pairs) → at < length pats → p ≡ get_or pats at p → p ≡ pat.Var s → s ≡ slot → w ≡ (slot, t) ∷ rest
    → pairs_of_all (map pairs_of (drop (at + 1) pats)) (values rest) ≡ Some rest → pairs_of_all (map pairs_of (drop at pats)) (values w) ≡ Some w
variables_more pats at slot t s p rest w lt is var same e more =
    (λ i. pairs_of_all (map pairs_of ((drop_more pats at p lt ∙ ap (λ p. p ∷ drop (at + 1) pats) (sym is ∙ var ∙ ap pat.Var same)) i)) (values (e i)))
    ∙ (λ i. with_pairs (pairs_of-Var slot t i) (more i)) ∙ ap Some (sym e)

-- ---- the arguments against the values of a binding, from the last

no_arguments : (ps : List Pat) (w : Pairs) → 0 < length ps → w ≡ [] → match_of_args ps (values w) ≡ None
no_arguments [] w lt e = absurd (omega (arith, lt))
no_arguments (p ∷ ps) w lt e = ap (λ w. match_of_args (p ∷ ps) (values w)) e

pub none_left : (pats : List Pat) (at : ℕ) (w : Pairs) → at < length pats → w ≡ [] → match_of_args (drop at pats) (values w) ≡ None
none_left pats at w lt e = no_arguments (drop at pats) w (simp length-drop (omega (arith, lt))) e

module _ (pats : List Pat) (at : ℕ) (p : Pat) (q : Pair) (rest w : Pairs) (lt : at < length pats) (is : p ≡ get_or pats at p) (e : w ≡ q ∷ rest) where
  pub one_more : match_of_args (drop at pats) (values w) ≡ option_and_then (λ d. option_and_then (join d) (pairs_of p q.1)) (match_of_args (drop (at + 1) pats) (values rest))
  one_more = (λ i. match_of_args ((drop_more pats at p lt ∙ ap (λ p. p ∷ drop (at + 1) pats) (sym is)) i) (values (e i)))
      ∙ from_empty (with_pairs (pairs_of p q.1) more)
      ∙ join_with [] (pairs_of p q.1) more
      ∙ ap (option_and_then (λ d. option_and_then (join d) (pairs_of p q.1))) (sym (from_empty more))
    where
      more : Option Pairs
      more = pairs_of_all (map pairs_of (drop (at + 1) pats)) (values rest)

      from_empty : (o : Option Pairs) → option_and_then union_of o ≡ option_and_then (join []) o
      from_empty None = refl
      from_empty (Some xs) = refl

  pub more_none : None ≡ match_of_args (drop (at + 1) pats) (values rest) → None ≡ match_of_args (drop at pats) (values w)
  more_none n = sym (one_more ∙ ap (option_and_then (λ d. option_and_then (join d) (pairs_of p q.1))) (sym n))

  pub more_some : (d : Pairs) → Some d ≡ match_of_args (drop (at + 1) pats) (values rest) → option_and_then (join d) (pairs_of p q.1) ≡ match_of_args (drop at pats) (values w)
  more_some d s = sym (one_more ∙ ap (option_and_then (λ d. option_and_then (join d) (pairs_of p q.1))) (sym s))
