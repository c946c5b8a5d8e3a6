-- Names numbered in the order in which they are first seen.
use Rattle.std.proofs.Common.{◌≡◌, ℕ, suc, ◌+◌, ◌<◌, ◌≤◌, ◌^◌, length, length-append, Bool, true, false, not, cond, ◌||◌, ◌&&◌, fold, get_or, position, is_some, Option, Some, None, List, [], ◌∷◌, ◌++◌, refl, sym, ap, subst, ◌∙◌, arith, leb-true, nat_le}
use Rattle.std.specs.List.{position_or_len, list_all, IsDistinct, AllByRecursion}
use Rattle.std.specs.Option.{option_map}
use Rattle.std.specs.Ordering.{is_eq, eq_by_cmp}
use Rattle.std.proofs.Math.Bool.{or_assoc, or-false}
use Rattle.std.proofs.lemmas.Bool.{true≢false, and_parts}
use Rattle.std.proofs.lemmas.List.{map-append, length-map}
use Rattle.ordered_lists.specs.Canon.{has, has-append, canon, canon_same}
use Rattle.event_model.specs.declared.atoms.NameArity.{NameArity}
use Rattle.event_model.specs.EventOrder.{name_cmp, exact_names, same_names}
use Rattle.rule_ast.specs.Trees.{PlainRule}
use Rattle.rule_ast.specs.Shaped.{is_shaped_rule, is_shaped_head, is_shaped_pattern, is_head_argument, names_differ}
use Rattle.rule_check.specs.Gathered.{AreShaped}
use Rattle.rule_check.specs.Names.{head_name, head_names}
use Rattle.rule_check.specs.Numbers.{with_seen, first_seen, AreDistinct, AreNarrow, place, rank_by}
use Rattle.rule_check.proofs.Cycling.{by_place, rank_is}
use Rattle.rule_check.proofs.Placing.{itself, no_place}
use Rattle.rule_check.proofs.NameGraph.{head_known}

abbrev same : NameArity → NameArity → Bool
same = eq_by_cmp name_cmp

at_place : (b : Bool) (k i : ℕ) → Some i ≡ cond b (Some k) None → i ≡ k
at_place true k i e = cc
at_place false k i e = cc

first_place : (names : List NameArity) (n : NameArity) → has name_cmp n names ≡ true → place names n ≡ Some (position_or_len (same n) names)
first_place [] n e = absurd (true≢false (sym e))
first_place (m ∷ names) n e = at (is_eq (name_cmp n m)) e (first_place names n)
  where
    at : (b : Bool) → (b || has name_cmp n names) ≡ true → (has name_cmp n names ≡ true → place names n ≡ Some (position_or_len (same n) names))
        → cond b (Some 0) (option_map suc (place names n)) ≡ Some (cond (not b) (1 + position_or_len (same n) names) 0)
    at true f rest = refl
    at false f rest = ap (option_map suc) (rest f) ∙ ap Some (omega arith)

-- what a look-up answers
pub found_number : (names : List NameArity) (n : NameArity) (o : Option ℕ) → o ≡ position (same n) names → is_some o ≡ has name_cmp n names → o ≡ place names n
found_number names n None p h = sym (no_place names n (sym h))
found_number names n (Some i) p h = ap Some (at_place _ (position_or_len (same n) names) i p) ∙ sym (first_place names n (sym h))

-- ---- each name once

has-with_seen : (q n : NameArity) (names : List NameArity) → has name_cmp q (with_seen names n) ≡ (has name_cmp q names || is_eq (name_cmp q n))
has-with_seen q n names = at (has name_cmp n names) refl
  where
    twice : (b : Bool) → is_eq (name_cmp q n) ≡ b → has name_cmp n names ≡ true → has name_cmp q names ≡ (has name_cmp q names || b)
    twice true e h = let is = ap (λ m. has name_cmp m names) (same_names q n e) ∙ h in is ∙ ap (λ c. c || true) (sym is)
    twice false e h = sym (or-false (has name_cmp q names))

    at : (b : Bool) → has name_cmp n names ≡ b → has name_cmp q (cond b names (names ++ n ∷ [])) ≡ (has name_cmp q names || is_eq (name_cmp q n))
    at true e = twice (is_eq (name_cmp q n)) refl e
    at false e = has-append exact_names q names (n ∷ []) ∙ ap (λ c. has name_cmp q names || c) (or-false (is_eq (name_cmp q n)))

has-fold : (q : NameArity) (names seen : List NameArity) → has name_cmp q (fold with_seen seen names) ≡ (has name_cmp q seen || has name_cmp q names)
has-fold q [] seen = sym (or-false (has name_cmp q seen))
has-fold q (n ∷ names) seen =
    has-fold q names (with_seen seen n) ∙ ap (λ c. c || has name_cmp q names) (has-with_seen q n seen) ∙ or_assoc (has name_cmp q seen) (is_eq (name_cmp q n)) (has name_cmp q names)

-- the same names
pub has-first_seen : (q : NameArity) (names : List NameArity) → has name_cmp q (first_seen names) ≡ has name_cmp q names
has-first_seen q names = has-fold q names []

fold-more : (names seen : List NameArity) (n : NameArity) → fold with_seen seen (names ++ n ∷ []) ≡ with_seen (fold with_seen seen names) n
fold-more [] seen n = refl
fold-more (m ∷ names) seen n = fold-more names (with_seen seen m) n

pub first_seen-more : (names : List NameArity) (n : NameArity) → first_seen (names ++ n ∷ []) ≡ with_seen (first_seen names) n
first_seen-more names n = fold-more names [] n

-- a name of too many arguments has no number
pub too_wide : (heads : List NameArity) (n : NameArity) → AreNarrow heads → 2 ^ 8 ≤ n.arity → None ≡ place heads n
too_wide heads n narrow wide = at (has name_cmp n heads) refl
  where
    at : (b : Bool) → has name_cmp n heads ≡ b → None ≡ place heads n
    at true e = let few = narrow n e in absurd (omega (arith, few, wide))
    at false e = sym (no_place heads n e)

-- a head has at most sixteen arguments
pub head_short : (r : PlainRule) → is_shaped_rule r ≡ true → length r.head.args ≤ 16
head_short r e =
    let parts = and_parts (nat_le (length r.vars) 64 && names_differ r.vars) (is_shaped_head (length r.vars) r.head && is_shaped_pattern (length r.vars) r.body) e in
    let both = and_parts (is_shaped_head (length r.vars) r.head) (is_shaped_pattern (length r.vars) r.body) parts.1 in
    leb-true (length r.head.args) 16 (and_parts (nat_le (length r.head.args) 16) (list_all (is_head_argument (length r.vars)) r.head.args) both.0).0

heads_narrow : (rules : List PlainRule) → list_all is_shaped_rule rules ≡ true → (n : NameArity) → has name_cmp n (head_names rules) ≡ true → n.arity < 2 ^ 8
heads_narrow [] e n h = absurd (true≢false (sym h))
heads_narrow (r ∷ rules) e n h =
    let both = and_parts (is_shaped_rule r) (list_all is_shaped_rule rules) e in
    at (is_eq (name_cmp n (head_name r))) refl (head_short r both.0) h (heads_narrow rules both.1 n)
  where
    at : (b : Bool) → is_eq (name_cmp n (head_name r)) ≡ b → length r.head.args ≤ 16 → (b || has name_cmp n (head_names rules)) ≡ true → (has name_cmp n (head_names rules) ≡ true → n.arity < 2 ^ 8) → n.arity < 2 ^ 8
    at true t short h more = let same = ap (λ m. m.arity) (same_names n (head_name r) t) in omega (arith, short, same)
    at false t short h more = more h

-- one name more at the end of a list of names that differ
apart_more : (m n : NameArity) (names : List NameArity) → (is_eq (name_cmp n m) ≡ false) → AllByRecursion (λ k. is_eq (name_cmp m k) ≡ false) names → AllByRecursion (λ k. is_eq (name_cmp m k) ≡ false) (names ++ n ∷ [])
apart_more m n [] e a = (turned (is_eq (name_cmp m n)) refl, tt)
  where
    turned : (b : Bool) → is_eq (name_cmp m n) ≡ b → b ≡ false
    turned true t = absurd (true≢false (sym (itself n) ∙ ap (λ k. is_eq (name_cmp n k)) (sym (same_names m n t)) ∙ e))
    turned false t = refl
apart_more m n (k ∷ names) e a = (a.0, apart_more m n names e a.1)

distinct_more : (n : NameArity) (names : List NameArity) → has name_cmp n names ≡ false → AreDistinct names → AreDistinct (names ++ n ∷ [])
unfolding IsDistinct
distinct_more n [] e d = (tt, tt)
distinct_more n (m ∷ names) e d = at (is_eq (name_cmp n m)) refl e (distinct_more n names)
  where
    at : (b : Bool) → is_eq (name_cmp n m) ≡ b → (b || has name_cmp n names) ≡ false → (has name_cmp n names ≡ false → AreDistinct names → AreDistinct (names ++ n ∷ [])) → AreDistinct ((m ∷ names) ++ n ∷ [])
    at true t f rest = absurd (true≢false f)
    at false t f rest = (apart_more m n names t d.0, rest f d.1)

fold_distinct : (names seen : List NameArity) → AreDistinct seen → AreDistinct (fold with_seen seen names)
fold_distinct [] seen d = d
fold_distinct (n ∷ names) seen d = fold_distinct names (with_seen seen n) (at (has name_cmp n seen) refl)
  where
    at : (b : Bool) → has name_cmp n seen ≡ b → AreDistinct (cond b seen (seen ++ n ∷ []))
    at true e = d
    at false e = distinct_more n seen e d

distinct_none : AreDistinct []
unfolding IsDistinct
distinct_none = tt

with_seen_length : (names : List NameArity) (n : NameArity) → length (with_seen names n) ≤ length names + 1
with_seen_length names n = at (has name_cmp n names)
  where
    at : (b : Bool) → length (cond b names (names ++ n ∷ [])) ≤ length names + 1
    at true = omega arith
    at false = let l = length-append names (n ∷ []) in omega (arith, l)

fold_length : (names seen : List NameArity) → length (fold with_seen seen names) ≤ length seen + length names
fold_length [] seen = omega arith
fold_length (n ∷ names) seen = let one = with_seen_length seen n in let more = fold_length names (with_seen seen n) in omega (arith, one, more)

-- there are no more numbers than names
pub first_seen_length : (names : List NameArity) → length (first_seen names) ≤ length names
first_seen_length names = let l = fold_length names [] in omega (arith, l)

-- what numbers of the names that head rules tell
module _ (rules : List PlainRule) (heads : List NameArity) (is : heads ≡ first_seen (head_names rules)) where
  pub heads_have : (n : NameArity) → has name_cmp n heads ≡ has name_cmp n (head_names rules)
  heads_have n = ap (has name_cmp n) is ∙ has-first_seen n (head_names rules)

  pub heads_distinct : AreDistinct heads
  heads_distinct = subst AreDistinct (sym is) (fold_distinct (head_names rules) [] distinct_none)

  pub heads_are_narrow : AreShaped rules → AreNarrow heads
  heads_are_narrow s n h = heads_narrow rules s.each n (sym (heads_have n) ∙ h)

  pub few_heads : length heads ≤ length rules
  few_heads = let few = first_seen_length (head_names rules) in omega (arith, few, ap length is, length-map rules head_name)

  pub heads_in_order : canon name_cmp heads ≡ canon name_cmp (head_names rules)
  heads_in_order = canon_same exact_names heads (head_names rules) heads_have

  -- the head name of one of the rules
  pub head_among : (before rest : List PlainRule) (r : PlainRule) → rules ≡ before ++ r ∷ rest → has name_cmp (head_name r) heads ≡ true
  head_among before rest r among = heads_have (head_name r) ∙ ap (λ rs. has name_cmp (head_name r) (head_names rs)) among ∙ head_known before rest r

-- one rule more
pub heads_more : (before all : List PlainRule) (r : PlainRule) (names : List NameArity) (q : NameArity) → all ≡ before ++ r ∷ [] → names ≡ first_seen (head_names before) → q ≡ head_name r
    → with_seen names q ≡ first_seen (head_names all)
heads_more before all r names q is old q_is =
    (λ i. with_seen (old i) (q_is i)) ∙ sym (first_seen-more (head_names before) (head_name r))
    ∙ ap first_seen (sym (map-append head_name before (r ∷ []))) ∙ ap (λ rs. first_seen (head_names rs)) (sym is)

-- the rank that is read at a name's number
pub rank_read : (heads : List NameArity) (ranks : List ℕ) (n : NameArity) (i : ℕ) → Some i ≡ place heads n → get_or ranks i 0 ≡ rank_by heads ranks n
rank_read heads ranks n i p =
    ap (λ o. by_place o ranks) p ∙ sym (rank_is heads ranks n)

pub rank_nowhere : (heads : List NameArity) (ranks : List ℕ) (n : NameArity) → None ≡ place heads n → 0 ≡ rank_by heads ranks n
rank_nowhere heads ranks n p = ap (λ o. by_place o ranks) p ∙ sym (rank_is heads ranks n)
