-- Unions from the front: the pair with the lower slot, and then the union of the others.
use Rattle.std.proofs.Common.{ℕ, suc, ◌<◌, ◌≤◌, ◌≡◌, ◌≢◌, refl, ap, sym, ◌∙◌, subst, arith, Bool, true, false, cond, not, ◌||◌, Some, None, List, [], ◌∷◌, ◌++◌}
use Rattle.std.specs.Prelude.{nat_lt, option_map, option_and_then}
use Rattle.std.specs.List.{list_all}
use Rattle.std.specs.Ordering.{is_eq, nat_cmp, MatchOrdering}
use Rattle.std.specs.Cmp.{tied_itself, nat_cmp_is, ranks}
use Rattle.std.specs.declared.cmp.Ordering.TheVariants.{Less, Equal, Greater}
use Rattle.std.specs.declared.cmp.Ordering.{Ordering}
use Rattle.std.proofs.Common.{append-nil}
use Rattle.std.proofs.lemmas.Bool.{true≢false, and_parts, and_from, or_right, false_from_ne_true, eq-eqb, lt-ltb, ltb-true}
use Rattle.std.proofs.lemmas.List.Folds.{list_all-append}
use Rattle.ordered_lists.specs.Canon.{canon, has, has-canon, has-append}
use Rattle.event_model.specs.TermOrder.{term_cmp, exact_terms}
use Rattle.event_model.specs.declared.terms.Term.{Term}
use Rattle.ev_bind.specs.Bindings.{Pair, Pairs, pair_cmp, alike, single, union_of, join, IsBinding, value_at, exact_pairs, all_has, has_all, single_within, union_same, join_twice, join_comm, IsBinding-canon}
use Rattle.event_model.specs.SlotSets.{slot_in}
use Rattle.ev_bind.specs.Matching.{numbered}
use Rattle.ev_bind.specs.Projections.{project, is_binding_project}
use Rattle.ev_bind.proofs.Merging.{is_union}
use Rattle.ev_bind.proofs.Adding.{added, added_at, climbs, climbs_of, join_one}
use Rattle.ev_bind.specs.Projections.{tie}

-- all slots are higher
abbrev pub higher : ℕ → Pairs → Bool
higher slot b = list_all (λ r. nat_lt slot r.0) b

pub tail_binding : (p : Pair) (b : Pairs) → IsBinding (p ∷ b) → IsBinding b
tail_binding p b h = record {
  rising = h.rising.1;
  one_value = single_within (p ∷ b) b (λ q e. or_right (is_eq (pair_cmp q p)) (has pair_cmp q b) e) h.one_value;
}

tail_higher : (p : Pair) (b : Pairs) → IsBinding (p ∷ b) → higher p.0 b ≡ true
tail_higher p b h = (and_parts (higher p.0 b) (climbs b) (climbs_of (p ∷ b) h.rising h.one_value)).0

more_higher : (m n : ℕ) → m < n → (b : Pairs) → higher n b ≡ true → higher m b ≡ true
more_higher m n lt [] h = refl
more_higher m n lt (r ∷ b) h = let parts = and_parts (nat_lt n r.0) (higher n b) h in
    and_from (nat_lt m r.0) (higher m b) (lt-ltb m r.0 (omega (arith, ltb-true n r.0 parts.0))) (more_higher m n lt b parts.1)

-- a pair with a lower slot comes in front
in_front : (p : Pair) (d : Pairs) → IsBinding d → higher p.0 d ≡ true → join d (p ∷ []) ≡ Some (p ∷ d)
in_front p [] h a = join_one [] p h
in_front p (r ∷ d) h a = join_one (r ∷ d) p h ∙ ap (λ c. added_at c p r d (added d p)) (sym (nat_cmp_is p.0 r.0 Less (ltb-true p.0 r.0 (and_parts (nat_lt p.0 r.0) (higher p.0 d) a).0)))

union_front : (p : Pair) (xs : Pairs) → higher p.0 xs ≡ true → union_of (p ∷ xs) ≡ option_map (λ d. p ∷ d) (union_of xs)
union_front p xs a =
    union_same (p ∷ xs) ((xs ++ []) ++ p ∷ []) same
    ∙ sym (join_twice xs [] (p ∷ []))
    ∙ ap (λ l. option_and_then (λ d. join d (p ∷ [])) (union_of l)) (append-nil xs)
    ∙ at (single xs) refl
  where
    or_turn : (a b : Bool) → (a || b) ≡ (b || (a || false))
    or_turn true true = refl
    or_turn true false = refl
    or_turn false true = refl
    or_turn false false = refl

    same : (q : Pair) → has pair_cmp q (p ∷ xs) ≡ has pair_cmp q ((xs ++ []) ++ p ∷ [])
    same q = or_turn (is_eq (pair_cmp q p)) (has pair_cmp q xs)
        ∙ ap (λ l. has pair_cmp q l || has pair_cmp q (p ∷ [])) (sym (append-nil xs))
        ∙ sym (has-append exact_pairs q (xs ++ []) (p ∷ []))

    at : (t : Bool) → single xs ≡ t → option_and_then (λ d. join d (p ∷ [])) (cond t (Some (canon pair_cmp xs)) None) ≡ option_map (λ d. p ∷ d) (cond t (Some (canon pair_cmp xs)) None)
    at true s = in_front p (canon pair_cmp xs) (IsBinding-canon xs s)
        (has_all exact_pairs (λ r. nat_lt p.0 r.0) (canon pair_cmp xs) (λ q e. all_has exact_pairs (λ r. nat_lt p.0 r.0) xs a q (sym (has-canon exact_pairs q xs) ∙ e)))
    at false s = refl

-- ---- two bindings, by their first slots

pub left_first : (p q : Pair) (a b : Pairs) → IsBinding (p ∷ a) → IsBinding (q ∷ b) → p.0 < q.0 → join (p ∷ a) (q ∷ b) ≡ option_map (λ d. p ∷ d) (join a (q ∷ b))
left_first p q a b h g lt = union_front p (a ++ (q ∷ b)) (list_all-append (λ r. nat_lt p.0 r.0) a (q ∷ b)
    ∙ and_from (higher p.0 a) (higher p.0 (q ∷ b)) (tail_higher p a h)
    (and_from (nat_lt p.0 q.0) (higher p.0 b) (lt-ltb p.0 q.0 lt) (more_higher p.0 q.0 lt b (tail_higher q b g))))

pub right_first : (p q : Pair) (a b : Pairs) → IsBinding (p ∷ a) → IsBinding (q ∷ b) → q.0 < p.0 → join (p ∷ a) (q ∷ b) ≡ option_map (λ d. q ∷ d) (join (p ∷ a) b)
right_first p q a b h g lt = join_comm (p ∷ a) (q ∷ b) ∙ left_first q p b a g h lt ∙ ap (option_map (λ d. q ∷ d)) (join_comm b (p ∷ a))

same_first : (p : Pair) (a b : Pairs) → IsBinding (p ∷ a) → IsBinding (p ∷ b) → join (p ∷ a) (p ∷ b) ≡ option_map (λ d. p ∷ d) (join a b)
same_first p a b h g =
    union_same ((p ∷ a) ++ (p ∷ b)) (p ∷ (a ++ b)) same
    ∙ union_front p (a ++ b) (list_all-append (λ r. nat_lt p.0 r.0) a b ∙ and_from (higher p.0 a) (higher p.0 b) (tail_higher p a h) (tail_higher p b g))
  where
    or_both : (t m n : Bool) → (t || (m || (t || n))) ≡ (t || (m || n))
    or_both true m n = refl
    or_both false m n = refl

    same : (q : Pair) → has pair_cmp q ((p ∷ a) ++ (p ∷ b)) ≡ has pair_cmp q (p ∷ (a ++ b))
    same q = ap (λ t. is_eq (pair_cmp q p) || t) (has-append exact_pairs q a (p ∷ b))
        ∙ or_both (is_eq (pair_cmp q p)) (has pair_cmp q a) (has pair_cmp q b)
        ∙ ap (λ t. is_eq (pair_cmp q p) || t) (sym (has-append exact_pairs q a b))

-- one slot with one value
pub both_first : (p q : Pair) (a b : Pairs) → IsBinding (p ∷ a) → IsBinding (q ∷ b) → p.0 ≡ q.0 → is_eq (term_cmp p.1 q.1) ≡ true → join (p ∷ a) (q ∷ b) ≡ option_map (λ d. p ∷ d) (join a b)
both_first p q a b h g slots values = ap (λ r. join (p ∷ a) (r ∷ b)) (sym same) ∙ same_first p a b h (subst (λ r. IsBinding (r ∷ b)) (sym same) g)
  where
    same : p ≡ q
    same = λ i. (slots i, exact_terms.same p.1 q.1 (tie (term_cmp p.1 q.1) values) i)

-- one slot with two values
pub values_differ : (p q : Pair) (a b : Pairs) → p.0 ≡ q.0 → is_eq (term_cmp p.1 q.1) ≡ false → join (p ∷ a) (q ∷ b) ≡ None
values_differ p q a b slots values = ap (λ t. cond t (Some (canon pair_cmp ((p ∷ a) ++ (q ∷ b)))) None) (false_from_ne_true (single ((p ∷ a) ++ (q ∷ b)))
    (λ h. true≢false (sym (agree h) ∙ (λ i. not (eq-eqb p.0 q.0 slots i) || values i))))
  where
    there : has pair_cmp q ((p ∷ a) ++ (q ∷ b)) ≡ true
    there = has-append exact_pairs q (p ∷ a) (q ∷ b)
        ∙ or_right (has pair_cmp q (p ∷ a)) (has pair_cmp q (q ∷ b)) (ap (λ c. is_eq c || has pair_cmp q b) (tied_itself exact_pairs.total q))

    agree : single ((p ∷ a) ++ (q ∷ b)) ≡ true → alike p q ≡ true
    agree h = all_has exact_pairs (alike p) ((p ∷ a) ++ (q ∷ b))
        (and_parts (list_all (alike p) ((p ∷ a) ++ (q ∷ b))) (list_all (λ x. list_all (alike x) ((p ∷ a) ++ (q ∷ b))) (a ++ (q ∷ b))) h).0 q there

-- ---- a pair in front is a binding

pub front_binding : (q : Pair) (d : Pairs) → IsBinding d → higher q.0 d ≡ true → IsBinding (q ∷ d)
front_binding q d h a = is_union (d ++ q ∷ []) (q ∷ d) (in_front q d h a)

no_pairs : IsBinding []
no_pairs = record { rising = tt; one_value = refl }

pub alone_binding : (q : Pair) (d : Pairs) → d ≡ [] → IsBinding (q ∷ d)
alone_binding q d e = subst (λ d. IsBinding (q ∷ d)) (sym e) (front_binding q [] no_pairs refl)

pub higher_numbered : (slot k : ℕ) (ts : List Term) → slot < k → higher slot (numbered k ts) ≡ true
higher_numbered slot k [] lt = refl
higher_numbered slot k (t ∷ ts) lt = and_from (nat_lt slot k) (higher slot (numbered (suc k) ts)) (lt-ltb slot k lt) (higher_numbered slot (suc k) ts (omega (arith, lt)))

pub numbered_binding : (k : ℕ) (ts : List Term) → IsBinding (numbered k ts)
numbered_binding k [] = no_pairs
numbered_binding k (t ∷ ts) = front_binding (k, t) (numbered (suc k) ts) (numbered_binding (suc k) ts) (higher_numbered k (suc k) ts (omega arith))

pub kept_binding : (slots : ℕ) (p : Pair) (b d w : Pairs) → w ≡ p ∷ b → IsBinding w → slot_in slots p.0 ≡ true → d ≡ project slots b → IsBinding (p ∷ d)
kept_binding slots p b d w e h s g = subst (λ d. IsBinding (p ∷ d)) (sym g)
    (subst (λ t. IsBinding (cond t (p ∷ project slots b) (project slots b))) s (is_binding_project slots (p ∷ b) (subst IsBinding e h)))

-- ---- one more pair

module _ (w : Pairs) (p q : Pair) (b : Pairs) (e : w ≡ p ∷ b) (h : IsBinding w) where
  whole : IsBinding (p ∷ b)
  whole = subst IsBinding e h

  low : q.0 < p.0 → join w (q ∷ []) ≡ Some (q ∷ w)
  low lt = subst (λ w. join w (q ∷ []) ≡ Some (q ∷ w)) (sym e) (join_one (p ∷ b) q whole ∙ ap (λ c. added_at c q p b (added b q)) (sym (nat_cmp_is q.0 p.0 Less lt)))

  pub low_binding : (d : Pairs) → d ≡ w → q.0 < p.0 → IsBinding (q ∷ d)
  low_binding d f lt = subst (λ d. IsBinding (q ∷ d)) (sym f) (is_union (w ++ q ∷ []) (q ∷ w) (low lt))

  pub low_join : (d : Pairs) → d ≡ q ∷ w → q.0 < p.0 → join w (q ∷ []) ≡ Some d
  low_join d f lt = low lt ∙ ap Some (sym f)

  apart_slots : value_at w q.0 ≡ None → p.0 ≢ q.0
  apart_slots none same = some_none (sym (ap (λ w. value_at w q.0) e ∙ ap (λ t. cond t (Some p.1) (value_at b q.0)) (eq-eqb p.0 q.0 same)) ∙ none)
    where
      some_none : Some p.1 ≡ None → ⊥
      some_none g = cc

  pub high_join : (d : Pairs) → p.0 ≤ q.0 → value_at w q.0 ≡ None → join b (q ∷ []) ≡ Some d → join w (q ∷ []) ≡ Some (p ∷ d)
  high_join d le none g = ap (λ w. join w (q ∷ [])) e ∙ join_one (p ∷ b) q whole
      ∙ ap (λ c. added_at c q p b (added b q)) (sym (nat_cmp_is q.0 p.0 Greater (further (apart_slots none))))
      ∙ ap (option_map (λ d. p ∷ d)) (sym (join_one b q (tail_binding p b whole)) ∙ g)
    where
      further : p.0 ≢ q.0 → p.0 < q.0
      further n = omega (arith, le, n)

  pub high_binding : (d : Pairs) → p.0 ≤ q.0 → value_at w q.0 ≡ None → join b (q ∷ []) ≡ Some d → IsBinding (p ∷ d)
  high_binding d le none g = is_union (w ++ q ∷ []) (p ∷ d) (high_join d le none g)

-- ---- two bindings that are not empty

module _ (v w : Pairs) (p q : Pair) (a b : Pairs) (ve : v ≡ p ∷ a) (we : w ≡ q ∷ b) (h : IsBinding v) (g : IsBinding w) where
  left : IsBinding (p ∷ a)
  left = subst IsBinding ve h

  right : IsBinding (q ∷ b)
  right = subst IsBinding we g

  pub left_join : p.0 < q.0 → join v w ≡ option_map (λ d. p ∷ d) (join a w)
  left_join lt = (λ i. join (ve i) (we i)) ∙ left_first p q a b left right lt ∙ ap (λ w. option_map (λ d. p ∷ d) (join a w)) (sym we)

  pub left_binding : p.0 < q.0 → (d : Pairs) → join a w ≡ Some d → IsBinding (p ∷ d)
  left_binding lt d e = is_union (v ++ w) (p ∷ d) (left_join lt ∙ ap (option_map (λ d. p ∷ d)) e)

  pub right_join : q.0 < p.0 → join v w ≡ option_map (λ d. q ∷ d) (join v b)
  right_join lt = (λ i. join (ve i) (we i)) ∙ right_first p q a b left right lt ∙ ap (λ v. option_map (λ d. q ∷ d) (join v b)) (sym ve)

  pub right_binding : q.0 < p.0 → (d : Pairs) → join v b ≡ Some d → IsBinding (q ∷ d)
  right_binding lt d e = is_union (v ++ w) (q ∷ d) (right_join lt ∙ ap (option_map (λ d. q ∷ d)) e)

  pub both_join : p.0 ≡ q.0 → is_eq (term_cmp p.1 q.1) ≡ true → join v w ≡ option_map (λ d. p ∷ d) (join a b)
  both_join slots values = (λ i. join (ve i) (we i)) ∙ both_first p q a b left right slots values

  pub both_binding : p.0 ≡ q.0 → is_eq (term_cmp p.1 q.1) ≡ true → (d : Pairs) → join a b ≡ Some d → IsBinding (p ∷ d)
  both_binding slots values d e = is_union (v ++ w) (p ∷ d) (both_join slots values ∙ ap (option_map (λ d. p ∷ d)) e)

  pub same_pair : p.0 ≡ q.0 → is_eq (term_cmp p.1 q.1) ≡ true → w ≡ p ∷ b
  same_pair slots values = we ∙ (λ i. (sym slots i, sym (exact_terms.same p.1 q.1 (tie (term_cmp p.1 q.1) values)) i) ∷ b)

  pub differ_join : p.0 ≡ q.0 → is_eq (term_cmp p.1 q.1) ≡ false → join v w ≡ None
  differ_join slots values = (λ i. join (ve i) (we i)) ∙ values_differ p q a b slots values

-- ---- slots as they were compared

module _ (s t m n : ℕ) (se : m ≡ s) (te : n ≡ t) where
  compared : (o : Ordering) → nat_cmp m n ≡ o → MatchOrdering o (m < n) (m ≡ n) (n < m)
  compared o e = subst (λ o. MatchOrdering o (m < n) (m ≡ n) (n < m)) e (ranks m n)

  pub is_less : nat_cmp m n ≡ Less → s < t
  is_less e = let r : m < n = compared Less e in omega (arith, r, se, te)

  pub is_same : nat_cmp m n ≡ Equal → s ≡ t
  is_same e = let r : m ≡ n = compared Equal e in omega (arith, r, se, te)

  pub is_greater : nat_cmp m n ≡ Greater → t < s
  is_greater e = let r : n < m = compared Greater e in omega (arith, r, se, te)
