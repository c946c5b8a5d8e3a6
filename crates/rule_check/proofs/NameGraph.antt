-- The graph of the names that head rules.
use Rattle.std.proofs.Common.{◌≡◌, ℕ, suc, ◌<◌, ◌≤◌, Bool, true, false, cond, Option, Some, None, List, [], ◌∷◌, ◌++◌, length, get_or, set, replicate, map, refl, ap, sym, subst, ◌∙◌, ◌⊎◌, inl, inr, arith, append-nil}
use Rattle.std.specs.List.{IsDistinct, AllByRecursion}
use Rattle.std.specs.Option.{option_map}
use Rattle.std.specs.Ordering.{is_eq}
use Rattle.std.proofs.lemmas.Bool.{true≢false, cases_lt, or_left, or_right}
use Rattle.std.proofs.lemmas.List.{length-map, get_or-map, get_or_past}
use Rattle.std.proofs.lemmas.List.Concat.{flat_map-append}
use Rattle.ordered_lists.specs.Canon.{has}
use Rattle.event_model.specs.declared.atoms.NameArity.{NameArity}
use Rattle.event_model.specs.EventOrder.{name_cmp, same_names}
use Rattle.rule_ast.specs.Trees.{PlainRule}
use Rattle.rule_ast.specs.Vars.{is_in, is_in-none}
use Rattle.rule_check.specs.Names.{head_name, head_names, body_names}
use Rattle.rule_check.specs.Graphs.{targets, leads, IsGraph}
use Rattle.rule_check.specs.Numbers.{place, places, AreDistinct}
use Rattle.rule_check.specs.Cycles.{below, graph_of}
use Rattle.rule_check.proofs.Placing.{itself, place_below, place_name, place_some, in_places, places_in, places-append}

pub below-append : (xs ys : List PlainRule) (n : NameArity) → below (xs ++ ys) n ≡ below xs n ++ below ys n
below-append xs ys n = flat_map-append (λ r. cond (is_eq (name_cmp n (head_name r))) (body_names r.body) []) xs ys

module _ (heads : List NameArity) (rules : List PlainRule) where
  pub targets_of : (i : ℕ) (d : NameArity) → i < length heads → targets (graph_of heads rules) i ≡ places heads (below rules (get_or heads i d))
  targets_of i d h = get_or-map (λ h. places heads (below rules h)) heads i d [] h

  lead_inside : (i j : ℕ) → leads (graph_of heads rules) i j ≡ true → i < length heads
  lead_inside i j l = at (cases_lt i (length heads))
    where
      at : (i < length heads) ⊎ (length heads ≤ i) → i < length heads
      at (inl h) = h
      at (inr h) = absurd (true≢false (sym l ∙ ap (is_in j) (get_or_past (graph_of heads rules) i [] (omega (arith, h, length-map heads (λ h. places heads (below rules h))))) ∙ is_in-none j))

  -- a name's node leads to those of the names in the bodies of its rules
  pub lead_from : (i j : ℕ) (d : NameArity) → leads (graph_of heads rules) i j ≡ true → (m : NameArity) × (has name_cmp m (below rules (get_or heads i d)) ≡ true) × (place heads m ≡ Some j)
  lead_from i j d l = in_places heads (below rules (get_or heads i d)) j (ap (is_in j) (sym (targets_of i d (lead_inside i j l))) ∙ l)

  pub lead_to : (i j : ℕ) (n m : NameArity) → place heads n ≡ Some i → has name_cmp m (below rules n) ≡ true → place heads m ≡ Some j → leads (graph_of heads rules) i j ≡ true
  lead_to i j n m p e q =
      ap (is_in j) (targets_of i n (place_below heads n i p) ∙ ap (λ k. places heads (below rules k)) (place_name heads n i p n)) ∙ places_in heads (below rules n) m j e q

  pub graph_is : IsGraph (graph_of heads rules)
  graph_is i j l =
      let (m, e, p) = lead_from i j (record { name = []; arity = 0 }) l in
      let inside = place_below heads m j p in
      omega (arith, inside, length-map heads (λ h. places heads (below rules h)))

-- ---- one rule more

module _ (all : List NameArity) (rules : List PlainRule) (r : PlainRule) where
  abbrev row : NameArity → List ℕ
  row h = places all (below rules h)

  abbrev next : NameArity → List ℕ
  next h = places all (below (rules ++ r ∷ []) h)

  next_is : (h : NameArity) → next h ≡ row h ++ places all (cond (is_eq (name_cmp h (head_name r))) (body_names r.body) [] ++ [])
  next_is h = ap (places all) (below-append rules (r ∷ []) h) ∙ places-append all (below rules h) (cond (is_eq (name_cmp h (head_name r))) (body_names r.body) [] ++ [])

  next_same : (h : NameArity) → h ≡ head_name r → next h ≡ row h ++ places all (body_names r.body)
  next_same h e =
      next_is h ∙ ap (λ b. row h ++ places all (cond b (body_names r.body) [] ++ [])) (ap (λ k. is_eq (name_cmp h k)) (sym e) ∙ itself h)
      ∙ ap (λ l. row h ++ places all l) (append-nil (body_names r.body))

  next_other : (h : NameArity) → is_eq (name_cmp h (head_name r)) ≡ false → next h ≡ row h
  next_other h e = next_is h ∙ ap (λ b. row h ++ places all (cond b (body_names r.body) [] ++ [])) e ∙ append-nil (row h)

flip : (x y : NameArity) → is_eq (name_cmp x y) ≡ false → is_eq (name_cmp y x) ≡ false
flip x y e = at (is_eq (name_cmp y x)) refl
  where
    at : (b : Bool) → is_eq (name_cmp y x) ≡ b → b ≡ false
    at true t = absurd (true≢false (sym (itself x) ∙ ap (λ m. is_eq (name_cmp x m)) (sym (same_names y x t)) ∙ e))
    at false t = refl

module _ (head : NameArity) (old new : NameArity → List ℕ) (more : List ℕ) (here : (h : NameArity) → h ≡ head → new h ≡ old h ++ more) (other : (h : NameArity) → is_eq (name_cmp h head) ≡ false → new h ≡ old h) where
  all_other : (heads : List NameArity) → AllByRecursion (λ m. is_eq (name_cmp head m) ≡ false) heads → map new heads ≡ map old heads
  all_other [] a = refl
  all_other (h ∷ heads) a = λ i. other h (flip head h a.0) i ∷ all_other heads a.1 i

  row_more : (heads : List NameArity) (i : ℕ) → AreDistinct heads → place heads head ≡ Some i → map new heads ≡ set (map old heads) i (get_or (map old heads) i [] ++ more)
  unfolding IsDistinct
  row_more [] i a p = cc
  row_more (h ∷ heads) i a p = at (λ k q. row_more heads k a.1 q) (is_eq (name_cmp head h)) refl (place heads head) refl p
    where
      at : ((k : ℕ) → place heads head ≡ Some k → map new heads ≡ set (map old heads) k (get_or (map old heads) k [] ++ more)) → (b : Bool) → is_eq (name_cmp head h) ≡ b → (o : Option ℕ) → place heads head ≡ o → cond b (Some 0) (option_map suc o) ≡ Some i
          → map new (h ∷ heads) ≡ set (map old (h ∷ heads)) i (get_or (map old (h ∷ heads)) i [] ++ more)
      at rest true e o q f =
          let z : 0 ≡ i = cc in
          let is : h ≡ head = sym (same_names head h e) in
          subst (λ k. map new (h ∷ heads) ≡ set (map old (h ∷ heads)) k (get_or (map old (h ∷ heads)) k [] ++ more)) z
          (λ j. here h is j ∷ all_other heads (subst (λ n. AllByRecursion (λ m. is_eq (name_cmp n m) ≡ false) heads) is a.0) j)
      at rest false e None q f = cc
      at rest false e (Some k) q f =
          let s : suc k ≡ i = cc in
          subst (λ k'. map new (h ∷ heads) ≡ set (map old (h ∷ heads)) k' (get_or (map old (h ∷ heads)) k' [] ++ more)) s
          (λ j. other h (flip head h e) j ∷ rest k q j)

graph_more : (heads : List NameArity) (rules : List PlainRule) (r : PlainRule) (i : ℕ) → AreDistinct heads → place heads (head_name r) ≡ Some i
    → graph_of heads (rules ++ r ∷ []) ≡ set (graph_of heads rules) i (targets (graph_of heads rules) i ++ places heads (body_names r.body))
graph_more heads rules r i a p = row_more (head_name r) (row heads rules r) (next heads rules r) (places heads (body_names r.body)) (next_same heads rules r) (next_other heads rules r) heads i a p

-- with no rule, no name stands on another
pub empty_rows : (heads : List NameArity) (n : ℕ) → n ≡ length heads → replicate n [] ≡ graph_of heads []
empty_rows heads n is = ap (λ k. replicate k []) is ∙ each heads
  where
    each : (hs : List NameArity) → replicate (length hs) [] ≡ map (λ h. places heads (below [] h)) hs
    each [] = refl
    each (h ∷ hs) = ap (λ l. [] ∷ l) (each hs)

pub graph_length : (heads : List NameArity) (rules : List PlainRule) → length (graph_of heads rules) ≡ length heads
graph_length heads rules = length-map heads (λ h. places heads (below rules h))

-- the nodes of a body are nodes of the graph
pub places_inside : (heads names : List NameArity) (n : ℕ) → n ≡ length heads → (i : ℕ) → is_in i (places heads names) ≡ true → i < n
places_inside heads names n is i e = let (m, h, p) = in_places heads names i e in let inside = place_below heads m i p in omega (arith, inside, is)

pub graph_step : (heads : List NameArity) (rules : List PlainRule) (r : PlainRule) (old new : List (List ℕ)) → AreDistinct heads → has name_cmp (head_name r) heads ≡ true → old ≡ graph_of heads rules
    → ((i : ℕ) → place heads (head_name r) ≡ Some i → new ≡ set old i (targets old i ++ places heads (body_names r.body))) → new ≡ graph_of heads (rules ++ r ∷ [])
graph_step heads rules r old new a e is step =
    let (i, p) = place_some heads (head_name r) e in
    step i p ∙ ap (λ g. set g i (targets g i ++ places heads (body_names r.body))) is
    ∙ sym (graph_more heads rules r i a p)

-- a rule's head name is one of those of a list that holds the rule
pub head_known : (xs ys : List PlainRule) (r : PlainRule) → has name_cmp (head_name r) (head_names (xs ++ r ∷ ys)) ≡ true
head_known [] ys r = or_left (is_eq (name_cmp (head_name r) (head_name r))) (has name_cmp (head_name r) (head_names ys)) (itself (head_name r))
head_known (x ∷ xs) ys r = or_right (is_eq (name_cmp (head_name r) (head_name x))) (has name_cmp (head_name r) (head_names (xs ++ r ∷ ys))) (head_known xs ys r)
