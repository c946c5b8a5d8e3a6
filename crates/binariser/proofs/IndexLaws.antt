-- The indexes of steps, step by step.
use Rattle.std.proofs.Common.{ℕ, zero, suc, ◌≡◌, ◌+◌, ◌<◌, Bool, true, false, cond, ◌||◌, Some, List, [], ◌∷◌, ◌++◌, map, length, take, drop, take-append-drop, get_or, refl, sym, ap, ◌∙◌, arith, subst, append-nil, length-append}
use Rattle.std.specs.List.{flat_map, list_any}
use Rattle.std.proofs.lemmas.List.{take_more, map-append, length-map, length-take-le}
use Rattle.std.proofs.lemmas.List.Concat.{flat_map-append}
use Rattle.rule_ast.specs.declared.plans.Step.{Step}
use Rattle.rule_ast.specs.PlainPlans.{PlainIndex, PlainStep, Named, Leaf, Join, Either, Where, Exact, Within, Minus, Head, plain_step}
use Rattle.event_model.specs.declared.operators.Edge.TheVariants.{Start, End}
use Rattle.interval_ops.specs.declared.ranges.Side.TheVariants.{Left, Right}
use Rattle.step_meaning.specs.StepRows.{step_at}
use Rattle.step_meaning.specs.Operands.{AreLower, IsLower}
use Rattle.step_meaning.specs.PlanOf.{each_once, in_both, index, partner_edge, slots_in, slots_table, step_indexes, step_slots, with_index, same_index}

pub any_at : {A B : Type 0} (p : B → Bool) (plain : A → B) (xs : List A) (i : ℕ) (x : A) → i < length xs → x ≡ get_or xs i x
    → p (plain x) ≡ true → list_any p (map plain xs) ≡ true
any_at p plain [] i x h is e = absurd (omega arith)
any_at p plain (y ∷ xs) zero x h is e = ap (λ b. b || list_any p (map plain xs)) (ap (λ z. p (plain z)) (sym is) ∙ e)
any_at p plain (y ∷ xs) (suc i) x h is e = or_right (p (plain y)) (any_at p plain xs i x (omega (arith, h)) is e)
  where
    or_right : (a : Bool) {b : Bool} → b ≡ true → (a || b) ≡ true
    or_right true d = refl
    or_right false d = d

pub known_index : (xs : List PlainIndex) (x : PlainIndex) → list_any (same_index x) xs ≡ true → xs ≡ with_index xs x
known_index xs x e = sym (ap (λ b. cond b xs (xs ++ x ∷ [])) e)

-- ---- the slots of the steps before

get_front : (t more : List (List ℕ)) (i : ℕ) → i < length t → slots_in (t ++ more) i ≡ slots_in t i
get_front [] more i h = absurd (omega arith)
get_front (x ∷ t) more zero h = refl
get_front (x ∷ t) more (suc i) h = get_front t more i (omega (arith, h))

pub table-append : (ss more : List PlainStep) (t : List (List ℕ)) → slots_table (ss ++ more) t ≡ slots_table more (slots_table ss t)
table-append [] more t = refl
table-append (s ∷ ss) more t = table-append ss more (t ++ step_slots (slots_in t) s ∷ [])

length-table : (ss : List PlainStep) (t : List (List ℕ)) → length (slots_table ss t) ≡ length t + length ss
length-table [] t = omega arith
length-table (s ∷ ss) t =
    length-table ss (t ++ step_slots (slots_in t) s ∷ []) ∙ omega (arith, length-append t (step_slots (slots_in t) s ∷ []))

-- a table only grows
table_front : (ss : List PlainStep) (t : List (List ℕ)) (i : ℕ) → i < length t → slots_in (slots_table ss t) i ≡ slots_in t i
table_front [] t i h = refl
table_front (s ∷ ss) t i h =
    table_front ss (t ++ step_slots (slots_in t) s ∷ []) i (omega (arith, h, length-append t (step_slots (slots_in t) s ∷ [])))
    ∙ get_front t (step_slots (slots_in t) s ∷ []) i h

-- the indexes of a step depend on the slots of its operands alone
indexes_same : (at to : ℕ → List ℕ) (i : ℕ) → ((j : ℕ) → j < i → at j ≡ to j) → (s : PlainStep) → IsLower i s
    → step_indexes at s ≡ step_indexes to s
indexes_same at to i same (Named n heads) low = refl
indexes_same at to i same (Leaf of p) low = refl
indexes_same at to i same (Join op l r) low = λ k.
    index l (in_both (same l low.0 k) (same r low.1 k)) (partner_edge op Right)
    ∷ (index r (in_both (same l low.0 k) (same r low.1 k)) (partner_edge op Left) ∷ [])
indexes_same at to i same (Either l r) low = refl
indexes_same at to i same (Where of c) low = refl
indexes_same at to i same (Exact of q) low = refl
indexes_same at to i same (Within of q) low = refl
indexes_same at to i same (Minus j b n a) low = λ k.
    index j (same n low.2 k) Start ∷ (index j (same b low.1 k) Start ∷ (index j (same a low.3 k) End
    ∷ (index b (same b low.1 k) Start ∷ (index n (same n low.2 k) Start ∷ (index a (same a low.3 k) End ∷ [])))))
indexes_same at to i same (Head of h) low = refl

-- one step more: its slots go behind the table, and its indexes are those by the whole table
module _ (xs : List Step) (i : ℕ) (x : Step) (h : i < length xs) (is : x ≡ get_or xs i x) (low : AreLower (map plain_step xs)) where
  abbrev before : List PlainStep
  before = map plain_step (take i xs)

  abbrev whole : List PlainStep
  whole = map plain_step xs

  taken : map plain_step (take (i + 1) xs) ≡ before ++ plain_step x ∷ []
  taken =
      ap (map plain_step) (take_more xs i x h ∙ ap (λ y. take i xs ++ y ∷ []) (sym is)) ∙ map-append plain_step (take i xs) (x ∷ [])

  pub slots_more : (t : List (List ℕ)) (own : List ℕ) → t ≡ slots_table before [] → own ≡ step_slots (slots_in t) (plain_step x)
      → t ++ own ∷ [] ≡ slots_table (map plain_step (take (i + 1) xs)) []
  slots_more t own e d =
      (λ k. e k ++ (d ∙ ap (λ u. step_slots (slots_in u) (plain_step x)) e) k ∷ [])
      ∙ sym (ap (λ ss. slots_table ss []) taken ∙ table-append before (plain_step x ∷ []) [])

  long : length before ≡ i
  long = length-map (take i xs) plain_step ∙ length-take-le i xs (omega (arith, h))

  at_place : (ys : List Step) (j : ℕ) (y : Step) → j < length ys → y ≡ get_or ys j y → step_at (map plain_step ys) j ≡ Some (plain_step y)
  at_place [] j y k e = absurd (omega arith)
  at_place (z ∷ ys) zero y k e = ap (λ w. Some (plain_step w)) (sym e)
  at_place (z ∷ ys) (suc j) y k e = at_place ys j y (omega (arith, k)) e

  -- its operands have lower numbers
  pub step_lower : (n : ℕ) → n ≡ i → IsLower n (plain_step x)
  step_lower n e = subst (λ k. IsLower k (plain_step x)) (sym e) (low i (plain_step x) (at_place xs i x h is))

  behind : whole ≡ before ++ map plain_step (drop i xs)
  behind = ap (map plain_step) (sym (take-append-drop i xs)) ∙ map-append plain_step (take i xs) (drop i xs)

  table_same : (j : ℕ) → j < i → slots_in (slots_table before []) j ≡ slots_in (slots_table whole []) j
  table_same j k =
      let inside : j < length (slots_table before []) = omega (arith, k, long, length-table before []) in
      sym (ap (λ ss. slots_in (slots_table ss []) j) behind ∙ ap (λ t. slots_in t j) (table-append before (map plain_step (drop i xs)) [])
      ∙ table_front (map plain_step (drop i xs)) (slots_table before []) j inside)

  pub indexes_more : (t : List (List ℕ)) (old own new : List PlainIndex) → t ≡ slots_table before []
      → old ≡ flat_map (λ s. each_once (step_indexes (slots_in (slots_table whole [])) s)) before
      → own ≡ each_once (step_indexes (slots_in t) (plain_step x)) → new ≡ old ++ own
      → new ≡ flat_map (λ s. each_once (step_indexes (slots_in (slots_table whole [])) s)) (map plain_step (take (i + 1) xs))
  indexes_more t old own new e o w n =
      let f = λ (s : PlainStep). each_once (step_indexes (slots_in (slots_table whole [])) s) in
      let mine : own ≡ f (plain_step x) =
      w ∙ ap (λ u. each_once (step_indexes (slots_in u) (plain_step x))) e
      ∙ ap each_once (indexes_same (slots_in (slots_table before [])) (slots_in (slots_table whole [])) i table_same (plain_step x)
      (step_lower i refl)) in
      n ∙ (λ k. o k ++ (mine ∙ sym (append-nil (f (plain_step x)))) k) ∙ sym (flat_map-append f before (plain_step x ∷ []))
      ∙ ap (flat_map f) (sym taken)

  pub table_long : {A : Type 0} (list : A → List ℕ) (slots : List A) → map list slots ≡ slots_table before [] → length slots ≡ i
  table_long list slots e =
      let same : length (map list slots) ≡ length (slots_table before []) = ap length e in
      omega (arith, same, length-map slots list, length-table before [], long)
