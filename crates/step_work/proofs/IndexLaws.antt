-- The indexes that one step asks for, each once, and their numbers in a plan.
use Rattle.std.proofs.Common.{◌≡◌, refl, ap, sym, ◌∙◌, ℕ, zero, suc, ◌+◌, ◌<◌, ◌≤◌, Bool, true, false, cond, ◌||◌, ◌&&◌, ◌==◌, Some, option_map, List, [], ◌∷◌, ◌++◌, map, length, get_or, fold, slice_get, append_assoc, append-nil, arith}
use Rattle.std.specs.List.{list_any}
use Rattle.std.specs.Str.{bytes_eq}
use Rattle.std.proofs.lemmas.Bool.{and_parts, eqb-true, true≢false}
use Rattle.std.proofs.lemmas.List.{get_or_past, length-map}
use Rattle.std.proofs.lemmas.Option.{none-some, slice_get-map, slice_get_read}
use Rattle.std.proofs.lemmas.Slice.Eq.{bytes_eq-Decides}
use Rattle.event_model.specs.declared.operators.Edge.{Edge}
use Rattle.event_model.specs.declared.operators.Edge.TheVariants.{Start, End}
use Rattle.rule_ast.specs.declared.plans.Index.{Index}
use Rattle.rule_ast.specs.PlainPlans.{PlainIndex, plain_index}
use Rattle.step_meaning.specs.PlanOf.{same_edge, same_index, with_index}
use Rattle.step_work.specs.Asked.{in_place}

-- ---- elements of lists

slice_get_end : {A : Type 0} (xs : List A) (x : A) (n : ℕ) → n ≡ length xs → slice_get (xs ++ x ∷ []) n ≡ Some x
slice_get_end [] x zero e = refl
slice_get_end [] x (suc n) e = absurd (omega (arith, e))
slice_get_end (y ∷ xs) x zero e = absurd (omega (arith, e))
slice_get_end (y ∷ xs) x (suc n) e = slice_get_end xs x n (omega (arith, e))

slice_get_front : {A : Type 0} (xs ys : List A) (n : ℕ) (x : A) → slice_get xs n ≡ Some x → slice_get (xs ++ ys) n ≡ Some x
slice_get_front [] ys n x e = absurd (none-some x e)
slice_get_front (y ∷ xs) ys zero x e = e
slice_get_front (y ∷ xs) ys (suc n) x e = slice_get_front xs ys n x e

slice_get_behind : {A : Type 0} (xs ys : List A) (n k : ℕ) → n ≡ length xs + k → slice_get (xs ++ ys) n ≡ slice_get ys k
slice_get_behind [] ys n k e = let same : n ≡ k = omega (arith, e) in ap (slice_get ys) same
slice_get_behind (x ∷ xs) ys zero k e = absurd (omega (arith, e))
slice_get_behind (x ∷ xs) ys (suc n) k e = slice_get_behind xs ys n k (omega (arith, e))

-- ---- two indexes that are the same

same_edges : (a b : Edge) → same_edge a b ≡ true → a ≡ b
same_edges Start Start e = refl
same_edges Start End e = absurd (true≢false (sym e))
same_edges End Start e = absurd (true≢false (sym e))
same_edges End End e = refl

pub same_indexes : (x y : PlainIndex) → same_index x y ≡ true → x ≡ y
same_indexes x y e =
    let p = and_parts (x.of == y.of) (bytes_eq x.key y.key && same_edge x.edge y.edge) e in
    let q = and_parts (bytes_eq x.key y.key) (same_edge x.edge y.edge) p.1 in
    λ i. record {
      of = eqb-true x.of y.of p.0 i;
      key = (bytes_eq-Decides x.key y.key).0 q.0 i;
      edge = same_edges x.edge y.edge q.1 i;
    }

-- ---- the place of an index

any_at : {A B : Type 0} (p : B → Bool) (plain : A → B) (xs : List A) (i : ℕ) (x : A) → i < length xs → x ≡ get_or xs i x
    → p (plain x) ≡ true → list_any p (map plain xs) ≡ true
any_at p plain [] i x h is e = absurd (omega (arith, h))
any_at p plain (y ∷ xs) zero x h is e = ap (λ b. b || list_any p (map plain xs)) (ap (λ z. p (plain z)) (sym is) ∙ e)
any_at p plain (y ∷ xs) (suc i) x h is e = or_right (p (plain y)) (any_at p plain xs i x (omega (arith, h)) is e)
  where
    or_right : (a : Bool) {b : Bool} → b ≡ true → (a || b) ≡ true
    or_right true d = refl
    or_right false d = d

-- it is that of one that is known
module _ (xs : List Index) (wanted known : Index) (i : ℕ) (h : i < length xs) (is : known ≡ get_or xs i known)
    (same : same_index (plain_index wanted) (plain_index known) ≡ true) where
  pub known_index : map plain_index xs ≡ with_index (map plain_index xs) (plain_index wanted)
  known_index = sym (ap (λ b. cond b (map plain_index xs) (map plain_index xs ++ plain_index wanted ∷ []))
      (any_at (same_index (plain_index wanted)) plain_index xs i known h is same))

  pub known_place : (n : ℕ) → n ≡ i → slice_get (map plain_index xs) n ≡ Some (plain_index wanted)
  known_place n e =
      ap (slice_get (map plain_index xs)) e ∙ slice_get-map plain_index xs i
      ∙ ap (option_map plain_index) (slice_get_read xs (length xs) i known refl h is)
      ∙ ap Some (sym (same_indexes (plain_index wanted) (plain_index known) same))

-- or the one behind them
module _ (xs : List PlainIndex) (x : PlainIndex) where
  pub new_index : list_any (same_index x) xs ≡ false → xs ++ x ∷ [] ≡ with_index xs x
  new_index e = sym (ap (λ b. cond b xs (xs ++ x ∷ [])) e)

  pub new_place : (n : ℕ) → n ≡ length xs → slice_get (xs ++ x ∷ []) n ≡ Some x
  new_place n e = slice_get_end xs x n e

-- ---- more indexes

with_front : (xs : List PlainIndex) (x : PlainIndex) → (more : List PlainIndex) × (with_index xs x ≡ xs ++ more)
with_front xs x = at (list_any (same_index x) xs)
  where
    at : (b : Bool) → (more : List PlainIndex) × (cond b xs (xs ++ x ∷ []) ≡ xs ++ more)
    at true = ([], sym (append-nil xs))
    at false = (x ∷ [], refl)

fold_front : (xs ys : List PlainIndex) → (more : List PlainIndex) × (fold with_index xs ys ≡ xs ++ more)
fold_front xs [] = ([], sym (append-nil xs))
fold_front xs (y ∷ ys) =
    let one = with_front xs y in
    let rest = fold_front (with_index xs y) ys in
    (one.0 ++ rest.0, rest.1 ∙ ap (λ l. l ++ rest.0) one.1 ∙ append_assoc xs one.0 rest.0)

-- an index keeps its number
pub number_stays : (before asked more after : List PlainIndex) (x : PlainIndex) (first n k : ℕ) → length before ≡ first → n ≡ first + k
    → slice_get asked k ≡ Some x → slice_get (in_place before asked more after) n ≡ Some x
number_stays before asked more after x first n k long is e =
    let rest = fold_front asked more in
    slice_get_behind before (fold with_index asked more ++ after) n k (omega (arith, long, is))
    ∙ slice_get_front (fold with_index asked more) after k x
    (ap (λ l. slice_get l k) rest.1 ∙ slice_get_front asked rest.0 k x e)

-- ---- the slots of steps

pub read_at : {A : Type 0} (f : A → List ℕ) (xs : List A) (i : ℕ) (x : A) → i < length xs → x ≡ get_or xs i x
    → f x ≡ get_or (map f xs) i []
read_at f [] i x h is = absurd (omega (arith, h))
read_at f (y ∷ xs) zero x h is = ap f is
read_at f (y ∷ xs) (suc i) x h is = read_at f xs i x (omega (arith, h)) is

pub none_past : {A : Type 0} (f : A → List ℕ) (xs : List A) (i : ℕ) → length xs ≤ i → get_or (map f xs) i [] ≡ []
none_past f xs i h = get_or_past (map f xs) i [] (let e = length-map xs f in omega (arith, h, e))

-- ---- one index after the other

-- what is asked for, after one index more
pub asked_so : (old new all : List PlainIndex) (x y : PlainIndex) → old ≡ all → x ≡ y → new ≡ with_index old x → new ≡ with_index all y
asked_so old new all x y e d n = n ∙ (λ i. with_index (e i) (d i))

-- the number of an index, in other words
pub asked_at : (before asked all more after : List PlainIndex) (x y : PlainIndex) (n : ℕ) → asked ≡ all → x ≡ y
    → slice_get (in_place before asked more after) n ≡ Some x → slice_get (in_place before all more after) n ≡ Some y
asked_at before asked all more after x y n e d h =
    ap (λ l. slice_get (in_place before l more after) n) (sym e) ∙ h ∙ ap Some d

-- the indexes of a step, and then those of the steps behind it
pub plan_front : (before own rest whole : List PlainIndex) → whole ≡ before ++ (own ++ rest) → whole ≡ (before ++ own) ++ rest
plan_front before own rest whole e = e ∙ sym (append_assoc before own rest)
