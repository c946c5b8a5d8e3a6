-- Sums over lists, over what lists give, and over the changed rows of a sign.
use Rattle.std.specs.Prelude.{ℕ, ◌≡◌, ◌+◌, refl, Bool, true, false, cond, not, ◌&&◌, ◌||◌, if◌then◌else◌, Option, Some, None, List, [], ◌∷◌, ◌++◌, map}
use Rattle.std.specs.List.{filter, flat_map}
use Rattle.std.specs.Ordering.{is_eq}
use Rattle.std.specs.Cmp.{tied_itself}
use Rattle.std.specs.declared.cmp.Ordering.{Ordering}
use Rattle.std.specs.declared.cmp.Ordering.TheVariants.{Less, Equal, Greater}
use Rattle.std.proofs.Common.{ap, sym, ◌∙◌, arith}
use Rattle.std.proofs.lemmas.Bool.{true≢false}
use Rattle.ordered_lists.specs.Lists.{some_of, total, total-filter, total_of_sum, Each, Each-append, Each-filter}
use Rattle.ordered_lists.specs.Canon.{canon, has, Rising, Exact, Each-canon, Rising-canon, Rising-filter, has-canon, has-append}
use Rattle.ordered_lists.specs.Members.{has-without}
use Rattle.ordered_lists.specs.Orders.{exact_numbers, exact_lists, exact_on, exact_pair_order}
use Rattle.event_changes.specs.declared.changes.Sign.{Sign}
use Rattle.event_changes.specs.declared.changes.Sign.TheVariants.{Plus, Minus}
use Rattle.event_model.specs.declared.operators.Edge.{Edge}
use Rattle.event_model.specs.declared.operators.Edge.TheVariants.{Start, End}
use Rattle.ev_bind.specs.Bindings.{Pairs, exact_pairs, same_Bool}
use Rattle.ev_bind.specs.Projections.{tie}
use Rattle.ev_bind.specs.Rows.{row_cmp, exact_rows}
use Rattle.ev_bind.specs.declared.rows.Row.{Row}
use Rattle.step_meaning.specs.StepRows.{times}
use Rattle.row_changes.specs.Changes.{fresh, dying, changed}
use Rattle.row_changes.specs.Partners.{edge_cmp}
use Rattle.row_changes.specs.Visits.{Visit, same_sign, hits, tally, signed}
use Rattle.change_meaning.specs.Caps.{fits, fitting}
use Rattle.change_meaning.specs.Moved.{moved_of}
use Rattle.change_meaning.proofs.Balance.{only}
use Rattle.change_meaning.proofs.Distinct.{Distinct, total_distinct, rising_distinct}

-- ---- sums

pub total_each : {A : Type 0} (P : A → Type 0) (f g : A → ℕ) → ((x : A) → P x → f x ≡ g x) → (xs : List A) → Each P xs
    → total f xs ≡ total g xs
total_each P f g h [] a = refl
total_each P f g h (x ∷ xs) a = λ i. h x a.0 i + total_each P f g h xs a.1 i

pub total_none : {A : Type 0} (xs : List A) → total (λ x. 0) xs ≡ 0
total_none [] = refl
total_none (x ∷ xs) = omega (arith, total_none xs)

pub total_cond : {A : Type 0} (b : Bool) (f : A → ℕ) (xs : List A) → total (λ x. cond b (f x) 0) xs ≡ cond b (total f xs) 0
total_cond true f xs = refl
total_cond false f xs = total_none xs

pub total_swap : {A B : Type 0} (h : A → B → ℕ) (xs : List A) (ys : List B)
    → total (λ x. total (h x) ys) xs ≡ total (λ y. total (λ x. h x y) xs) ys
total_swap h [] ys = sym (total_none ys)
total_swap h (x ∷ xs) ys =
    ap (λ n. total (h x) ys + n) (total_swap h xs ys) ∙ sym (total_of_sum (h x) (λ y. total (λ x. h x y) xs) ys)

-- ---- orders of edges

exact_ends : Exact (edge_cmp End)
exact_ends = exact_on key (λ x y p i. record { span = record { start = (p i).1.0; end = (p i).0 }; binding = (p i).1.1 })
    (exact_pair_order exact_numbers (exact_pair_order exact_numbers (exact_lists exact_pairs)))
  where
    key : Row → ℕ × (ℕ × Pairs)
    key r = (r.span.end, (r.span.start, r.binding))

pub exact_edge : (e : Edge) → Exact (edge_cmp e)
exact_edge Start = exact_rows
exact_edge End = exact_ends

module _ {K : Type 0} {R S : K → K → Ordering} (r : Exact R) (s : Exact S) where
  same_tie : (x y : K) → is_eq (R x y) ≡ is_eq (S x y)
  same_tie x y =
      same_Bool (is_eq (R x y)) (is_eq (S x y))
      (λ e. ap is_eq (ap (S x) (sym (r.same x y (tie (R x y) e))) ∙ tied_itself s.total x))
      (λ e. ap is_eq (ap (R x) (sym (s.same x y (tie (S x y) e))) ∙ tied_itself r.total x))

  pub same_has : (x : K) (xs : List K) → has R x xs ≡ has S x xs
  same_has x [] = refl
  same_has x (y ∷ xs) = λ i. same_tie x y i || same_has x xs i

  distinct_too : (xs : List K) → Distinct R xs → Distinct S xs
  distinct_too [] a = tt
  distinct_too (x ∷ xs) a = (sym (same_has x xs) ∙ a.0, distinct_too xs a.1)

  -- a list in one order has the same sum in another
  pub total_reordered : (f : K → ℕ) (xs : List K) → Rising R xs → total f (canon S xs) ≡ total f xs
  total_reordered f xs u = total_distinct s f xs (distinct_too xs (rising_distinct r xs u))

-- ---- the changed rows of a sign

abbrev pub sign_of : List Row → Row → Sign
sign_of ys r = if has row_cmp r ys then Plus else Minus

pub has_changed : (xs ys : List Row) (r : Row)
    → has row_cmp r (changed xs ys)
    ≡ ((has row_cmp r ys && not (has row_cmp r xs)) || (has row_cmp r xs && not (has row_cmp r ys)))
has_changed xs ys r =
    has-canon exact_rows r (fresh xs ys ++ dying xs ys)
    ∙ has-append exact_rows r (fresh xs ys) (dying xs ys)
    ∙ (λ i. has-without exact_rows r ys xs i || has-without exact_rows r xs ys i)

-- a row that isn't changed is in both or in none
pub unchanged : (xs ys : List Row) (r : Row) → has row_cmp r (changed xs ys) ≡ false → has row_cmp r xs ≡ has row_cmp r ys
unchanged xs ys r h = at (has row_cmp r xs) (has row_cmp r ys) (sym (has_changed xs ys r) ∙ h)
  where
    at : (s t : Bool) → ((t && not s) || (s && not t)) ≡ false → s ≡ t
    at true true k = refl
    at true false k = absurd (true≢false k)
    at false true k = absurd (true≢false k)
    at false false k = refl

pub moved_rises : (s : Sign) (xs ys : List Row) → Rising row_cmp xs → Rising row_cmp ys → Rising row_cmp (moved_of s xs ys)
moved_rises Plus xs ys u v = Rising-filter exact_rows (λ r. not (has row_cmp r xs)) ys v
moved_rises Minus xs ys u v = Rising-filter exact_rows (λ r. not (has row_cmp r ys)) xs u

pub has_moved : (s : Sign) (xs ys : List Row) (r : Row)
    → has row_cmp r (moved_of s xs ys) ≡ (same_sign s (sign_of ys r) && has row_cmp r (changed xs ys))
has_moved Plus xs ys r =
    has-without exact_rows r ys xs ∙ at (has row_cmp r xs) (has row_cmp r ys)
    ∙ sym (ap (λ b. same_sign Plus (sign_of ys r) && b) (has_changed xs ys r))
  where
    at : (s t : Bool) → (t && not s) ≡ (same_sign Plus (if t then Plus else Minus) && ((t && not s) || (s && not t)))
    at true true = refl
    at true false = refl
    at false true = refl
    at false false = refl
has_moved Minus xs ys r =
    has-without exact_rows r xs ys ∙ at (has row_cmp r xs) (has row_cmp r ys)
    ∙ sym (ap (λ b. same_sign Minus (sign_of ys r) && b) (has_changed xs ys r))
  where
    at : (s t : Bool) → (s && not t) ≡ (same_sign Minus (if t then Plus else Minus) && ((t && not s) || (s && not t)))
    at true true = refl
    at true false = refl
    at false true = refl
    at false false = refl

-- the changed rows of a sign are those that come, and those that go
pub moved_sign : (s : Sign) (xs ys : List Row) → Rising row_cmp xs → Rising row_cmp ys
    → filter (λ r. same_sign s (sign_of ys r)) (changed xs ys) ≡ moved_of s xs ys
moved_sign s xs ys u v =
    only exact_rows (λ r. same_sign s (sign_of ys r)) (changed xs ys) (moved_of s xs ys)
    (Rising-canon exact_rows (fresh xs ys ++ dying xs ys)) (moved_rises s xs ys u v) (λ r. sym (has_moved s xs ys r))

-- the sum over the changed rows of a sign
pub sum_moved : (s : Sign) (k : Row → ℕ) (xs ys : List Row) → Rising row_cmp xs → Rising row_cmp ys
    → total (λ x. if same_sign s (sign_of ys x) then k x else 0) (changed xs ys) ≡ total k (moved_of s xs ys)
sum_moved s k xs ys u v =
    sym (total-filter k (λ r. same_sign s (sign_of ys r)) (changed xs ys)) ∙ ap (total k) (moved_sign s xs ys u v)

pub Each-changed : (P : Row → Type 0) (xs ys : List Row) → Each P xs → Each P ys → Each P (changed xs ys)
Each-changed P xs ys a b =
    Each-canon row_cmp P (fresh xs ys ++ dying xs ys)
    (Each-append P (fresh xs ys) (dying xs ys) (Each-filter P _ ys b) (Each-filter P _ xs a))

pub Each-moved : (P : Row → Type 0) (s : Sign) (xs ys : List Row) → Each P xs → Each P ys → Each P (moved_of s xs ys)
Each-moved P Plus xs ys a b = Each-filter P _ ys b
Each-moved P Minus xs ys a b = Each-filter P _ xs a

-- ---- what visits give

pub tally-append : (s : Sign) (r : Row) (xs ys : List Visit) → tally s r (xs ++ ys) ≡ tally s r xs + tally s r ys
tally-append s r [] ys = omega arith
tally-append s r (x ∷ xs) ys = omega (arith, tally-append s r xs ys)

pub tally-map : {A : Type 0} (s : Sign) (r : Row) (f : A → Visit) (xs : List A) → tally s r (map f xs) ≡ total (λ x. hits s r (f x)) xs
tally-map s r f [] = refl
tally-map s r f (x ∷ xs) = ap (λ n. hits s r (f x) + n) (tally-map s r f xs)

pub tally-flat_map : {A : Type 0} (s : Sign) (r : Row) (f : A → List Visit) (xs : List A)
    → tally s r (flat_map f xs) ≡ total (λ x. tally s r (f x)) xs
tally-flat_map s r f [] = refl
tally-flat_map s r f (x ∷ xs) =
    tally-append s r (f x) (flat_map f xs) ∙ ap (λ n. tally s r (f x) + n) (tally-flat_map s r f xs)

-- a signed row, where it fits
pub hits_fitting : (s sign : Sign) (r : Row) (cap : Option ℕ) (o : Option Row)
    → hits s r (signed sign (fitting cap o)) ≡ (if same_sign s sign then cond (fits cap r) (times r (some_of o)) 0 else 0)
hits_fitting s sign r cap None = at (same_sign s sign) (fits cap r)
  where
    at : (b c : Bool) → ◌≡◌ {A = ℕ} 0 (if b then cond c 0 0 else 0)
    at true true = refl
    at true false = refl
    at false c = refl
hits_fitting s sign r cap (Some z) = at (fits cap z) refl (fits cap r) refl (same_sign s sign) refl (row_cmp r z) refl
  where
    at : (b : Bool) → fits cap z ≡ b → (c : Bool) → fits cap r ≡ c → (d : Bool) → same_sign s sign ≡ d → (o : Ordering) → row_cmp r z ≡ o
        → hits s r (signed sign (if b then Some z else None)) ≡ (if d then cond c (cond (is_eq o) 1 0 + 0) 0 else 0)
    at true f true g d e o h = (λ i. if e i && is_eq (h i) then 1 else 0) ∙ one d (is_eq o)
      where
        one : (d e : Bool) → ◌≡◌ {A = ℕ} (if d && e then 1 else 0) (if d then (cond e 1 0 + 0) else 0)
        one true true = refl
        one true false = refl
        one false e = refl
    at true f false g d e Less h = (λ i. if e i && is_eq (h i) then 1 else 0) ∙ none d
      where
        none : (d : Bool) → ◌≡◌ {A = ℕ} (if d && false then 1 else 0) (if d then 0 else 0)
        none true = refl
        none false = refl
    at true f false g d e Greater h = (λ i. if e i && is_eq (h i) then 1 else 0) ∙ none d
      where
        none : (d : Bool) → ◌≡◌ {A = ℕ} (if d && false then 1 else 0) (if d then 0 else 0)
        none true = refl
        none false = refl
    at true f false g d e Equal h = absurd (true≢false (sym f ∙ ap (fits cap) (sym (exact_rows.same r z h)) ∙ g))
    at false f c g d e Less h = none d c
      where
        none : (d c : Bool) → ◌≡◌ {A = ℕ} 0 (if d then cond c 0 0 else 0)
        none true true = refl
        none true false = refl
        none false c = refl
    at false f c g d e Greater h = none d c
      where
        none : (d c : Bool) → ◌≡◌ {A = ℕ} 0 (if d then cond c 0 0 else 0)
        none true true = refl
        none true false = refl
        none false c = refl
    at false f true g d e Equal h = absurd (true≢false (sym g ∙ ap (fits cap) (exact_rows.same r z h) ∙ f))
    at false f false g d e Equal h = none d
      where
        none : (d : Bool) → ◌≡◌ {A = ℕ} 0 (if d then 0 else 0)
        none true = refl
        none false = refl
