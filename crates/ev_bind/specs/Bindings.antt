-- Bindings of variables to terms: the set of their pairs, as a list in the order of slots.
--     single xs        no slot has two values
--     union_of xs      these pairs as a binding, where no slot has two values
--     join a b         the union of two bindings, or none where they don't agree
use Rattle.std.specs.Prelude.{ℕ, ◌≡◌, refl, Bool, true, false, cond, not, ◌&&◌, ◌||◌, ◌==◌, Option, Some, None, option_and_then, List, [], ◌∷◌, ◌++◌}
use Rattle.std.specs.List.{list_all}
use Rattle.std.specs.Ordering.{is_eq, nat_cmp}
use Rattle.std.specs.Cmp.{tied_itself}
use Rattle.std.specs.declared.cmp.Ordering.{Ordering}
use Rattle.std.specs.declared.cmp.Ordering.TheVariants.{Less, Equal, Greater}
use Rattle.std.proofs.Common.{ap, sym, ◌∙◌, append_assoc}
use Rattle.std.proofs.lemmas.Bool.{true≢false, and_parts, or_right, false_from_ne_true}
use Rattle.ordered_lists.specs.Canon.{canon, has, Rising, Exact, Rising-canon, canon_same, has-canon, has-append, canon_itself}
use Rattle.ordered_lists.specs.Orders.{exact_numbers, pair_order, exact_pair_order}
use Rattle.event_model.specs.TermOrder.{term_cmp, exact_terms}
use Rattle.event_model.specs.declared.terms.Term.{Term}

-- a slot and its value
abbrev pub Pair : Type 0
Pair = ℕ × Term

-- pairs of a slot and its value, with rising slots
abbrev pub Pairs : Type 0
Pairs = List Pair

abbrev pub pair_cmp : Pair → Pair → Ordering
pair_cmp = pair_order nat_cmp term_cmp

-- two slots, or one value
abbrev pub alike : Pair → Pair → Bool
alike p q = not (p.0 == q.0) || is_eq (term_cmp p.1 q.1)

-- no slot has two values
abbrev pub single : Pairs → Bool
single xs = list_all (λ p. list_all (alike p) xs) xs

-- these pairs as a binding, where no slot has two values
abbrev pub union_of : Pairs → Option Pairs
union_of xs = cond (single xs) (Some (canon pair_cmp xs)) None

-- the union of two bindings, or none where a slot has two values
abbrev pub join : Pairs → Pairs → Option Pairs
join a b = union_of (a ++ b)

-- what a binding is: in order, each slot once
pub record IsBinding (b : Pairs) : Type 0 where
  pub rising : Rising pair_cmp b
  pub one_value : single b ≡ true

-- the value of a slot
abbrev pub value_at : Pairs → ℕ → Option Term
value_at [] slot = None
value_at (p ∷ b) slot = cond (p.0 == slot) (Some p.1) (value_at b slot)

-- ---- laws

pub exact_pairs : Exact pair_cmp
exact_pairs = exact_pair_order exact_numbers exact_terms

module _ {K : Type 0} {R : K → K → Ordering} (o : Exact R) where
  -- each element of ys is one of xs
  abbrev pub Within : List K → List K → Type 0
  Within ys xs = (q : K) → has R q ys ≡ true → has R q xs ≡ true

  pub all_has : (p : K → Bool) (xs : List K) → list_all p xs ≡ true → (q : K) → has R q xs ≡ true → p q ≡ true
  all_has p [] h q e = absurd (true≢false (sym e))
  all_has p (x ∷ xs) h q g =
      at (R q x) refl (and_parts (p x) (list_all p xs) h) (all_has p xs (and_parts (p x) (list_all p xs) h).1 q) g
    where
      at : (c : Ordering) → R q x ≡ c → (p x ≡ true) × (list_all p xs ≡ true)
          → (has R q xs ≡ true → p q ≡ true) → (is_eq c || has R q xs) ≡ true → p q ≡ true
      at Less e g more = more
      at Greater e g more = more
      at Equal e g more = λ _. ap p (o.same q x e) ∙ g.0

  pub has_all : (p : K → Bool) (xs : List K) → ((q : K) → has R q xs ≡ true → p q ≡ true) → list_all p xs ≡ true
  has_all p [] h = refl
  has_all p (x ∷ xs) h =
      ap (λ b. b && list_all p xs) (h x (ap (λ c. is_eq c || has R x xs) (tied_itself o.total x)))
      ∙ has_all p xs (λ q e. h q (or_right (is_eq (R q x)) (has R q xs) e))

pub same_Bool : (a b : Bool) → (a ≡ true → b ≡ true) → (b ≡ true → a ≡ true) → a ≡ b
same_Bool true b f g = sym (f refl)
same_Bool false true f g = g refl
same_Bool false false f g = refl

pub single_within : (xs ys : Pairs) → Within exact_pairs ys xs → single xs ≡ true → single ys ≡ true
single_within xs ys w h = has_all exact_pairs _ ys (λ p e. has_all exact_pairs _ ys (λ q g.
    all_has exact_pairs (alike p) xs (all_has exact_pairs (λ p. list_all (alike p) xs) xs h p (w p e)) q (w q g)))

-- one union for each set of pairs
pub union_same : (xs ys : Pairs) → ((q : Pair) → has pair_cmp q xs ≡ has pair_cmp q ys) → union_of xs ≡ union_of ys
union_same xs ys h = λ i. cond (agree i) (Some (canon_same exact_pairs xs ys h i)) None
  where
    agree : single xs ≡ single ys
    agree = same_Bool (single xs) (single ys) (single_within xs ys (λ q e. h q ∙ e)) (single_within ys xs (λ q e. sym (h q) ∙ e))

or_comm : (a b : Bool) → (a || b) ≡ (b || a)
or_comm true true = refl
or_comm true false = refl
or_comm false true = refl
or_comm false false = refl

pub join_comm : (a b : Pairs) → join a b ≡ join b a
join_comm a b = union_same (a ++ b) (b ++ a) (λ q.
    has-append exact_pairs q a b ∙ or_comm (has pair_cmp q a) (has pair_cmp q b) ∙ sym (has-append exact_pairs q b a))

-- two joins are one union
pub join_twice : (a b c : Pairs) → option_and_then (λ d. join d c) (join a b) ≡ union_of ((a ++ b) ++ c)
join_twice a b c = at (single (a ++ b)) refl
  where
    all : Pairs
    all = (a ++ b) ++ c

    same : (q : Pair) → has pair_cmp q (canon pair_cmp (a ++ b) ++ c) ≡ has pair_cmp q all
    same q = has-append exact_pairs q (canon pair_cmp (a ++ b)) c
        ∙ ap (λ t. t || has pair_cmp q c) (has-canon exact_pairs q (a ++ b))
        ∙ sym (has-append exact_pairs q (a ++ b) c)

    part : single all ≡ true → single (a ++ b) ≡ true
    part = single_within all (a ++ b) (λ q g. has-append exact_pairs q (a ++ b) c ∙ ap (λ t. t || has pair_cmp q c) g)

    at : (t : Bool) → single (a ++ b) ≡ t
        → option_and_then (λ d. join d c) (cond t (Some (canon pair_cmp (a ++ b))) None) ≡ union_of all
    at true e = union_same (canon pair_cmp (a ++ b) ++ c) all same
    at false e = sym (ap (λ t. cond t (Some (canon pair_cmp all)) None)
        (false_from_ne_true (single all) (λ h. true≢false (sym (part h) ∙ e))))

pub join_assoc : (a b c : Pairs) → option_and_then (λ d. join d c) (join a b) ≡ option_and_then (λ d. join a d) (join b c)
join_assoc a b c = join_twice a b c ∙ union_same ((a ++ b) ++ c) ((b ++ c) ++ a) turn ∙ sym (join_twice b c a) ∙ swap (join b c)
  where
    turn : (q : Pair) → has pair_cmp q ((a ++ b) ++ c) ≡ has pair_cmp q ((b ++ c) ++ a)
    turn q = ap (has pair_cmp q) (append_assoc a b c) ∙ has-append exact_pairs q a (b ++ c)
        ∙ or_comm (has pair_cmp q a) (has pair_cmp q (b ++ c)) ∙ sym (has-append exact_pairs q (b ++ c) a)

    swap : (o : Option Pairs) → option_and_then (λ d. join d a) o ≡ option_and_then (λ d. join a d) o
    swap None = refl
    swap (Some d) = join_comm d a

-- a union is a binding
pub IsBinding-canon : (xs : Pairs) → single xs ≡ true → IsBinding (canon pair_cmp xs)
IsBinding-canon xs s = record {
  rising = Rising-canon exact_pairs xs;
  one_value = single_within xs (canon pair_cmp xs) (λ q e. sym (has-canon exact_pairs q xs) ∙ e) s;
}

-- a binding is the union of its pairs
pub union_of-itself : (b : Pairs) → IsBinding b → union_of b ≡ Some b
union_of-itself b h =
    ap (λ t. cond t (Some (canon pair_cmp b)) None) h.one_value ∙ ap Some (canon_itself exact_pairs b h.rising)
