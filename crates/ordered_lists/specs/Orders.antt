-- Orders that tell different elements apart: of numbers, of lists, of pairs, and of what a key determines.
use Rattle.std.specs.Prelude.{◌≡◌, refl}
use Rattle.std.specs.Ordering.{nat_cmp, ordering_then, on, then_cmp, is_eq}
use Rattle.std.specs.Cmp.{IsTotalOrder}
use Rattle.std.specs.Cmp.Lexicographic.{slice_cmp}
use Rattle.std.specs.FinMap.{nat_cmp-IsAntisymmetric, slice_cmp-IsAntisymmetric}
use Rattle.std.specs.declared.cmp.Ordering.{Ordering}
use Rattle.std.specs.declared.cmp.Ordering.TheVariants.{Less, Equal, Greater}
use Rattle.std.proofs.Common.{ap, sym}
use Rattle.std.proofs.lemmas.Bool.{true≢false}
use Rattle.std.proofs.lemmas.Cmp.{nat_cmp_total, lists_total, then_total, on_total}
use Rattle.ordered_lists.specs.Canon.{Exact}

pub exact_numbers : Exact nat_cmp
exact_numbers = record { total = nat_cmp_total; same = nat_cmp-IsAntisymmetric }

pub exact_lists : {K : Type 0} {R : K → K → Ordering} → Exact R → Exact (slice_cmp R)
exact_lists {R = R} o = record { total = lists_total o.total; same = slice_cmp-IsAntisymmetric {R = R} o.same }

pub exact_texts : Exact (slice_cmp nat_cmp)
exact_texts = exact_lists {R = nat_cmp} exact_numbers

then_equal : (a b : Ordering) → ordering_then a b ≡ Equal → (a ≡ Equal) × (b ≡ Equal)
then_equal Less b e = absurd (true≢false (sym (ap is_eq e)))
then_equal Equal b e = (refl, e)
then_equal Greater b e = absurd (true≢false (sym (ap is_eq e)))

-- elements that a key determines
pub exact_on : {K J : Type 0} (f : K → J) → ((x y : K) → f x ≡ f y → x ≡ y) → {R : J → J → Ordering} → Exact R → Exact (on f R)
exact_on f apart o = record { total = on_total f o.total; same = λ x y e. apart x y (o.same (f x) (f y) e) }

-- an order and then another, which together tell elements apart
pub exact_then_cmp : {K : Type 0} {R S : K → K → Ordering} → IsTotalOrder R → IsTotalOrder S
    → ((x y : K) → R x y ≡ Equal → S x y ≡ Equal → x ≡ y) → Exact (then_cmp R S)
exact_then_cmp {R = R} {S = S} r s apart =
    record { total = then_total r s; same = λ x y e. let both = then_equal (R x y) (S x y) e in apart x y both.0 both.1 }

-- elements that two keys determine
pub exact_then : {K J L : Type 0} (f : K → J) (g : K → L) → ((x y : K) → f x ≡ f y → g x ≡ g y → x ≡ y)
    → {R : J → J → Ordering} {S : L → L → Ordering} → Exact R → Exact S → Exact (then_cmp (on f R) (on g S))
exact_then f g apart r s =
    exact_then_cmp (on_total f r.total) (on_total g s.total) (λ x y d e. apart x y (r.same (f x) (f y) d) (s.same (g x) (g y) e))

-- the first, and then the second
abbrev pub pair_order : {A B : Type 0} → (A → A → Ordering) → (B → B → Ordering) → A × B → A × B → Ordering
pair_order R S x y = ordering_then (R x.0 y.0) (S x.1 y.1)

pub exact_pair_order : {A B : Type 0} {R : A → A → Ordering} {S : B → B → Ordering} → Exact R → Exact S → Exact (pair_order R S)
exact_pair_order {A} {B} r s = exact_then {K = A × B} (λ x. x.0) (λ x. x.1) (λ x y d e i. (d i, e i)) r s
