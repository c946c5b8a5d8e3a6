-- What the checked operations answer.
use Rattle.std.proofs.Common.{ℤ, pos, negsuc, ◌≡◌, refl, ap, sym, arith, ◌<◌, ◌^◌, Bool, true, false, not, Option, Some, None}
use Rattle.std.specs.Prelude.{int_div, FitsSigned}
use Rattle.std.specs.Option.{SomeIff}
use Rattle.std.specs.Ordering.{int_eq}
use Rattle.std.specs.Bool.{Decides}
use Rattle.std.specs.Int.{w64, CanDivide, IsNonZero}
use Rattle.std.proofs.lemmas.Bool.{true≢false, ltb-true}
use Rattle.std.proofs.lemmas.Int.{ints}
use Rattle.std.proofs.lemmas.Bool.Decides.{Decides-and, nat_tests}
use Rattle.term_eval.specs.Values.{is_i64, divides, defined}

-- an answer that is there where a test passes
is_defined : {X : Type 0} {P : Type 0} (r : Option X) (v : X) (so : Bool) → Decides so P → SomeIff r P v → r ≡ defined so v
is_defined None v true d h = absurd (h (d.0 refl))
is_defined None v false d h = refl
is_defined (Some x) v true d h = ap Some h.1
is_defined (Some x) v false d h = absurd (true≢false (sym (d.1 h.0)))

fits : (z : ℤ) → Decides (is_i64 z) (FitsSigned w64 z)
fits (pos n) = (λ e. search (arith, ints, nat_tests), λ e. grind (arith, nat_tests))
fits (negsuc n) = (λ e. search (arith, ints, nat_tests), λ e. grind (arith, nat_tests))

not_zero : (y : ℤ) → FitsSigned w64 y → Decides (not (int_eq y (pos 0))) (IsNonZero w64 y)
not_zero (pos n) f = (λ e. grind (arith, nat_tests, ints), λ e. grind (arith, nat_tests, ints))
not_zero (negsuc n) f =
    let small : n < 2 ^ 63 = ltb-true n (2 ^ 63) ((fits (negsuc n)).1 f) in (
      (λ e. omega (arith, small)),
      (λ e. refl),
    )

pub checked : (r : Option ℤ) (z : ℤ) → SomeIff r (FitsSigned w64 z) z → r ≡ defined (is_i64 z) z
checked r z h = is_defined r z (is_i64 z) (fits z) h

pub checked_division : (r : Option ℤ) (x y z : ℤ) → FitsSigned w64 y → SomeIff r (CanDivide w64 x y) z → r ≡ defined (divides x y) z
checked_division r x y z f h = is_defined r z (divides x y) (Decides-and (not (int_eq y (pos 0))) (is_i64 (int_div x y)) (not_zero y f) (fits (int_div x y))) h

pub ruleset results = (checked, checked_division)
