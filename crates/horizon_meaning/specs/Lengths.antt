-- Lengths in ticks and reaches: how they combine, and which numbers of ticks are within them.
use Rattle.std.specs.Prelude.{ℕ, ◌≡◌, ◌+◌, ◌-◌, ◌≤◌, min, max, refl, Bool, true, false, ◌&&◌, ◌||◌, nat_le, Option, Some, None}
use Rattle.std.proofs.Common.{sym, arith}
use Rattle.std.proofs.Math.Bool.{or-false}
use Rattle.std.proofs.lemmas.Bool.{true≢false}
use Rattle.std.proofs.lemmas.Bool.Decides.{nat_tests}
use Rattle.rule_ast.specs.declared.limits.TheConstants.{MOST_TICKS}
use Rattle.row_changes.specs.declared.caps.Reach.{Reach}
use Rattle.row_changes.specs.declared.caps.Reach.TheVariants.{NoUser, Limit, Free}
use Rattle.row_changes.specs.Kept.{under, within}

-- a number of ticks, where None is no limit
abbrev pub Length : Type 0
Length = Option ℕ

-- the lesser of two
abbrev pub least : Length → Length → Length
least None b = b
least (Some a) None = Some a
least (Some a) (Some b) = Some (min a b)

-- the greater of two
abbrev pub greatest : Length → Length → Length
greatest None b = None
greatest (Some a) None = None
greatest (Some a) (Some b) = Some (max a b)

-- the sum of two; it is at most MOST_TICKS, which no row is longer than
abbrev pub sum_of : Length → Length → Length
sum_of None b = None
sum_of (Some a) None = None
sum_of (Some a) (Some b) = Some (min (a + b) MOST_TICKS)

-- the greatest of a length and a reach: the reach with one user more
abbrev pub further : Length → Reach → Reach
further None n = Free
further (Some c) NoUser = Limit c
further (Some c) (Limit d) = Limit (max c d)
further (Some c) Free = Free

-- a reach as a length: nothing is needed where there is no user
abbrev pub needed : Reach → Length
needed NoUser = Some 0
needed (Limit c) = Some c
needed Free = None

-- ---- as sets of numbers

pub under_least : (a b : Length) (m : ℕ) → under (least a b) m ≡ (under a m && under b m)
under_least None b m = refl
under_least (Some a) None m = grind (arith, nat_tests)
under_least (Some a) (Some b) m = grind (arith, nat_tests)

or_true : (b : Bool) → true ≡ (b || true)
or_true true = refl
or_true false = refl

pub under_greatest : (a b : Length) (m : ℕ) → under (greatest a b) m ≡ (under a m || under b m)
under_greatest None b m = refl
under_greatest (Some a) None m = or_true (nat_le m a)
under_greatest (Some a) (Some b) m = grind (arith, nat_tests)

pub within_further : (c : Length) (n : Reach) (m : ℕ) → within (further c n) m ≡ (under c m || within n m)
within_further None n m = refl
within_further (Some c) NoUser m = sym (or-false (nat_le m c))
within_further (Some c) (Limit d) m = grind (arith, nat_tests)
within_further (Some c) Free m = or_true (nat_le m c)

pub under_needed : (n : Reach) (m : ℕ) → within n m ≡ true → under (needed n) m ≡ true
under_needed NoUser m e = absurd (true≢false (sym e))
under_needed (Limit c) m e = e
under_needed Free m e = refl

-- what is less is within too
pub within_less : (n : Reach) (m k : ℕ) → k ≤ m → within n m ≡ true → within n k ≡ true
within_less NoUser m k l e = e
within_less (Limit c) m k l e = grind (arith, nat_tests)
within_less Free m k l e = refl

-- a reach is a sum: the start with the reach behind it comes to the bound
pub reach_is_sum : (c b start : ℕ) → within (Limit c) (b - start) ≡ nat_le b (start + c)
reach_is_sum c b start = grind (arith, nat_tests)
