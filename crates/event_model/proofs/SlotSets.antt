-- What the operations on bits are on sets of slots.
use Rattle.std.proofs.Common.{◌≡◌, ℕ, ◌*◌, ◌/◌, ◌%◌, ◌^◌, ◌<◌, true, false, ◌||◌, ◌&&◌, ◌==◌, min, max, ◌⊎◌, inl, inr, refl, sym, ap, ◌∙◌, arith, bit_and}
use Rattle.std.specs.Bool.{Decides}
use Rattle.std.specs.Int.{bit_at, w64}
use Rattle.std.specs.Int.RustNames.{bit_or}
use Rattle.std.proofs.lemmas.Bool.{cases_eq}
use Rattle.std.proofs.lemmas.Bool.Decides.{nat_tests, Decides-eqb}
use Rattle.std.proofs.lemmas.Nat.Bits.{bit_at-lt, bit_at-zero, bit_at_and, bit_at_or, shr_and_one, bit_at_set_same, bit_at_set_other, same_from_bits}
use Rattle.event_model.specs.SlotSets.{slot_in, IsWithin}

pub slot_in_none : (t : ℕ) → slot_in 0 t ≡ false
unfolding slot_in
slot_in_none t = rw bit_at-zero refl

added_at : (n k t : ℕ) → k < 64 → (t ≡ k) ⊎ (t ≡ k → ⊥) → (bit_at (bit_or n (1 * 2 ^ k % 2 ^ 64)) t == 1) ≡ ((bit_at n t == 1) || (k == t))
added_at n k t h (inl e) =
    let same : bit_at (bit_or n (1 * 2 ^ k % 2 ^ 64)) k ≡ 1 = bit_at_set_same w64 n k h in
    rw e (rw same (grind (arith, nat_tests)))
added_at n k t h (inr d) =
    let other : bit_at (bit_or n (1 * 2 ^ k % 2 ^ 64)) t ≡ bit_at n t = bit_at_set_other w64 n k h t d in
    rw other (grind (arith, nat_tests))

pub slot_in_added : (n k : ℕ) → k < 64 → (t : ℕ) → slot_in (bit_or n (1 * 2 ^ k % 2 ^ 64)) t ≡ (slot_in n t || (k == t))
unfolding slot_in
slot_in_added n k h t = added_at n k t h (cases_eq t k)

pub slot_in_shifted : (n k : ℕ) → (bit_and (n / 2 ^ k) 1 == 1) ≡ slot_in n k
unfolding slot_in
slot_in_shifted n k = ap (λ b. b == 1) (shr_and_one n k)

either : (x y : ℕ) → x < 2 → y < 2 → (max x y == 1) ≡ ((x == 1) || (y == 1))
either x y h k = grind (arith, nat_tests)

both : (x y : ℕ) → x < 2 → y < 2 → (min x y == 1) ≡ ((x == 1) && (y == 1))
both x y h k = grind (arith, nat_tests)

pub slot_in_or : (a b t : ℕ) → slot_in (bit_or a b) t ≡ (slot_in a t || slot_in b t)
unfolding slot_in
slot_in_or a b t = ap (λ n. n == 1) (bit_at_or a b t) ∙ either (bit_at a t) (bit_at b t) (bit_at-lt a t) (bit_at-lt b t)

pub slot_in_and : (a b t : ℕ) → slot_in (bit_and a b) t ≡ (slot_in a t && slot_in b t)
unfolding slot_in
slot_in_and a b t = ap (λ n. n == 1) (bit_at_and a b t) ∙ both (bit_at a t) (bit_at b t) (bit_at-lt a t) (bit_at-lt b t)

-- a bit of a number whose bits are all in another
min_at : (x y : ℕ) → x < 2 → y < 2 → (x == 1 ≡ true → y == 1 ≡ true) → min x y ≡ x
min_at x y h k f = grind (arith, nat_tests)

one_at : (x y : ℕ) → min x y ≡ x → (x == 1) ≡ true → y < 2 → (y == 1) ≡ true
one_at x y e h k = grind (arith, nat_tests)

within_to : (a b : ℕ) → (bit_and a b == a) ≡ true → IsWithin a b
unfolding slot_in
within_to a b e t h =
    let same : bit_and a b ≡ a = (Decides-eqb (bit_and a b) a).0 e in
    one_at (bit_at a t) (bit_at b t) (sym (bit_at_and a b t) ∙ ap (λ n. bit_at n t) same) h (bit_at-lt b t)

within_from : (a b : ℕ) → IsWithin a b → (bit_and a b == a) ≡ true
unfolding slot_in
within_from a b f =
    (Decides-eqb (bit_and a b) a).1 (same_from_bits (bit_and a b) a
    (λ t. bit_at_and a b t ∙ min_at (bit_at a t) (bit_at b t) (bit_at-lt a t) (bit_at-lt b t) (f t)))

pub within_decides : (a b : ℕ) → Decides (bit_and a b == a) (IsWithin a b)
within_decides a b = (within_to a b, within_from a b)

same_bit : (x y : ℕ) → x < 2 → y < 2 → (x == 1) ≡ (y == 1) → x ≡ y
same_bit x y h k e = grind (arith, nat_tests)

pub same_members : (a b : ℕ) → ((t : ℕ) → slot_in a t ≡ slot_in b t) → a ≡ b
unfolding slot_in
same_members a b same = same_from_bits a b (λ t. same_bit (bit_at a t) (bit_at b t) (bit_at-lt a t) (bit_at-lt b t) (same t))
