-- The keys behind another, among sorted pairs.
use Rattle.std.proofs.Common.{◌≡◌, ℕ, ◌+◌, ◌-◌, ◌^◌, ◌<◌, ◌≤◌, List, length, get_or, Option, Some, None, sym, ap, ◌∙◌, refl, arith}
use Rattle.std.specs.Prelude.{IsSome, nat_lt, true}
use Rattle.std.proofs.lemmas.Bool.{true≢false}
use Rattle.std.proofs.lemmas.Bool.Decides.{nat_tests}
use Rattle.row_table.specs.Pairs.{get, key_at, is_behind, IsStrictlySorted, IsAt, IsGapFor, IsPlaceBehind, IsNext, NoneBehind}
use Rattle.row_table.proofs.Pairs.{get_absent}
use Rattle.row_table.proofs.Place.{get_at, length-keys}

-- what comes behind one that is behind another is behind that too
pub behind_further : (last : Option ℕ) (step s : ℕ) → is_behind last step ≡ true → nat_lt step s ≡ true → is_behind last s ≡ true
behind_further None step s b l = refl
behind_further (Some a) step s b l = grind (arith, nat_tests, b, l)

-- how many keys of 32 bits may come behind another
abbrev pub room : Option ℕ → ℕ
room None = 2 ^ 32 + 1
room (Some last) = 2 ^ 32 - last

module _ {V : Type 0} (l : List (ℕ × V)) where
  pub behind_none : IsPlaceBehind l None 0
  behind_none = record { before = λ j lt. absurd (omega (arith, lt)); from = λ j le lt. refl }

  pub behind_gap : (step at : ℕ) → IsGapFor l step at → IsPlaceBehind l (Some step) at
  behind_gap step at gap = record {
    before = λ j lt. let less = gap.smaller_before j lt in grind (arith, nat_tests, less);
    from = λ j le lt. let more = gap.greater_after j le lt in grind (arith, nat_tests, more);
  }

  module _ (sorted : IsStrictlySorted l) where
    pub behind_found : (step at : ℕ) → IsAt l step at → IsPlaceBehind l (Some step) (at + 1)
    behind_found step at found = record {
      before = λ j lt. grind (
        arith,
        nat_tests,
        found.has_key,
        found.in_range,
        sorted j at,
        length-keys l,
        λ (same : j ≡ at). ap (key_at l) same,
      );
      from = λ j le lt. grind (arith, nat_tests, found.has_key, sorted at j, length-keys l);
    }

    module _ (last : Option ℕ) (at : ℕ) (place : IsPlaceBehind l last at) where
      -- past the end none is left
      pub none_left : length l ≤ at → NoneBehind (get l) last
      none_left past k behind = get_absent l k (λ j lt same.
          true≢false (sym behind ∙ ap (is_behind last) (sym same) ∙ place.before j (omega (arith, lt, past))))

      -- otherwise that at the place is the first
      pub next_is : at < length l → (d : ℕ × V) → IsNext (get l) last (key_at l at)
      next_is lt d = record {
        there = ap_some (get l (key_at l at)) (get_or l at d).1
            (get_at l sorted (key_at l at) at (record { in_range = lt; has_key = refl }) d);
        behind = place.from at (omega arith) lt;
        none_between = λ k behind less. get_absent l k (λ j in_range same.
            let before : j < at → ⊥ = λ b. true≢false (sym behind ∙ ap (is_behind last) (sym same) ∙ place.before j b) in
            let above : at < j → key_at l at < key_at l j = λ b. sorted at j b (omega (arith, in_range, length-keys l)) in
            let here : j ≡ at → key_at l j ≡ key_at l at = λ e. ap (key_at l) e in
            omega_of j k before above here same less);
      }
        where
          ap_some : (o : Option V) (v : V) → o ≡ Some v → IsSome o
          ap_some None v e = cc
          ap_some (Some x) v e = refl

          omega_of : (j k : ℕ) → (j < at → ⊥) → (at < j → key_at l at < key_at l j) → (j ≡ at → key_at l j ≡ key_at l at)
              → key_at l j ≡ k → k < key_at l at → ⊥
          omega_of j k before above here same less = grind (arith, before, above, here, same, less)
