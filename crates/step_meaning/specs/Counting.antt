-- How often a row stands in a list.
use Rattle.std.specs.Prelude.{ℕ, ◌≡◌, ◌+◌, refl, Bool, true, false, cond, ◌||◌, nat_le, List, [], ◌∷◌}
use Rattle.std.specs.List.{filter}
use Rattle.std.specs.Ordering.{is_eq}
use Rattle.std.specs.declared.cmp.Ordering.{Ordering}
use Rattle.std.specs.declared.cmp.Ordering.TheVariants.{Less, Equal, Greater}
use Rattle.std.proofs.Common.{ap, sym, ◌∙◌, arith}
use Rattle.std.proofs.lemmas.Bool.{true≢false}
use Rattle.std.proofs.lemmas.Bool.Decides.{nat_tests}
use Rattle.ordered_lists.specs.Lists.{total_same, total-filter}
use Rattle.ordered_lists.specs.Canon.{has}
use Rattle.ev_bind.specs.Rows.{row_cmp, exact_rows}
use Rattle.ev_bind.specs.declared.rows.Row.{Row}
use Rattle.step_meaning.specs.StepRows.{times}

-- a row is in a list exactly where it stands in it at least once
pub times_has : (r : Row) (xs : List Row) → has row_cmp r xs ≡ nat_le 1 (times r xs)
times_has r [] = refl
times_has r (x ∷ xs) = at (is_eq (row_cmp r x)) (times_has r xs)
  where
    at : (b : Bool) → has row_cmp r xs ≡ nat_le 1 (times r xs) → (b || has row_cmp r xs) ≡ nat_le 1 (cond b 1 0 + times r xs)
    at true h = grind (arith, nat_tests)
    at false h = h ∙ ap (nat_le 1) (let z : times r xs ≡ 0 + times r xs = omega arith in z)

-- a row that passes stands as often among those that pass
pub times-filter : (p : Row → Bool) (r : Row) → p r ≡ true → (xs : List Row) → times r xs ≡ times r (filter p xs)
times-filter p r h xs = total_same _ _ (λ x. at x (row_cmp r x) refl (p x) refl) xs ∙ sym (total-filter _ p xs)
  where
    at : (x : Row) (c : Ordering) → row_cmp r x ≡ c → (b : Bool) → p x ≡ b → (let n : ℕ = cond (is_eq c) 1 0 in n ≡ cond b n 0)
    at x Less e true g = refl
    at x Less e false g = refl
    at x Greater e true g = refl
    at x Greater e false g = refl
    at x Equal e true g = refl
    at x Equal e false g = absurd (true≢false (sym h ∙ ap p (exact_rows.same r x e) ∙ g))
