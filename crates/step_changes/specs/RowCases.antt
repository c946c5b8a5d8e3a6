-- Rows that are a given one, and others.
use Rattle.std.specs.Prelude.{◌≡◌, refl, true, false, ◌⊎◌}
use Rattle.std.proofs.Common.{ap, sym, ◌∙◌, subst, inl, inr}
use Rattle.std.specs.Ordering.{is_eq}
use Rattle.std.specs.Cmp.{tied_itself}
use Rattle.std.specs.declared.cmp.Ordering.{Ordering}
use Rattle.std.specs.declared.cmp.Ordering.TheVariants.{Less, Equal, Greater}
use Rattle.ev_bind.specs.Rows.{row_cmp, exact_rows}
use Rattle.ev_bind.specs.declared.rows.Row.{Row}

pub same_or : (r q : Row) → (r ≡ q) ⊎ (r ≡ q → ⊥)
same_or r q = at (row_cmp r q) refl
  where
    at : (c : Ordering) → row_cmp r q ≡ c → (r ≡ q) ⊎ (r ≡ q → ⊥)
    at Equal e = inl (exact_rows.same r q e)
    at Less e = inr (λ h. no (sym (ap (row_cmp r) (sym h) ∙ tied_itself exact_rows.total r) ∙ e))
      where
        no : Equal ≡ Less → ⊥
        no p = cc
    at Greater e = inr (λ h. no (sym (ap (row_cmp r) (sym h) ∙ tied_itself exact_rows.total r) ∙ e))
      where
        no : Equal ≡ Greater → ⊥
        no p = cc

pub is_other : (r q : Row) → (r ≡ q → ⊥) → is_eq (row_cmp r q) ≡ false
is_other r q n = at (row_cmp r q) refl
  where
    at : (c : Ordering) → row_cmp r q ≡ c → is_eq c ≡ false
    at Less e = refl
    at Greater e = refl
    at Equal e = absurd (n (exact_rows.same r q e))

pub is_same : (r q : Row) → r ≡ q → is_eq (row_cmp r q) ≡ true
is_same r q e = ap (λ z. is_eq (row_cmp r z)) (sym e) ∙ ap is_eq (tied_itself exact_rows.total r)

-- a fact of each row, from the one and from the others
pub each_row : (P : Row → Type 0) (q : Row) → P q → ((r : Row) → (r ≡ q → ⊥) → P r) → (r : Row) → P r
each_row P q here apart r = at (same_or r q)
  where
    at : (r ≡ q) ⊎ (r ≡ q → ⊥) → P r
    at (inl e) = subst P (sym e) here
    at (inr n) = apart r n
