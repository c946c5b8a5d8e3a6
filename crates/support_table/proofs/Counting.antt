-- One count after the other.
use Rattle.std.proofs.Common.{ℕ, ◌≡◌, ◌≢◌, refl, ap, sym, ◌∙◌, Option, Some, None, Result, Ok, Err}
use Rattle.std.specs.Prelude.{unwrap_or, IsSome}
use Rattle.std.proofs.lemmas.Bool.{false≢true}
use Rattle.std.specs.Result.{OnErr}
use Rattle.ev_bind.specs.declared.rows.Row.{Row}
use Rattle.row_table.specs.Steps.{step_value}
use Rattle.support_table.specs.Supports.{count_of, row_at, Counts, SameCounts, count_under, count_nowhere}
use Rattle.support_table.specs.declared.kept.Supports.{Supports}

pub on_err : {T E : Type 0} (r : Result T E) (Q : Type 0) → Q → OnErr r Q
on_err (Ok x) Q q = tt
on_err (Err e) Q q = q

module _ (s : Supports) (n step : ℕ) (row : Row) (held : row_at s n ≡ Some row) where
  pub was : (o : Option ℕ) → step_value s.rows n step ≡ o → count_of s step row ≡ unwrap_or o 0
  was o e = count_under s step row n held ∙ ap (λ o. unwrap_or o 0) e

pub with_count : (a b : Supports) (step : ℕ) (row : Row) (m k : ℕ) → Counts a b step row k → k ≡ m → Counts a b step row m
with_count a b step row m k h e = record { this = h.this ∙ e; others = h.others }

module _ (a b c : Supports) (step : ℕ) (row : Row) (m : ℕ) where
  pub counts_after : (k : ℕ) → SameCounts a b → Counts b c step row k → k ≡ m → Counts a c step row m
  counts_after k same h e = record { this = h.this ∙ e; others = λ s r d. h.others s r d ∙ same s r }

  pub counts_before : Counts a b step row m → SameCounts b c → Counts a c step row m
  counts_before h same = record { this = same step row ∙ h.this; others = λ s r d. same s r ∙ h.others s r d }

pub counts_none : (s : Supports) (step : ℕ) (row : Row) → ((n : ℕ) → row_at s n ≢ Some row) → Counts s s step row 0
counts_none s step row none = record { this = sym (count_nowhere s step row (λ v w. none w.number w.key)); others = λ s r d. refl }

pub same_row : (j k : Row) → Some j ≡ Some k → j ≡ k
same_row j k e = cc

pub some_row : (o : Option Row) → IsSome o → (row : Row) × (o ≡ Some row)
some_row None h = absurd (false≢true h)
some_row (Some row) h = (row, refl)
