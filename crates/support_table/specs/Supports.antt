-- Supports: how often each step has each row.
--     count_of s step row       the count, 0 where none is kept
--     row_at s n                the row under a number
--     Counts old new step row n     afterwards this count is n, and all others are as before
use Rattle.std.specs.Prelude.{ℕ, ◌≡◌, ◌≢◌, Option, Some, unwrap_or}
use Rattle.std.proofs.Common.{ap, sym, ◌∙◌}
use Rattle.ev_bind.specs.Rows.{row_cmp, row_writes, exact_rows}
use Rattle.ev_bind.specs.declared.rows.Row.{Row}
use Rattle.row_table.specs.Tables.{hashed}
use Rattle.row_table.specs.Steps.{row_under, step_value, same_record, HasValue}
use Rattle.row_table.specs.Counts.{count_in, count_absent, count_counted, count_number, count_same, count_others}
use Rattle.support_table.specs.declared.kept.Supports.{Supports}

unfoldable pub count_of : Supports → ℕ → Row → ℕ
count_of s step row = count_in row_cmp s.rows step row

abbrev pub row_at : Supports → ℕ → Option Row
row_at s n = row_under s.rows n

-- one count is this, and all others stay
pub record Counts (old new : Supports) (step : ℕ) (row : Row) (n : ℕ) : Type 0 where
  pub this : count_of new step row ≡ n
  pub others : (s : ℕ) (r : Row) → (s ≡ step → r ≡ row → ⊥) → count_of new s r ≡ count_of old s r

-- all counts stay
abbrev pub SameCounts : Supports → Supports → Type 0
SameCounts old new = (s : ℕ) (r : Row) → count_of new s r ≡ count_of old s r

-- ---- laws

module _ (s : Supports) (step : ℕ) (row : Row) where
  -- a row's count is that under its number
  pub count_under : (n : ℕ) → row_at s n ≡ Some row → count_of s step row ≡ unwrap_or (step_value s.rows n step) 0
  unfolding count_of
  count_under n held = count_number exact_rows (hashed row_writes) s.rows s.table n step row held

  pub count_found : (v : ℕ) → HasValue s.rows step row v → v ≡ count_of s step row
  unfolding count_of
  count_found v c = sym (count_counted exact_rows (hashed row_writes) s.rows s.table step row v c)

  pub count_nowhere : ((v : ℕ) → HasValue s.rows step row v → ⊥) → 0 ≡ count_of s step row
  unfolding count_of
  count_nowhere none = sym (count_absent exact_rows (hashed row_writes) s.rows step row none)

module _ (old new : Supports) where
  pub same_counts : ((n s : ℕ) → step_value new.rows n s ≡ step_value old.rows n s)
      → ((n : ℕ) (k : Row) → row_at old n ≡ Some k → row_at new n ≡ Some k) → SameCounts old new
  unfolding count_of
  same_counts values keys = count_same exact_rows old.rows new.rows values keys

  -- records without steps that went
  pub fewer_records : ((n s : ℕ) → step_value new.rows n s ≡ step_value old.rows n s)
      → ((n : ℕ) (k : Row) → row_at new n ≡ Some k → row_at old n ≡ Some k) → SameCounts old new
  unfolding count_of
  fewer_records values keys s r = sym (count_same exact_rows new.rows old.rows (λ n s. sym (values n s)) keys s r)

  pub counts_only : (n step : ℕ) (row : Row) (o : Option ℕ) → row_at old n ≡ Some row → step_value new.rows n step ≡ o
      → ((s : ℕ) → s ≢ step → step_value new.rows n s ≡ step_value old.rows n s)
      → ((m : ℕ) → m ≢ n → same_record old.rows new.rows m)
      → ((m : ℕ) → row_at new m ≡ row_at old m) → Counts old new step row (unwrap_or o 0)
  unfolding count_of
  counts_only n step row o held here steps others keys = record {
    this = count_under new step row n (keys n ∙ held) ∙ ap (λ o. unwrap_or o 0) here;
    others = count_others exact_rows old.rows new.rows n step row held (keys n ∙ held) steps others;
  }
