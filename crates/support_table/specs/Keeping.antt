-- What stays of the counts where a caller is asked for each step and row.
--     MayAnswer g f step row b              asked for a step and a row, f may answer b
--     IsKept g f step row old new           the count old of a row at a step is new, as f answers
use Rattle.std.specs.Prelude.{ℕ, ◌≡◌, ◌≢◌, Bool, if◌then◌else◌}
use Rattle.std.specs.Fn.{Shared, FnReturns}
use Rattle.std.proofs.Common.{Bor}
use Rattle.ev_bind.specs.declared.rows.Row.{Row}

pub record MayAnswer {F : Type 0} (g : Shared F (ℕ × (Bor Row × Unit {0})) Bool) (f : F) (step : ℕ) (row : Row)
    (answer : Bool) : Type 0 where
  pub shown : Bor Row
  pub shows : shown.now ≡ row
  pub says : FnReturns g f (step, (shown, tt)) answer

pub record IsKept {F : Type 0} (g : Shared F (ℕ × (Bor Row × Unit {0})) Bool) (f : F) (step : ℕ) (row : Row) (old new : ℕ) : Type 0 where
  -- a row that the step doesn't have doesn't come
  pub none : old ≡ 0 → new ≡ 0
  -- any other stays with its count or goes, as the answer is
  pub asked : old ≢ 0 → (stays : Bool) × MayAnswer g f step row stays × (new ≡ (if stays then old else 0))
