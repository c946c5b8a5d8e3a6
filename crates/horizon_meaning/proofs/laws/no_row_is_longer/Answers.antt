use Rattle.horizon_meaning.specs.Fits.{step_rows_fit}
use Rattle.horizon_meaning.proofs.laws.no_row_is_longer.Goals as goal

pub returns : goal.returns
returns c = step_rows_fit
