use Rattle.horizon_meaning.specs.Loss.{no_loss}
use Rattle.horizon_meaning.specs.NoLoss.{kept_no_loss, live_rows, live_count, chain_kept}
use Rattle.horizon_meaning.proofs.laws.nothing_that_counts_is_lost.Goals as goal

pub returns : goal.returns
returns c = record { needed = no_loss; supports = kept_no_loss; rows = live_rows; counts = live_count; chains = chain_kept }
