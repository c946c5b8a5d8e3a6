use Rattle.horizon_meaning.specs.Alike.{alike_by_change, alike_by_recent}
use Rattle.horizon_meaning.proofs.laws.kept_rows_suffice_alone.Goals as goal

pub returns : goal.returns
returns c = record { change = alike_by_change; recent = alike_by_recent }
