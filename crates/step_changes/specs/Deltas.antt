-- Changed rows in plain form.
use Rattle.std.specs.Prelude.{List, map}
use Rattle.row_changes.specs.Changes.{SignedRow}
use Rattle.step_changes.specs.declared.deltas.Delta.{Delta}

-- a changed row without the numbers under which stores may have it, of which nothing is said
abbrev pub plain_delta : Delta → SignedRow
plain_delta d = record { sign = d.sign; row = d.row }

abbrev pub plain_deltas : List Delta → List SignedRow
plain_deltas ds = map plain_delta ds
