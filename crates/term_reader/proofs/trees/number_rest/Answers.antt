use Rattle.std.proofs.Common.{◌≡◌, w64, to_z, of_z, arith}
use Rattle.std.proofs.lemmas.Int.{to_z-of_z}
use Rattle.term_reader.proofs.Branches.{number_read}
use Rattle.term_reader.proofs.trees.number_rest.Goals as goal

pub returns : goal.returns
returns c =
    let same : to_z w64 (of_z w64 c.signed.result) ≡ c.signed.result = grind (arith, to_z-of_z) in
    rw same (number_read _ _ _ _ _ _ _ (rw c.from.ensures at c.in_ok-size.ensures).0 (c.in_ok-size.ensures).1 c.signed.ensures)
