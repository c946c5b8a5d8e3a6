use Rattle.std.proofs.Common.{sym, subst, arith}
use Rattle.binariser.specs.Making.{AreNarrow}
use Rattle.binariser.proofs.PlaceLaws.{narrow_insert}
use Rattle.binariser.proofs.places.Places.add.Goals as goal

pub invariant_of-self-2 : goal.invariant_of-self-2
invariant_of-self-2 c = subst AreNarrow (sym c.in_ok-insert.ensures.entries) (narrow_insert _ _ c.args.step (omega arith) c.self.invariant)
