use Rattle.std.proofs.Common.{arith, ap, length, subst}
use Rattle.binariser.specs.Making.{AreNarrow}
use Rattle.pattern_meaning.specs.PatternRows.{name_of}
use Rattle.binariser.proofs.PlaceLaws.{too_wide}
use Rattle.binariser.proofs.places.Places.of.Goals as goal

pub returns-in_default : goal.returns-in_default
returns-in_default c =
    let same = ap length c.as_slice.ensures in
    too_wide _ (name_of c.args.atom.now) (omega (arith, same, c.in_default.ensures)) (subst AreNarrow c.self.view_is c.self.invariant)
