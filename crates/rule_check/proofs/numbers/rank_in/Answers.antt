use Rattle.std.proofs.Common.{arith, sym}
use Rattle.rule_check.proofs.Placing.{place_below}
use Rattle.rule_check.proofs.Numbering.{rank_read, rank_nowhere}
use Rattle.rule_check.proofs.numbers.rank_in.Goals as goal

pub bounds-ranks-number : goal.bounds-ranks-number
bounds-ranks-number c = let inside = place_below c.args.heads.now c.args.name.now c.in-Some.number (sym c.in-Some.ensures) in omega (arith, inside, c.requires)

pub offset_bounds-ranks-number : goal.offset_bounds-ranks-number
offset_bounds-ranks-number c = let inside = place_below c.args.heads.now c.args.name.now c.in-Some.number (sym c.in-Some.ensures) in omega (arith, inside, c.requires)

pub returns-in-Some : goal.returns-in-Some
returns-in-Some c = rank_read c.args.heads.now c.args.ranks.now c.args.name.now c.in-Some.number c.in-Some.ensures

pub returns-in-None : goal.returns-in-None
returns-in-None c = rank_nowhere c.args.heads.now c.args.ranks.now c.args.name.now c.in-None.ensures
