use Rattle.std.proofs.Common.{◌∙◌, ◌-◌, Some, ap, sym, length, arith}
use Rattle.std.proofs.lemmas.Bool.{ltb-true}
use Rattle.key_lists.proofs.Lending.{piece_there}
use Rattle.key_lists.proofs.runs.Run.piece.Goals as goal

pub returns-in-Some : goal.returns-in-Some
returns-in-Some g c =
    ap Some c.as_slice.ensures.value
    ∙ piece_there c.args.self.now.first.now c.args.self.now.more.now c.args.number (c.args.number - 1) c.in-Some.items.now
    (omega (arith, c.if-number-eq0.false)) (ltb-true (c.args.number - 1) (length c.args.self.now.more.now) (sym c.in-Some.ensures.lookup.0)) c.in-Some.ensures.lookup.1
