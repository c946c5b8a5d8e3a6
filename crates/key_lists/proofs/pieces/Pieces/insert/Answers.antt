use Rattle.std.proofs.Common.{sym, subst}
use Rattle.ordered_lists.specs.Canon.{Rising}
use Rattle.key_lists.specs.Pieces.{joined}
use Rattle.key_lists.proofs.Parting.{rising_rest, ordered_same, ordered_put}
use Rattle.key_lists.proofs.pieces.Pieces.insert.Goals as goal

pub piece_of-number-requires-clause-rising : goal.piece_of-number-requires-clause-rising
piece_of-number-requires-clause-rising g c =
    subst (λ l. Rising g.T.Ord.cmp (joined l)) (sym c.deref.ensures.value) (rising_rest c.args.self.now.first.items c.args.self.now.more.items c.requires.ordered)

pub piece_of-number-requires-then-is_long-clause-rising : goal.piece_of-number-requires-then-is_long-clause-rising
piece_of-number-requires-then-is_long-clause-rising g c =
    subst (λ l. Rising g.T.Ord.cmp (joined l)) (sym c.deref-then-is_long.ensures.value)
    (rising_rest c.part.new.self.first.items c.part.new.self.more.items (ordered_same _ _ _ _ c.requires.ordered c.part.ensures.all c.part.ensures.full))

pub returns-then-is_long-clause-ordered : goal.returns-then-is_long-clause-ordered
returns-then-is_long-clause-ordered g c =
    ordered_put c.put.result _ _ _ _ c.args.item c.requires.exact
    (ordered_same c.args.self.now.first.items c.part.new.self.first.items c.args.self.now.more.items c.part.new.self.more.items c.requires.ordered c.part.ensures.all c.part.ensures.full)
    c.put.ensures.placed c.put.ensures.err c.put.ensures.full

pub returns-clause-ordered : goal.returns-clause-ordered
returns-clause-ordered g c =
    ordered_put c.put-2.result _ _ _ _ c.args.item c.requires.exact c.requires.ordered c.put-2.ensures.placed c.put-2.ensures.err c.put-2.ensures.full
