use Rattle.std.proofs.Common.{◌-◌, arith}
use Rattle.key_lists.proofs.Parting.{place_local, same_local, rising_first, rising_piece, cut_first, cut_more, on_err}
use Rattle.key_lists.proofs.pieces.Pieces.put.Goals as goal

pub insert_unique-requires-clause-rising : goal.insert_unique-requires-clause-rising
insert_unique-requires-clause-rising g c = rising_first c.args.self.now.first.items c.args.self.now.more.items c.requires.ordered

pub insert_unique-requires-else-number-eq0-clause-rising : goal.insert_unique-requires-else-number-eq0-clause-rising
insert_unique-requires-else-number-eq0-clause-rising g c = let le = c.requires.cut.within in
    rising_piece c.args.self.now.first.items c.args.self.now.more.items c.requires.ordered (c.args.number - 1) c.index_mut.result.now
    (omega (arith, le, c.if-number-eq0.false)) c.index_mut.ensures.value

pub returns-in_err-insert_unique-2-clause-err : goal.returns-in_err-insert_unique-2-clause-err
returns-in_err-insert_unique-2-clause-err g c = on_err c.from_residual-in_err-insert_unique-2.result _
    (cut_more c.requires.exact c.args.item (λ l. l) (same_local c.requires.exact c.args.item) c.args.self.now.first.items c.args.self.now.more.items c.args.number
    (c.args.number - 1) c.index_mut.result.now c.insert_unique-else-number-eq0.new.items c.requires.ordered c.requires.cut
    (omega (arith, c.if-number-eq0.false)) c.index_mut.ensures.value c.in_err-insert_unique-2.ensures.err)

pub returns-in_ok-insert_unique-clause-placed : goal.returns-in_ok-insert_unique-clause-placed
returns-in_ok-insert_unique-clause-placed g c =
    cut_first c.requires.exact c.args.item _ (place_local c.requires.exact c.args.item) c.args.self.now.first.items c.insert_unique.new.items.items
    c.args.self.now.more.items c.args.number c.requires.cut (omega (arith, c.if-number-eq0.true)) c.in_ok-insert_unique.ensures.placed

pub returns-in_ok-insert_unique-2-clause-placed : goal.returns-in_ok-insert_unique-2-clause-placed
returns-in_ok-insert_unique-2-clause-placed g c =
    cut_more c.requires.exact c.args.item _ (place_local c.requires.exact c.args.item) c.args.self.now.first.items c.args.self.now.more.items c.args.number
    (c.args.number - 1) c.index_mut.result.now c.insert_unique-else-number-eq0.new.items c.requires.ordered c.requires.cut
    (omega (arith, c.if-number-eq0.false)) c.index_mut.ensures.value c.in_ok-insert_unique-2.ensures.placed
