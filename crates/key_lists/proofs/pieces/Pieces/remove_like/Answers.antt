use Rattle.std.proofs.Common.{◌-◌, ◌∙◌, ◌++◌, ap, sym, subst, arith}
use Rattle.ordered_lists.specs.Canon.{Rising}
use Rattle.key_lists.specs.Pieces.{joined, all_in, AllFull, IsCut}
use Rattle.key_lists.proofs.Parting.{but_local, rising_first, rising_rest, rising_piece, cut_first, cut_more, gone, full_gone, full_set, none_full, ordered_but}
use Rattle.key_lists.proofs.pieces.Pieces.remove_like.Goals as goal

pub piece_of-number-requires-clause-rising : goal.piece_of-number-requires-clause-rising
piece_of-number-requires-clause-rising g c =
    subst (λ l. Rising g.T.Ord.cmp (joined l)) (sym c.deref.ensures.value) (rising_rest c.args.self.now.first.items c.args.self.now.more.items c.requires.ordered)

pub remove_like-requires-clause-rising : goal.remove_like-requires-clause-rising
remove_like-requires-clause-rising g c = rising_first c.args.self.now.first.items c.args.self.now.more.items c.requires.ordered

pub take_out-requires-clause-rising : goal.take_out-requires-clause-rising
take_out-requires-clause-rising g c =
    let le = (subst (λ l. IsCut g.T.Ord.cmp (g.P.Probe.like c.args.probe.now) l c.piece_of-number.result) c.deref.ensures.value c.piece_of-number.ensures).within in
    rising_piece c.args.self.now.first.items c.args.self.now.more.items c.requires.ordered (c.piece_of-number.result - 1) c.index_mut.result.now
    (omega (arith, le, c.if-number-eq0.false)) c.index_mut.ensures.value

pub returns-then-number-eq0-clause-rest : goal.returns-then-number-eq0-clause-rest
returns-then-number-eq0-clause-rest g c =
    let q = g.P.Probe.like c.args.probe.now in
    cut_first c.requires.exact q _ (but_local c.requires.exact q) c.args.self.now.first.items c.remove_like.new.items.items c.args.self.now.more.items
    c.piece_of-number.result (subst (λ l. IsCut g.T.Ord.cmp q l c.piece_of-number.result) c.deref.ensures.value c.piece_of-number.ensures) c.if-number-eq0.true
    c.remove_like.ensures

pub returns-then-number-eq0-clause-ordered : goal.returns-then-number-eq0-clause-ordered
returns-then-number-eq0-clause-ordered g c =
    ordered_but c.args.self.now.first.items c.remove_like.new.items.items c.args.self.now.more.items c.args.self.now.more.items (g.P.Probe.like c.args.probe.now)
    c.requires.exact c.requires.ordered (returns-then-number-eq0-clause-rest g c) c.requires.ordered.full

pub returns-then-take_out-clause-rest : goal.returns-then-take_out-clause-rest
returns-then-take_out-clause-rest g c =
    let q = g.P.Probe.like c.args.probe.now in
    ap (λ l. c.args.self.now.first.items ++ l) c.join_beside.ensures.all
    ∙ cut_more c.requires.exact q _ (but_local c.requires.exact q) c.args.self.now.first.items c.args.self.now.more.items c.piece_of-number.result
    (c.piece_of-number.result - 1) c.index_mut.result.now c.take_out.new.piece c.requires.ordered
    (subst (λ l. IsCut g.T.Ord.cmp q l c.piece_of-number.result) c.deref.ensures.value c.piece_of-number.ensures) (omega (arith, c.if-number-eq0.false))
    c.index_mut.ensures.value c.take_out.ensures.rest

pub returns-then-take_out-clause-ordered : goal.returns-then-take_out-clause-ordered
returns-then-take_out-clause-ordered g c =
    ordered_but c.args.self.now.first.items c.args.self.now.first.items c.args.self.now.more.items c.join_beside.new.more.items (g.P.Probe.like c.args.probe.now)
    c.requires.exact c.requires.ordered (returns-then-take_out-clause-rest g c) c.join_beside.ensures.full

pub join_beside-requires : goal.join_beside-requires
join_beside-requires g c = record {
  full = full_set c.args.self.now.more.items (c.piece_of-number.result - 1) c.take_out.new.piece c.requires.ordered.full (c.take_out.ensures.some ∙ c.if-take_out.true);
}

pub returns-else-take_out-clause-rest : goal.returns-else-take_out-clause-rest
returns-else-take_out-clause-rest g c =
    let q = g.P.Probe.like c.args.probe.now in
    let first = c.args.self.now.first.items in
    let vs = c.args.self.now.more.items in
    let j = c.piece_of-number.result - 1 in
    ap (all_in first) (c.trim_list.ensures ∙ c.remove.ensures.items)
    ∙ ap (λ l. first ++ l) (gone vs j c.take_out.new.piece (none_full c.take_out.new.piece.items (c.take_out.ensures.some ∙ c.if-take_out.false)))
    ∙ cut_more c.requires.exact q _ (but_local c.requires.exact q) first vs c.piece_of-number.result j c.index_mut.result.now c.take_out.new.piece
    c.requires.ordered (subst (λ l. IsCut g.T.Ord.cmp q l c.piece_of-number.result) c.deref.ensures.value c.piece_of-number.ensures)
    (omega (arith, c.if-number-eq0.false)) c.index_mut.ensures.value c.take_out.ensures.rest

pub returns-else-take_out-clause-ordered : goal.returns-else-take_out-clause-ordered
returns-else-take_out-clause-ordered g c =
    ordered_but c.args.self.now.first.items c.args.self.now.first.items c.args.self.now.more.items c.trim_list.new.items.items (g.P.Probe.like c.args.probe.now)
    c.requires.exact c.requires.ordered (returns-else-take_out-clause-rest g c)
    (subst AllFull (sym (c.trim_list.ensures ∙ c.remove.ensures.items))
    (full_gone c.args.self.now.more.items (c.piece_of-number.result - 1) c.take_out.new.piece c.requires.ordered.full))
