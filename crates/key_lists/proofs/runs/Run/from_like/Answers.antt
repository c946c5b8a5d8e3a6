use Rattle.std.proofs.Common.{◌≡◌, ◌-◌, ◌∙◌, ap, drop, sym, subst, arith}
use Rattle.ordered_lists.specs.Canon.{Rising}
use Rattle.key_lists.proofs.Parting.{upward, rising_first, rising_rest, rising_piece, upward_first, upward_more}
use Rattle.key_lists.proofs.runs.Run.from_like.Goals as goal

pub piece_of-number-requires-clause-rising : goal.piece_of-number-requires-clause-rising
piece_of-number-requires-clause-rising g c = rising_rest c.args.self.now.first.now c.args.self.now.more.now c.requires.run

pub place_from_like-requires-clause-rising : goal.place_from_like-requires-clause-rising
place_from_like-requires-clause-rising g c = rising_first c.args.self.now.first.now c.args.self.now.more.now c.requires.run

pub returns-then-number-eq0 : goal.returns-then-number-eq0
returns-then-number-eq0 g c =
    upward_first c.requires.exact (g.P.Probe.like c.args.probe.now) c.args.self.now.first.now c.args.self.now.more.now c.piece_of-number.result
    c.place_from_like.result c.piece_of-number.ensures (omega (arith, c.if-number-eq0.true)) c.place_from_like.ensures.rest

pub place_from_like-requires-2-clause-rising : goal.place_from_like-requires-2-clause-rising
place_from_like-requires-2-clause-rising g c = let le = c.piece_of-number.ensures.within in
    subst (λ l. Rising g.T.Ord.cmp l) (ap (λ v. v.items) c.index-self-number.is ∙ sym c.deref.ensures.value)
    (rising_piece c.args.self.now.first.now c.args.self.now.more.now c.requires.run (c.piece_of-number.result - 1) c.index-self-number.result
    (omega (arith, le, c.if-number-eq0.false)) c.index-self-number.is)

pub returns : goal.returns
returns g c =
    let q = g.P.Probe.like c.args.probe.now in
    upward_more c.requires.exact q c.args.self.now.first.now c.args.self.now.more.now c.piece_of-number.result (c.piece_of-number.result - 1)
    c.place_from_like-2.result c.index-self-number.result c.requires.run c.piece_of-number.ensures (omega (arith, c.if-number-eq0.false)) c.index-self-number.is
    (subst (λ l. drop c.place_from_like-2.result l ≡ upward c.requires.exact q l) (c.deref.ensures.value ∙ sym (ap (λ v. v.items) c.index-self-number.is)) c.place_from_like-2.ensures.rest)
