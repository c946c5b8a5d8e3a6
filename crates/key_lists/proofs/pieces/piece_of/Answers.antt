use Rattle.std.proofs.Common.{rules}
use Rattle.std.proofs.lemmas.Fn.{always_returns_same}
use Rattle.key_lists.proofs.Beginning.{starts, partitioned, is_cut}
use Rattle.key_lists.proofs.pieces.piece_of.Goals as goal

pub returns : goal.returns
returns g c =
    let q = g.P.Probe.like c.args.probe.now in
    is_cut c.requires.exact q c.args.more.now c.requires.full c.requires.rising c.partition_point.result c.partition_point.ensures.bound
    (c.partition_point.ensures.partitioned (starts c.requires.exact q) (always_returns_same _ _ _ (λ a r p called. (search rules, search rules)))
    (partitioned c.requires.exact q c.args.more.now c.requires.full c.requires.rising))
