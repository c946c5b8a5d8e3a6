use Rattle.std.proofs.Common.{rules}
use Rattle.std.proofs.lemmas.Fn.{always_returns_same}
use Rattle.key_lists.proofs.Places.{at_found, at_end}
use Rattle.key_lists.proofs.groups.place_from_like.Goals as goal

pub returns-in-Ok-clause-rest : goal.returns-in-Ok-clause-rest
returns-in-Ok-clause-rest g c =
    let by = c.in-Ok.ensures.position (λ y. g.T.Ord.cmp y (g.P.Probe.like c.args.probe.now)) (always_returns_same _ _ _ (λ a r q called. (search rules, search rules))) in
    (at_found c.requires.exact (g.P.Probe.like c.args.probe.now) _ c.requires.rising _ c.in-Ok.ensures.bound by).1

pub returns-in-Err-clause-rest : goal.returns-in-Err-clause-rest
returns-in-Err-clause-rest g c =
    let by = c.in-Err.ensures.position (λ y. g.T.Ord.cmp y (g.P.Probe.like c.args.probe.now)) (always_returns_same _ _ _ (λ a r q called. (search rules, search rules))) in
    (at_end c.requires.exact (g.P.Probe.like c.args.probe.now) _ c.requires.rising _ c.in-Err.ensures.bound by).1
