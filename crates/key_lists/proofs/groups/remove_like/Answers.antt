use Rattle.std.proofs.Common.{◌∙◌, rules}
use Rattle.std.proofs.lemmas.Fn.{always_returns_same}
use Rattle.key_lists.proofs.Places.{at_found, at_end}
use Rattle.key_lists.proofs.groups.remove_like.Goals as goal

pub returns-in-Ok : goal.returns-in-Ok
returns-in-Ok g c =
    let by = c.in-Ok.ensures.position (λ y. g.T.Ord.cmp y (g.P.Probe.like c.args.probe.now)) (always_returns_same _ _ _ (λ a r q called. (search rules, search rules))) in
    c.trim_list.ensures ∙ c.remove.ensures.items ∙ rw (← c.deref.ensures.value) (at_found c.requires.exact (g.P.Probe.like c.args.probe.now) _ (rw c.deref.ensures.value c.requires.rising) _ c.in-Ok.ensures.bound by).0

pub returns-in-Err : goal.returns-in-Err
returns-in-Err g c =
    let by = c.in-Err.ensures.position (λ y. g.T.Ord.cmp y (g.P.Probe.like c.args.probe.now)) (always_returns_same _ _ _ (λ a r q called. (search rules, search rules))) in
    rw (← c.deref.ensures.value) (at_end c.requires.exact (g.P.Probe.like c.args.probe.now) _ (rw c.deref.ensures.value c.requires.rising) _ c.in-Err.ensures.bound by).0
