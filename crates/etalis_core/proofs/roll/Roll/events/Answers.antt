use Rattle.std.proofs.Common.{◌≡◌, ◌∙◌, map, rules}
use Rattle.std.specs.Map.Iter.{deref}
use Rattle.std.proofs.lemmas.Map.Iter.{iter_end}
use Rattle.etalis_core.proofs.roll.Roll.events.Goals as goal

pub returns : goal.returns
returns c = λ late history r.
    let all : map deref c.loop-event.yielded ≡ c.args.self.now.events.keys = search (rules, iter_end) in
    c.loop-event.invariant ∙ all ∙ r.events
