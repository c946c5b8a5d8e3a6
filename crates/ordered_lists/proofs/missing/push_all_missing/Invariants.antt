use Rattle.std.proofs.Common.{◌≡◌, ◌++◌, drop}
use Rattle.ordered_lists.specs.Members.{without}
use Rattle.ordered_lists.proofs.missing.push_all_missing.Given as goal

abbrev pub invariant-loop-item : goal.invariant-loop-item
invariant-loop-item g l = l.initial.out.items ++ without g.T.Ord.cmp l.these l.others ≡ l.out.items ++ without g.T.Ord.cmp (drop l.item-index l.these) l.others
