use Rattle.std.proofs.Common.{◌*◌, ◌-◌, ◌+◌, length}
use Rattle.term_reader.specs.Readings.{ArgsSoFar}
use Rattle.term_reader.proofs.trees.+tree.Given as goal

abbrev pub decreases-arg_at : goal.decreases-arg_at
decreases-arg_at l = 4 * (17 - l.depth) + 3

abbrev pub decreases-args_at : goal.decreases-args_at
decreases-args_at l = 4 * (17 - l.depth)

abbrev pub decreases-named_at : goal.decreases-named_at
decreases-named_at l = 4 * (17 - l.depth) + 1

abbrev pub decreases-tree_at : goal.decreases-tree_at
decreases-tree_at l = 4 * (17 - l.depth) + 2

abbrev pub invariant-args_at-loop-args : goal.invariant-args_at-loop-args
invariant-args_at-loop-args l = ArgsSoFar l.bytes l.at l.depth l.args.items l.next

abbrev pub decreases-args_at-loop-args : goal.decreases-args_at-loop-args
decreases-args_at-loop-args l = 16 - length l.args.items
