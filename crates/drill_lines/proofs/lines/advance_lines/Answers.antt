use Rattle.std.proofs.Common.{rules, ◌≡◌, ◌+◌, ◌∷◌, ◌++◌, [], decimal}
use Rattle.drill_lines.proofs.Made.{advance_more}
use Rattle.drill_lines.proofs.lines.advance_lines.Goals as goal

pub loop-count-preserved : goal.loop-count-preserved
loop-count-preserved c =
    let written : c.push.new.self.items ≡ ((c.loop-count.out.items ++ 33 ∷ 32 ∷ []) ++ decimal (c.loop-count.count + 1)) ++ 10 ∷ [] =
    search rules in
    rw written (advance_more c.args.seed c.loop-count.count c.loop-count.out.items c.loop-count.invariant)
