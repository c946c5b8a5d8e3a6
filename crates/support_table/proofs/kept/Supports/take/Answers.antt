use Rattle.std.proofs.Common.{◌≡◌, arith}
use Rattle.support_table.specs.Supports.{count_of}
use Rattle.support_table.proofs.Counting.{counts_none}
use Rattle.support_table.proofs.kept.Supports.take.Goals as goal

no_count : (c : goal.In-None) → count_of c.args.self.now c.args.step c.args.row.now ≡ 0
no_count c = (counts_none c.args.self.now c.args.step c.args.row.now c.in-None.ensures).this

pub returns-in-None-clause-counts : goal.returns-in-None-clause-counts
returns-in-None-clause-counts c = absurd (omega (arith, no_count c, c.requires.enough, c.requires.some))

pub returns-in-None-clause-change : goal.returns-in-None-clause-change
returns-in-None-clause-change c = absurd (omega (arith, no_count c, c.requires.enough, c.requires.some))
