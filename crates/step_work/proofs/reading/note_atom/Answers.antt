use Rattle.std.proofs.Common.{rules}
use Rattle.change_meaning.specs.Caps.{fitting}
use Rattle.change_meaning.specs.Courses.{leaf_row}
use Rattle.step_work.proofs.reading.note_atom.Goals as goal

pub returns : goal.returns
returns c = c.note_each.ensures (λ x. fitting c.args.cap (leaf_row c.args.pat.now x)) (λ x r k. search rules)
