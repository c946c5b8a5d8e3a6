use Rattle.std.proofs.Common.{Some, rules}
use Rattle.change_meaning.specs.Caps.{fitting}
use Rattle.pattern_meaning.specs.PatternRows.{head_row}
use Rattle.step_work.proofs.reading.note_head.Goals as goal

pub returns : goal.returns
returns c = c.note_each.ensures (λ x. fitting c.args.cap (Some (head_row c.args.head.now x))) (λ x r k. search rules)
