use Rattle.std.proofs.Common.{Some, rules}
use Rattle.change_meaning.specs.Caps.{fitting}
use Rattle.step_work.proofs.reading.note_same.Goals as goal

pub returns : goal.returns
returns c = c.note_each.ensures (λ x. fitting c.args.cap (Some x)) (λ x r k. search rules)
