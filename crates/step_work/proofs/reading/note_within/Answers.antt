use Rattle.std.proofs.Common.{rules}
use Rattle.change_meaning.specs.Caps.{fitting}
use Rattle.pattern_meaning.specs.RuleRows.{is_short}
use Rattle.change_meaning.specs.Courses.{passing}
use Rattle.step_work.proofs.reading.note_within.Goals as goal

pub returns : goal.returns
returns c = c.note_each.ensures (λ x. fitting c.args.cap (passing (is_short c.args.length) x)) (λ x r k. search rules)
