use Rattle.std.proofs.Common.{rules}
use Rattle.change_meaning.specs.Caps.{fitting}
use Rattle.rule_ast.specs.Plain.{plain_cond}
use Rattle.term_eval.specs.Values.{holds}
use Rattle.change_meaning.specs.Courses.{passing}
use Rattle.step_work.proofs.reading.note_where.Goals as goal

pub returns : goal.returns
returns c = c.note_each.ensures (λ x. fitting c.args.cap (passing (λ y. holds (plain_cond c.args.cond.now) y.binding) x))
    (λ x r k. search rules)
