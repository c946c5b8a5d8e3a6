use Rattle.std.proofs.Common.{◌∙◌}
use Rattle.revision.proofs.IdleLaws.{passes}
use Rattle.revision.proofs.parts.Parts.pass_step.Goals as goal

pub returns-clause-passes : goal.returns-clause-passes
returns-clause-passes c = λ k left units s g here idle.
    let me = c.args.self.now in
    let ready = g.ready in
    passes me k left units g s here idle c.clear_rows.new.changed c.start.result c.start.ensures c.clear_rows.ensures.cleared
    c.clear_rows.ensures.others
    (record {
      ways = ready.ways;
      planned = ready.planned;
      indexed = ready.indexed;
      stored = ready.stored;
      listed = c.clear_rows.ensures.lists ∙ ready.listed;
      few = ready.few;
      none = ready.none;
    })
