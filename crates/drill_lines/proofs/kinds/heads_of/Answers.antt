use Rattle.std.proofs.Common.{◌∙◌, ap, sym}
use Rattle.rule_ast.specs.Plain.{plain_statement}
use Rattle.drill_lines.proofs.Naming.{heads_in, rule_more, show_more, head_more}
use Rattle.drill_lines.proofs.kinds.heads_of.Goals as goal
use Rattle.drill_lines.proofs.kinds.heads_of.Goals.{in-Rule+in_ok-of-in-Rule+in_ok-add-in-Rule, in-Show}

pub loop-statement-preserved : goal.loop-statement-preserved
loop-statement-preserved c =
    let statements = c.args.statements.now in
    let at = c.loop-statement.statement-index in
    let one = c.statement-item in
    let inside = c.loop-statement-test.true in
    elim c.match-statement.branch [
      | in-Rule+in_ok-of-in-Rule+in_ok-add-in-Rule w ↦
          let more = rule_more statements at one.result inside one.is _ (ap plain_statement w.in-Rule.is) in
          w.heads-is ∙ w.in_ok-add-in-Rule.ensures ∙ head_more _ _ _ _ _ more c.loop-statement.invariant w.in_ok-of-in-Rule.ensures
      | in-Show w ↦
          let same = show_more statements at one.result inside one.is _ (ap plain_statement w.in-Show.is) in
          w.heads-is ∙ c.loop-statement.invariant ∙ ap heads_in (sym same)
    ]
