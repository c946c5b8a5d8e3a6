use Rattle.std.proofs.Common.{◌∙◌, ap, sym}
use Rattle.rule_ast.specs.Plain.{plain_statement}
use Rattle.drill_lines.specs.OpenNames.{open_in}
use Rattle.drill_lines.proofs.Naming.{rule_more, show_more, body_more}
use Rattle.drill_lines.proofs.kinds.kinds_beside.Goals as goal
use Rattle.drill_lines.proofs.kinds.kinds_beside.Goals.{in-Rule+in_ok-add_kinds-in-Rule, in-Show}

pub loop-statement-preserved : goal.loop-statement-preserved
loop-statement-preserved c =
    let statements = c.args.statements.now in
    let at = c.loop-statement.statement-index in
    let one = c.statement-item in
    let inside = c.loop-statement-test.true in
    elim c.match-statement.branch [
      | in-Rule+in_ok-add_kinds-in-Rule w ↦
          let more = rule_more statements at one.result inside one.is _ (ap plain_statement w.in-Rule.is) in
          w.kinds-is ∙ w.in_ok-add_kinds-in-Rule.ensures ∙ body_more _ _ _ _ _ more c.loop-statement.invariant
      | in-Show w ↦
          let same = show_more statements at one.result inside one.is _ (ap plain_statement w.in-Show.is) in
          w.kinds-is ∙ c.loop-statement.invariant ∙ ap (open_in c.args.heads.now) (sym same)
    ]
