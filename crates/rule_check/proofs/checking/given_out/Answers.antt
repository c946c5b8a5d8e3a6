use Rattle.std.proofs.Common.{map, sym, ◌∙◌}
use Rattle.rule_ast.specs.Plain.{plain_statement}
use Rattle.rule_check.proofs.Verdicts.{outputs_shown, outputs_heads}
use Rattle.rule_check.proofs.checking.given_out.Goals as goal
use Rattle.rule_check.proofs.checking.given_out.Goals.{then-not-has_show+in_ok-push_names, else-not-has_show}

pub returns : goal.returns
returns c = c.in_ok-in_order.ensures ∙ (elim c.if-not-has_show.branch [
  | then-not-has_show+in_ok-push_names w ↦ rw (w.names-is, w.in_ok-push_names.ensures)
      (outputs_heads (map plain_statement c.args.statements.now) _ _ (sym w.if-not-has_show.ensures) c.requires.shown (w.as_slice.ensures ∙ c.requires.heads))
  | else-not-has_show w ↦ rw w.names-is (outputs_shown (map plain_statement c.args.statements.now) _ (sym w.if-not-has_show.ensures) c.requires.shown)
])
