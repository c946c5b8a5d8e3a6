use Rattle.std.proofs.Common.{ap}
use Rattle.rule_ast.specs.Plain.{plain_statement, plain_rule}
use Rattle.rule_check.proofs.gathering.shown_names.Goals as goal
use Rattle.rule_check.proofs.gathering.shown_names.Goals.{in-Rule, in-Show+in_ok-push_names-in-Show}
use Rattle.rule_check.proofs.Gathered.{shown_rule, shown_show}

pub loop-statement-preserved : goal.loop-statement-preserved
loop-statement-preserved c = elim c.match-statement.branch [
  | in-Rule w ↦ rw w.names-is (shown_rule c.args.statements.now c.loop-statement.statement-index c.statement-item.result c.loop-statement-test.true c.statement-item.is _ (plain_rule w.in-Rule.field-0) (ap plain_statement w.in-Rule.is) c.loop-statement.invariant)
  | in-Show+in_ok-push_names-in-Show w ↦ rw (w.names-is, w.in_ok-push_names-in-Show.ensures, w.deref.ensures.value)
      (shown_show c.args.statements.now c.loop-statement.statement-index c.statement-item.result c.loop-statement-test.true c.statement-item.is _ w.in-Show.more.items (ap plain_statement w.in-Show.is) c.loop-statement.invariant)
]
