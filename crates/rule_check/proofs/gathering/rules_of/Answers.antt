use Rattle.std.proofs.Common.{ap}
use Rattle.rule_ast.specs.Plain.{plain_statement}
use Rattle.rule_check.proofs.Gathered.{rules_rule, rules_show}
use Rattle.rule_check.proofs.gathering.rules_of.Goals as goal
use Rattle.rule_check.proofs.gathering.rules_of.Goals.{in-Rule+in_ok-push-in-Rule, in-Show}

pub loop-statement-preserved : goal.loop-statement-preserved
loop-statement-preserved c = elim c.match-statement.branch [
  | in-Rule+in_ok-push-in-Rule w ↦ rw (w.rules-is, w.in_ok-push-in-Rule.ensures.items)
      (rules_rule c.args.statements.now c.loop-statement.statement-index c.statement-item.result c.loop-statement-test.true c.statement-item.is _ _ (ap plain_statement w.in-Rule.is) c.loop-statement.invariant)
  | in-Show w ↦ rw w.rules-is
      (rules_show c.args.statements.now c.loop-statement.statement-index c.statement-item.result c.loop-statement-test.true c.statement-item.is _ w.in-Show.field-0.items (ap plain_statement w.in-Show.is) c.loop-statement.invariant)
]
