use Rattle.std.proofs.Common.{ap}
use Rattle.rule_ast.specs.Plain.{plain_statement, plain_rule}
use Rattle.rule_check.proofs.gathering.has_show.Goals as goal
use Rattle.rule_check.proofs.Gathered.{none_shown, one_shown}

pub returns-in-Show : goal.returns-in-Show
returns-in-Show c = one_shown c.args.statements.now c.loop-statement.statement-index c.statement-item.result c.loop-statement-test.true c.statement-item.is c.in-Show.field-0.items (ap plain_statement c.in-Show.is) c.loop-statement.invariant

pub loop-statement-preserved : goal.loop-statement-preserved
loop-statement-preserved c = none_shown c.args.statements.now c.loop-statement.statement-index c.statement-item.result c.loop-statement-test.true c.statement-item.is (plain_rule c.in-Rule.field-0) (ap plain_statement c.in-Rule.is) c.loop-statement.invariant
