use Rattle.std.proofs.Common.{rules}
use Rattle.rule_writer.proofs.StatementArms.{next_statement}
use Rattle.rule_writer.proofs.statements.rules_text.Goals as goal

pub loop-statement-preserved : goal.loop-statement-preserved
loop-statement-preserved c =
    next_statement c.args.rules.now.statements.items c.loop-statement.statement-index c.statement-item.result (search rules) (search rules) c.loop-statement.invariant c.in_ok-write_statement.ensures
