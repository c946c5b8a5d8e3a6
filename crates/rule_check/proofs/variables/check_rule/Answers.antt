use Rattle.rule_ast.specs.Plain.{plain_rule}
use Rattle.rule_check.proofs.Named.{offender_named, rule_named}
use Rattle.rule_check.proofs.variables.check_rule.Goals as goal

pub name_at-requires : goal.name_at-requires
name_at-requires c = offender_named _ _ _ _ c.head_offender.ensures c.in-Some.is (rule_named (plain_rule c.args.rule.now) c.requires).heads

pub name_at-requires-in-Some-where_offender : goal.name_at-requires-in-Some-where_offender
name_at-requires-in-Some-where_offender c = offender_named _ _ _ _ c.where_offender.ensures c.in-Some-where_offender.is (rule_named (plain_rule c.args.rule.now) c.requires).wheres

pub name_at-requires-in-Some-or_offender : goal.name_at-requires-in-Some-or_offender
name_at-requires-in-Some-or_offender c = offender_named _ _ _ _ c.or_offender.ensures c.in-Some-or_offender.is (rule_named (plain_rule c.args.rule.now) c.requires).ors

pub name_at-requires-in-Some-not_offender : goal.name_at-requires-in-Some-not_offender
name_at-requires-in-Some-not_offender c = offender_named _ _ _ _ c.not_offender.ensures c.in-Some-not_offender.is (rule_named (plain_rule c.args.rule.now) c.requires).nots
