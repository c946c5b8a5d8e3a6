use Rattle.std.proofs.Common.{Err, ap}
use Rattle.rule_ast.specs.Plain.{plain_rules}
use Rattle.etalis_cli.proofs.RuleLaws.{too_great}
use Rattle.etalis_cli.proofs.accepting.accept.Goals as goal

pub returns-in-Err-TooMany-clause-judged : goal.returns-in-Err-TooMany-clause-judged
returns-in-Err-TooMany-clause-judged c = too_great c.args.file.now (plain_rules c.in_ok-rules.rules) c.in_ok-rules.ensures (c.in-Err-TooMany.ensures.too_many (ap Err c.in-Err-TooMany.field-0-is))
