use Rattle.std.proofs.Common.{Err, ap}
use Rattle.rule_ast.specs.Plain.{plain_rules}
use Rattle.parcel_watch.proofs.WatchLaws.{too_many}
use Rattle.parcel_watch.proofs.watch.Watch.new.Goals as goal

pub returns-in-Err-TooMany-clause-refused : goal.returns-in-Err-TooMany-clause-refused
returns-in-Err-TooMany-clause-refused c = λ rules holds sound fits.
    absurd (too_many c.args.text.now (plain_rules c.in_ok-checked.checked) rules c.in_ok-checked.ensures.rules.0 holds fits (c.in-Err-TooMany.ensures.too_many (ap Err c.in-Err-TooMany.field-0-is)))
