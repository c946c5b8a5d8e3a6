use Rattle.rule_ast.specs.Plain.{plain_rules}
use Rattle.parcel_watch.proofs.WatchLaws.{not_syntax, not_limit, sound_held}
use Rattle.parcel_watch.proofs.watch.read.Goals as goal

pub returns-in-Err-Syntax-clause-refused : goal.returns-in-Err-Syntax-clause-refused
returns-in-Err-Syntax-clause-refused c = λ rules holds sound.
    absurd (not_syntax rules c.in-Err-Syntax.field-0 _ c.in-Err-Syntax.field-0-is (c.in-Err-Syntax.ensures.only rules holds))

pub returns-in-Err-Limit-clause-refused : goal.returns-in-Err-Limit-clause-refused
returns-in-Err-Limit-clause-refused c = λ rules holds sound.
    absurd (not_limit rules c.in-Err-Limit.field-0 _ _ c.in-Err-Limit.field-0-is (c.in-Err-Limit.ensures.only rules holds))

pub returns-in_default : goal.returns-in_default
returns-in_default c = record {
  rules = tt;
  refused = λ rules holds sound.
      absurd (sound_held (plain_rules c.in-Ok.rules) rules c.in-Err.fault (c.in-Ok.ensures.only rules holds) c.in-Err.ensures.exact c.in_default.not-Memory sound);
}
