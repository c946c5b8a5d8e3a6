use Rattle.std.proofs.Common.{rules, arith}
use Rattle.rule_lexer.specs.declared.tokens.Word.TheVariants.{Equals, During, Starts, Within, Finishes}
use Rattle.rule_lexer.proofs.WordLaws.{word_read}
use Rattle.rule_lexer.proofs.words.reserved.Goals as goal

pub returns-in-EQUALS : goal.returns-in-EQUALS
returns-in-EQUALS c = word_read c.args.bytes.now Equals (omega arith) (search rules)

pub returns-in-DURING : goal.returns-in-DURING
returns-in-DURING c = word_read c.args.bytes.now During (omega arith) (search rules)

pub returns-in-STARTS : goal.returns-in-STARTS
returns-in-STARTS c = word_read c.args.bytes.now Starts (omega arith) (search rules)

pub returns-in-WITHIN : goal.returns-in-WITHIN
returns-in-WITHIN c = word_read c.args.bytes.now Within (omega arith) (search rules)

pub returns-in-FINISHES : goal.returns-in-FINISHES
returns-in-FINISHES c = word_read c.args.bytes.now Finishes (omega arith) (search rules)
