use Rattle.std.proofs.Common.{[], map, take}
use Rattle.rule_ast.specs.Plain.{plain_statement}
use Rattle.rule_grammar.specs.Tokens.{statements}
use Rattle.rule_writer.specs.Forms.{text_form}
use Rattle.rule_writer.specs.Writes.{Appends}
use Rattle.rule_writer.proofs.statements.rules_text.Given as goal

-- the statements before this one are written
abbrev pub invariant-loop-statement : goal.invariant-loop-statement
invariant-loop-statement l = Appends [] l.out.items (statements (text_form (map plain_statement (take l.statement-index l.rules.statements.items))))
