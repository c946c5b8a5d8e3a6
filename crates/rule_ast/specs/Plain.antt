-- The plain form of conditions, patterns, rules and statements.
use Rattle.std.specs.Prelude.{List, map}
use Rattle.rule_ast.specs.declared.conditions.Cond.{Cond, Calc', Compare', AndAlso', OrElse', Not'}
use Rattle.rule_ast.specs.declared.conditions.Cond.TheVariants as cond_made
use Rattle.rule_ast.specs.declared.patterns.Pattern.{Pattern, Both', Either', Where', Exact', Within'}
use Rattle.rule_ast.specs.declared.patterns.Pattern as pattern_made
use Rattle.rule_ast.specs.declared.patterns.Pattern.TheVariants as pattern_variants
use Rattle.rule_ast.specs.declared.statements.Rule.{Rule}
use Rattle.rule_ast.specs.declared.statements.Statement.{Statement}
use Rattle.rule_ast.specs.declared.statements.Statement.TheVariants as statement_variants
use Rattle.rule_ast.specs.declared.statements.RuleSet.{RuleSet}
use Rattle.rule_ast.specs.Trees.{PlainCond, Value, Calculate, Compare, AndAlso, OrElse, Negate, PlainPattern, Atom, Both, Either, Where, Exact, Within, Not, PlainRule, PlainStatement, Clause, Show}

abbrev pub plain_cond : Cond → PlainCond
plain_cond (cond_made.Value p) = Value p
plain_cond (Calc' calc p l q r) = Calculate calc (plain_cond l) (plain_cond r)
plain_cond (Compare' cmp p l q r) = Compare cmp (plain_cond l) (plain_cond r)
plain_cond (AndAlso' p l q r) = AndAlso (plain_cond l) (plain_cond r)
plain_cond (OrElse' p l q r) = OrElse (plain_cond l) (plain_cond r)
plain_cond (Not' p c) = Negate (plain_cond c)

abbrev pub plain_pattern : Pattern → PlainPattern
plain_pattern (pattern_variants.Atom a) = Atom a
plain_pattern (Both' op p l q r) = Both op (plain_pattern l) (plain_pattern r)
plain_pattern (Either' p l q r) = Either (plain_pattern l) (plain_pattern r)
plain_pattern (Where' p t c) = Where (plain_pattern t) (plain_cond c)
plain_pattern (Exact' p t q) = Exact (plain_pattern t) q
plain_pattern (Within' p t q) = Within (plain_pattern t) q
plain_pattern (pattern_made.Not' p i q b r a) = Not (plain_pattern i) (plain_pattern b) (plain_pattern a)

abbrev pub plain_rule : Rule → PlainRule
plain_rule r = record { head = r.head; body = plain_pattern r.body; vars = r.vars.items }

abbrev pub plain_statement : Statement → PlainStatement
plain_statement (statement_variants.Rule r) = Clause (plain_rule r)
plain_statement (statement_variants.Show names) = Show names.items

abbrev pub plain_rules : RuleSet → List PlainStatement
plain_rules r = map plain_statement r.statements.items
