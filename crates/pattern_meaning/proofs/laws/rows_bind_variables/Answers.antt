use Rattle.pattern_meaning.proofs.BoundLaws.{rows_bound, rules_bound, names_bound}
use Rattle.pattern_meaning.proofs.laws.rows_bind_variables.Goals as goal

pub returns : goal.returns
returns c = record { patterns = rows_bound; rules = rules_bound; names = names_bound }
