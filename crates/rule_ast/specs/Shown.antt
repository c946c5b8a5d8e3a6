-- The names of the `show` statements.
use Rattle.std.specs.Prelude.{List, [], ◌∷◌, ◌++◌}
use Rattle.event_model.specs.declared.atoms.NameArity.{NameArity}
use Rattle.rule_ast.specs.Trees.{PlainStatement, Clause, Show}

-- one statement behind the other
abbrev pub shown_names : List PlainStatement → List NameArity
shown_names [] = []
shown_names (Clause r ∷ statements) = shown_names statements
shown_names (Show names ∷ statements) = names ++ shown_names statements
