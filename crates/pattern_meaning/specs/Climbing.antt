-- The rows of a pattern, from those of the parts on its left.
use Rattle.std.specs.Prelude.{Option, Some, None, List, [], ◌∷◌, ◌++◌}
use Rattle.std.specs.List.{filter}
use Rattle.event_model.specs.declared.atoms.NameArity.{NameArity}
use Rattle.ev_bind.specs.declared.rows.Row.{Row}
use Rattle.rule_ast.specs.Trees.{PlainPattern, Atom, Both, Either, Where, Exact, Within, Not}
use Rattle.term_eval.specs.Values.{holds}
use Rattle.pattern_meaning.specs.PatternRows.{rows_of}
use Rattle.pattern_meaning.specs.RuleRows.{is_long, is_short, joined_rows, rows}

-- the part that a pattern begins with; an atom and a Not have none
abbrev pub left_part : PlainPattern → Option PlainPattern
left_part (Atom a) = None
left_part (Both op left right) = Some left
left_part (Either left right) = Some left
left_part (Where of c) = Some of
left_part (Exact of q) = Some of
left_part (Within of q) = Some of
left_part (Not inner before after) = None

-- the rows of a pattern, from those of its left part
abbrev pub rows_over : (NameArity → List Row) → PlainPattern → List Row → List Row
rows_over named (Atom a) xs = xs
rows_over named (Both op left right) xs = joined_rows op xs (rows named right)
rows_over named (Either left right) xs = rows_of (xs ++ rows named right)
rows_over named (Where of c) xs = rows_of (filter (λ r. holds c r.binding) xs)
rows_over named (Exact of q) xs = rows_of (filter (is_long q) xs)
rows_over named (Within of q) xs = rows_of (filter (is_short q) xs)
rows_over named (Not inner before after) xs = xs

-- the rows of the first of these patterns, of which each is the left part of the one before it, from those of the last one's left part
abbrev pub climbed : (NameArity → List Row) → List PlainPattern → List Row → List Row
climbed named [] xs = xs
climbed named (p ∷ ps) xs = rows_over named p (climbed named ps xs)
