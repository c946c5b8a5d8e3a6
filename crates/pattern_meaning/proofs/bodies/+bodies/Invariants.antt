use Rattle.std.proofs.Common.{◌≡◌, ◌≤◌, ◌+◌, ◌*◌, map, length}
use Rattle.std.specs.List.{All}
use Rattle.rule_ast.specs.Plain.{plain_pattern}
use Rattle.pattern_meaning.specs.Climbing.{climbed}
use Rattle.pattern_meaning.specs.Found.{named_by}
use Rattle.pattern_meaning.specs.Words.{words_of}
use Rattle.pattern_meaning.specs.RuleRows.{rows}
use Rattle.pattern_meaning.proofs.ClimbingLaws.{size}
use Rattle.pattern_meaning.proofs.bodies.+bodies.Given as goal

abbrev pub decreases-pattern_rows : goal.decreases-pattern_rows
decreases-pattern_rows l = 3 * size (plain_pattern l.pattern.now) + 1

abbrev pub decreases-first_rows : goal.decreases-first_rows
decreases-first_rows l = 3 * size (plain_pattern l.first.now)

abbrev pub decreases-operand_rows : goal.decreases-operand_rows
decreases-operand_rows l = 3 * size (plain_pattern l.operand.now) + 2

abbrev pub decreases-rows_over : goal.decreases-rows_over
decreases-rows_over l = 3 * size (plain_pattern l.whole.now)

-- what the way so far makes of the rows of what is left
abbrev pub invariant-pattern_rows-loop-left : goal.invariant-pattern_rows-loop-left
invariant-pattern_rows-loop-left l =
    (climbed (named_by (words_of l.found)) (map (λ p. plain_pattern p.now) l.spine.items) (rows (named_by (words_of l.found)) (plain_pattern l.first)) ≡ rows (named_by (words_of l.found)) (plain_pattern l.pattern))
    × All (λ p. size (plain_pattern p.now) ≤ size (plain_pattern l.pattern)) l.spine.items
    × (size (plain_pattern l.first) ≤ size (plain_pattern l.pattern))

abbrev pub decreases-pattern_rows-loop-left : goal.decreases-pattern_rows-loop-left
decreases-pattern_rows-loop-left l = size (plain_pattern l.first)

-- what the rest of the way makes of the rows in hand
abbrev pub invariant-pattern_rows-loop-whole : goal.invariant-pattern_rows-loop-whole
invariant-pattern_rows-loop-whole l =
    (climbed (named_by (words_of l.found)) (map (λ p. plain_pattern p.now) l.spine.items) l.rows.items ≡ rows (named_by (words_of l.found)) (plain_pattern l.pattern))
    × All (λ p. size (plain_pattern p.now) ≤ size (plain_pattern l.pattern)) l.spine.items

abbrev pub decreases-pattern_rows-loop-whole : goal.decreases-pattern_rows-loop-whole
decreases-pattern_rows-loop-whole l = length l.spine.items
