use Rattle.std.proofs.Common.{◌≡◌, drop, map}
use Rattle.pattern_meaning.specs.Found.{head_detection, with_all}
use Rattle.pattern_meaning.specs.Words.{words_of}
use Rattle.pattern_meaning.proofs.evaluating.push_heads.Given as goal

-- those that are left make of what was found all that there is to find
abbrev pub invariant-loop-row : goal.invariant-loop-row
invariant-loop-row l =
    with_all (words_of l.found) (map (head_detection l.head) (drop l.row-index l.rows))
    ≡ with_all (words_of l.initial.found) (map (head_detection l.head) l.rows)
