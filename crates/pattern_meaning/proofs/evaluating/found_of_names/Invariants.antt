use Rattle.std.proofs.Common.{◌≡◌, ◌++◌, drop}
use Rattle.std.specs.List.{flat_map}
use Rattle.pattern_meaning.specs.Found.{of_name}
use Rattle.pattern_meaning.specs.Words.{words_of}
use Rattle.pattern_meaning.proofs.evaluating.found_of_names.Given as goal

-- the detections so far and those of the names that are left are all
abbrev pub invariant-loop-name : goal.invariant-loop-name
invariant-loop-name l =
    l.shown.items ++ flat_map (λ n. of_name n (words_of l.found n.name)) (drop l.name-index l.names)
    ≡ flat_map (λ n. of_name n (words_of l.found n.name)) l.names
