use Rattle.std.proofs.Common.{◌≡◌, drop, map}
use Rattle.pattern_meaning.specs.Found.{as_detection, with_all}
use Rattle.pattern_meaning.specs.Words.{words_of}
use Rattle.pattern_meaning.proofs.evaluating.push_events.Given as goal

-- those that are left make of what was found all that there is to find
abbrev pub invariant-loop-event : goal.invariant-loop-event
invariant-loop-event l =
    with_all (words_of l.found) (map as_detection (drop l.event-index l.events)) ≡ with_all (words_of l.initial.found) (map as_detection l.events)
