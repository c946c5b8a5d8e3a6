use Rattle.std.proofs.Common.{◌≡◌, ◌++◌, drop}
use Rattle.event_model.specs.Bytes.{plus}
use Rattle.pattern_meaning.specs.Replies.{change_texts}
use Rattle.etalis_cli.proofs.telling.push_standing.Given as goal

-- what was written and the lines of what is left are all
abbrev pub invariant-loop-detection : goal.invariant-loop-detection
invariant-loop-detection l =
    l.out.items ++ change_texts plus (drop l.detection-index l.detections) ≡ l.initial.out.items ++ change_texts plus l.detections
