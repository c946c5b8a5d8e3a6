-- The changes that an iterator has still to give.
use Rattle.std.specs.Prelude.{List, ◌++◌, map}
use Rattle.event_model.specs.declared.events.Detection.{Detection}
use Rattle.event_changes.specs.declared.changes.Sign.{Sign}
use Rattle.event_changes.specs.declared.changes.Sign.TheVariants.{Plus, Minus}
use Rattle.event_changes.specs.declared.changes.Changed.{Changed}
use Rattle.event_changes.specs.declared.changes.Changes.{Changes}

abbrev pub PlainChanged : Type 0
PlainChanged = Sign × Detection

-- the detections of the first list behind `Minus`, and then those of the second behind `Plus`
abbrev pub signed : List Detection → List Detection → List PlainChanged
signed gone come = map (λ d. (Minus, d)) gone ++ map (λ d. (Plus, d)) come

abbrev pub plain_changed : Changed → PlainChanged
plain_changed c = (c.sign, c.detection.now)

abbrev pub changes_left : Changes → List PlainChanged
changes_left c = signed c.minus.now c.plus.now
