use Rattle.std.proofs.Common.{◌≡◌, take}
use Rattle.parcel_watch.proofs.watch.shared.Given as goal

abbrev pub invariant-loop-detection : goal.invariant-loop-detection
invariant-loop-detection l = l.list.items ≡ take l.detection-index l.detections
