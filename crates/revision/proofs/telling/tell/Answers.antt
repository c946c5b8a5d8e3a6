use Rattle.event_model.specs.EventOrder.{exact_detections}
use Rattle.revision.proofs.telling.tell.Goals as goal

pub sort_unique-requires : goal.sort_unique-requires
sort_unique-requires c = exact_detections
