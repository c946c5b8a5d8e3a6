use Rattle.horizon_meaning.specs.Histories.{later_change, present_spans}
use Rattle.horizon_meaning.proofs.laws.accepted_inputs_change_what_is_recent.Goals as goal

pub returns : goal.returns
returns c = record { change = later_change; spans = present_spans }
