use Rattle.step_meaning.specs.Cuts.{step_rows_cut, step_supports_cut, within_is_cut, ending_is_cut}
use Rattle.step_meaning.proofs.laws.rows_depend_on_the_events_of_their_span.Goals as goal

pub returns : goal.returns
returns c = record { rows = step_rows_cut; supports = step_supports_cut; within = within_is_cut; before = ending_is_cut }
