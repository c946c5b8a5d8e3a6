use Rattle.std.proofs.Common.{◌<◌, length, arith}
use Rattle.event_model.specs.Presence.{History, no_history, all_inputs}
use Rattle.etalis_core.specs.StandsFor.{StandsFor}
use Rattle.etalis_core.specs.declared.engine.Engine.{Engine}
use Rattle.etalis_core.specs.declared.present.TheConstants.{MOST_COPIES}
use Rattle.turn_calls.proofs.turns.started.Goals as goal

abbrev Few : Engine → Type 0
Few engine = (h : History) × StandsFor engine h × (length (all_inputs h) < MOST_COPIES)

first : (engine : Engine) → StandsFor engine no_history → Few engine
first engine s = (no_history, s, omega arith)

pub add-requires : goal.add-requires
add-requires c = first _ c.in_ok-engine.ensures.stands
