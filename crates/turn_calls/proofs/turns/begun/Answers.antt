use Rattle.std.proofs.Common.{◌<◌, length, arith}
use Rattle.event_model.specs.Presence.{History, no_history, all_inputs, extended}
use Rattle.event_model.specs.declared.events.Event.{Event}
use Rattle.event_model.specs.declared.inputs.Input.TheVariants.{Add}
use Rattle.etalis_core.specs.StandsFor.{StandsFor}
use Rattle.etalis_core.specs.declared.engine.Engine.{Engine}
use Rattle.etalis_core.specs.declared.present.TheConstants.{MOST_COPIES}
use Rattle.turn_calls.proofs.turns.begun.Goals as goal

abbrev Few : Engine → Type 0
Few engine = (h : History) × StandsFor engine h × (length (all_inputs h) < MOST_COPIES)

second : (engine : Engine) (a : Event) → StandsFor engine (extended no_history (Add a)) → Few engine
second engine a s = (extended no_history (Add a), s, omega arith)

third : (engine : Engine) (a b : Event) → StandsFor engine (extended (extended no_history (Add a)) (Add b)) → Few engine
third engine a b s = (extended (extended no_history (Add a)) (Add b), s, omega arith)

pub add-requires : goal.add-requires
add-requires c = second _ _ c.in_ok-engine.ensures

pub begin_adding-requires : goal.begin_adding-requires
begin_adding-requires c = third _ _ _ (c.in_ok-add.ensures _ c.in_ok-engine.ensures)
