-- Which talks a session stands for: it keeps what their histories come to, and not the histories.
use Rattle.std.specs.Prelude.{◌≡◌, ◌≤◌, ◌*◌, ◌^◌, ℕ, Bool, true, false, Option, IfSome, is_some, length}
use Rattle.event_model.specs.Presence.{History, all_inputs}
use Rattle.etalis_core.specs.Kept.{IsRollOf}
use Rattle.etalis_core.specs.StandsFor as core
use Rattle.etalis_core.specs.StandsFor.{rules_of, late_of}
use Rattle.etalis_core.specs.declared.roll.Roll.{Roll}
use Rattle.etalis_cli.specs.Output.{Setting, Talk}
use Rattle.etalis_cli.specs.declared.session.Session.{Session}
use Rattle.etalis_cli.specs.declared.voices.Tally.{Tally}
use Rattle.etalis_cli.specs.declared.voices.Voice.{Voice}
use Rattle.etalis_cli.specs.declared.voices.Voice.TheVariants.{Replies, Held, Refusals, Counts}

-- what a session was made with
abbrev pub setting_of : Session → Setting
setting_of session = record { rules = rules_of session.engine; late = late_of session.engine; voice = session.voice }

-- what so many lines can be counted with: no line tells or withdraws 2^64 detections
pub record IsWithin (tally : Tally) (lines : ℕ) : Type 0 where
  pub told : tally.told ≤ lines * 2 ^ 64
  pub withdrawn : tally.withdrawn ≤ lines * 2 ^ 64

-- whether all events are kept, so that what stands can be found from them
abbrev pub keeps_all : Voice → Bool
keeps_all Replies = false
keeps_all Held = false
keeps_all Refusals = true
keeps_all Counts = false

-- a roll, if there is one, is that of this history
abbrev pub KeepsAll : Option Roll → Option ℕ → History → Type 0
KeepsAll roll late h = IfSome roll (λ r. IsRollOf r late h)

pub record StandsFor (session : Session) (t : Talk) : Type 0 where
  pub same_rules : t.state.rules ≡ rules_of session.engine
  pub same_late : t.state.late ≡ late_of session.engine
  pub same_voice : t.voice ≡ session.voice
  pub same_count : t.state.count ≡ session.count
  pub same_tally : t.tally ≡ session.tally
  pub inputs : core.StandsFor session.engine t.state.history
  pub there : is_some session.roll ≡ keeps_all session.voice
  pub all : KeepsAll session.roll (late_of session.engine) t.state.history
  -- no line is more than one input
  pub few : length (all_inputs t.state.history) ≤ t.state.count
  pub within : IsWithin t.tally t.state.count
