-- Which histories a watch follows, and what its reports say.
use Rattle.std.specs.Prelude.{◌≡◌, ◌≢◌, ℕ, ◌≤◌, true, false, Option, List, length}
use Rattle.event_model.specs.Presence.{History, all_inputs, settles, judge, verdict_of, after_verdict}
use Rattle.event_model.specs.declared.inputs.Input.{Input}
use Rattle.event_model.specs.declared.inputs.Judgement.TheVariants.{Fine}
use Rattle.event_model.specs.declared.events.Detection.{Detection}
use Rattle.rule_ast.specs.Trees.{PlainStatement}
use Rattle.pattern_meaning.specs.Replies.{change_by, changed}
use Rattle.etalis_core.specs.StandsFor.{StandsFor, rules_of, late_of}
use Rattle.etalis_core.specs.Apart.{PartsStandFor, rules_apart}
use Rattle.parcel_watch.specs.declared.resting.Resting.{Resting}
use Rattle.parcel_watch.specs.declared.watch.Report.{Report}
use Rattle.parcel_watch.specs.declared.watch.Report.TheVariants.{Changed, Kept, Refused}
use Rattle.parcel_watch.specs.declared.watch.Watch.{Watch}

abbrev pub rules_in : Watch → List PlainStatement
rules_in watch = rules_of watch.engine

-- how far the time of an event may lie behind the greatest that came
abbrev pub late_in : Watch → Option ℕ
late_in watch = late_of watch.engine

abbrev pub count_in : Watch → ℕ
count_in watch = watch.count

-- The engine stands for this history of inputs that were accepted, of which there are at most so many.
pub record Watches (watch : Watch) (history : History) : Type 0 where
  pub stands : StandsFor watch.engine history
  pub few : length (all_inputs history) ≤ watch.count

-- ---- a watch that rests

abbrev pub rules_at_rest : Resting → List PlainStatement
rules_at_rest resting = rules_apart resting.parts

abbrev pub late_at_rest : Resting → Option ℕ
late_at_rest resting = resting.parts.late

-- The parts of its engine stand for this history of inputs that were accepted, of which there are at most so many.
pub record Rests (resting : Resting) (history : History) : Type 0 where
  pub stands : PartsStandFor resting.parts history
  pub few : length (all_inputs history) ≤ resting.count

-- ---- what is reported

-- a history after an input, which it has where the input is fine
abbrev pub after : Option ℕ → History → Input → History
after late h input = after_verdict h (verdict_of (judge late h input) input)

-- What a report says of an input after a history: what it changes where it settles something, or why it isn't fine.
abbrev pub Says : Report → List PlainStatement → Option ℕ → History → Input → Type 0
Says (Changed gone come) rules late h input =
    let c = change_by rules h input in
    (judge late h input ≡ Fine) × (settles h input ≡ true) × (gone.items ≡ c.gone) × (come.items ≡ c.come)
Says Kept rules late h input = (judge late h input ≡ Fine) × (settles h input ≡ false)
Says (Refused why) rules late h input = (judge late h input ≡ why) × (why ≢ Fine)

-- a table of detections after a report: without those that have gone, and with those that have come
abbrev pub told_by : List Detection → Report → List Detection
told_by table (Changed gone come) = changed table (record { gone = gone.items; come = come.items })
told_by table Kept = table
told_by table (Refused why) = table
