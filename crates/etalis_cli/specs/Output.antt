-- What is written for an input: what lines come to, the reply to a line, and the end.
use Rattle.std.specs.Prelude.{◌≡◌, refl, ℕ, ◌+◌, if◌then◌else◌, max, Option, List, [], ◌∷◌, ◌++◌, length, map}
use Rattle.std.proofs.Common.{ap}
use Rattle.event_model.specs.Bytes.{plus}
use Rattle.event_model.specs.Lines.{lines_of}
use Rattle.event_model.specs.Presence.{History, Said, Verdict, Accepted, Refused, verdict, in_batch}
use Rattle.event_model.specs.declared.inputs.Input.{Input}
use Rattle.rule_ast.specs.Trees.{PlainStatement}
use Rattle.pattern_meaning.specs.Replies as told
use Rattle.pattern_meaning.specs.Replies.{State, Reply, Silent, Refusing, Changing, is_told, after_said, after_all, reply_to_said, reply_text, refusal_text, change_texts, end_text, held_text, drill_text, standing_after}
use Rattle.event_reader.specs.Machine.{heard}
use Rattle.revision.specs.Holding.{counted as capped}
use Rattle.etalis_core.specs.StandsFor.{visits_by, rows_kept, events_kept}
use Rattle.etalis_cli.specs.declared.voices.Voice.{Voice}
use Rattle.etalis_cli.specs.declared.voices.Voice.TheVariants.{Replies, Held, Refusals, Counts}
use Rattle.etalis_cli.specs.declared.voices.Tally.{Tally}

-- what a run is made with: the rules, how late an event may come, and how lines are answered
pub record Setting : Type 0 where
  pub rules : List PlainStatement
  pub late : Option ℕ
  pub voice : Voice

-- ---- how lines are answered

abbrev pub refusal_in : Reply → List ℕ
refusal_in Silent = []
refusal_in (Refusing n why) = refusal_text n why
refusal_in (Changing n c) = []

-- behind a reply that says that its line is accepted: how many rows and events are held
abbrev pub held_in : Reply → (rows events : ℕ) → List ℕ
held_in Silent rows events = []
held_in (Refusing n why) rows events = []
held_in (Changing n c) rows events = held_text rows events

-- what is written of a reply at once, where so many rows and events are held after its line
abbrev pub voiced : Voice → Reply → (rows events : ℕ) → List ℕ
voiced Replies reply rows events = reply_text reply
voiced Held reply rows events = reply_text reply ++ held_in reply rows events
voiced Refusals reply rows events = refusal_in reply
voiced Counts reply rows events = []

-- ---- what is held

-- how many rows are held after lines that have come to this
abbrev pub rows_after : State → ℕ
rows_after s = rows_kept s.rules s.late s.history

-- how many events are held then
abbrev pub events_after : State → ℕ
events_after s = events_kept s.late s.history

-- the rows that are held behind a reply that says that its line is accepted
abbrev pub rows_in : Reply → (rows : ℕ) → ℕ
rows_in Silent rows = 0
rows_in (Refusing n why) rows = 0
rows_in (Changing n c) rows = rows

-- the most rows that are held behind a reply to one of these lines
abbrev pub most_rows : State → List Said → ℕ
most_rows s [] = 0
most_rows s (said ∷ more) =
    let next = after_said s said in
    max (rows_in (reply_to_said s said) (rows_after next)) (most_rows next more)

-- ---- visits

-- how many visits of rows are made for an accepted input whose change is told
abbrev pub visits_told : List PlainStatement → Option ℕ → History → Input → ℕ
visits_told rules late h input = if is_told h input then visits_by rules late h input else 0

-- those for a line that is judged so
abbrev pub visits_in : List PlainStatement → Option ℕ → History → Verdict → ℕ
visits_in rules late h (Accepted input) = visits_told rules late h input
visits_in rules late h (Refused why) = 0

-- those for a line that says so
abbrev pub visits_said : State → Said → ℕ
visits_said s said = visits_in s.rules s.late s.history (verdict s.late s.history said)

-- those for all lines
abbrev pub visits_to : State → List Said → ℕ
visits_to s [] = 0
visits_to s (said ∷ more) = visits_said s said + visits_to (after_said s said) more

-- ---- what is counted of the answers

abbrev pub no_tally : Tally
no_tally = record { told = 0; withdrawn = 0; visits = 0; held = 0 }

-- the detections that a reply tells, those that it withdraws, the visits that were made for it, and the rows that are held behind it
abbrev pub tallied : Tally → Reply → (visits rows : ℕ) → Tally
tallied tally Silent visits rows = tally
tallied tally (Refusing n why) visits rows = tally
tallied tally (Changing n c) visits rows = record {
  told = tally.told + length c.come;
  withdrawn = tally.withdrawn + length c.gone;
  visits = capped (tally.visits + visits);
  held = max tally.held rows;
}

abbrev pub counted : Voice → Tally → Reply → (visits rows : ℕ) → Tally
counted Replies tally reply visits rows = tally
counted Held tally reply visits rows = tally
counted Refusals tally reply visits rows = tally
counted Counts tally reply visits rows = tallied tally reply visits rows

-- ---- from line to line

-- what lines have come to, how they are answered, and what was counted of the answers
pub record Talk : Type 0 where
  pub state : State
  pub voice : Voice
  pub tally : Tally

-- before the first line
abbrev pub start : Setting → Talk
start w = record { state = told.start w.rules w.late; voice = w.voice; tally = no_tally }

unfoldable pub reply_to : Talk → List ℕ → List ℕ
reply_to t line =
    let next = after_said t.state (heard line) in
    voiced t.voice (reply_to_said t.state (heard line)) (rows_after next) (events_after next)

unfoldable pub tally_after : Talk → List ℕ → Tally
tally_after t line =
    let next = after_said t.state (heard line) in
    counted t.voice t.tally (reply_to_said t.state (heard line)) (visits_said t.state (heard line)) (rows_after next)

abbrev pub after_line : Talk → List ℕ → Talk
after_line t line = record { state = after_said t.state (heard line); voice = t.voice; tally = tally_after t line }

-- what is written behind the answers to all lines: the end; or what stands, and the end; or the counts of a drill
abbrev pub closing_in : Voice → State → Tally → List ℕ
closing_in Replies s tally = end_text s.count (in_batch s.history)
closing_in Held s tally = end_text s.count (in_batch s.history)
closing_in Refusals s tally = change_texts plus (standing_after s.rules s.history) ++ end_text s.count (in_batch s.history)
closing_in Counts s tally = drill_text tally.told tally.withdrawn tally.visits tally.held

abbrev pub closing : Talk → List ℕ
closing t = closing_in t.voice t.state t.tally

abbrev pub after : Talk → List (List ℕ) → Talk
after t [] = t
after t (line ∷ lines) = after (after_line t line) lines

abbrev pub replies : Talk → List (List ℕ) → List ℕ
replies t [] = []
replies t (line ∷ lines) = reply_to t line ++ replies (after_line t line) lines

-- the answers to the lines of an input, and what is written behind them
abbrev pub out_text : Setting → List ℕ → List ℕ
out_text w bytes = replies (start w) (lines_of bytes) ++ closing (after (start w) (lines_of bytes))

-- ---- the same over what the lines say

-- what is written at once of lines that say so
abbrev pub texts_said : Voice → State → List Said → List ℕ
texts_said voice s [] = []
texts_said voice s (said ∷ more) =
    let next = after_said s said in
    voiced voice (reply_to_said s said) (rows_after next) (events_after next) ++ texts_said voice next more

pub replies_said : (t : Talk) (lines : List (List ℕ)) → replies t lines ≡ texts_said t.voice t.state (map heard lines)
unfolding reply_to
replies_said t [] = refl
replies_said t (line ∷ lines) = ap (λ r. reply_to t line ++ r) (replies_said (after_line t line) lines)

pub after_said_all : (t : Talk) (lines : List (List ℕ)) → (after t lines).state ≡ after_all t.state (map heard lines)
after_said_all t [] = refl
after_said_all t (line ∷ lines) = after_said_all (after_line t line) lines

pub same_voice : (t : Talk) (lines : List (List ℕ)) → (after t lines).voice ≡ t.voice
same_voice t [] = refl
same_voice t (line ∷ lines) = same_voice (after_line t line) lines
