-- What the words of the top call come to.
use Rattle.std.specs.Prelude.{◌≡◌, ℕ, Option, List, [], ◌∷◌, ◌++◌, length, map, take}
use Rattle.std.specs.List.{flat_map, sum_by}
use Rattle.event_model.specs.Bytes.{plus}
use Rattle.event_model.specs.Lines.{lines_of}
use Rattle.event_model.specs.Presence.{Said, in_batch}
use Rattle.rule_ast.specs.Trees.{PlainStatement}
use Rattle.pattern_meaning.specs.Replies as told
use Rattle.pattern_meaning.specs.Replies.{Reply, Silent, Refusing, Changing, after_all, left_of, replies_to, State, reply_to_said, reply_text, after_said, change_texts, end_text, drill_text, standing_after}
use Rattle.event_reader.specs.Machine.{heard}
use Rattle.revision.specs.Holding.{counted as capped}
use Rattle.etalis_cli.specs.Output.{Setting, start, after, refusal_in, held_in, rows_after, events_after, most_rows, visits_to, out_text}
use Rattle.etalis_cli.specs.declared.voices.Voice.TheVariants.{Replies, Held, Refusals, Counts}

-- the text of a reply for each line, and the end: how many lines came, and whether a batch is open behind them
abbrev pub IsWritten : List PlainStatement → Option ℕ → List ℕ → Type 0
IsWritten rules late bytes =
    let s = told.start rules late in
    let lines = map heard (lines_of bytes) in
    out_text (record { rules = rules; late = late; voice = Replies }) bytes
    ≡ flat_map reply_text (replies_to s lines) ++ end_text (length (lines_of bytes)) (in_batch (after_all s lines).history)

-- the text of a reply for each line, and how many rows and events are held after the line behind a reply that says that it is accepted
abbrev pub texts_with_held : State → List Said → List ℕ
texts_with_held s [] = []
texts_with_held s (said ∷ more) =
    let reply = reply_to_said s said in
    let next = after_said s said in
    (reply_text reply ++ held_in reply (rows_after next) (events_after next)) ++ texts_with_held next more

-- these, and the end
abbrev pub IsHeld : List PlainStatement → Option ℕ → List ℕ → Type 0
IsHeld rules late bytes =
    let s = told.start rules late in
    let lines = map heard (lines_of bytes) in
    out_text (record { rules = rules; late = late; voice = Held }) bytes
    ≡ texts_with_held s lines ++ end_text (length (lines_of bytes)) (in_batch (after_all s lines).history)

-- the refusal of each line that is refused, what stands after the last line, and the end
abbrev pub IsScratched : List PlainStatement → Option ℕ → List ℕ → Type 0
IsScratched rules late bytes =
    let s = told.start rules late in
    let lines = map heard (lines_of bytes) in
    out_text (record { rules = rules; late = late; voice = Refusals }) bytes
    ≡ flat_map refusal_in (replies_to s lines) ++ (change_texts plus (standing_after rules (after_all s lines).history)
    ++ end_text (length (lines_of bytes)) (in_batch (after_all s lines).history))

-- how many detections a reply tells
abbrev pub told_in : Reply → ℕ
told_in Silent = 0
told_in (Refusing n why) = 0
told_in (Changing n c) = length c.come

-- how many detections a reply withdraws
abbrev pub withdrawn_in : Reply → ℕ
withdrawn_in Silent = 0
withdrawn_in (Refusing n why) = 0
withdrawn_in (Changing n c) = length c.gone

-- how many detections the replies tell and withdraw, how many visits are made for them, up to 2^128 - 1, and the most rows that are
-- held behind one that says that its line is accepted
abbrev pub IsDrilled : List PlainStatement → Option ℕ → List ℕ → Type 0
IsDrilled rules late bytes =
    let s = told.start rules late in
    let lines = map heard (lines_of bytes) in
    out_text (record { rules = rules; late = late; voice = Counts }) bytes
    ≡ drill_text (sum_by told_in (replies_to s lines)) (sum_by withdrawn_in (replies_to s lines))
    (capped (visits_to s lines)) (most_rows s lines)

-- the replies to the first lines are the first replies
abbrev pub FirstReplies : Setting → ℕ → List (List ℕ) → Type 0
FirstReplies w n lines = let s = (start w).state in replies_to s (map heard (take n lines)) ≡ take n (replies_to s (map heard lines))

-- what the replies to these lines leave of no detections stands after them
abbrev pub LeavesWhatStands : Setting → List (List ℕ) → Type 0
LeavesWhatStands w lines =
    left_of [] (replies_to (start w).state (map heard lines)) ≡ standing_after w.rules (after (start w) lines).state.history
