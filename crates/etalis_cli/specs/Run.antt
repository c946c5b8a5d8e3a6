-- What the top call says.
use Rattle.std.specs.Prelude.{◌≡◌, ◌≢◌, ℕ, ◌<◌, ◌≤◌, ◌-◌, ◌⊎◌, Bool, true, false, List, [], Option, Some, None, Result, Ok, Err, IfSome, length, take, codes, ⊤}
use Rattle.flow_ports.specs.Flow.{Rose, Gives, GivesPart}
use Rattle.event_model.specs.Lines.{ended}
use Rattle.rule_ast.specs.Trees.{PlainStatement}
use Rattle.etalis_core.specs.StandsFor.{rules_of}
use Rattle.etalis_core.specs.declared.engine.Engine.{Engine}
use Rattle.etalis_cli.specs.Output.{Setting, start, replies}
use Rattle.etalis_cli.specs.Modes.{reads, setting_for, mode_text}
use Rattle.etalis_cli.specs.Outcome.{Served, Written, Counted}
use Rattle.job_words.specs.Words.{PlainJob}
use Rattle.etalis_cli.specs.Rules.{Accepted, IsAccepted, HasNone, IsRefused, refusal_note}
use Rattle.etalis_cli.specs.declared.refusals.FileRefusal.{FileRefusal}
use Rattle.etalis_cli.specs.declared.serving.TheConstants.{INPUT_LIMIT, MOST_PIECE_BYTES}
use Rattle.etalis_cli.specs.declared.serving.ServeFault.{ServeFault}
use Rattle.etalis_cli.specs.declared.serving.ServeFault.TheVariants as fault
use Rattle.etalis_cli.specs.declared.status.Status.{Status}
use Rattle.etalis_cli.specs.declared.status.Status.TheVariants as status
use Rattle.etalis_cli.specs.declared.status.Cause.{Cause}
use Rattle.etalis_cli.specs.declared.status.Cause.TheVariants.{Done, Usage, RulesRefused, RulesUnread, InputUnread, WriteFault, Memory, TooLong}

-- ---- what the words ask for

-- what the file of that form holds, where told
abbrev pub file_of : Option PlainJob → (List ℕ → Option (List ℕ)) → Option (List ℕ)
file_of None holds = None
file_of (Some job) holds = holds job.rules

-- the file of that form may be asked for
abbrev pub MayAsk : Option PlainJob → (List ℕ → Bool) → Type 0
MayAsk None serves = ⊤
MayAsk (Some job) serves = serves job.rules ≡ true

-- P holds of the job and of what it runs with, where its file is told and accepted
abbrev pub OnRules : Option PlainJob → (List ℕ → Option (List ℕ)) → (PlainJob → Setting → Type 0) → Type 0
OnRules None holds P = ⊤
OnRules (Some job) holds P =
    IfSome (holds job.rules) (λ file. (rules : List PlainStatement) → Accepted file rules → P job (setting_for job rules))

-- ---- what is taken and written

-- P holds of the bytes that were taken, where they are told
abbrev pub OnTaken : Option (List ℕ) → Option (List ℕ) → (List ℕ → Type 0) → Type 0
OnTaken None left' P = ⊤
OnTaken (Some xs) None P = ⊤
OnTaken (Some xs) (Some ys) P = P (take (length xs - length ys) xs)

-- A first part of the whole output went out, with the replies to all lines whose line feed is among the bytes taken but the last piece's.
abbrev pub PartOver : PlainJob → Setting → Option (List ℕ) → Option (List ℕ) → Option (List ℕ) → Option (List ℕ) → Type 0
PartOver job w None left' got got' = ⊤
PartOver job w (Some xs) None got got' = ⊤
PartOver job w (Some xs) (Some ys) got got' = (n : ℕ) × Gives got got' (take n (mode_text job w xs))
    × (length (replies (start w) (ended (take (length xs - length ys - MOST_PIECE_BYTES) xs))) ≤ n)

-- a first part of the whole output went out, by whether the source is read
abbrev pub PartFor : Bool → PlainJob → Setting → Option (List ℕ) → Option (List ℕ) → Option (List ℕ) → Option (List ℕ) → Type 0
PartFor true job w left left' got got' = PartOver job w left left' got got'
PartFor false job w left left' got got' = GivesPart got got' (mode_text job w [])

-- ---- how a run ends, by its cause

-- how often the calls of the shelf, of the source and of the output have failed
pub record Counts : Type 0 where
  pub shelf : ℕ
  pub source : ℕ
  pub sink : ℕ

-- the source and the output are the very same, which `intact` says; so are their bytes, where told, and their counts
pub record Untouched (intact : Type 0) (left left' got got' : Option (List ℕ)) (before now : Counts) : Type 0 where
  pub very_same : intact
  pub same_left : left' ≡ left
  pub same_got : got' ≡ got
  pub same_source : now.source ≡ before.source
  pub same_sink : now.sink ≡ before.sink

-- why no rules were read of the file, where the shelf's count was and is so
abbrev pub WhyNoRules : Option (List ℕ) → ℕ → ℕ → Cause → Type 0
WhyNoRules file shelf shelf' Done = ⊥
WhyNoRules file shelf shelf' Usage = ⊥
WhyNoRules file shelf shelf' (RulesRefused refusal) = IfSome file (λ f. IsRefused f refusal × HasNone f) × (shelf' ≡ shelf)
WhyNoRules file shelf shelf' RulesUnread = Rose shelf shelf'
WhyNoRules file shelf shelf' InputUnread = ⊥
WhyNoRules file shelf shelf' WriteFault = ⊥
WhyNoRules file shelf shelf' Memory = shelf' ≡ shelf
WhyNoRules file shelf shelf' TooLong = ⊥

-- an engine of the rules of the file, or why none were read
abbrev pub RulesRead : Option (List ℕ) → ℕ → ℕ → Result Engine Cause → Type 0
RulesRead file shelf shelf' (Ok engine) = IfSome file (λ f. Accepted f (rules_of engine)) × (shelf' ≡ shelf)
RulesRead file shelf shelf' (Err cause) = WhyNoRules file shelf shelf' cause

-- the cause that a run over the lines ends with
abbrev pub cause_of : Result (Unit {0}) ServeFault → Cause
cause_of (Ok _) = Done
cause_of (Err fault.Read) = InputUnread
cause_of (Err fault.Write) = WriteFault
cause_of (Err fault.Memory) = Memory
cause_of (Err fault.TooLong) = TooLong

-- the rules of the job's file were read, and the lines of these bytes were served by them
pub record ServedBy (asked : Option PlainJob) (holds : List ℕ → Option (List ℕ)) (result : Result (Unit {0}) ServeFault)
    (left left' got got' : Option (List ℕ)) (before now : Counts) : Type 0 where
  pub job : PlainJob
  pub rules : List PlainStatement
  pub taken : List ℕ
  pub asks : asked ≡ Some job
  pub reading : reads job.mode ≡ true
  pub accepted : IfSome (holds job.rules) (λ file. Accepted file rules)
  pub served : Served (setting_for job rules) result left left' got got' (Rose before.sink now.sink) taken
  pub shelf : now.shelf ≡ before.shelf
  pub counts : Counted result before.source now.source before.sink now.sink

-- the rules of the job's file were read, and its text was written by them; the source is the very same, which `unread` says
pub record WrittenBy (asked : Option PlainJob) (holds : List ℕ → Option (List ℕ)) (unread : Type 0) (result : Result (Unit {0}) ServeFault)
    (left left' got got' : Option (List ℕ)) (before now : Counts) : Type 0 where
  pub job : PlainJob
  pub rules : List PlainStatement
  pub asks : asked ≡ Some job
  pub reading : reads job.mode ≡ false
  pub accepted : IfSome (holds job.rules) (λ file. Accepted file rules)
  pub written : Written result got got' (mode_text job (setting_for job rules) [])
  pub very_same : unread
  pub same_left : left' ≡ left
  pub shelf : now.shelf ≡ before.shelf
  pub counts : Counted result before.source now.source before.sink now.sink

-- The words are out of form; or memory failed before they were read; or no rules were read of the job's file; or its text was written
-- without the source; or its lines were served. In all cases but the last the source wasn't asked for anything, nor the output in the
-- first three.
pub data RunEnds (asked : Option PlainJob) (holds : List ℕ → Option (List ℕ)) (unread intact : Type 0)
    (left left' got got' : Option (List ℕ)) (before now : Counts) (cause : Cause) : Type 0 where
  OutOfForm : asked ≡ None → cause ≡ Usage → now.shelf ≡ before.shelf → Untouched intact left left' got got' before now
      → RunEnds asked holds unread intact left left' got got' before now cause
  Starved : cause ≡ Memory → now.shelf ≡ before.shelf → Untouched intact left left' got got' before now
      → RunEnds asked holds unread intact left left' got got' before now cause
  NoRules : asked ≢ None → WhyNoRules (file_of asked holds) before.shelf now.shelf cause
      → Untouched intact left left' got got' before now
      → RunEnds asked holds unread intact left left' got got' before now cause
  OverRules : (result : Result (Unit {0}) ServeFault) → cause ≡ cause_of result
      → WrittenBy asked holds unread result left left' got got' before now
      → RunEnds asked holds unread intact left left' got got' before now cause
  OverLines : (result : Result (Unit {0}) ServeFault) → cause ≡ cause_of result
      → ServedBy asked holds result left left' got got' before now
      → RunEnds asked holds unread intact left left' got got' before now cause

-- ---- statuses

abbrev pub status_of : Cause → Status
status_of Done = status.Done
status_of Usage = status.Usage
status_of (RulesRefused refusal) = status.RulesRefused
status_of RulesUnread = status.ReadFault
status_of InputUnread = status.ReadFault
status_of WriteFault = status.WriteFault
status_of Memory = status.Memory
status_of TooLong = status.TooLong

-- the exit status of the program
abbrev pub exit_code : Status → ℕ
exit_code status.Done = 0
exit_code status.Usage = 1
exit_code status.RulesRefused = 2
exit_code status.ReadFault = 3
exit_code status.WriteFault = 4
exit_code status.Memory = 5
exit_code status.TooLong = 6

-- the rule file was read, and the source may have been
abbrev pub WasServed : Status → Type 0
WasServed status.Done = ⊤
WasServed status.WriteFault = ⊤
WasServed status.TooLong = ⊤
WasServed status.Usage = ⊥
WasServed status.RulesRefused = ⊥
WasServed status.ReadFault = ⊥
WasServed status.Memory = ⊥

abbrev pub NoneRose : Counts → Counts → Type 0
NoneRose before now = (now.shelf ≡ before.shelf) × (now.source ≡ before.source) × (now.sink ≡ before.sink)

-- which counts have risen where a run ends so: none, or that of the one device that has failed
abbrev pub CountsAt : Status → Counts → Counts → Type 0
CountsAt status.Done before now = NoneRose before now
CountsAt status.Usage before now = NoneRose before now
CountsAt status.RulesRefused before now = NoneRose before now
CountsAt status.ReadFault before now = (now.sink ≡ before.sink) × ((Rose before.shelf now.shelf × (now.source ≡ before.source))
    ⊎ ((now.shelf ≡ before.shelf) × Rose before.source now.source))
CountsAt status.WriteFault before now = (now.shelf ≡ before.shelf) × (now.source ≡ before.source) × Rose before.sink now.sink
CountsAt status.Memory before now = NoneRose before now
CountsAt status.TooLong before now = (now.shelf ≡ before.shelf) × (now.source ≡ before.source) × (before.sink ≤ now.sink)

-- no count has fallen
pub record NoneFell (before now : Counts) : Type 0 where
  pub shelf : before.shelf ≤ now.shelf
  pub source : before.source ≤ now.source
  pub sink : before.sink ≤ now.sink

-- P holds, if the source is told with fewer bytes than the limit, and its count didn't rise, where it is read; else without more
abbrev pub WhereServed : Bool → Option (List ℕ) → Type 0 → Type 0 → Type 0
WhereServed true left input P = IfSome left (λ bytes. length bytes < INPUT_LIMIT → ¬ input → P)
WhereServed false left input P = P

-- A file that is told and accepted, with fewer bytes of input than the limit where the source is read, and no count that rose, gives
-- `Done`, unless memory fails.
abbrev pub IsComplete : Status → Option (List ℕ) → Bool → Option (List ℕ) → Type 0 → Type 0 → Type 0 → Type 0
IsComplete s file reading left shelf input out = IfSome file (λ f. IsAccepted f → ¬ shelf → ¬ out
    → WhereServed reading left input ((s ≡ status.Done) ⊎ (s ≡ status.Memory)))

-- ---- notes

-- what goes to the notes
abbrev pub note_of : Cause → List ℕ
note_of Done = []
note_of Usage = codes "etalis: usage: etalis MODE RULES [--late N] [--seed N] [--lines N]\n"
note_of (RulesRefused refusal) = refusal_note refusal
note_of RulesUnread = codes "etalis: cannot read rules\n"
note_of InputUnread = codes "etalis: cannot read input\n"
note_of WriteFault = codes "etalis: cannot write\n"
note_of Memory = codes "etalis: out of memory\n"
note_of TooLong = codes "etalis: input too long\n"

-- the text went out, or some first part of it where a count rose
abbrev pub Told : Option (List ℕ) → Option (List ℕ) → Type 0 → List ℕ → Type 0
Told got got' rose text = Gives got got' text ⊎ (rose × GivesPart got got' text)

-- the text is the note of what the file, if told, is refused for
pub record IsRefusalNote (text : List ℕ) (file : Option (List ℕ)) : Type 0 where
  pub refusal : FileRefusal
  pub cause : IfSome file (λ f. IsRefused f refusal)
  pub note : text ≡ refusal_note refusal

-- a text is the note of a status with this file, where the count of the shelf or that of the source may have risen
abbrev pub IsNoteOf : Status → List ℕ → Option (List ℕ) → Type 0 → Type 0 → Type 0
IsNoteOf status.Done text file shelf input = text ≡ []
IsNoteOf status.Usage text file shelf input = text ≡ codes "etalis: usage: etalis MODE RULES [--late N] [--seed N] [--lines N]\n"
IsNoteOf status.RulesRefused text file shelf input = IsRefusalNote text file
IsNoteOf status.ReadFault text file shelf input =
    (shelf × (text ≡ codes "etalis: cannot read rules\n")) ⊎ (input × (text ≡ codes "etalis: cannot read input\n"))
IsNoteOf status.WriteFault text file shelf input = text ≡ codes "etalis: cannot write\n"
IsNoteOf status.Memory text file shelf input = text ≡ codes "etalis: out of memory\n"
IsNoteOf status.TooLong text file shelf input = text ≡ codes "etalis: input too long\n"
