-- From how a run ends to what the top call says.
use Rattle.std.proofs.Common.{◌≡◌, ◌≤◌, ◌<◌, ◌⊎◌, ℕ, ◌+◌, ◌-◌, Bool, true, false, List, [], ◌++◌, Option, Some, None, Result, Ok, Err, IfSome, length, take, drop, refl, sym, ap, ◌∙◌, subst, inl, inr, arith, append-nil, length-append}
use Rattle.std.proofs.lemmas.List.{take-append-le, take_all, take-append-drop}
use Rattle.std.specs.Io.KnownBytes.{append_known}
use Rattle.flow_ports.specs.Flow.{Rose, Takes, Gives, GivesPart}
use Rattle.flow_ports.proofs.FlowLemmas.{append_known-nil, prepend_known-nil}
use Rattle.event_model.specs.Lines.{ended}
use Rattle.rule_ast.specs.Trees.{PlainStatement}
use Rattle.etalis_cli.specs.Output.{Setting, start, replies, out_text}
use Rattle.rule_writer.specs.Canonical.{canonical}
use Rattle.drill_lines.specs.DrillText.{drill_text}
use Rattle.drill_lines.specs.OpenNames.{open_names}
use Rattle.etalis_cli.specs.declared.voices.Voice.{Voice}
use Rattle.etalis_cli.specs.declared.voices.Voice.TheVariants as voices
use Rattle.etalis_cli.specs.Modes.{reads, job_reads, voice_of, setting_for, text_in, mode_text, OnInput}
use Rattle.etalis_cli.specs.Outcome.{Served, Written}
use Rattle.job_words.specs.Words.{PlainJob}
use Rattle.job_words.specs.declared.jobs.Mode.{Mode}
use Rattle.job_words.specs.declared.jobs.Mode.TheVariants.{Run, Check, Scratch, Held, Drill}
use Rattle.etalis_cli.specs.Rules.{Accepted, IsAccepted, IsRefused, HasNone}
use Rattle.etalis_cli.specs.declared.refusals.FileRefusal.{FileRefusal}
use Rattle.etalis_cli.specs.Run.{PartOver, PartFor, OnRules, OnTaken, file_of, cause_of, WhereServed, WrittenBy, RunEnds.OverRules, status_of, WasServed, Counts, Untouched, WhyNoRules, ServedBy, RunEnds, RunEnds.OutOfForm, RunEnds.Starved, RunEnds.NoRules, RunEnds.OverLines, IsComplete}
use Rattle.etalis_cli.specs.declared.serving.TheConstants.{INPUT_LIMIT, MOST_PIECE_BYTES}
use Rattle.etalis_cli.specs.declared.serving.ServeFault.{ServeFault}
use Rattle.etalis_cli.specs.declared.serving.ServeFault.TheVariants as fault
use Rattle.etalis_cli.specs.declared.status.Status.{Status}
use Rattle.etalis_cli.specs.declared.status.Status.TheVariants as status
use Rattle.etalis_cli.specs.declared.status.Cause.{Cause}
use Rattle.etalis_cli.specs.declared.status.Cause.TheVariants.{Done, Usage, RulesRefused, RulesUnread, InputUnread, WriteFault, Memory, TooLong}
use Rattle.etalis_cli.proofs.RuleLaws.{same_Some, one_acceptance}
use Rattle.etalis_cli.proofs.ServeLaws.{out_begins, replies_shorter}

-- ---- what is taken and written

-- where the source is read, its lines are served
served_text : (mode : Mode) (job : PlainJob) (w : Setting) (bytes : List ℕ) → reads mode ≡ true → text_in mode job w bytes ≡ out_text w bytes
served_text Run job w bytes e = refl
served_text Check job w bytes e = absurd (let f = e in cc)
served_text Scratch job w bytes e = refl
served_text Held job w bytes e = refl
served_text Drill job w bytes e = absurd (let f = e in cc)

-- every mode but `Check` and `Drill` reads the source
pub read_modes : (mode : Mode) → (mode ≡ Run) ⊎ ((mode ≡ Scratch) ⊎ (mode ≡ Held)) → reads mode ≡ true
read_modes mode (inl is) = ap reads is
read_modes mode (inr (inl is)) = ap reads is
read_modes mode (inr (inr is)) = ap reads is

-- what a session of a mode runs with
pub setting_is : (job : PlainJob) (rules : List PlainStatement) (late : Option ℕ) (voice : Voice) → late ≡ job.late → voice ≡ voice_of job.mode
    → record { rules = rules; late = late; voice = voice } ≡ setting_for job rules
setting_is job rules late voice same answers = λ i. record { rules = rules; late = same i; voice = answers i }

-- what is written where the source isn't read
pub checked_text : (job : PlainJob) (rules : List PlainStatement) → job.mode ≡ Check → canonical rules ≡ mode_text job (setting_for job rules) []
checked_text job rules is = ap (λ m. text_in m job (setting_for job rules) []) (sym is)

pub drilled_text : (job : PlainJob) (rules : List PlainStatement) (late : Option ℕ) → late ≡ job.late → job.mode ≡ Drill
    → out_text (record { rules = rules; late = late; voice = voices.Counts }) (drill_text (open_names rules) job.seed job.lines) ≡ mode_text job (setting_for job rules) []
drilled_text job rules late same is =
    ap (λ w. out_text w (drill_text (open_names rules) job.seed job.lines)) (setting_is job rules late voices.Counts same (ap voice_of (sym is)))
    ∙ ap (λ m. text_in m job (setting_for job rules) []) (sym is)

module _ (w : Setting) where
  -- the replies to the lines of a first part are no longer than those to all
  shorter : (m : ℕ) (xs : List ℕ) → length (replies (start w) (ended (take m xs))) ≤ length (replies (start w) (ended xs))
  shorter m xs = subst (λ x. length (replies (start w) (ended (take m xs))) ≤ length (replies (start w) (ended x))) (take-append-drop m xs) (replies_shorter w (take m xs) (drop m xs))

  -- a first part of what is written, with enough replies
  sent_whole : (got got' : Option (List ℕ)) (done ys : List ℕ) → Gives got got' (replies (start w) (ended done))
      → (n : ℕ) × Gives got got' (take n (out_text w (done ++ ys))) × (length (replies (start w) (ended (take (length done - MOST_PIECE_BYTES) done))) ≤ n)
  sent_whole got got' done ys sent =
      let (t, begins) = out_begins w done ys in
      let all : List ℕ = replies (start w) (ended done) in
      let le : length all ≤ length all = omega arith in
      (length all, sent ∙ ap (append_known got) (sym (take_all (length all) all le) ∙ sym (take-append-le (length all) all t le) ∙ ap (take (length all)) (sym begins)), shorter _ done)

  sent_all : (got got' : Option (List ℕ)) (done ys : List ℕ) → ys ≡ [] → Gives got got' (out_text w done)
      → (n : ℕ) × Gives got got' (take n (out_text w (done ++ ys))) × (length (replies (start w) (ended (take (length done - MOST_PIECE_BYTES) done))) ≤ n)
  sent_all got got' done ys end sent =
      let whole : done ++ ys ≡ done = ap (λ x. done ++ x) end ∙ append-nil done in
      let (t, begins) = out_begins w done [] in
      let all : List ℕ = out_text w done in
      let le : length all ≤ length all = omega arith in
      let len : length all ≡ length (replies (start w) (ended done)) + length t = ap length (ap (out_text w) (sym (append-nil done)) ∙ begins) ∙ length-append (replies (start w) (ended done)) t in
      (length all, sent ∙ ap (append_known got) (sym (take_all (length all) all le) ∙ ap (λ x. take (length all) (out_text w x)) (sym whole)), omega (arith, shorter (length done - MOST_PIECE_BYTES) done, len))

  sent_part : (r : Result (Unit {0}) ServeFault) (left got got' : Option (List ℕ)) (rose : Type 0) (done ys : List ℕ) → Served w r left (Some ys) got got' rose done
      → (n : ℕ) × Gives got got' (take n (out_text w (done ++ ys))) × (length (replies (start w) (ended (take (length done - MOST_PIECE_BYTES) done))) ≤ n)
  sent_part (Ok x) left got got' rose done ys s = sent_all got got' done ys s.ends.1 s.ends.2
  sent_part (Err fault.Read) left got got' rose done ys s = sent_whole got got' done ys s.ends.1
  sent_part (Err fault.Write) left got got' rose done ys s = s.ends.1.part
  sent_part (Err fault.Memory) left got got' rose done ys s = s.ends.part
  sent_part (Err fault.TooLong) left got got' rose done ys s = s.ends.1.part

  -- the bytes that were taken, from those that are told
  taken_is : (xs ys done : List ℕ) → xs ≡ done ++ ys → (length xs - length ys ≡ length done) × (take (length done - MOST_PIECE_BYTES) xs ≡ take (length done - MOST_PIECE_BYTES) done)
  taken_is xs ys done e =
      let len : length xs ≡ length done + length ys = ap length e ∙ length-append done ys in
      let le : length done - MOST_PIECE_BYTES ≤ length done = omega arith in
      (omega (arith, len), ap (take (length done - MOST_PIECE_BYTES)) e ∙ take-append-le (length done - MOST_PIECE_BYTES) done ys le)

  part_over : (job : PlainJob) → reads job.mode ≡ true → (r : Result (Unit {0}) ServeFault) (left left' got got' : Option (List ℕ)) (rose : Type 0) (done : List ℕ)
      → Served w r left left' got got' rose done → PartOver job w left left' got got'
  part_over job reading r None left' got got' rose done s = tt
  part_over job reading r (Some xs) None got got' rose done s = tt
  part_over job reading r (Some xs) (Some ys) got got' rose done s =
      let e : xs ≡ done ++ ys = same_Some _ _ s.takes in
      let (count, front) = taken_is xs ys done e in
      let (n, sent, enough) = sent_part r (Some xs) got got' rose done ys s in
      let text : out_text w (done ++ ys) ≡ mode_text job w xs = ap (out_text w) (sym e) ∙ sym (served_text job.mode job w xs reading) in
      (n, sent ∙ ap (λ t. append_known got (take n t)) text, rw (count, front) enough)

  -- a run that was done wrote all
  done_text : (x : Unit {0}) (left left' got got' : Option (List ℕ)) (rose : Type 0) (taken : List ℕ) → Served w (Ok x) left left' got got' rose taken
      → IfSome left (λ bytes. Gives got got' (out_text w bytes))
  done_text x None left' got got' rose taken s = tt
  done_text x (Some xs) None got got' rose taken s = absurd (let f = s.takes in cc)
  done_text x (Some xs) (Some ys) got got' rose taken s =
      let e : xs ≡ taken ++ ys = same_Some _ _ s.takes in
      let all : taken ≡ xs = sym (e ∙ ap (λ y. taken ++ y) s.ends.1 ∙ append-nil taken) in
      subst (λ y. Gives got got' (out_text w y)) all s.ends.2

-- a first part of the bytes is as long as they are without the others
taken_front : (xs ys taken : List ℕ) → xs ≡ taken ++ ys → taken ≡ take (length xs - length ys) xs
taken_front xs ys taken e =
    let len : length xs - length ys ≡ length taken = omega (arith, ap length e, length-append taken ys) in
    let le : length taken ≤ length taken = omega arith in
    let front : take (length taken) (taken ++ ys) ≡ taken = take-append-le (length taken) taken ys le ∙ take_all (length taken) taken le in
    sym (ap (λ n. take n xs) len ∙ ap (take (length taken)) e ∙ front)

on_taken : (left left' : Option (List ℕ)) (taken : List ℕ) (P : List ℕ → Type 0) → Takes left left' taken → P taken → OnTaken left left' P
on_taken None left' taken P t p = tt
on_taken (Some xs) None taken P t p = tt
on_taken (Some xs) (Some ys) taken P t p = subst P (taken_front xs ys taken (same_Some _ _ t)) p

-- a run that ended at the limit had that many bytes before it
long_input : (left left' : Option (List ℕ)) (taken : List ℕ) → Takes left left' taken → INPUT_LIMIT ≤ length taken → IfSome left (λ bytes. INPUT_LIMIT ≤ length bytes)
long_input None left' taken t long = tt
long_input (Some xs) None taken t long = absurd (let f = t in cc)
long_input (Some xs) (Some ys) taken t long =
    let whole : xs ≡ taken ++ ys = same_Some _ _ t in
    omega (arith, long, ap length whole, length-append taken ys)

-- nothing was taken
none_taken : (left left' : Option (List ℕ)) → left' ≡ left → Takes left left' []
none_taken left left' e = sym (prepend_known-nil left' ∙ e)

-- nothing was taken, and nothing went out
none_sent : (reading : Bool) (job : PlainJob) (w : Setting) (left got : Option (List ℕ)) → PartFor reading job w left left got got
none_sent false job w left got = (0, sym (append_known-nil got))
none_sent true job w None got = tt
none_sent true job w (Some xs) got =
    let none : length xs - length xs - MOST_PIECE_BYTES ≡ 0 = omega arith in
    (0, sym (append_known-nil got), subst (λ n. length (replies (start w) (ended (take n xs))) ≤ 0) (sym none) (omega arith))

-- ---- by whether the source is read

on_read_input : (reading : Bool) (left : Option (List ℕ)) (P : List ℕ → Type 0) → reading ≡ true → IfSome left P → OnInput reading left P
on_read_input true left P e p = p
on_read_input false left P e p = absurd (let f = e in cc)

on_no_input : (reading : Bool) (left : Option (List ℕ)) (P : List ℕ → Type 0) → reading ≡ false → P [] → OnInput reading left P
on_no_input false left P e p = p
on_no_input true left P e p = absurd (let f = e in cc)

input_read : (job : PlainJob) (w : Setting) (left got got' : Option (List ℕ)) → reads job.mode ≡ true
    → IfSome left (λ bytes. Gives got got' (out_text w bytes)) → OnInput (reads job.mode) left (λ bytes. Gives got got' (mode_text job w bytes))
input_read job w left got got' e sent = on_read_input (reads job.mode) left _ e (texts left sent)
  where
    texts : (left : Option (List ℕ)) → IfSome left (λ bytes. Gives got got' (out_text w bytes)) → IfSome left (λ bytes. Gives got got' (mode_text job w bytes))
    texts None sent = tt
    texts (Some bytes) sent = sent ∙ ap (append_known got) (sym (served_text job.mode job w bytes e))

input_unread : (job : PlainJob) (w : Setting) (left got got' : Option (List ℕ)) → reads job.mode ≡ false
    → Gives got got' (mode_text job w []) → OnInput (reads job.mode) left (λ bytes. Gives got got' (mode_text job w bytes))
input_unread job w left got got' e sent = on_no_input (reads job.mode) left (λ bytes. Gives got got' (mode_text job w bytes)) e sent

part_read : (job : PlainJob) (w : Setting) (left left' got got' : Option (List ℕ)) → reads job.mode ≡ true → PartOver job w left left' got got'
    → PartFor (reads job.mode) job w left left' got got'
part_read job w left left' got got' e p = subst (λ b. PartFor b job w left left' got got') (sym e) p

part_unread : (job : PlainJob) (w : Setting) (left left' got got' : Option (List ℕ)) → reads job.mode ≡ false → GivesPart got got' (mode_text job w [])
    → PartFor (reads job.mode) job w left left' got got'
part_unread job w left left' got got' e p = subst (λ b. PartFor b job w left left' got got') (sym e) p

-- ---- the rules of the file

on_rules : (job : PlainJob) (file : Option (List ℕ)) (rs : List PlainStatement) (P : PlainJob → Setting → Type 0) → IfSome file (λ f. Accepted f rs) → P job (setting_for job rs)
    → IfSome file (λ f. (rules : List PlainStatement) → Accepted f rules → P job (setting_for job rules))
on_rules job None rs P accepted p = tt
on_rules job (Some f) rs P accepted p = λ other a. subst (λ r. P job (setting_for job r)) (one_acceptance f rs other accepted a) p

any_file : (job : PlainJob) (file : Option (List ℕ)) (P : PlainJob → Setting → Type 0) → ((job : PlainJob) (w : Setting) → P job w)
    → IfSome file (λ f. (rules : List PlainStatement) → Accepted f rules → P job (setting_for job rules))
any_file job None P p = tt
any_file job (Some f) P p = λ rs accepted. p job (setting_for job rs)

any_rules : (asked : Option PlainJob) (holds : List ℕ → Option (List ℕ)) (P : PlainJob → Setting → Type 0) → ((job : PlainJob) (w : Setting) → P job w) → OnRules asked holds P
any_rules None holds P p = tt
any_rules (Some job) holds P p = any_file job (holds job.rules) P p

-- a file that was read and refused
pub refused_read : (held : Option (List ℕ)) (bytes slice : List ℕ) → IfSome held (λ f. bytes ≡ f) → slice ≡ bytes → (cause : FileRefusal) → IsRefused slice cause × HasNone slice
    → IfSome held (λ f. IsRefused f cause × HasNone f)
refused_read None bytes slice e f cause p = tt
refused_read (Some file) bytes slice e f cause p = subst (λ x. IsRefused x cause × HasNone x) (f ∙ e) p

-- ---- the causes and their statuses

is_done : (r : Result (Unit {0}) ServeFault) → status_of (cause_of r) ≡ status.Done → r ≡ Ok tt
is_done (Ok x) e = refl
is_done (Err fault.Read) e = absurd (let f = e in cc)
is_done (Err fault.Write) e = absurd (let f = e in cc)
is_done (Err fault.Memory) e = absurd (let f = e in cc)
is_done (Err fault.TooLong) e = absurd (let f = e in cc)

is_read : (r : Result (Unit {0}) ServeFault) → status_of (cause_of r) ≡ status.ReadFault → r ≡ Err fault.Read
is_read (Ok x) e = absurd (let f = e in cc)
is_read (Err fault.Read) e = refl
is_read (Err fault.Write) e = absurd (let f = e in cc)
is_read (Err fault.Memory) e = absurd (let f = e in cc)
is_read (Err fault.TooLong) e = absurd (let f = e in cc)

is_long : (r : Result (Unit {0}) ServeFault) → status_of (cause_of r) ≡ status.TooLong → r ≡ Err fault.TooLong
is_long (Ok x) e = absurd (let f = e in cc)
is_long (Err fault.Read) e = absurd (let f = e in cc)
is_long (Err fault.Write) e = absurd (let f = e in cc)
is_long (Err fault.Memory) e = absurd (let f = e in cc)
is_long (Err fault.TooLong) e = refl

-- ---- why no rules were read

module _ (file : Option (List ℕ)) (a b : ℕ) where
  why_unserved : (cause : Cause) → WhyNoRules file a b cause → WasServed (status_of cause) → ⊥
  why_unserved Done w = absurd w
  why_unserved Usage w = absurd w
  why_unserved (RulesRefused r) w = λ s. s
  why_unserved RulesUnread w = λ s. s
  why_unserved InputUnread w = absurd w
  why_unserved WriteFault w = absurd w
  why_unserved Memory w = λ s. s
  why_unserved TooLong w = absurd w

-- ---- completeness

abbrev Ended : Status → Type 0
Ended s = (s ≡ status.Done) ⊎ (s ≡ status.Memory)

on_served : (reading : Bool) (left : Option (List ℕ)) (input P : Type 0)
    → ((bytes : List ℕ) → reading ≡ true → left ≡ Some bytes → length bytes < INPUT_LIMIT → ¬ input → P) → (reading ≡ false → P)
    → WhereServed reading left input P
on_served false left input P served unserved = unserved refl
on_served true None input P served unserved = tt
on_served true (Some bytes) input P served unserved = λ few no_input. served bytes refl refl few no_input

all_ended : (reading : Bool) (left : Option (List ℕ)) (input P : Type 0) → P → WhereServed reading left input P
all_ended reading left input P p = on_served reading left input P (λ bytes reading told few no_input. p) (λ unread. p)

-- of a file that is told
on_told : (file left : Option (List ℕ)) (reading : Bool) (s : Status) (shelf input out : Type 0)
    → ((f : List ℕ) → IsAccepted f → file ≡ Some f → ¬ shelf → ¬ out → WhereServed reading left input (Ended s))
    → IsComplete s file reading left shelf input out
on_told None left reading s shelf input out told = tt
on_told (Some f) left reading s shelf input out told = λ accepted no_shelf no_out. told f accepted refl no_shelf no_out

complete_why : (file left : Option (List ℕ)) (reading : Bool) (a b : ℕ) (input out : Type 0) (cause : Cause) → WhyNoRules file a b cause
    → IsComplete (status_of cause) file reading left (Rose a b) input out
complete_why file left reading a b input out Done w = absurd w
complete_why file left reading a b input out Usage w = absurd w
complete_why file left reading a b input out (RulesRefused r) w = on_told file left reading _ _ input out
    (λ f accepted is no_shelf no_out. absurd ((subst (λ o. IfSome o (λ f. IsRefused f r × HasNone f)) is w.0).1 accepted.0 accepted.1))
complete_why file left reading a b input out RulesUnread w = on_told file left reading _ _ input out (λ f accepted is no_shelf no_out. absurd (no_shelf w))
complete_why file left reading a b input out InputUnread w = absurd w
complete_why file left reading a b input out WriteFault w = absurd w
complete_why file left reading a b input out Memory w = on_told file left reading _ _ input out
    (λ f accepted is no_shelf no_out. all_ended reading left input (Ended status.Memory) (inr refl))
complete_why file left reading a b input out TooLong w = absurd w

-- ---- how a run ends

module _ (asked : Option PlainJob) (holds : List ℕ → Option (List ℕ)) (unread intact : Type 0) (left left' got got' : Option (List ℕ)) (before now : Counts) where
  -- what holds of the rules that were read
  on_read : (r : Result (Unit {0}) ServeFault) (s : ServedBy asked holds r left left' got got' before now) (P : PlainJob → Setting → Type 0)
      → P s.job (setting_for s.job s.rules) → OnRules asked holds P
  on_read r s P p = subst (λ a. OnRules a holds P) (sym s.asks) (on_rules s.job (holds s.job.rules) s.rules P s.accepted p)

  on_unread : (r : Result (Unit {0}) ServeFault) (s : WrittenBy asked holds unread r left left' got got' before now) (P : PlainJob → Setting → Type 0)
      → P s.job (setting_for s.job s.rules) → OnRules asked holds P
  on_unread r s P p = subst (λ a. OnRules a holds P) (sym s.asks) (on_rules s.job (holds s.job.rules) s.rules P s.accepted p)

  abbrev IsCompleteFor : Cause → Type 0
  IsCompleteFor cause = IsComplete (status_of cause) (file_of asked holds) (job_reads asked) left
      (Rose before.shelf now.shelf) (Rose before.source now.source) (Rose before.sink now.sink)

  complete_over : (r : Result (Unit {0}) ServeFault) → ServedBy asked holds r left left' got got' before now → IsCompleteFor (cause_of r)
  complete_over (Ok x) s = on_told _ left _ _ _ _ _ (λ f accepted is no_shelf no_out. all_ended _ left _ (Ended status.Done) (inl refl))
  complete_over (Err fault.Read) s = on_told _ left _ _ _ _ _ (λ f accepted is no_shelf no_out. on_served (job_reads asked) left _ (Ended status.ReadFault)
      (λ bytes reading told few no_input. absurd (no_input s.counts.0)) (λ unread. absurd (let a = ap job_reads s.asks in let b = s.reading in cc)))
  complete_over (Err fault.Write) s = on_told _ left _ _ _ _ _ (λ f accepted is no_shelf no_out. absurd (no_out s.counts.1))
  complete_over (Err fault.Memory) s = on_told _ left _ _ _ _ _ (λ f accepted is no_shelf no_out. all_ended _ left _ (Ended status.Memory) (inr refl))
  complete_over (Err fault.TooLong) s = on_told _ left _ _ _ _ _ (λ f accepted is no_shelf no_out. on_served (job_reads asked) left _ (Ended status.TooLong)
      (λ bytes reading told few no_input.
      let long = subst (λ o. IfSome o (λ b. INPUT_LIMIT ≤ length b)) told (long_input left left' s.taken s.served.takes s.served.ends.0) in absurd (omega (arith, few, long)))
      (λ unread. absurd (let a = ap job_reads s.asks in let b = s.reading in cc)))

  complete_rules : (r : Result (Unit {0}) ServeFault) → WrittenBy asked holds unread r left left' got got' before now → IsCompleteFor (cause_of r)
  complete_rules (Ok x) s = on_told _ left _ _ _ _ _ (λ f accepted is no_shelf no_out. all_ended _ left _ (Ended status.Done) (inl refl))
  complete_rules (Err fault.Read) s = absurd s.written
  complete_rules (Err fault.Write) s = on_told _ left _ _ _ _ _ (λ f accepted is no_shelf no_out. absurd (no_out s.counts.1))
  complete_rules (Err fault.Memory) s = on_told _ left _ _ _ _ _ (λ f accepted is no_shelf no_out. all_ended _ left _ (Ended status.Memory) (inr refl))
  complete_rules (Err fault.TooLong) s = absurd s.written

  -- a first part of a text that was written without the source
  written_part : (r : Result (Unit {0}) ServeFault) (text : List ℕ) → Written r got got' text → GivesPart got got' text
  written_part (Ok x) text w =
      let le : length text ≤ length text = omega arith in
      (length text, w ∙ ap (append_known got) (sym (take_all (length text) text le)))
  written_part (Err fault.Read) text w = absurd w
  written_part (Err fault.Write) text w = w
  written_part (Err fault.Memory) text w = w
  written_part (Err fault.TooLong) text w = absurd w

  -- a run over lines that ended with a status, by the result that has it
  as_result : (r q : Result (Unit {0}) ServeFault) → ServedBy asked holds r left left' got got' before now → r ≡ q → ServedBy asked holds q left left' got got' before now
  as_result r q s e = subst (λ x. ServedBy asked holds x left left' got got' before now) e s

  as_written : (r q : Result (Unit {0}) ServeFault) → WrittenBy asked holds unread r left left' got got' before now → r ≡ q
      → WrittenBy asked holds unread q left left' got got' before now
  as_written r q s e = subst (λ x. WrittenBy asked holds unread x left left' got got' before now) e s

  module _ (cause : Cause) where
    over : (r : Result (Unit {0}) ServeFault) (s : Status) → cause ≡ cause_of r → status_of cause ≡ s → status_of (cause_of r) ≡ s
    over r s is e = ap status_of (sym is) ∙ e

    -- ---- what is written

    pub done : RunEnds asked holds unread intact left left' got got' before now cause → status_of cause ≡ status.Done
        → OnRules asked holds (λ job w. OnInput (reads job.mode) left (λ bytes. Gives got got' (mode_text job w bytes)))
    done (OutOfForm none is shelf same) e = absurd (let f = ap status_of (sym is) ∙ e in cc)
    done (Starved is shelf same) e = absurd (let f = ap status_of (sym is) ∙ e in cc)
    done (NoRules some why same) e = absurd (why_unserved _ _ _ cause why (subst WasServed (sym e) tt))
    done (OverLines r is s) e =
        let t = as_result r (Ok tt) s (is_done r (over r status.Done is e)) in
        on_read (Ok tt) t _ (input_read t.job (setting_for t.job t.rules) left got got' t.reading
        (done_text (setting_for t.job t.rules) tt left left' got got' _ t.taken t.served))
    done (OverRules r is s) e =
        let t = as_written r (Ok tt) s (is_done r (over r status.Done is e)) in
        on_unread (Ok tt) t _ (input_unread t.job (setting_for t.job t.rules) left got got' t.reading t.written)

    untouched_part : Untouched intact left left' got got' before now → OnRules asked holds (λ job w. PartFor (reads job.mode) job w left left' got got')
    untouched_part same = any_rules asked holds _ (λ job w. subst (λ l. PartFor (reads job.mode) job w left l got got') (sym same.same_left)
        (subst (λ g. PartFor (reads job.mode) job w left left got g) (sym same.same_got) (none_sent (reads job.mode) job w left got)))

    pub part : RunEnds asked holds unread intact left left' got got' before now cause → OnRules asked holds (λ job w. PartFor (reads job.mode) job w left left' got got')
    part (OutOfForm none is shelf same) = untouched_part same
    part (Starved is shelf same) = untouched_part same
    part (NoRules some why same) = untouched_part same
    part (OverLines r is s) = on_read r s _ (part_read s.job (setting_for s.job s.rules) left left' got got' s.reading
        (part_over (setting_for s.job s.rules) s.job s.reading r left left' got got' _ s.taken s.served))
    part (OverRules r is s) = on_unread r s _ (part_unread s.job (setting_for s.job s.rules) left left' got got' s.reading
        (written_part r (mode_text s.job (setting_for s.job s.rules) []) s.written))

    untouched_replied : Untouched intact left left' got got' before now
        → OnRules asked holds (λ job w. OnTaken left left' (λ taken. Gives got got' (replies (start w) (ended taken))))
    untouched_replied same = any_rules asked holds _ (λ job w. on_taken left left' [] _ (none_taken left left' same.same_left) (same.same_got ∙ sym (append_known-nil got)))

    pub replied : RunEnds asked holds unread intact left left' got got' before now cause → status_of cause ≡ status.ReadFault
        → OnRules asked holds (λ job w. OnTaken left left' (λ taken. Gives got got' (replies (start w) (ended taken))))
    replied (OutOfForm none is shelf same) e = untouched_replied same
    replied (Starved is shelf same) e = untouched_replied same
    replied (NoRules some why same) e = untouched_replied same
    replied (OverLines r is s) e =
        let t = as_result r (Err fault.Read) s (is_read r (over r status.ReadFault is e)) in
        on_read (Err fault.Read) t _ (on_taken left left' t.taken _ t.served.takes t.served.ends.1)
    replied (OverRules r is s) e = absurd (as_written r (Err fault.Read) s (is_read r (over r status.ReadFault is e))).written

    long_over : ServedBy asked holds (Err fault.TooLong) left left' got got' before now
        → Rose before.sink now.sink ⊎ OnRules asked holds (λ job w. OnTaken left left' (λ taken. Gives got got' (replies (start w) (ended taken))))
    long_over t = elim t.served.ends.2 [ inl rose ↦ inl rose | inr sent ↦ inr (on_read (Err fault.TooLong) t _ (on_taken left left' t.taken _ t.served.takes sent)) ]

    pub long_replied : RunEnds asked holds unread intact left left' got got' before now cause → status_of cause ≡ status.TooLong
        → Rose before.sink now.sink ⊎ OnRules asked holds (λ job w. OnTaken left left' (λ taken. Gives got got' (replies (start w) (ended taken))))
    long_replied (OutOfForm none is shelf same) e = inr (untouched_replied same)
    long_replied (Starved is shelf same) e = inr (untouched_replied same)
    long_replied (NoRules some why same) e = inr (untouched_replied same)
    long_replied (OverLines r is s) e = long_over (as_result r (Err fault.TooLong) s (is_long r (over r status.TooLong is e)))
    long_replied (OverRules r is s) e = absurd (as_written r (Err fault.TooLong) s (is_long r (over r status.TooLong is e))).written

    -- ---- completeness

    pub complete : RunEnds asked holds unread intact left left' got got' before now cause → IsCompleteFor cause
    complete (OutOfForm none is shelf same) =
        subst (λ a. IsComplete (status_of cause) (file_of a holds) (job_reads a) left (Rose before.shelf now.shelf) (Rose before.source now.source) (Rose before.sink now.sink)) (sym none) tt
    complete (Starved is shelf same) = complete_why (file_of asked holds) left (job_reads asked) before.shelf now.shelf _ _ cause
        (subst (WhyNoRules (file_of asked holds) before.shelf now.shelf) (sym is) shelf)
    complete (NoRules some why same) = complete_why (file_of asked holds) left (job_reads asked) before.shelf now.shelf _ _ cause why
    complete (OverLines r is s) = subst IsCompleteFor (sym is) (complete_over r s)
    complete (OverRules r is s) = subst IsCompleteFor (sym is) (complete_rules r s)
