-- What each mode writes, and whether it reads the source.
use Rattle.std.specs.Prelude.{ℕ, Bool, true, false, List, [], Option, Some, None, IfSome}
use Rattle.rule_ast.specs.Trees.{PlainStatement}
use Rattle.rule_writer.specs.Canonical.{canonical}
use Rattle.drill_lines.specs.DrillText.{drill_text}
use Rattle.drill_lines.specs.OpenNames.{open_names}
use Rattle.job_words.specs.Words.{PlainJob}
use Rattle.job_words.specs.declared.jobs.Mode.{Mode}
use Rattle.job_words.specs.declared.jobs.Mode.TheVariants.{Run, Check, Scratch, Held, Drill}
use Rattle.etalis_cli.specs.Output.{Setting, out_text}
use Rattle.etalis_cli.specs.declared.voices.Voice.{Voice}
use Rattle.etalis_cli.specs.declared.voices.Voice.TheVariants as voice

-- whether the mode reads the source
abbrev pub reads : Mode → Bool
reads Run = true
reads Check = false
reads Scratch = true
reads Held = true
reads Drill = false

-- whether the job of that form reads the source
abbrev pub job_reads : Option PlainJob → Bool
job_reads None = false
job_reads (Some job) = reads job.mode

-- how a mode answers lines; a check answers none
abbrev pub voice_of : Mode → Voice
voice_of Run = voice.Replies
voice_of Check = voice.Replies
voice_of Scratch = voice.Refusals
voice_of Held = voice.Held
voice_of Drill = voice.Counts

-- what a job runs with, by the rules of its file
abbrev pub setting_for : PlainJob → List PlainStatement → Setting
setting_for job rules = record { rules = rules; late = job.late; voice = voice_of job.mode }

-- the lines that a drill makes for the rules
abbrev pub drilled_bytes : PlainJob → Setting → List ℕ
drilled_bytes job w = drill_text (open_names w.rules) job.seed job.lines

-- what a mode writes for a job with a setting, for an input: what comes of the lines of the input, or of those of a drill; or the rules
abbrev pub text_in : Mode → PlainJob → Setting → List ℕ → List ℕ
text_in Run job w bytes = out_text w bytes
text_in Check job w bytes = canonical w.rules
text_in Scratch job w bytes = out_text w bytes
text_in Held job w bytes = out_text w bytes
text_in Drill job w bytes = out_text w (drilled_bytes job w)

-- what a job writes with a setting, for an input
abbrev pub mode_text : PlainJob → Setting → List ℕ → List ℕ
mode_text job w bytes = text_in job.mode job w bytes

-- P holds of the bytes of the source, if they are told, where it is read; else of no bytes
abbrev pub OnInput : Bool → Option (List ℕ) → (List ℕ → Type 0) → Type 0
OnInput true left P = IfSome left P
OnInput false left P = P []
