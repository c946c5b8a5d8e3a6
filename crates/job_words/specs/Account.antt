-- The command line as the parser of command lines is told it, and the job by its account of the words.
use Rattle.std.specs.Prelude.{List, [], ◌∷◌, Option, Some, None, true, codes, map, String, string_bytes}
use Rattle.std.specs.Str.{IsUtf8}
use Rattle.std.specs.declared.alloc.Global.{Global}
use Rattle.clap.specs.Words.{App, Rule, new_app, new_rule, with_rule, fault_of, matches_of, first_of, Row, Kinds}
use Rattle.clap.specs.Simple.{on_top}
use Rattle.job_words.specs.Words.{Text, PlainJob, job_of}

abbrev pub with_long : Text → Rule
with_long name = record (new_rule name) { long = Some name }

-- a command line without arguments: the words are all behind the program's name, and none asks for help
abbrev pub bare_app : App
bare_app = on_top (λ s. record s { no_binary_name = true; disable_help_flag = true }) (new_app (codes "etalis"))

abbrev pub job_app : App
job_app = with_rule (with_rule (with_rule (with_rule (with_rule bare_app
    (new_rule (codes "mode"))) (new_rule (codes "rules")))
    (with_long (codes "late"))) (with_long (codes "seed"))) (with_long (codes "lines"))

-- the value that is there
abbrev pub as_list : Option Text → List Text
as_list None = []
as_list (Some text) = text ∷ []

abbrev pub two : Option Text → Option Text → List Text
two None second = []
two (Some first) second = first ∷ as_list second

-- the job of what was found for the arguments
abbrev pub job_in : List Row → Option PlainJob
job_in rows = job_of (two (first_of (codes "mode") rows) (first_of (codes "rules") rows))
    (as_list (first_of (codes "late") rows)) (as_list (first_of (codes "seed") rows)) (as_list (first_of (codes "lines") rows))

abbrev pub unless_fault : Kinds → Option PlainJob → Option PlainJob
unless_fault [] job = job
unless_fault (kind ∷ kinds) job = None

-- the job by the parser's account of the words
abbrev pub account : List Text → Option PlainJob
account words = unless_fault (fault_of job_app words) (job_in (matches_of job_app words))

abbrev pub form : List (String Global) → Option PlainJob
form words = account (map string_bytes words)

-- each of these texts is UTF-8
abbrev pub AreUtf8 : List Text → Type 0
AreUtf8 [] = Unit {0}
AreUtf8 (word ∷ words) = IsUtf8 word × AreUtf8 words
