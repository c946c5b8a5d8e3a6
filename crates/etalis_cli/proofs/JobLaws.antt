-- The job of the words, by the job that they say.
use Rattle.std.proofs.Common.{◌≡◌, List, Some, None, String, string_bytes, map}
use Rattle.std.specs.declared.alloc.Global.{Global}
use Rattle.job_words.specs.Words.{PlainJob, InForm, plain_job}
use Rattle.job_words.specs.declared.jobs.Job.{Job}
use Rattle.job_words.proofs.FormLaws as said
use Rattle.etalis_cli.specs.Words.{form}

pub said_job : (words : List (String Global)) (job : PlainJob) → InForm (map string_bytes words) job → form words ≡ Some job
unfolding form
said_job words job says = said.form_complete words job says

pub said_form : (words : List (String Global)) (job : Job) → InForm (map string_bytes words) (plain_job job) → form words ≡ Some (plain_job job)
said_form words job says = said_job words (plain_job job) says

pub unsaid_form : (words : List (String Global)) → ((job : PlainJob) → InForm (map string_bytes words) job → ⊥) → form words ≡ None
unfolding form
unsaid_form words none = said.no_form words none

pub job_said : (words : List (String Global)) (job : PlainJob) → form words ≡ Some job → InForm (map string_bytes words) job
unfolding form
job_said words job e = said.form_sound words job e
