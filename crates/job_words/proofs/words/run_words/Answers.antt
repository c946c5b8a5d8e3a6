use Rattle.std.proofs.Common.{◌≡◌, ◌⊎◌, inl, inr, refl, List, map, Some, Result, Ok, Err, String, string_bytes}
use Rattle.std.specs.Prelude.{IfOk, IsErrOf}
use Rattle.std.proofs.lemmas.Result.{IfOk-weaker}
use Rattle.std.specs.declared.alloc.Global.{Global}
use Rattle.job_words.specs.declared.jobs.Job.{Job}
use Rattle.job_words.specs.declared.jobs.WordsFault.{WordsFault}
use Rattle.job_words.specs.declared.jobs.WordsFault.TheVariants.{Usage, Memory}
use Rattle.job_words.specs.Account.{form}
use Rattle.job_words.specs.Words.{PlainJob, InForm, plain_job}
use Rattle.job_words.proofs.FormLaws.{form_sound, none_said, in_range}
use Rattle.job_words.proofs.words.run_words.Goals as goal

refused : (words : List (String Global)) (r : Result Job WordsFault) → IfOk r (λ job. form words ≡ Some (plain_job job))
    → ((job : PlainJob) → InForm (map string_bytes words) job → ⊥) → IsErrOf r Usage ⊎ IsErrOf r Memory
refused words (Ok job) e none = absurd (none (plain_job job) (form_sound words (plain_job job) e))
refused words (Err Usage) e none = inl refl
refused words (Err Memory) e none = inr refl

pub returns-clause-ok : goal.returns-clause-ok
returns-clause-ok c = IfOk-weaker c.read_job.result _ _ (λ job e. form_sound c.args.words.now (plain_job job) e) c.read_job.ensures.ok

pub returns-clause-usage : goal.returns-clause-usage
returns-clause-usage c = λ is. none_said c.args.words.now (c.read_job.ensures.usage is)

pub returns-clause-refuses : goal.returns-clause-refuses
returns-clause-refuses c = refused c.args.words.now c.read_job.result c.read_job.ensures.ok

pub returns-clause-late : goal.returns-clause-late
returns-clause-late c = IfOk-weaker c.read_job.result _ _
    (λ job e. (in_range c.args.words.now (plain_job job) e).late) c.read_job.ensures.ok

pub returns-clause-seed : goal.returns-clause-seed
returns-clause-seed c = IfOk-weaker c.read_job.result _ _
    (λ job e. (in_range c.args.words.now (plain_job job) e).seed) c.read_job.ensures.ok

pub returns-clause-lines : goal.returns-clause-lines
returns-clause-lines c = IfOk-weaker c.read_job.result _ _
    (λ job e. (in_range c.args.words.now (plain_job job) e).lines) c.read_job.ensures.ok
