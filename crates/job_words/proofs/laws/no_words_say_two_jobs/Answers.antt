use Rattle.job_words.proofs.FormExact.{one_job}
use Rattle.job_words.proofs.laws.no_words_say_two_jobs.Goals as goal

pub returns : goal.returns
returns c = one_job
