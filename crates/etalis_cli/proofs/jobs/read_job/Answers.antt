use Rattle.etalis_cli.proofs.JobLaws.{unsaid_form}
use Rattle.etalis_cli.proofs.jobs.read_job.Goals as goal

pub returns-clause-usage : goal.returns-clause-usage
returns-clause-usage c = λ e. unsaid_form c.args.words.now (c.run_words.ensures.usage e)
