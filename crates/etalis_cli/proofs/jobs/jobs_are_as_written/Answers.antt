use Rattle.etalis_cli.proofs.JobLaws.{job_said, said_job}
use Rattle.etalis_cli.proofs.jobs.jobs_are_as_written.Goals as goal

pub returns : goal.returns
returns c = record { sound = job_said; complete = said_job }
