use Rattle.job_words.proofs.FormExact.{account_sound, account_complete}
use Rattle.job_words.proofs.laws.accounts_are_as_written.Goals as goal

pub returns-clause-sound : goal.returns-clause-sound
returns-clause-sound c = account_sound

pub returns-clause-complete : goal.returns-clause-complete
returns-clause-complete c = account_complete
