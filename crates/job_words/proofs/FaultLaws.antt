-- The job by the parser's own account.
use Rattle.std.proofs.Common.{◌≡◌, [], ◌∷◌, Option, None, refl}
use Rattle.clap.specs.Words.{Kinds}
use Rattle.job_words.specs.Words.{PlainJob}
use Rattle.job_words.specs.Account.{unless_fault}

pub none_of_fault : (kinds : Kinds) (job : Option PlainJob) → (kinds ≡ [] → ⊥) → unless_fault kinds job ≡ None
none_of_fault [] job not = absurd (not refl)
none_of_fault (k ∷ ks) job not = refl

pub job_of_none : (kinds : Kinds) (job : Option PlainJob) → kinds ≡ [] → unless_fault kinds job ≡ job
job_of_none [] job is = refl
job_of_none (k ∷ ks) job is = cc
