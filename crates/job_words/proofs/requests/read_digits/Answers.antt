use Rattle.job_words.proofs.WordLaws.{refused_digits}
use Rattle.job_words.proofs.requests.read_digits.Goals as goal

pub returns-in-Err : goal.returns-in-Err
returns-in-Err c = λ some fits. refused_digits c.args.word.now c.parse.result _ c.in-Err.is c.parse.ensures.value.0 c.requires some fits
