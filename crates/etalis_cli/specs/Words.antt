-- Which words the program runs by.
use Rattle.std.specs.Prelude.{List, Option, String}
use Rattle.std.specs.declared.alloc.Global.{Global}
use Rattle.job_words.specs.Account as said
use Rattle.job_words.specs.Words.{PlainJob}

-- the job that the words say
unfoldable pub form : List (String Global) → Option PlainJob
form words = said.form words
