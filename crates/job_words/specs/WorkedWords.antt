-- Words that are written out, and the jobs by the parser's account of them.
use Rattle.std.specs.Prelude.{◌≡◌, refl, [], ◌∷◌, Option, Some, None, codes, ℕ}
use Rattle.clap.proofs.OnLiterals.{clap_on_literals}
use Rattle.job_words.specs.Words.{PlainJob, Text, InForm, Late, Alone, Apart, Joined}
use Rattle.job_words.specs.declared.jobs.Mode.TheVariants.{Run, Held, Drill}
use Rattle.job_words.specs.Account.{account}

abbrev run_job : Text → Option ℕ → PlainJob
run_job rules late = record { mode = Run; rules = rules; late = late; seed = 1; lines = 1000 }

abbrev run_of : Text → Option ℕ → Option PlainJob
run_of rules late = Some (run_job rules late)

plain_run : account (codes "run" ∷ codes "x" ∷ []) ≡ run_of (codes "x") None
unfolding clap_on_literals
plain_run = refl

late_first : account (codes "--late=010" ∷ codes "run" ∷ codes "x" ∷ []) ≡ run_of (codes "x") (Some 10)
unfolding clap_on_literals
late_first = refl

options_between : account (codes "drill" ∷ codes "--seed" ∷ codes "7" ∷ codes "-" ∷ codes "--lines" ∷ codes "3" ∷ []) ≡ Some
    (record { mode = Drill; rules = codes "-"; late = None; seed = 7; lines = 3 })
unfolding clap_on_literals
options_between = refl

behind_dashes : account (codes "--late" ∷ codes "5" ∷ codes "--" ∷ codes "run" ∷ codes "--" ∷ []) ≡ run_of (codes "--") (Some 5)
unfolding clap_on_literals
behind_dashes = refl

late_twice : account (codes "run" ∷ codes "x" ∷ codes "--late=1" ∷ codes "--late=1" ∷ []) ≡ None
unfolding clap_on_literals
late_twice = refl

signed : account (codes "run" ∷ codes "x" ∷ codes "--late=+1" ∷ []) ≡ None
unfolding clap_on_literals
signed = refl

help : account (codes "--help" ∷ []) ≡ None
unfolding clap_on_literals
help = refl

short_help : account (codes "run" ∷ codes "x" ∷ codes "-h" ∷ []) ≡ None
unfolding clap_on_literals
short_help = refl

dashes_as_value : account (codes "run" ∷ codes "x" ∷ codes "--late" ∷ codes "--" ∷ codes "5" ∷ []) ≡ None
unfolding clap_on_literals
dashes_as_value = refl

checks_no_late : account (codes "check" ∷ codes "x" ∷ codes "--late" ∷ codes "5" ∷ []) ≡ None
unfolding clap_on_literals
checks_no_late = refl

three_words : account (codes "run" ∷ codes "x" ∷ codes "y" ∷ []) ≡ None
unfolding clap_on_literals
three_words = refl

shortened_name : account (codes "run" ∷ codes "x" ∷ codes "--lat=5" ∷ []) ≡ None
unfolding clap_on_literals
shortened_name = refl

empty_name : account (codes "run" ∷ [] ∷ []) ≡ run_of [] None
unfolding clap_on_literals
empty_name = refl

negative : account (codes "run" ∷ codes "x" ∷ codes "--late" ∷ codes "-1" ∷ []) ≡ None
unfolding clap_on_literals
negative = refl

past_limit : account (codes "run" ∷ codes "x" ∷ codes "--late" ∷ codes "4611686018427387904" ∷ []) ≡ None
unfolding clap_on_literals
past_limit = refl

held_late : account (codes "held" ∷ codes "--late" ∷ codes "5" ∷ codes "x" ∷ []) ≡ Some
    (record { mode = Held; rules = codes "x"; late = Some 5; seed = 1; lines = 1000 })
unfolding clap_on_literals
held_late = refl

held_no_seed : account (codes "held" ∷ codes "x" ∷ codes "--seed" ∷ codes "5" ∷ []) ≡ None
unfolding clap_on_literals
held_no_seed = refl

-- ---- how such words are written

joined_said : InForm (codes "--late=010" ∷ codes "run" ∷ codes "x" ∷ []) (run_job (codes "x") (Some 10))
joined_said = record {
  items = Joined Late (codes "010") ∷ Alone (codes "run") ∷ Alone (codes "x") ∷ [];
  rest = None;
  splits = record { written = refl; free = refl };
  says = refl;
}

behind_dashes_said : InForm (codes "run" ∷ codes "--late" ∷ codes "5" ∷ codes "--" ∷ codes "--" ∷ []) (run_job (codes "--") (Some 5))
behind_dashes_said = record {
  items = Alone (codes "run") ∷ Apart Late (codes "5") ∷ [];
  rest = Some (codes "--" ∷ []);
  splits = record { written = refl; free = refl };
  says = refl;
}
