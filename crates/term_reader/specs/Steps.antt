-- What the machine makes of bytes.
use Rattle.std.specs.Prelude.{ℕ, true, false, List, [], ◌∷◌, Option, Some, None}
use Rattle.term_reader.specs.declared.signs.Sign.{Sign}
use Rattle.term_reader.specs.declared.signs.Sign.TheVariants.{Open, Comma}
use Rattle.term_reader.specs.Signs.{sign_of}
use Rattle.term_reader.specs.Grammar.{Tree}
use Rattle.term_reader.specs.Machine.{State, step, said}

-- why nothing goes on
pub data Kind : Type 0 where
  Bad : Kind
  Deep : Kind
  Wide : Kind
  Range : Kind

-- a tree or a fault, with the bytes from there on
pub data Outcome : Type 0 where
  Reads : Tree → List ℕ → Outcome
  Stops : Kind → List ℕ → Outcome

-- the limit that a sign passes
abbrev pub limit_at : Sign → Kind
limit_at Open = Deep
limit_at Comma = Wide
limit_at s = Range

abbrev pub ended : Option Tree → List ℕ → Outcome
ended (Some t) rest = Reads t rest
ended None rest = Stops Bad rest

-- at a byte with which nothing goes on within the limits; the first argument is how it goes on past them
abbrev pub halted : Option State → State → ℕ → List ℕ → Outcome
halted (Some more) s b rest = Stops (limit_at (sign_of b)) (b ∷ rest)
halted None s b rest = ended (said s) (b ∷ rest)

abbrev pub onward : (State → Outcome) → State → ℕ → List ℕ → Option State → Outcome
onward go s b rest None = halted (step false s (sign_of b)) s b rest
onward go s b rest (Some more) = go more

abbrev pub run : List ℕ → State → Outcome
run [] s = ended (said s) []
run (b ∷ rest) s = onward (run rest) s b rest (step true s (sign_of b))
