-- Bytes that are the longest token where other bytes stand behind them.
use Rattle.std.proofs.Common.{◌≡◌, ℕ, Bool, true, false, List, [], ◌∷◌, ◌++◌, length, take, drop, refl, arith, length-append}
use Rattle.std.specs.List.{list_all, prefix_len}
use Rattle.std.proofs.lemmas.Bool.{false≢true}
use Rattle.std.proofs.lemmas.List.{take_at, drop_at}
use Rattle.rule_lexer.specs.declared.tokens.TokenKind.{TokenKind}
use Rattle.rule_lexer.specs.Sorts.{begins}
use Rattle.rule_lexer.specs.Places.{is_skipped}
use Rattle.rule_lexer.specs.Reading.{LongestOf}
use Rattle.rule_lexer.proofs.Runs.{run_whole}

-- they begin with neither a blank nor a comment, and no longer token begins there
pub record Stands (kind : TokenKind) (bytes rest : List ℕ) : Type 0 where
  pub solid : begins (is_skipped false) (bytes ++ rest) ≡ false
  pub longest : LongestOf (bytes ++ rest) kind (length bytes)

pub front : (xs rest : List ℕ) → take (length xs) (xs ++ rest) ≡ xs
front xs rest = take_at xs rest (length xs) refl

pub back : (xs rest : List ℕ) → drop (length xs) (xs ++ rest) ≡ rest
back xs rest = drop_at xs rest (length xs) refl

pub begins-append : (p : ℕ → Bool) (xs rest : List ℕ) → begins p xs ≡ true → begins p (xs ++ rest) ≡ true
begins-append p [] rest e = absurd (false≢true e)
begins-append p (x ∷ xs) rest e = e

-- bytes that pass a test, with one behind them that doesn't
pub whole_run : (p : ℕ → Bool) (xs rest : List ℕ) → list_all p xs ≡ true → begins p rest ≡ false → length xs ≡ prefix_len p (xs ++ rest)
whole_run p xs rest a e = run_whole p (xs ++ rest) (length xs) (omega (arith, length-append xs rest)) (rw (front xs rest) a) (rw (back xs rest) e)
