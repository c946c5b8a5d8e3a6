-- Bytes that pass a test, as many as follow one another.
use Rattle.std.proofs.Common.{◌≡◌, ℕ, ◌+◌, ◌≤◌, ◌<◌, Bool, true, false, cond, List, [], ◌∷◌, length, take, drop, refl, arith, zero, suc}
use Rattle.std.specs.List.{list_all, prefix_len}
use Rattle.std.proofs.lemmas.Bool.{and_parts, and_from, false≢true}
use Rattle.std.proofs.Math.Numerals.{one-add}
use Rattle.rule_lexer.specs.Sorts.{begins}

pub run_passes : (p : ℕ → Bool) (bs : List ℕ) → list_all p (take (prefix_len p bs) bs) ≡ true
run_passes p [] = refl
run_passes p (b ∷ bs) = at (p b) refl (run_passes p bs)
  where
    at : (t : Bool) → p b ≡ t → list_all p (take (prefix_len p bs) bs) ≡ true → list_all p (take (cond t (1 + prefix_len p bs) 0) (b ∷ bs)) ≡ true
    at true e h = rw one-add (and_from _ _ e h)
    at false e h = refl

pub run_stops : (p : ℕ → Bool) (bs : List ℕ) → begins p (drop (prefix_len p bs) bs) ≡ false
run_stops p [] = refl
run_stops p (b ∷ bs) = at (p b) refl (run_stops p bs)
  where
    at : (t : Bool) → p b ≡ t → begins p (drop (prefix_len p bs) bs) ≡ false → begins p (drop (cond t (1 + prefix_len p bs) 0) (b ∷ bs)) ≡ false
    at true e h = rw one-add h
    at false e h = e

-- no more bytes from the first on pass
pub run_longest : (p : ℕ → Bool) (bs : List ℕ) (n : ℕ) → n ≤ length bs → list_all p (take n bs) ≡ true → n ≤ prefix_len p bs
run_longest p bs zero l h = omega arith
run_longest p [] (suc n) l h = absurd (omega arith)
run_longest p (b ∷ bs) (suc n) l h =
    let both = and_parts (p b) (list_all p (take n bs)) h in
    let inner : n ≤ prefix_len p bs = run_longest p bs n (omega arith) both.1 in
    rw both.0 (omega arith)

-- bytes that pass, with one behind them that doesn't, are all that pass
pub run_whole : (p : ℕ → Bool) (bs : List ℕ) (n : ℕ) → n ≤ length bs → list_all p (take n bs) ≡ true → begins p (drop n bs) ≡ false → n ≡ prefix_len p bs
run_whole p [] zero l h e = refl
run_whole p (b ∷ bs) zero l h e = rw e refl
run_whole p [] (suc n) l h e = absurd (omega arith)
run_whole p (b ∷ bs) (suc n) l h e =
    let both = and_parts (p b) (list_all p (take n bs)) h in
    let inner : n ≡ prefix_len p bs = run_whole p bs n (omega arith) both.1 e in
    rw both.0 (omega arith)

pub run_some : (p : ℕ → Bool) (bs : List ℕ) → begins p bs ≡ true → 0 < prefix_len p bs
run_some p [] e = absurd (false≢true e)
run_some p (b ∷ bs) e = rw e (omega arith)

-- a part that isn't empty begins as the whole does
pub begins-take : (p : ℕ → Bool) (bs : List ℕ) (n : ℕ) → 0 < n → begins p (take n bs) ≡ begins p bs
begins-take p bs zero l = absurd (omega arith)
begins-take p [] (suc n) l = refl
begins-take p (b ∷ bs) (suc n) l = refl
