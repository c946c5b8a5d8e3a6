-- The lines of a list of bytes. `part` is what has come of a line before.
use Rattle.std.specs.Prelude.{ℕ, ◌≡◌, Bool, true, false, cond, if◌then◌else◌, ◌==◌, List, [], ◌∷◌, ◌++◌}
use Rattle.std.specs.List.{slice_split, onto_first}
use Rattle.std.proofs.Common.{refl, ap, sym, ◌∙◌, append_assoc, append-nil}
use Rattle.event_model.specs.Bytes.{feed, carriage_return}

-- one carriage return at the end of a line is dropped
abbrev pub without_cr : List ℕ → List ℕ
without_cr [] = []
without_cr (b ∷ []) = if b == carriage_return then [] else b ∷ []
without_cr (b ∷ c ∷ bytes) = b ∷ without_cr (c ∷ bytes)

-- the lines that a line feed ends
abbrev pub ended_from : List ℕ → List ℕ → List (List ℕ)
ended_from part [] = []
ended_from part (b ∷ bytes) = if b == feed then without_cr part ∷ ended_from [] bytes else ended_from (part ++ b ∷ []) bytes

-- what stands behind the last line feed
abbrev pub rest_from : List ℕ → List ℕ → List ℕ
rest_from part [] = part
rest_from part (b ∷ bytes) = if b == feed then rest_from [] bytes else rest_from (part ++ b ∷ []) bytes

abbrev pub ended : List ℕ → List (List ℕ)
ended bytes = ended_from [] bytes

abbrev pub rest : List ℕ → List ℕ
rest bytes = rest_from [] bytes

-- bytes behind the last line feed are a line, where there are any
abbrev pub last_line : List ℕ → List (List ℕ)
last_line [] = []
last_line (b ∷ bytes) = without_cr (b ∷ bytes) ∷ []

abbrev pub lines_of : List ℕ → List (List ℕ)
lines_of bytes = ended bytes ++ last_line (rest bytes)

-- ---- the same in other words: the parts between line feeds, of which the last is a line only where it isn't empty

abbrev pub lines_of_parts : List (List ℕ) → List (List ℕ)
lines_of_parts [] = []
lines_of_parts (part ∷ []) = last_line part
lines_of_parts (part ∷ next ∷ parts) = without_cr part ∷ lines_of_parts (next ∷ parts)

-- a first part that begins with what came before
abbrev behind : List ℕ → List (List ℕ) → List (List ℕ)
behind part [] = part ∷ []
behind part (p ∷ ps) = (part ++ p) ∷ ps

behind-onto_first : (part : List ℕ) (b : ℕ) (ps : List (List ℕ)) → behind (part ++ b ∷ []) ps ≡ behind part (onto_first b ps)
behind-onto_first part b [] = refl
behind-onto_first part b (p ∷ ps) = ap (λ l. l ∷ ps) (append_assoc part (b ∷ []) p)

abbrev is_feed : ℕ → Bool
is_feed b = b == feed

-- a split has a part
with_first : (part : List ℕ) (bytes : List ℕ) → lines_of_parts (part ∷ slice_split is_feed bytes) ≡ without_cr part ∷ lines_of_parts
    (slice_split is_feed bytes)
with_first part [] = refl
with_first part (b ∷ bytes) = at (b == feed)
  where
    more : (ps : List (List ℕ)) → lines_of_parts (part ∷ onto_first b ps) ≡ without_cr part ∷ lines_of_parts (onto_first b ps)
    more [] = refl
    more (p ∷ ps) = refl

    at : (t : Bool) → lines_of_parts (part ∷ cond t ([] ∷ slice_split is_feed bytes) (onto_first b (slice_split is_feed bytes)))
        ≡ without_cr part ∷ lines_of_parts (cond t ([] ∷ slice_split is_feed bytes) (onto_first b (slice_split is_feed bytes)))
    at true = refl
    at false = more (slice_split is_feed bytes)

behind_nothing : (bytes : List ℕ) → behind [] (slice_split is_feed bytes) ≡ slice_split is_feed bytes
behind_nothing [] = refl
behind_nothing (b ∷ bytes) = at (b == feed)
  where
    more : (ps : List (List ℕ)) → behind [] (onto_first b ps) ≡ onto_first b ps
    more [] = refl
    more (p ∷ ps) = refl

    at : (t : Bool) → behind [] (cond t ([] ∷ slice_split is_feed bytes) (onto_first b (slice_split is_feed bytes))) ≡ cond t
        ([] ∷ slice_split is_feed bytes) (onto_first b (slice_split is_feed bytes))
    at true = refl
    at false = more (slice_split is_feed bytes)

lines_from : (part bytes : List ℕ) → ended_from part bytes ++ last_line (rest_from part bytes) ≡ lines_of_parts
    (behind part (slice_split is_feed bytes))
lines_from part [] = ap last_line (sym (append-nil part))
lines_from part (b ∷ bytes) = at (b == feed) (lines_from [] bytes) (lines_from (part ++ b ∷ []) bytes)
  where
    at : (t : Bool) → ended_from [] bytes ++ last_line (rest_from [] bytes) ≡ lines_of_parts (behind [] (slice_split is_feed bytes))
        → ended_from (part ++ b ∷ []) bytes ++ last_line (rest_from (part ++ b ∷ []) bytes) ≡ lines_of_parts
        (behind (part ++ b ∷ []) (slice_split is_feed bytes))
        → cond t (without_cr part ∷ ended_from [] bytes) (ended_from (part ++ b ∷ []) bytes)
        ++ last_line (cond t (rest_from [] bytes) (rest_from (part ++ b ∷ []) bytes))
        ≡ lines_of_parts (behind part (cond t ([] ∷ slice_split is_feed bytes) (onto_first b (slice_split is_feed bytes))))
    at true e f = ap (λ l. without_cr part ∷ l) (e ∙ ap lines_of_parts (behind_nothing bytes)) ∙ sym (with_first part bytes)
        ∙ ap (λ p. lines_of_parts (p ∷ slice_split is_feed bytes)) (sym (append-nil part))
    at false e f = f ∙ ap lines_of_parts (behind-onto_first part b (slice_split is_feed bytes))

-- the lines, by the parts between line feeds
pub lines_of-parts : (bytes : List ℕ) → lines_of bytes ≡ lines_of_parts (slice_split (λ b. b == feed) bytes)
lines_of-parts bytes = lines_from [] bytes ∙ ap lines_of_parts (behind_nothing bytes)

-- ---- one piece behind another

pub ended_from-append : (p xs ys : List ℕ) → ended_from p (xs ++ ys) ≡ ended_from p xs ++ ended_from (rest_from p xs) ys
ended_from-append p [] ys = refl
ended_from-append p (x ∷ xs) ys =
    elim (x == feed) as (λ t. cond t (without_cr p ∷ ended_from [] (xs ++ ys)) (ended_from (p ++ x ∷ []) (xs ++ ys))
    ≡ cond t (without_cr p ∷ ended_from [] xs) (ended_from (p ++ x ∷ []) xs)
    ++ ended_from (cond t (rest_from [] xs) (rest_from (p ++ x ∷ []) xs)) ys)
    [ true ↦ ap (λ ls. without_cr p ∷ ls) (ended_from-append [] xs ys) | false ↦ ended_from-append (p ++ x ∷ []) xs ys ]

pub rest_from-append : (p xs ys : List ℕ) → rest_from p (xs ++ ys) ≡ rest_from (rest_from p xs) ys
rest_from-append p [] ys = refl
rest_from-append p (x ∷ xs) ys =
    elim (x == feed) as (λ t. cond t (rest_from [] (xs ++ ys)) (rest_from (p ++ x ∷ []) (xs ++ ys))
    ≡ rest_from (cond t (rest_from [] xs) (rest_from (p ++ x ∷ []) xs)) ys)
    [ true ↦ rest_from-append [] xs ys | false ↦ rest_from-append (p ++ x ∷ []) xs ys ]
