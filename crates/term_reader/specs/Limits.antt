-- Which terms and atoms are within the limits, and what may stand behind a canonical text.
use Rattle.std.specs.Prelude.{◌≡◌, ℕ, ◌+◌, Bool, true, false, cond, ◌&&◌, ◌||◌, ◌==◌, nat_lt, nat_le, List, [], ◌∷◌, ◌++◌, length, map, drop, ℤ, pos, negsuc, Result, Ok, Err}
use Rattle.std.proofs.Common.{ap, ◌∙◌}
use Rattle.event_model.specs.declared.terms.Term.{Term, out-Term}
use Rattle.event_model.specs.declared.terms.Term.TheOpen.{Term-F}
use Rattle.event_model.specs.declared.terms.Term.TheOpen.Term-F.{Num, Sym, Text, Comp}
use Rattle.event_model.specs.declared.terms.Term.TheFolds.{fold-Term, fold_out-Term, map-Term}
use Rattle.event_model.specs.declared.atoms.Atom.{Atom}
use Rattle.event_model.specs.Text.{term_text, atom_text}
use Rattle.event_model.specs.Bytes.{tab, feed, space}
use Rattle.event_model.specs.declared.terms.TheConstants.{MOST_ARGUMENTS, MOST_DEPTH}
use Rattle.term_reader.specs.declared.signs.TheConstants.{ASCII_LIMIT}
use Rattle.term_reader.specs.declared.numbers.TheConstants.{NUMBER_LIMIT}
use Rattle.term_reader.specs.declared.faults.TermFault.{TermFault}
use Rattle.term_reader.specs.declared.faults.TermFault.TheVariants.{Memory}
use Rattle.term_reader.specs.declared.signs.Sign.{Sign}
use Rattle.term_reader.specs.declared.signs.Sign.TheVariants.{Digit, Lower, Upper, Open}
use Rattle.term_reader.specs.declared.signs.Status.{Status}
use Rattle.term_reader.specs.declared.signs.Status.TheVariants.{Wrong, Whole, Needs}
use Rattle.term_reader.specs.Signs.{sign_of, status_first, status_more, is_whole}
use Rattle.term_reader.specs.Grammar.{Tree, Wanted.AnyTerm, Wanted.AnAtom, Stands, value, atom_value}
use Rattle.term_reader.specs.Readings.{is_lower, is_word, begins}

abbrev pub is_i64 : ℤ → Bool
is_i64 (pos n) = nat_lt n NUMBER_LIMIT
is_i64 (negsuc n) = nat_lt n NUMBER_LIMIT

-- letters, digits and `_`
abbrev pub all_word : List ℕ → Bool
all_word [] = true
all_word (b ∷ bytes) = is_word (sign_of b) && all_word bytes

-- a small letter, and then letters, digits and `_`
abbrev pub is_name : List ℕ → Bool
is_name [] = false
is_name (b ∷ bytes) = is_lower (sign_of b) && all_word bytes

-- a character of one byte that a text may hold
abbrev pub is_small : ℕ → Bool
is_small b = nat_le space b || b == tab || b == feed

-- how far a text is well-formed with one more byte; `Whole` where a character begins
abbrev pub text_status : Status → ℕ → Status
text_status Wrong b = Wrong
text_status Whole b = cond (nat_lt b ASCII_LIMIT) (cond (is_small b) Whole Wrong) (status_first b)
text_status (Needs n) b = status_more (Needs n) b

abbrev pub text_from : Status → List ℕ → Bool
text_from s [] = is_whole s
text_from s (b ∷ bytes) = text_from (text_status s b) bytes

-- well-formed UTF-8 without control characters but tab and line feed
abbrev pub is_text : List ℕ → Bool
is_text bytes = text_from Whole bytes

abbrev pub all_within : List (ℕ → Bool) → ℕ → Bool
all_within [] n = true
all_within (f ∷ fs) n = f n && all_within fs n

-- at a depth: a compound has at least one argument, and its arguments are one deeper
abbrev pub within_step : Term-F (ℕ → Bool) → ℕ → Bool
within_step (Num z) n = is_i64 z
within_step (Sym name) n = is_name name
within_step (Text text) n = is_text text
within_step (Comp name args) n =
    is_name name && (nat_lt n MOST_DEPTH
    && (nat_le 1 (length args) && (nat_le (length args) MOST_ARGUMENTS && all_within args (n + 1))))

unfoldable pub within : Term → ℕ → Bool
within = fold-Term (ℕ → Bool) within_step

pub within_at : (t : Term) {x : Term-F Term} → out-Term t ≡ x → within t ≡ within_step (map-Term Term (ℕ → Bool) within x)
unfolding within
within_at t p = fold_out-Term (ℕ → Bool) within_step t ∙ ap (λ x. within_step (map-Term Term (ℕ → Bool) within x)) p

-- a term stands at depth 1, and so do the arguments of an atom
abbrev pub is_within : Term → Bool
is_within t = within t 1

abbrev pub is_atom_within : Atom → Bool
is_atom_within a = is_name a.name && (nat_le (length a.args) MOST_ARGUMENTS && all_within (map within a.args) 1)

-- with these a name or a number goes on
abbrev pub goes_on : Sign → Bool
goes_on (Lower b) = true
goes_on (Upper b) = true
goes_on (Digit d) = true
goes_on Open = true
goes_on s = false

abbrev pub Free : List ℕ → Type 0
Free rest = begins goes_on rest ≡ false

-- this value and this place, or no memory
abbrev pub Gives : {X : Type 0} → X → ℕ → Result (X × ℕ) TermFault → Type 0
Gives x end (Ok y) = (y.0 ≡ x) × (y.1 ≡ end)
Gives x end (Err fault) = fault ≡ Memory

-- the canonical text of a term within the limits gives it back, and is read to its end
abbrev pub TermBack : List ℕ → ℕ → Result (Term × ℕ) TermFault → Type 0
TermBack bytes at r = (t : Term) (rest : List ℕ) → is_within t ≡ true → drop at bytes ≡ term_text t ++ rest → Free rest
    → Gives t (at + length (term_text t)) r

-- the same of an atom
abbrev pub AtomBack : List ℕ → ℕ → Result (Atom × ℕ) TermFault → Type 0
AtomBack bytes at r = (a : Atom) (rest : List ℕ) → is_atom_within a ≡ true → drop at bytes ≡ atom_text a ++ rest → Free rest
    → Gives a (at + length (atom_text a)) r

-- nothing of the grammar is refused: a tree that stands there is read
abbrev pub TermFound : List ℕ → ℕ → Result (Term × ℕ) TermFault → Type 0
TermFound bytes at r = (t : Tree) (end : ℕ) → Stands AnyTerm bytes at end t → Gives (value t) end r

abbrev pub AtomFound : List ℕ → ℕ → Result (Atom × ℕ) TermFault → Type 0
AtomFound bytes at r = (t : Tree) (end : ℕ) → Stands AnAtom bytes at end t → Gives (atom_value t) end r
