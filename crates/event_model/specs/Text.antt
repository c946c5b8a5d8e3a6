-- The canonical text of terms and atoms.
use Rattle.std.specs.Prelude.{ℕ, ℤ, ◌≡◌, if◌then◌else◌, ◌==◌, List, [], ◌∷◌, ◌++◌, map, codes}
use Rattle.std.specs.List.{join_with_byte, flat_map}
use Rattle.std.specs.Fmt.{signed_decimal}
use Rattle.std.proofs.Common.{ap, ◌∙◌}
use Rattle.event_model.specs.Bytes.{tab, feed, quote, open_round, close_round, comma, backslash}
use Rattle.event_model.specs.declared.terms.Term.{Term, out-Term}
use Rattle.event_model.specs.declared.terms.Term.TheOpen.{Term-F}
use Rattle.event_model.specs.declared.terms.Term.TheVariants as made
use Rattle.event_model.specs.declared.terms.Term.TheOpen.Term-F.{Num, Sym, Text, Comp}
use Rattle.event_model.specs.declared.terms.Term.TheFolds.{fold-Term, fold_out-Term, map-Term}
use Rattle.event_model.specs.declared.atoms.Atom.{Atom}

-- a byte of a text, by an escape where it needs one: a quote, a backslash, a line feed or a tab
abbrev pub escape : ℕ → List ℕ
escape b =
    if b == quote then codes "\\\"" else (if b == backslash then codes "\\\\" else
    (if b == feed then codes "\\n" else (if b == tab then codes "\\t" else b ∷ [])))

-- a text between quotes
abbrev pub quoted : List ℕ → List ℕ
quoted text = quote ∷ flat_map escape text ++ quote ∷ []

-- a name and its arguments
abbrev pub applied : List ℕ → List (List ℕ) → List ℕ
applied name args = name ++ open_round ∷ join_with_byte comma args ++ close_round ∷ []

abbrev pub text_step : Term-F (List ℕ) → List ℕ
text_step (Num n) = signed_decimal n
text_step (Sym name) = name
text_step (Text text) = quoted text
text_step (Comp name args) = applied name args

unfoldable pub term_text : Term → List ℕ
term_text = fold-Term (List ℕ) text_step

pub text_at : (t : Term) {x : Term-F Term} → out-Term t ≡ x → term_text t ≡ text_step (map-Term Term (List ℕ) term_text x)
unfolding term_text
text_at t p = fold_out-Term (List ℕ) text_step t ∙ ap (λ x. text_step (map-Term Term (List ℕ) term_text x)) p

pub term_text-Num : (n : ℤ) → term_text (made.Num n) ≡ signed_decimal n
term_text-Num n = text_at (made.Num n) (made.outs-Num n)

pub term_text-Sym : (name : List ℕ) → term_text (made.Sym name) ≡ name
term_text-Sym name = text_at (made.Sym name) (made.outs-Sym name)

pub term_text-Text : (text : List ℕ) → term_text (made.Text text) ≡ quoted text
term_text-Text text = text_at (made.Text text) (made.outs-Text text)

pub term_text-Comp : (name : List ℕ) (args : List Term) → term_text (made.Comp name args) ≡ applied name (map term_text args)
term_text-Comp name args = text_at (made.Comp name args) (made.outs-Comp name args)

pub ruleset texts = (term_text-Num, term_text-Sym, term_text-Text, term_text-Comp)

-- an atom without arguments is its name alone
abbrev pub written : List ℕ → List (List ℕ) → List ℕ
written name [] = name
written name (arg ∷ args) = applied name (arg ∷ args)

abbrev pub atom_text : Atom → List ℕ
atom_text a = written a.name (map term_text a.args)
