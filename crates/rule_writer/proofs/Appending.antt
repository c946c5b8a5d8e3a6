-- What follows one another in a text.
use Rattle.std.proofs.Common.{◌≡◌, ℕ, suc, ◌+◌, ◌^◌, ◌<◌, ◌≤◌, ℤ, pos, negsuc, Bool, true, false, cond, ◌==◌, List, [], ◌∷◌, ◌++◌, length, map, take, get_or, Some, ◌⊎◌, inl, inr, refl, sym, ap, ◌∙◌, subst, append_assoc, le_of_lt, arith, add-one, decimal, codes}
use Rattle.std.specs.List.{fold}
use Rattle.std.specs.Fmt.{signed_decimal, digits}
use Rattle.std.proofs.lemmas.Bool.{eqb-true}
use Rattle.std.proofs.lemmas.List.{map-append, take_more, length-take-le}
use Rattle.std.proofs.lemmas.List.Sums.{fold_push}
use Rattle.event_model.specs.declared.terms.Pat.{Pat}
use Rattle.rule_lexer.specs.declared.terminals.Terminal.TheVariants as t
use Rattle.rule_grammar.specs.Trees.{Term, Term.Lone, Arguments, Arguments.First, Arguments.Next, Literal, Literal.Digits, Literal.Minus, Literal.Least}
use Rattle.rule_grammar.specs.Marks.{Marked, Role.Quiet, Role.Counts, Role.Deepens}
use Rattle.rule_grammar.specs.Tokens.{quiet, literal, count_of, arguments}
use Rattle.rule_writer.specs.declared.terms.Place.{Place}
use Rattle.rule_writer.specs.declared.terms.Place.TheVariants.{Argument, Operand, Ground}
use Rattle.rule_writer.specs.Forms.{number_form, name_at, and_argument, compound_form}
use Rattle.rule_writer.specs.Canonical.{bytes_of}
use Rattle.rule_writer.specs.Writes.{Appends, LeafOf, spell_at, slot_form_at, any_form_at, form_at, term_tokens, compound_at, more_arguments, all_arguments}

-- bytes that spell tokens
pub pushes : {old new : List ℕ} (bs : List ℕ) (f : List Marked → List Marked) → new ≡ old ++ bs → ((rest : List Marked) → bytes_of (f rest) ≡ bs ++ bytes_of rest) → Appends old new f
pushes {old} bs f e h = record { bytes = λ rest. ap (λ x. x ++ bytes_of rest) e ∙ append_assoc old bs (bytes_of rest) ∙ ap (λ x. old ++ x) (sym (h rest)) }

pub nothing : (old : List ℕ) → Appends old old (λ rest. rest)
nothing old = record { bytes = λ rest. refl }

-- tokens behind others
pub then : {a b c : List ℕ} {f g : List Marked → List Marked} → Appends a b f → Appends b c g → Appends a c (λ rest. f (g rest))
then {g = g} p q = record { bytes = λ rest. q.bytes rest ∙ p.bytes (g rest) }

-- the same bytes from other tokens
pub seen : {a b : List ℕ} {f : List Marked → List Marked} (g : List Marked → List Marked) → Appends a b f → ((rest : List Marked) → bytes_of (f rest) ≡ bytes_of (g rest)) → Appends a b g
seen {a} g p h = record { bytes = λ rest. p.bytes rest ∙ ap (λ x. a ++ x) (h rest) }

pub instead : {a b : List ℕ} {f : List Marked → List Marked} (g : List Marked → List Marked) → Appends a b f → ((rest : List Marked) → f rest ≡ g rest) → Appends a b g
instead g p h = seen g p (λ rest. ap bytes_of (h rest))

-- ---- terms

lowest_decimal : decimal (2 ^ 63) ≡ codes "9223372036854775808"
unfolding digits
lowest_decimal = refl

pub zero_decimal : decimal 0 ≡ codes "0"
unfolding digits
zero_decimal = refl

pub zero_bytes : (rest : List Marked) → bytes_of (literal Quiet (Digits 0) rest) ≡ codes "0" ++ bytes_of rest
zero_bytes rest = ap (λ x. x ++ bytes_of rest) zero_decimal

pub number_bytes : (z : ℤ) (rest : List Marked) → bytes_of (literal Quiet (number_form z) rest) ≡ signed_decimal z ++ bytes_of rest
number_bytes (pos n) rest = refl
number_bytes (negsuc n) rest = at (n + 1 == 2 ^ 63) refl
  where
    at : (b : Bool) → (n + 1 == 2 ^ 63) ≡ b → bytes_of (literal Quiet (cond b Least (Minus (n + 1))) rest) ≡ 45 ∷ (decimal (suc n) ++ bytes_of rest)
    at true e =
        let m : n + 1 ≡ 2 ^ 63 = eqb-true (n + 1) (2 ^ 63) e in let k : 2 ^ 63 ≡ suc n = omega arith in
        ap (λ x. 45 ∷ (x ++ bytes_of rest)) (sym lowest_decimal ∙ ap decimal k)
    at false e = rw add-one refl

pub slot_name_written : (place : Place) (names : List (List ℕ)) (slot d : ℕ) {old new : List ℕ} → (place ≡ Argument) ⊎ (place ≡ Operand) → new ≡ old ++ name_at names slot
    → Appends old new (term_tokens place d (slot_form_at place names slot))
slot_name_written Argument names slot d h e = pushes (name_at names slot) _ e (λ rest. refl)
slot_name_written Operand names slot d h e = pushes (name_at names slot) _ e (λ rest. refl)
slot_name_written Ground names slot d (inl h) e = absurd (cc)
slot_name_written Ground names slot d (inr h) e = absurd (cc)

pub slot_zero_written : (place : Place) (names : List (List ℕ)) (slot d : ℕ) {old new : List ℕ} → place ≡ Ground → new ≡ old ++ codes "0" → Appends old new (term_tokens place d (slot_form_at place names slot))
slot_zero_written Argument names slot d h e = absurd (cc)
slot_zero_written Operand names slot d h e = absurd (cc)
slot_zero_written Ground names slot d h e = pushes (codes "0") _ e zero_bytes

pub any_wild_written : (place : Place) (d : ℕ) {old new : List ℕ} → place ≡ Argument → new ≡ old ++ codes "_" → Appends old new (term_tokens place d (any_form_at place))
any_wild_written Argument d h e = pushes (codes "_") _ e (λ rest. refl)
any_wild_written Operand d h e = absurd (cc)
any_wild_written Ground d h e = absurd (cc)

pub any_zero_written : (place : Place) (d : ℕ) {old new : List ℕ} → (place ≡ Operand) ⊎ (place ≡ Ground) → new ≡ old ++ codes "0" → Appends old new (term_tokens place d (any_form_at place))
any_zero_written Argument d (inl h) e = absurd (cc)
any_zero_written Argument d (inr h) e = absurd (cc)
any_zero_written Operand d h e = pushes (codes "0") _ e zero_bytes
any_zero_written Ground d h e = pushes (codes "0") _ e zero_bytes

pub literal_written : (place : Place) (l : Literal) (d : ℕ) (bs : List ℕ) {old new : List ℕ} → new ≡ old ++ bs → ((rest : List Marked) → bytes_of (literal Quiet l rest) ≡ bs ++ bytes_of rest)
    → Appends old new (term_tokens place d (Lone l))
literal_written place l d bs e h = pushes bs (literal Quiet l) e h

-- a name and arguments in brackets
behind_first : {W : Type 0} (as' : Arguments W) (xs : List (Term W)) → fold and_argument (Some as') xs ≡ Some (fold Next as' xs)
behind_first as' [] = refl
behind_first as' (x ∷ xs) = behind_first (Next as' x) xs

pub compound_written : (place : Place) (names : List (List ℕ)) (name : List ℕ) (args : List Pat) (d : ℕ) {a b c e f : List ℕ} → 0 < length args
    → b ≡ a ++ name → c ≡ b ++ codes "(" → Appends c e (all_arguments place names args (d + 1)) → f ≡ e ++ codes ")" → Appends a f (term_tokens place d (compound_at place names name args))
compound_written place names name [] d h p q r s = absurd (omega arith)
compound_written place names name (first ∷ others) d {a} {b} {c} {e} {f} h p q r s =
    subst (λ o. Appends a f (term_tokens place d (compound_form name o))) (sym (behind_first (First (form_at place names first)) (map (form_at place names) others)))
    (then (pushes name (quiet (t.Name name)) p (λ rest. refl))
    (then (pushes (codes "(") (λ rest. (Deepens (d + 1), t.Open) ∷ rest) q (λ rest. refl)) (then r (pushes (codes ")") (quiet t.Close) s (λ rest. refl)))))

pub first_argument : (place : Place) (names : List (List ℕ)) (args : List Pat) (x : Pat) (d : ℕ) {a b : List ℕ} → 0 < length args → x ≡ get_or args 0 x
    → Appends a b (term_tokens place d (form_at place names x)) → Appends a b (all_arguments place names (take 1 args) d)
first_argument place names [] x d h e p = absurd (omega arith)
first_argument place names (y ∷ ys) x d {a} {b} h e p = subst (λ z. Appends a b (term_tokens place d (form_at place names z))) e p

one_more : (place : Place) (names : List (List ℕ)) (ys : List Pat) (x : Pat) (d : ℕ) {a b c e : List ℕ} → 0 < length ys
    → Appends a b (all_arguments place names ys d) → c ≡ b ++ codes "," → Appends c e (term_tokens place d (form_at place names x)) → Appends a e (all_arguments place names (ys ++ x ∷ []) d)
one_more place names [] x d h p q r = absurd (omega arith)
one_more place names (y ∷ ys) x d {a} {b} {c} {e} h p q r =
    let form : Pat → Term (LeafOf place) = form_at place names in
    let same : more_arguments (form y) (map form (ys ++ x ∷ [])) ≡ Next (more_arguments (form y) (map form ys)) (form x)
    = ap (more_arguments (form y)) (map-append form ys (x ∷ [])) ∙ fold_push Next (First (form y)) (map form ys) (form x) in
    subst (λ as'. Appends a e (arguments (spell_at place) d as')) (sym same)
    (then p (then (pushes (codes ",") (λ rest. (Counts (count_of (more_arguments (form y) (map form ys)) + 1), t.Comma) ∷ rest) q (λ rest. refl)) r))

pub next_argument : (place : Place) (names : List (List ℕ)) (args : List Pat) (i : ℕ) (x : Pat) (d : ℕ) {a b c e : List ℕ} → 1 ≤ i → i < length args → x ≡ get_or args i x
    → Appends a b (all_arguments place names (take i args) d) → c ≡ b ++ codes "," → Appends c e (term_tokens place d (form_at place names x)) → Appends a e (all_arguments place names (take (i + 1) args) d)
next_argument place names args i x d {a} {b} {c} {e} low lt is p q r =
    let same : take (i + 1) args ≡ take i args ++ x ∷ [] = take_more args i x lt ∙ ap (λ y. take i args ++ y ∷ []) (sym is) in
    subst (λ ys. Appends a e (all_arguments place names ys d)) (sym same) (one_more place names (take i args) x d (omega (arith, length-take-le i args (le_of_lt lt))) p q r)
