-- What the writer appends for heads.
use Rattle.std.proofs.Common.{◌≡◌, ℕ, ◌+◌, ◌<◌, ◌≤◌, List, [], ◌∷◌, ◌++◌, length, map, take, get_or, Some, None, refl, sym, ap, ◌∙◌, subst, le_of_lt, arith, codes}
use Rattle.std.specs.List.{fold}
use Rattle.std.proofs.lemmas.List.{map-append, take_more, length-take-le}
use Rattle.std.proofs.lemmas.List.Sums.{fold_push}
use Rattle.event_model.specs.declared.terms.Pat.{Pat, out-Pat, roll-Pat, roll-out-Pat}
use Rattle.event_model.specs.declared.terms.Pat.TheOpen.{Pat-F}
use Rattle.event_model.specs.declared.terms.Pat.TheOpen.Pat-F.{Var, Any, Num, Sym, Text, Comp}
use Rattle.event_model.specs.declared.terms.Pat.TheVariants as pat
use Rattle.rule_lexer.specs.declared.terminals.Terminal.TheVariants as t
use Rattle.rule_grammar.specs.Trees.{HeadTerm, HeadTerms, HeadTerms.FirstTerm, HeadTerms.NextTerm}
use Rattle.rule_grammar.specs.Marks.{Role.Starts, Role.Counts}
use Rattle.rule_grammar.specs.Tokens.{quiet, head_term, count_of_terms, head_terms, heading}
use Rattle.rule_writer.specs.declared.terms.Place.TheVariants.{Ground}
use Rattle.rule_writer.specs.Forms.{name_at, head_term_step, head_term_form, and_head_term, applied_form}
use Rattle.rule_writer.specs.Writes.{Appends, term_tokens, form_at, more_head_terms, all_head_terms}
use Rattle.rule_writer.proofs.Appending.{pushes, then}

pub leading_written : (names : List (List ℕ)) (slot : ℕ) {a b : List ℕ} → b ≡ a ++ name_at names slot → Appends a b (head_term (head_term_form names (pat.Var slot)))
leading_written names slot {a} {b} e =
    subst (λ x. Appends a b (head_term (head_term_step names (pat.Var slot) x))) (sym (pat.outs-Var slot)) (pushes (name_at names slot) (quiet (t.Var (name_at names slot))) e (λ rest. refl))

pub fixed_written : (names : List (List ℕ)) (p : Pat) {a b : List ℕ} → ((slot : ℕ) → p ≡ pat.Var slot → ⊥) → Appends a b (term_tokens Ground 1 (form_at Ground names p)) → Appends a b (head_term (head_term_form names p))
fixed_written names p {a} {b} n h = at (out-Pat p) refl
  where
    at : (x : Pat-F Pat) → out-Pat p ≡ x → Appends a b (head_term (head_term_step names p x))
    at (Var slot) e = absurd (n slot (sym (roll-out-Pat p) ∙ ap roll-Pat (e ∙ sym (pat.outs-Var slot)) ∙ roll-out-Pat (pat.Var slot)))
    at Any e = h
    at (Num z) e = h
    at (Sym name) e = h
    at (Text bytes) e = h
    at (Comp name args) e = h

behind_first : (as' : HeadTerms) (xs : List HeadTerm) → fold and_head_term (Some as') xs ≡ Some (fold NextTerm as' xs)
behind_first as' [] = refl
behind_first as' (x ∷ xs) = behind_first (NextTerm as' x) xs

pub head_written : (names : List (List ℕ)) (name : List ℕ) (args : List Pat) (n : ℕ) {a b c e f : List ℕ} → 0 < length args
    → b ≡ a ++ name → c ≡ b ++ codes "(" → Appends c e (all_head_terms names args) → f ≡ e ++ codes ")" → Appends a f (heading n (applied_form name (fold and_head_term None (map (head_term_form names) args))))
head_written names name [] n h p q r s = absurd (omega arith)
head_written names name (first ∷ others) n {a} {b} {c} {e} {f} h p q r s =
    subst (λ o. Appends a f (heading n (applied_form name o))) (sym (behind_first (FirstTerm (head_term_form names first)) (map (head_term_form names) others)))
    (then (pushes name (λ rest. (Starts n, t.Name name) ∷ rest) p (λ rest. refl))
    (then (pushes (codes "(") (quiet t.Open) q (λ rest. refl)) (then r (pushes (codes ")") (quiet t.Close) s (λ rest. refl)))))

pub first_head_term : (names : List (List ℕ)) (args : List Pat) (x : Pat) {a b : List ℕ} → 0 < length args → x ≡ get_or args 0 x
    → Appends a b (head_term (head_term_form names x)) → Appends a b (all_head_terms names (take 1 args))
first_head_term names [] x h e p = absurd (omega arith)
first_head_term names (y ∷ ys) x {a} {b} h e p = subst (λ z. Appends a b (head_term (head_term_form names z))) e p

one_more : (names : List (List ℕ)) (ys : List Pat) (x : Pat) {a b c e : List ℕ} → 0 < length ys
    → Appends a b (all_head_terms names ys) → c ≡ b ++ codes "," → Appends c e (head_term (head_term_form names x)) → Appends a e (all_head_terms names (ys ++ x ∷ []))
one_more names [] x h p q r = absurd (omega arith)
one_more names (y ∷ ys) x {a} {b} {c} {e} h p q r =
    let form : Pat → HeadTerm = head_term_form names in
    let same : more_head_terms (form y) (map form (ys ++ x ∷ [])) ≡ NextTerm (more_head_terms (form y) (map form ys)) (form x)
    = ap (more_head_terms (form y)) (map-append form ys (x ∷ [])) ∙ fold_push NextTerm (FirstTerm (form y)) (map form ys) (form x) in
    subst (λ as'. Appends a e (head_terms as')) (sym same)
    (then p (then (pushes (codes ",") (λ rest. (Counts (count_of_terms (more_head_terms (form y) (map form ys)) + 1), t.Comma) ∷ rest) q (λ rest. refl)) r))

pub next_head_term : (names : List (List ℕ)) (args : List Pat) (i : ℕ) (x : Pat) {a b c e : List ℕ} → 1 ≤ i → i < length args → x ≡ get_or args i x
    → Appends a b (all_head_terms names (take i args)) → c ≡ b ++ codes "," → Appends c e (head_term (head_term_form names x)) → Appends a e (all_head_terms names (take (i + 1) args))
next_head_term names args i x {a} {b} {c} {e} low lt is p q r =
    let same : take (i + 1) args ≡ take i args ++ x ∷ [] = take_more args i x lt ∙ ap (λ y. take i args ++ y ∷ []) (sym is) in
    subst (λ ys. Appends a e (all_head_terms names ys)) (sym same) (one_more names (take i args) x (omega (arith, length-take-le i args (le_of_lt lt))) p q r)
