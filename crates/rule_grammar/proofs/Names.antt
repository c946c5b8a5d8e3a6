-- The names that tokens count: each once, none lost, and within the limit.
use Rattle.std.proofs.Common.{◌≡◌, ◌≤◌, ◌<◌, ℕ, ◌+◌, Bool, true, false, cond, not, ◌||◌, List, [], ◌∷◌, ◌++◌, length, Option, Some, None, refl, sym, ap, ◌∙◌, subst, arith}
use Rattle.std.specs.Prelude.{nat_lt}
use Rattle.std.specs.List.{list_any}
use Rattle.std.specs.Str.{bytes_eq}
use Rattle.std.proofs.lemmas.Bool.{and_parts, and_from, or_parts, or_from, or_left, or_right, not-true, not_from_false, false_from_ne_true, cond_both, ltb-false}
use Rattle.std.proofs.lemmas.List.Folds.{list_any-append}
use Rattle.std.proofs.lemmas.Slice.Eq.{bytes_eq-Decides}
use Rattle.rule_lexer.specs.declared.terminals.Terminal.{Terminal}
use Rattle.rule_lexer.specs.declared.terminals.Terminal.TheVariants as t
use Rattle.rule_ast.specs.Shaped.{names_differ}
use Rattle.rule_grammar.specs.declared.faults.Which.{Which}
use Rattle.rule_grammar.specs.declared.faults.Which.TheVariants.{Parts, Variables}
use Rattle.rule_grammar.specs.Marks.{Role, Marked, Counted, nothing_counted, with_name, with_token, count, count_all, over, by_role, passed}
use Rattle.rule_grammar.specs.Marks.{Role.Quiet, Role.Starts, Role.Single, Role.Binary, Role.Nests, Role.Deepens, Role.Counts, Role.Lists, Role.Lasts, Role.HasArity}
use Rattle.rule_grammar.specs.Texts.{IsWithin}
use Rattle.rule_grammar.specs.Values.{slot_of}
use Rattle.rule_grammar.proofs.Fronts.{IsInner, AllInner, IsNoVariable}

-- ---- limits

pub within_limit : (most n : ℕ) (w : Which) (o : Option Which) → over most n w o ≡ None → (n ≤ most) × (o ≡ None)
within_limit most n w o e = at (nat_lt most n) refl e
  where
    at : (b : Bool) → nat_lt most n ≡ b → cond b (Some w) o ≡ None → (n ≤ most) × (o ≡ None)
    at true q h = cc
    at false q h = (ltb-false most n q, h)

pub few_names : (g : Counted) (r : Role) → passed g r ≡ None → (length g.names ≤ 64) × (by_role r ≡ None)
few_names g r e = within_limit 64 (length g.names) Variables (by_role r) (within_limit 256 g.parts Parts (over 64 (length g.names) Variables (by_role r)) e).1

-- ---- names

abbrev pub IsKnown : List (List ℕ) → List ℕ → Type 0
IsKnown names name = list_any (bytes_eq name) names ≡ true

pub itself : (name : List ℕ) → bytes_eq name name ≡ true
itself name = (bytes_eq-Decides name name).1 refl

other_way : (a b : List ℕ) → bytes_eq a b ≡ false → bytes_eq b a ≡ false
other_way a b e = false_from_ne_true (bytes_eq b a) (λ q. let same = sym e ∙ (bytes_eq-Decides a b).1 (sym ((bytes_eq-Decides b a).0 q)) in cc)

pub slot_within : (names : List (List ℕ)) (name : List ℕ) → IsKnown names name → slot_of names name < length names
slot_within [] name h = cc
slot_within (n ∷ names) name h =
    cond_both (bytes_eq name n) 0 (slot_of names name + 1) (λ k. k < length (n ∷ names)) (λ q. omega arith) (λ q. at q (slot_within names name))
  where
    at : bytes_eq name n ≡ false → (IsKnown names name → slot_of names name < length names) → slot_of names name + 1 < length (n ∷ names)
    at q k = let here = k (ap (λ b. b || list_any (bytes_eq name) names) (sym q) ∙ h) in omega arith

differ-push : (names : List (List ℕ)) (name : List ℕ) → list_any (bytes_eq name) names ≡ false → names_differ names ≡ true → names_differ (names ++ name ∷ []) ≡ true
differ-push [] name e h = refl
differ-push (x ∷ names) name e h =
    let new = or_parts (bytes_eq name x) (list_any (bytes_eq name) names) e in
    let old = and_parts (not (list_any (bytes_eq x) names)) (names_differ names) h in
    and_from (not (list_any (bytes_eq x) (names ++ name ∷ []))) (names_differ (names ++ name ∷ []))
    (not_from_false _ (list_any-append (bytes_eq x) names (name ∷ []) ∙ or_from _ _ (not-true _ old.0) (or_from _ false (other_way name x new.0) refl)))
    (differ-push names name new.1 old.1)

name_differs : (names : List (List ℕ)) (name : List ℕ) → names_differ names ≡ true → names_differ (with_name names name) ≡ true
name_differs names name h =
    cond_both (list_any (bytes_eq name) names) names (names ++ name ∷ []) (λ ns. names_differ ns ≡ true) (λ q. h) (λ q. differ-push names name q h)

name_known : (names : List (List ℕ)) (name : List ℕ) → IsKnown (with_name names name) name
name_known names name =
    cond_both (list_any (bytes_eq name) names) names (names ++ name ∷ []) (λ ns. IsKnown ns name) (λ q. q)
    (λ q. list_any-append (bytes_eq name) names (name ∷ []) ∙ or_right (list_any (bytes_eq name) names) _ (or_left (bytes_eq name name) false (itself name)))

name_stays : (names : List (List ℕ)) (name old : List ℕ) → IsKnown names old → IsKnown (with_name names name) old
name_stays names name old h =
    cond_both (list_any (bytes_eq name) names) names (names ++ name ∷ []) (λ ns. IsKnown ns old) (λ q. h)
    (λ q. list_any-append (bytes_eq old) names (name ∷ []) ∙ or_left (list_any (bytes_eq old) names) _ h)

-- ---- tokens

-- a variable's name is one of these
abbrev pub TokenKnown : List (List ℕ) → Terminal → Type 0
TokenKnown names (t.Var name) = IsKnown names name
TokenKnown names x = Unit {0}

pub no_variable_known : (names : List (List ℕ)) (x : Terminal) → IsNoVariable x → TokenKnown names x
no_variable_known names (t.Var name) h = absurd h
no_variable_known names x h = tt

token_differs : (names : List (List ℕ)) (x : Terminal) → names_differ names ≡ true → names_differ (with_token names x) ≡ true
token_differs names (t.Var name) h = name_differs names name h
token_differs names x h = h

token_known : (names : List (List ℕ)) (x : Terminal) → TokenKnown (with_token names x) x
token_known names (t.Var name) = name_known names name
token_known names x = tt

token_stays : (names : List (List ℕ)) (x : Terminal) (old : List ℕ) → IsKnown names old → IsKnown (with_token names x) old
token_stays names (t.Var name) old h = name_stays names name old h
token_stays names x old h = h

counted : (g : Counted) (m : Marked) → IsInner m.0 → (count g m).names ≡ with_token g.names m.1
counted g (Quiet, x) i = refl
counted g (Starts n, x) i = absurd i
counted g (Single, x) i = refl
counted g (Binary, x) i = refl
counted g (Nests n, x) i = refl
counted g (Deepens n, x) i = refl
counted g (Counts n, x) i = refl
counted g (Lists, x) i = refl
counted g (Lasts q, x) i = refl
counted g (HasArity n, x) i = refl

stays_known : (g : Counted) (ms : List Marked) → AllInner ms → (name : List ℕ) → IsKnown g.names name → IsKnown (count_all g ms).names name
stays_known g [] i name h = h
stays_known g (m ∷ ms) i name h =
    stays_known (count g m) ms i.1 name (subst (λ ns. IsKnown ns name) (sym (counted g m i.0)) (token_stays g.names m.1 name h))

all_differ : (g : Counted) (ms : List Marked) → AllInner ms → names_differ g.names ≡ true → names_differ (count_all g ms).names ≡ true
all_differ g [] i h = h
all_differ g (m ∷ ms) i h =
    all_differ (count g m) ms i.1 (subst (λ ns. names_differ ns ≡ true) (sym (counted g m i.0)) (token_differs g.names m.1 h))

all_few : (g : Counted) (ms rest : List Marked) → length g.names ≤ 64 → IsWithin g (ms ++ rest) → length (count_all g ms).names ≤ 64
all_few g [] rest h w = h
all_few g (m ∷ ms) rest h w = all_few (count g m) ms rest (few_names (count g m) m.0 w.0).0 w.1

pub rest_within : (g : Counted) (ms rest : List Marked) → IsWithin g (ms ++ rest) → IsWithin (count_all g ms) rest
rest_within g [] rest w = w
rest_within g (m ∷ ms) rest w = rest_within (count g m) ms rest w.1

-- no token's role passes a limit, and the names of variables are among these
abbrev pub Fits : List (List ℕ) → List Marked → Type 0
Fits names [] = Unit {0}
Fits names (m ∷ ms) = (by_role m.0 ≡ None) × TokenKnown names m.1 × Fits names ms

token_kept : (g : Counted) (ms : List Marked) → AllInner ms → (x : Terminal) → TokenKnown g.names x → TokenKnown (count_all g ms).names x
token_kept g ms i (t.Var name) h = stays_known g ms i name h
token_kept g ms i x h = tt

all_fit : (g : Counted) (ms rest : List Marked) → AllInner ms → IsWithin g (ms ++ rest) → Fits (count_all g ms).names ms
all_fit g [] rest i w = tt
all_fit g (m ∷ ms) rest i w = (
  (few_names (count g m) m.0 w.0).1,
  token_kept (count g m) ms i.1 m.1 (subst (λ ns. TokenKnown ns m.1) (sym (counted g m i.0)) (token_known g.names m.1)),
  all_fit (count g m) ms rest i.1 w.1,
)

-- the names of a statement's tokens
pub record IsNamed (names : List (List ℕ)) (ms : List Marked) : Type 0 where
  pub few : length names ≤ 64
  pub differ : names_differ names ≡ true
  pub fits : Fits names ms

pub named : (ms rest : List Marked) → AllInner ms → IsWithin nothing_counted (ms ++ rest) → IsNamed (count_all nothing_counted ms).names ms
named ms rest i w = record {
  few = all_few nothing_counted ms rest (omega arith) w;
  differ = all_differ nothing_counted ms i refl;
  fits = all_fit nothing_counted ms rest i w;
}
