-- The variables of arguments and patterns, as occurrences in the order of the text.
use Rattle.std.specs.Prelude.{ℕ, ℤ, ◌≡◌, refl, Bool, false, ◌||◌, ◌==◌, List, [], ◌∷◌, ◌++◌}
use Rattle.std.specs.List.{list_any, flat_map}
use Rattle.std.proofs.Common.{ap, ◌∙◌}
use Rattle.std.proofs.lemmas.List.Folds.{list_any-append, flat_map-map}
use Rattle.event_model.specs.declared.terms.Pat.{Pat, out-Pat}
use Rattle.event_model.specs.declared.terms.Pat.TheOpen.{Pat-F}
use Rattle.event_model.specs.declared.terms.Pat.TheOpen.Pat-F.{Var, Any, Num, Sym, Text, Comp}
use Rattle.event_model.specs.declared.terms.Pat.TheVariants as pat
use Rattle.event_model.specs.declared.terms.Pat.TheFolds.{fold-Pat, fold_out-Pat, map-Pat}
use Rattle.event_model.specs.declared.atoms.PatAtom.{PatAtom}
use Rattle.rule_ast.specs.Trees.{PlainPattern, Atom, Both, Either, Where, Exact, Within, Not}

abbrev pub slots_step : Pat-F (List ℕ) → List ℕ
slots_step (Var slot) = slot ∷ []
slots_step Any = []
slots_step (Num n) = []
slots_step (Sym name) = []
slots_step (Text text) = []
slots_step (Comp name args) = flat_map (λ slots. slots) args

-- the variables of an argument
unfoldable pub slots_of : Pat → List ℕ
slots_of = fold-Pat (List ℕ) slots_step

-- the variables of an atom
abbrev pub atom_vars : PatAtom → List ℕ
atom_vars a = flat_map slots_of a.args

-- the variables of a pattern's atoms; of a NOT those of its start and end patterns
abbrev pub vars : PlainPattern → List ℕ
vars (Atom a) = atom_vars a
vars (Both op l r) = vars l ++ vars r
vars (Either l r) = vars l ++ vars r
vars (Where p c) = vars p
vars (Exact p q) = vars p
vars (Within p q) = vars p
vars (Not i b a) = vars b ++ vars a

-- whether the slot is one of these
unfoldable pub is_in : ℕ → List ℕ → Bool
is_in slot slots = list_any (λ s. s == slot) slots

-- ---- laws

pub slots_at : (p : Pat) {x : Pat-F Pat} → out-Pat p ≡ x → slots_of p ≡ slots_step (map-Pat Pat (List ℕ) slots_of x)
unfolding slots_of
slots_at p e = fold_out-Pat (List ℕ) slots_step p ∙ ap (λ x. slots_step (map-Pat Pat (List ℕ) slots_of x)) e

pub slots_of-Var : (slot : ℕ) → slots_of (pat.Var slot) ≡ slot ∷ []
slots_of-Var slot = slots_at (pat.Var slot) (pat.outs-Var slot)

pub slots_of-Any : slots_of pat.Any ≡ []
slots_of-Any = slots_at pat.Any pat.outs-Any

pub slots_of-Num : (n : ℤ) → slots_of (pat.Num n) ≡ []
slots_of-Num n = slots_at (pat.Num n) (pat.outs-Num n)

pub slots_of-Sym : (name : List ℕ) → slots_of (pat.Sym name) ≡ []
slots_of-Sym name = slots_at (pat.Sym name) (pat.outs-Sym name)

pub slots_of-Text : (text : List ℕ) → slots_of (pat.Text text) ≡ []
slots_of-Text text = slots_at (pat.Text text) (pat.outs-Text text)

pub slots_of-Comp : (name : List ℕ) (args : List Pat) → slots_of (pat.Comp name args) ≡ flat_map slots_of args
slots_of-Comp name args = slots_at (pat.Comp name args) (pat.outs-Comp name args) ∙ flat_map-map (λ slots. slots) slots_of args

pub is_in-none : (t : ℕ) → is_in t [] ≡ false
unfolding is_in
is_in-none t = refl

pub is_in-cons : (t s : ℕ) (xs : List ℕ) → is_in t (s ∷ xs) ≡ ((s == t) || is_in t xs)
unfolding is_in
is_in-cons t s xs = refl

pub is_in-append : (t : ℕ) (xs ys : List ℕ) → is_in t (xs ++ ys) ≡ (is_in t xs || is_in t ys)
unfolding is_in
is_in-append t xs ys = list_any-append (λ s. s == t) xs ys

pub ruleset slot_lists =
    (slots_of-Var, slots_of-Any, slots_of-Num, slots_of-Sym, slots_of-Text, slots_of-Comp, is_in-none, is_in-cons, is_in-append)
