-- When a binding makes the atom of a rule a ground atom, with no word on how such a binding is found.
use Rattle.std.specs.Prelude.{ℕ, ◌≡◌, Bool, true, false, ◌==◌, ◌&&◌, Option, Some, None, is_some, List, [], ◌∷◌, map}
use Rattle.std.specs.List.{list_any}
use Rattle.std.specs.Ordering.{is_eq}
use Rattle.std.specs.Str.{bytes_eq}
use Rattle.std.proofs.Common.{ap, ◌∙◌}
use Rattle.event_model.specs.TermOrder.{term_cmp}
use Rattle.event_model.specs.declared.terms.Term.{Term, out-Term}
use Rattle.event_model.specs.declared.terms.Term.TheOpen.{Term-F}
use Rattle.event_model.specs.declared.terms.Term.TheOpen.Term-F.{Num as TNum, Sym as TSym, Text as TText, Comp as TComp}
use Rattle.event_model.specs.declared.terms.Term.TheVariants as made
use Rattle.event_model.specs.declared.terms.Pat.{Pat, out-Pat}
use Rattle.event_model.specs.declared.terms.Pat.TheOpen.{Pat-F}
use Rattle.event_model.specs.declared.terms.Pat.TheOpen.Pat-F.{Var, Any, Num, Sym, Text, Comp}
use Rattle.event_model.specs.declared.terms.Pat.TheFolds.{fold-Pat, fold_out-Pat, map-Pat}
use Rattle.event_model.specs.declared.atoms.Atom.{Atom}
use Rattle.event_model.specs.declared.atoms.PatAtom.{PatAtom}
use Rattle.ev_bind.specs.Bindings.{Pairs, IsBinding, value_at}

-- one term
abbrev pub same : Term → Term → Bool
same s t = is_eq (term_cmp s t)

-- a value that is this term
abbrev pub is_value : Option Term → Term → Bool
is_value None t = false
is_value (Some v) t = same v t

-- each argument its term, and as many of them
abbrev pub all_fit : List (Term → Bool) → List Term → Bool
all_fit [] [] = true
all_fit [] (t ∷ ts) = false
all_fit (p ∷ ps) [] = false
all_fit (p ∷ ps) (t ∷ ts) = p t && all_fit ps ts

-- a compound of this name whose arguments fit
abbrev pub is_compound : List ℕ → List (Term → Bool) → Term-F Term → Bool
is_compound name ps (TNum n) = false
is_compound name ps (TSym s) = false
is_compound name ps (TText s) = false
is_compound name ps (TComp f ts) = bytes_eq name f && all_fit ps ts

-- a variable's value is the term, `_` is every term, a constant is itself
abbrev pub fits_step : Pairs → Pat-F (Term → Bool) → Term → Bool
fits_step b (Var slot) t = is_value (value_at b slot) t
fits_step b Any t = true
fits_step b (Num n) t = same (made.Num n) t
fits_step b (Sym name) t = same (made.Sym name) t
fits_step b (Text text) t = same (made.Text text) t
fits_step b (Comp name ps) t = is_compound name ps (out-Term t)

-- under this binding the argument is the term
unfoldable pub fits : Pairs → Pat → Term → Bool
fits b = fold-Pat (Term → Bool) (fits_step b)

pub fits_at : (b : Pairs) (p : Pat) {x : Pat-F Pat} → out-Pat p ≡ x → fits b p ≡ fits_step b (map-Pat Pat (Term → Bool) (fits b) x)
unfolding fits
fits_at b p e = fold_out-Pat (Term → Bool) (fits_step b) p ∙ ap (λ x. fits_step b (map-Pat Pat (Term → Bool) (fits b) x)) e

abbrev pub occurs_step : ℕ → Pat-F Bool → Bool
occurs_step slot (Var s) = s == slot
occurs_step slot Any = false
occurs_step slot (Num n) = false
occurs_step slot (Sym name) = false
occurs_step slot (Text text) = false
occurs_step slot (Comp name ps) = list_any (λ p. p) ps

-- the argument has the variable
unfoldable pub occurs : ℕ → Pat → Bool
occurs slot = fold-Pat Bool (occurs_step slot)

pub occurs_at : (slot : ℕ) (p : Pat) {x : Pat-F Pat} → out-Pat p ≡ x → occurs slot p ≡ occurs_step slot (map-Pat Pat Bool (occurs slot) x)
unfolding occurs
occurs_at slot p e = fold_out-Pat Bool (occurs_step slot) p ∙ ap (λ x. occurs_step slot (map-Pat Pat Bool (occurs slot) x)) e

-- a binding of exactly the variables of the atom of a rule, under which it is the ground atom
pub record Matches (p : PatAtom) (a : Atom) (b : Pairs) : Type 0 where
  pub binding : IsBinding b
  pub name : p.name ≡ a.name
  pub args : all_fit (map (fits b) p.args) a.args ≡ true
  pub slots : (slot : ℕ) → is_some (value_at b slot) ≡ list_any (occurs slot) p.args
