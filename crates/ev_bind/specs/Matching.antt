-- When an atom of a rule matches a ground atom, and what an argument of a rule is under a binding.
use Rattle.std.specs.Prelude.{ℕ, suc, ℤ, pos, ◌≡◌, if◌then◌else◌, ◌++◌, Option, Some, None, option_and_then, unwrap_or, List, [], ◌∷◌, map}
use Rattle.std.specs.Ordering.{int_eq}
use Rattle.std.specs.Str.{bytes_eq}
use Rattle.std.proofs.Common.{refl, ap, ◌∙◌}
use Rattle.event_model.specs.declared.terms.Term.{Term, out-Term}
use Rattle.event_model.specs.declared.terms.Term.TheOpen.{Term-F}
use Rattle.event_model.specs.declared.terms.Term.TheOpen.Term-F.{Num as TNum, Sym as TSym, Text as TText, Comp as TComp}
use Rattle.event_model.specs.declared.terms.Term.TheVariants as made
use Rattle.event_model.specs.declared.terms.Pat.{Pat, out-Pat}
use Rattle.event_model.specs.declared.terms.Pat.TheOpen.{Pat-F}
use Rattle.event_model.specs.declared.terms.Pat.TheOpen.Pat-F.{Var, Any, Num, Sym, Text, Comp}
use Rattle.event_model.specs.declared.terms.Pat.TheVariants as pat
use Rattle.event_model.specs.declared.terms.Pat.TheFolds.{fold-Pat, fold_out-Pat, map-Pat}
use Rattle.event_model.specs.declared.atoms.Atom.{Atom}
use Rattle.event_model.specs.declared.atoms.PatAtom.{PatAtom}
use Rattle.ev_bind.specs.Bindings.{Pairs, union_of, value_at}

-- both pairs, where both are there
abbrev pub with_pairs : Option Pairs → Option Pairs → Option Pairs
with_pairs None more = None
with_pairs (Some xs) None = None
with_pairs (Some xs) (Some ys) = Some (xs ++ ys)

-- argument by argument; none where the numbers of arguments differ
abbrev pub pairs_of_all : List (Term → Option Pairs) → List Term → Option Pairs
pairs_of_all [] [] = Some []
pairs_of_all [] (t ∷ ts) = None
pairs_of_all (p ∷ ps) [] = None
pairs_of_all (p ∷ ps) (t ∷ ts) = with_pairs (p t) (pairs_of_all ps ts)

-- a constant stands for itself and binds nothing
abbrev pub number_pairs : ℤ → Term-F Term → Option Pairs
number_pairs n (TNum m) = if int_eq n m then Some [] else None
number_pairs n (TSym s) = None
number_pairs n (TText s) = None
number_pairs n (TComp f ts) = None

abbrev pub symbol_pairs : List ℕ → Term-F Term → Option Pairs
symbol_pairs name (TNum m) = None
symbol_pairs name (TSym s) = if bytes_eq name s then Some [] else None
symbol_pairs name (TText s) = None
symbol_pairs name (TComp f ts) = None

abbrev pub text_pairs : List ℕ → Term-F Term → Option Pairs
text_pairs text (TNum m) = None
text_pairs text (TSym s) = None
text_pairs text (TText s) = if bytes_eq text s then Some [] else None
text_pairs text (TComp f ts) = None

abbrev pub compound_pairs : List ℕ → List (Term → Option Pairs) → Term-F Term → Option Pairs
compound_pairs name ps (TNum m) = None
compound_pairs name ps (TSym s) = None
compound_pairs name ps (TText s) = None
compound_pairs name ps (TComp f ts) = if bytes_eq name f then pairs_of_all ps ts else None

-- the variables of an argument with the terms that stand at their places; none where a constant differs
abbrev pub pairs_step : Pat-F (Term → Option Pairs) → Term → Option Pairs
pairs_step (Var slot) t = Some ((slot, t) ∷ [])
pairs_step Any t = Some []
pairs_step (Num n) t = number_pairs n (out-Term t)
pairs_step (Sym name) t = symbol_pairs name (out-Term t)
pairs_step (Text text) t = text_pairs text (out-Term t)
pairs_step (Comp name ps) t = compound_pairs name ps (out-Term t)

unfoldable pub pairs_of : Pat → Term → Option Pairs
pairs_of = fold-Pat (Term → Option Pairs) pairs_step

pub pairs_at : (p : Pat) {x : Pat-F Pat} → out-Pat p ≡ x → pairs_of p ≡ pairs_step (map-Pat Pat (Term → Option Pairs) pairs_of x)
unfolding pairs_of
pairs_at p e = fold_out-Pat (Term → Option Pairs) pairs_step p ∙ ap (λ x. pairs_step (map-Pat Pat (Term → Option Pairs) pairs_of x)) e

pub pairs_of-Var : (slot : ℕ) (t : Term) → pairs_of (pat.Var slot) t ≡ Some ((slot, t) ∷ [])
pairs_of-Var slot t = ap (λ f. f t) (pairs_at (pat.Var slot) (pat.outs-Var slot))

pub pairs_of-Any : (t : Term) → pairs_of pat.Any t ≡ Some []
pairs_of-Any t = ap (λ f. f t) (pairs_at pat.Any pat.outs-Any)

pub pairs_of-Num : (n : ℤ) (t : Term) → pairs_of (pat.Num n) t ≡ number_pairs n (out-Term t)
pairs_of-Num n t = ap (λ f. f t) (pairs_at (pat.Num n) (pat.outs-Num n))

pub pairs_of-Sym : (name : List ℕ) (t : Term) → pairs_of (pat.Sym name) t ≡ symbol_pairs name (out-Term t)
pairs_of-Sym name t = ap (λ f. f t) (pairs_at (pat.Sym name) (pat.outs-Sym name))

pub pairs_of-Text : (text : List ℕ) (t : Term) → pairs_of (pat.Text text) t ≡ text_pairs text (out-Term t)
pairs_of-Text text t = ap (λ f. f t) (pairs_at (pat.Text text) (pat.outs-Text text))

pub pairs_of-Comp : (name : List ℕ) (ps : List Pat) (t : Term)
    → pairs_of (pat.Comp name ps) t ≡ compound_pairs name (map pairs_of ps) (out-Term t)
pairs_of-Comp name ps t = ap (λ f. f t) (pairs_at (pat.Comp name ps) (pat.outs-Comp name ps))

pub ruleset pairings = (pairs_of-Var, pairs_of-Any, pairs_of-Num, pairs_of-Sym, pairs_of-Text, pairs_of-Comp)

-- the one binding of the variables under which the atom of a rule is the ground atom
abbrev pub match_of_args : List Pat → List Term → Option Pairs
match_of_args ps ts = option_and_then union_of (pairs_of_all (map pairs_of ps) ts)

abbrev pub match_of : PatAtom → Atom → Option Pairs
match_of p a = if bytes_eq p.name a.name then match_of_args p.args a.args else None

-- the values of a binding, in the order of slots
abbrev pub values : Pairs → List Term
values b = map (λ p. p.1) b

-- the terms as the values of the slots from this one on
abbrev pub numbered : ℕ → List Term → Pairs
numbered slot [] = []
numbered slot (t ∷ ts) = (slot, t) ∷ numbered (suc slot) ts

-- ---- an argument under a binding; a variable that it doesn't bind, and `_`, are 0, and no sound rule has one in its head

abbrev pub instance_step : Pat-F (Pairs → Term) → Pairs → Term
instance_step (Var slot) b = unwrap_or (value_at b slot) (made.Num (pos 0))
instance_step Any b = made.Num (pos 0)
instance_step (Num n) b = made.Num n
instance_step (Sym name) b = made.Sym name
instance_step (Text text) b = made.Text text
instance_step (Comp name args) b = made.Comp name (map (λ arg. arg b) args)

unfoldable pub instance : Pat → Pairs → Term
instance = fold-Pat (Pairs → Term) instance_step

pub instance_at : (p : Pat) {x : Pat-F Pat} → out-Pat p ≡ x → instance p ≡ instance_step (map-Pat Pat (Pairs → Term) instance x)
unfolding instance
instance_at p e = fold_out-Pat (Pairs → Term) instance_step p ∙ ap (λ x. instance_step (map-Pat Pat (Pairs → Term) instance x)) e

pub instance-Var : (slot : ℕ) (b : Pairs) → instance (pat.Var slot) b ≡ unwrap_or (value_at b slot) (made.Num (pos 0))
instance-Var slot b = ap (λ f. f b) (instance_at (pat.Var slot) (pat.outs-Var slot))

pub instance-Any : (b : Pairs) → instance pat.Any b ≡ made.Num (pos 0)
instance-Any b = ap (λ f. f b) (instance_at pat.Any pat.outs-Any)

pub instance-Num : (n : ℤ) (b : Pairs) → instance (pat.Num n) b ≡ made.Num n
instance-Num n b = ap (λ f. f b) (instance_at (pat.Num n) (pat.outs-Num n))

pub instance-Sym : (name : List ℕ) (b : Pairs) → instance (pat.Sym name) b ≡ made.Sym name
instance-Sym name b = ap (λ f. f b) (instance_at (pat.Sym name) (pat.outs-Sym name))

pub instance-Text : (text : List ℕ) (b : Pairs) → instance (pat.Text text) b ≡ made.Text text
instance-Text text b = ap (λ f. f b) (instance_at (pat.Text text) (pat.outs-Text text))

map-map : {A B C : Type 0} (f : B → C) (g : A → B) (xs : List A) → map f (map g xs) ≡ map (λ x. f (g x)) xs
map-map f g [] = refl
map-map f g (x ∷ xs) = ap (λ l. f (g x) ∷ l) (map-map f g xs)

pub instance-Comp : (name : List ℕ) (args : List Pat) (b : Pairs)
    → instance (pat.Comp name args) b ≡ made.Comp name (map (λ arg. instance arg b) args)
instance-Comp name args b =
    ap (λ f. f b) (instance_at (pat.Comp name args) (pat.outs-Comp name args)) ∙ ap (made.Comp name) (map-map (λ arg. arg b) instance args)

pub ruleset instances = (instance-Var, instance-Any, instance-Num, instance-Sym, instance-Text, instance-Comp)

-- the kinds of terms, opened
pub ruleset outs = (made.outs-Num, made.outs-Sym, made.outs-Text, made.outs-Comp)
