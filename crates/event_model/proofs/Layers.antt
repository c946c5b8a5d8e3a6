-- A fact of arguments of rules, from that of a layer whose arguments have it.
use Rattle.std.proofs.Common.{List, [], ◌∷◌, map, subst}
use Rattle.event_model.specs.declared.terms.Pat.{Pat, roll-Pat}
use Rattle.event_model.specs.declared.terms.Pat.TheOpen.{Pat-F}
use Rattle.event_model.specs.declared.terms.Pat.TheOpen.Pat-F.{Var, Any, Num, Sym, Text, Comp}
use Rattle.event_model.specs.declared.terms.Pat.TheFolds.{map-Pat, ind-Pat}

abbrev pub Each : (Pat → Type 0) → List Pat → Type 0
Each P [] = Unit {0}
Each P (x ∷ xs) = P x × Each P xs

abbrev pub args_of : Pat-F Pat → List Pat
args_of (Var slot) = []
args_of Any = []
args_of (Num n) = []
args_of (Sym s) = []
args_of (Text s) = []
args_of (Comp f ps) = ps

pub by_layers : (P : Pat → Type 0) → ((a : Pat-F Pat) → Each P (args_of a) → P (roll-Pat a)) → (p : Pat) → P p
by_layers P h = ind-Pat P (λ x y is. subst (λ z. P (roll-Pat z)) is (at y))
  where
    firsts : (es : List ((p : Pat) × P p)) → Each P (map (λ e. e.0) es)
    firsts [] = tt
    firsts (e ∷ es) = (e.1, firsts es)

    at : (y : Pat-F ((p : Pat) × P p)) → P (roll-Pat (map-Pat ((p : Pat) × P p) Pat (λ e. e.0) y))
    at (Var slot) = h (Var slot) tt
    at Any = h Any tt
    at (Num n) = h (Num n) tt
    at (Sym s) = h (Sym s) tt
    at (Text s) = h (Text s) tt
    at (Comp f es) = h (Comp f (map (λ e. e.0) es)) (firsts es)
