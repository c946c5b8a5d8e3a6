-- The reaches of steps, gathered from their users.
use Rattle.std.specs.Prelude.{ℕ, List, [], ◌∷◌, get_or, set}
use Rattle.row_changes.specs.declared.caps.Reach.{Reach}
use Rattle.row_changes.specs.declared.caps.Reach.TheVariants.{NoUser}
use Rattle.horizon_meaning.specs.Lengths.{Length, further}

-- the reaches of steps, with a user of this cap more for each of these steps
abbrev pub charged : (cap : Length) → List ℕ → List Reach → List Reach
charged cap [] reaches = reaches
charged cap (i ∷ is) reaches = charged cap is (set reaches i (further cap (get_or reaches i NoUser)))
