-- The cells of a binding, as the pairs that they hold, with the hash that each keeps.
use Rattle.std.specs.Prelude.{ℕ, ◌≡◌, Option, Some, None, [], ◌∷◌}
use Rattle.std.specs.declared.rc.Rc.{Rc}
use Rattle.ev_bind.specs.Bindings.{Pairs, IsBinding}
use Rattle.ev_bind.specs.Hashing.{code_of}
use Rattle.ev_bind.specs.declared.bindings.Cell.{Cell}
use Rattle.std.specs.declared.alloc.Global.{Global}

abbrev pub pairs_in : Option (Rc Cell Global) → Pairs
pairs_in None = []
pairs_in (Some cell) = (cell.value.slot, cell.value.term) ∷ cell.value.rest

-- the hash of no cell is 0
abbrev pub hash_in : Option (Rc Cell Global) → ℕ
hash_in None = 0
hash_in (Some cell) = cell.value.hash

-- what a chain is: a binding, whose first cell keeps its hash
pub record IsChain (first : Option (Rc Cell Global)) : Type 0 where
  pub binding : IsBinding (pairs_in first)
  pub hashed : hash_in first ≡ code_of (pairs_in first)
