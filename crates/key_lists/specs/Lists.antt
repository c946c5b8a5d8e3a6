-- Lists under numbers, kept as a map from numbers to lists that aren't empty.
--     list_in t h       the list under h
--     InOrder R t       each list is in order
use Rattle.std.specs.Prelude.{ℕ, ◌==◌, List, []}
use Rattle.std.specs.Option.{option_map_or, IfSome}
use Rattle.std.specs.HashMap.{get, HashMap}
use Rattle.std.specs.declared.cmp.Ordering.{Ordering}
use Rattle.key_lists.specs.Pieces.{all_of, InPieces}
use Rattle.key_lists.specs.declared.lists.KeyLists.{KeyLists}
use Rattle.key_lists.specs.declared.pieces.Pieces.{Pieces}

abbrev pub list_at : {T S : Type 0} → HashMap ℕ (Pieces T) S → ℕ → List T
list_at m h = option_map_or all_of (get ◌==◌ m h) []

abbrev pub AllOrdered : {T S : Type 0} → (T → T → Ordering) → HashMap ℕ (Pieces T) S → Type 0
AllOrdered R m = (h : ℕ) → IfSome (get ◌==◌ m h) (InPieces R)

abbrev pub list_in : {T : Type 0} → KeyLists T → ℕ → List T
list_in t h = list_at t.lists h

abbrev pub InOrder : {T : Type 0} → (T → T → Ordering) → KeyLists T → Type 0
InOrder R t = AllOrdered R t.lists
