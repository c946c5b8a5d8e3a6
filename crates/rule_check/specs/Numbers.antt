-- Names numbered in the order in which they were first seen.
use Rattle.std.specs.Prelude.{ℕ, ◌≡◌, ◌<◌, ◌^◌, true, cond, suc, fold, Option, Some, None, option_map, List, [], ◌∷◌, ◌++◌}
use Rattle.std.specs.List.{IsDistinct, filter_map}
use Rattle.std.specs.Ordering.{is_eq, eq_by_cmp}
use Rattle.ordered_lists.specs.Canon.{has}
use Rattle.event_model.specs.declared.atoms.NameArity.{NameArity}
use Rattle.event_model.specs.EventOrder.{name_cmp}

-- a name at the end of a list, where it isn't in it
abbrev pub with_seen : List NameArity → NameArity → List NameArity
with_seen names n = cond (has name_cmp n names) names (names ++ n ∷ [])

-- each name once, at its first place
abbrev pub first_seen : List NameArity → List NameArity
first_seen names = fold with_seen [] names

-- no name stands twice
abbrev pub AreDistinct : List NameArity → Type 0
AreDistinct names = IsDistinct (eq_by_cmp name_cmp) names

-- names with so few arguments that their number fits a byte
abbrev pub AreNarrow : List NameArity → Type 0
AreNarrow names = (n : NameArity) → has name_cmp n names ≡ true → n.arity < 2 ^ 8

-- the number of a name among names that differ
abbrev pub place : List NameArity → NameArity → Option ℕ
place [] n = None
place (h ∷ heads) n = cond (is_eq (name_cmp n h)) (Some 0) (option_map suc (place heads n))

-- the numbers of those names that are among these
abbrev pub places : List NameArity → List NameArity → List ℕ
places heads names = filter_map (place heads) names

-- the rank that stands at a name's number
abbrev pub rank_by : List NameArity → List ℕ → NameArity → ℕ
rank_by [] ranks n = 0
rank_by (h ∷ heads) [] n = 0
rank_by (h ∷ heads) (r ∷ ranks) n = cond (is_eq (name_cmp n h)) r (rank_by heads ranks n)
