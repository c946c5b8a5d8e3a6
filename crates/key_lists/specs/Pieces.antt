-- Lists in pieces: a first one, and more behind it of which none is empty.
--     all_in xs vs         the elements of all pieces, one behind the other
--     IsOrdered R xs vs    they are in order, and no piece behind the first is empty
--     from xs vs p at      the elements from a place of a piece on
use Rattle.std.specs.Prelude.{ℕ, zero, suc, ◌≡◌, Bool, true, false, not, List, [], ◌∷◌, ◌++◌, ◌≤◌, length, take, drop, map}
use Rattle.std.specs.List.{flat_map, slice_get}
use Rattle.std.specs.Option.{option_map_or}
use Rattle.std.specs.Ordering.{is_gt}
use Rattle.std.specs.declared.vec.Vec.{Vec}
use Rattle.std.specs.declared.cmp.Ordering.{Ordering}
use Rattle.ordered_lists.specs.Canon.{AllAbove, Rising}
use Rattle.ordered_lists.specs.Lists.{Each}
use Rattle.key_lists.specs.declared.pieces.Pieces.{Pieces}
use Rattle.key_lists.specs.declared.runs.Run.{Run}
use Rattle.key_lists.specs.declared.runs.Position.{Position}

abbrev pub joined : {T A : Type 0} → List (Vec T A) → List T
joined vs = flat_map (λ v. v.items) vs

abbrev pub all_in : {T A : Type 0} → List T → List (Vec T A) → List T
all_in xs vs = xs ++ joined vs

abbrev pub is_full : {T : Type 0} → List T → Bool
is_full [] = false
is_full (x ∷ xs) = true

abbrev pub AllFull : {T A : Type 0} → List (Vec T A) → Type 0
AllFull vs = Each (λ v. is_full v.items ≡ true) vs

pub record IsOrdered {T A : Type 0} (R : T → T → Ordering) (xs : List T) (vs : List (Vec T A)) : Type 0 where
  pub rising : Rising R (all_in xs vs)
  pub full : AllFull vs

abbrev pub from : {T A : Type 0} → List T → List (Vec T A) → ℕ → ℕ → List T
from xs vs zero at = drop at xs ++ joined vs
from xs [] (suc p) at = []
from xs (v ∷ vs) (suc p) at = from v.items vs p at

-- whether it begins at an element or before it
abbrev pub begins : {T : Type 0} → (T → T → Ordering) → T → List T → Bool
begins R q [] = true
begins R q (x ∷ xs) = not (is_gt (R x q))

abbrev pub Below : {T : Type 0} → (T → T → Ordering) → T → List T → Type 0
Below R q xs = Each (λ x. R x q ≡ Ordering.Less) xs

abbrev pub all_of : {T : Type 0} → Pieces T → List T
all_of p = all_in p.first.items p.more.items

-- the piece under a number is where an element is or belongs: 0 for the first, and from 1 on for those behind it
pub record IsCut {T A : Type 0} (R : T → T → Ordering) (q : T) (vs : List (Vec T A)) (n : ℕ) : Type 0 where
  pub within : n ≤ length vs
  pub above : AllAbove R q (joined (drop n vs))
  pub below : (xs : List T) (j : ℕ) → Rising R (xs ++ joined vs) → n ≡ suc j → Below R q (xs ++ joined (take j vs))

abbrev pub piece_at : {T : Type 0} → Pieces T → ℕ → List T
piece_at p zero = p.first.items
piece_at p (suc j) = option_map_or (λ v. v.items) (slice_get p.more.items j) []

abbrev pub InPieces : {T : Type 0} → (T → T → Ordering) → Pieces T → Type 0
InPieces R p = IsOrdered R p.first.items p.more.items

-- the elements of a run, in order, and those from a position on
abbrev pub all_lent : {T : Type 0} → Run T → List T
all_lent r = all_in r.first.now r.more.now

abbrev pub IsRun : {T : Type 0} → (T → T → Ordering) → Run T → Type 0
IsRun R r = IsOrdered R r.first.now r.more.now

abbrev pub pieces_of : {T : Type 0} → Run T → List (List T)
pieces_of r = r.first.now ∷ map (λ v. v.items) r.more.now

abbrev pub left : {T : Type 0} → Run T → Position → List T
left r p = from r.first.now r.more.now p.piece p.at
