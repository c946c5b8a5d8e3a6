-- That lists are in order is a fact with one proof, so a value can keep it.
use Rattle.std.specs.Prelude.{◌==◌, true, List, [], ◌∷◌, Option, Some, None}
use Rattle.std.specs.Coded.{Coded-set, coded_bool, ×_prop, Unit-prop}
use Rattle.std.specs.HashMap.{get}
use Rattle.std.specs.Option.{IfSome}
use Rattle.std.specs.contracts.cmp.Ordering as ordering
use Rattle.std.specs.declared.cmp.Ordering.{Ordering}
use Rattle.std.specs.declared.cmp.Ordering.TheVariants.{Less}
use Rattle.std.specs.declared.vec.Vec.{Vec}
use Rattle.ordered_lists.specs.Canon.{AllAbove, Rising}
use Rattle.key_lists.specs.Lists.{InOrder}
use Rattle.key_lists.specs.Pieces.{all_of, is_full, AllFull, InPieces}
use Rattle.key_lists.specs.declared.lists.KeyLists.{KeyLists}
use Rattle.key_lists.specs.declared.pieces.Pieces.{Pieces}

module _ {T : Type 0} (R : T → T → Ordering) where
  above_prop : (x : T) (xs : List T) → IsProp (AllAbove R x xs)
  above_prop x [] = Unit-prop
  above_prop x (y ∷ ys) = ×_prop (Coded-set ordering.the_row.coded (R x y) Less) (above_prop x ys)

  pub rising_prop : (xs : List T) → IsProp (Rising R xs)
  rising_prop [] = Unit-prop
  rising_prop (x ∷ xs) = ×_prop (above_prop x xs) (rising_prop xs)

  full_prop : {A : Type 0} (vs : List (Vec T A)) → IsProp (AllFull vs)
  full_prop [] = Unit-prop
  full_prop (v ∷ vs) = ×_prop (Coded-set coded_bool (is_full v.items) true) (full_prop vs)

  in_pieces_prop : (o : Option (Pieces T)) → IsProp (IfSome o (InPieces R))
  in_pieces_prop None = Unit-prop
  in_pieces_prop (Some p) = λ x y i. record {
    rising = rising_prop (all_of p) x.rising y.rising i;
    full = full_prop p.more.items x.full y.full i;
  }

  pub InOrder-prop : (t : KeyLists T) → IsProp (InOrder R t)
  InOrder-prop t a b = λ i h. in_pieces_prop (get ◌==◌ t.lists h) (a h) (b h) i
