-- Going over the indexes of a step one by one.
use Rattle.std.proofs.Common.{ℕ, zero, suc, ◌≡◌, ◌≢◌, ◌<◌, ◌≤◌, ◌+◌, ◌&&◌, ◌||◌, ◌⊎◌, not, Bool, true, false, List, [], ◌∷◌, Option, Some, None, length, get_or, slice_set, refl, ap, sym, ◌∙◌, subst, inl, inr, arith}
use Rattle.std.specs.List.{slice_get}
use Rattle.std.specs.Option.{option_map}
use Rattle.std.proofs.lemmas.Bool.{true≢false, false_from_ne_true, and_parts, eqb-true, cases_lt}
use Rattle.std.proofs.lemmas.Bool.Decides.{eqb_tells}
use Rattle.std.proofs.lemmas.Option.{slice_get_within, slice_get_read}
use Rattle.ev_bind.specs.Rows.{same_rows}
use Rattle.ev_bind.specs.declared.rows.Row.{Row}
use Rattle.goal_store.specs.Indexed.{Rows, IsIndex, is_this, also, less, stands}
use Rattle.goal_store.specs.Steps.{ListsAt, SameKinds, kind}
use Rattle.goal_store.specs.declared.indexes.RowIndex.{RowIndex}

none_some : {X : Type 0} (x : X) → None ≡ Some x → ⊥
none_some x e = cc

some_same : {X : Type 0} (x y : X) → Some x ≡ Some y → y ≡ x
some_same x y e = cc

set_here : {X : Type 0} (xs : List X) (i : ℕ) (y o : X) → slice_get (slice_set xs i y) i ≡ Some o → o ≡ y
set_here [] i y o e = absurd (none_some o e)
set_here (x ∷ xs) zero y o e = some_same y o e
set_here (x ∷ xs) (suc i) y o e = set_here xs i y o e

pub set_other : {X : Type 0} (xs : List X) (i k : ℕ) (y : X) → k ≢ i → slice_get (slice_set xs i y) k ≡ slice_get xs k
set_other [] i k y d = refl
set_other (x ∷ xs) zero zero y d = absurd (d refl)
set_other (x ∷ xs) zero (suc k) y d = refl
set_other (x ∷ xs) (suc i) zero y d = refl
set_other (x ∷ xs) (suc i) (suc k) y d = set_other xs i k y (λ e. d (ap suc e))

pub set_is : {X : Type 0} (xs : List X) (i : ℕ) (y : X) → i < length xs → slice_get (slice_set xs i y) i ≡ Some y
set_is [] i y h = absurd (omega (arith, h))
set_is (x ∷ xs) zero y h = refl
set_is (x ∷ xs) (suc i) y h = set_is xs i y (omega (arith, h))

get_or_itself : {X : Type 0} (xs : List X) (i : ℕ) (d : X) → i < length xs → get_or xs i d ≡ get_or xs i (get_or xs i d)
get_or_itself [] i d h = absurd (omega (arith, h))
get_or_itself (x ∷ xs) zero d h = refl
get_or_itself (x ∷ xs) (suc i) d h = get_or_itself xs i d (omega (arith, h))

-- an index lists the same under tests that agree
pub is_index_same : (ix : RowIndex) (f g : Rows) → ((r : Row) (n : ℕ) → f r n ≡ g r n) → IsIndex ix f → IsIndex ix g
is_index_same ix f g same is h p = is h p ∙ ap (λ b. stands ix.key ix.edge h p && b) (same p.row p.number)

module _ (row : Row) (number : ℕ) (held : Rows) (absent : held row number ≡ false) where
  not_this : (r : Row) (n : ℕ) → (is_this row number r n && held r n) ≡ false
  not_this r n = false_from_ne_true _ (λ e.
      let both = and_parts (is_this row number r n) (held r n) e in
      let that = and_parts _ _ both.0 in
      true≢false (sym both.1 ∙ (λ i. held (same_rows r row that.0 i) (eqb-true n number that.1 i)) ∙ absent))

  cut : (t h : Bool) → (t && h) ≡ false → (not t && h) ≡ h
  cut true h e = sym e
  cut false h e = refl

  cut_more : (t h : Bool) → (t && h) ≡ false → (not t && (t || h)) ≡ h
  cut_more true h e = sym e
  cut_more false h e = refl

  -- taking out what isn't there
  pub less_absent : (r : Row) (n : ℕ) → less row number held r n ≡ held r n
  less_absent r n = cut (is_this row number r n) (held r n) (not_this r n)

  -- and what has just come
  pub less_also : (r : Row) (n : ℕ) → less row number (also row number held) r n ≡ held r n
  less_also r n = cut_more (is_this row number r n) (held r n) (not_this r n)

module _ (op : Rows → Rows) (xs : List RowIndex) where
  -- the indexes before i are changed, and the others are not yet
  pub record Walked (i : ℕ) (ys : List RowIndex) : Type 0 where
    pub done : (k : ℕ) (held : Rows) → k < i → ListsAt xs k held → ListsAt ys k (op held)
    pub ahead : (k : ℕ) (held : Rows) → i ≤ k → ListsAt xs k held → ListsAt ys k held
    pub kinds : SameKinds xs ys

  known : (o p : Option RowIndex) → option_map kind o ≡ option_map kind p → (ix : RowIndex) → o ≡ Some ix → (jx : RowIndex) × (p ≡ Some jx)
  known o (Some jx) e ix f = (jx, refl)
  known o None e ix f = absurd (none_some (kind ix) (sym (sym (ap (option_map kind) f) ∙ e)))

  module _ (i : ℕ) (ys : List RowIndex) (w : Walked i ys) (y : RowIndex) where
    inside_of : y ≡ get_or ys i y → i < length xs → i < length ys
    inside_of at inside = let x = slice_get_read xs (length xs) i (get_or xs i y) refl inside (get_or_itself xs i y inside) in
        let jx = known (slice_get xs i) (slice_get ys i) (sym (w.kinds i)) (get_or xs i y) x in
        slice_get_within ys i jx.0 jx.1

    kinds_set : (z : RowIndex) → y ≡ get_or ys i y → i < length xs → kind z ≡ kind y → SameKinds xs (slice_set ys i z)
    kinds_set z at inside alike k = elim (eqb_tells k i) [
      | inr d ↦ ap (option_map kind) (set_other ys i k z d.1) ∙ w.kinds k
      | inl d ↦ ap (λ j. option_map kind (slice_get (slice_set ys i z) j)) d.1
          ∙ ap (option_map kind) (set_is ys i z (inside_of at inside)) ∙ ap Some alike
          ∙ sym (ap (option_map kind) (slice_get_read ys (length ys) i y refl (inside_of at inside) at)) ∙ w.kinds i
          ∙ sym (ap (λ j. option_map kind (slice_get xs j)) d.1)
    ]

  pub walked_next : (i : ℕ) (ys : List RowIndex) → Walked i ys → (y z : RowIndex) → y ≡ get_or ys i y → i < length xs
      → ((held : Rows) → IsIndex y held → IsIndex z (op held)) → kind z ≡ kind y → Walked (i + 1) (slice_set ys i z)
  walked_next i ys w y z at inside changes alike = record { done = done; ahead = ahead; kinds = kinds }
    where
      within : i < length ys
      within = inside_of i ys w y at inside

      kinds : SameKinds xs (slice_set ys i z)
      kinds = kinds_set i ys w y z at inside alike

      done : (k : ℕ) (held : Rows) → k < i + 1 → ListsAt xs k held → ListsAt (slice_set ys i z) k (op held)
      done k held lt was ix e = elim (eqb_tells k i) [
        | inr d ↦ w.done k held (let n = d.1 in omega (arith, lt, n)) was ix (sym (set_other ys i k z d.1) ∙ e)
        | inl d ↦ subst (λ x. IsIndex x (op held))
            (sym (set_here ys i z ix (subst (λ j. slice_get (slice_set ys i z) j ≡ Some ix) d.1 e)))
            (changes held (w.ahead k held (let n = d.1 in omega (arith, n)) was y
            (subst (λ j. slice_get ys j ≡ Some y) (sym d.1) (slice_get_read ys (length ys) i y refl within at))))
      ]

      ahead : (k : ℕ) (held : Rows) → i + 1 ≤ k → ListsAt xs k held → ListsAt (slice_set ys i z) k held
      ahead k held le was ix e = w.ahead k held (omega (arith, le)) was ix (sym (set_other ys i k z (λ d. omega (arith, le, d))) ∙ e)

  -- where the next index stays as it is
  pub walked_stay : (i : ℕ) (ys : List RowIndex) → Walked i ys → (y z : RowIndex) → y ≡ get_or ys i y → i < length xs
      → ((held : Rows) → IsIndex y held → IsIndex z held) → kind z ≡ kind y → Walked i (slice_set ys i z)
  walked_stay i ys w y z at inside changes alike = record { done = done; ahead = ahead; kinds = kinds_set i ys w y z at inside alike }
    where
      done : (k : ℕ) (held : Rows) → k < i → ListsAt xs k held → ListsAt (slice_set ys i z) k (op held)
      done k held lt was ix e = w.done k held lt was ix (sym (set_other ys i k z (λ d. omega (arith, lt, d))) ∙ e)

      ahead : (k : ℕ) (held : Rows) → i ≤ k → ListsAt xs k held → ListsAt (slice_set ys i z) k held
      ahead k held le was ix e = elim (eqb_tells k i) [
        | inr d ↦ w.ahead k held le was ix (sym (set_other ys i k z d.1) ∙ e)
        | inl d ↦ subst (λ x. IsIndex x held)
            (sym (set_here ys i z ix (subst (λ j. slice_get (slice_set ys i z) j ≡ Some ix) d.1 e)))
            (changes held (w.ahead k held le was y
            (subst (λ j. slice_get ys j ≡ Some y) (sym d.1) (slice_get_read ys (length ys) i y refl (inside_of i ys w y at inside) at))))
      ]

  pub walked_all : (i : ℕ) (ys : List RowIndex) → Walked i ys → length xs ≤ i → (k : ℕ) (held : Rows) → ListsAt xs k held → ListsAt ys k (op held)
  walked_all i ys w all k held was ix e =
      let jx = known (slice_get ys k) (slice_get xs k) (w.kinds k) ix e in
      let within = slice_get_within xs k jx.0 jx.1 in
      w.done k held (omega (arith, within, all)) was ix e

-- what is left after want of memory: where so many have the row, and it is taken out of all
module _ (row : Row) (number : ℕ) (xs ys zs : List RowIndex) where
  pub taken_back : (i : ℕ) → Walked (also row number) xs i ys → ((k : ℕ) (held : Rows) → ListsAt ys k held → ListsAt zs k (less row number held))
      → (k : ℕ) (held : Rows) → held row number ≡ false → ListsAt xs k held → ListsAt zs k held
  taken_back i w back k held absent was = elim (eqb_or k) [
    | inl lt ↦ λ ix e. is_index_same ix (less row number (also row number held)) held (less_also row number held absent)
        (back k (also row number held) (w.done k held lt was) ix e)
    | inr le ↦ λ ix e. is_index_same ix (less row number held) held (less_absent row number held absent)
        (back k held (w.ahead k held le was) ix e)
  ]
    where
      eqb_or : (k : ℕ) → (k < i) ⊎ (i ≤ k)
      eqb_or k = cases_lt k i

  pub same_kinds_after : SameKinds xs ys → SameKinds ys zs → SameKinds xs zs
  same_kinds_after a b k = b k ∙ a k
