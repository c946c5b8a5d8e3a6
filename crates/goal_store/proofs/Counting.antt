-- How many goals there are after the mark of one changes.
use Rattle.std.proofs.Common.{ℕ, zero, suc, ◌≡◌, ◌≢◌, ◌<◌, ◌≤◌, ◌+◌, ◌||◌, Bool, true, false, cond, List, [], ◌∷◌, length, Option, Some, None, refl, ap, sym, ◌∙◌, subst, inl, inr, arith}
use Rattle.std.specs.Option.{option_map_or, is_some}
use Rattle.std.specs.Ordering.{is_eq}
use Rattle.std.specs.declared.cmp.Ordering.{Ordering}
use Rattle.std.specs.declared.cmp.Ordering.TheVariants.{Less, Equal, Greater}
use Rattle.std.proofs.lemmas.Bool.{true≢false}
use Rattle.std.proofs.lemmas.Bool.Decides.{eqb_tells}
use Rattle.ordered_lists.specs.Canon.{has, place, placed, Rising-place, has-place, canon_one}
use Rattle.ev_bind.specs.Rows.{row_cmp, row_writes, exact_rows}
use Rattle.ev_bind.specs.declared.rows.Row.{Row}
use Rattle.row_table.specs.Tables.{hashed}
use Rattle.row_table.specs.Steps.{row_under, step_value, IsRowTable}
use Rattle.row_table.specs.declared.rows.RowTable.{RowTable}
use Rattle.goal_store.specs.Good.{count_below}
use Rattle.goal_store.specs.Values.{value_in, rows_that, has_rows, rows_rise, tells, tied, untied, find_row, value_under, value_nowhere}
use Rattle.goal_store.specs.declared.marks.Mark.{Mark}

length_place : (r : Row) (xs : List Row) → has row_cmp r xs ≡ false → length (place row_cmp r xs) ≡ suc (length xs)
length_place r [] h = refl
length_place r (x ∷ xs) h = by (row_cmp r x) refl h (length_place r xs)
  where
    by : (c : Ordering) → row_cmp r x ≡ c → (is_eq c || has row_cmp r xs) ≡ false
        → (has row_cmp r xs ≡ false → length (place row_cmp r xs) ≡ suc (length xs))
        → length (placed row_cmp c r x xs (place row_cmp r xs)) ≡ suc (suc (length xs))
    by Less e h rest = refl
    by Equal e h rest = absurd (true≢false h)
    by Greater e h rest = ap suc (rest h)

abbrev pub bit : Bool → ℕ
bit b = cond b 1 0

module _ (p : Mark → Bool) where
  abbrev pub passes : RowTable Row Mark → ℕ → Row → Bool
  passes t s r = option_map_or p (value_in row_cmp t s r) false

  rows_same : (a b : RowTable Row Mark) → IsRowTable (hashed row_writes) row_cmp a → IsRowTable (hashed row_writes) row_cmp b → (s : ℕ)
      → ((r : Row) → passes b s r ≡ passes a s r) → rows_that row_cmp p b s ≡ rows_that row_cmp p a s
  rows_same a b x y s same = canon_one exact_rows (rows_that row_cmp p b s) (rows_that row_cmp p a s)
      (rows_rise exact_rows (hashed row_writes) b p s) (rows_rise exact_rows (hashed row_writes) a p s)
      (λ r. has_rows exact_rows (hashed row_writes) b y p s r ∙ same r ∙ sym (has_rows exact_rows (hashed row_writes) a x p s r))

  -- where a row comes to the others
  rows_more : (a b : RowTable Row Mark) → IsRowTable (hashed row_writes) row_cmp a → IsRowTable (hashed row_writes) row_cmp b
      → (step : ℕ) (row : Row) → ((r : Row) → r ≢ row → passes b step r ≡ passes a step r) → passes b step row ≡ true
      → passes a step row ≡ false → length (rows_that row_cmp p b step) ≡ suc (length (rows_that row_cmp p a step))
  rows_more a b x y step row others is was = ap length same ∙ length_place row (rows_that row_cmp p a step)
      (has_rows exact_rows (hashed row_writes) a x p step row ∙ was)
    where
      by : (r : Row) → has row_cmp r (rows_that row_cmp p b step) ≡ (is_eq (row_cmp r row) || has row_cmp r (rows_that row_cmp p a step))
      by r = elim (tells exact_rows r row) [
        | inr d ↦ has_rows exact_rows (hashed row_writes) b y p step r ∙ others r d
            ∙ sym (has_rows exact_rows (hashed row_writes) a x p step r)
            ∙ sym (ap (λ b. b || has row_cmp r (rows_that row_cmp p a step)) (untied exact_rows r row d))
        | inl e ↦ has_rows exact_rows (hashed row_writes) b y p step r ∙ ap (passes b step) e ∙ is
            ∙ sym (ap (λ b. b || has row_cmp r (rows_that row_cmp p a step)) (tied exact_rows r row e))
      ]

      same : rows_that row_cmp p b step ≡ place row_cmp row (rows_that row_cmp p a step)
      same = canon_one exact_rows (rows_that row_cmp p b step) (place row_cmp row (rows_that row_cmp p a step))
          (rows_rise exact_rows (hashed row_writes) b p step)
          (Rising-place exact_rows row (rows_that row_cmp p a step) (rows_rise exact_rows (hashed row_writes) a p step))
          (λ r. by r ∙ sym (has-place exact_rows r row (rows_that row_cmp p a step)))

  module _ (old new : RowTable Row Mark) (was : IsRowTable (hashed row_writes) row_cmp old) (is : IsRowTable (hashed row_writes) row_cmp new)
      (step : ℕ) (row : Row) (others : (s : ℕ) (r : Row) → (s ≡ step → r ≡ row → ⊥) → value_in row_cmp new s r ≡ value_in row_cmp old s r) where
    apart : (r : Row) → r ≢ row → passes new step r ≡ passes old step r
    apart r d = ap (λ o. option_map_or p o false) (others step r (λ e f. d f))

    length_step : (a b : Bool) → passes old step row ≡ a → passes new step row ≡ b
        → length (rows_that row_cmp p new step) + bit a ≡ length (rows_that row_cmp p old step) + bit b
    length_step true true e f = ap (λ l. length l + 1) (rows_same old new was is step (λ r. still r))
      where
        still : (r : Row) → passes new step r ≡ passes old step r
        still r = elim (tells exact_rows r row) [ inr d ↦ apart r d | inl h ↦ ap (passes new step) h ∙ f ∙ sym (ap (passes old step) h ∙ e) ]
    length_step false false e f = ap (λ l. length l + 0) (rows_same old new was is step (λ r. still r))
      where
        still : (r : Row) → passes new step r ≡ passes old step r
        still r = elim (tells exact_rows r row) [ inr d ↦ apart r d | inl h ↦ ap (passes new step) h ∙ f ∙ sym (ap (passes old step) h ∙ e) ]
    length_step false true e f = let one = rows_more old new was is step row apart f e in omega (arith, one)
    length_step true false e f = let one = rows_more new old is was step row (λ r d. sym (apart r d)) e f in omega (arith, one)

    length_other : (s : ℕ) → s ≢ step → length (rows_that row_cmp p new s) ≡ length (rows_that row_cmp p old s)
    length_other s d = ap length (rows_same old new was is s (λ r. ap (λ o. option_map_or p o false) (others s r (λ e f. d e))))

    count_before : (n : ℕ) → n ≤ step → count_below p new n ≡ count_below p old n
    count_before zero le = refl
    count_before (suc n) le =
        (λ i. count_before n (omega (arith, le)) i + length_other n (λ e. omega (arith, le, e)) i)

    -- the one goal more or less
    pub count_one : (n : ℕ) → step < n
        → count_below p new n + bit (passes old step row) ≡ count_below p old n + bit (passes new step row)
    count_one zero lt = absurd (omega (arith, lt))
    count_one (suc n) lt = elim (eqb_tells n step) [
      | inl e ↦ let here = subst (λ z. length (rows_that row_cmp p new z) + bit (passes old step row)
          ≡ length (rows_that row_cmp p old z) + bit (passes new step row)) (sym e.1) (length_step _ _ refl refl) in
          let before = count_before n (let same = e.1 in omega (arith, same)) in
          omega (arith, here, before)
      | inr d ↦ let rest = count_one n (let differ = d.1 in omega (arith, lt, differ)) in
          let here = length_other n d.1 in
          omega (arith, rest, here)
    ]

pub count_same : (p : Mark → Bool) (old new : RowTable Row Mark) → IsRowTable (hashed row_writes) row_cmp old
    → IsRowTable (hashed row_writes) row_cmp new → ((s : ℕ) (r : Row) → value_in row_cmp new s r ≡ value_in row_cmp old s r) → (n : ℕ)
    → count_below p new n ≡ count_below p old n
count_same p old new was is same zero = refl
count_same p old new was is same (suc n) =
    λ i. count_same p old new was is same n i + ap length (rows_same p old new was is n (λ r. ap (λ o. option_map_or p o false) (same n r))) i

-- where each step has the same rows, whatever their marks
pub count_have : (old new : RowTable Row Mark) → IsRowTable (hashed row_writes) row_cmp old → IsRowTable (hashed row_writes) row_cmp new
    → ((n : ℕ) → row_under new n ≡ row_under old n) → ((n s : ℕ) → is_some (step_value new n s) ≡ is_some (step_value old n s)) → (n : ℕ)
    → count_below (λ m. true) new n ≡ count_below (λ m. true) old n
count_have old new was is rows have zero = refl
count_have old new was is rows have (suc n) =
    λ i. count_have old new was is rows have n i + ap length (rows_same (λ m. true) old new was is n same) i
  where
    by : (v : Option Mark) → option_map_or (λ m. true) v false ≡ is_some v
    by None = refl
    by (Some m) = refl

    same : (r : Row) → passes (λ m. true) new n r ≡ passes (λ m. true) old n r
    same r = by (value_in row_cmp new n r) ∙ elim (find_row exact_rows (hashed row_writes) old r) [
      | inl f ↦ ap is_some (value_under exact_rows (hashed row_writes) new is f.0 n r (rows f.0 ∙ f.1)) ∙ have f.0 n
          ∙ sym (ap is_some (value_under exact_rows (hashed row_writes) old was f.0 n r f.1))
      | inr none ↦ ap is_some (value_nowhere exact_rows (hashed row_writes) new n r (λ m e. none m (sym (rows m) ∙ e)))
          ∙ sym (ap is_some (value_nowhere exact_rows (hashed row_writes) old n r none))
    ] ∙ sym (by (value_in row_cmp old n r))
