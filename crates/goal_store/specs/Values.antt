-- The value of a step at a row, over all records of a table, whatever their numbers; and the rows of a step that have certain values.
--     value_in cmp t s k        the value of step s at the row k, none where the step doesn't have it
--     rows_that cmp p t s       the rows of step s with a value that passes p, in order
use Rattle.std.specs.Prelude.{ℕ, zero, suc, ◌≡◌, ◌≢◌, ◌⊎◌, refl, Bool, true, false, cond, ◌||◌, Option, Some, None, List, [], ◌∷◌, slice_index_or}
use Rattle.std.specs.Option.{option_map, option_and_then, option_map_or}
use Rattle.std.specs.Ordering.{is_eq}
use Rattle.std.specs.Cmp.{tied_itself}
use Rattle.std.specs.declared.cmp.Ordering.{Ordering}
use Rattle.std.specs.declared.cmp.Ordering.TheVariants.{Less, Equal, Greater}
use Rattle.std.proofs.Common.{ap, sym, ◌∙◌, subst, inl, inr, arith}
use Rattle.std.proofs.lemmas.Bool.{true≢false}
use Rattle.std.proofs.lemmas.Bool.Decides.{eqb_tells}
use Rattle.ordered_lists.specs.Canon.{canon, has, Rising, Exact, has-canon, Rising-canon}
use Rattle.row_table.specs.Pairs.{get}
use Rattle.row_table.specs.Steps.{row_under, step_value, same_record, IsRowTable}
use Rattle.row_table.specs.declared.keys.Entry.{Entry}
use Rattle.row_table.specs.declared.rows.RowTable.{RowTable}

module _ {K V : Type 0} where
  module _ (cmp : K → K → Ordering) (step : ℕ) (row : K) where
    -- the value in the first record of the row
    abbrev pub first_value : List (Option (Entry K (List (ℕ × V)))) → Option V
    first_value [] = None
    first_value (None ∷ xs) = first_value xs
    first_value (Some e ∷ xs) = cond (is_eq (cmp row e.key)) (get e.value step) (first_value xs)

  module _ (p : V → Bool) (step : ℕ) where
    -- the rows with such a value, in the order of their numbers
    abbrev pub passing : List (Option (Entry K (List (ℕ × V)))) → List K
    passing [] = []
    passing (None ∷ xs) = passing xs
    passing (Some e ∷ xs) = cond (option_map_or p (get e.value step) false) (e.key ∷ passing xs) (passing xs)

unfoldable pub value_in : {K V : Type 0} → (K → K → Ordering) → RowTable K V → ℕ → K → Option V
value_in cmp t step row = first_value cmp step row t.table.entries.slots

unfoldable pub rows_that : {K V : Type 0} → (K → K → Ordering) → (V → Bool) → RowTable K V → ℕ → List K
rows_that cmp p t step = canon cmp (passing p step t.table.entries.slots)

-- ---- laws

none_some : {X : Type 0} (x : X) → None ≡ Some x → ⊥
none_some x e = cc

same_some : {X : Type 0} (x y : X) → Some x ≡ Some y → x ≡ y
same_some x y e = cc

-- an exact order tells whether two are the same
pub tells : {K : Type 0} {cmp : K → K → Ordering} → Exact cmp → (x y : K) → (x ≡ y) ⊎ (x ≢ y)
tells {cmp = cmp} exact x y = by (cmp x y) refl
  where
    unlike : (c : Ordering) → cmp x y ≡ c → is_eq c ≡ false → x ≢ y
    unlike c h n e = true≢false (sym (ap is_eq (tied_itself exact.total x)) ∙ ap (λ z. is_eq (cmp x z)) e ∙ ap is_eq h ∙ n)

    by : (c : Ordering) → cmp x y ≡ c → (x ≡ y) ⊎ (x ≢ y)
    by Less h = inr (unlike Less h refl)
    by Equal h = inl (exact.same x y h)
    by Greater h = inr (unlike Greater h refl)

pub tied : {K : Type 0} {cmp : K → K → Ordering} → Exact cmp → (x y : K) → x ≡ y → is_eq (cmp x y) ≡ true
tied {cmp = cmp} exact x y e = ap (λ z. is_eq (cmp x z)) (sym e) ∙ ap is_eq (tied_itself exact.total x)

pub untied : {K : Type 0} {cmp : K → K → Ordering} → Exact cmp → (x y : K) → x ≢ y → is_eq (cmp x y) ≡ false
untied {cmp = cmp} exact x y n = by (cmp x y) refl
  where
    by : (c : Ordering) → cmp x y ≡ c → is_eq (cmp x y) ≡ false
    by Less h = ap is_eq h
    by Equal h = absurd (n (exact.same x y h))
    by Greater h = ap is_eq h

module _ {K V : Type 0} where
  -- the row and the value of a step in the record n
  abbrev pub key_at : List (Option (Entry K (List (ℕ × V)))) → ℕ → Option K
  key_at xs n = option_map (λ e. e.key) (slice_index_or xs n None)

  abbrev pub got_at : List (Option (Entry K (List (ℕ × V)))) → ℕ → ℕ → Option V
  got_at xs n step = option_and_then (λ l. get l step) (option_map (λ e. e.value) (slice_index_or xs n None))

module _ {K V : Type 0} {cmp : K → K → Ordering} (exact : Exact cmp) (row : K) where
  -- whether a record is that of the row, or none is
  find_key : (xs : List (Option (Entry K (List (ℕ × V))))) → ((n : ℕ) × (key_at xs n ≡ Some row)) ⊎ ((n : ℕ) → key_at xs n ≢ Some row)
  find_key [] = inr (λ n e. none_some row e)
  find_key (None ∷ xs) = elim (find_key xs) [ inl f ↦ inl (suc f.0, f.1) | inr f ↦ inr (λ n e. past n e f) ]
    where
      past : (n : ℕ) → key_at (None ∷ xs) n ≡ Some row → ((n : ℕ) → key_at xs n ≢ Some row) → ⊥
      past zero e f = none_some row e
      past (suc n) e f = f n e
  find_key (Some x ∷ xs) = elim (tells exact x.key row) [
    | inl e ↦ inl (0, ap Some e)
    | inr d ↦ elim (find_key xs) [ inl f ↦ inl (suc f.0, f.1) | inr f ↦ inr (λ n e. past d n e f) ]
  ]
    where
      past : (x.key ≢ row) → (n : ℕ) → key_at (Some x ∷ xs) n ≡ Some row → ((n : ℕ) → key_at xs n ≢ Some row) → ⊥
      past d zero e f = d (same_some x.key row e)
      past d (suc n) e f = f n e

  -- no other record is that of the row
  abbrev Once : List (Option (Entry K (List (ℕ × V)))) → Type 0
  Once xs = (n m : ℕ) → key_at xs n ≡ Some row → key_at xs m ≡ Some row → n ≡ m

  once_behind : (o : Option (Entry K (List (ℕ × V)))) (xs : List (Option (Entry K (List (ℕ × V))))) → Once (o ∷ xs) → Once xs
  once_behind o xs h n m e f = let same = h (suc n) (suc m) e f in omega (arith, same)

  none_behind : (x : Entry K (List (ℕ × V))) (xs : List (Option (Entry K (List (ℕ × V))))) → Once (Some x ∷ xs) → x.key ≡ row
      → (n : ℕ) → key_at xs n ≢ Some row
  none_behind x xs h e n f = let same = h 0 (suc n) (ap Some e) f in omega (arith, same)

  first_none : (s : ℕ) (xs : List (Option (Entry K (List (ℕ × V))))) → ((n : ℕ) → key_at xs n ≢ Some row)
      → first_value cmp s row xs ≡ None
  first_none s [] h = refl
  first_none s (None ∷ xs) h = first_none s xs (λ n. h (suc n))
  first_none s (Some x ∷ xs) h =
      ap (λ b. cond b (get x.value s) (first_value cmp s row xs)) (untied exact row x.key (λ e. h 0 (ap Some (sym e))))
      ∙ first_none s xs (λ n. h (suc n))

  first_under : (s : ℕ) (xs : List (Option (Entry K (List (ℕ × V))))) → Once xs → (n : ℕ) → key_at xs n ≡ Some row
      → first_value cmp s row xs ≡ got_at xs n s
  first_under s [] h n e = absurd (none_some row e)
  first_under s (None ∷ xs) h zero e = absurd (none_some row e)
  first_under s (None ∷ xs) h (suc n) e = first_under s xs (once_behind None xs h) n e
  first_under s (Some x ∷ xs) h zero e =
      ap (λ b. cond b (get x.value s) (first_value cmp s row xs)) (tied exact row x.key (sym (same_some x.key row e)))
  first_under s (Some x ∷ xs) h (suc n) e =
      ap (λ b. cond b (get x.value s) (first_value cmp s row xs))
      (untied exact row x.key (λ d. none_behind x xs h (sym d) n e))
      ∙ first_under s xs (once_behind (Some x) xs h) n e

  has_none : (p : V → Bool) (s : ℕ) (xs : List (Option (Entry K (List (ℕ × V))))) → ((n : ℕ) → key_at xs n ≢ Some row)
      → has cmp row (passing p s xs) ≡ false
  has_none p s [] h = refl
  has_none p s (None ∷ xs) h = has_none p s xs (λ n. h (suc n))
  has_none p s (Some x ∷ xs) h = by (option_map_or p (get x.value s) false) (has_none p s xs (λ n. h (suc n)))
    where
      by : (b : Bool) → has cmp row (passing p s xs) ≡ false → has cmp row (cond b (x.key ∷ passing p s xs) (passing p s xs)) ≡ false
      by true rest = ap (λ c. c || has cmp row (passing p s xs)) (untied exact row x.key (λ e. h 0 (ap Some (sym e)))) ∙ rest
      by false rest = rest

  has_passing : (p : V → Bool) (s : ℕ) (xs : List (Option (Entry K (List (ℕ × V))))) → Once xs
      → has cmp row (passing p s xs) ≡ option_map_or p (first_value cmp s row xs) false
  has_passing p s [] h = refl
  has_passing p s (None ∷ xs) h = has_passing p s xs (once_behind None xs h)
  has_passing p s (Some x ∷ xs) h = elim (tells exact row x.key) [
    | inl e ↦ own e (option_map_or p (get x.value s) false)
        ∙ sym (ap (λ b. option_map_or p (cond b (get x.value s) (first_value cmp s row xs)) false) (tied exact row x.key e))
    | inr d ↦ other d (option_map_or p (get x.value s) false) ∙ has_passing p s xs (once_behind (Some x) xs h)
        ∙ sym (ap (λ b. option_map_or p (cond b (get x.value s) (first_value cmp s row xs)) false) (untied exact row x.key d))
  ]
    where
      own : row ≡ x.key → (b : Bool) → has cmp row (cond b (x.key ∷ passing p s xs) (passing p s xs)) ≡ b
      own e true = ap (λ c. c || has cmp row (passing p s xs)) (tied exact row x.key e)
      own e false = has_none p s xs (λ n f. none_behind x xs h (sym e) n f)

      other : row ≢ x.key → (b : Bool)
          → has cmp row (cond b (x.key ∷ passing p s xs) (passing p s xs)) ≡ has cmp row (passing p s xs)
      other d true = ap (λ c. c || has cmp row (passing p s xs)) (untied exact row x.key d)
      other d false = refl

module _ {K V : Type 0} {cmp : K → K → Ordering} (exact : Exact cmp) (code : K → ℕ) where
  -- a row has a number or it has none
  pub find_row : (t : RowTable K V) (k : K) → ((n : ℕ) × (row_under t n ≡ Some k)) ⊎ ((n : ℕ) → row_under t n ≢ Some k)
  find_row t k = find_key exact k t.table.entries.slots

  module _ (t : RowTable K V) where
    -- the value of a step at a row is that under its number
    pub value_under : IsRowTable code cmp t → (n s : ℕ) (k : K) → row_under t n ≡ Some k → value_in cmp t s k ≡ step_value t n s
    unfolding value_in
    value_under table n s k e = first_under exact k s t.table.entries.slots (λ a b. table.unique a b k) n e

    pub value_nowhere : (s : ℕ) (k : K) → ((n : ℕ) → row_under t n ≢ Some k) → value_in cmp t s k ≡ None
    unfolding value_in
    value_nowhere s k none = first_none exact k s t.table.entries.slots none

    -- what rows_that lists
    pub has_rows : IsRowTable code cmp t → (p : V → Bool) (s : ℕ) (k : K)
        → has cmp k (rows_that cmp p t s) ≡ option_map_or p (value_in cmp t s k) false
    unfolding value_in rows_that
    has_rows table p s k =
        has-canon exact k (passing p s t.table.entries.slots)
        ∙ has_passing exact k p s t.table.entries.slots (λ a b. table.unique a b k)

    pub rows_rise : (p : V → Bool) (s : ℕ) → Rising cmp (rows_that cmp p t s)
    unfolding rows_that
    rows_rise p s = Rising-canon exact (passing p s t.table.entries.slots)

    pub no_record : (n s : ℕ) → row_under t n ≡ None → step_value t n s ≡ None
    no_record n s = by (slice_index_or t.table.entries.slots n None)
      where
        by : (o : Option (Entry K (List (ℕ × V)))) → option_map (λ e. e.key) o ≡ None
            → option_and_then (λ l. get l s) (option_map (λ e. e.value) o) ≡ None
        by None e = refl
        by (Some x) e = absurd (none_some x.key (sym e))

  module _ (old new : RowTable K V) (was : IsRowTable code cmp old) (is : IsRowTable code cmp new) where
    -- the same values, and no row loses its number
    pub value_kept : ((n s : ℕ) → step_value new n s ≡ step_value old n s)
        → ((n : ℕ) (k : K) → row_under old n ≡ Some k → row_under new n ≡ Some k)
        → (s : ℕ) (k : K) → value_in cmp new s k ≡ value_in cmp old s k
    value_kept values keys s k = elim (find_row old k) [
      | inl f ↦ value_under new is f.0 s k (keys f.0 k f.1) ∙ values f.0 s ∙ sym (value_under old was f.0 s k f.1)
      | inr none ↦ elim (find_row new k) [
        | inr none' ↦ value_nowhere new s k none' ∙ sym (value_nowhere old s k none)
        | inl f ↦ value_under new is f.0 s k f.1 ∙ values f.0 s
            ∙ no_record old f.0 s (fresh f.0 f.1 none (row_under old f.0) refl) ∙ sym (value_nowhere old s k none)
      ]
    ]
      where
        fresh : (n : ℕ) → row_under new n ≡ Some k → ((n : ℕ) → row_under old n ≢ Some k) → (o : Option K) → row_under old n ≡ o
            → row_under old n ≡ None
        fresh n e none None h = h
        fresh n e none (Some j) h = absurd (none n (h ∙ sym (keys n j h) ∙ e))

    -- one step of one record
    pub value_others : (n step : ℕ) (row : K) → row_under old n ≡ Some row → ((m : ℕ) → row_under new m ≡ row_under old m)
        → ((s : ℕ) → s ≢ step → step_value new n s ≡ step_value old n s) → ((m : ℕ) → m ≢ n → same_record old new m)
        → (s : ℕ) (k : K) → (s ≡ step → k ≡ row → ⊥) → value_in cmp new s k ≡ value_in cmp old s k
    value_others n step row held keys steps others s k apart = elim (find_row old k) [
      | inr none ↦ value_nowhere new s k (λ m e. none m (sym (keys m) ∙ e)) ∙ sym (value_nowhere old s k none)
      | inl f ↦ value_under new is f.0 s k (keys f.0 ∙ f.1) ∙ here f.0 f.1 ∙ sym (value_under old was f.0 s k f.1)
    ]
      where
        here : (m : ℕ) → row_under old m ≡ Some k → step_value new m s ≡ step_value old m s
        here m e = elim (eqb_tells m n) [
          | inr d ↦ ap (λ o. option_and_then (λ l. get l s) (option_map (λ x. x.value) o)) (others m d.1)
          | inl d ↦ elim (eqb_tells s step) [
            | inr c ↦ subst (λ z. step_value new z s ≡ step_value old z s) (sym d.1) (steps s c.1)
            | inl c ↦ absurd (apart c.1 (same_some k row (sym e ∙ ap (row_under old) d.1 ∙ held)))
          ]
        ]
