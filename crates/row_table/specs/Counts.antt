-- The count of a step at a row, over all records, whatever their numbers.
use Rattle.std.specs.Prelude.{ℕ, zero, suc, ◌≡◌, ◌≢◌, refl, ◌+◌, Bool, true, false, cond, Option, Some, None, unwrap_or, List, [], ◌∷◌, slice_index_or}
use Rattle.std.specs.Option.{option_map, option_and_then}
use Rattle.std.specs.Ordering.{is_eq}
use Rattle.std.specs.Cmp.{tied_itself}
use Rattle.std.specs.declared.cmp.Ordering.{Ordering}
use Rattle.std.specs.declared.cmp.Ordering.TheVariants.{Less, Equal, Greater}
use Rattle.std.proofs.Common.{ap, sym, ◌∙◌, inl, inr, add-zero, zero-add, arith}
use Rattle.std.proofs.lemmas.Bool.{true≢false, false_from_ne_true}
use Rattle.std.proofs.lemmas.Bool.Decides.{eqb_tells}
use Rattle.slab.specs.Slab.{Slab}
use Rattle.slab.specs.Slab as slots
use Rattle.ordered_lists.specs.Canon.{Exact}
use Rattle.ordered_lists.specs.Lists.{total}
use Rattle.row_table.specs.Pairs.{get}
use Rattle.row_table.specs.Steps.{row_under, step_value, same_record, HasValue, IsRowTable}
use Rattle.row_table.specs.declared.keys.Entry.{Entry}
use Rattle.row_table.specs.declared.rows.RowTable.{RowTable}

module _ {K : Type 0} (cmp : K → K → Ordering) (step : ℕ) (row : K) where
  -- the count of the step in one record
  abbrev pub counted : Option (Entry K (List (ℕ × ℕ))) → ℕ
  counted None = 0
  counted (Some e) = cond (is_eq (cmp e.key row)) (unwrap_or (get e.value step) 0) 0

-- the count of a step at a row: the sum over all records of the row
unfoldable pub count_in : {K : Type 0} → (K → K → Ordering) → RowTable K ℕ → ℕ → K → ℕ
count_in cmp t step row = total (counted cmp step row) t.table.entries.slots

-- ---- sums over slots

module _ {X : Type 0} (g : Option X → ℕ) (none : g None ≡ 0) where
  abbrev pub at : List (Option X) → ℕ → ℕ
  at xs n = g (slice_index_or xs n None)

  total_none : (xs : List (Option X)) → ((n : ℕ) → at xs n ≡ 0) → total g xs ≡ 0
  total_none [] h = refl
  total_none (x ∷ xs) h = (λ i. h 0 i + total_none xs (λ n. h (suc n)) i)

  total_one : (xs : List (Option X)) (n : ℕ) → ((m : ℕ) → m ≢ n → at xs m ≡ 0) → total g xs ≡ at xs n
  total_one [] n h = sym none
  total_one (x ∷ xs) zero h = ap (λ t. g x + t) (total_none xs (λ n. h (suc n) (λ e. absurd (omega (arith, e))))) ∙ add-zero (g x)
  total_one (x ∷ xs) (suc n) h =
      (λ i. h 0 (λ e. absurd (omega (arith, e))) i + total_one xs n (λ m d. h (suc m) (λ e. d (omega (arith, e)))) i) ∙ zero-add (at xs n)

  total_agree : (xs ys : List (Option X)) → ((n : ℕ) → at xs n ≡ at ys n) → total g xs ≡ total g ys
  total_agree [] ys h = sym (total_none ys (λ n. sym (h n) ∙ none))
  total_agree (x ∷ xs) [] h = total_none (x ∷ xs) (λ n. h n ∙ none)
  total_agree (x ∷ xs) (y ∷ ys) h = λ i. h 0 i + total_agree xs ys (λ n. h (suc n)) i

-- ---- laws

none_some : {X : Type 0} (x : X) → None ≡ Some x → ⊥
none_some x e = cc

module _ {K : Type 0} {cmp : K → K → Ordering} (exact : Exact cmp) where
  tied : (j k : K) → is_eq (cmp j k) ≡ true → j ≡ k
  tied j k e = by (cmp j k) refl e
    where
      by : (c : Ordering) → cmp j k ≡ c → is_eq c ≡ true → j ≡ k
      by Less d f = absurd (true≢false (sym f))
      by Equal d f = exact.same j k d
      by Greater d f = absurd (true≢false (sym f))

  -- a record of another row counts nothing
  other_row : (s : ℕ) (k : K) (e : Entry K (List (ℕ × ℕ))) → (e.key ≢ k) → counted cmp s k (Some e) ≡ 0
  other_row s k e n =
      ap (λ t. cond t (unwrap_or (get e.value s) 0) 0) (false_from_ne_true (is_eq (cmp e.key k)) (λ h. n (tied e.key k h)))

  own_row : (s : ℕ) (k : K) (o : Option (Entry K (List (ℕ × ℕ)))) → option_map (λ e. e.key) o ≡ Some k
      → counted cmp s k o ≡ unwrap_or (option_and_then (λ l. get l s) (option_map (λ e. e.value) o)) 0
  own_row s k None h = absurd (none_some k h)
  own_row s k (Some e) h =
      ap (λ t. cond t (unwrap_or (get e.value s) 0) 0) (ap is_eq (ap (cmp e.key) (sym same) ∙ tied_itself exact.total e.key))
    where
      same : e.key ≡ k
      same = cc

  module _ (code : K → ℕ) (t : RowTable K ℕ) where
    -- a row that no number of the step has
    pub count_absent : (s : ℕ) (k : K) → ((v : ℕ) → HasValue t s k v → ⊥) → count_in cmp t s k ≡ 0
    unfolding count_in
    count_absent s k none = total_none (counted cmp s k) refl t.table.entries.slots (λ n. here n (slots.get t.table.entries n) refl)
      where
        here : (n : ℕ) (o : Option (Entry K (List (ℕ × ℕ)))) → slots.get t.table.entries n ≡ o → counted cmp s k o ≡ 0
        here n None e = refl
        here n (Some r) e = by (is_eq (cmp r.key k)) refl (get r.value s) refl
          where
            by : (b : Bool) → is_eq (cmp r.key k) ≡ b → (v : Option ℕ) → get r.value s ≡ v → cond b (unwrap_or v 0) 0 ≡ 0
            by false d v f = refl
            by true d None f = refl
            by true d (Some v) f = absurd (none v (record {
              number = n;
              key = ap (option_map (λ e. e.key)) e ∙ ap Some (tied r.key k d);
              value = ap (λ o. option_and_then (λ l. get l s) (option_map (λ e. e.value) o)) e ∙ f;
            }))

    -- a row's one number has its count
    pub count_number : IsRowTable code cmp t → (n s : ℕ) (k : K) → row_under t n ≡ Some k
        → count_in cmp t s k ≡ unwrap_or (step_value t n s) 0
    unfolding count_in
    count_number table n s k held =
        total_one (counted cmp s k) refl t.table.entries.slots n (λ m d. here m d (slots.get t.table.entries m) refl)
        ∙ own_row s k (slots.get t.table.entries n) held
      where
        here : (m : ℕ) → m ≢ n → (o : Option (Entry K (List (ℕ × ℕ)))) → slots.get t.table.entries m ≡ o → counted cmp s k o ≡ 0
        here m d None e = refl
        here m d (Some r) e = other_row s k r (λ same. d (table.unique m n k (ap (option_map (λ e. e.key)) e ∙ ap Some same) held))

    pub count_counted : IsRowTable code cmp t → (s : ℕ) (k : K) (v : ℕ) → HasValue t s k v → count_in cmp t s k ≡ v
    count_counted table s k v c = count_number table c.number s k c.key ∙ ap (λ o. unwrap_or o 0) c.value

  module _ (t u : RowTable K ℕ) where
    agree : (s : ℕ) (k : K)
        → ((n : ℕ) → counted cmp s k (slots.get u.table.entries n) ≡ counted cmp s k (slots.get t.table.entries n))
        → count_in cmp u s k ≡ count_in cmp t s k
    unfolding count_in
    agree s k h = total_agree (counted cmp s k) refl u.table.entries.slots t.table.entries.slots h

    one_same : (s : ℕ) (k : K) (o p : Option (Entry K (List (ℕ × ℕ))))
        → option_and_then (λ l. get l s) (option_map (λ e. e.value) p) ≡ option_and_then (λ l. get l s) (option_map (λ e. e.value) o)
        → ((j : K) → option_map (λ e. e.key) o ≡ Some j → option_map (λ e. e.key) p ≡ Some j) → counted cmp s k p ≡ counted cmp s k o
    one_same s k None None v h = refl
    one_same s k (Some e) None v h = absurd (none_some e.key (h e.key refl))
    one_same s k None (Some r) v h = by (is_eq (cmp r.key k)) (get r.value s) v
      where
        by : (b : Bool) (w : Option ℕ) → w ≡ None → cond b (unwrap_or w 0) 0 ≡ 0
        by true w e = ap (λ w. unwrap_or w 0) e
        by false w e = refl
    one_same s k (Some e) (Some r) v h = λ i. cond (is_eq (cmp (same i) k)) (unwrap_or (v i) 0) 0
      where
        same : r.key ≡ e.key
        same = let f : Some r.key ≡ Some e.key = h e.key refl in cc

    -- the same rows with the same counts, and records without steps
    pub count_same : ((n s : ℕ) → step_value u n s ≡ step_value t n s) → ((n : ℕ) (k : K) → row_under t n ≡ Some k → row_under u n ≡ Some k)
        → (s : ℕ) (k : K) → count_in cmp u s k ≡ count_in cmp t s k
    count_same values keys s k =
        agree s k (λ n. one_same s k (slots.get t.table.entries n) (slots.get u.table.entries n) (values n s) (keys n))

    -- one step of one record
    pub count_others : (n step : ℕ) (row : K) → row_under t n ≡ Some row → row_under u n ≡ Some row
        → ((s : ℕ) → s ≢ step → step_value u n s ≡ step_value t n s) → ((m : ℕ) → m ≢ n → same_record t u m)
        → (s : ℕ) (k : K) → (s ≡ step → k ≡ row → ⊥) → count_in cmp u s k ≡ count_in cmp t s k
    count_others n step row was is steps others s k apart = agree s k (λ m. elim (eqb_tells m n) [
      | inr d ↦ ap (counted cmp s k) (others m d.1)
      | inl d ↦ ap (λ m. counted cmp s k (slots.get u.table.entries m)) d.1
          ∙ here (slots.get t.table.entries n) (slots.get u.table.entries n) was is (λ d. steps s d)
          ∙ sym (ap (λ m. counted cmp s k (slots.get t.table.entries m)) d.1)
    ])
      where
        here : (o p : Option (Entry K (List (ℕ × ℕ)))) → option_map (λ e. e.key) o ≡ Some row → option_map (λ e. e.key) p ≡ Some row
            → (s ≢ step → option_and_then (λ l. get l s) (option_map (λ e. e.value) p)
            ≡ option_and_then (λ l. get l s) (option_map (λ e. e.value) o))
            → counted cmp s k p ≡ counted cmp s k o
        here None p f g v = absurd (none_some row f)
        here (Some e) None f g v = absurd (none_some row g)
        here (Some e) (Some r) f g v = elim (eqb_tells s step) [
          | inr d ↦ λ i. cond (is_eq (cmp ((g' ∙ sym f') i) k)) (unwrap_or (v d.1 i) 0) 0
          | inl d ↦ other_row s k r (λ h. apart d.1 (sym h ∙ g')) ∙ sym (other_row s k e (λ h. apart d.1 (sym h ∙ f')))
        ]
          where
            f' : e.key ≡ row
            f' = cc

            g' : r.key ≡ row
            g' = cc
