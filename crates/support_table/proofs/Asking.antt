-- The counts while a caller is asked for one step after the other, and for one number after the other.
use Rattle.std.proofs.Common.{ℕ, ◌≡◌, ◌≢◌, ◌<◌, ◌≤◌, ◌+◌, ◌⊎◌, Bool, true, false, Option, Some, None, refl, ap, sym, ◌∙◌, subst, inl, inr, arith, Bor}
use Rattle.std.specs.Prelude.{if◌then◌else◌, nat_lt}
use Rattle.std.specs.Fn.{Shared}
use Rattle.std.specs.Cmp.{tied_itself}
use Rattle.std.specs.Option.{is_some, option_copied}
use Rattle.std.specs.Ordering.{is_eq}
use Rattle.std.proofs.lemmas.Bool.{true≢false}
use Rattle.std.proofs.lemmas.Bool.Decides.{eqb_tells, nat_tests}
use Rattle.ev_bind.specs.Rows.{row_cmp, exact_rows, same_rows}
use Rattle.ev_bind.specs.declared.rows.Row.{Row}
use Rattle.row_table.specs.Pairs.{is_behind, IsNext, NoneBehind}
use Rattle.row_table.specs.Steps.{step_value}
use Rattle.row_table.proofs.Behind.{behind_further}
use Rattle.support_table.specs.Keeping.{MayAnswer, IsKept}
use Rattle.support_table.specs.Supports.{count_of, row_at, count_nowhere}
use Rattle.support_table.specs.declared.kept.Supports.{Supports}
use Rattle.support_table.proofs.Counting.{was, same_row}

-- two rows are the same or they aren't
tell : (r x : Row) → (r ≡ x) ⊎ (r ≢ x)
tell r x = by (is_eq (row_cmp r x)) refl
  where
    by : (b : Bool) → is_eq (row_cmp r x) ≡ b → (r ≡ x) ⊎ (r ≢ x)
    by true h = inl (same_rows r x h)
    by false h = inr (λ e. true≢false (sym (ap is_eq (tied_itself exact_rows.total r)) ∙ ap (λ z. is_eq (row_cmp r z)) e ∙ h))

-- what is behind a reference that there is
pub row_there : (o : Option (Bor Row)) → is_some o ≡ true → (row : Row) × (option_copied o ≡ Some row)
row_there None h = absurd (true≢false (sym h))
row_there (Some p) h = (p.now, refl)

not_some : (x : Row) → None ≡ Some x → ⊥
not_some x e = cc

module _ {F : Type 0} (g : Shared F (ℕ × (Bor Row × Unit {0})) Bool) (f : F) where
  -- a count of none
  kept_none : (s : ℕ) (r : Row) (a b : ℕ) → a ≡ 0 → b ≡ 0 → IsKept g f s r a b
  kept_none s r a b e z = record { none = λ h. z; asked = λ n. absurd (n e) }

  -- a step that is asked for once more
  kept_twice : (s : ℕ) (r : Row) (a b c : ℕ) → IsKept g f s r a b → IsKept g f s r b c → IsKept g f s r a c
  kept_twice s r a b c h k = record { none = λ z. k.none (h.none z); asked = λ n. by n (h.asked n) }
    where
      by : a ≢ 0 → (x : (stays : Bool) × MayAnswer g f s r stays × (b ≡ (if stays then a else 0)))
          → (stays : Bool) × MayAnswer g f s r stays × (c ≡ (if stays then a else 0))
      by n (false, says, e) = (false, says, k.none e)
      by n (true, says, e) =
          let y = k.asked (λ z. n (sym e ∙ z)) in
          (y.0, y.1, y.2 ∙ ap (λ m. if y.0 then m else 0) e)

  from : (s : ℕ) (r : Row) (a b a' b' : ℕ) → a' ≡ a → b' ≡ b → IsKept g f s r a b → IsKept g f s r a' b'
  from s r a b a' b' e d h = subst (λ (p : ℕ × ℕ). IsKept g f s r p.0 p.1) (λ i. (sym e i, sym d i)) h

  -- ---- one step after the other

  -- up to a step the row was asked for, and the steps behind it are as before
  pub record KeptSteps (last : Option ℕ) (row : Row) (old new : Supports) : Type 0 where
    pub done : (s : ℕ) → is_behind last s ≡ false → IsKept g f s row (count_of old s row) (count_of new s row)
    pub left : (s : ℕ) → is_behind last s ≡ true → count_of new s row ≡ count_of old s row
    pub others : (s : ℕ) (r : Row) → r ≢ row → count_of new s r ≡ count_of old s r

  pub steps_begin : (row : Row) (u : Supports) → KeptSteps None row u u
  steps_begin row u = record { done = λ s e. absurd (true≢false e); left = λ s e. refl; others = λ s r d. refl }

  module _ (last : Option ℕ) (row : Row) (old mid : Supports) (h : KeptSteps last row old mid) (n : ℕ)
      (held : row_at mid n ≡ Some row) where
    pub steps_more : (step : ℕ) (new : Supports) → IsNext (step_value mid.rows n) last step
        → IsKept g f step row (count_of mid step row) (count_of new step row)
        → ((s : ℕ) (r : Row) → (s ≡ step → r ≡ row → ⊥) → count_of new s r ≡ count_of mid s r)
        → KeptSteps (Some step) row old new
    steps_more step new next kept same = record { done = done; left = left; others = λ s r d. same s r (λ e f. d f) ∙ h.others s r d }
      where
        past : (s : ℕ) → s < step → IsKept g f s row (count_of old s row) (count_of new s row)
        past s less = by (is_behind last s) refl
          where
            still : count_of new s row ≡ count_of mid s row
            still = same s row (λ e f. absurd (omega (arith, e, less)))

            by : (b : Bool) → is_behind last s ≡ b → IsKept g f s row (count_of old s row) (count_of new s row)
            by false e = from s row (count_of old s row) (count_of mid s row) (count_of old s row) (count_of new s row) refl still
                (h.done s e)
            by true e =
                let none : count_of mid s row ≡ 0 = was mid n s row held None (next.none_between s e less) in
                kept_none s row (count_of old s row) (count_of new s row) (sym (h.left s e) ∙ none) (still ∙ none)

        here : IsKept g f step row (count_of old step row) (count_of new step row)
        here = from step row (count_of mid step row) (count_of new step row) (count_of old step row) (count_of new step row)
            (sym (h.left step next.behind)) refl kept

        done : (s : ℕ) → is_behind (Some step) s ≡ false → IsKept g f s row (count_of old s row) (count_of new s row)
        done s e = elim (eqb_tells s step) [
          | inl d ↦ subst (λ z. IsKept g f z row (count_of old z row) (count_of new z row)) (sym d.1) here
          | inr d ↦ past s (less d.1)
        ]
          where
            less : s ≢ step → s < step
            less d = grind (arith, nat_tests, e, d)

        left : (s : ℕ) → is_behind (Some step) s ≡ true → count_of new s row ≡ count_of old s row
        left s e = same s row (λ d f. above d) ∙ h.left s (behind_further last step s next.behind e)
          where
            above : s ≡ step → ⊥
            above d = grind (arith, nat_tests, e, d)

    pub steps_end : NoneBehind (step_value mid.rows n) last → (s : ℕ) → IsKept g f s row (count_of old s row) (count_of mid s row)
    steps_end none s = by (is_behind last s) refl
      where
        by : (b : Bool) → is_behind last s ≡ b → IsKept g f s row (count_of old s row) (count_of mid s row)
        by false e = h.done s e
        by true e =
            let z : count_of mid s row ≡ 0 = was mid n s row held None (none s e) in
            kept_none s row (count_of old s row) (count_of mid s row) (sym (h.left s e) ∙ z) z

  -- ---- one number after the other

  -- a row was asked for at a step, or stands under none of the numbers so far
  abbrev pub IsDone : ℕ → Supports → Supports → ℕ → Row → Type 0
  IsDone i old new s r = IsKept g f s r (count_of old s r) (count_of new s r)
      ⊎ ((count_of new s r ≡ count_of old s r) × ((m : ℕ) → m < i → row_at old m ≢ Some r))

  pub record KeptBelow (i : ℕ) (old new : Supports) : Type 0 where
    pub done : (s : ℕ) (r : Row) → IsDone i old new s r
    pub rows : (m : ℕ) → i ≤ m → row_at new m ≡ row_at old m

  pub below_begin : (u : Supports) → KeptBelow 0 u u
  below_begin u = record { done = λ s r. inr (refl, λ m lt. absurd (omega (arith, lt))); rows = λ m le. refl }

  pub below_more : (i : ℕ) (old mid new : Supports) → KeptBelow i old mid
      → ((row : Row) → row_at mid i ≡ Some row → (s : ℕ) → IsKept g f s row (count_of mid s row) (count_of new s row))
      → ((s : ℕ) (r : Row) → row_at mid i ≢ Some r → count_of new s r ≡ count_of mid s r)
      → ((m : ℕ) → m ≢ i → row_at new m ≡ row_at mid m) → KeptBelow (i + 1) old new
  below_more i old mid new h kept others rows = record {
    done = λ s r. at s r (row_at mid i) refl;
    rows = λ m le. rows m (λ e. absurd (omega (arith, e, le))) ∙ h.rows m (omega (arith, le));
  }
    where
      other : (s : ℕ) (r : Row) → row_at mid i ≢ Some r → IsDone (i + 1) old new s r
      other s r n = elim (h.done s r) [
        | inl k ↦ inl (from s r (count_of old s r) (count_of mid s r) (count_of old s r) (count_of new s r) refl (others s r n) k)
        | inr p ↦ inr (
          others s r n ∙ p.0,
          λ m lt e. elim (eqb_tells m i) [
            | inl d ↦ n (h.rows i (omega arith) ∙ ap (row_at old) (sym d.1) ∙ e)
            | inr d ↦ p.1 m (below m lt d.1) e
          ],
        )
      ]
        where
          below : (m : ℕ) → m < i + 1 → m ≢ i → m < i
          below m lt d = grind (arith, lt, d)

      this : (s : ℕ) (r : Row) → row_at mid i ≡ Some r → IsDone (i + 1) old new s r
      this s r e = elim (h.done s r) [
        | inl k ↦ inl (kept_twice s r (count_of old s r) (count_of mid s r) (count_of new s r) k (kept r e s))
        | inr p ↦ inl (from s r (count_of mid s r) (count_of new s r) (count_of old s r) (count_of new s r) (sym p.0) refl (kept r e s))
      ]

      at : (s : ℕ) (r : Row) (o : Option Row) → row_at mid i ≡ o → IsDone (i + 1) old new s r
      at s r None e = other s r (λ d. not_some r (sym e ∙ d))
      at s r (Some x) e = elim (tell r x) [
        | inl d ↦ this s r (e ∙ ap Some (sym d))
        | inr d ↦ other s r (λ q. d (same_row r x (sym q ∙ e)))
      ]

  pub below_all : (i : ℕ) (old new : Supports) → KeptBelow i old new → ((m : ℕ) → i ≤ m → row_at old m ≡ None)
      → (s : ℕ) (r : Row) → IsKept g f s r (count_of old s r) (count_of new s r)
  below_all i old new h none s r = elim (h.done s r) [
    | inl k ↦ k
    | inr p ↦ kept_none s r (count_of old s r) (count_of new s r) (nowhere p.1) (p.0 ∙ nowhere p.1)
  ]
    where
      nowhere : ((m : ℕ) → m < i → row_at old m ≢ Some r) → count_of old s r ≡ 0
      nowhere below = sym (count_nowhere old s r (λ v w. at w.number w.key))
        where
          at : (m : ℕ) → row_at old m ≡ Some r → ⊥
          at m e = by (nat_lt m i) refl
            where
              by : (b : Bool) → nat_lt m i ≡ b → ⊥
              by true lt = below m (grind (arith, nat_tests, lt)) e
              by false lt = not_some r (sym (none m (grind (arith, nat_tests, lt))) ∙ e)
