-- The marks while the goals of one step after the other are swept, and under one number after the other.
use Rattle.std.proofs.Common.{ℕ, ◌≡◌, ◌≢◌, ◌<◌, ◌≤◌, ◌+◌, ◌⊎◌, Bool, true, false, Option, Some, None, refl, ap, sym, ◌∙◌, subst, inl, inr, arith, Bor}
use Rattle.std.specs.Prelude.{if◌then◌else◌, nat_lt}
use Rattle.std.specs.Option.{is_some, option_copied}
use Rattle.std.proofs.lemmas.Bool.{true≢false}
use Rattle.std.proofs.lemmas.Bool.Decides.{eqb_tells, nat_tests}
use Rattle.ev_bind.specs.Rows.{exact_rows}
use Rattle.ev_bind.specs.declared.rows.Row.{Row}
use Rattle.row_table.specs.Pairs.{is_behind, IsNext, NoneBehind}
use Rattle.row_table.specs.Steps.{step_value}
use Rattle.row_table.proofs.Behind.{behind_further}
use Rattle.goal_store.specs.Goals.{mark_at, row_at, unnumbered, AllOld, Marks, SameMarks, SameRows, Settled}
use Rattle.goal_store.specs.Marks.{settled, was_old}
use Rattle.goal_store.specs.Sweeping.{swept}
use Rattle.goal_store.specs.Values.{tells}
use Rattle.goal_store.specs.declared.kept.GoalStore.{GoalStore}
use Rattle.goal_store.specs.declared.marks.Mark.{Mark}
use Rattle.goal_store.specs.declared.marks.Mark.TheVariants.{Old, Fresh, Dying}
use Rattle.goal_store.proofs.Marking.{mark_under}

-- ---- one mark

swept_none : (k : Bool) → swept k None ≡ None
swept_none true = refl
swept_none false = refl

swept_twice : (k : Bool) (m : Option Mark) → swept k (swept k m) ≡ swept k m
swept_twice true m = refl
swept_twice false None = refl
swept_twice false (Some Old) = refl
swept_twice false (Some Fresh) = refl
swept_twice false (Some Dying) = refl

-- an old goal stays where it is kept, and is gone otherwise
settled_swept : (k : Bool) (m : Option Mark) → settled m ≡ m → settled (swept k m) ≡ (if k then m else None)
settled_swept true m e = e
settled_swept false None e = refl
settled_swept false (Some Old) e = refl
settled_swept false (Some Fresh) e = absurd (true≢false (ap was_old e))
settled_swept false (Some Dying) e = absurd (true≢false (sym (ap is_some e)))

-- one goal is swept
pub swept_one : (old new : GoalStore) (step : ℕ) (row : Row) (k was : Bool) → k ≡ false → was ≡ was_old (mark_at old step row)
    → (was ≡ true → Marks old new step row (Some Dying)) → (was ≡ false → SameMarks old new)
    → Marks old new step row (swept k (mark_at old step row))
swept_one old new step row k was gone is drops stays = by was refl
  where
    m : Option Mark
    m = mark_at old step row

    to : (b : Bool) → was ≡ b → (if b then Some Dying else m) ≡ swept k m
    to b e = (λ i. if (sym e ∙ is) i then Some Dying else m) ∙ ap (λ c. swept c m) (sym gone)

    by : (b : Bool) → was ≡ b → Marks old new step row (swept k m)
    by true e = record { this = (drops e).this ∙ to true e; others = (drops e).others }
    by false e = record { this = stays e step row ∙ to false e; others = λ s r d. stays e s r }

-- what is behind a reference that there is
pub row_there : (o : Option (Bor Row)) → is_some o ≡ true → (row : Row) × (option_copied o ≡ Some row)
row_there None h = absurd (true≢false (sym h))
row_there (Some p) h = (p.now, refl)

not_some : (x : Row) → None ≡ Some x → ⊥
not_some x e = cc

same_some : (x y : Row) → Some x ≡ Some y → x ≡ y
same_some x y e = cc

module _ (k : ℕ → Row → Bool) where
  -- ---- one step after the other

  -- up to a step the goals of the row are swept, and those of the steps behind it are as before
  pub record StepsSwept (last : Option ℕ) (row : Row) (old new : GoalStore) : Type 0 where
    pub done : (s : ℕ) → is_behind last s ≡ false → mark_at new s row ≡ swept (k s row) (mark_at old s row)
    pub left : (s : ℕ) → is_behind last s ≡ true → mark_at new s row ≡ mark_at old s row
    pub others : (s : ℕ) (r : Row) → r ≢ row → mark_at new s r ≡ mark_at old s r

  pub steps_begin : (row : Row) (g : GoalStore) → StepsSwept None row g g
  steps_begin row g = record { done = λ s e. absurd (true≢false e); left = λ s e. refl; others = λ s r d. refl }

  module _ (last : Option ℕ) (row : Row) (old mid : GoalStore) (h : StepsSwept last row old mid) (n : ℕ)
      (held : row_at mid n ≡ Some row) where
    -- a step without the row has none to sweep
    none_swept : (s : ℕ) → is_behind last s ≡ true → step_value mid.goals.held.rows n s ≡ None
        → mark_at mid s row ≡ swept (k s row) (mark_at old s row)
    none_swept s b none =
        let gone : mark_at mid s row ≡ None = mark_under mid s row n held ∙ none in
        gone ∙ sym (swept_none (k s row)) ∙ ap (swept (k s row)) (sym gone ∙ h.left s b)

    pub steps_more : (step : ℕ) (new : GoalStore) → IsNext (step_value mid.goals.held.rows n) last step
        → Marks mid new step row (swept (k step row) (mark_at mid step row)) → StepsSwept (Some step) row old new
    steps_more step new next marks = record {
      done = done;
      left = left;
      others = λ s r d. marks.others s r (λ e f. d f) ∙ h.others s r d;
    }
      where
        past : (s : ℕ) → s < step → mark_at new s row ≡ swept (k s row) (mark_at old s row)
        past s less = marks.others s row (λ e f. absurd (omega (arith, e, less))) ∙ by (is_behind last s) refl
          where
            by : (b : Bool) → is_behind last s ≡ b → mark_at mid s row ≡ swept (k s row) (mark_at old s row)
            by false e = h.done s e
            by true e = none_swept s e (next.none_between s e less)

        done : (s : ℕ) → is_behind (Some step) s ≡ false → mark_at new s row ≡ swept (k s row) (mark_at old s row)
        done s e = elim (eqb_tells s step) [
          | inl d ↦ subst (λ z. mark_at new z row ≡ swept (k z row) (mark_at old z row)) (sym d.1)
              (marks.this ∙ ap (swept (k step row)) (h.left step next.behind))
          | inr d ↦ past s (less d.1)
        ]
          where
            less : s ≢ step → s < step
            less d = grind (arith, nat_tests, e, d)

        left : (s : ℕ) → is_behind (Some step) s ≡ true → mark_at new s row ≡ mark_at old s row
        left s e = marks.others s row (λ d f. above d) ∙ h.left s (behind_further last step s next.behind e)
          where
            above : s ≡ step → ⊥
            above d = grind (arith, nat_tests, e, d)

    pub steps_end : NoneBehind (step_value mid.goals.held.rows n) last → (s : ℕ) → mark_at mid s row ≡ swept (k s row) (mark_at old s row)
    steps_end none s = by (is_behind last s) refl
      where
        by : (b : Bool) → is_behind last s ≡ b → mark_at mid s row ≡ swept (k s row) (mark_at old s row)
        by false e = h.done s e
        by true e = none_swept s e (none s e)

  -- ---- one number after the other

  -- the goal is swept, or its row stands under none of the numbers so far
  abbrev pub IsSwept : ℕ → GoalStore → GoalStore → ℕ → Row → Type 0
  IsSwept i old new s r = (mark_at new s r ≡ swept (k s r) (mark_at old s r))
      ⊎ ((mark_at new s r ≡ mark_at old s r) × ((m : ℕ) → m < i → row_at old m ≢ Some r))

  pub record SweptBelow (i : ℕ) (old new : GoalStore) : Type 0 where
    pub done : (s : ℕ) (r : Row) → IsSwept i old new s r
    pub rows : SameRows old new

  pub below_begin : (g : GoalStore) → SweptBelow 0 g g
  below_begin g = record { done = λ s r. inr (refl, λ m lt. absurd (omega (arith, lt))); rows = λ m. refl }

  pub below_more : (i : ℕ) (old mid new : GoalStore) → SweptBelow i old mid
      → ((row : Row) → row_at mid i ≡ Some row → (s : ℕ) → mark_at new s row ≡ swept (k s row) (mark_at mid s row))
      → ((s : ℕ) (r : Row) → row_at mid i ≢ Some r → mark_at new s r ≡ mark_at mid s r)
      → SameRows mid new → SweptBelow (i + 1) old new
  below_more i old mid new h marks others rows = record { done = λ s r. at s r (row_at mid i) refl; rows = λ m. rows m ∙ h.rows m }
    where
      other : (s : ℕ) (r : Row) → row_at mid i ≢ Some r → IsSwept (i + 1) old new s r
      other s r n = elim (h.done s r) [
        | inl e ↦ inl (others s r n ∙ e)
        | inr p ↦ inr (
          others s r n ∙ p.0,
          λ m lt e. elim (eqb_tells m i) [
            | inl d ↦ n (h.rows i ∙ ap (row_at old) (sym d.1) ∙ e)
            | inr d ↦ p.1 m (below m lt d.1) e
          ],
        )
      ]
        where
          below : (m : ℕ) → m < i + 1 → m ≢ i → m < i
          below m lt d = grind (arith, lt, d)

      this : (s : ℕ) (r : Row) → row_at mid i ≡ Some r → IsSwept (i + 1) old new s r
      this s r e = inl (marks r e s ∙ elim (h.done s r) [
        | inl f ↦ ap (swept (k s r)) f ∙ swept_twice (k s r) (mark_at old s r)
        | inr p ↦ ap (swept (k s r)) p.0
      ])

      at : (s : ℕ) (r : Row) (o : Option Row) → row_at mid i ≡ o → IsSwept (i + 1) old new s r
      at s r None e = other s r (λ d. not_some r (sym e ∙ d))
      at s r (Some x) e = elim (tells exact_rows r x) [
        | inl d ↦ this s r (e ∙ ap Some (sym d))
        | inr d ↦ other s r (λ q. d (same_some r x (sym q ∙ e)))
      ]

  -- at the end the goals are settled
  pub below_all : (i : ℕ) (old mid new : GoalStore) → SweptBelow i old mid → ((m : ℕ) → i ≤ m → row_at old m ≡ None) → AllOld old
      → Settled mid new → (s : ℕ) (r : Row) → mark_at new s r ≡ (if k s r then mark_at old s r else None)
  below_all i old mid new h none all_old settles s r =
      settles s r ∙ ap settled (by (h.done s r)) ∙ settled_swept (k s r) (mark_at old s r) (all_old s r)
    where
      nowhere : ((m : ℕ) → m < i → row_at old m ≢ Some r) → mark_at old s r ≡ None
      nowhere below = unnumbered old s r at
        where
          at : (m : ℕ) → row_at old m ≢ Some r
          at m e = half (nat_lt m i) refl
            where
              half : (b : Bool) → nat_lt m i ≡ b → ⊥
              half true lt = below m (grind (arith, nat_tests, lt)) e
              half false lt = not_some r (sym (none m (grind (arith, nat_tests, lt))) ∙ e)

      by : IsSwept i old mid s r → mark_at mid s r ≡ swept (k s r) (mark_at old s r)
      by (inl e) = e
      by (inr p) =
          let gone = nowhere p.1 in
          p.0 ∙ gone ∙ sym (swept_none (k s r)) ∙ ap (swept (k s r)) (sym gone)
