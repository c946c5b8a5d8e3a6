-- The rows of a join under way.
use Rattle.std.proofs.Common.{◌≡◌, refl, ap, sym, ◌∙◌, subst, ℕ, zero, suc, ◌+◌, ◌-◌, ◌<◌, ◌≤◌, List, [], ◌∷◌, ◌++◌, length, drop, map, slice_index_or, Option, Some, None, Result, Ok, Err, add-one, add-zero, arith}
use Rattle.std.specs.Prelude.{IfOk}
use Rattle.std.specs.declared.alloc.AllocError.{AllocError}
use Rattle.std.proofs.lemmas.Grind.{common_steps}
use Rattle.std.proofs.lemmas.List.{drop-append-le, drop-map, length-map}
use Rattle.interval_ops.specs.declared.ranges.Side.TheVariants.{Left, Right}
use Rattle.ev_bind.specs.declared.rows.Row.{Row}
use Rattle.row_changes.specs.Visits.{Visit, At, Made, signed}
use Rattle.change_meaning.specs.Caps.{fitting}
use Rattle.change_meaning.specs.JoinVisits.{JoinView, JoinTask, join_task, join_tasks, join_visits, partners, meeting, meeting_visit, visits_at}
use Rattle.goal_store.specs.declared.kept.GoalStore.{GoalStore}
use Rattle.step_changes.specs.Deltas.{plain_delta, plain_deltas}
use Rattle.step_changes.specs.Notes.{noted}
use Rattle.step_changes.specs.Stretches.{made_more, made_on}
use Rattle.step_changes.specs.Tasks.{at_left, WorksOn, row_stops, row_ends, none_left, task_left, task_begun}
use Rattle.step_changes.specs.declared.deltas.Delta.{Delta}
use Rattle.step_changes.specs.declared.pending.Pending.{Pending}
use Rattle.match_step.specs.declared.joining.JoinStep.{JoinStep}
use Rattle.match_step.specs.declared.joining.Place.{Place}
use Rattle.match_step.specs.declared.joining.Under.{Under}
use Rattle.match_step.specs.declared.ways.JoinWay.{JoinWay}
use Rattle.match_step.specs.Left.{mark_left}
use Rattle.match_step.specs.Joining.{view_of, under_left, join_left}
use Rattle.match_step.specs.Rows.{task_of, tasks, join_at, row_at, RowWork}

-- ---- changed rows by their numbers

drop_next : {A : Type 0} (xs : List A) (i : ℕ) (d : A) → i < length xs → drop i xs ≡ slice_index_or xs i d ∷ drop (i + 1) xs
drop_next [] i d h = absurd (omega arith)
drop_next (x ∷ xs) zero d h = refl
drop_next (x ∷ xs) (suc i) d h =
    let lt : i < length xs = omega arith in
    let e : drop i xs ≡ slice_index_or xs i d ∷ drop (i + 1) xs = drop_next xs i d lt in simp add-one (simp add-one at e)

-- the same of a list made of another
next_map : {A B : Type 0} (f : A → B) (xs : List A) (i : ℕ) (x : A) → drop i xs ≡ x ∷ drop (i + 1) xs
    → drop i (map f xs) ≡ f x ∷ drop (i + 1) (map f xs)
next_map f xs i x e = drop-map f i xs ∙ ap (map f) e ∙ ap (λ l. f x ∷ l) (sym (drop-map f (i + 1) xs))

next_left : {A : Type 0} (xs ys : List A) (i : ℕ) (x : A) → i < length xs → drop i xs ≡ x ∷ drop (i + 1) xs
    → drop i (xs ++ ys) ≡ x ∷ drop (i + 1) (xs ++ ys)
next_left xs ys i x h e =
    let a : i ≤ length xs = omega arith in let b : i + 1 ≤ length xs = omega arith in
    drop-append-le i xs ys a ∙ ap (λ l. l ++ ys) e ∙ ap (λ l. x ∷ l) (sym (drop-append-le (i + 1) xs ys b))

drop_past : {A : Type 0} (xs ys : List A) (i : ℕ) → length xs ≤ i → drop i (xs ++ ys) ≡ drop (i - length xs) ys
drop_past [] ys i h = grind (arith, common_steps)
drop_past (x ∷ xs) ys zero h = absurd (omega arith)
drop_past (x ∷ xs) ys (suc i) h =
    let le : length xs ≤ i = omega arith in
    let e : suc i - length (x ∷ xs) ≡ i - length xs = omega arith in drop_past xs ys i le ∙ ap (λ k. drop k ys) (sym e)

next_right : {A : Type 0} (xs ys : List A) (i : ℕ) (y : A) → length xs ≤ i → drop (i - length xs) ys ≡ y ∷ drop (i - length xs + 1) ys
    → drop i (xs ++ ys) ≡ y ∷ drop (i + 1) (xs ++ ys)
next_right xs ys i y h e =
    let b : length xs ≤ i + 1 = omega arith in
    let n : i - length xs + 1 ≡ i + 1 - length xs = omega arith in
    drop_past xs ys i h ∙ e ∙ ap (λ k. y ∷ drop k ys) n ∙ ap (λ l. y ∷ l) (sym (drop_past xs ys (i + 1) b))

module _ (cl cr : List Delta) (i : ℕ) (d : Delta) where
  abbrev all : List JoinTask
  all = join_tasks (plain_deltas cl) (plain_deltas cr)

  left_len : length (map (join_task Left) (plain_deltas cl)) ≡ length cl
  left_len = length-map (plain_deltas cl) (join_task Left) ∙ length-map cl plain_delta

  pub left_task : i < length cl → drop i all ≡ task_of Left (slice_index_or cl i d) ∷ drop (i + 1) all
  left_task h =
      let e = left_len in
      next_left (map (join_task Left) (plain_deltas cl)) (map (join_task Right) (plain_deltas cr)) i (task_of Left (slice_index_or cl i d))
      (omega (arith, e, h))
      (next_map (join_task Left) (plain_deltas cl) i (plain_delta (slice_index_or cl i d))
      (next_map plain_delta cl i (slice_index_or cl i d) (drop_next cl i d h)))

  pub right_task : length cl ≤ i → i - length cl < length cr
      → drop i all ≡ task_of Right (slice_index_or cr (i - length cl) d) ∷ drop (i + 1) all
  right_task h k =
      let e = left_len in
      next_right (map (join_task Left) (plain_deltas cl)) (map (join_task Right) (plain_deltas cr)) i
      (task_of Right (slice_index_or cr (i - length cl) d)) (omega (arith, e, h))
      (subst (λ n. drop n (map (join_task Right) (plain_deltas cr)) ≡ task_of Right (slice_index_or cr (i - length cl) d)
      ∷ drop (n + 1) (map (join_task Right) (plain_deltas cr))) (ap (λ n. i - n) (sym e))
      (next_map (join_task Right) (plain_deltas cr) (i - length cl) (plain_delta (slice_index_or cr (i - length cl) d))
      (next_map plain_delta cr (i - length cl) (slice_index_or cr (i - length cl) d) (drop_next cr (i - length cl) d k))))

-- ---- visits

map_twice : {A B C : Type 0} (f : B → C) (g : A → B) (xs : List A) → map f (map g xs) ≡ map (λ x. f (g x)) xs
map_twice f g [] = refl
map_twice f g (x ∷ xs) = ap (λ l. f (g x) ∷ l) (map_twice f g xs)

-- the visits of a changed row: its own, and what its partners give
pub row_visits : (v : JoinView) (t : JoinTask) (items : List (Option Row))
    → items ≡ map (λ p. fitting v.cap (meeting v.op t.side t.row p)) (partners v t.side t.row)
    → visits_at v t ≡ None ∷ map (signed t.sign) items
row_visits v t items e =
    let none : Visit = None in
    ap (λ l. none ∷ l) (sym (ap (map (signed t.sign)) e
    ∙ map_twice (signed t.sign) (λ p. fitting v.cap (meeting v.op t.side t.row p)) (partners v t.side t.row)))

pub starts : (goals : GoalStore) (way : JoinWay) (lefts rights : List Delta)
    → join_left goals way lefts rights (record { begun = 0; under = None })
    ≡ join_visits (view_of goals way) (plain_deltas lefts) (plain_deltas rights)
unfolding join_left
starts goals way lefts rights = refl

-- ---- stretches

more : (a b c : At) (units rest : ℕ) → Made a b 1 0 → 0 < units → Made b c (units - 1) rest → Made a c units rest
more a b c units rest m some h =
    let e : 1 + (units - 1) ≡ units = omega arith in subst (λ n. Made a c n rest) e (made_on a b c 1 (units - 1) rest m h)

-- the work goes on from where a stretch came to
works_after : (a b c : At) (units rest : ℕ) (r : Option ℕ) → Made a b units rest → WorksOn b c rest r → WorksOn a c units r
works_after a b c units rest None m h = (made_more a b c units rest 0 m h.0, h.1)
works_after a b c units rest (Some last) m h = (made_more a b c units rest last m h.0, h.1)

pub works_on : (a b c : At) (units rest : ℕ) (r : Result (Option ℕ) AllocError) → Made a b units rest → IfOk r (WorksOn b c rest)
    → IfOk r (WorksOn a c units)
works_on a b c units rest (Err e) m h = tt
works_on a b c units rest (Ok r) m h = works_after a b c units rest r m h

-- ---- one row

module _ (j : JoinStep) where
  -- its partners are visited
  pub row_over : (place : Place) (xs ys : List Visit) (p q : Pending) (units rest : ℕ) → place.under ≡ None
      → Made (at_left xs (noted p)) (at_left ys (noted q)) units rest → ys ≡ []
      → RowWork j place.begun (row_at j place.begun xs p) place q units (Some rest)
  unfolding join_left
  row_over place xs ys p q units rest none m over = (
    subst (λ o. Made (row_at j place.begun xs p) (row_at j place.begun (under_left j.goals.now o) q) units rest) (sym none)
        (row_ends (visits_at (view_of j.goals.now j.way)) (tasks j) place.begun xs (noted p) (noted q) units rest
        (subst (λ zs. Made (at_left xs (noted p)) (at_left zs (noted q)) units rest) over m)),
    none,
    refl,
  )

  -- it has partners left
  pub row_stopped : (begun : ℕ) (u : Under) (xs ys : List Visit) (p q : Pending) (units : ℕ)
      → Made (at_left xs (noted p)) (at_left ys (noted q)) units 0 → (ys ≡ [] → ⊥) → ys ≡ map (signed u.sign) (mark_left j.goals.now u.mark)
      → RowWork j begun (row_at j begun xs p) (record { begun = begun; under = Some u }) q units None
  unfolding join_left
  row_stopped begun u xs ys p q units m left e =
      row_stops (visits_at (view_of j.goals.now j.way)) (tasks j) begun xs (map (signed u.sign) (mark_left j.goals.now u.mark))
      (noted p) (noted q) units 0
      (subst (λ zs. Made (at_left xs (noted p)) (at_left zs (noted q)) units 0) e m) refl (λ n. left (e ∙ n))

  -- no row is under way
  pub none_under : (place : Place) (p : Pending) → place.under ≡ None → join_at j place p ≡ row_at j place.begun [] p
  unfolding join_left
  none_under place p none = ap (λ o. row_at j place.begun (under_left j.goals.now o) p) none

  -- one is
  pub some_under : (place : Place) (u : Under) (p : Pending) → place.under ≡ Some u
      → join_at j place p ≡ row_at j place.begun (map (signed u.sign) (mark_left j.goals.now u.mark)) p
  unfolding join_left
  some_under place u p some = ap (λ o. row_at j place.begun (under_left j.goals.now o) p) some

  module _ (n : ℕ) (place : Place) (q : Pending) where
    pub work_from : (a b : At) (units : ℕ) (r : Result (Option ℕ) AllocError) → a ≡ b → IfOk r (RowWork j n a place q units)
        → IfOk r (RowWork j n b place q units)
    work_from a b units r e h = subst (λ x. IfOk r (RowWork j n x place q units)) e h

    -- one visit before
    pub work_on : (a b : At) (units : ℕ) → Made a b 1 0 → 0 < units → (r : Result (Option ℕ) AllocError)
        → IfOk r (RowWork j n b place q (units - 1)) → IfOk r (RowWork j n a place q units)
    work_on a b units m some (Err e) h = tt
    work_on a b units m some (Ok None) h = (more a b (join_at j place q) units 0 m some h.0, h.1)
    work_on a b units m some (Ok (Some rest)) h = (more a b (join_at j place q) units rest m some h.0, h.1, h.2)

  -- a row is begun
  pub begins : (place : Place) (t : JoinTask) (under : List Visit) (p : Pending) → place.under ≡ None
      → drop place.begun (tasks j) ≡ t ∷ drop (place.begun + 1) (tasks j) → visits_at (view_of j.goals.now j.way) t ≡ None ∷ under
      → Made (join_at j place p) (row_at j (place.begun + 1) under p) 1 0
  begins place t under p none next own =
      subst (λ a. Made a (row_at j (place.begun + 1) under p) 1 0) (sym (none_under place p none))
      (task_begun (visits_at (view_of j.goals.now j.way)) (tasks j) place.begun t (drop (place.begun + 1) (tasks j)) next None under
      (noted p) (noted p) own refl (λ s r. sym (add-zero (noted p s r))))

  -- ---- row after row

  pub all_begun : (place : Place) (p : Pending) → place.under ≡ None → drop place.begun (tasks j) ≡ []
      → (join_at j place p).left ≡ []
  all_begun place p none over =
      ap (λ a. a.left) (none_under place p none) ∙ none_left (visits_at (view_of j.goals.now j.way)) (tasks j) place.begun over

  pub one_left : (place : Place) (p : Pending) (t : JoinTask) → place.under ≡ None
      → drop place.begun (tasks j) ≡ t ∷ drop (place.begun + 1) (tasks j) → (join_at j place p).left ≡ [] → ⊥
  one_left place p t none next over =
      task_left (visits_at (view_of j.goals.now j.way)) (tasks j) place.begun t (drop (place.begun + 1) (tasks j)) next None
      (map (meeting_visit (view_of j.goals.now j.way) t) (partners (view_of j.goals.now j.way) t.side t.row)) refl
      (sym (ap (λ a. a.left) (none_under place p none)) ∙ over)
