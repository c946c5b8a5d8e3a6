-- A step that works through changed rows, each with visits: what is left of it, and how its work goes on.
--     tasks_left visits tasks n under     the visits of the row under way, and of the tasks from n on
--     WorksOn p q units r                 the work from p to q under so many units
use Rattle.std.specs.Prelude.{◌≡◌, refl, ℕ, zero, suc, ◌+◌, ◌-◌, ◌<◌, ◌↔◌, Bool, true, false, List, [], ◌∷◌, ◌++◌, drop, map, Option, Some, None}
use Rattle.std.specs.List.{flat_map}
use Rattle.std.proofs.Common.{ap, sym, ◌∙◌, subst, arith}
use Rattle.std.proofs.lemmas.Bool.{true≢false}
use Rattle.event_changes.specs.declared.changes.Sign.{Sign}
use Rattle.ev_bind.specs.declared.rows.Row.{Row}
use Rattle.row_changes.specs.Visits.{Visit, tally, At, Made}
use Rattle.step_changes.specs.Stretches.{made_one, made_more, made_front, nil_front}

abbrev pub at_left : List Visit → (Sign → Row → ℕ) → At
at_left left noted = record { left = left; noted = noted }

abbrev pub tasks_left : {T : Type 0} → (T → List Visit) → List T → ℕ → List Visit → List Visit
tasks_left visits tasks n under = under ++ flat_map visits (drop n tasks)

-- the units are used up and visits are left, or all visits are made and these units are left
abbrev pub WorksOn : At → At → ℕ → Option ℕ → Type 0
WorksOn p q units None = Made p q units 0 × (q.left ≡ [] → ⊥)
WorksOn p q units (Some rest) = Made p q units rest × (q.left ≡ [])

-- where a row stays under way, its visits are left and the units are used up
abbrev pub StopsAt : {W : Type 0} → ℕ → Option W → List Visit → Type 0
StopsAt rest None under = Unit {0}
StopsAt rest (Some w) under = (rest ≡ 0) × (under ≡ [] → ⊥)

-- ---- laws

-- units that are left are left at the end
pub stops_at : {X : Type 0} (rest : ℕ) (b : Bool) (xs : List X) → (0 < rest → xs ≡ []) → ((b ≡ false) ↔ (xs ≡ [])) → b ≡ true
    → (rest ≡ 0) × (xs ≡ [] → ⊥)
stops_at zero b xs h i e = (refl, λ n. true≢false (sym e ∙ i.1 n))
stops_at (suc r) b xs h i e = absurd (true≢false (sym e ∙ i.1 (h (omega arith))))

pub nil_of_map : {A B : Type 0} (f : A → B) (xs : List A) → map f xs ≡ [] → xs ≡ []
nil_of_map f [] e = refl
nil_of_map f (x ∷ xs) e = absurd (cc)

module _ {T : Type 0} (visits : T → List Visit) (tasks : List T) where
  -- the row under way stops, and the others behind it are left
  pub row_stops : (n : ℕ) (under over : List Visit) (p q : Sign → Row → ℕ) (units rest : ℕ)
      → Made (at_left under p) (at_left over q) units rest → rest ≡ 0 → (over ≡ [] → ⊥)
      → Made (at_left (tasks_left visits tasks n under) p) (at_left (tasks_left visits tasks n over) q) units 0
      × (tasks_left visits tasks n over ≡ [] → ⊥)
  row_stops n under over p q units rest m z left = (
    subst (λ k. Made (at_left (tasks_left visits tasks n under) p) (at_left (tasks_left visits tasks n over) q) units k) z
        (made_front under over (flat_map visits (drop n tasks)) p q units rest m),
    λ e. left (nil_front over (flat_map visits (drop n tasks)) e),
  )

  -- the row under way comes to its end
  pub row_ends : (n : ℕ) (under : List Visit) (p q : Sign → Row → ℕ) (units rest : ℕ)
      → Made (at_left under p) (at_left [] q) units rest
      → Made (at_left (tasks_left visits tasks n under) p) (at_left (tasks_left visits tasks n []) q) units rest
  row_ends n under p q units rest m = made_front under [] (flat_map visits (drop n tasks)) p q units rest m

  -- no task is left
  pub none_left : (n : ℕ) → drop n tasks ≡ [] → tasks_left visits tasks n [] ≡ []
  none_left n e = ap (flat_map visits) e

  module _ (n : ℕ) (t : T) (ts : List T) (d : drop n tasks ≡ t ∷ ts) where
    -- a task that is left has its own visit
    pub task_left : (v : Visit) (vs : List Visit) → visits t ≡ v ∷ vs → tasks_left visits tasks n [] ≡ [] → ⊥
    task_left v vs own e =
        let f : v ∷ (vs ++ flat_map visits ts) ≡ [] =
        sym (ap (λ l. l ++ flat_map visits ts) own) ∙ sym (ap (flat_map visits) d) ∙ e in absurd (cc)

    -- its own visit is made, and its others are under way
    pub task_begun : (v : Visit) (under : List Visit) (p q : Sign → Row → ℕ) → visits t ≡ v ∷ under → drop (n + 1) tasks ≡ ts
        → ((s : Sign) (r : Row) → q s r ≡ p s r + tally s r (v ∷ []))
        → Made (at_left (tasks_left visits tasks n []) p) (at_left (tasks_left visits tasks (n + 1) under) q) 1 0
    task_begun v under p q own next h =
        made_one _ (at_left (tasks_left visits tasks (n + 1) under) q) v 1 0
        (ap (flat_map visits) d ∙ ap (λ l. l ++ flat_map visits ts) own ∙ ap (λ l. v ∷ (under ++ flat_map visits l)) (sym next))
        (omega arith) h

-- one unit more is used
pub one_more : (a b c : At) (all u : ℕ) → Made a b all u → 0 < u → Made b c 1 0 → Made a c all (u - 1)
one_more a b c all u m h e =
    made_more a b c all u (u - 1) m (record { made = e.made; left = e.left; number = omega (arith, e.number, h); noted = e.noted })
