-- Work on one step: it goes on, or all that the step gives is noted.
use Rattle.std.specs.Prelude.{ℕ, ◌≡◌, ◌+◌, ◌<◌, Option, Some, None, List, [], length}
use Rattle.std.proofs.Common.{ap, sym, ◌∙◌, arith, zero-add}
use Rattle.std.proofs.lemmas.Option.{none-some, same_Some}
use Rattle.event_changes.specs.declared.changes.Sign.{Sign}
use Rattle.event_changes.specs.declared.events.EventChange.{EventChange}
use Rattle.ev_bind.specs.declared.rows.Row.{Row}
use Rattle.rule_ast.specs.PlainPlans.{PlainStep, Named, Leaf, Join, Either, Where, Exact, Within, Minus, Head}
use Rattle.row_changes.specs.Visits.{Visit, tally, At}
use Rattle.step_work.specs.Views.{View, seen_visits, seen_gives}
use Rattle.step_changes.specs.Tasks.{WorksOn}
use Rattle.step_work.specs.Stepping.{Notes, StepWork}
use Rattle.revision.specs.Works.{UnderWay}
use Rattle.revision.proofs.Stretches.{goes_on, all_noted, none_noted, none_under, some_length, fewer_left}

-- visits are left, and so many were made
pub record Stopped (all : List Visit) (p q : At) (units : ℕ) : Type 0 where
  pub under : UnderWay all q
  pub fewer : length q.left + units ≡ length p.left
  pub more : 0 < length q.left

-- all that is given is noted, and so many units are left
pub record Ended (gives : List Visit) (p q : At) (units rest : ℕ) : Type 0 where
  pub noted : (s : Sign) (r : Row) → q.noted s r ≡ tally s r gives
  pub none : q.left ≡ []
  pub spent : length p.left + rest ≡ units

module _ (p q : At) (units : ℕ) where
  visits_stop : (all : List Visit) → UnderWay all p → WorksOn p q units None → Stopped all p q units
  visits_stop all u w = record {
    under = goes_on all p q units 0 u w.0;
    fewer = fewer_left p q units 0 w.0 ∙ (let e : length p.left + 0 ≡ length p.left = omega arith in e);
    more = some_length q.left w.1;
  }

  visits_end : (all : List Visit) (rest : ℕ) → UnderWay all p → WorksOn p q units (Some rest) → Ended all p q units rest
  visits_end all rest u w =
      let m = goes_on all p q units rest u w.0 in record {
        noted = all_noted all q m.0 rest m.1 w.1;
        none = w.1;
        spent = let f = fewer_left p q units rest w.0 in let z = ap length w.1 in omega (arith, f, z);
      }

  notes_end : (gives : List Visit) (rest : ℕ) → UnderWay [] p → Notes gives p q units (Some rest) → Ended gives p q units rest
  notes_end gives rest u w =
      let z = none_under p u in record {
        noted = λ s r. w.2 s r ∙ ap (λ k. k + tally s r gives) (none_noted p u s r) ∙ zero-add (tally s r gives);
        none = sym w.1 ∙ z;
        spent = let l = ap length z in let e : rest ≡ units = same_Some rest units w.0 in omega (arith, l, e);
      }

  notes_stop : (gives : List Visit) → Notes gives p q units None → ⊥
  notes_stop gives w = none-some units w.0

  module _ (cap : Option ℕ) (slots : ℕ → List ℕ) (v : View) (es : List EventChange) where
    pub step_stops : (s : PlainStep) → UnderWay (seen_visits cap slots s v) p → StepWork cap slots s v es p q units None
        → Stopped (seen_visits cap slots s v) p q units
    step_stops (Named m heads) u w = absurd (notes_stop (seen_gives cap slots (Named m heads) v es) w)
    step_stops (Leaf of a) u w = absurd (notes_stop (seen_gives cap slots (Leaf of a) v es) w)
    step_stops (Join op l r) u w = visits_stop (seen_visits cap slots (Join op l r) v) u w
    step_stops (Either l r) u w = absurd (notes_stop (seen_gives cap slots (Either l r) v es) w)
    step_stops (Where of t) u w = absurd (notes_stop (seen_gives cap slots (Where of t) v es) w)
    step_stops (Exact of n) u w = absurd (notes_stop (seen_gives cap slots (Exact of n) v es) w)
    step_stops (Within of n) u w = absurd (notes_stop (seen_gives cap slots (Within of n) v es) w)
    step_stops (Minus j f m l) u w = visits_stop (seen_visits cap slots (Minus j f m l) v) u w
    step_stops (Head of head) u w = absurd (notes_stop (seen_gives cap slots (Head of head) v es) w)

    pub step_ends : (s : PlainStep) (rest : ℕ) → UnderWay (seen_visits cap slots s v) p → StepWork cap slots s v es p q units (Some rest)
        → Ended (seen_gives cap slots s v es) p q units rest
    step_ends (Named m heads) rest u w = notes_end (seen_gives cap slots (Named m heads) v es) rest u w
    step_ends (Leaf of a) rest u w = notes_end (seen_gives cap slots (Leaf of a) v es) rest u w
    step_ends (Join op l r) rest u w = visits_end (seen_visits cap slots (Join op l r) v) rest u w
    step_ends (Either l r) rest u w = notes_end (seen_gives cap slots (Either l r) v es) rest u w
    step_ends (Where of t) rest u w = notes_end (seen_gives cap slots (Where of t) v es) rest u w
    step_ends (Exact of n) rest u w = notes_end (seen_gives cap slots (Exact of n) v es) rest u w
    step_ends (Within of n) rest u w = notes_end (seen_gives cap slots (Within of n) v es) rest u w
    step_ends (Minus j f m l) rest u w = visits_end (seen_visits cap slots (Minus j f m l) v) rest u w
    step_ends (Head of head) rest u w = notes_end (seen_gives cap slots (Head of head) v es) rest u w
