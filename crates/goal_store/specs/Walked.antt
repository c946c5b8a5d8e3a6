-- What a walk over an index stands on.
--     IsWalk g index step slots edge key places      these places are the list of an index for a key
use Rattle.std.specs.Prelude.{ℕ, ◌≡◌, ◌&&◌, List, Some, slice_get}
use Rattle.std.specs.Coded.{Coded-set, coded_bool, coded_option}
use Rattle.ordered_lists.specs.Canon.{has, Rising}
use Rattle.event_model.specs.declared.operators.Edge.{Edge}
use Rattle.ev_bind.specs.Bindings.{Pairs}
use Rattle.ev_bind.specs.Hashing.{code_of}
use Rattle.ev_bind.specs.Projections.{project}
use Rattle.rule_ast.specs.contracts.plans.Index as plan_index
use Rattle.goal_store.specs.Good.{held_by}
use Rattle.goal_store.specs.Indexed.{stands}
use Rattle.goal_store.specs.Places.{place_cmp}
use Rattle.goal_store.specs.Rising.{rising_prop}
use Rattle.goal_store.specs.declared.kept.GoalStore.{GoalStore}
use Rattle.goal_store.specs.declared.places.Place.{Place}

pub record IsWalk (g : GoalStore) (index step slots : ℕ) (edge : Edge) (key : Pairs) (places : List Place) : Type 0 where
  pub at : slice_get g.indexes.items index ≡ Some (record { of = step; key = slots; edge = edge })
  pub rising : Rising place_cmp places
  pub listed : (p : Place) → has place_cmp p places
      ≡ (stands slots edge (code_of (project slots key)) p && held_by g.goals.held.rows step p.row p.number)

pub IsWalk-prop : (g : GoalStore) (index step slots : ℕ) (edge : Edge) (key : Pairs) (places : List Place)
    → IsProp (IsWalk g index step slots edge key places)
IsWalk-prop g index step slots edge key places x y = λ i. record {
  at = Coded-set (coded_option plan_index.the_row.coded) _ _ x.at y.at i;
  rising = rising_prop place_cmp places x.rising y.rising i;
  listed = λ p. Coded-set coded_bool _ _ (x.listed p) (y.listed p) i;
}
