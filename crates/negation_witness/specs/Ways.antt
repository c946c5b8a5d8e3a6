-- How a Minus finds the rows that it looks at.
--     IsMinusWay goals way      its indexes are there, over the edges and slots by which a Minus looks
--     minus_view goals way      what it sees through them
use Rattle.std.specs.Prelude.{◌≡◌, Some}
use Rattle.event_model.specs.declared.operators.Edge.TheVariants.{Start, End}
use Rattle.change_meaning.specs.MinusVisits.{MinusView}
use Rattle.goal_store.specs.Goals.{seen}
use Rattle.goal_store.specs.declared.kept.GoalStore.{GoalStore}
use Rattle.goal_store.specs.declared.marks.When.TheVariants.{After}
use Rattle.step_changes.specs.Indexed.{index_at, index_of}
use Rattle.negation_witness.specs.declared.ways.MinusWay.{MinusWay}

pub record IsMinusWay (goals : GoalStore) (way : MinusWay) : Type 0 where
  pub joined_before_there : index_at goals way.joined_before ≡ Some (index_of goals way.joined_before)
  pub joined_inner_there : index_at goals way.joined_inner ≡ Some (index_of goals way.joined_inner)
  pub joined_after_there : index_at goals way.joined_after ≡ Some (index_of goals way.joined_after)
  pub before_there : index_at goals way.before ≡ Some (index_of goals way.before)
  pub inner_there : index_at goals way.inner ≡ Some (index_of goals way.inner)
  pub after_there : index_at goals way.after ≡ Some (index_of goals way.after)
  pub joined_before_edge : (index_of goals way.joined_before).edge ≡ Start
  pub joined_inner_edge : (index_of goals way.joined_inner).edge ≡ Start
  pub joined_after_edge : (index_of goals way.joined_after).edge ≡ End
  pub before_edge : (index_of goals way.before).edge ≡ Start
  pub inner_edge : (index_of goals way.inner).edge ≡ Start
  pub after_edge : (index_of goals way.after).edge ≡ End
  -- the three are over one step
  pub joined_inner_of : (index_of goals way.joined_inner).of ≡ (index_of goals way.joined_before).of
  pub joined_after_of : (index_of goals way.joined_after).of ≡ (index_of goals way.joined_before).of
  pub before_key : (index_of goals way.joined_before).key ≡ (index_of goals way.before).key
  pub inner_key : (index_of goals way.joined_inner).key ≡ (index_of goals way.inner).key
  pub after_key : (index_of goals way.joined_after).key ≡ (index_of goals way.after).key

abbrev pub minus_view : GoalStore → MinusWay → MinusView
minus_view goals way = record {
  cap = way.cap;
  joined = seen goals (index_of goals way.joined_before).of After;
  before = seen goals (index_of goals way.before).of After;
  inner = seen goals (index_of goals way.inner).of After;
  after = seen goals (index_of goals way.after).of After;
  before_key = (index_of goals way.before).key;
  inner_key = (index_of goals way.inner).key;
  after_key = (index_of goals way.after).key;
}
