-- What a store keeps is a fact with one proof. And its indexes are those of its plan.
use Rattle.std.specs.Prelude.{ℕ, ◌≡◌, List, length, Some, slice_get, nat_lt, true}
use Rattle.std.specs.Option.{option_map}
use Rattle.std.specs.Coded.{Coded-set, coded_bool, coded_ℕ, coded×, coded_option, le_prop}
use Rattle.event_model.specs.SlotSets.{slot_in}
use Rattle.event_model.specs.contracts.operators.Edge as edge
use Rattle.ev_bind.specs.Rows.{row_cmp, row_writes}
use Rattle.ev_bind.specs.contracts.rows.Row as row
use Rattle.row_table.specs.Apart.{IsRowTable-prop}
use Rattle.row_table.specs.Tables.{hashed}
use Rattle.rule_ast.specs.PlainPlans.{slots_list}
use Rattle.rule_ast.specs.Vars.{is_in}
use Rattle.rule_ast.specs.declared.plans.Index.{Index}
use Rattle.goal_store.specs.Good.{IsHeld, IsGood}
use Rattle.goal_store.specs.Steps.{index_in, kind}
use Rattle.goal_store.specs.declared.goals.Goals.{Goals}
use Rattle.goal_store.specs.declared.held.Held.{Held}
use Rattle.goal_store.specs.declared.steps.StepPlaces.{StepPlaces}

IsHeld-prop : (h : Held) → IsProp (IsHeld h)
IsHeld-prop h x y = λ i. record {
  table = IsRowTable-prop row.the_row.coded (hashed row_writes) row_cmp h.rows x.table y.table i;
  listed = λ s k ix e c p. Coded-set coded_bool _ _ (x.listed s k ix e c p) (y.listed s k ix e c p) i;
  within = λ n s e. Coded-set coded_bool _ _ (x.within n s e) (y.within n s e) i;
  counted = Coded-set coded_ℕ _ _ x.counted y.counted i;
}

pub IsGood-prop : (g : Goals) → IsProp (IsGood g)
IsGood-prop g x y = λ i. record {
  held = IsHeld-prop g.held x.held y.held i;
  noted = λ n s e. Coded-set coded_bool _ _ (x.noted n s e) (y.noted n s e) i;
  room = le_prop x.room y.room i;
  fits = le_prop x.fits y.fits i;
}

-- the list of the slots of a set has exactly these
abbrev pub SlotsFit : ℕ → Type 0
SlotsFit slots = (t : ℕ) → is_in t (slots_list slots) ≡ slot_in slots t

pub SlotsFit-prop : (slots : ℕ) → IsProp (SlotsFit slots)
SlotsFit-prop slots x y = λ i t. Coded-set coded_bool _ _ (x t) (y t) i

-- the key of each index has only slots that there are
abbrev pub AllFit : List Index → Type 0
AllFit indexes = (i : ℕ) (x : Index) → slice_get indexes i ≡ Some x → SlotsFit x.key

-- each index of a plan is that at its spot among those of its step
pub record IsPlaced (indexes : List Index) (spots : List ℕ) (steps : List StepPlaces) : Type 0 where
  pub fits : AllFit indexes
  pub number : length spots ≡ length indexes
  pub placed : (i : ℕ) (x : Index) (k : ℕ) → slice_get indexes i ≡ Some x → slice_get spots i ≡ Some k
      → nat_lt x.of (length steps) ≡ true → option_map kind (index_in steps x.of k) ≡ Some (x.key, x.edge)

pub IsPlaced-prop : (indexes : List Index) (spots : List ℕ) (steps : List StepPlaces) → IsProp (IsPlaced indexes spots steps)
IsPlaced-prop indexes spots steps x y = λ i. record {
  fits = λ j z a. SlotsFit-prop z.key (x.fits j z a) (y.fits j z a) i;
  number = Coded-set coded_ℕ _ _ x.number y.number i;
  placed = λ j z k a b c. Coded-set (coded_option (coded× coded_ℕ edge.the_row.coded)) _ _ (x.placed j z k a b c) (y.placed j z k a b c) i;
}
