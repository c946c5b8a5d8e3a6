-- What an engine stands for and works from: it keeps what a history comes to, and not the history.
use Rattle.std.specs.Prelude.{◌≡◌, ℕ, nat_le, Bool, true, false, not, ◌&&◌, Option, None, List, map, length, get_or}
use Rattle.std.specs.List.{filter, flat_map}
use Rattle.event_model.specs.Events.{time_of}
use Rattle.event_model.specs.Presence.{History, added, settled, all_inputs, settles, extended, copies, present, bound, judge, IsAccepted}
use Rattle.event_model.specs.declared.inputs.Input.{Input}
use Rattle.event_model.specs.declared.inputs.Judgement.TheVariants.{Fine}
use Rattle.rule_ast.specs.Trees.{PlainStatement}
use Rattle.rule_ast.specs.Plain.{plain_rules}
use Rattle.rule_check.specs.Cycles.{IsRanking, rank_of}
use Rattle.rule_check.specs.Sound as sound
use Rattle.pattern_meaning.specs.Replies.{Change}
use Rattle.step_meaning.specs.PlanOf.{plan_of, plan_steps}
use Rattle.row_changes.specs.declared.caps.CapList.{CapList}
use Rattle.row_changes.specs.declared.caps.Reach.TheVariants.{Free}
use Rattle.change_meaning.specs.Caps.{PlainCaps, caps_in}
use Rattle.change_meaning.specs.Moved.{AreSpans}
use Rattle.horizon_meaning.specs.Caps.{AreCaps, holds}
use Rattle.revision.specs.Holding.{visits_to, rows_held}
use Rattle.revision.specs.Working as work
use Rattle.revision.specs.Working.{plan_of_work, caps_of, WorkHolds, WorkGoes}
use Rattle.revision.specs.declared.work.Work.{Work}
use Rattle.etalis_core.specs.Kept.{HasRoom, IsLedgerOf}
use Rattle.etalis_core.specs.declared.engine.Engine.{Engine}

-- ---- what an engine shows

-- the rules that it was made with
abbrev pub rules_of : Engine → List PlainStatement
rules_of engine = plain_rules engine.rules

-- the lateness that it was made with
abbrev pub late_of : Engine → Option ℕ
late_of engine = engine.late

-- whether a call has found no memory
abbrev pub is_spent : Engine → Bool
is_spent engine = engine.spent

-- whether an input was begun that settles what came before it, and isn't done
abbrev pub is_working : Engine → Bool
is_working engine = not engine.spent && work.is_working engine.work

-- what the last input for which it worked has changed of the detections that stand
abbrev pub last_change : Engine → Change
last_change engine = work.change_of engine.work

-- how many visits were made for the input for which it worked last, up to 2^128 - 1
abbrev pub visits_of : Engine → ℕ
visits_of engine = work.made_of engine.work

-- how much is to be done until the input is done: a number that falls with each turn
abbrev pub work_left : Engine → ℕ
work_left engine = work.work_left engine.work

-- ---- the visits of an input

-- how long the rows of each step of the plan of these rules count
abbrev pub caps_for : List PlainStatement → PlainCaps
caps_for rules = record {
  cap = λ i. get_or (map (λ h. h.cap) (holds (plan_of rules))) i None;
  reach = λ i. get_or (map (λ h. h.reach) (holds (plan_of rules))) i Free;
}

-- the bound at which rows are kept, that of the groups
abbrev pub horizon : Option ℕ → History → ℕ
horizon late h = bound late (settled h)

-- how many visits an input makes after a history, from the events that are present by its groups to those after the input
abbrev pub visits_by : List PlainStatement → Option ℕ → History → Input → ℕ
visits_by rules late h input =
    visits_to (plan_steps rules) (caps_for rules) (horizon late h) (present (settled h)) (present (all_inputs (extended h input)))

-- ---- how much is kept

-- the rows of all steps that are kept after a history
abbrev pub rows_kept : List PlainStatement → Option ℕ → History → ℕ
rows_kept rules late h = rows_held (plan_steps rules) (caps_for rules) (horizon late h) (present (settled h))

-- the events that are present, also by an open batch, with a time of at least the bound
abbrev pub events_kept : Option ℕ → History → ℕ
events_kept late h = length (filter (λ e. nat_le (horizon late h) (time_of e)) (present (all_inputs h)))

-- ---- what it keeps of a history

-- the work is that on the plan of these rules, with its caps
pub record IsWorkOf (w : Work) (rules : List PlainStatement) : Type 0 where
  pub ranking : IsRanking (sound.rules_of rules) (rank_of (sound.rules_of rules))
  pub plan : plan_of_work w ≡ plan_of rules
  pub caps : (list : CapList) × (caps_of w ≡ caps_in list) × AreCaps (plan_of rules) list

-- the events of these inputs are on spans of times
abbrev pub HaveSpans : List Input → Type 0
HaveSpans inputs = AreSpans (flat_map added inputs)

-- This history is accepted, and all its inputs are done: the ledger is that of the history, and the work holds the events that are
-- present by its groups, at their bound.
pub record StandsFor (engine : Engine) (history : History) : Type 0 where
  pub accepted : IsAccepted (late_of engine) history
  pub spans : HaveSpans (all_inputs history)
  pub ledger : IsLedgerOf engine.ledger (late_of engine) (settled history) history
  pub plan : IsWorkOf engine.work (rules_of engine)
  pub holds : WorkHolds engine.work (horizon (late_of engine) history) (present (settled history))
  pub not_working : is_working engine ≡ false
  pub not_spent : is_spent engine ≡ false

-- This history is accepted, and this input, which is fine after it and settles what came before it, is begun: the ledger is that of
-- the history with the input, and the work goes from the events by the groups of the history to those after the input, at the bound
-- of these groups, with so many visits left.
pub record WorksFrom (engine : Engine) (history : History) (input : Input) (left : ℕ) : Type 0 where
  pub accepted : IsAccepted (late_of engine) history
  pub fine : judge (late_of engine) history input ≡ Fine
  pub settling : settles history input ≡ true
  pub spans : HaveSpans (all_inputs (extended history input))
  pub ledger : IsLedgerOf engine.ledger (late_of engine) (settled history) (extended history input)
  pub plan : IsWorkOf engine.work (rules_of engine)
  pub goes : WorkGoes engine.work (horizon (late_of engine) history) (present (settled history))
      (present (all_inputs (extended history input))) left
  pub is_begun : is_working engine ≡ true
  pub not_spent : is_spent engine ≡ false

-- ---- what may be begun

-- the engine stands for this history, the input is fine after it, and there is room for its event
pub record CanBegin (engine : Engine) (history : History) (input : Input) : Type 0 where
  pub stands : StandsFor engine history
  pub fine : judge (late_of engine) history input ≡ Fine
  pub room : HasRoom (copies (all_inputs history)) input

pub can_begin : (engine : Engine) (history : History) (input : Input) → StandsFor engine history
    → judge (late_of engine) history input ≡ Fine → HasRoom (copies (all_inputs history)) input → CanBegin engine history input
can_begin engine history input s fine room = record { stands = s; fine = fine; room = room }
