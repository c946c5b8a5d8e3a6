-- An engine taken apart: of the history for which it stands nothing else is kept than the bound, the copies of events from the bound on,
-- and the kept rows with their counts.
--     parts_of engine          the parts of an engine
--     PartsStandFor p h        they stand for the history h
use Rattle.std.specs.Prelude.{◌≡◌, false, List}
use Rattle.event_model.specs.Presence.{History, settled, all_inputs, in_batch, present, IsAccepted}
use Rattle.rule_ast.specs.Plain.{plain_rules}
use Rattle.rule_ast.specs.Trees.{PlainStatement}
use Rattle.rule_check.specs.Cycles.{IsRanking, rank_of}
use Rattle.rule_check.specs.Sound as sound
use Rattle.step_meaning.specs.PlanOf.{plan_of}
use Rattle.row_changes.specs.declared.caps.CapList.{CapList}
use Rattle.change_meaning.specs.Caps.{caps_in}
use Rattle.horizon_meaning.specs.Caps.{AreCaps}
use Rattle.support_table.specs.Copies.{copies_of}
use Rattle.revision.specs.Apart as work
use Rattle.revision.specs.Apart.{plan_apart, PartsHold}
use Rattle.revision.specs.declared.apart.WorkParts.{WorkParts}
use Rattle.etalis_core.specs.Kept.{AreCopies}
use Rattle.etalis_core.specs.StandsFor.{horizon, HaveSpans}
use Rattle.etalis_core.specs.declared.apart.EngineParts.{EngineParts}
use Rattle.etalis_core.specs.declared.engine.Engine.{Engine}

abbrev pub parts_of : Engine → EngineParts
parts_of engine = record {
  checked = engine.rules;
  late = engine.late;
  bound = engine.ledger.bound;
  copies = engine.ledger.present.numbers;
  work = work.parts_of engine.work;
}

-- their rules
abbrev pub rules_apart : EngineParts → List PlainStatement
rules_apart p = plain_rules p.checked

-- they are parts of a work on the plan of these rules, with its caps
pub record ArePartsOf (w : WorkParts) (rules : List PlainStatement) : Type 0 where
  pub ranking : IsRanking (sound.rules_of rules) (rank_of (sound.rules_of rules))
  pub plan : plan_apart w ≡ plan_of rules
  pub caps : (list : CapList) × (caps_in w.caps ≡ caps_in list) × AreCaps (plan_of rules) list

-- This history is accepted, and no batch is open: the bound is its bound, the copies are those of its events from the bound on, and the
-- parts of the work hold the events that are present, at the bound.
pub record PartsStandFor (p : EngineParts) (history : History) : Type 0 where
  pub accepted : IsAccepted p.late history
  pub spans : HaveSpans (all_inputs history)
  pub outside : in_batch history ≡ false
  pub bound : p.bound ≡ horizon p.late history
  pub copies : AreCopies (copies_of p.copies) (horizon p.late history) (all_inputs history)
  pub plan : ArePartsOf p.work (rules_apart p)
  pub holds : PartsHold p.work (horizon p.late history) (present (settled history))
