-- What a text holds, when an engine may begin, and what a report leaves.
use Rattle.std.proofs.Common.{◌≡◌, ◌≢◌, ℕ, ◌+◌, ◌≤◌, ◌<◌, ◌&&◌, not, Bool, true, false, Err, Option, List, length, map, refl, sym, ap, ◌∙◌, subst, arith}
use Rattle.std.specs.List.{flat_map}
use Rattle.ordered_lists.specs.Canon.{Rising, Rising-canon}
use Rattle.event_model.specs.EventOrder.{detection_cmp, exact_detections}
use Rattle.event_model.specs.Presence.{History, all_inputs, settled, present, copies, extended, settles, judge, verdict_of, after_verdict}
use Rattle.event_model.specs.declared.events.Detection.{Detection}
use Rattle.event_model.specs.declared.inputs.Input.{Input}
use Rattle.event_model.specs.declared.inputs.Input.TheVariants.{Add, Take, Advance, Nothing, Begin, Commit}
use Rattle.event_model.specs.declared.inputs.Judgement.{Judgement}
use Rattle.event_model.specs.declared.inputs.Judgement.TheVariants.{Fine, Batch, Below, Absent}
use Rattle.rule_ast.specs.Trees.{PlainStatement}
use Rattle.rule_grammar.specs.Files.{Holds}
use Rattle.rule_grammar.specs.declared.faults.Which.{Which}
use Rattle.rule_parser.specs.Answers.{Gives}
use Rattle.rule_parser.specs.declared.faults.ParseFault.{ParseFault}
use Rattle.rule_parser.specs.declared.faults.ParseFault.TheVariants as parse
use Rattle.rule_parser.proofs.Meanings.{one_meaning}
use Rattle.rule_check.specs.Names.{outputs}
use Rattle.rule_check.specs.Sound.{rules_of}
use Rattle.rule_check.specs.Verdict.{IsSound}
use Rattle.rule_check.specs.declared.faults.CheckFault.{CheckFault}
use Rattle.rule_check.specs.declared.faults.CheckFault.TheVariants as check
use Rattle.step_meaning.specs.PlanOf.{plan_of}
use Rattle.binariser.specs.declared.faults.TheConstants.{MOST_STEPS}
use Rattle.pattern_meaning.specs.RuleRows.{name_rows}
use Rattle.pattern_meaning.specs.Standing.{detection_of, standing}
use Rattle.pattern_meaning.specs.Replies.{changed, change_by, standing_after, says_nothing}
use Rattle.pattern_meaning.specs.Left.{changed_is, untold}
use Rattle.etalis_core.specs.Kept.{HasRoom}
use Rattle.etalis_core.specs.StandsFor.{StandsFor, WorksFrom, CanBegin, can_begin, late_of, is_working}
use Rattle.etalis_core.specs.declared.present.TheConstants.{MOST_COPIES}
use Rattle.etalis_core.specs.declared.engine.Engine.{Engine}
use Rattle.etalis_core.proofs.HistoryLaws.{copies_few, fine_parts, inputs_few}
use Rattle.parcel_watch.specs.Watches.{Watches, after}
use Rattle.parcel_watch.specs.declared.watch.Watch.{Watch}

-- the plan of the rules that a text holds has too many steps where that of the rules that were read has
pub too_many : (text : List ℕ) (made rules : List PlainStatement) → Holds text made → Holds text rules → length (plan_of rules).steps ≤ MOST_STEPS
    → MOST_STEPS < length (plan_of made).steps → ⊥
too_many text made rules m r fits over = omega (arith, over, subst (λ r. length (plan_of r).steps ≤ MOST_STEPS) (one_meaning text rules made r m) fits)

-- rules that a text holds are read
pub not_syntax : (rules : List PlainStatement) (f : ParseFault) (at : ℕ) → f ≡ parse.Syntax at → Gives rules (Err f) → ⊥
not_syntax rules f at e gives = subst (λ x. Gives rules (Err x)) e gives

pub not_limit : (rules : List PlainStatement) (f : ParseFault) (which : Which) (at : ℕ) → f ≡ parse.Limit which at → Gives rules (Err f) → ⊥
not_limit rules f which at e gives = subst (λ x. Gives rules (Err x)) e gives

-- rules that a text holds are refused as unsound for want of memory alone
pub sound_held : (made rules : List PlainStatement) (f : CheckFault) → made ≡ rules → (IsSound made → f ≡ check.Memory) → f ≢ check.Memory → IsSound rules → ⊥
sound_held made rules f same exact other sound = other (exact (subst IsSound (sym same) sound))

-- ---- what an engine may begin

room : (h : History) (input : Input) → length (all_inputs h) < MOST_COPIES → HasRoom (copies (all_inputs h)) input
room h (Add e) few = omega (arith, few, copies_few (all_inputs h) e)
room h (Take e) few = tt
room h (Advance t) few = tt
room h Nothing few = tt
room h Begin few = tt
room h Commit few = tt

pub may_begin : (engine : Engine) (h : History) (input : Input) → StandsFor engine h → judge (late_of engine) h input ≡ Fine
    → length (all_inputs h) < MOST_COPIES → CanBegin engine h input
may_begin engine h input stands fine few = can_begin engine h input stands fine (room h input few)

-- an engine that was begun works exactly where the input settles something
pub settles_where : (engine : Engine) (h : History) (input : Input) (left : ℕ) (b : Bool) → (settles h input ≡ true → WorksFrom engine h input left)
    → (settles h input ≡ false → StandsFor engine (extended h input)) → is_working engine ≡ b → settles h input ≡ b
settles_where engine h input left b works stands is = at (settles h input) refl
  where
    at : (t : Bool) → settles h input ≡ t → settles h input ≡ b
    at true e = e ∙ sym (works e).is_begun ∙ is
    at false e = e ∙ sym (stands e).not_working ∙ is

-- ---- a history after an input

pub after_fine : (late : Option ℕ) (h : History) (input : Input) → judge late h input ≡ Fine → extended h input ≡ after late h input
after_fine late h input fine = sym (ap (λ j. after_verdict h (verdict_of j input)) fine)

pub after_refused : (late : Option ℕ) (h : History) (input : Input) (j : Judgement) → judge late h input ≡ j → j ≢ Fine → h ≡ after late h input
after_refused late h input j is other = at j other ∙ sym (ap (λ x. after_verdict h (verdict_of x input)) is)
  where
    at : (x : Judgement) → x ≢ Fine → h ≡ after_verdict h (verdict_of x input)
    at Fine other = absurd (other refl)
    at Batch other = refl
    at (Below b) other = refl
    at Absent other = refl

few_after : (late : Option ℕ) (h : History) (input : Input) (count : ℕ) → judge late h input ≡ Fine → length (all_inputs h) ≤ count
    → length (all_inputs (extended h input)) ≤ count + 1
few_after late h input count fine few = omega (arith, few, inputs_few h input (fine_parts late h input fine).placed)

-- a watch of which the engine followed an input that is fine, and which counted it
pub watches_after : (late : Option ℕ) (old new : Watch) (h : History) (input : Input) → Watches old h → judge late h input ≡ Fine
    → StandsFor new.engine (extended h input) → new.count ≡ old.count + 1 → Watches new (after late h input)
watches_after late old new h input w fine stands count = subst (Watches new) (after_fine late h input fine) (record {
  stands = stands;
  few = subst (λ n. length (all_inputs (extended h input)) ≤ n) (sym count) (few_after late h input old.count fine w.few);
})

-- ---- what a report leaves

standing_rises : (rules : List PlainStatement) (h : History) → Rising detection_cmp (standing_after rules h)
unfolding standing
standing_rises rules h = Rising-canon exact_detections (flat_map (λ n. map (detection_of n) (name_rows (rules_of rules) (present (settled h)) n)) (outputs rules))

module _ (rules : List PlainStatement) (late : Option ℕ) (h : History) (input : Input) where
  -- a report of the change leaves what stands after the input
  pub told_change : (gone come : List Detection) → judge late h input ≡ Fine → gone ≡ (change_by rules h input).gone → come ≡ (change_by rules h input).come
      → changed (standing_after rules h) (record { gone = gone; come = come }) ≡ standing_after rules (after late h input)
  told_change gone come fine goes comes =
      (λ i. changed (standing_after rules h) (record { gone = goes i; come = comes i }))
      ∙ changed_is (standing_after rules h) (standing_after rules (extended h input)) (standing_rises rules (extended h input))
      ∙ ap (standing_after rules) (after_fine late h input fine)

  -- what settles nothing changes nothing
  pub told_kept : judge late h input ≡ Fine → settles h input ≡ false → standing_after rules h ≡ standing_after rules (after late h input)
  told_kept fine e =
      ap (standing rules) (sym (untold h.groups h.batch input (ap (λ b. b && not (says_nothing input)) e)))
      ∙ ap (standing_after rules) (after_fine late h input fine)
