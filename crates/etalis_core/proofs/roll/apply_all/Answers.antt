use Rattle.std.proofs.Common.{◌∙◌, ◌+◌, sym, ap, drop, ℕ}
use Rattle.std.specs.Prelude.{if◌then◌else◌}
use Rattle.std.specs.Ordering.{is_eq}
use Rattle.std.proofs.lemmas.List.{at_drop_more, at_drop_all}
use Rattle.ordered_lists.specs.Canon.{has}
use Rattle.ordered_lists.specs.Rises.{rising_sorted}
use Rattle.event_model.specs.EventOrder.{event_cmp}
use Rattle.event_changes.specs.Events.{event_of}
use Rattle.etalis_core.specs.Kept.{has_come}
use Rattle.etalis_core.proofs.RollLaws.{applied, all_applied}
use Rattle.etalis_core.proofs.roll.apply_all.Goals as goal

pub loop-change-preserved : goal.loop-change-preserved
loop-change-preserved c = (
  λ e.
      let cs = c.args.changes.now in
      let i : ℕ = c.loop-change.change-index in
      let was = has event_cmp e c.loop-change.events.keys in
      ap (applied (drop (i + 1) cs) e) (c.in_ok-apply.ensures.events e)
      ∙ ap (λ x. applied (drop (i + 1) cs) e (if is_eq (event_cmp (event_of x) e) then has_come x else was)) c.change-item.is
      ∙ sym (at_drop_more (λ l. applied l e was) cs i c.change-item.result c.loop-change-test.true)
      ∙ c.loop-change.invariant.0 e,
  λ r. rising_sorted event_cmp c.apply.new.events.keys c.in_ok-apply.ensures.ordered,
)

pub returns : goal.returns
returns c = λ after r rises is.
    all_applied c.args.events.now.keys after c.loop-change.events.keys rises (c.loop-change.invariant.1 r)
    (λ e. sym (at_drop_all (λ l. applied l e (has event_cmp e c.loop-change.events.keys)) c.args.changes.now c.loop-change.change-index c.loop-change-test.false)
    ∙ c.loop-change.invariant.0 e ∙ ap (λ l. applied l e (has event_cmp e c.args.events.now.keys)) is)
