use Rattle.std.proofs.Common.{◌++◌, sym, ap, ◌∙◌, append_assoc, append-nil}
use Rattle.std.specs.List.{flat_map}
use Rattle.event_changes.specs.Told.{changes_left, plain_changed}
use Rattle.etalis_core.specs.StandsFor.{last_change}
use Rattle.etalis_cli.proofs.ReplyLaws.{line_of, lines_both}
use Rattle.etalis_cli.proofs.telling.push_changes.Goals as goal

pub loop-changed-init : goal.loop-changed-init
loop-changed-init c = ap (λ l. c.args.out.now.items ++ l)
    (ap (flat_map line_of) (ap changes_left c.into_iter-changed-iterator.ensures.into_iter_gives ∙ c.changes-changed-items.ensures) ∙ lines_both (last_change c.args.engine.now))

pub loop-changed-preserved : goal.loop-changed-preserved
loop-changed-preserved c =
    let out = c.loop-changed.out.items in
    let left = changes_left c.next.new.self in
    ap (λ l. l ++ flat_map line_of left) c.in_ok-change_text.ensures.ok
    ∙ append_assoc out (line_of (plain_changed c.in-Some.changed)) (flat_map line_of left)
    ∙ ap (λ l. out ++ flat_map line_of l) (sym c.in-Some.ensures.steps) ∙ c.loop-changed.invariant

pub returns : goal.returns
returns c =
    let out = c.loop-changed.out.items in
    sym (append-nil out) ∙ ap (λ l. out ++ flat_map line_of l) (sym c.in-None.ensures.steps.0) ∙ c.loop-changed.invariant
