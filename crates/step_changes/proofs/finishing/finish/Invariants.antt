use Rattle.std.proofs.Common.{◌≡◌, ◌≢◌, true, ℕ, ◌+◌, ◌≤◌}
use Rattle.ordered_lists.specs.Canon.{Rising}
use Rattle.ev_bind.specs.Rows.{row_cmp}
use Rattle.ev_bind.specs.declared.rows.Row.{Row}
use Rattle.event_changes.specs.declared.changes.Sign.{Sign}
use Rattle.event_changes.specs.declared.changes.Sign.TheVariants.{Plus, Minus}
use Rattle.row_changes.specs.Changes.{change, sign_in, delta_rows}
use Rattle.support_table.specs.Supports.{count_of}
use Rattle.goal_store.specs.Goals.{mark_at, SamePlan}
use Rattle.step_changes.specs.Deltas.{plain_deltas}
use Rattle.step_changes.specs.Notes.{noted, has_note, notes}
use Rattle.step_changes.specs.Pushes.{AllUnder}
use Rattle.step_changes.specs.Marked.{mark_of, shown}
use Rattle.step_changes.proofs.finishing.finish.Given as goal

abbrev pub invariant-loop-row : goal.invariant-loop-row
invariant-loop-row l = record {
  counts : (r : Row) → count_of l.supports l.step r + noted l.initial.pending Minus r + noted l.pending Plus r
      ≡ count_of l.initial.supports l.step r + noted l.initial.pending Plus r + noted l.pending Minus r;
  rest : (s : Sign) (r : Row) → noted l.pending s r ≤ noted l.initial.pending s r;
  kept : (r : Row) → has_note l.pending r ≡ true → count_of l.supports l.step r ≡ count_of l.initial.supports l.step r;
  others : (s : ℕ) (r : Row) → s ≢ l.step → count_of l.supports s r ≡ count_of l.initial.supports s r;
  signs : (r : Row) → sign_in r (plain_deltas l.rows.items) ≡ change (count_of l.initial.supports l.step r) (count_of l.supports l.step r);
  rise : Rising row_cmp (delta_rows (plain_deltas l.rows.items));
  under : (r : Row) → has_note l.pending r ≡ true → AllUnder r (plain_deltas l.rows.items);
  marks : (r : Row) → mark_at l.goals l.step r
      ≡ shown (change (count_of l.initial.supports l.step r) (count_of l.supports l.step r)) (mark_of (count_of l.initial.supports l.step r));
  other_marks : (s : ℕ) (r : Row) → s ≢ l.step → mark_at l.goals s r ≡ mark_at l.initial.goals s r;
  plan : SamePlan l.initial.goals l.goals;
}

abbrev pub decreases-loop-row : goal.decreases-loop-row
decreases-loop-row l = notes l.pending
