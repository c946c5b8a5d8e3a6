use Rattle.std.proofs.Common.{subst, ℕ}
use Rattle.row_changes.specs.Visits.{Made}
use Rattle.step_changes.specs.Stretches.{made_more}
use Rattle.match_step.specs.Rows.{join_at, task_of}
use Rattle.match_step.proofs.RowLaws.{all_begun, one_left}
use Rattle.match_step.proofs.joining.JoinStep.begin_rows.Goals as goal

pub returns-in_default : goal.returns-in_default
returns-in_default c = let i = c.loop-side.invariant in
    (i.made, all_begun c.args.self.now c.loop-side.place c.loop-side.pending i.none c.in_default.ensures)

pub returns-then-units-eq0 : goal.returns-then-units-eq0
returns-then-units-eq0 c = let i = c.loop-side.invariant in let j = c.args.self.now in (
  subst (λ (n : ℕ). Made (join_at j c.args.place.now c.args.pending.now) (join_at j c.loop-side.place c.loop-side.pending) c.args.units n)
      c.if-units-eq0.true i.made,
  one_left j c.loop-side.place c.loop-side.pending (task_of c.in-Some.side c.in-Some.delta.now) i.none c.in-Some.ensures,
)

pub returns-in-None : goal.returns-in-None
returns-in-None c = let h = rw c.in-None.is at c.in_ok-begin_row.ensures in
    (made_more _ _ _ _ _ _ c.loop-side.invariant.made h.0, h.1)

pub loop-side-preserved : goal.loop-side-preserved
loop-side-preserved c = let h = rw c.in-Some-2.is at c.in_ok-begin_row.ensures in record {
  made = made_more _ _ _ _ _ _ c.loop-side.invariant.made h.0;
  none = h.1;
}
