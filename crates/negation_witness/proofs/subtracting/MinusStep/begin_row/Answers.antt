use Rattle.std.proofs.Common.{refl, ◌+◌, drop, arith}
use Rattle.change_meaning.specs.MinusVisits.{own_test}
use Rattle.step_changes.specs.Deltas.{plain_delta}
use Rattle.step_changes.specs.Notes.{noted}
use Rattle.negation_witness.specs.Working.{view_of, tasks_of, task_of, tests_of, looked_at}
use Rattle.negation_witness.proofs.WorkLaws.{none_now, some_now, begins, row_begun, drop_lt}
use Rattle.negation_witness.proofs.subtracting.MinusStep.begin_row.Goals as goal

pub returns-in_default : goal.returns-in_default
returns-in_default c = (refl, refl, none_now c.args.self.now c.args.place.now c.requires.over c.in_default.ensures)

pub returns-then-units-eq0 : goal.returns-then-units-eq0
returns-then-units-eq0 c =
    (c.if-units-eq0.true, refl, refl, some_now c.args.self.now c.args.place.now _ _ c.requires.over c.in-Some.ensures)

pub returns : goal.returns
returns c = let m = c.args.self.now in let v = view_of m in let o = c.in-Some.operand in let d = plain_delta c.in-Some.delta.now in
    let t = task_of v o d in let at = c.args.place.now.at in (
      omega (arith, c.if-units-eq0.false),
      row_begun m c.args.place.now (noted c.args.pending.now) (noted c.note_own.new.pending) t (own_test v t)
          (tests_of m d.row.span.end (looked_at m o d.row)) c.requires.over c.in-Some.ensures
          (begins m o d (looked_at m o d.row) refl) c.in_ok-note_own.ensures,
      refl,
      drop_lt (tasks_of m) at t (drop (at + 1) (tasks_of m)) c.in-Some.ensures,
    )
