use Rattle.std.proofs.Common.{[], sym, ap, ◌∙◌}
use Rattle.event_model.specs.declared.operators.Edge.TheVariants.{Start, End}
use Rattle.interval_ops.specs.Operators.{range_before, range_at}
use Rattle.goal_store.specs.Goals.{seen}
use Rattle.goal_store.specs.declared.marks.When.TheVariants.{After}
use Rattle.row_changes.specs.Partners.{listed}
use Rattle.negation_witness.specs.Working.{looked_at, view_of}
use Rattle.negation_witness.proofs.TestLaws.{listed_nowhere}
use Rattle.negation_witness.proofs.subtracting.MinusStep.joined_rows.Goals as goal

pub returns-in-Joined-clause-rows : goal.returns-in-Joined-clause-rows
unfolding looked_at
returns-in-Joined-clause-rows c = let m = c.args.self.now in let r = c.args.row.now in
    sym (listed_nowhere [] r.binding (view_of m).joined) ∙ sym (ap (λ o. looked_at m o r) c.in-Joined.is)

pub returns-in-Inner-clause-rows : goal.returns-in-Inner-clause-rows
unfolding looked_at
returns-in-Inner-clause-rows c = let h = c.requires in let m = c.args.self.now in let r = c.args.row.now in
    c.rows_by.ensures.rows
    ∙ (λ i. listed (h.inner_key i) (range_before Start 0 r.span.start) r.binding (seen m.goals.now (h.joined_inner_of i) After))
    ∙ sym (ap (λ o. looked_at m o r) c.in-Inner.is)

pub returns-in-Before-clause-rows : goal.returns-in-Before-clause-rows
unfolding looked_at
returns-in-Before-clause-rows c = let h = c.requires in let m = c.args.self.now in let r = c.args.row.now in
    c.rows_by-in-Before.ensures.rows ∙ (λ i. listed (h.before_key i) (range_at Start r.span.start) r.binding (view_of m).joined)
    ∙ sym (ap (λ o. looked_at m o r) c.in-Before.is)

pub returns-in-After-clause-rows : goal.returns-in-After-clause-rows
unfolding looked_at
returns-in-After-clause-rows c = let h = c.requires in let m = c.args.self.now in let r = c.args.row.now in
    c.rows_by-in-After.ensures.rows
    ∙ (λ i. listed (h.after_key i) (range_at End r.span.end) r.binding (seen m.goals.now (h.joined_after_of i) After))
    ∙ sym (ap (λ o. looked_at m o r) c.in-After.is)
