use Rattle.std.proofs.Common.{◌&&◌, ◌∙◌, sym, subst, map}
use Rattle.ordered_lists.specs.Canon.{has}
use Rattle.ev_bind.specs.Rows.{row_cmp}
use Rattle.rule_ast.specs.PlainPlans.{plain_step}
use Rattle.change_meaning.specs.Caps.{caps_in}
use Rattle.goal_purge.specs.Expiring.{expires_at}
use Rattle.step_work.specs.Ways.{AreWays}
use Rattle.revision.proofs.HoldLaws.{no_kept_rows}
use Rattle.revision.proofs.NewLaws.{rows_none}
use Rattle.revision.proofs.parts.Parts.new.Goals as goal

pub returns-clause-holds : goal.returns-clause-holds
returns-clause-holds c = λ b. record {
  workable = c.requires.workable;
  rows = rows_none c.in_ok-goals.goals c.new-2.result c.in_ok-changed.changed.items (map plain_step c.args.plan.steps.items)
      (caps_in c.args.caps) c.requires.workable.lower c.in_ok-goals.ensures.marks c.new-2.ensures.counts b;
}

pub returns-clause-ready : goal.returns-clause-ready
returns-clause-ready c = record {
  ways = subst (λ ixs. AreWays ixs (caps_in c.args.caps) (map plain_step c.args.plan.steps.items) c.in_ok-ways.ways.items)
      (sym c.in_ok-goals.ensures.indexes) c.in_ok-ways.ensures;
  planned = c.requires.indexes;
  indexed = c.in_ok-goals.ensures.indexes;
  stored = c.in_ok-goals.ensures.steps;
  listed = c.in_ok-changed.ensures ∙ c.len.ensures ∙ c.args.plan.steps.ok.0;
  few = c.requires.few;
  none = c.new-6.ensures;
}

pub returns-clause-due : goal.returns-clause-due
returns-clause-due c = λ b d s r.
    c.new-3.ensures d s r
    ∙ (λ i. let caps = caps_in c.args.caps in
    has row_cmp r (sym (no_kept_rows (map plain_step c.args.plan.steps.items) c.requires.workable.lower caps b s) i)
    && expires_at (caps.cap s) (caps.reach s) r.span d)
