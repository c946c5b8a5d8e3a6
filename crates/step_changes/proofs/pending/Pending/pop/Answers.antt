use Rattle.std.proofs.Common.{None, ap, sym, ◌∙◌, cond, is_some}
use Rattle.std.specs.BTreeMap.{get}
use Rattle.ev_bind.specs.Rows.{row_cmp}
use Rattle.step_changes.specs.Notes.{noted, has_note, part}
use Rattle.step_changes.specs.RowCases.{is_other}
use Rattle.step_changes.proofs.ChangeLaws.{if_some, none_below}
use Rattle.step_changes.proofs.pending.Pending.pop.Goals as goal

pub returns-clause-others : goal.returns-clause-others
unfolding has_note
returns-clause-others c = if_some c.pop_first.result _ _ (λ p u r n.
    ap is_some (u.0 r ∙ ap (λ b. cond b None (get row_cmp c.args.self.now.map r)) (is_other p.0 r (λ e. n (sym e))))) c.pop_first.ensures.updates

pub returns-clause-apart : goal.returns-clause-apart
unfolding noted
returns-clause-apart c = if_some c.pop_first.result _ _ (λ p u s r n.
    ap (part s) (u.0 r ∙ ap (λ b. cond b None (get row_cmp c.args.self.now.map r)) (is_other p.0 r (λ e. n (sym e))))) c.pop_first.ensures.updates

pub returns-clause-first : goal.returns-clause-first
unfolding has_note
returns-clause-first c = if_some c.pop_first.result _ _ (λ p h r e. none_below p.0 r (get row_cmp c.args.self.now.map r) (h r) e) c.pop_first.ensures.least
