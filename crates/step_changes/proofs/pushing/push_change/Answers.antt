use Rattle.std.proofs.Common.{◌≡◌, refl, ap, sym, ◌∙◌, subst, [], ◌∷◌, ◌++◌}
use Rattle.ordered_lists.specs.Canon.{Rising}
use Rattle.ev_bind.specs.Rows.{row_cmp}
use Rattle.row_changes.specs.Changes.{sign_in, delta_rows}
use Rattle.step_changes.specs.Deltas.{plain_deltas}
use Rattle.step_changes.specs.Pushes.{or_sign, AllUnder}
use Rattle.step_changes.proofs.ChangeLaws.{sign_here, sign_apart, rise_push, under_push, plain_push}
use Rattle.step_changes.proofs.pushing.push_change.Goals as goal

pushed : (c : goal.In_ok-push)
    → plain_deltas c.push.new.self.items ≡ plain_deltas c.args.rows.now.items ++ record { sign = c.in-Some.sign; row = c.args.row } ∷ []
pushed c =
    ap plain_deltas c.in_ok-push.ensures.items
    ∙ plain_push c.args.rows.now.items (record { sign = c.in-Some.sign; row = c.args.row; hint = c.args.hint })

pub returns-in_ok-push-clause-here : goal.returns-in_ok-push-clause-here
returns-in_ok-push-clause-here c = ap (sign_in c.args.row) (pushed c)
    ∙ sign_here c.args.row (plain_deltas c.args.rows.now.items) (record { sign = c.in-Some.sign; row = c.args.row }) refl
    ∙ ap (or_sign (sign_in c.args.row (plain_deltas c.args.rows.now.items))) (sym c.in-Some.is)

pub returns-in_ok-push-clause-apart : goal.returns-in_ok-push-clause-apart
returns-in_ok-push-clause-apart c = λ k n. ap (sign_in k) (pushed c)
    ∙ sign_apart k (plain_deltas c.args.rows.now.items) (record { sign = c.in-Some.sign; row = c.args.row }) n

pub returns-in_ok-push-clause-rise : goal.returns-in_ok-push-clause-rise
returns-in_ok-push-clause-rise c = λ r b. subst (λ ds. Rising row_cmp (delta_rows ds)) (sym (pushed c))
    (rise_push (plain_deltas c.args.rows.now.items) (record { sign = c.in-Some.sign; row = c.args.row }) r b)

pub returns-in_ok-push-clause-under : goal.returns-in_ok-push-clause-under
returns-in_ok-push-clause-under c = λ k h b. subst (AllUnder k) (sym (pushed c))
    (under_push k (plain_deltas c.args.rows.now.items) (record { sign = c.in-Some.sign; row = c.args.row }) h b)
