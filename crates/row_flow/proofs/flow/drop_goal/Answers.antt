use Rattle.std.proofs.Common.{◌≡◌, ◌≢◌, ℕ, Bool, true, false, Some, refl}
use Rattle.ev_bind.specs.declared.rows.Row.{Row}
use Rattle.goal_store.specs.Goals.{mark_at, row_at}
use Rattle.row_flow.proofs.flow.drop_goal.Goals as goal

-- whether the goal was old or not
pub returns-then-is_some-clause-others : goal.returns-then-is_some-clause-others
returns-then-is_some-clause-others c = λ row held s r differs. at row held s r differs c.drop_at.result refl
  where
    at : (row : Row) → row_at c.args.goals.now c.args.number ≡ Some row → (s : ℕ) (r : Row) → r ≢ row
        → (b : Bool) → c.drop_at.result ≡ b → mark_at c.drop_at.new.self s r ≡ mark_at c.args.goals.now s r
    at row held s r differs true e = (c.drop_at.ensures.dropped row held e).others s r (λ _ same. differs same)
    at row held s r differs false e = c.drop_at.ensures.other e s r
