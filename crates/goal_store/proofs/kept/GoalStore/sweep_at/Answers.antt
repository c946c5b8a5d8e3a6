use Rattle.std.proofs.Common.{◌≡◌, ◌∙◌, false, sym, arith}
use Rattle.goal_store.specs.Sweeping.{keeps_at}
use Rattle.goal_store.proofs.Swept.{swept_one}
use Rattle.goal_store.proofs.kept.GoalStore.sweep_at.Goals as goal

pub returns-then-not-keeps_number-clause-mark : goal.returns-then-not-keeps_number-clause-mark
returns-then-not-keeps_number-clause-mark c = λ row held.
    let refused : c.keeps_number.result ≡ false = grind (arith, c.if-not-keeps_number.true, c.if-not-keeps_number.ensures) in
    swept_one c.args.self.now c.drop_at.new.self c.args.step row (keeps_at c.args.caps.now c.args.bound c.args.step row) c.drop_at.result
    (sym (c.keeps_number.ensures row held) ∙ refused) (c.drop_at.ensures.was row held) (c.drop_at.ensures.dropped row held)
    c.drop_at.ensures.other
