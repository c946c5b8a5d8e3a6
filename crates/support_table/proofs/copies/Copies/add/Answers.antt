use Rattle.std.proofs.Common.{◌≡◌, ◌+◌, Some, ap, sym, subst, arith}
use Rattle.event_model.specs.EventOrder.{exact_events}
use Rattle.support_table.specs.Times.{number_in, IsCounted}
use Rattle.support_table.specs.Copies.{copies_of}
use Rattle.support_table.proofs.CopyLaws.{counted_kept, counted_more}
use Rattle.support_table.proofs.TimeLaws.{puts_number, timed_after, one_more}
use Rattle.support_table.proofs.copies.Copies.add.Goals as goal

pub invariant_of-self-then-before-gt0 : goal.invariant_of-self-then-before-gt0
unfolding copies_of
invariant_of-self-then-before-gt0 c =
    let old = c.args.self.now.times in let new = c.raise.new.times in let k = c.args.event.now in let n = c.in_ok-before.before + 1 in
    record {
      timed = timed_after old new k (Some n) c.in_ok-before.ensures.ok c.args.self.now.timed (omega arith);
      counted = counted_kept exact_events c.args.self.now.held (number_in old) (number_in new) c.args.self.now.counted k n
          (puts_number old new k (Some n) c.in_ok-before.ensures.ok) (omega (arith, c.in_ok-before.ensures.was, c.if-before-gt0.true))
          (omega arith);
    }

pub invariant_of-self-2 : goal.invariant_of-self-2
unfolding copies_of
invariant_of-self-2 c =
    let old = c.args.self.now.times in let new = c.raise.new.times in let k = c.args.event.now in let n = c.in_ok-before.before + 1 in
    let none : number_in old k ≡ 0 = omega (arith, c.in_ok-before.ensures.was, c.if-before-gt0.false) in
    record {
      timed = timed_after old new k (Some n) c.in_ok-before.ensures.ok c.args.self.now.timed (omega arith);
      counted = subst (λ n. IsCounted n (number_in new)) (sym c.in-Some.ensures.1)
          (counted_more exact_events c.args.self.now.held (number_in old) (number_in new) c.args.self.now.counted k n
          (puts_number old new k (Some n) c.in_ok-before.ensures.ok) none (omega arith));
    }

pub returns-then-before-gt0-clause-copies : goal.returns-then-before-gt0-clause-copies
unfolding copies_of
returns-then-before-gt0-clause-copies c =
    let old = c.args.self.now.times in let new = c.raise.new.times in let k = c.args.event.now in let n = c.in_ok-before.before + 1 in
    one_more k n (number_in old) (number_in new) (puts_number old new k (Some n) c.in_ok-before.ensures.ok)
    (ap (λ n. n + 1) c.in_ok-before.ensures.was)

pub returns-clause-copies : goal.returns-clause-copies
unfolding copies_of
returns-clause-copies c =
    let old = c.args.self.now.times in let new = c.raise.new.times in let k = c.args.event.now in let n = c.in_ok-before.before + 1 in
    one_more k n (number_in old) (number_in new) (puts_number old new k (Some n) c.in_ok-before.ensures.ok)
    (ap (λ n. n + 1) c.in_ok-before.ensures.was)
