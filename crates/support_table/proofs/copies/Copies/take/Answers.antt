use Rattle.std.proofs.Common.{◌-◌, ap, sym, ◌∙◌, subst, unwrap_or, arith}
use Rattle.event_model.specs.EventOrder.{exact_events}
use Rattle.support_table.specs.Times.{fewer, number_in, IsCounted}
use Rattle.support_table.specs.Copies.{copies_of}
use Rattle.support_table.proofs.CopyLaws.{counted_absent, counted_kept, counted_less}
use Rattle.support_table.proofs.TimeLaws.{fewer_number, fewer_some, puts_number, timed_after, one_less}
use Rattle.support_table.proofs.copies.Copies.take.Goals as goal

pub invariant_of-self : goal.invariant_of-self
unfolding copies_of
invariant_of-self c =
    let old = c.args.self.now.times in let new = c.lower-before.new.times in let k = c.args.event.now in let n = c.lower-before.result in
    record {
      timed = timed_after old new k (fewer n) c.lower-before.ensures.out c.args.self.now.timed (fewer_some n);
      counted = counted_absent exact_events c.args.self.now.held (number_in old) (number_in new) c.args.self.now.counted k (unwrap_or (fewer n) 0)
          (puts_number old new k (fewer n) c.lower-before.ensures.out)
          (sym c.lower-before.ensures.was ∙ c.if-before-eq0.true) (omega (arith, fewer_number n, c.if-before-eq0.true));
    }

pub invariant_of-self-then-before-gt1 : goal.invariant_of-self-then-before-gt1
unfolding copies_of
invariant_of-self-then-before-gt1 c =
    let old = c.args.self.now.times in let new = c.lower-before.new.times in let k = c.args.event.now in let n = c.lower-before.result in
    record {
      timed = timed_after old new k (fewer n) c.lower-before.ensures.out c.args.self.now.timed (fewer_some n);
      counted = counted_kept exact_events c.args.self.now.held (number_in old) (number_in new) c.args.self.now.counted k (unwrap_or (fewer n) 0)
          (puts_number old new k (fewer n) c.lower-before.ensures.out)
          (omega (arith, c.lower-before.ensures.was, c.if-before-gt1.true)) (omega (arith, fewer_number n, c.if-before-gt1.true));
    }

pub invariant_of-self-2 : goal.invariant_of-self-2
unfolding copies_of
invariant_of-self-2 c =
    let old = c.args.self.now.times in let new = c.lower-before.new.times in let k = c.args.event.now in let n = c.lower-before.result in
    record {
      timed = timed_after old new k (fewer n) c.lower-before.ensures.out c.args.self.now.timed (fewer_some n);
      counted = subst (λ n. IsCounted n (number_in new)) (sym c.saturating_sub-self.ensures)
          (counted_less exact_events c.args.self.now.held (number_in old) (number_in new) c.args.self.now.counted k (unwrap_or (fewer n) 0)
          (puts_number old new k (fewer n) c.lower-before.ensures.out)
          (omega (arith, fewer_number n, c.if-before-gt1.false)) (omega (arith, c.lower-before.ensures.was, c.if-before-eq0.false)));
    }

pub returns-then-before-eq0-clause-copies : goal.returns-then-before-eq0-clause-copies
unfolding copies_of
returns-then-before-eq0-clause-copies c =
    let old = c.args.self.now.times in let new = c.lower-before.new.times in let k = c.args.event.now in let n = c.lower-before.result in
    one_less k (unwrap_or (fewer n) 0) (number_in old) (number_in new) (puts_number old new k (fewer n) c.lower-before.ensures.out)
    (fewer_number n ∙ ap (λ n. n - 1) c.lower-before.ensures.was)

pub returns-then-before-gt1-clause-copies : goal.returns-then-before-gt1-clause-copies
unfolding copies_of
returns-then-before-gt1-clause-copies c =
    let old = c.args.self.now.times in let new = c.lower-before.new.times in let k = c.args.event.now in let n = c.lower-before.result in
    one_less k (unwrap_or (fewer n) 0) (number_in old) (number_in new) (puts_number old new k (fewer n) c.lower-before.ensures.out)
    (fewer_number n ∙ ap (λ n. n - 1) c.lower-before.ensures.was)

pub returns-clause-copies : goal.returns-clause-copies
unfolding copies_of
returns-clause-copies c =
    let old = c.args.self.now.times in let new = c.lower-before.new.times in let k = c.args.event.now in let n = c.lower-before.result in
    one_less k (unwrap_or (fewer n) 0) (number_in old) (number_in new) (puts_number old new k (fewer n) c.lower-before.ensures.out)
    (fewer_number n ∙ ap (λ n. n - 1) c.lower-before.ensures.was)
