use Rattle.std.proofs.Common.{◌-◌, sym, ap, ◌∙◌, subst}
use Rattle.support_table.specs.Times.{number_in, IsCounted}
use Rattle.support_table.proofs.TimeLaws.{timed_removed, counted_removed}
use Rattle.support_table.proofs.copies.Copies.drop_first.Goals as goal

pub invariant_of-self : goal.invariant_of-self
invariant_of-self c =
    let old = c.args.self.now.times in let new = c.remove.new.self in let events = c.in-Some-remove.events in
    record {
      timed = timed_removed old new c.in-Some.time events (sym c.in-Some-remove.ensures.value) c.in-Some-remove.ensures.updates.0 c.args.self.now.timed;
      counted = subst (λ n. IsCounted n (number_in new)) (sym (c.saturating_sub-self.ensures ∙ ap (λ n. c.args.self.now.held - n) c.len.ensures.len))
          (counted_removed old new c.in-Some.time events (sym c.in-Some-remove.ensures.value) c.in-Some-remove.ensures.updates.0 c.args.self.now.timed
          c.len.ensures.ordered c.args.self.now.held c.args.self.now.counted);
    }
