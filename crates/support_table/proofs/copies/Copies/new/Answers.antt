use Rattle.std.proofs.Common.{ap, unwrap_or}
use Rattle.event_model.specs.Events.{time_of}
use Rattle.event_model.specs.EventOrder.{exact_events}
use Rattle.support_table.specs.Times.{number_in}
use Rattle.support_table.proofs.CopyLaws.{counted_none}
use Rattle.support_table.proofs.TimeLaws.{empty_number, timed_none}
use Rattle.support_table.proofs.copies.Copies.new.Goals as goal

pub invariant_of-result : goal.invariant_of-result
invariant_of-result c = record {
  timed = timed_none c.new.result (empty_number c.new.result c.new.ensures.empty);
  counted = counted_none exact_events (number_in c.new.result) (λ e. ap (λ o. unwrap_or o 0) (empty_number c.new.result c.new.ensures.empty (time_of e) e));
}
