-- How many copies of each event there are.
use Rattle.std.specs.Prelude.{ℕ}
use Rattle.event_model.specs.declared.events.Event.{Event}
use Rattle.support_table.specs.Times.{number_in}
use Rattle.support_table.specs.declared.copies.Copies.{Copies}

-- the number of copies of an event, 0 where there is none
unfoldable pub copies_of : Copies → Event → ℕ
copies_of c e = number_in c.times e
