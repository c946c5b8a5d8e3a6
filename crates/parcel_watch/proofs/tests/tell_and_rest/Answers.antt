use Rattle.std.proofs.Common.{sym, ◌∙◌}
use Rattle.parcel_watch.proofs.tests.tell_and_rest.Goals as goal

pub rest-requires : goal.rest-requires
rest-requires c = let (h, w) = c.in_ok-tell-in-Ok.ensures in (h, w, sym (c.in_batch.ensures h w) ∙ c.if-in_batch.false)

pub wake-requires : goal.wake-requires
wake-requires c = let (h, w) = c.in_ok-tell-in-Ok.ensures in (h, c.rest.ensures.rests h w)

pub returns : goal.returns
returns c = let (h, w) = c.in_ok-tell-in-Ok.ensures in (h, c.in_ok-wake.ensures.watches h (c.rest.ensures.rests h w))
