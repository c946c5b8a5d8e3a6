use Rattle.std.proofs.Common.{◌∙◌}
use Rattle.ordered_lists.proofs.Search.{searched}
use Rattle.ordered_lists.proofs.sorted.is_member.Goals as goal

pub returns : goal.returns
returns g c = c.is_ok.ensures.value ∙ searched c.requires.exact c.args.item.now _ c.requires.rising _ c.binary_search.ensures.bound c.binary_search.ensures.position
