use Rattle.std.proofs.Common.{length}
use Rattle.rule_check.specs.Cycles.{rank_of, rank_most}
use Rattle.pattern_meaning.specs.Depths.{named_same}
use Rattle.pattern_meaning.proofs.laws.ranks_suffice.Goals as goal

pub returns : goal.returns
returns c rules events depth n ranking deep = named_same rules events (rank_of rules) ranking depth (length rules) n deep (rank_most rules n)
