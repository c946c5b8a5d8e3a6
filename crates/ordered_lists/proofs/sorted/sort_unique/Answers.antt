use Rattle.std.proofs.lemmas.List.Filters.{dedup_is}
use Rattle.ordered_lists.specs.FromSort.{canon_from_sort}
use Rattle.ordered_lists.proofs.sorted.sort_unique.Goals as goal

pub returns-clause-ok : goal.returns-clause-ok
returns-clause-ok g c = canon_from_sort c.requires _ g.met.T.Ord.matches_eq _ _ _ (c.in_ok-sort.ensures).permutation (c.in_ok-sort.ensures).sorted (dedup_is _ _ _ c.dedup.ensures.filtered)
