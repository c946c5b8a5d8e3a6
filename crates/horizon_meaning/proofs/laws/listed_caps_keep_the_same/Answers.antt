use Rattle.horizon_meaning.specs.Listed.{cap_is, reach_is, kept_by_are, no_support_lost, shown_come, shown_go}
use Rattle.horizon_meaning.proofs.laws.listed_caps_keep_the_same.Goals as goal

pub returns : goal.returns
returns c = record {
  caps = cap_is;
  reaches = reach_is;
  rows = kept_by_are;
  counts = no_support_lost;
  come = shown_come;
  go = shown_go;
}
