use Rattle.std.proofs.Common.{arith}
use Rattle.rule_check.proofs.Placing.{place_below}
use Rattle.rule_check.proofs.dependencies.add_rule.Goals as goal

pub index_mut-requires : goal.index_mut-requires
index_mut-requires c = let inside = place_below c.args.heads.now _ _ c.in_ok-node.ensures in omega (arith, inside, c.requires.sized, c.args.rows.now.ok.0)
