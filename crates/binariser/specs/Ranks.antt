-- Names with their ranks, in the order of plans.
use Rattle.std.specs.Prelude.{ℕ, List}
use Rattle.std.specs.Ordering.{nat_cmp}
use Rattle.std.specs.declared.cmp.Ordering.{Ordering}
use Rattle.ordered_lists.specs.Canon.{Exact}
use Rattle.ordered_lists.specs.Orders.{pair_order, exact_pair_order, exact_numbers}
use Rattle.event_model.specs.EventOrder.{name_cmp, exact_names}
use Rattle.event_model.specs.declared.atoms.NameArity.{NameArity}
use Rattle.rule_ast.specs.Trees.{PlainRule}
use Rattle.rule_check.specs.Cycles.{rank_of}

-- by rank, and then by name
abbrev pub ranked_cmp : ℕ × NameArity → ℕ × NameArity → Ordering
ranked_cmp = pair_order nat_cmp name_cmp

pub exact_ranked : Exact ranked_cmp
exact_ranked = exact_pair_order exact_numbers exact_names

abbrev pub ranked : List PlainRule → NameArity → ℕ × NameArity
ranked rules n = (rank_of rules n, n)
