use Rattle.std.proofs.Common.{◌≡◌, take}
use Rattle.ordered_lists.specs.Canon.{has}
use Rattle.event_model.specs.EventOrder.{name_cmp}
use Rattle.event_model.specs.declared.atoms.NameArity.{NameArity}
use Rattle.binariser.proofs.names.set_of.Given as goal

abbrev pub invariant-loop-name : goal.invariant-loop-name
invariant-loop-name l = (m : NameArity) → has name_cmp m l.set.keys ≡ has name_cmp m (take l.name-index l.names)
