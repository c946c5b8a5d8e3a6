-- What the union of two bindings is, in code.
use Rattle.std.specs.Prelude.{Option, Some, None}
use Rattle.ev_bind.specs.Bindings.{Pairs}
use Rattle.ev_bind.specs.declared.unions.Union.{Union}
use Rattle.ev_bind.specs.declared.unions.Union.TheVariants.{Nothing, Left, Right, Made}

abbrev pub union_is : Union → Pairs → Pairs → Option Pairs
union_is Nothing a b = None
union_is Left a b = Some a
union_is Right a b = Some b
union_is (Made d) a b = Some d
