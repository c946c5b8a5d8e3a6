-- Steps that have nothing to do.
use Rattle.std.specs.Prelude.{◌≡◌, List, []}
use Rattle.std.specs.declared.alloc.Global.{Global}
use Rattle.std.specs.declared.vec.Vec.{Vec}
use Rattle.rule_ast.specs.PlainPlans.{PlainStep, Named, Leaf, Join, Either, Where, Exact, Within, Minus, Head}
use Rattle.step_changes.specs.declared.deltas.Delta.{Delta}
use Rattle.revision.specs.Lists.{rows_at}

-- no row of an operand has changed; of a name this isn't asked, since events are its operand too
abbrev pub IsIdle : PlainStep → List (Vec Delta Global) → Type 0
IsIdle (Named n heads) lists = ⊥
IsIdle (Leaf of p) lists = rows_at lists of ≡ []
IsIdle (Join op l r) lists = (rows_at lists l ≡ []) × (rows_at lists r ≡ [])
IsIdle (Either l r) lists = (rows_at lists l ≡ []) × (rows_at lists r ≡ [])
IsIdle (Where of t) lists = rows_at lists of ≡ []
IsIdle (Exact of q) lists = rows_at lists of ≡ []
IsIdle (Within of q) lists = rows_at lists of ≡ []
IsIdle (Minus j f i l) lists = (rows_at lists j ≡ []) × (rows_at lists f ≡ []) × (rows_at lists i ≡ []) × (rows_at lists l ≡ [])
IsIdle (Head of head) lists = rows_at lists of ≡ []
