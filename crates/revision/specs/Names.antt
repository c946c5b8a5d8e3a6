-- Steps of names, whose rows are detections.
use Rattle.std.specs.Prelude.{Option, Some, None}
use Rattle.event_model.specs.declared.atoms.NameArity.{NameArity}
use Rattle.rule_ast.specs.PlainPlans.{PlainStep, Named, Leaf, Join, Either, Where, Exact, Within, Minus, Head}

-- the name of a step that has one
abbrev pub name_of : PlainStep → Option NameArity
name_of (Named n heads) = Some n
name_of (Leaf of p) = None
name_of (Join op l r) = None
name_of (Either l r) = None
name_of (Where of t) = None
name_of (Exact of q) = None
name_of (Within of q) = None
name_of (Minus j f i l) = None
name_of (Head of head) = None
