-- The tokens that are words or signs of their own.
use Rattle.std.specs.Prelude.{◌≡◌, ℕ, List, [], ◌∷◌, Option, Some, None}
use Rattle.rule_lexer.specs.declared.terminals.Terminal.{Terminal}
use Rattle.rule_lexer.specs.declared.terminals.Terminal.TheVariants as t
use Rattle.rule_grammar.specs.Trees.{Adding.Added, Adding.Taken, Scaling.Times, Scaling.Over, Scaling.Modulo, Joint.Joined, Joint.Otherwise}
use Rattle.rule_grammar.specs.Trees as trees
use Rattle.rule_grammar.specs.Tokens.{adding, scaling, joint}
use Rattle.rule_ast.specs.Trees as plain
use Rattle.rule_ast.specs.Trees.{PlainPattern}
use Rattle.rule_parser.specs.declared.signs.Sign.{Sign}
use Rattle.rule_parser.specs.declared.signs.Sign.TheVariants as sign
use Rattle.rule_parser.specs.declared.signs.Joint.{Joint}
use Rattle.rule_parser.specs.declared.signs.Joint.TheVariants as joints
use Rattle.rule_parser.specs.declared.signs.Bound.{Bound}
use Rattle.rule_parser.specs.declared.signs.Bound.TheVariants as bounds
use Rattle.rule_parser.specs.declared.signs.Adding.{Adding}
use Rattle.rule_parser.specs.declared.signs.Adding.TheVariants as addings
use Rattle.rule_parser.specs.declared.signs.Scaling.{Scaling}
use Rattle.rule_parser.specs.declared.signs.Scaling.TheVariants as scalings

abbrev pub terminal_of : Sign → Terminal
terminal_of sign.Arrow = t.Arrow
terminal_of sign.Bang = t.Bang
terminal_of sign.Both = t.Both
terminal_of sign.Close = t.Close
terminal_of sign.Comma = t.Comma
terminal_of sign.Either = t.Either
terminal_of sign.End = t.End
terminal_of sign.Length = t.Length
terminal_of sign.Limits = t.Limits
terminal_of sign.Minus = t.Minus
terminal_of sign.Not = t.Not
terminal_of sign.Open = t.Open
terminal_of sign.Show = t.Show
terminal_of sign.Slash = t.Slash
terminal_of sign.Square = t.Square
terminal_of sign.Where = t.Where
terminal_of sign.Within = t.Within

abbrev pub sign_of : Terminal → Option Sign
sign_of t.Arrow = Some sign.Arrow
sign_of t.Bang = Some sign.Bang
sign_of t.Both = Some sign.Both
sign_of t.Close = Some sign.Close
sign_of t.Comma = Some sign.Comma
sign_of t.Either = Some sign.Either
sign_of t.End = Some sign.End
sign_of t.Length = Some sign.Length
sign_of t.Limits = Some sign.Limits
sign_of t.Minus = Some sign.Minus
sign_of t.Not = Some sign.Not
sign_of t.Open = Some sign.Open
sign_of t.Show = Some sign.Show
sign_of t.Slash = Some sign.Slash
sign_of t.Square = Some sign.Square
sign_of t.Where = Some sign.Where
sign_of t.Within = Some sign.Within
sign_of x = None

abbrev pub joint_of : Joint → trees.Joint
joint_of (joints.Span op) = Joined op
joint_of joints.Or = Otherwise

abbrev pub adding_of : Adding → trees.Adding
adding_of addings.Plus = Added
adding_of addings.Minus = Taken

abbrev pub scaling_of : Scaling → trees.Scaling
scaling_of scalings.Star = Times
scaling_of scalings.Slash = Over
scaling_of scalings.Percent = Modulo

abbrev pub joint_terminal : Joint → Terminal
joint_terminal j = joint (joint_of j)

abbrev pub bound_terminal : Bound → Terminal
bound_terminal bounds.Exact = t.Length
bound_terminal bounds.Most = t.Within

abbrev pub adding_terminal : Adding → Terminal
adding_terminal a = adding (adding_of a)

abbrev pub scaling_terminal : Scaling → Terminal
scaling_terminal s = scaling (scaling_of s)

-- no such token stands first
abbrev pub Lacks : Sign → List Terminal → Type 0
Lacks s [] = Unit {0}
Lacks s (x ∷ xs) = ¬ (sign_of x ≡ Some s)

abbrev pub LacksJoint : List Terminal → Type 0
LacksJoint (t.Op op ∷ xs) = ⊥
LacksJoint (t.Or ∷ xs) = ⊥
LacksJoint xs = Unit {0}

abbrev pub LacksBound : List Terminal → Type 0
LacksBound (t.Length ∷ xs) = ⊥
LacksBound (t.Within ∷ xs) = ⊥
LacksBound xs = Unit {0}

abbrev pub LacksAdding : List Terminal → Type 0
LacksAdding (t.Plus ∷ xs) = ⊥
LacksAdding (t.Minus ∷ xs) = ⊥
LacksAdding xs = Unit {0}

abbrev pub LacksScaling : List Terminal → Type 0
LacksScaling (t.Star ∷ xs) = ⊥
LacksScaling (t.Slash ∷ xs) = ⊥
LacksScaling (t.Percent ∷ xs) = ⊥
LacksScaling xs = Unit {0}

abbrev pub LacksCompare : List Terminal → Type 0
LacksCompare (t.Compare cmp ∷ xs) = ⊥
LacksCompare xs = Unit {0}

abbrev pub bounded_value : Bound → PlainPattern → ℕ → PlainPattern
bounded_value bounds.Exact p q = plain.Exact p q
bounded_value bounds.Most p q = plain.Within p q
