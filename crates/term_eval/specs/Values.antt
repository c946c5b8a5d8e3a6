-- The values of conditions under a binding.
--     value c b        a truth value or a term; none where it is undefined
--     holds c b        it is the truth value true
use Rattle.std.specs.Prelude.{ℤ, pos, negsuc, ◌+ℤ◌, ◌-ℤ◌, ◌*ℤ◌, int_div, int_rem, int_lt, int_le, nat_lt, ◌^◌, Bool, false, cond, not, ◌&&◌, ◌||◌, Option, Some, None, is_some, option_map, option_and_then}
use Rattle.std.specs.Ordering.{int_eq}
use Rattle.event_model.specs.declared.terms.Term.{Term, out-Term}
use Rattle.event_model.specs.declared.terms.Term.TheOpen.{Term-F}
use Rattle.event_model.specs.declared.terms.Term.TheOpen.Term-F.{Num, Sym, Text, Comp}
use Rattle.event_model.specs.declared.terms.Term.TheVariants as made
use Rattle.event_model.specs.declared.terms.Pat.{Pat}
use Rattle.ev_bind.specs.Bindings.{Pairs, value_at}
use Rattle.ev_bind.specs.Matching.{instance}
use Rattle.ev_bind.specs.Fits.{same}
use Rattle.rule_ast.specs.declared.conditions.Calc.{Calc}
use Rattle.rule_ast.specs.declared.conditions.Calc.TheVariants.{Add, Sub, Mul, Div, Rem}
use Rattle.rule_ast.specs.declared.conditions.Cmp.{Cmp}
use Rattle.rule_ast.specs.declared.conditions.Cmp.TheVariants.{Eq, Ne, Lt, Le, Gt, Ge}
use Rattle.rule_ast.specs.Trees.{PlainCond, Value, Calculate, Compare, AndAlso, OrElse, Negate}
use Rattle.rule_ast.specs.Shaped.{passes}

-- a number is a term
pub data PlainValue : Type 0 where
  Truth : Bool → PlainValue
  Ground : Term → PlainValue

-- ---- arithmetic

abbrev pub is_i64 : ℤ → Bool
is_i64 (pos n) = nat_lt n (2 ^ 63)
is_i64 (negsuc n) = nat_lt n (2 ^ 63)

-- the divisor isn't 0, and the quotient is an i64
abbrev pub divides : ℤ → ℤ → Bool
divides x y = not (int_eq y (pos 0)) && is_i64 (int_div x y)

-- x, where it is defined
abbrev pub defined : {X : Type 0} → Bool → X → Option X
defined so x = cond so (Some x) None

-- the exact result, where it is an i64; `int_div` is the quotient rounded toward zero, and `int_rem` what it leaves, which has the
-- sign of the first number
abbrev pub calculate : Calc → ℤ → ℤ → Option ℤ
calculate Add x y = defined (is_i64 (x +ℤ y)) (x +ℤ y)
calculate Sub x y = defined (is_i64 (x -ℤ y)) (x -ℤ y)
calculate Mul x y = defined (is_i64 (x *ℤ y)) (x *ℤ y)
calculate Div x y = defined (divides x y) (int_div x y)
calculate Rem x y = defined (divides x y) (int_rem x y)

-- ---- what a value is

abbrev pub truth_in : PlainValue → Option Bool
truth_in (Truth so) = Some so
truth_in (Ground t) = None

abbrev pub term_in : PlainValue → Option Term
term_in (Truth so) = None
term_in (Ground t) = Some t

abbrev pub number_at : Term-F Term → Option ℤ
number_at (Num n) = Some n
number_at (Sym name) = None
number_at (Text text) = None
number_at (Comp name args) = None

abbrev pub number_in : PlainValue → Option ℤ
number_in (Truth so) = None
number_in (Ground t) = number_at (out-Term t)

-- both, where both are there
abbrev pub together : {A B : Type 0} → Option A → Option B → Option (A × B)
together None y = None
together (Some x) None = None
together (Some x) (Some y) = Some (x, y)

abbrev pub truths : PlainValue → PlainValue → Option (Bool × Bool)
truths x y = together (truth_in x) (truth_in y)

abbrev pub terms : PlainValue → PlainValue → Option (Term × Term)
terms x y = together (term_in x) (term_in y)

abbrev pub numbers : PlainValue → PlainValue → Option (ℤ × ℤ)
numbers x y = together (number_in x) (number_in y)

-- ---- the operations on values that are defined

abbrev pub calculated : Calc → PlainValue → PlainValue → Option PlainValue
calculated calc x y = option_map (λ n. Ground (made.Num n)) (option_and_then (λ p. calculate calc p.0 p.1) (numbers x y))

-- any two terms are equal or not, and two numbers are in order or not
abbrev pub compared : Cmp → PlainValue → PlainValue → Option PlainValue
compared Eq x y = option_map (λ p. Truth (same p.0 p.1)) (terms x y)
compared Ne x y = option_map (λ p. Truth (not (same p.0 p.1))) (terms x y)
compared Lt x y = option_map (λ p. Truth (int_lt p.0 p.1)) (numbers x y)
compared Le x y = option_map (λ p. Truth (int_le p.0 p.1)) (numbers x y)
compared Gt x y = option_map (λ p. Truth (int_lt p.1 p.0)) (numbers x y)
compared Ge x y = option_map (λ p. Truth (int_le p.1 p.0)) (numbers x y)

abbrev pub and_also : PlainValue → PlainValue → Option PlainValue
and_also x y = option_map (λ p. Truth (p.0 && p.1)) (truths x y)

abbrev pub or_else : PlainValue → PlainValue → Option PlainValue
or_else x y = option_map (λ p. Truth (p.0 || p.1)) (truths x y)

abbrev pub negated : PlainValue → Option PlainValue
negated x = option_map (λ so. Truth (not so)) (truth_in x)

-- ---- the value of a condition

-- an operation on two values, where both are defined
abbrev pub operation : (PlainValue → PlainValue → Option PlainValue) → Option PlainValue → Option PlainValue → Option PlainValue
operation f x y = option_and_then (λ p. f p.0 p.1) (together x y)

-- none where it is undefined; an operation is where an operand is
abbrev pub value : PlainCond → Pairs → Option PlainValue
value (Value p) b = Some (Ground (instance p b))
value (Calculate calc l r) b = operation (calculated calc) (value l b) (value r b)
value (Compare cmp l r) b = operation (compared cmp) (value l b) (value r b)
value (AndAlso l r) b = operation and_also (value l b) (value r b)
value (OrElse l r) b = operation or_else (value l b) (value r b)
value (Negate c) b = option_and_then negated (value c b)

abbrev pub is_true : Option PlainValue → Bool
is_true None = false
is_true (Some (Truth so)) = so
is_true (Some (Ground t)) = false

-- the value is the truth value true
abbrev pub holds : PlainCond → Pairs → Bool
holds c b = is_true (value c b)

-- ---- the conditions that rules have

-- the binding has the variables of the argument, which has no `_`
abbrev pub binds_argument : Pairs → Pat → Bool
binds_argument b p = passes (λ slot. is_some (value_at b slot)) false p

-- the binding has the variables of the condition, which has no `_`
abbrev pub binds : Pairs → PlainCond → Bool
binds b (Value p) = binds_argument b p
binds b (Calculate calc l r) = binds b l && binds b r
binds b (Compare cmp l r) = binds b l && binds b r
binds b (AndAlso l r) = binds b l && binds b r
binds b (OrElse l r) = binds b l && binds b r
binds b (Negate c) = binds b c
