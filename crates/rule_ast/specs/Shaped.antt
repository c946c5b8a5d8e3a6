-- Which rules are shaped: their numbers are within the limits, their slots have names, and heads and conditions hold only what may
-- stand there.
use Rattle.std.specs.Prelude.{ℕ, ◌≡◌, Bool, true, false, not, ◌&&◌, ◌||◌, nat_lt, nat_le, List, [], ◌∷◌, length}
use Rattle.std.specs.List.{list_all, list_any}
use Rattle.std.specs.Str.{bytes_eq}
use Rattle.event_model.specs.declared.terms.TheConstants.{MOST_ARGUMENTS, MOST_SLOTS}
use Rattle.event_model.specs.declared.terms.Pat.{Pat, out-Pat}
use Rattle.event_model.specs.declared.terms.Pat.TheOpen.{Pat-F}
use Rattle.event_model.specs.declared.terms.Pat.TheOpen.Pat-F.{Var, Any, Num, Sym, Text, Comp}
use Rattle.event_model.specs.declared.terms.Pat.TheFolds.{fold-Pat}
use Rattle.event_model.specs.declared.atoms.PatAtom.{PatAtom}
use Rattle.event_model.specs.declared.atoms.NameArity.{NameArity}
use Rattle.rule_ast.specs.declared.limits.TheConstants.{MOST_STATEMENTS, MOST_TICKS}
use Rattle.rule_ast.specs.Trees.{PlainCond, Value, Calculate, Compare, AndAlso, OrElse, Negate, PlainPattern, Atom, Both, Either, Where, Exact, Within, Not, PlainRule, PlainStatement, Clause, Show}

abbrev pub parts_pass : (ℕ → Bool) → Bool → Pat-F Bool → Bool
parts_pass slot_passes any_passes (Var slot) = slot_passes slot
parts_pass slot_passes any_passes Any = any_passes
parts_pass slot_passes any_passes (Num n) = true
parts_pass slot_passes any_passes (Sym name) = true
parts_pass slot_passes any_passes (Text text) = true
parts_pass slot_passes any_passes (Comp name args) = list_all (λ b. b) args

-- each variable in an argument passes the test, and each `_` does where it may
unfoldable pub passes : (ℕ → Bool) → Bool → Pat → Bool
passes slot_passes any_passes = fold-Pat Bool (parts_pass slot_passes any_passes)

-- an argument of an atom: its variables have names
abbrev pub is_argument : ℕ → Pat → Bool
is_argument vars p = passes (λ slot. nat_lt slot vars) true p

-- an operand of a condition: besides, it has no `_`
abbrev pub is_operand : ℕ → Pat → Bool
is_operand vars p = passes (λ slot. nat_lt slot vars) false p

-- neither a variable nor `_`
abbrev pub is_ground : Pat → Bool
is_ground p = passes (λ slot. false) false p

abbrev pub is_variable : ℕ → Pat-F Pat → Bool
is_variable vars (Var slot) = nat_lt slot vars
is_variable vars Any = false
is_variable vars (Num n) = false
is_variable vars (Sym name) = false
is_variable vars (Text text) = false
is_variable vars (Comp name args) = false

-- an argument of a head: a variable, or a term without variables
abbrev pub is_head_argument : ℕ → Pat → Bool
is_head_argument vars p = is_variable vars (out-Pat p) || is_ground p

abbrev pub is_shaped_cond : ℕ → PlainCond → Bool
is_shaped_cond vars (Value p) = is_operand vars p
is_shaped_cond vars (Calculate calc l r) = is_shaped_cond vars l && is_shaped_cond vars r
is_shaped_cond vars (Compare cmp l r) = is_shaped_cond vars l && is_shaped_cond vars r
is_shaped_cond vars (AndAlso l r) = is_shaped_cond vars l && is_shaped_cond vars r
is_shaped_cond vars (OrElse l r) = is_shaped_cond vars l && is_shaped_cond vars r
is_shaped_cond vars (Negate c) = is_shaped_cond vars c

-- a length, in ticks
abbrev pub is_length : ℕ → Bool
is_length q = nat_le q MOST_TICKS

abbrev pub is_shaped_atom : ℕ → PatAtom → Bool
is_shaped_atom vars a = nat_le (length a.args) MOST_ARGUMENTS && list_all (is_argument vars) a.args

abbrev pub is_shaped_pattern : ℕ → PlainPattern → Bool
is_shaped_pattern vars (Atom a) = is_shaped_atom vars a
is_shaped_pattern vars (Both op l r) = is_shaped_pattern vars l && is_shaped_pattern vars r
is_shaped_pattern vars (Either l r) = is_shaped_pattern vars l && is_shaped_pattern vars r
is_shaped_pattern vars (Where p c) = is_shaped_pattern vars p && is_shaped_cond vars c
is_shaped_pattern vars (Exact p q) = is_shaped_pattern vars p && is_length q
is_shaped_pattern vars (Within p q) = is_shaped_pattern vars p && is_length q
is_shaped_pattern vars (Not i b a) = is_shaped_pattern vars i && (is_shaped_pattern vars b && is_shaped_pattern vars a)

-- no name stands twice
abbrev pub names_differ : List (List ℕ) → Bool
names_differ [] = true
names_differ (name ∷ names) = not (list_any (bytes_eq name) names) && names_differ names

abbrev pub is_shaped_head : ℕ → PatAtom → Bool
is_shaped_head vars head = nat_le (length head.args) MOST_ARGUMENTS && list_all (is_head_argument vars) head.args

abbrev pub is_shaped_rule : PlainRule → Bool
is_shaped_rule r =
    (nat_le (length r.vars) MOST_SLOTS && names_differ r.vars)
    && (is_shaped_head (length r.vars) r.head && is_shaped_pattern (length r.vars) r.body)

abbrev pub is_shown_name : NameArity → Bool
is_shown_name n = nat_le n.arity MOST_ARGUMENTS

abbrev pub is_shaped_statement : PlainStatement → Bool
is_shaped_statement (Clause r) = is_shaped_rule r
is_shaped_statement (Show names) = list_all is_shown_name names

-- not too many statements, each shaped
pub record IsShaped (statements : List PlainStatement) : Type 0 where
  pub few : nat_le (length statements) MOST_STATEMENTS ≡ true
  pub each : list_all is_shaped_statement statements ≡ true
