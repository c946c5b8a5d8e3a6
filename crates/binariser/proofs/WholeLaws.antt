-- The whole plan, from what its parts make.
use Rattle.std.proofs.Common.{ℕ, ◌≡◌, ◌<◌, ◌&&◌, Bool, true, false, cond, nat_le, Err, List, [], ◌∷◌, ◌++◌, length, sym, ◌∙◌, subst}
use Rattle.std.specs.List.{list_all}
use Rattle.std.proofs.lemmas.Bool.{and_parts, leb-true}
use Rattle.ordered_lists.specs.Lists.{Each-append}
use Rattle.event_model.specs.declared.atoms.NameArity.{NameArity}
use Rattle.event_model.specs.declared.terms.TheConstants.{MOST_ARGUMENTS, MOST_SLOTS}
use Rattle.rule_ast.specs.Trees.{PlainPattern, Atom, Both, Either, Where, Exact, Within, Not, PlainRule, PlainStatement, Clause, Show}
use Rattle.rule_ast.specs.PlainPlans.{PlainPlan, PlainStep}
use Rattle.rule_ast.specs.Shaped.{is_shaped_statement, is_shaped_head, is_shaped_pattern, is_shaped_cond, is_argument, is_length, names_differ}
use Rattle.rule_check.specs.Cycles.{IsRanking, rank_of}
use Rattle.rule_check.specs.Names.{body_names}
use Rattle.rule_check.specs.Sound.{rules_of}
use Rattle.pattern_meaning.specs.RuleRows.{has_head}
use Rattle.step_meaning.specs.PlanOf.{plan_names, plan_steps}
use Rattle.step_meaning.specs.Operands.{AreLower}
use Rattle.step_meaning.specs.NamedSteps.{plan_lower}
use Rattle.binariser.specs.declared.faults.PlanFault.{PlanFault}
use Rattle.binariser.specs.declared.faults.PlanFault.TheVariants.{TooMany, Memory}
use Rattle.binariser.specs.declared.faults.TheConstants.{MOST_STEPS}
use Rattle.binariser.specs.Heads.{rules_for}
use Rattle.binariser.specs.Making.{AreLeft, IsPlan, names_steps_by, place_in}
use Rattle.binariser.specs.Needed.{bodies_names, AreShort}
use Rattle.binariser.proofs.Agreement.{by_places}

-- ---- names in shaped rules have few arguments

short_names : (vars : ℕ) (p : PlainPattern) → is_shaped_pattern vars p ≡ true → AreShort (body_names p)
short_names vars (Atom a) e = (
  leb-true (length a.args) MOST_ARGUMENTS
      (and_parts (nat_le (length a.args) MOST_ARGUMENTS) (list_all (is_argument vars) a.args) e).0,
  tt,
)
short_names vars (Both op l r) e =
    let both = and_parts (is_shaped_pattern vars l) (is_shaped_pattern vars r) e in
    Each-append _ (body_names l) (body_names r) (short_names vars l both.0) (short_names vars r both.1)
short_names vars (Either l r) e =
    let both = and_parts (is_shaped_pattern vars l) (is_shaped_pattern vars r) e in
    Each-append _ (body_names l) (body_names r) (short_names vars l both.0) (short_names vars r both.1)
short_names vars (Where p c) e = short_names vars p (and_parts (is_shaped_pattern vars p) (is_shaped_cond vars c) e).0
short_names vars (Exact p q) e = short_names vars p (and_parts (is_shaped_pattern vars p) (is_length q) e).0
short_names vars (Within p q) e = short_names vars p (and_parts (is_shaped_pattern vars p) (is_length q) e).0
short_names vars (Not i b a) e =
    let first = and_parts (is_shaped_pattern vars i) (is_shaped_pattern vars b && is_shaped_pattern vars a) e in
    let both = and_parts (is_shaped_pattern vars b) (is_shaped_pattern vars a) first.1 in
    Each-append _ (body_names i) (body_names b ++ body_names a) (short_names vars i first.0)
    (Each-append _ (body_names b) (body_names a) (short_names vars b both.0) (short_names vars a both.1))

short_rule : (r : PlainRule) → is_shaped_statement (Clause r) ≡ true → AreShort (body_names r.body)
short_rule r e =
    let names = nat_le (length r.vars) MOST_SLOTS && names_differ r.vars in
    let head = is_shaped_head (length r.vars) r.head in
    let body = is_shaped_pattern (length r.vars) r.body in
    short_names (length r.vars) r.body (and_parts head body (and_parts names (head && body) e).1).1

pub short_rules : (statements : List PlainStatement) → list_all is_shaped_statement statements ≡ true → (n : NameArity)
    → AreShort (bodies_names (rules_for statements n))
short_rules [] e n = tt
short_rules (Clause r ∷ statements) e n =
    let parts = and_parts (is_shaped_statement (Clause r)) (list_all is_shaped_statement statements) e in
    at (has_head n r) (short_rule r parts.0) (short_rules statements parts.1 n)
  where
    at : (b : Bool) → AreShort (body_names r.body) → AreShort (bodies_names (rules_for statements n))
        → AreShort (bodies_names (cond b (r ∷ rules_for statements n) (rules_for statements n)))
    at true own more = Each-append _ (body_names r.body) (bodies_names (rules_for statements n)) own more
    at false own more = more
short_rules (Show names ∷ statements) e n =
    short_rules statements (and_parts (is_shaped_statement (Show names)) (list_all is_shaped_statement statements) e).1 n

-- ---- the steps

module _ (statements : List PlainStatement) (ranking : IsRanking (rules_of statements) (rank_of (rules_of statements)))
    (rules : NameArity → List PlainRule) (same : (n : NameArity) → rules n ≡ rules_for statements n)
    (names : List NameArity) (named : names ≡ plan_names statements) (ss : List PlainStep) (none : ss ≡ []) where
  -- what is made of the names of the plan are its steps
  pub made_are : names_steps_by rules names (place_in []) ss ≡ plan_steps statements
  made_are = (λ i. names_steps_by (λ n. same n i) (named i) (place_in []) (none i)) ∙ by_places statements ranking (place_in [])

  pub made_lower : (made : List PlainStep) → made ≡ names_steps_by rules names (place_in []) ss → AreLower made
  made_lower made e = subst AreLower (sym (e ∙ made_are)) (plan_lower statements [] ranking)

-- too many steps are too many for a plan
pub left_plan : (A : Type 0) (want new : List PlainStep) (plan : PlainPlan) (e : PlanFault) → want ≡ plan.steps
    → AreLeft {A = A} (Err e) want new → IsPlan (Err e) plan
left_plan A want new plan TooMany same h = subst (λ l. MOST_STEPS < length l) same h
left_plan A want new plan Memory same h = tt
