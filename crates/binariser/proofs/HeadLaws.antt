-- The rules that are kept at names, rule by rule.
use Rattle.std.proofs.Common.{◌≡◌, ◌≤◌, ◌<◌, ◌+◌, ◌&&◌, nat_le, ℕ, zero, suc, arith, Bool, true, false, cond, Option, Some, option_map, unwrap_or, List, [], ◌∷◌, ◌++◌, map, length, get_or, take, refl, sym, ap, ◌∙◌, append-nil}
use Rattle.std.specs.List.{filter, list_all}
use Rattle.std.specs.Ordering.{is_eq}
use Rattle.std.proofs.lemmas.Bool.{true≢false, and_parts, leb-true}
use Rattle.std.proofs.lemmas.List.{take_more, map-append}
use Rattle.std.proofs.lemmas.List.Elements.{filter-append}
use Rattle.event_model.specs.EventOrder.{name_cmp, same_names}
use Rattle.event_model.specs.declared.atoms.NameArity.{NameArity}
use Rattle.event_model.specs.declared.terms.TheConstants.{MOST_ARGUMENTS, MOST_SLOTS}
use Rattle.rule_ast.specs.declared.statements.Statement.{Statement}
use Rattle.rule_ast.specs.Plain.{plain_statement}
use Rattle.rule_ast.specs.Shaped.{is_shaped_statement, is_shaped_head, is_shaped_pattern, is_head_argument, names_differ}
use Rattle.rule_ast.specs.Trees.{PlainRule, PlainStatement, Clause, Show}
use Rattle.rule_check.specs.Names.{head_name}
use Rattle.rule_check.specs.Sound.{rules_of}
use Rattle.pattern_meaning.specs.RuleRows.{has_head}
use Rattle.pattern_meaning.specs.Depths.{head_ties, ties_itself}
use Rattle.step_meaning.specs.NamedSteps.{tests_itself}
use Rattle.binariser.specs.Heads.{rules_for}

-- whether a rule heads a name, by the order of names
pub headed_in_order : (q : NameArity) (r : PlainRule) → has_head q r ≡ is_eq (name_cmp q (head_name r))
headed_in_order q r = at (has_head q r) refl (is_eq (name_cmp q (head_name r))) refl
  where
    at : (b : Bool) → has_head q r ≡ b → (c : Bool) → is_eq (name_cmp q (head_name r)) ≡ c → b ≡ c
    at true e true d = refl
    at false e false d = refl
    at true e false d = absurd (true≢false (sym (head_ties q r e) ∙ d))
    at false e true d =
        absurd (true≢false (sym (ap (λ n. has_head n r) (same_names q (head_name r) d) ∙ tests_itself (head_name r) []) ∙ e))

-- and the other way round
heads_by_order : (q : NameArity) (r : PlainRule) → has_head q r ≡ is_eq (name_cmp (head_name r) q)
heads_by_order q r = headed_in_order q r ∙ turned (is_eq (name_cmp q (head_name r))) refl (is_eq (name_cmp (head_name r) q)) refl
  where
    turned : (b : Bool) → is_eq (name_cmp q (head_name r)) ≡ b → (c : Bool) → is_eq (name_cmp (head_name r) q) ≡ c → b ≡ c
    turned true e true d = refl
    turned false e false d = refl
    turned true e false d =
        absurd (true≢false (sym (ties_itself q) ∙ ap (λ n. is_eq (name_cmp n q)) (same_names q (head_name r) e) ∙ d))
    turned false e true d =
        absurd (true≢false (sym (ties_itself q) ∙ ap (λ n. is_eq (name_cmp q n)) (sym (same_names (head_name r) q d)) ∙ e))

module _ {V : Type 0} (rules : V → List PlainRule) (r : PlainRule) where
  abbrev kept : Option V → List PlainRule
  kept o = unwrap_or (option_map rules o) []

  -- the rules of each name, where those of the rule's head are set to w
  pub one_more : (k : NameArity) (w : V) (at_key : Option V) (old new : NameArity → Option V) → k ≡ head_name r
      → ((q : NameArity) → new q ≡ cond (is_eq (name_cmp k q)) (Some w) (old q)) → old k ≡ at_key → rules w ≡ kept at_key ++ r ∷ []
      → (q : NameArity) → kept (new q) ≡ kept (old q) ++ filter (has_head q) (r ∷ [])
  one_more k w at_key old new key e same h q = at (is_eq (name_cmp k q)) refl
    where
      heads : has_head q r ≡ is_eq (name_cmp k q)
      heads = heads_by_order q r ∙ ap (λ n. is_eq (name_cmp n q)) (sym key)

      at : (b : Bool) → is_eq (name_cmp k q) ≡ b → kept (new q) ≡ kept (old q) ++ filter (has_head q) (r ∷ [])
      at true d =
          ap kept (e q ∙ ap (λ b. cond b (Some w) (old q)) d) ∙ h ∙ ap (λ o. kept o ++ r ∷ []) (sym same ∙ ap old (same_names k q d))
          ∙ sym (ap (λ b. kept (old q) ++ cond b (r ∷ []) []) (heads ∙ d))
      at false d =
          ap kept (e q ∙ ap (λ b. cond b (Some w) (old q)) d) ∙ sym (append-nil (kept (old q)))
          ∙ sym (ap (λ b. kept (old q) ++ cond b (r ∷ []) []) (heads ∙ d))

-- ---- statement by statement

-- what holds of all statements holds of one
pub shaped_at : (xs : List Statement) (i : ℕ) (x : Statement) → i < length xs → x ≡ get_or xs i x
    → list_all is_shaped_statement (map plain_statement xs) ≡ true → is_shaped_statement (plain_statement x) ≡ true
shaped_at [] i x h is all = absurd (omega arith)
shaped_at (y ∷ xs) zero x h is all =
    ap (λ z. is_shaped_statement (plain_statement z)) is
    ∙ (and_parts (is_shaped_statement (plain_statement y)) (list_all is_shaped_statement (map plain_statement xs)) all).0
shaped_at (y ∷ xs) (suc i) x h is all =
    shaped_at xs i x (omega (arith, h)) is
    (and_parts (is_shaped_statement (plain_statement y)) (list_all is_shaped_statement (map plain_statement xs)) all).1

-- the head of a rule that is a shaped statement has few arguments
pub short_head : (r : PlainRule) → is_shaped_statement (Clause r) ≡ true → length r.head.args ≤ MOST_ARGUMENTS
short_head r e =
    let names = nat_le (length r.vars) MOST_SLOTS && names_differ r.vars in
    let body = is_shaped_pattern (length r.vars) r.body in
    let head = (and_parts (is_shaped_head (length r.vars) r.head) body
    (and_parts names (is_shaped_head (length r.vars) r.head && body) e).1).0 in
    leb-true (length r.head.args) MOST_ARGUMENTS
    (and_parts (nat_le (length r.head.args) MOST_ARGUMENTS) (list_all (is_head_argument (length r.vars)) r.head.args) head).0

rules_of-append : (xs ys : List PlainStatement) → rules_of (xs ++ ys) ≡ rules_of xs ++ rules_of ys
rules_of-append [] ys = refl
rules_of-append (Clause r ∷ xs) ys = ap (λ l. r ∷ l) (rules_of-append xs ys)
rules_of-append (Show names ∷ xs) ys = rules_of-append xs ys

-- the rules of a name among one statement more
pub one_statement : (xs : List Statement) (i : ℕ) (x : Statement) (n : NameArity) → i < length xs → x ≡ get_or xs i x
    → rules_for (map plain_statement (take (i + 1) xs)) n
    ≡ rules_for (map plain_statement (take i xs)) n ++ rules_for (plain_statement x ∷ []) n
one_statement xs i x n h is =
    ap (λ l. rules_for (map plain_statement l) n) (take_more xs i x h ∙ ap (λ y. take i xs ++ y ∷ []) (sym is))
    ∙ ap (λ l. rules_for l n) (map-append plain_statement (take i xs) (x ∷ []))
    ∙ ap (filter (has_head n)) (rules_of-append (map plain_statement (take i xs)) (plain_statement x ∷ []))
    ∙ filter-append (has_head n) (rules_of (map plain_statement (take i xs))) (rules_of (plain_statement x ∷ []))
