-- The rules and the names of one statement more.
use Rattle.std.proofs.Common.{Bor, ◌≡◌, ℕ, ◌+◌, ◌<◌, ◌≤◌, true, false, cond, ◌||◌, Some, List, [], ◌∷◌, ◌++◌, length, get_or, take, drop, map, refl, ap, sym, subst, ◌∙◌, arith, append_assoc, append-nil, length-take-le, leb-true, ◌&&◌}
use Rattle.std.specs.List.{list_all}
use Rattle.std.proofs.lemmas.Bool.{and_parts}
use Rattle.std.proofs.lemmas.List.{take_more, take-append-drop, map-append}
use Rattle.ordered_lists.specs.Canon.{has}
use Rattle.event_model.specs.declared.atoms.NameArity.{NameArity}
use Rattle.event_model.specs.EventOrder.{name_cmp}
use Rattle.rule_ast.specs.declared.statements.Statement.{Statement}
use Rattle.rule_ast.specs.declared.statements.Rule.{Rule}
use Rattle.rule_ast.specs.Trees.{PlainRule, PlainStatement, Clause, Show}
use Rattle.rule_ast.specs.Plain.{plain_statement, plain_rule}
use Rattle.rule_ast.specs.Shaped.{IsShaped, is_shaped_statement, is_shaped_rule}
use Rattle.rule_ast.specs.Shown.{shown_names}
use Rattle.rule_check.specs.Gathered.{rules_at, AreShaped}
use Rattle.rule_check.specs.Names.{has_show, unknown_shows}
use Rattle.rule_check.specs.Offenders.{first}
use Rattle.rule_check.specs.Sound.{rules_of}

rules_of-append : (xs ys : List PlainStatement) → rules_of (xs ++ ys) ≡ rules_of xs ++ rules_of ys
rules_of-append [] ys = refl
rules_of-append (Clause r ∷ xs) ys = ap (λ l. r ∷ l) (rules_of-append xs ys)
rules_of-append (Show names ∷ xs) ys = rules_of-append xs ys

shown_names-append : (xs ys : List PlainStatement) → shown_names (xs ++ ys) ≡ shown_names xs ++ shown_names ys
shown_names-append [] ys = refl
shown_names-append (Clause r ∷ xs) ys = shown_names-append xs ys
shown_names-append (Show names ∷ xs) ys = ap (λ l. names ++ l) (shown_names-append xs ys) ∙ sym (append_assoc names (shown_names xs) (shown_names ys))

has_show-append : (xs ys : List PlainStatement) → has_show (xs ++ ys) ≡ (has_show xs || has_show ys)
has_show-append [] ys = refl
has_show-append (Clause r ∷ xs) ys = has_show-append xs ys
has_show-append (Show names ∷ xs) ys = refl

module _ (xs : List Statement) (i : ℕ) (x : Statement) (h : i < length xs) (is : x ≡ get_or xs i x) where
  plain_more : map plain_statement (take (i + 1) xs) ≡ map plain_statement (take i xs) ++ plain_statement x ∷ []
  plain_more = ap (map plain_statement) (take_more xs i x h) ∙ ap (λ y. map plain_statement (take i xs ++ y ∷ [])) (sym is) ∙ map-append plain_statement (take i xs) (x ∷ [])

  plain_all : map plain_statement xs ≡ (map plain_statement (take i xs) ++ plain_statement x ∷ []) ++ map plain_statement (drop (i + 1) xs)
  plain_all = ap (map plain_statement) (sym (take-append-drop (i + 1) xs)) ∙ map-append plain_statement (take (i + 1) xs) (drop (i + 1) xs) ∙ ap (λ l. l ++ map plain_statement (drop (i + 1) xs)) plain_more

  rules_more : rules_of (map plain_statement (take (i + 1) xs)) ≡ rules_of (map plain_statement (take i xs)) ++ rules_of (plain_statement x ∷ [])
  rules_more = ap rules_of plain_more ∙ rules_of-append (map plain_statement (take i xs)) (plain_statement x ∷ [])

  pub rules_rule : (rules : List (Bor Rule)) (r : Bor Rule) → plain_statement x ≡ Clause (plain_rule r.now) → rules_at rules ≡ rules_of (map plain_statement (take i xs))
      → rules_at (rules ++ r ∷ []) ≡ rules_of (map plain_statement (take (i + 1) xs))
  rules_rule rules r e old =
      map-append (λ r. plain_rule r.now) rules (r ∷ []) ∙ ap (λ l. l ++ plain_rule r.now ∷ []) old
      ∙ ap (λ y. rules_of (map plain_statement (take i xs)) ++ rules_of (y ∷ [])) (sym e) ∙ sym rules_more

  pub rules_show : (rules : List (Bor Rule)) (more : List NameArity) → plain_statement x ≡ Show more → rules_at rules ≡ rules_of (map plain_statement (take i xs))
      → rules_at rules ≡ rules_of (map plain_statement (take (i + 1) xs))
  rules_show rules more e old =
      old ∙ sym (append-nil (rules_of (map plain_statement (take i xs))))
      ∙ ap (λ y. rules_of (map plain_statement (take i xs)) ++ rules_of (y ∷ [])) (sym e) ∙ sym rules_more

  pub shown_rule : (names : List NameArity) (r : PlainRule) → plain_statement x ≡ Clause r → names ≡ shown_names (map plain_statement (take i xs)) → names ≡ shown_names (map plain_statement (take (i + 1) xs))
  shown_rule names r e old =
      old ∙ sym (append-nil (shown_names (map plain_statement (take i xs)))) ∙ ap (λ y. shown_names (map plain_statement (take i xs)) ++ shown_names (y ∷ [])) (sym e)
      ∙ sym (shown_names-append (map plain_statement (take i xs)) (plain_statement x ∷ [])) ∙ ap shown_names (sym plain_more)

  pub shown_show : (names more : List NameArity) → plain_statement x ≡ Show more → names ≡ shown_names (map plain_statement (take i xs)) → names ++ more ≡ shown_names (map plain_statement (take (i + 1) xs))
  shown_show names more e old =
      ap (λ l. l ++ more) old ∙ ap (λ l. shown_names (map plain_statement (take i xs)) ++ l) (sym (append-nil more)) ∙ ap (λ y. shown_names (map plain_statement (take i xs)) ++ shown_names (y ∷ [])) (sym e)
      ∙ sym (shown_names-append (map plain_statement (take i xs)) (plain_statement x ∷ [])) ∙ ap shown_names (sym plain_more)

  pub none_shown : (r : PlainRule) → plain_statement x ≡ Clause r → has_show (map plain_statement (take i xs)) ≡ false → has_show (map plain_statement (take (i + 1) xs)) ≡ false
  none_shown r e old =
      ap has_show plain_more ∙ has_show-append (map plain_statement (take i xs)) (plain_statement x ∷ []) ∙ ap (λ y. has_show (map plain_statement (take i xs)) || has_show (y ∷ [])) e
      ∙ ap (λ b. b || false) old

  pub one_shown : (more : List NameArity) → plain_statement x ≡ Show more → has_show (map plain_statement (take i xs)) ≡ false → true ≡ has_show (map plain_statement xs)
  one_shown more e old = sym (
      ap has_show plain_all ∙ has_show-append (map plain_statement (take i xs) ++ plain_statement x ∷ []) (map plain_statement (drop (i + 1) xs))
      ∙ ap (λ b. b || has_show (map plain_statement (drop (i + 1) xs)))
      (has_show-append (map plain_statement (take i xs)) (plain_statement x ∷ []) ∙ ap (λ y. has_show (map plain_statement (take i xs)) || has_show (y ∷ [])) e ∙ ap (λ b. b || true) old))

-- ---- shown names that head no rule

unknown-append : (k : ℕ) (heads xs ys : List NameArity) → unknown_shows k heads (xs ++ ys) ≡ unknown_shows k heads xs ++ unknown_shows (k + length xs) heads ys
unknown-append k heads [] ys = ap (λ n. unknown_shows n heads ys) (omega arith)
unknown-append k heads (x ∷ xs) ys =
    ap (λ l. cond (has name_cmp x heads) [] (k ∷ []) ++ l) (unknown-append (k + 1) heads xs ys)
    ∙ sym (append_assoc (cond (has name_cmp x heads) [] (k ∷ [])) (unknown_shows (k + 1) heads xs) (unknown_shows (k + 1 + length xs) heads ys))
    ∙ ap (λ n. (cond (has name_cmp x heads) [] (k ∷ []) ++ unknown_shows (k + 1) heads xs) ++ unknown_shows n heads ys) (omega arith)

module _ (heads names : List NameArity) (i : ℕ) (x : NameArity) (h : i < length names) (is : x ≡ get_or names i x) (old : unknown_shows 1 heads (take i names) ≡ []) where
  here : unknown_shows 1 heads (take (i + 1) names) ≡ cond (has name_cmp x heads) [] ((i + 1) ∷ [])
  here =
      ap (unknown_shows 1 heads) (take_more names i x h) ∙ ap (λ y. unknown_shows 1 heads (take i names ++ y ∷ [])) (sym is)
      ∙ unknown-append 1 heads (take i names) (x ∷ [])
      ∙ (λ j. old j ++ unknown_shows (1 + length-take-le i names (omega arith) j) heads (x ∷ []))
      ∙ append-nil (cond (has name_cmp x heads) [] ((1 + i) ∷ []))
      ∙ ap (λ n. cond (has name_cmp x heads) [] (n ∷ [])) (omega arith)

  pub known_more : has name_cmp x heads ≡ true → unknown_shows 1 heads (take (i + 1) names) ≡ []
  known_more e = here ∙ ap (λ b. cond b [] ((i + 1) ∷ [])) e

  pub unknown_at : (number : ℕ) → number ≡ i → has name_cmp x heads ≡ false → Some (number + 1) ≡ first (unknown_shows 1 heads names)
  unknown_at number n e = sym (
      ap (λ l. first (unknown_shows 1 heads l)) (sym (take-append-drop (i + 1) names)) ∙ ap first (unknown-append 1 heads (take (i + 1) names) (drop (i + 1) names))
      ∙ ap (λ l. first (l ++ unknown_shows (1 + length (take (i + 1) names)) heads (drop (i + 1) names))) (here ∙ ap (λ b. cond b [] ((i + 1) ∷ [])) e)
      ∙ ap (λ k. Some (k + 1)) (sym n))

-- ---- rules of shaped files

few_rules : (xs : List PlainStatement) → length (rules_of xs) ≤ length xs
few_rules [] = omega arith
few_rules (Clause r ∷ xs) = let h = few_rules xs in omega (arith, h)
few_rules (Show names ∷ xs) = let h = few_rules xs in omega (arith, h)

each_shaped : (xs : List PlainStatement) → list_all is_shaped_statement xs ≡ true → list_all is_shaped_rule (rules_of xs) ≡ true
each_shaped [] e = refl
each_shaped (Clause r ∷ xs) e = let parts = and_parts (is_shaped_rule r) (list_all is_shaped_statement xs) e in ap (λ b. b && list_all is_shaped_rule (rules_of xs)) parts.0 ∙ each_shaped xs parts.1
each_shaped (Show names ∷ xs) e = each_shaped xs (and_parts (is_shaped_statement (Show names)) (list_all is_shaped_statement xs) e).1

shaped_rules : (xs : List PlainStatement) → IsShaped xs → AreShaped (rules_of xs)
shaped_rules xs s = record {
  few = let few = few_rules xs in let all : length xs ≤ 1024 = leb-true (length xs) 1024 s.few in omega (arith, few, all);
  each = each_shaped xs s.each;
}

-- the rules that are gathered from a file are its rules
pub all_rules : (xs ys : List Statement) (rules slice : List (Bor Rule)) → slice ≡ rules → rules_at rules ≡ rules_of (map plain_statement ys) → ys ≡ xs → rules_at slice ≡ rules_of (map plain_statement xs)
all_rules xs ys rules slice e is f = ap rules_at e ∙ is ∙ ap (λ l. rules_of (map plain_statement l)) f

pub all_shaped : (xs ys : List Statement) (rules slice : List (Bor Rule)) → slice ≡ rules → rules_at rules ≡ rules_of (map plain_statement ys) → ys ≡ xs → IsShaped (map plain_statement xs) → AreShaped (rules_at slice)
all_shaped xs ys rules slice e is f s = subst AreShaped (sym (all_rules xs ys rules slice e is f)) (shaped_rules (map plain_statement xs) s)
