-- The names of one statement more.
use Rattle.std.proofs.Common.{◌≡◌, ℕ, ◌+◌, ◌<◌, not, List, [], ◌∷◌, ◌++◌, length, get_or, take, map, filter, fold, refl, ap, sym, ◌∙◌, append-nil}
use Rattle.std.proofs.lemmas.List.{take_more, map-append}
use Rattle.std.proofs.lemmas.List.Elements.{filter-append}
use Rattle.std.proofs.lemmas.Grind.{flat_map-append, fold-append}
use Rattle.event_model.specs.declared.atoms.NameArity.{NameArity}
use Rattle.rule_ast.specs.declared.statements.Statement.{Statement}
use Rattle.rule_ast.specs.Trees.{PlainRule, PlainStatement, Clause, Show}
use Rattle.rule_ast.specs.Plain.{plain_statement}
use Rattle.rule_check.specs.Names.{body_names, head_name, head_names}
use Rattle.rule_check.specs.Numbers.{with_seen, first_seen}
use Rattle.rule_check.specs.Sound.{rules_of}
use Rattle.rule_check.proofs.Numbering.{first_seen-more, has-first_seen}
use Rattle.drill_lines.specs.OpenNames.{is_open, all_body_names, open_in, open_names}

rules_of-append : (xs ys : List PlainStatement) → rules_of (xs ++ ys) ≡ rules_of xs ++ rules_of ys
rules_of-append [] ys = refl
rules_of-append (Clause r ∷ xs) ys = ap (λ l. r ∷ l) (rules_of-append xs ys)
rules_of-append (Show names ∷ xs) ys = rules_of-append xs ys

-- the rules of the first so many statements
abbrev pub rules_before : ℕ → List Statement → List PlainRule
rules_before i xs = rules_of (map plain_statement (take i xs))

module _ (xs : List Statement) (i : ℕ) (x : Statement) (h : i < length xs) (is : x ≡ get_or xs i x) where
  rules_more : rules_before (i + 1) xs ≡ rules_before i xs ++ rules_of (plain_statement x ∷ [])
  rules_more =
      ap (λ l. rules_of (map plain_statement l)) (take_more xs i x h)
      ∙ ap (λ y. rules_of (map plain_statement (take i xs ++ y ∷ []))) (sym is)
      ∙ ap rules_of (map-append plain_statement (take i xs) (x ∷ []))
      ∙ rules_of-append (map plain_statement (take i xs)) (plain_statement x ∷ [])

  pub rule_more : (r : PlainRule) → plain_statement x ≡ Clause r → rules_before (i + 1) xs ≡ rules_before i xs ++ r ∷ []
  rule_more r e = rules_more ∙ ap (λ y. rules_before i xs ++ rules_of (y ∷ [])) e

  pub show_more : (names : List NameArity) → plain_statement x ≡ Show names → rules_before (i + 1) xs ≡ rules_before i xs
  show_more names e = rules_more ∙ ap (λ y. rules_before i xs ++ rules_of (y ∷ [])) e ∙ append-nil (rules_before i xs)

abbrev pub heads_in : List PlainRule → List NameArity
heads_in rules = first_seen (head_names rules)

pub head_more : (rules all : List PlainRule) (r : PlainRule) (heads : List NameArity) (k : NameArity) → all ≡ rules ++ r ∷ []
    → heads ≡ heads_in rules → k ≡ head_name r → with_seen heads k ≡ heads_in all
head_more rules all r heads k is old kind = sym (
    ap heads_in is ∙ ap first_seen (map-append head_name rules (r ∷ [])) ∙ first_seen-more (head_names rules) (head_name r)
    ∙ (λ j. with_seen (sym old j) (sym kind j)))

pub body_more : (rules all : List PlainRule) (r : PlainRule) (heads kinds : List NameArity) → all ≡ rules ++ r ∷ []
    → kinds ≡ open_in heads rules → fold with_seen kinds (filter (is_open heads) (body_names r.body)) ≡ open_in heads all
body_more rules all r heads kinds is old = sym (
    ap (open_in heads) is
    ∙ ap (λ l. first_seen (filter (is_open heads) l)) (flat_map-append (λ (q : PlainRule). body_names q.body) rules (r ∷ []))
    ∙ ap (λ l. first_seen (filter (is_open heads) (all_body_names rules ++ l))) (append-nil (body_names r.body))
    ∙ ap first_seen (filter-append (is_open heads) (all_body_names rules) (body_names r.body))
    ∙ fold-append with_seen [] (filter (is_open heads) (all_body_names rules)) (filter (is_open heads) (body_names r.body))
    ∙ ap (λ l. fold with_seen l (filter (is_open heads) (body_names r.body))) (sym old))

-- the heads may be given each once
pub open_same : (statements : List PlainStatement) (heads : List NameArity) → heads ≡ heads_in (rules_of statements)
    → open_in heads (rules_of statements) ≡ open_names statements
open_same statements heads is =
    ap (λ l. open_in l (rules_of statements)) is
    ∙ ap (λ p. first_seen (filter p (all_body_names (rules_of statements))))
    (λ j n. not (has-first_seen n (head_names (rules_of statements)) j))
