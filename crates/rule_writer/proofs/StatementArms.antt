-- What the writer appends for statements.
use Rattle.std.proofs.Common.{◌≡◌, ℕ, ◌+◌, ◌<◌, ◌≤◌, List, [], ◌∷◌, ◌++◌, length, map, take, get_or, Some, None, refl, sym, ap, ◌∙◌, subst, le_of_lt, arith, codes}
use Rattle.std.specs.List.{fold}
use Rattle.std.proofs.lemmas.List.{map-append, take_more, length-take-le}
use Rattle.std.proofs.lemmas.List.Sums.{fold_push}
use Rattle.event_model.specs.declared.atoms.NameArity.{NameArity}
use Rattle.rule_ast.specs.declared.statements.Statement.{Statement}
use Rattle.rule_ast.specs.Plain.{plain_statement}
use Rattle.rule_ast.specs.Trees as plain
use Rattle.rule_ast.specs.Trees.{PlainRule, PlainStatement}
use Rattle.rule_lexer.specs.declared.terminals.Terminal.TheVariants as t
use Rattle.rule_grammar.specs.Trees.{Items, Items.OneItem, Items.MoreItem, Statements.Empty}
use Rattle.rule_grammar.specs.Marks.{Role.Starts, Role.Lists}
use Rattle.rule_grammar.specs.Tokens.{quiet, heading, items, statement, number_of, statements}
use Rattle.rule_writer.specs.Forms.{heading_form, pattern_form, and_item, shown_form, statement_form, and_statement, text_form}
use Rattle.rule_writer.specs.Canonical.{bytes_of}
use Rattle.rule_writer.specs.Spelled.{pattern_spelled}
use Rattle.rule_writer.specs.Writes.{Appends, item_tokens, all_items}
use Rattle.rule_writer.proofs.Appending.{pushes, then, zero_decimal}
use Rattle.rule_writer.proofs.Arms.{as_a_tree}

-- ---- shown names

pub no_items_written : (ns : List NameArity) {a b : List ℕ} → length ns ≡ 0 → b ≡ a ++ codes "/0" → Appends a b (all_items ns)
no_items_written [] h e = pushes (codes "/0") (all_items []) e (λ rest. ap (λ x. 47 ∷ (x ++ bytes_of rest)) zero_decimal)
no_items_written (n ∷ ns) h e = absurd (omega arith)

some_items : (is : Items) (ns : List NameArity) → fold and_item (Some is) ns ≡ Some (fold (λ xs n. MoreItem xs n.name n.arity) is ns)
some_items is [] = refl
some_items is (n ∷ ns) = some_items (MoreItem is n.name n.arity) ns

pub first_item : (ns : List NameArity) (n : NameArity) {a b : List ℕ} → 0 < length ns → n ≡ get_or ns 0 n → Appends a b (item_tokens n) → Appends a b (all_items (take 1 ns))
first_item [] n h e p = absurd (omega arith)
first_item (y ∷ ys) n {a} {b} h e p = subst (λ z. Appends a b (item_tokens z)) e p

one_more : (ys : List NameArity) (n : NameArity) {a b c e : List ℕ} → 0 < length ys → Appends a b (all_items ys) → c ≡ b ++ codes ", " → Appends c e (item_tokens n) → Appends a e (all_items (ys ++ n ∷ []))
one_more [] n h p q r = absurd (omega arith)
one_more (y ∷ ys) n {a} {b} {c} {e} h p q r =
    let is : Items = fold (λ xs n. MoreItem xs n.name n.arity) (OneItem y.name y.arity) ys in
    let before : fold and_item None (y ∷ ys) ≡ Some is = some_items (OneItem y.name y.arity) ys in
    let after : fold and_item None (y ∷ ys ++ n ∷ []) ≡ Some (MoreItem is n.name n.arity)
    = fold_push and_item (Some (OneItem y.name y.arity)) ys n ∙ ap (λ o. and_item o n) before in
    subst (λ o. Appends a e (items (shown_form o))) (sym after)
    (then (subst (λ o. Appends a b (items (shown_form o))) before p) (then (pushes (codes ", ") (λ rest. (Lists, t.Comma) ∷ rest) q (λ rest. refl)) r))

pub next_item : (ns : List NameArity) (i : ℕ) (n : NameArity) {a b c e : List ℕ} → 1 ≤ i → i < length ns → n ≡ get_or ns i n
    → Appends a b (all_items (take i ns)) → c ≡ b ++ codes ", " → Appends c e (item_tokens n) → Appends a e (all_items (take (i + 1) ns))
next_item ns i n {a} {b} {c} {e} low lt is p q r =
    let same : take (i + 1) ns ≡ take i ns ++ n ∷ [] = take_more ns i n lt ∙ ap (λ y. take i ns ++ y ∷ []) (sym is) in
    subst (λ ys. Appends a e (all_items ys)) (sym same) (one_more (take i ns) n (omega (arith, length-take-le i ns (le_of_lt lt))) p q r)

-- ---- statements

pub rule_written : (r : PlainRule) (n : ℕ) {a b c e f : List ℕ} → Appends a b (heading n (heading_form r.vars r.head)) → c ≡ b ++ codes " <- "
    → Appends c e (pattern_spelled 0 0 (pattern_form r.vars r.body)) → f ≡ e ++ codes ".\n" → Appends a f (statement n (statement_form (plain.Clause r)))
rule_written r n p q s u =
    then p (then (pushes (codes " <- ") (quiet t.Arrow) q (λ rest. refl)) (then (as_a_tree 0 (pattern_form r.vars r.body) s) (pushes (codes ".\n") (quiet t.End) u (λ rest. refl))))

pub show_written : (ns : List NameArity) (n : ℕ) {a b c e : List ℕ} → b ≡ a ++ codes "show " → Appends b c (all_items ns) → e ≡ c ++ codes ".\n" → Appends a e (statement n (statement_form (plain.Show ns)))
show_written ns n p q r = then (pushes (codes "show ") (λ rest. (Starts n, t.Show) ∷ rest) p (λ rest. refl)) (then q (pushes (codes ".\n") (quiet t.End) r (λ rest. refl)))

pub next_statement : (ss : List Statement) (i : ℕ) (s : Statement) {a b c : List ℕ} → i < length ss → s ≡ get_or ss i s → Appends a b (statements (text_form (map plain_statement (take i ss))))
    → ((n : ℕ) → Appends b c (statement n (statement_form (plain_statement s)))) → Appends a c (statements (text_form (map plain_statement (take (i + 1) ss))))
next_statement ss i s {a} {b} {c} lt is p q =
    let done : List PlainStatement = map plain_statement (take i ss) in
    let same : map plain_statement (take (i + 1) ss) ≡ done ++ plain_statement s ∷ []
    = ap (map plain_statement) (take_more ss i s lt ∙ ap (λ y. take i ss ++ y ∷ []) (sym is)) ∙ map-append plain_statement (take i ss) (s ∷ []) in
    subst (λ x. Appends a c (statements x)) (sym (ap text_form same ∙ fold_push and_statement Empty done (plain_statement s))) (then p (q (number_of (text_form done) + 1)))
