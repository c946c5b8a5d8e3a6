-- The canonical tree of what a text says says the same, and keeps the limits that the text keeps.
use Rattle.std.proofs.Common.{◌≡◌, Bool, true, [], ◌∷◌, ◌++◌, refl, sym, ap, ap₂, ◌∙◌, subst}
use Rattle.rule_ast.specs.Trees as plain
use Rattle.rule_lexer.specs.declared.terminals.Terminal.{Terminal}
use Rattle.rule_lexer.specs.declared.terminals.Terminal.TheVariants.{Huge}
use Rattle.rule_grammar.specs.Trees.{Statement, Statement.Clause, Statement.Shown, Statements, Statements.Empty, Statements.Then}
use Rattle.rule_grammar.specs.Marks.{nothing_counted}
use Rattle.rule_grammar.specs.Tokens.{text}
use Rattle.rule_grammar.specs.Values.{heading_value, tree_value, names_of, statement_value, text_value}
use Rattle.rule_grammar.specs.Texts.{IsWithin}
use Rattle.rule_writer.specs.Forms.{as_tree, text_form}
use Rattle.rule_writer.proofs.Stripped.{normal_heading, strip_tree, strip_statement, strip_text}
use Rattle.rule_writer.proofs.Fewer.{Fewer.Neither, AllTokens, within, counts, kept, fewer_statement, fewer_text}
use Rattle.rule_writer.proofs.Says.{says_heading, says_tree}
use Rattle.rule_writer.proofs.Formed.{text_formed}

names_stay : (s : Statement) → names_of (strip_statement s) ≡ names_of s
names_stay s = ap (λ g. g.names) (counts (fewer_statement refl 1 s Neither) nothing_counted)

statement_says : (s : Statement) → statement_value (strip_statement s) ≡ statement_value s
statement_says (Clause h p) =
    let names = names_of (Clause h p) in
    ap (λ ns. plain.Clause (record { head = heading_value ns (normal_heading h); body = tree_value ns (as_tree (strip_tree p)); vars = ns })) (names_stay (Clause h p))
    ∙ ap₂ (λ a b. plain.Clause (record { head = a; body = b; vars = names })) (says_heading names h) (says_tree names p)
statement_says (Shown is) = refl

text_says : (ss : Statements) → text_value (strip_text ss) ≡ text_value ss
text_says Empty = refl
text_says (Then ss s) = ap₂ (λ xs x. xs ++ x ∷ []) (text_says ss) (statement_says s)

pub says_again : (ss : Statements) → text_value (text_form (text_value ss)) ≡ text_value ss
says_again ss = ap text_value (text_formed ss) ∙ text_says ss

pub within_again : (ss : Statements) → IsWithin nothing_counted (text ss) → IsWithin nothing_counted (text (text_form (text_value ss)))
within_again ss h = subst (λ x. IsWithin nothing_counted (text x)) (sym (text_formed ss)) (within (fewer_text ss) nothing_counted h)

pub kept_again : (p : Terminal → Bool) → p Huge ≡ true → (ss : Statements) → AllTokens p (text ss) → AllTokens p (text (text_form (text_value ss)))
kept_again p u ss h = subst (λ x. AllTokens p (text x)) (sym (text_formed ss)) (kept p u (fewer_text ss) h)
