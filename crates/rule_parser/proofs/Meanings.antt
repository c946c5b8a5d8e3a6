-- What parse says, from what a run over the tokens says.
use Rattle.std.proofs.Common.{◌≡◌, ℕ, ◌≤◌, ◌⊎◌, inl, inr, Bool, true, false, List, [], length, Result, Ok, Err, IfOk, sym, ap, ◌∙◌, subst, arith}
use Rattle.std.proofs.lemmas.List.{append-nil}
use Rattle.rule_ast.specs.declared.statements.RuleSet.{RuleSet}
use Rattle.rule_ast.specs.Trees.{PlainStatement}
use Rattle.rule_ast.specs.Plain.{plain_rules}
use Rattle.rule_ast.specs.Shaped.{IsShaped}
use Rattle.rule_ast.specs.Shown.{shown_names}
use Rattle.rule_lexer.specs.declared.terminals.Terminal.{Terminal}
use Rattle.rule_lexer.specs.Lexing.{Lexing}
use Rattle.rule_lexer.proofs.OneLexing.{same_lexing, few_terminals}
use Rattle.rule_grammar.specs.declared.faults.Fault.TheVariants as fault
use Rattle.rule_grammar.specs.Trees.{Statements, Statements.Empty}
use Rattle.rule_grammar.specs.Machine.{run, State.Between}
use Rattle.rule_grammar.specs.Marks.{nothing_counted}
use Rattle.rule_grammar.specs.Tokens.{text}
use Rattle.rule_grammar.specs.Texts.{Reads, Means}
use Rattle.rule_grammar.specs.Values.{text_value}
use Rattle.rule_grammar.proofs.Reports.{one_tree, means, only}
use Rattle.rule_grammar.proofs.ShapedLaws.{shaped_text, shown_few}
use Rattle.rule_parser.specs.declared.faults.ParseFault.{ParseFault}
use Rattle.rule_parser.specs.declared.faults.ParseFault.TheVariants.{Syntax, Limit, Memory}
use Rattle.rule_grammar.specs.Files.{Holds}
use Rattle.rule_parser.specs.Answers.{Begins, Wrong, Answers, Gives, Misfits, Parsed}

pub same_tree : {bytes : List ℕ} {rules others : List PlainStatement} (a : Holds bytes rules) (b : Holds bytes others) → a.tree ≡ b.tree
same_tree {bytes} a b =
    let e = same_lexing bytes 0 a.terminals b.terminals a.places b.places a.end b.end true true a.lexing b.lexing in
    one_tree a.tree b.tree (a.reads.tokens ∙ e.0 ∙ sym b.reads.tokens)

pub one_meaning : (bytes : List ℕ) (rules others : List PlainStatement) → Holds bytes rules → Holds bytes others → rules ≡ others
one_meaning bytes rules others a b = sym a.says ∙ ap text_value (same_tree a b) ∙ b.says

reads : (terminals : List Terminal) (tree : Statements) → run terminals nothing_counted (Between Empty) ≡ Ok tree → Reads terminals tree
reads terminals tree e = subst (Means terminals) e (means terminals)

begins : (terminals : List Terminal) (tree : Statements) → Reads terminals tree → Begins terminals
begins terminals tree r = record { marks = text tree; tokens = r.tokens; viable = (tree, [], sym (append-nil (text tree))); within = r.within }

wrong : (terminals : List Terminal) (places : List ℕ) (end at : ℕ) (whole : Bool) → (m : Misfits terminals places end whole at) → Wrong terminals whole m.left
wrong terminals places end at whole m = go whole m.runs
  where
    go : (whole : Bool) → (run terminals nothing_counted (Between Empty) ≡ Err (fault.Syntax m.left)) ⊎ ((whole ≡ false) × (m.left ≡ 0) × (tree : Statements) × (run terminals nothing_counted (Between Empty) ≡ Ok tree)) → Wrong terminals whole m.left
    go true (inl e) = subst (Means terminals) e (means terminals)
    go false (inl e) = inl (subst (Means terminals) e (means terminals))
    go true (inr x) = cc
    go false (inr x) = inr (x.1, begins terminals x.2 (reads terminals x.2 x.3))

pub answers : (bytes : List ℕ) (terminals : List Terminal) (places : List ℕ) (end : ℕ) (whole : Bool) (r : Result RuleSet ParseFault) → Lexing bytes 0 terminals places end whole → Parsed terminals places end whole r → Answers bytes r
answers bytes terminals places end whole (Ok rs) l p = record {
  terminals = terminals;
  places = places;
  end = end;
  lexing = subst (Lexing bytes 0 terminals places end) p.0 l;
  tree = p.1.tree;
  reads = reads terminals p.1.tree p.1.runs;
  says = p.1.says;
}
answers bytes terminals places end whole (Err (Syntax n)) l p = record {
  terminals = terminals;
  places = places;
  end = end;
  whole = whole;
  lexing = l;
  left = p.left;
  wrong = wrong terminals places end n whole p;
  place = p.place;
}
answers bytes terminals places end whole (Err (Limit which n)) l p = record {
  terminals = terminals;
  places = places;
  end = end;
  whole = whole;
  lexing = l;
  left = p.left;
  passed = subst (Means terminals) p.runs (means terminals);
  place = p.place;
}
answers bytes terminals places end whole (Err Memory) l p = tt

pub gives : (bytes : List ℕ) (terminals : List Terminal) (places : List ℕ) (end : ℕ) (whole : Bool) (r : Result RuleSet ParseFault) → Lexing bytes 0 terminals places end whole → Parsed terminals places end whole r
    → (rules : List PlainStatement) → Holds bytes rules → Gives rules r
gives bytes terminals places end whole r l p rules h =
    let same = same_lexing bytes 0 terminals h.terminals places h.places end h.end whole true l h.lexing in
    let runs : run terminals nothing_counted (Between Empty) ≡ Ok h.tree = ap (λ ts. run ts nothing_counted (Between Empty)) same.0 ∙ only h.terminals h.tree h.reads in
    by_answer r p runs same.3
  where
    by_answer : (r : Result RuleSet ParseFault) → Parsed terminals places end whole r → run terminals nothing_counted (Between Empty) ≡ Ok h.tree → whole ≡ true → Gives rules r
    by_answer (Ok rs) p runs w = let e = sym p.1.runs ∙ runs in let t : p.1.tree ≡ h.tree = cc in sym p.1.says ∙ ap text_value t ∙ h.says
    by_answer (Err (Syntax n)) p runs w = elim p.runs [ inl e ↦ (let c = sym e ∙ runs in cc) | inr x ↦ (let c = sym x.0 ∙ w in cc) ]
    by_answer (Err (Limit which n)) p runs w = let c = sym p.runs ∙ runs in cc
    by_answer (Err Memory) p runs w = tt

pub shaped : (terminals : List Terminal) (places : List ℕ) (end : ℕ) (whole : Bool) (r : Result RuleSet ParseFault) → Parsed terminals places end whole r → IfOk r (λ rs. IsShaped (plain_rules rs))
shaped terminals places end whole (Ok rs) p = let q = reads terminals p.1.tree p.1.runs in subst IsShaped p.1.says (shaped_text p.1.tree q.within)
shaped terminals places end whole (Err e) p = tt

pub few_shown : (bytes : List ℕ) (terminals : List Terminal) (places : List ℕ) (end : ℕ) (whole : Bool) (r : Result RuleSet ParseFault) → Lexing bytes 0 terminals places end whole → Parsed terminals places end whole r
    → IfOk r (λ rs. length (shown_names (plain_rules rs)) ≤ length bytes)
few_shown bytes terminals places end whole (Ok rs) l p =
    let few = few_terminals bytes 0 terminals places end whole l in
    let shown = shown_few p.1.tree in
    let tokens = ap length (reads terminals p.1.tree p.1.runs).tokens in
    let says = ap (λ rules. length (shown_names rules)) p.1.says in
    omega arith
few_shown bytes terminals places end whole (Err e) l p = tt
