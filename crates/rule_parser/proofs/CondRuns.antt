-- How runs go on over the tokens of conditions.
use Rattle.std.proofs.Common.{Bor, ◌≡◌, ℕ, ◌+◌, ◌≤◌, true, List, [], ◌∷◌, length, None, Result, Ok, Err, refl, sym, ap, ◌∙◌, arith, subst}
use Rattle.rule_ast.specs.declared.conditions.Cmp.{Cmp}
use Rattle.rule_ast.specs.Trees as plain
use Rattle.rule_ast.specs.Trees.{PlainCond}
use Rattle.rule_grammar.specs.Trees.{Adding, Adding.Added, Adding.Taken, Scaling, Scaling.Times, Scaling.Over, Scaling.Modulo}
use Rattle.event_model.specs.declared.terms.Pat.{Pat}
use Rattle.event_model.specs.declared.terms.Pat.TheVariants as pat
use Rattle.rule_lexer.specs.declared.terminals.Terminal.{Terminal}
use Rattle.rule_lexer.specs.declared.terminals.Terminal.TheVariants as t
use Rattle.rule_grammar.specs.declared.faults.Which.TheVariants as which
use Rattle.rule_grammar.specs.Trees.{Literal, Literal.Digits, Literal.Minus, Literal.Least, Literal.Symbol, Literal.Quoted, Term.Leaf, Term.Lone, Term.Compound}
use Rattle.rule_grammar.specs.Trees.{Condition.OneAll, Condition.MoreAll, All, All.OneNegation, All.MoreNegation, Negation.Negated, Negation.Compared, Comparison.OneSum, Comparison.TwoSums, Sum, Sum.OneProduct, Sum.MoreProduct, Product, Product.OneUnit, Product.MoreUnit, Unit', Unit'.Value, Unit'.Grouped}
use Rattle.rule_grammar.specs.Marks.{Marked, Counted, count, count_all, passed}
use Rattle.rule_grammar.specs.Marks.{Role.Quiet, Role.Single, Role.Binary, Role.Nests, Role.Deepens}
use Rattle.rule_grammar.specs.Tokens.{literal, sum, arguments, negation, adding, scaling}
use Rattle.rule_grammar.specs.Lists.{Before.Start, Nest.Outside, ListState.WantTerm, behind_terms}
use Rattle.rule_grammar.specs.Machine.{Where'.InGroup, OrHead, OrHead.FirstAll, OrHead.NextAll, AndHead.FirstNegation, AndHead.NextNegation, NotHead, NotHead.NoBang, NotHead.Bang, CompareHead, CompareHead.FirstSum, CompareHead.SecondSum, SumHead, SumHead.FirstProduct, SumHead.NextProduct, ProductHead, ProductHead.FirstUnit, ProductHead.NextUnit}
use Rattle.rule_grammar.specs.Machine.{State.WantNegation, State.WantUnit, State.UnitMinus, State.UnitName, State.InOperand}
use Rattle.rule_grammar.specs.Machine.{not_depth, product_depth, have_unit, over_product, over_condition, to, first_all, first_unit, behind_condition, behind_all, behind_comparison, behind_all_products, behind_product, behind_unit, in_operand, run}
use Rattle.rule_parser.specs.declared.faults.Stop.{Stop}
use Rattle.rule_parser.specs.declared.signs.Sign.TheVariants as sign
use Rattle.rule_parser.specs.declared.terms.Kind.TheVariants.{Operand}
use Rattle.rule_parser.specs.Signs.{Lacks, LacksAdding, LacksScaling, LacksCompare}
use Rattle.rule_parser.specs.Steps.{Fine, with_variable, with_part, Extends, Fails, resume, Level, Read, terms_of, ListRead, word_tokens, IsNoSymbol, LacksWord, WordRead, Answer}
use Rattle.rule_grammar.specs.Values.{slot_of, adding_value, scaling_value, condition_value, all_value, negation_value, comparison_value, sum_value, product_value, unit_value}
use Rattle.rule_parser.proofs.Names.{extends_refl, extends_trans, extends_name}
use Rattle.rule_parser.specs.Steps.{Link, begins_word, unit_level, product_level, sum_level, comparison_level, negation_level, all_level, condition_level}
use Rattle.rule_parser.proofs.TermRuns.{run_on, resume_on, by_role_alone, quiet, fits, fails_along, word_shorter, alone}

-- Two trees with a token of one part between them.

pub link_on : {C T C' T' V : Type 0} {L : Level C T} {E : Level C' T'} {x : Terminal} (link : Link L E x) {value : List (List ℕ) → T → V} {ts r1 r2 : List Terminal} {d : ℕ} {g g1 : Counted} {v : V}
    → (a : Read L value ts d g g1 v r1) → r1 ≡ x ∷ r2 → count g1 (Binary, x) ≡ with_part g1 → Fine (with_part g1)
    → (c : C) → L.depth c ≡ d → run ts g (L.state c) ≡ run r2 (with_part g1) (E.state (link.next c a.tree))
link_on {L = L} {E = E} {x = x} link {r2 = r2} {g1 = g1} a e n f c q =
    a.runs c q
    ∙ resume_on g1 (L.behind c a.tree) Binary (E.state (link.next c a.tree)) e (link.goes c a.tree) (ap (λ h. passed h Binary) n ∙ by_role_alone (with_part g1) Binary f)
    ∙ ap (λ h. run r2 h (E.state (link.next c a.tree))) n

pub link_fails : {C T C' T' V : Type 0} {L : Level C T} {E : Level C' T'} {x : Terminal} (link : Link L E x) {value : List (List ℕ) → T → V} {ts r1 r2 : List Terminal} {d : ℕ} {g g1 g2 : Counted} {v : V} (err : Stop)
    → (a : Read L value ts d g g1 v r1) → r1 ≡ x ∷ r2 → count g1 (Binary, x) ≡ with_part g1 → g2 ≡ with_part g1 → Fine (with_part g1)
    → ((c : C') → E.depth c ≡ d → Fails err (run r2 g2 (E.state c)))
    → (c : C) → L.depth c ≡ d → Fails err (run ts g (L.state c))
link_fails {L = L} {E = E} link {r2 = r2} err a e n p f fails c q =
    fails_along err (link_on link a e n f c q ∙ ap (λ y. run r2 y (E.state (link.next c a.tree))) (sym p)) (fails (link.next c a.tree) (link.deep c a.tree ∙ q))

-- what was read of the first tree is what it is with the names that come later
pub earlier : {C T C' T' V V' : Type 0} {L : Level C T} {E : Level C' T'} {value : List (List ℕ) → T → V} {value' : List (List ℕ) → T' → V'} {ts r1 r2 rest : List Terminal} {d : ℕ} {g g1 g' : Counted} {v : V} {v' : V'}
    → (a : Read L value ts d g g1 v r1) → Read E value' r2 d (with_part g1) g' v' rest → (names : List (List ℕ)) → Extends g'.names names → value names a.tree ≡ v
earlier a b names q = a.says names (extends_trans b.grows q)

-- A tree is read of two with a token of one part between them.
pub linked : {C T C' T' V V' : Type 0} {L : Level C T} {E : Level C' T'} {x : Terminal} (link : Link L E x) {value : List (List ℕ) → T → V} {value' : List (List ℕ) → T' → V'}
    {ts r1 r2 rest : List Terminal} {d : ℕ} {g g1 g2 g' : Counted} {u w : V} {v : V'} (join : T → T' → T)
    → (a : Read L value ts d g g1 u r1) → r1 ≡ x ∷ r2 → count g1 (Binary, x) ≡ with_part g1 → g2 ≡ with_part g1 → Fine (with_part g1) → (b : Read E value' r2 d g2 g' v rest)
    → ((names : List (List ℕ)) → value names a.tree ≡ u → value' names b.tree ≡ v → value names (join a.tree b.tree) ≡ w)
    → ((more : List Marked) → L.tokens d (join a.tree b.tree) more ≡ L.tokens d a.tree ((Binary, x) ∷ E.tokens d b.tree more))
    → ((c : C) → resume (E.behind (link.next c a.tree) b.tree) rest g' ≡ resume (L.behind c (join a.tree b.tree)) rest g')
    → Read L value ts d g g' w rest
linked {L = L} {E = E} {x = x} link {r2 = r2} {d = d} {g = g} {g' = g'} join a e n p f b says tokens over =
    let grows : Extends _ g'.names = subst (λ y. Extends y.names g'.names) p b.grows in
    record {
      tree = join a.tree b.tree;
      says = λ names q. says names (a.says names (extends_trans grows q)) (b.says names q);
      grows = extends_trans a.grows grows;
      fine = b.fine;
      shorter = omega (arith, a.shorter, ap length e, b.shorter);
      counts = λ more. ap (count_all g) (tokens more) ∙ a.counts ((Binary, x) ∷ E.tokens d b.tree more) ∙ ap (λ y. count_all y (E.tokens d b.tree more)) (n ∙ sym p) ∙ b.counts more;
      runs = λ c q.
          link_on link a e n f c q ∙ ap (λ y. run r2 y (E.state (link.next c a.tree))) (sym p)
          ∙ b.runs (link.next c a.tree) (link.deep c a.tree ∙ q) ∙ over c;
    }

abbrev pub scaling_link : (op : Scaling) → Link product_level unit_level (scaling op)
scaling_link op = record { next = λ h p. NextUnit h p op; goes = λ h p. at op h p; deep = λ h p. refl }
  where
    at : (op : Scaling) (h : SumHead) (p : Product) → behind_product h p (scaling op) ≡ to Binary (WantUnit (NextUnit h p op))
    at Times h p = refl
    at Over h p = refl
    at Modulo h p = refl

abbrev pub adding_link : (op : Adding) → Link sum_level product_level (adding op)
adding_link op = record { next = λ c s. NextProduct c s op; goes = λ c s. at op c s; deep = λ c s. refl }
  where
    at : (op : Adding) (c : CompareHead) (s : Sum) → behind_all_products (c, s) (adding op) ≡ to Binary (WantUnit (FirstUnit (NextProduct c s op)))
    at Added c s = refl
    at Taken c s = refl

abbrev pub both_link : Link all_level negation_level t.Both
both_link = record { next = λ o a. NoBang (NextNegation o a); goes = λ o a. refl; deep = λ o a. refl }

abbrev pub either_link : Link condition_level all_level t.Either
either_link = record { next = λ w c. NextAll w c; goes = λ w c. refl; deep = λ w c. refl }

pub scaling_counts : (g : Counted) (op : Scaling) → count g (Binary, scaling op) ≡ with_part g
scaling_counts g Times = refl
scaling_counts g Over = refl
scaling_counts g Modulo = refl

pub adding_counts : (g : Counted) (op : Adding) → count g (Binary, adding op) ≡ with_part g
adding_counts g Added = refl
adding_counts g Taken = refl

-- Operands.

unit_resumes : (h : ProductHead) (u : Unit') (rest : List Terminal) (g : Counted) → run rest g (have_unit h u) ≡ resume (λ x. behind_unit (have_unit h u) x) rest g
unit_resumes (FirstUnit s) u [] g = refl
unit_resumes (NextUnit s p op) u [] g = refl
unit_resumes (FirstUnit s) u (x ∷ xs) g = refl
unit_resumes (NextUnit s p op) u (x ∷ xs) g = refl

name_unit_resumes : (h : ProductHead) (name : List ℕ) (rest : List Terminal) (g : Counted) → Lacks sign.Open rest
    → run rest g (UnitName h name) ≡ resume (λ x. behind_unit (have_unit h (Value (Lone (Symbol name)))) x) rest g
name_unit_resumes h name [] g l = refl
name_unit_resumes h name (t.Open ∷ xs) g l = absurd (l refl)
name_unit_resumes h name (x ∷ xs) g l = refl

single : (g : Counted) → Fine g → passed g Single ≡ None
single g f = by_role_alone g Single f

pub unit_variable : {ts rest : List Terminal} {d : ℕ} {g g1 g' : Counted} {name : List ℕ} {slot : ℕ} → ts ≡ t.Var name ∷ rest → g1 ≡ with_part g → g' ≡ with_variable g1 name → Fine (with_variable g1 name)
    → ((names : List (List ℕ)) → Extends g'.names names → slot_of names name ≡ slot) → Read unit_level unit_value ts d g g' (plain.Value (pat.Var slot)) rest
unit_variable {ts} {rest} {d} {g} {g1} {g'} {name} {slot} e p q f s =
    let same : g' ≡ with_variable (with_part g) name = q ∙ ap (λ y. with_variable y name) p in
    let fine : Fine (with_variable (with_part g) name) = subst Fine (ap (λ y. with_variable y name) p) f in
    record {
      tree = Value (Leaf name);
      says = λ names h. ap (λ z. plain.Value (pat.Var z)) (s names h);
      grows = subst (λ y. Extends g.names y.names) (sym same) (extends_name g.names name);
      fine = subst Fine (sym same) fine;
      shorter = omega (arith, ap length e);
      counts = λ more. ap (λ y. count_all y more) (sym same);
      runs = λ h r.
          run_on g (WantUnit h) Single (have_unit h (Value (Leaf name))) e refl (single (with_variable (with_part g) name) fine)
          ∙ ap (λ y. run rest y (have_unit h (Value (Leaf name)))) (sym same) ∙ unit_resumes h (Value (Leaf name)) rest g';
    }

word_unit_runs : (l : Literal) (ts rest : List Terminal) (g : Counted) → Fine (with_part g) → IsNoSymbol l → ts ≡ word_tokens l rest → (h : ProductHead)
    → run ts g (WantUnit h) ≡ resume (λ x. behind_unit (have_unit h (Value (Lone l))) x) rest (with_part g)
word_unit_runs (Digits m) ts rest g f n e h = run_on g (WantUnit h) Single (have_unit h (Value (Lone (Digits m)))) e refl (single (with_part g) f) ∙ unit_resumes h (Value (Lone (Digits m))) rest (with_part g)
word_unit_runs (Minus m) ts rest g f n e h =
    run_on g (WantUnit h) Single (UnitMinus h) e refl (single (with_part g) f)
    ∙ run_on {xs = rest} {x = t.Number m} (with_part g) (UnitMinus h) Quiet (have_unit h (Value (Lone (Minus m)))) refl refl (quiet (with_part g) f) ∙ unit_resumes h (Value (Lone (Minus m))) rest (with_part g)
word_unit_runs Least ts rest g f n e h =
    run_on g (WantUnit h) Single (UnitMinus h) e refl (single (with_part g) f)
    ∙ run_on {xs = rest} {x = t.Huge} (with_part g) (UnitMinus h) Quiet (have_unit h (Value (Lone Least))) refl refl (quiet (with_part g) f) ∙ unit_resumes h (Value (Lone Least)) rest (with_part g)
word_unit_runs (Symbol name) ts rest g f n e h = absurd n
word_unit_runs (Quoted text) ts rest g f n e h = run_on g (WantUnit h) Single (have_unit h (Value (Lone (Quoted text)))) e refl (single (with_part g) f) ∙ unit_resumes h (Value (Lone (Quoted text))) rest (with_part g)

word_unit_counts : (l : Literal) → IsNoSymbol l → (g : Counted) (more : List Marked) → count_all g (literal Single l more) ≡ count_all (with_part g) more
word_unit_counts (Digits m) n g more = refl
word_unit_counts (Minus m) n g more = refl
word_unit_counts Least n g more = refl
word_unit_counts (Symbol name) n g more = refl
word_unit_counts (Quoted text) n g more = refl

pub unit_word : {ts rest : List Terminal} {d : ℕ} {g g' : Counted} {v : Pat} → g' ≡ with_part g → Fine (with_part g) → WordRead ts v rest → Read unit_level unit_value ts d g g' (plain.Value v) rest
unit_word {ts} {rest} {d} {g} {g'} {v} p f w = record {
  tree = Value (Lone w.literal);
  says = λ names q. ap plain.Value w.says;
  grows = subst (λ y. Extends g.names y.names) (sym p) (extends_refl g.names);
  fine = subst Fine (sym p) f;
  shorter = word_shorter w.literal ts rest w.tokens;
  counts = λ more. word_unit_counts w.literal w.no_symbol g more ∙ ap (λ y. count_all y more) (sym p);
  runs = λ h q. word_unit_runs w.literal ts rest g f w.no_symbol w.tokens h ∙ ap (λ y. resume (λ x. behind_unit (have_unit h (Value (Lone w.literal))) x) rest y) (sym p);
}

pub no_word : {A : Type 0} {ts rest : List Terminal} {x : Terminal} → ts ≡ x ∷ rest → begins_word x ≡ true → LacksWord ts → A
no_word {A} {ts} {rest} {x} e b l = at x b (subst LacksWord e l)
  where
    at : (x : Terminal) → begins_word x ≡ true → LacksWord (x ∷ rest) → A
    at (t.Number n) b l = absurd l
    at (t.Text text) b l = absurd l
    at t.Minus b l = absurd l
    at x b l = cc

pub unit_symbol : {ts rest : List Terminal} {d : ℕ} {g g' : Counted} {name v : List ℕ} → g' ≡ with_part g → Fine (with_part g) → ts ≡ t.Name name ∷ rest → Lacks sign.Open rest → v ≡ name
    → Read unit_level unit_value ts d g g' (plain.Value (pat.Sym v)) rest
unit_symbol {ts} {rest} {d} {g} {g'} {name} {v} p f e l s = record {
  tree = Value (Lone (Symbol name));
  says = λ names q. ap (λ z. plain.Value (pat.Sym z)) (sym s);
  grows = subst (λ y. Extends g.names y.names) (sym p) (extends_refl g.names);
  fine = subst Fine (sym p) f;
  shorter = omega (arith, ap length e);
  counts = λ more. ap (λ y. count_all y more) (sym p);
  runs = λ h q.
      run_on g (WantUnit h) Single (UnitName h name) e refl (single (with_part g) f)
      ∙ ap (λ y. run rest y (UnitName h name)) (sym p) ∙ name_unit_resumes h name rest g' l;
}

compound_begins : {ts r1 r2 : List Terminal} (g : Counted) {g1 : Counted} {name : List ℕ} → g1 ≡ with_part g → Fine (with_part g) → ts ≡ t.Name name ∷ r1 → r1 ≡ t.Open ∷ r2 → (h : ProductHead)
    → run ts g (WantUnit h) ≡ run r2 g1 (InOperand (WantTerm (Outside (h, name)) Start))
compound_begins {ts} {r1} {r2} g {g1} {name} p f e1 e2 h =
    run_on g (WantUnit h) Single (UnitName h name) e1 refl (single (with_part g) f)
    ∙ run_on (with_part g) (UnitName h name) (Deepens 2) (InOperand (WantTerm (Outside (h, name)) Start)) e2 refl (by_role_alone (with_part g) (Deepens 2) f)
    ∙ ap (λ y. run r2 y (InOperand (WantTerm (Outside (h, name)) Start))) (sym p)

pub unit_compound : {ts r1 r2 rest : List Terminal} {d : ℕ} {g g1 g' : Counted} {name v : List ℕ} {vs : List Pat} → g1 ≡ with_part g → Fine (with_part g) → ts ≡ t.Name name ∷ r1 → r1 ≡ t.Open ∷ r2
    → ListRead Operand r2 2 g1 g' vs rest → v ≡ name → Read unit_level unit_value ts d g g' (plain.Value (pat.Comp v vs)) rest
unit_compound {ts} {r1} {r2} {rest} {d} {g} {g1} {g'} {name} {v} {vs} p f e1 e2 l s = record {
  tree = Value (Compound name l.read.tree);
  says = λ names q. ap (λ n. plain.Value (pat.Comp n (terms_of Operand names l.read.tree))) (sym s) ∙ ap (λ z. plain.Value (pat.Comp v z)) (l.read.says names q);
  grows = subst (λ y. Extends y.names g'.names) p l.read.grows;
  fine = l.read.fine;
  shorter = omega (arith, ap length e1, ap length e2, l.read.shorter, ap length l.close);
  counts = λ more. ap (λ y. count_all y (arguments t.Var 2 l.read.tree ((Quiet, t.Close) ∷ more))) (sym p) ∙ l.read.counts ((Quiet, t.Close) ∷ more);
  runs = λ h q.
      compound_begins g p f e1 e2 h
      ∙ l.read.runs (Outside (h, name)) refl
      ∙ resume_on g' (λ x. in_operand (behind_terms (Outside (h, name)) l.read.tree x)) Quiet (have_unit h (Value (Compound name l.read.tree))) l.close refl (quiet g' l.read.fine)
      ∙ unit_resumes h (Value (Compound name l.read.tree)) rest g';
}

-- Conditions in brackets.

pub group_begins : {ts r1 : List Terminal} {d : ℕ} {g : Counted} → Fine g → d + 1 ≤ 32 → ts ≡ t.Open ∷ r1 → (h : ProductHead) → product_depth h ≡ d
    → run ts g (WantUnit h) ≡ run r1 g (WantNegation (first_all (InGroup h)))
group_begins {ts} {r1} {d} {g} f n e h q =
    run_on g (WantUnit h) (Nests (product_depth h + 1)) (WantNegation (first_all (InGroup h))) e refl
    (fits g (Nests (product_depth h + 1)) which.Depth 32 (product_depth h + 1) f refl (omega arith))

pub unit_grouped : {ts r1 r2 rest : List Terminal} {d : ℕ} {g g' : Counted} {v : PlainCond} → Fine g → d + 1 ≤ 32 → ts ≡ t.Open ∷ r1 → Read condition_level condition_value r1 (d + 1) g g' v r2 → r2 ≡ t.Close ∷ rest
    → Read unit_level unit_value ts d g g' v rest
unit_grouped {ts} {r1} {r2} {rest} {d} {g} {g'} {v} f n e c l = record {
  tree = Grouped c.tree;
  says = c.says;
  grows = c.grows;
  fine = c.fine;
  shorter = omega (arith, ap length e, c.shorter, ap length l);
  counts = λ more. c.counts ((Quiet, t.Close) ∷ more);
  runs = λ h q.
      group_begins f n e h q
      ∙ c.runs (InGroup h) (ap (λ m. m + 1) q)
      ∙ resume_on g' (behind_condition (InGroup h) c.tree) Quiet (have_unit h (Grouped c.tree)) l refl (quiet g' c.fine)
      ∙ unit_resumes h (Grouped c.tree) rest g';
}

-- Products.

pub product_one : {ts rest : List Terminal} {d : ℕ} {g g' : Counted} {v : PlainCond} → Read unit_level unit_value ts d g g' v rest → Read product_level product_value ts d g g' v rest
product_one u = alone OneUnit u (λ names. refl) (λ more. refl) (λ h q. u.runs (FirstUnit h) q)

pub product_more : {ts r1 r2 rest : List Terminal} {d : ℕ} {g g1 g2 g' : Counted} {u v w : PlainCond} (op : Scaling) → Read product_level product_value ts d g g1 u r1 → r1 ≡ scaling op ∷ r2 → g2 ≡ with_part g1 → Fine (with_part g1)
    → Read unit_level unit_value r2 d g2 g' v rest → w ≡ plain.Calculate (scaling_value op) u v → Read product_level product_value ts d g g' w rest
product_more {g1 = g1} op a e p f b s =
    linked (scaling_link op) (λ l r. MoreUnit l op r) a e (scaling_counts g1 op) p f b (λ names m n. cc) (λ more. refl) (λ h. refl)

-- Sums.

product_over : (h : SumHead) (p : Product) (rest : List Terminal) (g : Counted) → LacksScaling rest → resume (behind_product h p) rest g ≡ resume (behind_all_products (over_product h p)) rest g
product_over h p [] g l = refl
product_over h p (t.Star ∷ xs) g l = absurd l
product_over h p (t.Slash ∷ xs) g l = absurd l
product_over h p (t.Percent ∷ xs) g l = absurd l
product_over h p (x ∷ xs) g l = refl

pub sum_one : {ts rest : List Terminal} {d : ℕ} {g g' : Counted} {v : PlainCond} → Read product_level product_value ts d g g' v rest → LacksScaling rest → Read sum_level sum_value ts d g g' v rest
sum_one {rest = rest} {g' = g'} p l =
    alone OneProduct p (λ names. refl) (λ more. refl) (λ c q. p.runs (FirstProduct c) q ∙ product_over (FirstProduct c) p.tree rest g' l)

pub sum_more : {ts r1 r2 rest : List Terminal} {d : ℕ} {g g1 g2 g' : Counted} {u v w : PlainCond} (op : Adding) → Read sum_level sum_value ts d g g1 u r1 → r1 ≡ adding op ∷ r2 → g2 ≡ with_part g1 → Fine (with_part g1)
    → Read product_level product_value r2 d g2 g' v rest → LacksScaling rest → w ≡ plain.Calculate (adding_value op) u v → Read sum_level sum_value ts d g g' w rest
sum_more {rest = rest} {g1 = g1} {g' = g'} op a e p f b l s =
    linked (adding_link op) (λ l r. MoreProduct l op r) a e (adding_counts g1 op) p f b (λ names m n. cc) (λ more. refl)
    (λ c. product_over (NextProduct c a.tree op) b.tree rest g' l)

-- Comparisons.

sum_over : (n : NotHead) (s : Sum) (rest : List Terminal) (g : Counted) → LacksAdding rest → LacksCompare rest → resume (behind_all_products (FirstSum n, s)) rest g ≡ resume (behind_comparison n (OneSum s)) rest g
sum_over n s [] g a b = refl
sum_over n s (t.Plus ∷ xs) g a b = absurd a
sum_over n s (t.Minus ∷ xs) g a b = absurd a
sum_over n s (t.Compare cmp ∷ xs) g a b = absurd b
sum_over n s (x ∷ xs) g a b = refl

second_over : (n : NotHead) (l : Sum) (cmp : Cmp) (s : Sum) (rest : List Terminal) (g : Counted) → LacksAdding rest → resume (behind_all_products (SecondSum n l cmp, s)) rest g ≡ resume (behind_comparison n (TwoSums l cmp s)) rest g
second_over n l cmp s [] g a = refl
second_over n l cmp s (t.Plus ∷ xs) g a = absurd a
second_over n l cmp s (t.Minus ∷ xs) g a = absurd a
second_over n l cmp s (x ∷ xs) g a = refl

pub comparison_one : {ts rest : List Terminal} {d : ℕ} {g g' : Counted} {v : PlainCond} → Read sum_level sum_value ts d g g' v rest → LacksAdding rest → LacksCompare rest → Read comparison_level comparison_value ts d g g' v rest
comparison_one {rest = rest} {g' = g'} s a b =
    alone OneSum s (λ names. refl) (λ more. refl) (λ n q. s.runs (FirstSum n) q ∙ sum_over n s.tree rest g' a b)

compare_begins : {ts r1 r2 : List Terminal} {d : ℕ} {g g1 : Counted} {u : PlainCond} (cmp : Cmp) → (a : Read sum_level sum_value ts d g g1 u r1) → r1 ≡ t.Compare cmp ∷ r2 → Fine (with_part g1)
    → (n : NotHead) → not_depth n ≡ d → run ts g (WantUnit (first_unit (FirstSum n))) ≡ run r2 (with_part g1) (WantUnit (first_unit (SecondSum n a.tree cmp)))
compare_begins {g1 = g1} cmp a e f n q =
    a.runs (FirstSum n) q
    ∙ resume_on g1 (behind_all_products (FirstSum n, a.tree)) Binary (WantUnit (first_unit (SecondSum n a.tree cmp))) e refl (by_role_alone (with_part g1) Binary f)

pub comparison_two : {ts r1 r2 rest : List Terminal} {d : ℕ} {g g1 g2 g' : Counted} {u v w : PlainCond} {cmp : Cmp} → Read sum_level sum_value ts d g g1 u r1 → r1 ≡ t.Compare cmp ∷ r2 → g2 ≡ with_part g1 → Fine (with_part g1)
    → Read sum_level sum_value r2 d g2 g' v rest → LacksAdding rest → w ≡ plain.Compare cmp u v → Read comparison_level comparison_value ts d g g' w rest
comparison_two {ts} {r1} {r2} {rest} {d} {g} {g1} {g2} {g'} {u} {v} {w} {cmp} a e p f b0 l s =
    let b : Read sum_level sum_value r2 d (with_part g1) g' v rest = subst (λ y. Read sum_level sum_value r2 d y g' v rest) p b0 in
    record {
      tree = TwoSums a.tree cmp b.tree;
      says = λ names q. cc (earlier a b names q, b.says names q, s);
      grows = extends_trans a.grows b.grows;
      fine = b.fine;
      shorter = omega (arith, a.shorter, ap length e, b.shorter);
      counts = λ more. a.counts ((Binary, t.Compare cmp) ∷ sum d b.tree more) ∙ b.counts more;
      runs = λ n q. compare_begins cmp a e f n q ∙ b.runs (SecondSum n a.tree cmp) q ∙ second_over n a.tree cmp b.tree rest g' l;
    }

-- Negations.

negation_enters : (n : NotHead) (ts : List Terminal) (g : Counted) → Lacks sign.Bang ts → run ts g (WantNegation n) ≡ run ts g (WantUnit (first_unit (FirstSum n)))
negation_enters n [] g l = refl
negation_enters n (t.Bang ∷ xs) g l = absurd (l refl)
negation_enters n (x ∷ xs) g l = refl

pub negation_compared : {ts rest : List Terminal} {d : ℕ} {g g' : Counted} {v : PlainCond} → Lacks sign.Bang ts → Read comparison_level comparison_value ts d g g' v rest → Read negation_level negation_value ts d g g' v rest
negation_compared {ts} {rest} {d} {g} l c = alone Compared c (λ names. refl) (λ more. refl) (λ n q. negation_enters n ts g l ∙ c.runs n q)

pub negation_compared_answer : {R : Type 0} (plain' : R → PlainCond) (ts : List Terminal) (d : ℕ) (g g' : Counted) (r : Result (R × Bor (List Terminal)) Stop) → Lacks sign.Bang ts → Answer comparison_level comparison_value plain' ts d g g' r → Answer negation_level negation_value plain' ts d g g' r
negation_compared_answer plain' ts d g g' (Ok x) l a = negation_compared l a
negation_compared_answer plain' ts d g g' (Err e) l a = λ n q. fails_along e (negation_enters n ts g l) (a n q)

bang_begins : {ts r1 : List Terminal} (g : Counted) → ts ≡ t.Bang ∷ r1 → Fine (with_part g) → (n : NotHead) → run ts g (WantNegation n) ≡ run r1 (with_part g) (WantNegation (Bang n))
bang_begins g e f n = run_on g (WantNegation n) Single (WantNegation (Bang n)) e refl (single (with_part g) f)

pub negation_more : {ts r1 rest : List Terminal} {d : ℕ} {g g1 g' : Counted} {v w : PlainCond} → ts ≡ t.Bang ∷ r1 → g1 ≡ with_part g → Fine (with_part g) → Read negation_level negation_value r1 d g1 g' v rest → w ≡ plain.Negate v
    → Read negation_level negation_value ts d g g' w rest
negation_more {ts} {r1} {rest} {d} {g} {g1} {g'} e p f n s = record {
  tree = Negated n.tree;
  says = λ names q. ap plain.Negate (n.says names q) ∙ sym s;
  grows = subst (λ y. Extends y.names g'.names) p n.grows;
  fine = n.fine;
  shorter = omega (arith, ap length e, n.shorter);
  counts = λ more. ap (λ y. count_all y (negation d n.tree more)) (sym p) ∙ n.counts more;
  runs = λ h q. bang_begins g e f h ∙ ap (λ y. run r1 y (WantNegation (Bang h))) (sym p) ∙ n.runs (Bang h) q;
}

-- Conjunctions and conditions.

pub all_one : {ts rest : List Terminal} {d : ℕ} {g g' : Counted} {v : PlainCond} → Read negation_level negation_value ts d g g' v rest → Read all_level all_value ts d g g' v rest
all_one n = alone OneNegation n (λ names. refl) (λ more. refl) (λ o q. n.runs (NoBang (FirstNegation o)) q)

pub all_more : {ts r1 r2 rest : List Terminal} {d : ℕ} {g g1 g2 g' : Counted} {u v w : PlainCond} → Read all_level all_value ts d g g1 u r1 → r1 ≡ t.Both ∷ r2 → g2 ≡ with_part g1 → Fine (with_part g1)
    → Read negation_level negation_value r2 d g2 g' v rest → w ≡ plain.AndAlso u v → Read all_level all_value ts d g g' w rest
all_more a e p f b s = linked both_link MoreNegation a e refl p f b (λ names m n. cc) (λ more. refl) (λ o. refl)

all_over : (o : OrHead) (a : All) (rest : List Terminal) (g : Counted) → Lacks sign.Both rest → resume (behind_all o a) rest g ≡ resume (behind_condition (over_condition o a).0 (over_condition o a).1) rest g
all_over o a [] g l = refl
all_over o a (t.Both ∷ xs) g l = absurd (l refl)
all_over o a (x ∷ xs) g l = refl

pub condition_one : {ts rest : List Terminal} {d : ℕ} {g g' : Counted} {v : PlainCond} → Read all_level all_value ts d g g' v rest → Lacks sign.Both rest → Read condition_level condition_value ts d g g' v rest
condition_one {rest = rest} {g' = g'} a l =
    alone OneAll a (λ names. refl) (λ more. refl) (λ w q. a.runs (FirstAll w) q ∙ all_over (FirstAll w) a.tree rest g' l)

pub condition_more : {ts r1 r2 rest : List Terminal} {d : ℕ} {g g1 g2 g' : Counted} {u v w : PlainCond} → Read condition_level condition_value ts d g g1 u r1 → r1 ≡ t.Either ∷ r2 → g2 ≡ with_part g1 → Fine (with_part g1)
    → Read all_level all_value r2 d g2 g' v rest → Lacks sign.Both rest → w ≡ plain.OrElse u v → Read condition_level condition_value ts d g g' w rest
condition_more {rest = rest} {g' = g'} a e p f b l s =
    linked either_link MoreAll a e refl p f b (λ names m n. cc) (λ more. refl) (λ w. all_over (NextAll w a.tree) b.tree rest g' l)
