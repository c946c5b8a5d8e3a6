-- How runs go on over the tokens of heads and statements.
use Rattle.std.proofs.Common.{◌≡◌, ℕ, ◌+◌, ◌<◌, ◌≤◌, List, [], ◌∷◌, ◌++◌, length, map, None, Err, refl, sym, ap, ◌∙◌, arith, subst, length-append}
use Rattle.std.proofs.lemmas.List.{map-append}
use Rattle.event_model.specs.declared.atoms.PatAtom.{PatAtom}
use Rattle.event_model.specs.declared.atoms.NameArity.{NameArity}
use Rattle.rule_ast.specs.Trees as plain
use Rattle.rule_ast.specs.Trees.{PlainPattern, PlainRule, PlainStatement}
use Rattle.rule_ast.specs.declared.statements.Statement as declared
use Rattle.rule_ast.specs.Plain.{plain_statement}
use Rattle.event_model.specs.declared.terms.Pat.{Pat}
use Rattle.event_model.specs.declared.terms.Pat.TheVariants as pat
use Rattle.rule_lexer.specs.declared.terminals.Terminal.{Terminal}
use Rattle.rule_lexer.specs.declared.terminals.Terminal.TheVariants as t
use Rattle.rule_grammar.specs.declared.faults.Which.TheVariants as which
use Rattle.rule_grammar.specs.declared.faults.Fault.TheVariants as fault
use Rattle.rule_grammar.specs.Trees.{Literal, Literal.Digits, Literal.Minus, Literal.Least, Literal.Symbol, Literal.Quoted, Term.Lone, Term.Compound}
use Rattle.rule_grammar.specs.Trees.{HeadTerm.Leading, HeadTerm.Fixed, HeadTerms, HeadTerms.FirstTerm, HeadTerms.NextTerm, Heading, Heading.Plainly, Heading.Applied}
use Rattle.rule_grammar.specs.Trees.{Items.OneItem, Items.MoreItem, Statement.Clause, Statement.Shown, Statements, Statements.Empty, Statements.Then}
use Rattle.rule_grammar.specs.Marks.{Counted, nothing_counted, count_all, passed}
use Rattle.rule_grammar.specs.Marks.{Role.Quiet, Role.Starts, Role.Deepens, Role.Counts, Role.Lists, Role.HasArity}
use Rattle.rule_grammar.specs.Tokens.{head_terms, statement, number_of, count_of_terms, tree, head_term}
use Rattle.rule_grammar.specs.Lists.{Before.Start, Nest.Outside, ListState.WantTerm, behind_terms}
use Rattle.rule_grammar.specs.Machine.{ChainHead.FirstPart, TermsHead, TermsHead.FirstOfHead, TermsHead.NextOfHead, ItemsHead, ItemsHead.FirstShown, ItemsHead.NextShown, put_item, put_head, Stack.Body}
use Rattle.rule_grammar.specs.Machine.{State.Between, State.HeadName, State.WantHeadTerm, State.HeadMinus, State.HeadWord, State.HaveHeadTerms, State.InHead, State.HaveHead, State.WantItem, State.ItemName, State.ItemSlash, State.HaveItems, State.WantPart}
use Rattle.rule_grammar.specs.Machine.{behind, in_head, behind_head_terms, run}
use Rattle.rule_parser.specs.declared.faults.Stop.{Stop}
use Rattle.rule_parser.specs.declared.signs.Sign.TheVariants as sign
use Rattle.rule_parser.specs.declared.terms.Kind.TheVariants.{Ground}
use Rattle.rule_parser.specs.Signs.{Lacks}
use Rattle.rule_parser.specs.Steps.{Fine, with_variable, Extends, Fails, resume, Read, terms_of, ListRead, word_tokens, IsNoSymbol, WordRead}
use Rattle.rule_grammar.specs.Values.{slot_of, head_term_value, head_terms_value, tree_value, heading_value, names_of, statement_value}
use Rattle.rule_parser.proofs.Names.{extends_refl, extends_trans, extends_name}
use Rattle.rule_parser.specs.Steps.{tree_level, head_term_level, head_terms_level, HeadListRead, HeadRead, StatementRead, ItemRead, ItemsRead, NextRead, FileRead, named_state, shown_state}
use Rattle.rule_parser.proofs.TermRuns.{run_on, resume_on, resume_off, by_role_alone, quiet, fits, exceeds, fails_along, word_shorter, word_counts}

-- Terms of heads.

head_resumes : (ss : Statements) (name : List ℕ) (as' : HeadTerms) (rest : List Terminal) (g : Counted) → run rest g (HaveHeadTerms ss name as') ≡ resume (behind_head_terms ss name as') rest g
head_resumes ss name as' [] g = refl
head_resumes ss name as' (x ∷ xs) g = refl

word_head_resumes : (ss : Statements) (name : List ℕ) (h : TermsHead) (w : List ℕ) (rest : List Terminal) (g : Counted) → Lacks sign.Open rest
    → run rest g (HeadWord ss name h w) ≡ resume (behind_head_terms ss name (put_head h (Fixed (Lone (Symbol w))))) rest g
word_head_resumes ss name h w [] g l = refl
word_head_resumes ss name h w (t.Open ∷ xs) g l = absurd (l refl)
word_head_resumes ss name h w (x ∷ xs) g l = refl

word_head_runs : (l : Literal) (ts rest : List Terminal) (g : Counted) → Fine g → IsNoSymbol l → ts ≡ word_tokens l rest → (ss : Statements) (name : List ℕ) (h : TermsHead)
    → run ts g (WantHeadTerm ss name h) ≡ resume (behind_head_terms ss name (put_head h (Fixed (Lone l)))) rest g
word_head_runs (Digits m) ts rest g f n e ss name h = run_on g (WantHeadTerm ss name h) Quiet (HaveHeadTerms ss name (put_head h (Fixed (Lone (Digits m))))) e refl (quiet g f) ∙ head_resumes ss name _ rest g
word_head_runs (Minus m) ts rest g f n e ss name h =
    run_on g (WantHeadTerm ss name h) Quiet (HeadMinus ss name h) e refl (quiet g f)
    ∙ run_on {xs = rest} {x = t.Number m} g (HeadMinus ss name h) Quiet (HaveHeadTerms ss name (put_head h (Fixed (Lone (Minus m))))) refl refl (quiet g f) ∙ head_resumes ss name _ rest g
word_head_runs Least ts rest g f n e ss name h =
    run_on g (WantHeadTerm ss name h) Quiet (HeadMinus ss name h) e refl (quiet g f)
    ∙ run_on {xs = rest} {x = t.Huge} g (HeadMinus ss name h) Quiet (HaveHeadTerms ss name (put_head h (Fixed (Lone Least)))) refl refl (quiet g f) ∙ head_resumes ss name _ rest g
word_head_runs (Symbol w) ts rest g f n e ss name h = absurd n
word_head_runs (Quoted text) ts rest g f n e ss name h = run_on g (WantHeadTerm ss name h) Quiet (HaveHeadTerms ss name (put_head h (Fixed (Lone (Quoted text))))) e refl (quiet g f) ∙ head_resumes ss name _ rest g

pub head_word : {ts rest : List Terminal} {g : Counted} {v : Pat} → Fine g → WordRead ts v rest → Read head_term_level head_term_value ts 0 g g v rest
head_word {ts} {rest} {g} f w = record {
  tree = Fixed (Lone w.literal);
  says = λ names q. w.says;
  grows = extends_refl g.names;
  fine = f;
  shorter = word_shorter w.literal ts rest w.tokens;
  counts = word_counts w.literal g;
  runs = λ c q. word_head_runs w.literal ts rest g f w.no_symbol w.tokens c.0 c.1 c.2;
}

pub head_variable : {ts rest : List Terminal} {x : Terminal} {g g' : Counted} {name : List ℕ} {slot : ℕ} → ts ≡ x ∷ rest → x ≡ t.Var name → g' ≡ with_variable g name → Fine (with_variable g name)
    → ((names : List (List ℕ)) → Extends g'.names names → slot_of names name ≡ slot) → Read head_term_level head_term_value ts 0 g g' (pat.Var slot) rest
head_variable {ts} {rest} {x} {g} {g'} {name} {slot} e0 v q f s =
    let e : ts ≡ t.Var name ∷ rest = e0 ∙ ap (λ y. y ∷ rest) v in
    record {
      tree = Leading name;
      says = λ names h. ap pat.Var (s names h);
      grows = subst (λ y. Extends g.names y.names) (sym q) (extends_name g.names name);
      fine = subst Fine (sym q) f;
      shorter = omega (arith, ap length e);
      counts = λ more. ap (λ y. count_all y more) (sym q);
      runs = λ c r.
          run_on g (WantHeadTerm c.0 c.1 c.2) Quiet (HaveHeadTerms c.0 c.1 (put_head c.2 (Leading name))) e refl (quiet (with_variable g name) f)
          ∙ ap (λ y. run rest y (HaveHeadTerms c.0 c.1 (put_head c.2 (Leading name)))) (sym q) ∙ head_resumes c.0 c.1 _ rest g';
    }

pub head_symbol : {ts rest : List Terminal} {g : Counted} {w v : List ℕ} → Fine g → ts ≡ t.Name w ∷ rest → Lacks sign.Open rest → v ≡ w → Read head_term_level head_term_value ts 0 g g (pat.Sym v) rest
head_symbol {ts} {rest} {g} {w} {v} f e l s = record {
  tree = Fixed (Lone (Symbol w));
  says = λ names q. ap pat.Sym (sym s);
  grows = extends_refl g.names;
  fine = f;
  shorter = omega (arith, ap length e);
  counts = λ more. refl;
  runs = λ c q. run_on g (WantHeadTerm c.0 c.1 c.2) Quiet (HeadWord c.0 c.1 c.2 w) e refl (quiet g f) ∙ word_head_resumes c.0 c.1 c.2 w rest g l;
}

pub head_compound : {ts r1 r2 rest : List Terminal} {g g' : Counted} {w v : List ℕ} {vs : List Pat} → Fine g → ts ≡ t.Name w ∷ r1 → r1 ≡ t.Open ∷ r2 → ListRead Ground r2 2 g g' vs rest → v ≡ w
    → Read head_term_level head_term_value ts 0 g g' (pat.Comp v vs) rest
head_compound {ts} {r1} {r2} {rest} {g} {g'} {w} {v} {vs} f e1 e2 l s = record {
  tree = Fixed (Compound w l.read.tree);
  says = λ names q. ap (λ n. pat.Comp n (terms_of Ground names l.read.tree)) (sym s) ∙ ap (pat.Comp v) (l.read.says names q);
  grows = l.read.grows;
  fine = l.read.fine;
  shorter = omega (arith, ap length e1, ap length e2, l.read.shorter, ap length l.close);
  counts = λ more. l.read.counts ((Quiet, t.Close) ∷ more);
  runs = λ c q.
      run_on g (WantHeadTerm c.0 c.1 c.2) Quiet (HeadWord c.0 c.1 c.2 w) e1 refl (quiet g f)
      ∙ run_on g (HeadWord c.0 c.1 c.2 w) (Deepens 2) (InHead (WantTerm (Outside (c.0, c.1, c.2, w)) Start)) e2 refl (by_role_alone g (Deepens 2) f)
      ∙ l.read.runs (Outside (c.0, c.1, c.2, w)) refl
      ∙ resume_on g' (λ x. in_head (behind_terms (Outside (c.0, c.1, c.2, w)) l.read.tree x)) Quiet (HaveHeadTerms c.0 c.1 (put_head c.2 (Fixed (Compound w l.read.tree)))) l.close refl (quiet g' l.read.fine)
      ∙ head_resumes c.0 c.1 _ rest g';
}

pub heads_one : {ts rest : List Terminal} {g g' : Counted} {v : Pat} {vs : List Pat} → Read head_term_level head_term_value ts 0 g g' v rest → vs ≡ v ∷ [] → Read head_terms_level head_terms_value ts 0 g g' vs rest
heads_one a e = record {
  tree = FirstTerm a.tree;
  says = λ names q. ap (λ x. x ∷ []) (a.says names q) ∙ sym e;
  grows = a.grows;
  fine = a.fine;
  shorter = a.shorter;
  counts = a.counts;
  runs = λ c q. a.runs (c.0, c.1, FirstOfHead) q;
}

length_heads : (names : List (List ℕ)) (as' : HeadTerms) → length (head_terms_value names as') ≡ count_of_terms as'
length_heads names (FirstTerm a) = refl
length_heads names (NextTerm as' a) = length-append (head_terms_value names as') (head_term_value names a ∷ []) ∙ ap (λ n. n + 1) (length_heads names as')

counted_heads : {ts rest : List Terminal} {g g' : Counted} {vs : List Pat} (a : Read head_terms_level head_terms_value ts 0 g g' vs rest) → count_of_terms a.tree ≡ length vs
counted_heads {g' = g'} a = sym (length_heads g'.names a.tree) ∙ ap length (a.says g'.names (extends_refl g'.names))

heads_comma : {ts r1 r2 : List Terminal} {g g1 : Counted} {vs : List Pat} (a : Read head_terms_level head_terms_value ts 0 g g1 vs r1) → length vs < 16 → r1 ≡ t.Comma ∷ r2 → (c : Statements × List ℕ)
    → run ts g (WantHeadTerm c.0 c.1 FirstOfHead) ≡ run r2 g1 (WantHeadTerm c.0 c.1 (NextOfHead a.tree))
heads_comma {g1 = g1} a h e c =
    a.runs c refl
    ∙ resume_on g1 (behind_head_terms c.0 c.1 a.tree) (Counts (count_of_terms a.tree + 1)) (WantHeadTerm c.0 c.1 (NextOfHead a.tree)) e refl
    (fits g1 (Counts (count_of_terms a.tree + 1)) which.TermWidth 16 (count_of_terms a.tree + 1) a.fine refl (let n = counted_heads a in omega arith))

pub heads_more : {ts r1 r2 rest : List Terminal} {g g1 g' : Counted} {vs ws : List Pat} {v : Pat} → (a : Read head_terms_level head_terms_value ts 0 g g1 vs r1) → length vs < 16 → r1 ≡ t.Comma ∷ r2
    → Read head_term_level head_term_value r2 0 g1 g' v rest → ws ≡ vs ++ v ∷ [] → Read head_terms_level head_terms_value ts 0 g g' ws rest
heads_more {ts} {r1} {r2} {rest} {g} {g1} {g'} {vs} {ws} {v} a h e b s = record {
  tree = NextTerm a.tree b.tree;
  says = λ names q. ap (λ l. l ++ head_term_value names b.tree ∷ []) (a.says names (extends_trans b.grows q)) ∙ ap (λ x. vs ++ x ∷ []) (b.says names q) ∙ sym s;
  grows = extends_trans a.grows b.grows;
  fine = b.fine;
  shorter = omega (arith, a.shorter, ap length e, b.shorter);
  counts = λ more. a.counts ((Counts (count_of_terms a.tree + 1), t.Comma) ∷ head_term b.tree more) ∙ b.counts more;
  runs = λ c q. heads_comma a h e c ∙ b.runs (c.0, c.1, NextOfHead a.tree) refl;
}

pub heads_fail : {ts r1 r2 : List Terminal} {g g1 : Counted} {vs : List Pat} (err : Stop) → (a : Read head_terms_level head_terms_value ts 0 g g1 vs r1) → length vs < 16 → r1 ≡ t.Comma ∷ r2
    → ((c : Statements × List ℕ × TermsHead) → Fails err (run r2 g1 (WantHeadTerm c.0 c.1 c.2)))
    → (c : Statements × List ℕ) → Fails err (run ts g (WantHeadTerm c.0 c.1 FirstOfHead))
heads_fail err a h e fails c = fails_along err (heads_comma a h e c) (fails (c.0, c.1, NextOfHead a.tree))

pub heads_wide : {ts r1 r2 : List Terminal} {g g1 : Counted} {vs : List Pat} → (a : Read head_terms_level head_terms_value ts 0 g g1 vs r1) → 16 ≤ length vs → r1 ≡ t.Comma ∷ r2
    → (c : Statements × List ℕ) → run ts g (WantHeadTerm c.0 c.1 FirstOfHead) ≡ Err (fault.Limit which.TermWidth (length r1))
heads_wide {g1 = g1} a h e c =
    a.runs c refl
    ∙ resume_off g1 (behind_head_terms c.0 c.1 a.tree) (Counts (count_of_terms a.tree + 1)) (WantHeadTerm c.0 c.1 (NextOfHead a.tree)) which.TermWidth e refl
    (exceeds g1 (Counts (count_of_terms a.tree + 1)) which.TermWidth 16 (count_of_terms a.tree + 1) a.fine refl (let n = counted_heads a in omega arith))

-- Heads, from behind their name to behind their arrow.

pub nothing_fine : Fine nothing_counted
nothing_fine = record { parts = omega arith; names = omega arith }

pub head_plain : {ts rest : List Terminal} {g : Counted} {name v : List ℕ} {vs : List Pat} → g ≡ nothing_counted → ts ≡ t.Arrow ∷ rest → v ≡ name → vs ≡ [] → HeadRead name ts g (record { name = v; args = vs }) rest
head_plain {ts} {rest} {g} {name} {v} {vs} z e s n = record {
  head = Plainly name;
  says = λ names q. cc (s, n);
  fine = subst Fine (sym z) nothing_fine;
  shorter = omega (arith, ap length e);
  counts = λ g0 k more. ap (λ y. count_all y more) (sym z);
  runs = λ ss. run_on nothing_counted (HeadName ss name) Quiet (WantPart FirstPart (Body ss (Plainly name))) e refl (quiet nothing_counted nothing_fine) ∙ ap (λ y. run rest y (WantPart FirstPart (Body ss (Plainly name)))) (sym z);
}

head_opens : {ts r1 : List Terminal} (name : List ℕ) → ts ≡ t.Open ∷ r1 → (ss : Statements) → run ts nothing_counted (HeadName ss name) ≡ run r1 nothing_counted (WantHeadTerm ss name FirstOfHead)
head_opens {ts} {r1} name e ss = run_on nothing_counted (HeadName ss name) Quiet (WantHeadTerm ss name FirstOfHead) e refl (quiet nothing_counted nothing_fine)

pub head_applied : {ts r1 r2 rest : List Terminal} {g0 g : Counted} {name v : List ℕ} {vs ws : List Pat} → g0 ≡ nothing_counted → ts ≡ t.Open ∷ r1 → HeadListRead r1 g0 g vs r2 → r2 ≡ t.Arrow ∷ rest → v ≡ name → ws ≡ vs
    → HeadRead name ts g (record { name = v; args = ws }) rest
head_applied {ts} {r1} {r2} {rest} {g0} {g} {name} {v} {vs} {ws} z e l a s n = record {
  head = Applied name l.read.tree;
  says = λ names q. cc (l.read.says names q, s, n);
  fine = l.read.fine;
  shorter = omega (arith, ap length e, l.read.shorter, ap length l.close, ap length a);
  counts = λ g1 k more. ap (λ y. count_all y (head_terms l.read.tree ((Quiet, t.Close) ∷ (Quiet, t.Arrow) ∷ more))) (sym z) ∙ l.read.counts ((Quiet, t.Close) ∷ (Quiet, t.Arrow) ∷ more);
  runs = λ ss.
      head_opens name e ss ∙ ap (λ y. run r1 y (WantHeadTerm ss name FirstOfHead)) (sym z)
      ∙ l.read.runs (ss, name) refl
      ∙ resume_on g (behind_head_terms ss name l.read.tree) Quiet (HaveHead ss (Applied name l.read.tree)) l.close refl (quiet g l.read.fine)
      ∙ run_on g (HaveHead ss (Applied name l.read.tree)) Quiet (WantPart FirstPart (Body ss (Applied name l.read.tree))) a refl (quiet g l.read.fine);
}

pub head_fails : {ts r1 : List Terminal} {g0 : Counted} (name : List ℕ) (err : Stop) → g0 ≡ nothing_counted → ts ≡ t.Open ∷ r1 → ((c : Statements × List ℕ) → Fails err (run r1 g0 (WantHeadTerm c.0 c.1 FirstOfHead)))
    → (ss : Statements) → Fails err (run ts nothing_counted (HeadName ss name))
head_fails {r1 = r1} name err z e fails ss = fails_along err (head_opens name e ss ∙ ap (λ y. run r1 y (WantHeadTerm ss name FirstOfHead)) (sym z)) (fails (ss, name))

have_stuck : (ss : Statements) (h : Heading) (rest : List Terminal) (g : Counted) → Lacks sign.Arrow rest → run rest g (HaveHead ss h) ≡ Err (fault.Syntax (length rest))
have_stuck ss h [] g l = refl
have_stuck ss h (t.Arrow ∷ xs) g l = absurd (l refl)
have_stuck ss h (x ∷ xs) g l = refl

pub head_no_arrow : {ts r1 r2 : List Terminal} {g0 g : Counted} (name : List ℕ) {vs : List Pat} → g0 ≡ nothing_counted → ts ≡ t.Open ∷ r1 → HeadListRead r1 g0 g vs r2 → Lacks sign.Arrow r2
    → (ss : Statements) → run ts nothing_counted (HeadName ss name) ≡ Err (fault.Syntax (length r2))
head_no_arrow {r1 = r1} {r2 = r2} {g = g} name z e l a ss =
    head_opens name e ss ∙ ap (λ y. run r1 y (WantHeadTerm ss name FirstOfHead)) (sym z)
    ∙ l.read.runs (ss, name) refl
    ∙ resume_on g (behind_head_terms ss name l.read.tree) Quiet (HaveHead ss (Applied name l.read.tree)) l.close refl (quiet g l.read.fine)
    ∙ have_stuck ss (Applied name l.read.tree) r2 g a

-- Statements.

pub rule_read : {name : List ℕ} {ts r1 r2 rest : List Terminal} {g1 g2 : Counted} {h : PatAtom} {b : PlainPattern} {vars : List (List ℕ)} → HeadRead name ts g1 h r1 → Read tree_level tree_value r1 0 g1 g2 b r2 → r2 ≡ t.End ∷ rest → vars ≡ g2.names
    → StatementRead (named_state name) ts (plain.Clause (record { head = h; body = b; vars = vars })) rest
rule_read {name} {ts} {r1} {r2} {rest} {g1} {g2} {h} {b} {vars} a p e s =
    let counts : count_all nothing_counted (statement 1 (Clause a.head p.tree) []) ≡ g2 = a.counts nothing_counted 1 (tree 0 p.tree ((Quiet, t.End) ∷ [])) ∙ p.counts ((Quiet, t.End) ∷ []) in
    let names : names_of (Clause a.head p.tree) ≡ g2.names = ap (λ y. y.names) counts in
    let head : heading_value (names_of (Clause a.head p.tree)) a.head ≡ h = ap (λ y. heading_value y a.head) names ∙ a.says g2.names p.grows in
    let body : tree_value (names_of (Clause a.head p.tree)) p.tree ≡ b = ap (λ y. tree_value y p.tree) names ∙ p.says g2.names (extends_refl g2.names) in
    record {
      statement = Clause a.head p.tree;
      after = g2;
      says = cc (head, body, names ∙ sym s);
      shorter = omega (arith, a.shorter, p.shorter, ap length e);
      runs = λ ss.
          a.runs ss ∙ p.runs (Body ss a.head) refl
          ∙ resume_on g2 (behind (Body ss a.head) p.tree) Quiet (Between (Then ss (Clause a.head p.tree))) e refl (quiet g2 p.fine);
    }

item_runs : {ts rest : List Terminal} {v : NameArity} → ItemRead ts v rest → (ss : Statements) (h : ItemsHead) → run ts nothing_counted (WantItem ss h) ≡ run rest nothing_counted (HaveItems ss (put_item h v.name v.arity))
item_runs {ts} {rest} {v} i ss h =
    run_on nothing_counted (WantItem ss h) Quiet (ItemName ss h v.name) i.tokens refl (quiet nothing_counted nothing_fine)
    ∙ run_on {xs = t.Number v.arity ∷ rest} {x = t.Slash} nothing_counted (ItemName ss h v.name) Quiet (ItemSlash ss h v.name) refl refl (quiet nothing_counted nothing_fine)
    ∙ run_on {xs = rest} {x = t.Number v.arity} nothing_counted (ItemSlash ss h v.name) (HasArity v.arity) (HaveItems ss (put_item h v.name v.arity)) refl refl
    (fits nothing_counted (HasArity v.arity) which.TermWidth 16 v.arity nothing_fine refl i.few)

pub items_one : {ts rest : List Terminal} {v : NameArity} {vs : List NameArity} → ItemRead ts v rest → vs ≡ v ∷ [] → ItemsRead ts vs rest
items_one {ts} {rest} {v} i s = record {
  items = OneItem v.name v.arity;
  says = sym s;
  shorter = omega (arith, ap length i.tokens);
  runs = λ ss. item_runs i ss FirstShown;
}

pub items_more : {ts r1 r2 rest : List Terminal} {vs ws : List NameArity} {v : NameArity} → ItemsRead ts vs r1 → r1 ≡ t.Comma ∷ r2 → ItemRead r2 v rest → ws ≡ vs ++ v ∷ [] → ItemsRead ts ws rest
items_more {ts} {r1} {r2} {rest} {vs} {ws} {v} a e i s = record {
  items = MoreItem a.items v.name v.arity;
  says = ap (λ l. l ++ v ∷ []) a.says ∙ sym s;
  shorter = omega (arith, a.shorter, ap length e, ap length i.tokens);
  runs = λ ss.
      a.runs ss ∙ run_on nothing_counted (HaveItems ss a.items) Lists (WantItem ss (NextShown a.items)) e refl (by_role_alone nothing_counted Lists nothing_fine)
      ∙ item_runs i ss (NextShown a.items);
}

pub show_read : {ts r1 rest : List Terminal} {vs : List NameArity} → ItemsRead ts vs r1 → r1 ≡ t.End ∷ rest → StatementRead shown_state ts (plain.Show vs) rest
show_read {ts} {r1} {rest} a e = record {
  statement = Shown a.items;
  after = nothing_counted;
  says = ap plain.Show a.says;
  shorter = omega (arith, a.shorter, ap length e);
  runs = λ ss. a.runs ss ∙ run_on nothing_counted (HaveItems ss a.items) Quiet (Between (Then ss (Shown a.items))) e refl (quiet nothing_counted nothing_fine);
}

-- a statement may begin
begins : (ss : Statements) (n : ℕ) → number_of ss ≡ n → n < 1024 → passed nothing_counted (Starts (number_of ss + 1)) ≡ None
begins ss n e h = fits nothing_counted (Starts (number_of ss + 1)) which.Statements 1024 (number_of ss + 1) nothing_fine refl (omega arith)

-- Files.

pub file_begins : (ts : List Terminal) {vs : List declared.Statement} → vs ≡ [] → FileRead ts vs ts
file_begins ts e = record { tree = Empty; after = nothing_counted; says = ap (map plain_statement) (sym e); many = ap length (sym e); runs = refl }

pub file_more : {ts r1 rest : List Terminal} {vs ws : List declared.Statement} (v : declared.Statement) {n : ℕ} → FileRead ts vs r1 → n ≡ length vs → NextRead r1 n (plain_statement v) rest → ws ≡ vs ++ v ∷ [] → FileRead ts ws rest
file_more {ts} {r1} {rest} {vs} {ws} v {n} a m s e = record {
  tree = Then a.tree s.statement;
  after = s.after;
  says = ap (λ l. l ++ statement_value s.statement ∷ []) a.says ∙ ap (λ x. map plain_statement vs ++ x ∷ []) s.says ∙ sym (map-append plain_statement vs (v ∷ [])) ∙ ap (map plain_statement) (sym e);
  many = ap (λ k. k + 1) a.many ∙ sym (length-append vs (v ∷ [])) ∙ ap length (sym e);
  runs = a.runs ∙ s.runs a.tree a.after (a.many ∙ sym m);
}
