-- How runs go on over the tokens of patterns.
use Rattle.std.proofs.Common.{◌≡◌, ℕ, ◌+◌, ◌≤◌, ◌^◌, List, [], ◌∷◌, length, Err, refl, sym, ap, ◌∙◌, arith, subst}
use Rattle.rule_ast.specs.Trees as plain
use Rattle.rule_ast.specs.Trees.{PlainCond, PlainPattern}
use Rattle.rule_grammar.specs.Trees.{Joint, Joint.Joined, Joint.Otherwise}
use Rattle.rule_parser.specs.declared.signs.Bound.{Bound}
use Rattle.rule_parser.specs.declared.signs.Bound.TheVariants as bounds
use Rattle.event_model.specs.declared.terms.Pat.{Pat}
use Rattle.rule_lexer.specs.declared.terminals.Terminal.{Terminal}
use Rattle.rule_lexer.specs.declared.terminals.Terminal.TheVariants as t
use Rattle.rule_grammar.specs.declared.faults.Which.TheVariants as which
use Rattle.rule_grammar.specs.declared.faults.Fault.TheVariants as fault
use Rattle.rule_grammar.specs.Trees.{Condition}
use Rattle.rule_grammar.specs.Trees.{Tree, Tree.Plain, Tree.Filtered, Chain, Chain.One, Chain.More, Part.Bare, Part.Atom, Part.Without, Part.Rounded, Round, Round.Bracketed, Round.Exactly, Round.AtMost}
use Rattle.rule_grammar.specs.Marks.{Marked, Counted, count, count_all}
use Rattle.rule_grammar.specs.Marks.{Role.Quiet, Role.Single, Role.Binary, Role.Nests, Role.Lasts}
use Rattle.rule_grammar.specs.Tokens.{tree, arguments, wanted, joint}
use Rattle.rule_grammar.specs.Lists.{Before.Start, Nest.Outside, ListState.WantTerm, behind_terms}
use Rattle.rule_grammar.specs.Machine.{ChainHead, ChainHead.FirstPart, ChainHead.NextPart, put, Stack, Stack.InRound, Stack.InNot, Stack.InBefore, Stack.InAfter, Where'.InWhere}
use Rattle.rule_grammar.specs.Machine.{State.WantPart, State.AtomName, State.InAtom, State.WantOpen, State.WantLimits, State.HavePart, State.HaveRound, State.WantExact, State.WantMost}
use Rattle.rule_grammar.specs.Machine.{depth, to, behind, behind_chain, behind_condition, in_atom, step, run}
use Rattle.rule_parser.specs.declared.signs.Sign.TheVariants as sign
use Rattle.rule_parser.specs.declared.terms.Kind.TheVariants.{Argument}
use Rattle.rule_parser.specs.Signs.{Lacks, LacksJoint}
use Rattle.rule_parser.specs.Steps.{Fine, with_part, Extends, resume, Read, ListRead}
use Rattle.rule_grammar.specs.Values.{condition_value, joined_value, tree_value, chain_value, part_value, round_value}
use Rattle.rule_parser.proofs.Names.{extends_refl, extends_trans}
use Rattle.rule_parser.specs.Signs.{LacksBound, bound_terminal, bounded_value}
use Rattle.rule_parser.specs.Steps.{Link, LengthRead, part_level, round_level, chain_level, tree_level, condition_level}
use Rattle.rule_parser.proofs.TermRuns.{run_on, resume_on, by_role_alone, quiet, fits, alone}
use Rattle.rule_parser.proofs.CondRuns.{linked}

part_resumes : (c : Chain) (k : Stack) (rest : List Terminal) (g : Counted) → run rest g (HavePart c k) ≡ resume (behind_chain k c) rest g
part_resumes c k [] g = refl
part_resumes c k (x ∷ xs) g = refl

bare_resumes : (h : ChainHead) (k : Stack) (name : List ℕ) (rest : List Terminal) (g : Counted) → Lacks sign.Open rest → run rest g (AtomName h k name) ≡ resume (behind_chain k (put h (Bare name))) rest g
bare_resumes h k name [] g l = refl
bare_resumes h k name (t.Open ∷ xs) g l = absurd (l refl)
bare_resumes h k name (x ∷ xs) g l = refl

round_resumes : (h : ChainHead) (r : Round) (k : Stack) (rest : List Terminal) (g : Counted) → run rest g (HaveRound h r k) ≡ resume (step (HaveRound h r k)) rest g
round_resumes h r k [] g = refl
round_resumes h r k (x ∷ xs) g = refl

round_over : (h : ChainHead) (r : Round) (k : Stack) (rest : List Terminal) (g : Counted) → LacksBound rest → resume (step (HaveRound h r k)) rest g ≡ resume (behind_chain k (put h (Rounded r))) rest g
round_over h r k [] g l = refl
round_over h r k (t.Length ∷ xs) g l = absurd l
round_over h r k (t.Within ∷ xs) g l = absurd l
round_over h r k (x ∷ xs) g l = refl

-- Atoms.

pub part_bare : {ts rest : List Terminal} {d : ℕ} {g g' : Counted} {name v : List ℕ} {vs : List Pat} → g' ≡ with_part g → Fine (with_part g) → ts ≡ t.Name name ∷ rest → Lacks sign.Open rest → v ≡ name → vs ≡ []
    → Read part_level part_value ts d g g' (plain.Atom (record { name = v; args = vs })) rest
part_bare {ts} {rest} {d} {g} {g'} {name} {v} {vs} p f e l s n = record {
  tree = Bare name;
  says = λ names q. cc (s, n);
  grows = subst (λ y. Extends g.names y.names) (sym p) (extends_refl g.names);
  fine = subst Fine (sym p) f;
  shorter = omega (arith, ap length e);
  counts = λ more. ap (λ y. count_all y more) (sym p);
  runs = λ c q.
      run_on g (WantPart c.0 c.1) Single (AtomName c.0 c.1 name) e refl (by_role_alone (with_part g) Single f)
      ∙ ap (λ y. run rest y (AtomName c.0 c.1 name)) (sym p) ∙ bare_resumes c.0 c.1 name rest g' l;
}

pub part_atom : {ts r1 r2 rest : List Terminal} {d : ℕ} {g g1 g' : Counted} {name v : List ℕ} {vs ws : List Pat} → g1 ≡ with_part g → Fine (with_part g) → ts ≡ t.Name name ∷ r1 → r1 ≡ t.Open ∷ r2
    → ListRead Argument r2 1 g1 g' vs rest → v ≡ name → ws ≡ vs → Read part_level part_value ts d g g' (plain.Atom (record { name = v; args = ws })) rest
part_atom {ts} {r1} {r2} {rest} {d} {g} {g1} {g'} {name} {v} {vs} {ws} p f e1 e2 l s n = record {
  tree = Atom name l.read.tree;
  says = λ names q. cc (l.read.says names q, s, n);
  grows = subst (λ y. Extends y.names g'.names) p l.read.grows;
  fine = l.read.fine;
  shorter = omega (arith, ap length e1, ap length e2, l.read.shorter, ap length l.close);
  counts = λ more. ap (λ y. count_all y (arguments wanted 1 l.read.tree ((Quiet, t.Close) ∷ more))) (sym p) ∙ l.read.counts ((Quiet, t.Close) ∷ more);
  runs = λ c q.
      run_on g (WantPart c.0 c.1) Single (AtomName c.0 c.1 name) e1 refl (by_role_alone (with_part g) Single f)
      ∙ run_on (with_part g) (AtomName c.0 c.1 name) Quiet (InAtom (WantTerm (Outside (c.0, c.1, name)) Start)) e2 refl (quiet (with_part g) f)
      ∙ ap (λ y. run r2 y (InAtom (WantTerm (Outside (c.0, c.1, name)) Start))) (sym p)
      ∙ l.read.runs (Outside (c.0, c.1, name)) refl
      ∙ resume_on g' (λ x. in_atom (behind_terms (Outside (c.0, c.1, name)) l.read.tree x)) Quiet (HavePart (put c.0 (Atom name l.read.tree)) c.1) l.close refl (quiet g' l.read.fine)
      ∙ part_resumes (put c.0 (Atom name l.read.tree)) c.1 rest g';
}

-- Brackets and bounds.

pub round_bracketed : {ts r1 r2 rest : List Terminal} {d : ℕ} {g g' : Counted} {v : PlainPattern} → Fine g → d + 1 ≤ 32 → ts ≡ t.Open ∷ r1 → Read tree_level tree_value r1 (d + 1) g g' v r2 → r2 ≡ t.Close ∷ rest
    → Read round_level round_value ts d g g' v rest
round_bracketed {ts} {r1} {r2} {rest} {d} {g} {g'} f n e p l = record {
  tree = Bracketed p.tree;
  says = p.says;
  grows = p.grows;
  fine = p.fine;
  shorter = omega (arith, ap length e, p.shorter, ap length l);
  counts = λ more. p.counts ((Quiet, t.Close) ∷ more);
  runs = λ c q.
      run_on g (WantPart c.0 c.1) (Nests (depth c.1 + 1)) (WantPart FirstPart (InRound c.0 c.1)) e refl (fits g (Nests (depth c.1 + 1)) which.Depth 32 (depth c.1 + 1) f refl (omega arith))
      ∙ p.runs (InRound c.0 c.1) (ap (λ m. m + 1) q)
      ∙ resume_on g' (behind (InRound c.0 c.1) p.tree) Quiet (HaveRound c.0 (Bracketed p.tree) c.1) l refl (quiet g' p.fine)
      ∙ round_resumes c.0 (Bracketed p.tree) c.1 rest g';
}

bounded : Bound → Round → ℕ → Round
bounded bounds.Exact r q = Exactly r q
bounded bounds.Most r q = AtMost r q

pub round_more : (b : Bound) {ts r1 r2 rest : List Terminal} {d q : ℕ} {g g1 g2 : Counted} {u w : PlainPattern} → Read round_level round_value ts d g g1 u r1 → r1 ≡ bound_terminal b ∷ r2 → g2 ≡ with_part g1 → Fine (with_part g1)
    → LengthRead r2 q rest → w ≡ bounded_value b u q → Read round_level round_value ts d g g2 w rest
round_more bounds.Exact {ts} {r1} {r2} {rest} {d} {q} {g} {g1} {g2} a e p f l s = record {
  tree = Exactly a.tree q;
  says = λ names h. ap (λ x. plain.Exact x q) (a.says names (subst (λ y. Extends y.names names) p h)) ∙ sym s;
  grows = subst (λ y. Extends g.names y.names) (sym p) a.grows;
  fine = subst Fine (sym p) f;
  shorter = omega (arith, a.shorter, ap length e, ap length l.tokens);
  counts = λ more. a.counts ((Single, t.Length) ∷ (Lasts q, t.Number q) ∷ more) ∙ ap (λ y. count_all y more) (sym p);
  runs = λ c h.
      a.runs c h
      ∙ resume_on g1 (step (HaveRound c.0 a.tree c.1)) Single (WantExact c.0 a.tree c.1) e refl (by_role_alone (with_part g1) Single f)
      ∙ run_on (with_part g1) (WantExact c.0 a.tree c.1) (Lasts q) (HaveRound c.0 (Exactly a.tree q) c.1) l.tokens refl (fits (with_part g1) (Lasts q) which.Length (2 ^ 62) q f refl l.within)
      ∙ ap (λ y. run rest y (HaveRound c.0 (Exactly a.tree q) c.1)) (sym p) ∙ round_resumes c.0 (Exactly a.tree q) c.1 rest g2;
}
round_more bounds.Most {ts} {r1} {r2} {rest} {d} {q} {g} {g1} {g2} a e p f l s = record {
  tree = AtMost a.tree q;
  says = λ names h. ap (λ x. plain.Within x q) (a.says names (subst (λ y. Extends y.names names) p h)) ∙ sym s;
  grows = subst (λ y. Extends g.names y.names) (sym p) a.grows;
  fine = subst Fine (sym p) f;
  shorter = omega (arith, a.shorter, ap length e, ap length l.tokens);
  counts = λ more. a.counts ((Binary, t.Within) ∷ (Lasts q, t.Number q) ∷ more) ∙ ap (λ y. count_all y more) (sym p);
  runs = λ c h.
      a.runs c h
      ∙ resume_on g1 (step (HaveRound c.0 a.tree c.1)) Binary (WantMost c.0 a.tree c.1) e refl (by_role_alone (with_part g1) Binary f)
      ∙ run_on (with_part g1) (WantMost c.0 a.tree c.1) (Lasts q) (HaveRound c.0 (AtMost a.tree q) c.1) l.tokens refl (fits (with_part g1) (Lasts q) which.Length (2 ^ 62) q f refl l.within)
      ∙ ap (λ y. run rest y (HaveRound c.0 (AtMost a.tree q) c.1)) (sym p) ∙ round_resumes c.0 (AtMost a.tree q) c.1 rest g2;
}

pub part_round : {ts rest : List Terminal} {d : ℕ} {g g' : Counted} {v : PlainPattern} → Read round_level round_value ts d g g' v rest → LacksBound rest → Read part_level part_value ts d g g' v rest
part_round {rest = rest} {g' = g'} r l =
    alone Rounded r (λ names. refl) (λ more. refl) (λ c q. r.runs c q ∙ round_over c.0 r.tree c.1 rest g' l)

-- NOT: up to its first limit, up to its second, and whole.

without_first : {ts r0 r1 r2 r3 r4 : List Terminal} {d : ℕ} (g : Counted) {g1 g2 : Counted} {i : PlainPattern} → ts ≡ t.Not ∷ r0 → g1 ≡ with_part g → Fine (with_part g) → d + 1 ≤ 32 → r0 ≡ t.Open ∷ r1
    → (p : Read tree_level tree_value r1 (d + 1) g1 g2 i r2) → r2 ≡ t.Close ∷ r3 → r3 ≡ t.Limits ∷ r4 → (h : ChainHead) (k : Stack) → depth k ≡ d
    → run ts g (WantPart h k) ≡ run r4 g2 (WantPart FirstPart (InBefore h p.tree k))
without_first {ts} {r0} {r1} {r2} {r3} {r4} {d} g {g1} {g2} e0 w f n e1 p e2 e3 h k q =
    run_on g (WantPart h k) Single (WantOpen h k) e0 refl (by_role_alone (with_part g) Single f)
    ∙ run_on (with_part g) (WantOpen h k) (Nests (depth k + 1)) (WantPart FirstPart (InNot h k)) e1 refl (fits (with_part g) (Nests (depth k + 1)) which.Depth 32 (depth k + 1) f refl (omega arith))
    ∙ ap (λ y. run r1 y (WantPart FirstPart (InNot h k))) (sym w)
    ∙ p.runs (InNot h k) (ap (λ m. m + 1) q)
    ∙ resume_on g2 (behind (InNot h k) p.tree) Quiet (WantLimits h p.tree k) e2 refl (quiet g2 p.fine)
    ∙ run_on g2 (WantLimits h p.tree k) (Nests (depth k + 1)) (WantPart FirstPart (InBefore h p.tree k)) e3 refl (fits g2 (Nests (depth k + 1)) which.Depth 32 (depth k + 1) p.fine refl (omega arith))

pub part_without : {ts r0 r1 r2 r3 r4 r5 r6 r7 rest : List Terminal} {d : ℕ} {g g1 g2 g3 g' : Counted} {i b a : PlainPattern} → ts ≡ t.Not ∷ r0 → g1 ≡ with_part g → Fine (with_part g) → d + 1 ≤ 32 → r0 ≡ t.Open ∷ r1
    → Read tree_level tree_value r1 (d + 1) g1 g2 i r2 → r2 ≡ t.Close ∷ r3 → r3 ≡ t.Limits ∷ r4 → Read tree_level tree_value r4 (d + 1) g2 g3 b r5 → r5 ≡ t.Comma ∷ r6
    → Read tree_level tree_value r6 (d + 1) g3 g' a r7 → r7 ≡ t.Square ∷ rest → Read part_level part_value ts d g g' (plain.Not i b a) rest
part_without {ts} {r0} {r1} {r2} {r3} {r4} {r5} {r6} {r7} {rest} {d} {g} {g1} {g2} {g3} {g'} e0 w f n e1 p e2 e3 q e4 r e5 = record {
  tree = Without p.tree q.tree r.tree;
  says = λ names h. cc (p.says names (extends_trans q.grows (extends_trans r.grows h)), q.says names (extends_trans r.grows h), r.says names h);
  grows = subst (λ y. Extends y.names g'.names) w (extends_trans p.grows (extends_trans q.grows r.grows));
  fine = r.fine;
  shorter = omega (arith, ap length e0, ap length e1, p.shorter, ap length e2, ap length e3, q.shorter, ap length e4, r.shorter, ap length e5);
  counts = λ more.
      let third : List Marked = tree (d + 1) r.tree ((Quiet, t.Square) ∷ more) in
      let second : List Marked = tree (d + 1) q.tree ((Quiet, t.Comma) ∷ third) in
      ap (λ y. count_all y (tree (d + 1) p.tree ((Quiet, t.Close) ∷ (Nests (d + 1), t.Limits) ∷ second))) (sym w)
      ∙ p.counts ((Quiet, t.Close) ∷ (Nests (d + 1), t.Limits) ∷ second) ∙ q.counts ((Quiet, t.Comma) ∷ third) ∙ r.counts ((Quiet, t.Square) ∷ more);
  runs = λ c m.
      without_first g e0 w f n e1 p e2 e3 c.0 c.1 m
      ∙ q.runs (InBefore c.0 p.tree c.1) (ap (λ m. m + 1) m)
      ∙ resume_on g3 (behind (InBefore c.0 p.tree c.1) q.tree) Quiet (WantPart FirstPart (InAfter c.0 p.tree q.tree c.1)) e4 refl (quiet g3 q.fine)
      ∙ r.runs (InAfter c.0 p.tree q.tree c.1) (ap (λ m. m + 1) m)
      ∙ resume_on g' (behind (InAfter c.0 p.tree q.tree c.1) r.tree) Quiet (HavePart (put c.0 (Without p.tree q.tree r.tree)) c.1) e5 refl (quiet g' r.fine)
      ∙ part_resumes (put c.0 (Without p.tree q.tree r.tree)) c.1 rest g';
}

-- Chains and patterns.

pub joint_goes : (j : Joint) (k : Stack) (c : Chain) → behind_chain k c (joint j) ≡ to Binary (WantPart (NextPart c j) k)
joint_goes (Joined op) k c = refl
joint_goes Otherwise k c = refl

abbrev pub joint_link : (j : Joint) → Link chain_level part_level (joint j)
joint_link j = record { next = λ k c. (NextPart c j, k); goes = λ k c. joint_goes j k c; deep = λ k c. refl }

pub joint_counts : (g : Counted) (j : Joint) → count g (Binary, joint j) ≡ with_part g
joint_counts g (Joined op) = refl
joint_counts g Otherwise = refl

abbrev pub where_link : Link tree_level condition_level t.Where
where_link = record { next = λ k p. InWhere p k; goes = λ k p. refl; deep = λ k p. refl }

pub chain_one : {ts rest : List Terminal} {d : ℕ} {g g' : Counted} {v : PlainPattern} → Read part_level part_value ts d g g' v rest → Read chain_level chain_value ts d g g' v rest
chain_one p = alone One p (λ names. refl) (λ more. refl) (λ k q. p.runs (FirstPart, k) q)

pub chain_more : {ts r1 r2 rest : List Terminal} {d : ℕ} {g g1 g2 g' : Counted} {u v w : PlainPattern} (j : Joint) → Read chain_level chain_value ts d g g1 u r1 → r1 ≡ joint j ∷ r2 → g2 ≡ with_part g1 → Fine (with_part g1)
    → Read part_level part_value r2 d g2 g' v rest → w ≡ joined_value j u v → Read chain_level chain_value ts d g g' w rest
chain_more {g1 = g1} j a e p f b s =
    linked (joint_link j) (λ l r. More l j r) a e (joint_counts g1 j) p f b (λ names m n. cc) (λ more. refl) (λ k. refl)

chain_over : (k : Stack) (c : Chain) (rest : List Terminal) (g : Counted) → LacksJoint rest → resume (behind_chain k c) rest g ≡ resume (behind k (Plain c)) rest g
chain_over k c [] g l = refl
chain_over k c (t.Op op ∷ xs) g l = absurd l
chain_over k c (t.Or ∷ xs) g l = absurd l
chain_over k c (x ∷ xs) g l = refl

pub tree_plain : {ts rest : List Terminal} {d : ℕ} {g g' : Counted} {v : PlainPattern} → Read chain_level chain_value ts d g g' v rest → LacksJoint rest → Read tree_level tree_value ts d g g' v rest
tree_plain {rest = rest} {g' = g'} c l =
    alone Plain c (λ names. refl) (λ more. refl) (λ k q. c.runs k q ∙ chain_over k c.tree rest g' l)

where_over : (p : Tree) (k : Stack) (c : Condition) (rest : List Terminal) (g : Counted) → Lacks sign.Either rest → resume (behind_condition (InWhere p k) c) rest g ≡ resume (behind k (Filtered p c)) rest g
where_over p k c [] g l = refl
where_over p k c (t.Either ∷ xs) g l = absurd (l refl)
where_over p k c (x ∷ xs) g l = refl

pub tree_where : {ts r1 r2 rest : List Terminal} {d : ℕ} {g g1 g2 g' : Counted} {u w : PlainPattern} {v : PlainCond} → Read tree_level tree_value ts d g g1 u r1 → r1 ≡ t.Where ∷ r2 → g2 ≡ with_part g1 → Fine (with_part g1)
    → Read condition_level condition_value r2 d g2 g' v rest → Lacks sign.Either rest → w ≡ plain.Where u v → Read tree_level tree_value ts d g g' w rest
tree_where {rest = rest} {g' = g'} a e p f b l s =
    linked where_link Filtered a e refl p f b (λ names m n. cc) (λ more. refl) (λ k. where_over a.tree k b.tree rest g' l)

after_stuck : (h : ChainHead) (i b : Tree) (k : Stack) (p : Tree) (rest : List Terminal) (g : Counted) → Lacks sign.Where rest → Lacks sign.Square rest → resume (behind (InAfter h i b k) p) rest g ≡ Err (fault.Syntax (length rest))
after_stuck h i b k p [] g w l = refl
after_stuck h i b k p (t.Where ∷ xs) g w l = absurd (w refl)
after_stuck h i b k p (t.Square ∷ xs) g w l = absurd (l refl)
after_stuck h i b k p (x ∷ xs) g w l = refl

pub without_square : {ts r0 r1 r2 r3 r4 r5 r6 r7 : List Terminal} {d : ℕ} (g : Counted) {g1 g2 g3 g4 : Counted} {i b a : PlainPattern} → ts ≡ t.Not ∷ r0 → g1 ≡ with_part g → Fine (with_part g) → d + 1 ≤ 32 → r0 ≡ t.Open ∷ r1
    → Read tree_level tree_value r1 (d + 1) g1 g2 i r2 → r2 ≡ t.Close ∷ r3 → r3 ≡ t.Limits ∷ r4 → Read tree_level tree_value r4 (d + 1) g2 g3 b r5 → r5 ≡ t.Comma ∷ r6
    → Read tree_level tree_value r6 (d + 1) g3 g4 a r7 → Lacks sign.Where r7 → Lacks sign.Square r7
    → (c : ChainHead × Stack) → depth c.1 ≡ d → run ts g (WantPart c.0 c.1) ≡ Err (fault.Syntax (length r7))
without_square {r7 = r7} g {g3 = g3} {g4 = g4} e0 w f n e1 p e2 e3 q e4 r wh l c m =
    without_first g e0 w f n e1 p e2 e3 c.0 c.1 m
    ∙ q.runs (InBefore c.0 p.tree c.1) (ap (λ m. m + 1) m)
    ∙ resume_on g3 (behind (InBefore c.0 p.tree c.1) q.tree) Quiet (WantPart FirstPart (InAfter c.0 p.tree q.tree c.1)) e4 refl (quiet g3 q.fine)
    ∙ r.runs (InAfter c.0 p.tree q.tree c.1) (ap (λ m. m + 1) m)
    ∙ after_stuck c.0 p.tree q.tree c.1 r.tree r7 g4 wh l
