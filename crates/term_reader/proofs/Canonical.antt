-- Reading the canonical text of a term or atom within the limits gives it back.
use Rattle.std.proofs.Common.{◌≡◌, ℕ, ◌+◌, ◌<◌, ◌≤◌, Bool, true, false, List, [], ◌∷◌, ◌++◌, length, map, drop, Option, Some, None, option_and_then, suc, Result, Ok, Err, refl, sym, ap, ◌∙◌, arith, subst, append_assoc, append-nil, length-append, length-drop}
use Rattle.std.specs.List.{join_with_byte}
use Rattle.std.proofs.lemmas.Bool.{leb-true, lt-ltb, and_parts}
use Rattle.event_model.specs.declared.terms.Term.{Term, out-Term, roll-Term, out-roll-Term, roll-out-Term}
use Rattle.event_model.specs.declared.terms.Term.TheVariants as made
use Rattle.event_model.specs.declared.terms.Term.TheOpen.{Term-F}
use Rattle.event_model.specs.declared.terms.Term.TheOpen.Term-F.{Num, Sym, Text, Comp}
use Rattle.event_model.specs.declared.terms.Term.TheFolds.{map-Term, ind-Term}
use Rattle.event_model.specs.declared.atoms.Atom.{Atom}
use Rattle.event_model.specs.Text.{text_at, term_text, atom_text, applied}
use Rattle.term_reader.specs.declared.faults.TermFault.{TermFault}
use Rattle.term_reader.specs.declared.faults.TermFault.TheVariants.{Syntax, TooDeep, TooWide, NumberRange, Memory}
use Rattle.term_reader.specs.declared.signs.Sign.{Sign}
use Rattle.term_reader.specs.declared.signs.Sign.TheVariants.{Digit, Lower, Upper, Open, Close, Comma}
use Rattle.term_reader.specs.Signs.{sign_of, signs}
use Rattle.term_reader.specs.Grammar as tree
use Rattle.term_reader.specs.Grammar.{Blanks.NoBlank, Tree, Tree.Number, Tree.Name, Args, Args.OneArg, Args.MoreArg, Wanted, Wanted.AnyTerm, Wanted.AnAtom, word, args, value, values, atom_value, width, has_room, FineTree, FineArgs, Fine}
use Rattle.term_reader.specs.Machine.{State, Stack.Top, step, start}
use Rattle.term_reader.specs.Steps.{Outcome, Outcome.Reads, Outcome.Stops, run, onward}
use Rattle.term_reader.specs.Readings.{begins, is_word, is_open, is_digit, Fails, TermGiven, AtomGiven}
use Rattle.term_reader.specs.Limits.{within, within_step, within_at, is_within, is_atom_within, all_within, is_i64, is_name, is_text, goes_on, Free, TermBack, AtomBack}
use Rattle.term_reader.proofs.Bytes.{signs-append}
use Rattle.term_reader.proofs.Pieces.{name_for, signed_for, text_for}
use Rattle.term_reader.proofs.Walks.{walk, tree_walks, behind_tree}
use Rattle.term_reader.proofs.Branches.{behind_name, behind_number}
use Rattle.term_reader.proofs.Wholes.{over_top}

-- a fact of terms, from that of a layer whose arguments have it

abbrev Each : (Term → Type 0) → List Term → Type 0
Each P [] = Unit {0}
Each P (x ∷ xs) = P x × Each P xs

abbrev args_of : {X : Type 0} → Term-F X → List X
args_of (Num n) = []
args_of (Sym s) = []
args_of (Text s) = []
args_of (Comp f xs) = xs

by_layers : (P : Term → Type 0) → ((a : Term-F Term) → Each P (args_of a) → P (roll-Term a)) → (t : Term) → P t
by_layers P h = ind-Term P (λ x y is. subst (λ z. P (roll-Term z)) is (at y))
  where
    firsts : (es : List ((t : Term) × P t)) → Each P (map (λ e. e.0) es)
    firsts [] = tt
    firsts (e ∷ es) = (e.1, firsts es)

    at : (y : Term-F ((t : Term) × P t)) → P (roll-Term (map-Term ((t : Term) × P t) Term (λ e. e.0) y))
    at (Num n) = h (Num n) tt
    at (Sym s) = h (Sym s) tt
    at (Text s) = h (Text s) tt
    at (Comp f es) = h (Comp f (map (λ e. e.0) es)) (firsts es)

-- a term is written as a tree

pub record TreeFor (t : Term) (n : ℕ) : Type 0 where
  pub made : Tree
  pub says : value made ≡ t
  pub fine : FineTree true made n
  pub written : (rest : List Sign) → tree.tree made rest ≡ signs (term_text t) ++ rest

HasTree : Term → Type 0
HasTree t = (n : ℕ) → within t n ≡ true → TreeFor t n

-- texts, each behind a comma
abbrev behind_commas : List (List ℕ) → List ℕ
behind_commas [] = []
behind_commas (t ∷ ts) = 44 ∷ t ++ behind_commas ts

join-behind_commas : (t : List ℕ) (ts : List (List ℕ)) → join_with_byte 44 (t ∷ ts) ≡ t ++ behind_commas ts
join-behind_commas t [] = sym (append-nil t)
join-behind_commas t (u ∷ ts) = ap (λ l. t ++ 44 ∷ l) (join-behind_commas u ts)

-- the arguments behind those so far
record ArgsFor (ys : Args) (xs : List Term) (n : ℕ) : Type 0 where
  made : Args
  says : values made [] ≡ values ys xs
  fine : FineArgs true made n
  width : width made ≡ width ys + length xs
  written : (rest : List Sign) → args made rest ≡ args ys (signs (behind_commas (map term_text xs)) ++ rest)

args_for : (xs : List Term) (ys : Args) (n : ℕ) → Each HasTree xs → all_within (map within xs) n ≡ true → width ys + length xs ≤ 16 → FineArgs true ys n → ArgsFor ys xs n
unfolding signs HasTree
args_for [] ys n h w l f = record { made = ys; says = refl; fine = f; width = omega arith; written = λ rest. refl }
args_for (x ∷ xs) ys n h w l f =
    let p = and_parts _ _ w in
    let t = h.0 n p.0 in
    let m : width ys < 16 = omega (arith, l) in
    let r = args_for xs (MoreArg ys NoBlank t.made NoBlank) n h.1 p.1 (omega (arith, l)) (f, lt-ltb _ _ m, t.fine) in
    record {
      made = r.made;
      fine = r.fine;
      says = r.says ∙ ap (λ y. values ys (y ∷ xs)) t.says;
      width = r.width ∙ omega arith;
      written = λ rest. r.written rest ∙ ap (λ y. args ys (Comma ∷ y)) (t.written (signs (behind_commas (map term_text xs)) ++ rest)
          ∙ sym (append_assoc (signs (term_text x)) (signs (behind_commas (map term_text xs))) rest) ∙ ap (λ y. y ++ rest) (sym (signs-append (term_text x) (behind_commas (map term_text xs)))));
    }

record AllArgs (xs : List Term) (n : ℕ) : Type 0 where
  made : Args
  says : values made [] ≡ xs
  fine : FineArgs true made n
  written : (rest : List Sign) → args made rest ≡ signs (join_with_byte 44 (map term_text xs)) ++ rest

all_args : (xs : List Term) (n : ℕ) → Each HasTree xs → all_within (map within xs) n ≡ true → 1 ≤ length xs → length xs ≤ 16 → AllArgs xs n
unfolding signs HasTree
all_args [] n h w k l = absurd (omega arith)
all_args (x ∷ xs) n h w k l =
    let p = and_parts _ _ w in
    let t = h.0 n p.0 in
    let r = args_for xs (OneArg NoBlank t.made NoBlank) n h.1 p.1 (omega (arith, l)) t.fine in
    record {
      made = r.made;
      fine = r.fine;
      says = r.says ∙ ap (λ y. y ∷ xs) t.says;
      written = λ rest. r.written rest ∙ t.written (signs (behind_commas (map term_text xs)) ++ rest)
          ∙ sym (append_assoc (signs (term_text x)) (signs (behind_commas (map term_text xs))) rest) ∙ ap (λ y. y ++ rest) (sym (signs-append (term_text x) (behind_commas (map term_text xs))))
          ∙ ap (λ y. signs y ++ rest) (sym (join-behind_commas (term_text x) (map term_text xs)));
    }

length-map : (xs : List Term) → length (map within xs) ≡ length xs
length-map [] = refl
length-map (x ∷ xs) = ap suc (length-map xs)

-- a name and its arguments in brackets
comp_written : (name : List ℕ) (xs : List Term) (w : tree.Word) (ys : Args) → ((rest : List Sign) → word w rest ≡ signs name ++ rest) → ((rest : List Sign) → args ys rest ≡ signs (join_with_byte 44 (map term_text xs)) ++ rest)
    → (rest : List Sign) → word w (Open ∷ args ys (Close ∷ rest)) ≡ signs (applied name (map term_text xs)) ++ rest
unfolding signs
comp_written name xs w ys p q rest =
    let inner : List ℕ = join_with_byte 44 (map term_text xs) in
    p (Open ∷ args ys (Close ∷ rest))
    ∙ ap (λ y. signs name ++ Open ∷ y) (q (Close ∷ rest) ∙ sym (append_assoc (signs inner) (Close ∷ []) rest) ∙ ap (λ y. y ++ rest) (sym (signs-append inner (41 ∷ []))))
    ∙ sym (append_assoc (signs name) (Open ∷ signs (inner ++ 41 ∷ [])) rest)
    ∙ ap (λ y. y ++ rest) (sym (signs-append name (40 ∷ (inner ++ 41 ∷ []))))
    ∙ ap (λ y. signs y ++ rest) (sym (append_assoc name (40 ∷ inner) (41 ∷ [])))

rolled : (a : Term-F Term) (t : Term) → out-Term t ≡ a → roll-Term a ≡ t
rolled a t e = ap roll-Term (sym e) ∙ roll-out-Term t

layer_tree : (a : Term-F Term) → Each HasTree (args_of a) → HasTree (roll-Term a)
unfolding HasTree
layer_tree (Num z) h = λ n w.
    let i : is_i64 z ≡ true = ap (λ f. f n) (sym (within_at (roll-Term (Num z)) (out-roll-Term (Num z)))) ∙ w in
    let r = signed_for z i in
    record {
      made = Number r.negative r.made;
      says = ap made.Num r.says ∙ sym (rolled (Num z) (made.Num z) (made.outs-Num z));
      fine = r.fine;
      written = λ rest. r.written rest ∙ ap (λ y. signs y ++ rest) (sym (text_at (roll-Term (Num z)) (out-roll-Term (Num z))));
    }
layer_tree (Sym s) h = λ n w.
    let i : is_name s ≡ true = ap (λ f. f n) (sym (within_at (roll-Term (Sym s)) (out-roll-Term (Sym s)))) ∙ w in
    let r = name_for s i in
    record {
      made = Name r.made;
      says = ap made.Sym r.says ∙ sym (rolled (Sym s) (made.Sym s) (made.outs-Sym s));
      fine = tt;
      written = λ rest. r.written rest ∙ ap (λ y. signs y ++ rest) (sym (text_at (roll-Term (Sym s)) (out-roll-Term (Sym s))));
    }
layer_tree (Text s) h = λ n w.
    let i : is_text s ≡ true = ap (λ f. f n) (sym (within_at (roll-Term (Text s)) (out-roll-Term (Text s)))) ∙ w in
    let r = text_for s i in
    record {
      made = tree.Tree.Text r.made;
      says = ap made.Text r.says ∙ sym (rolled (Text s) (made.Text s) (made.outs-Text s));
      fine = r.fine;
      written = λ rest. r.written rest ∙ ap (λ y. signs y ++ rest) (sym (text_at (roll-Term (Text s)) (out-roll-Term (Text s))));
    }
layer_tree (Comp f xs) h = λ n w.
    let i : within_step (Comp f (map within xs)) n ≡ true = ap (λ g. g n) (sym (within_at (roll-Term (Comp f xs)) (out-roll-Term (Comp f xs)))) ∙ w in
    let a = and_parts _ _ i in
    let b = and_parts _ _ a.1 in
    let c = and_parts _ _ b.1 in
    let d = and_parts _ _ c.1 in
    let r = name_for f a.0 in
    let s = all_args xs (n + 1) h d.1 (subst (λ k. 1 ≤ k) (length-map xs) (leb-true _ _ c.0)) (subst (λ k. k ≤ 16) (length-map xs) (leb-true _ _ d.0)) in
    record {
      made = tree.Tree.Comp r.made s.made;
      fine = (b.0, s.fine);
      says = (λ j. made.Comp (r.says j) (s.says j)) ∙ sym (rolled (Comp f xs) (made.Comp f xs) (made.outs-Comp f xs));
      written = λ rest. comp_written f xs r.made s.made r.written s.written rest ∙ ap (λ y. signs y ++ rest) (sym (text_at (roll-Term (Comp f xs)) (out-roll-Term (Comp f xs))));
    }

tree_for : (t : Term) → HasTree t
tree_for = by_layers HasTree layer_tree

each_tree : (xs : List Term) → Each HasTree xs
each_tree [] = tt
each_tree (x ∷ xs) = (tree_for x, each_tree xs)

-- The machine reads it.

pub run_on : (front rest : List ℕ) (s to : State) → walk true (signs front) s ≡ Some to → run (front ++ rest) s ≡ run rest to
unfolding signs
run_on [] rest s to e = ap (run rest) (same e)
  where
    same : {x y : State} → Some x ≡ Some y → x ≡ y
    same e = cc
run_on (b ∷ front) rest s to e = at (step true s (sign_of b)) refl e (run_on front rest)
  where
    at : (o : Option State) → step true s (sign_of b) ≡ o → option_and_then (walk true (signs front)) o ≡ Some to → ((s : State) (to : State) → walk true (signs front) s ≡ Some to → run (front ++ rest) s ≡ run rest to) → run (b ∷ (front ++ rest)) s ≡ run rest to
    at None p e more = absurd (let f = e in cc)
    at (Some u) p e more = ap (onward (run (front ++ rest)) s b (front ++ rest)) p ∙ more u to e

free_word : (x : Sign) → goes_on x ≡ false → is_word x ≡ false
free_word (Lower b) h = cc
free_word (Upper b) h = cc
free_word (Digit b) h = cc
free_word x h = refl

free_open : (x : Sign) → goes_on x ≡ false → is_open x ≡ false
free_open Open h = cc
free_open x h = refl

free_digit : (x : Sign) → goes_on x ≡ false → is_digit x ≡ false
free_digit (Digit d) h = cc
free_digit x h = refl

lacks : (p : Sign → Bool) → ((x : Sign) → goes_on x ≡ false → p x ≡ false) → (rest : List ℕ) → Free rest → begins p rest ≡ false
lacks p f [] h = refl
lacks p f (b ∷ rest) h = f (sign_of b) h

ends_there : (t : Tree) (a : Wanted) (rest : List ℕ) → Free rest → run rest (behind_tree t a) ≡ Reads t rest
ends_there (Number m ds) a rest h = behind_number rest m ds (Top a) (lacks is_digit free_digit rest h) ∙ over_top a (Number m ds) rest
ends_there (Name w) a rest h = behind_name rest w (Top a) (lacks is_word free_word rest h) (lacks is_open free_open rest h) ∙ over_top a (Name w) rest
ends_there (tree.Tree.Text l) a rest h = over_top a (tree.Tree.Text l) rest
ends_there (tree.Tree.Comp w xs) a rest h = over_top a (tree.Tree.Comp w xs) rest

pub canonical_run : (a : Wanted) (t : Tree) (text rest : List ℕ) → Fine true a t → tree.tree t [] ≡ signs text → Free rest → run (text ++ rest) (start a) ≡ Reads t rest
canonical_run a t text rest f e h =
    run_on text rest (start a) (behind_tree t a) (ap (λ y. walk true y (start a)) (sym e) ∙ tree_walks true a t [] f) ∙ ends_there t a rest h

-- What a call gives, then.

end_is : (bytes : List ℕ) (at end : ℕ) (text rest : List ℕ) → at ≤ end → end ≤ length bytes → drop at bytes ≡ text ++ rest → rest ≡ drop end bytes → end ≡ at + length text
end_is bytes at end text rest o l e r =
    let n : length (drop at bytes) ≡ length text + length (drop end bytes) = ap length e ∙ length-append text rest ∙ ap (λ y. length text + length y) r in
    omega (arith, n, length-drop at bytes, length-drop end bytes, o, l)

tree_of : Outcome → Tree → Tree
tree_of (Reads t rest) d = t
tree_of (Stops k rest) d = d

left_of : Outcome → List ℕ
left_of (Reads t rest) = rest
left_of (Stops k rest) = rest

pub same_tree : {t u : Tree} {xs ys : List ℕ} → Reads t xs ≡ Reads u ys → (t ≡ u) × (xs ≡ ys)
unfolding tree_of left_of
same_tree {t} e = (ap (λ o. tree_of o t) e, ap left_of e)

abbrev IsRead : Outcome → Type 0
IsRead (Reads t rest) = Unit {0}
IsRead (Stops k rest) = ⊥

pub fault_is_memory : (bytes : List ℕ) (fault : TermFault) (t : Tree) (rest : List ℕ) (o : Outcome) → o ≡ Reads t rest → Fails bytes fault o → fault ≡ Memory
fault_is_memory bytes (Syntax p) t rest o e f = absurd (subst IsRead (sym e ∙ f.1) tt)
fault_is_memory bytes (TooDeep p) t rest o e f = absurd (subst IsRead (sym e ∙ f.1) tt)
fault_is_memory bytes (TooWide p) t rest o e f = absurd (subst IsRead (sym e ∙ f.1) tt)
fault_is_memory bytes (NumberRange p) t rest o e f = absurd (subst IsRead (sym e ∙ f.1) tt)
fault_is_memory bytes Memory t rest o e f = refl

term_runs : (t : Term) (bytes : List ℕ) (at : ℕ) (rest : List ℕ) → is_within t ≡ true → drop at bytes ≡ term_text t ++ rest → Free rest → (u : Tree) × (value u ≡ t) × (run (drop at bytes) (start AnyTerm) ≡ Reads u rest)
unfolding HasTree
term_runs t bytes at rest w e h =
    let r = tree_for t 1 w in
    (r.made, r.says, ap (λ y. run y (start AnyTerm)) e ∙ canonical_run AnyTerm r.made (term_text t) rest (tt, r.fine) (r.written [] ∙ append-nil (signs (term_text t))) h)

pub term_back : (bytes : List ℕ) (at : ℕ) (r : Result (Term × ℕ) TermFault) → TermGiven bytes at r → TermBack bytes at r
term_back bytes at (Ok x) g = λ t rest w e h.
    let u = term_runs t bytes at rest w e h in
    let s = same_tree (sym g.1.reads ∙ u.2) in
    (sym g.2 ∙ ap value s.0 ∙ u.1, end_is bytes at x.1 (term_text t) rest g.1.ordered g.1.inside e (sym s.1))
term_back bytes at (Err fault) g = λ t rest w e h.
    let u = term_runs t bytes at rest w e h in fault_is_memory bytes fault u.0 rest (run (drop at bytes) (start AnyTerm)) u.2 g

AtomFor : Atom → Type 0
AtomFor a = (u : Tree) × (atom_value u ≡ a) × Fine true AnAtom u × (tree.tree u [] ≡ signs (atom_text a))

atom_for : (name : List ℕ) (xs : List Term) → is_atom_within (record { name = name; args = xs }) ≡ true → AtomFor (record { name = name; args = xs })
unfolding AtomFor
atom_for name [] w =
    let p = and_parts _ _ w in
    let r = name_for name p.0 in
    (Name r.made, (λ i. record { name = r.says i; args = [] }), (tt, tt), r.written [] ∙ append-nil (signs name))
atom_for name (x ∷ xs) w =
    let p = and_parts _ _ w in
    let q = and_parts _ _ p.1 in
    let r = name_for name p.0 in
    let s = all_args (x ∷ xs) 1 (each_tree (x ∷ xs)) q.1 (omega arith) (leb-true _ _ q.0) in (
      tree.Tree.Comp r.made s.made,
      (λ i. record { name = r.says i; args = s.says i }),
      (tt, (refl, s.fine)),
      comp_written name (x ∷ xs) r.made s.made r.written s.written [] ∙ append-nil (signs (applied name (map term_text (x ∷ xs)))),
    )

atom_runs : (a : Atom) (bytes : List ℕ) (at : ℕ) (rest : List ℕ) → is_atom_within a ≡ true → drop at bytes ≡ atom_text a ++ rest → Free rest → (u : Tree) × (atom_value u ≡ a) × (run (drop at bytes) (start AnAtom) ≡ Reads u rest)
unfolding AtomFor
atom_runs a bytes at rest w e h =
    let r = atom_for a.name a.args w in
    (r.0, r.1, ap (λ y. run y (start AnAtom)) e ∙ canonical_run AnAtom r.0 (atom_text a) rest r.2 r.3 h)

pub atom_back : (bytes : List ℕ) (at : ℕ) (r : Result (Atom × ℕ) TermFault) → AtomGiven bytes at r → AtomBack bytes at r
atom_back bytes at (Ok x) g = λ a rest w e h.
    let u = atom_runs a bytes at rest w e h in
    let s = same_tree (sym g.1.reads ∙ u.2) in
    (sym g.2 ∙ ap atom_value s.0 ∙ u.1, end_is bytes at x.1 (atom_text a) rest g.1.ordered g.1.inside e (sym s.1))
atom_back bytes at (Err fault) g = λ a rest w e h.
    let u = atom_runs a bytes at rest w e h in fault_is_memory bytes fault u.0 rest (run (drop at bytes) (start AnAtom)) u.2 g
