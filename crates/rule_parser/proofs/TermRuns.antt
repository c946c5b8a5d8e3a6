-- How runs go on over the tokens of terms and lists of arguments.
use Rattle.std.proofs.Common.{◌≡◌, ℕ, ◌+◌, ◌<◌, ◌≤◌, cond, List, [], ◌∷◌, ◌++◌, length, Option, Some, None, Result, Err, w64, to_z, of_z, pos, ◌-ℤ◌, ◌^◌, refl, sym, ap, ◌∙◌, arith, subst, length-append}
use Rattle.std.proofs.lemmas.Bool.{le-ltb, lt-ltb}
use Rattle.std.proofs.lemmas.Option.{same_Some}
use Rattle.std.proofs.lemmas.Int.{to_z_pos, to_z-of_z}
use Rattle.event_model.specs.declared.terms.Pat.{Pat}
use Rattle.event_model.specs.declared.terms.Pat.TheVariants as pat
use Rattle.rule_lexer.specs.declared.terminals.Terminal.{Terminal}
use Rattle.rule_lexer.specs.declared.terminals.Terminal.TheVariants as t
use Rattle.rule_grammar.specs.declared.faults.Which.{Which}
use Rattle.rule_grammar.specs.declared.faults.Which.TheVariants as which
use Rattle.rule_grammar.specs.declared.faults.Fault.{Fault}
use Rattle.rule_grammar.specs.declared.faults.Fault.TheVariants as fault
use Rattle.rule_grammar.specs.Trees.{Literal, Literal.Digits, Literal.Minus, Literal.Least, Literal.Symbol, Literal.Quoted, Term.Leaf, Term.Lone, Term.Compound, Arguments, Arguments.First, Arguments.Next}
use Rattle.rule_grammar.specs.Trees.{Wanted.Variable, Wanted.Anything}
use Rattle.rule_grammar.specs.Trees.{Statements}
use Rattle.rule_grammar.specs.Marks.{Role, Marked, Counted, count, count_all, passed, by_role, over}
use Rattle.rule_grammar.specs.Marks.{Role.Quiet, Role.Deepens, Role.Counts}
use Rattle.rule_grammar.specs.Tokens.{literal, term, wanted, count_of}
use Rattle.rule_grammar.specs.Lists.{Before, Before.Start, Before.Behind, Nest, Nest.Outside, Nest.Inside, ListState, ListState.WantTerm, ListState.WantDigits, ListState.HaveName, ListState.HaveTerms, Turn.Stay, Turn.Stuck, level, have, have_leaf, behind_terms, list_step, put_term}
use Rattle.rule_grammar.specs.Machine.{State}
use Rattle.rule_grammar.specs.Machine.{Step, to, reads_wanted, reads_variable, step, unless_passed, onward, run}
use Rattle.rule_parser.specs.declared.faults.Stop.{Stop}
use Rattle.rule_parser.specs.declared.faults.Stop.TheVariants as stop
use Rattle.rule_parser.specs.declared.signs.Sign.TheVariants as sign
use Rattle.rule_parser.specs.declared.terms.Kind.{Kind}
use Rattle.rule_parser.specs.declared.terms.Kind.TheVariants.{Ground, Operand, Argument}
use Rattle.rule_parser.specs.Signs.{Lacks}
use Rattle.rule_parser.specs.Steps.{Level, Runs, Fine, with_variable, Extends, Fails, resume, Read, Leaves, Place, base, leaf_read, leaf_terminal, in_list, turn_of, term_of, terms_of, term_level, terms_level, ListRead, word_tokens, IsNoSymbol, LacksWord, LacksDigits, WordRead, WordFails, WordAnswer, LeafRead, LeafFails, LeafAnswer, SlotStops, same}
use Rattle.rule_grammar.specs.Values.{slot_of}
use Rattle.rule_parser.proofs.Names.{extends_refl, extends_trans, extends_name}

-- One token.

pub on : (xs : List Terminal) (x : Terminal) (g : Counted) (r : Role) (s : State) → passed (count g (r, x)) r ≡ None → onward (run xs) (x ∷ xs) g x (to r s) ≡ run xs (count g (r, x)) s
on xs x g r s p = ap (unless_passed (run xs (count g (r, x)) s) (x ∷ xs)) p

pub off : (xs : List Terminal) (x : Terminal) (g : Counted) (r : Role) (s : State) (w : Which) → passed (count g (r, x)) r ≡ Some w → onward (run xs) (x ∷ xs) g x (to r s) ≡ Err (fault.Limit w (length (x ∷ xs)))
off xs x g r s w p = ap (unless_passed (run xs (count g (r, x)) s) (x ∷ xs)) p

pub run_on : {ts xs : List Terminal} {x : Terminal} (g : Counted) (s : State) (r : Role) (s' : State) → ts ≡ x ∷ xs → step s x ≡ to r s' → passed (count g (r, x)) r ≡ None → run ts g s ≡ run xs (count g (r, x)) s'
run_on {ts} {xs} {x} g s r s' e q p = ap (λ l. run l g s) e ∙ ap (onward (run xs) (x ∷ xs) g x) q ∙ on xs x g r s' p

pub run_off : {ts xs : List Terminal} {x : Terminal} (g : Counted) (s : State) (r : Role) (s' : State) (w : Which) → ts ≡ x ∷ xs → step s x ≡ to r s' → passed (count g (r, x)) r ≡ Some w → run ts g s ≡ Err (fault.Limit w (length ts))
run_off {ts} {xs} {x} g s r s' w e q p = ap (λ l. run l g s) e ∙ ap (onward (run xs) (x ∷ xs) g x) q ∙ off xs x g r s' w p ∙ ap (λ l. Err (fault.Limit w (length l))) (sym e)

pub resume_on : {ts xs : List Terminal} {x : Terminal} (g : Counted) (b : Terminal → Step) (r : Role) (s' : State) → ts ≡ x ∷ xs → b x ≡ to r s' → passed (count g (r, x)) r ≡ None → resume b ts g ≡ run xs (count g (r, x)) s'
resume_on {ts} {xs} {x} g b r s' e q p = ap (λ l. resume b l g) e ∙ ap (onward (run xs) (x ∷ xs) g x) q ∙ on xs x g r s' p

pub resume_off : {ts xs : List Terminal} {x : Terminal} (g : Counted) (b : Terminal → Step) (r : Role) (s' : State) (w : Which) → ts ≡ x ∷ xs → b x ≡ to r s' → passed (count g (r, x)) r ≡ Some w → resume b ts g ≡ Err (fault.Limit w (length ts))
resume_off {ts} {xs} {x} g b r s' w e q p = ap (λ l. resume b l g) e ∙ ap (onward (run xs) (x ∷ xs) g x) q ∙ off xs x g r s' w p ∙ ap (λ l. Err (fault.Limit w (length l))) (sym e)

-- Limits.

under : (most n : ℕ) (w : Which) (o : Option Which) → n ≤ most → over most n w o ≡ o
under most n w o h = ap (λ b. cond b (Some w) o) (le-ltb most n h)

beyond : (most n : ℕ) (w : Which) (o : Option Which) → most < n → over most n w o ≡ Some w
beyond most n w o h = ap (λ b. cond b (Some w) o) (lt-ltb most n h)

pub by_role_alone : (g : Counted) (r : Role) → Fine g → passed g r ≡ by_role r
by_role_alone g r f = under 256 g.parts which.Parts _ f.parts ∙ under 64 (length g.names) which.Variables (by_role r) f.names

pub quiet : (g : Counted) → Fine g → passed g Quiet ≡ None
quiet g f = by_role_alone g Quiet f

pub fits : (g : Counted) (r : Role) (w : Which) (most n : ℕ) → Fine g → by_role r ≡ over most n w None → n ≤ most → passed g r ≡ None
fits g r w most n f e h = by_role_alone g r f ∙ e ∙ under most n w None h

pub exceeds : (g : Counted) (r : Role) (w : Which) (most n : ℕ) → Fine g → by_role r ≡ over most n w None → most < n → passed g r ≡ Some w
exceeds g r w most n f e h = by_role_alone g r f ∙ e ∙ beyond most n w None h

pub too_many_names : (g : Counted) (r : Role) → g.parts ≤ 256 → 64 < length g.names → passed g r ≡ Some which.Variables
too_many_names g r p h = under 256 g.parts which.Parts _ p ∙ beyond 64 (length g.names) which.Variables _ h

pub fails_along : (e : Stop) {r s : Result Statements Fault} → r ≡ s → Fails e s → Fails e r
fails_along e p f = subst (λ x. Fails e x) (sym p) f

-- What is read is read as a tree that it is alone, where the machine goes on alike.
pub alone : {C T C' T' V : Type 0} {L : Level C T} {E : Level C' T'} {value : List (List ℕ) → T → V} {value' : List (List ℕ) → T' → V} {ts rest : List Terminal} {d : ℕ} {g g' : Counted} {v : V}
    (wrap : T → T') → (a : Read L value ts d g g' v rest) → ((names : List (List ℕ)) → value' names (wrap a.tree) ≡ value names a.tree)
    → ((more : List Marked) → E.tokens d (wrap a.tree) more ≡ L.tokens d a.tree more) → Runs E ts d g (wrap a.tree) g' rest → Read E value' ts d g g' v rest
alone {g = g} wrap a says tokens runs = record {
  tree = wrap a.tree;
  says = λ names q. says names ∙ a.says names q;
  grows = a.grows;
  fine = a.fine;
  shorter = a.shorter;
  counts = λ more. ap (count_all g) (tokens more) ∙ a.counts more;
  runs = runs;
}

-- Lists of arguments.

list_steps : (k : Kind) (s : ListState (Leaves k) (Place k)) (x : Terminal) → step (in_list k s) x ≡ turn_of k (list_step (leaf_read k) (base k) s x)
list_steps Ground s x = refl
list_steps Operand s x = refl
list_steps Argument s x = refl

list_stays : (k : Kind) (r : Role) (s : ListState (Leaves k) (Place k)) → turn_of k (Stay r s) ≡ to r (in_list k s)
list_stays Ground r s = refl
list_stays Operand r s = refl
list_stays Argument r s = refl

list_stuck : (k : Kind) → turn_of k Stuck ≡ None
list_stuck Ground = refl
list_stuck Operand = refl
list_stuck Argument = refl

list_ended : (k : Kind) (s : ListState (Leaves k) (Place k)) (g : Counted) → run [] g (in_list k s) ≡ Err (fault.Syntax 0)
list_ended Ground s g = refl
list_ended Operand s g = refl
list_ended Argument s g = refl

pub list_on : (k : Kind) {ts xs : List Terminal} {x : Terminal} (g : Counted) (s s' : ListState (Leaves k) (Place k)) (r : Role) → ts ≡ x ∷ xs → list_step (leaf_read k) (base k) s x ≡ Stay r s'
    → passed (count g (r, x)) r ≡ None → run ts g (in_list k s) ≡ run xs (count g (r, x)) (in_list k s')
list_on k {ts} {xs} {x} g s s' r e q p = run_on g (in_list k s) r (in_list k s') e (list_steps k s x ∙ ap (turn_of k) q ∙ list_stays k r s') p

list_off : (k : Kind) {ts xs : List Terminal} {x : Terminal} (g : Counted) (s s' : ListState (Leaves k) (Place k)) (r : Role) (w : Which) → ts ≡ x ∷ xs → list_step (leaf_read k) (base k) s x ≡ Stay r s'
    → passed (count g (r, x)) r ≡ Some w → run ts g (in_list k s) ≡ Err (fault.Limit w (length ts))
list_off k {ts} {xs} {x} g s s' r w e q p = run_off g (in_list k s) r (in_list k s') w e (list_steps k s x ∙ ap (turn_of k) q ∙ list_stays k r s') p

list_none : (k : Kind) {ts xs : List Terminal} {x : Terminal} (g : Counted) (s : ListState (Leaves k) (Place k)) → ts ≡ x ∷ xs → list_step (leaf_read k) (base k) s x ≡ Stuck
    → run ts g (in_list k s) ≡ Err (fault.Syntax (length ts))
list_none k {ts} {xs} {x} g s e q =
    ap (λ l. run l g (in_list k s)) e ∙ ap (onward (run xs) (x ∷ xs) g x) (list_steps k s x ∙ ap (turn_of k) q ∙ list_stuck k) ∙ ap (λ l. Err (fault.Syntax (length l))) (sym e)

have_resumes : (k : Kind) (rest : List Terminal) (g : Counted) (n : Nest (Leaves k) (Place k)) (as' : Arguments (Leaves k)) → run rest g (in_list k (HaveTerms n as')) ≡ resume (λ x. turn_of k (behind_terms n as' x)) rest g
have_resumes k [] g n as' = list_ended k (HaveTerms n as') g
have_resumes k (x ∷ xs) g n as' = ap (onward (run xs) (x ∷ xs) g x) (list_steps k (HaveTerms n as') x)

name_step : (k : Kind) (n : Nest (Leaves k) (Place k)) (b : Before (Leaves k)) (name : List ℕ) (x : Terminal) (xs : List Terminal) → Lacks sign.Open (x ∷ xs)
    → list_step (leaf_read k) (base k) (HaveName n b name) x ≡ behind_terms n (put_term b (Lone (Symbol name))) x
name_step k n b name t.Open xs h = absurd (h refl)
name_step k n b name x xs h = refl

name_resumes : (k : Kind) (rest : List Terminal) (g : Counted) (n : Nest (Leaves k) (Place k)) (b : Before (Leaves k)) (name : List ℕ) → Lacks sign.Open rest
    → run rest g (in_list k (HaveName n b name)) ≡ resume (λ x. turn_of k (behind_terms n (put_term b (Lone (Symbol name))) x)) rest g
name_resumes k [] g n b name h = list_ended k (HaveName n b name) g
name_resumes k (x ∷ xs) g n b name h = ap (onward (run xs) (x ∷ xs) g x) (list_steps k (HaveName n b name) x ∙ ap (turn_of k) (name_step k n b name x xs h))

-- A term of one word.

word_runs : (k : Kind) (l : Literal) (ts rest : List Terminal) (g : Counted) → Fine g → IsNoSymbol l → ts ≡ word_tokens l rest → (n : Nest (Leaves k) (Place k)) (b : Before (Leaves k))
    → run ts g (in_list k (WantTerm n b)) ≡ resume (λ x. turn_of k (behind_terms n (put_term b (Lone l)) x)) rest g
word_runs k (Digits m) ts rest g f h e n b = list_on k g (WantTerm n b) (HaveTerms n (put_term b (Lone (Digits m)))) Quiet e refl (quiet g f) ∙ have_resumes k rest g n _
word_runs k (Minus m) ts rest g f h e n b =
    list_on k g (WantTerm n b) (WantDigits n b) Quiet e refl (quiet g f)
    ∙ list_on k g (WantDigits n b) (HaveTerms n (put_term b (Lone (Minus m)))) Quiet refl refl (quiet g f) ∙ have_resumes k rest g n _
word_runs k Least ts rest g f h e n b =
    list_on k g (WantTerm n b) (WantDigits n b) Quiet e refl (quiet g f)
    ∙ list_on k g (WantDigits n b) (HaveTerms n (put_term b (Lone Least))) Quiet refl refl (quiet g f) ∙ have_resumes k rest g n _
word_runs k (Symbol name) ts rest g f h e n b = absurd h
word_runs k (Quoted text) ts rest g f h e n b = list_on k g (WantTerm n b) (HaveTerms n (put_term b (Lone (Quoted text)))) Quiet e refl (quiet g f) ∙ have_resumes k rest g n _

pub word_shorter : (l : Literal) (ts rest : List Terminal) → ts ≡ word_tokens l rest → length rest < length ts
word_shorter (Digits m) ts rest e = omega (arith, ap length e)
word_shorter (Minus m) ts rest e = omega (arith, ap length e)
word_shorter Least ts rest e = omega (arith, ap length e)
word_shorter (Symbol name) ts rest e = omega (arith, ap length e)
word_shorter (Quoted text) ts rest e = omega (arith, ap length e)

pub word_counts : (l : Literal) (g : Counted) (more : List Marked) → count_all g (literal Quiet l more) ≡ count_all g more
word_counts (Digits m) g more = refl
word_counts (Minus m) g more = refl
word_counts Least g more = refl
word_counts (Symbol name) g more = refl
word_counts (Quoted text) g more = refl

pub term_word : (k : Kind) {ts rest : List Terminal} {d : ℕ} {g : Counted} {v : Pat} → Fine g → WordRead ts v rest → Read (term_level k) (term_of k) ts d g g v rest
term_word k {ts} {rest} {d} {g} {v} f w = record {
  tree = Lone w.literal;
  says = λ names e. w.says;
  grows = extends_refl g.names;
  fine = f;
  shorter = word_shorter w.literal ts rest w.tokens;
  counts = word_counts w.literal g;
  runs = λ c q. word_runs k w.literal ts rest g f w.no_symbol w.tokens c.0 c.1;
}

digits_stuck : (k : Kind) (rest : List Terminal) (g : Counted) (n : Nest (Leaves k) (Place k)) (b : Before (Leaves k)) → LacksDigits rest → run rest g (in_list k (WantDigits n b)) ≡ Err (fault.Syntax (length rest))
digits_stuck k [] g n b h = list_ended k (WantDigits n b) g
digits_stuck k (t.Number m ∷ xs) g n b h = absurd h
digits_stuck k (t.Huge ∷ xs) g n b h = absurd h
digits_stuck k (x ∷ xs) g n b h = list_none k g (WantDigits n b) refl refl

pub word_fails : (k : Kind) {ts : List Terminal} {d : ℕ} {g : Counted} {e : Fault} → Fine g → WordFails ts e → (c : Nest (Leaves k) (Place k) × Before (Leaves k)) → level (base k) c.0 ≡ d → run ts g (in_list k (WantTerm c.0 c.1)) ≡ Err e
word_fails k {ts} {d} {g} {e} f w c q =
    list_on k g (WantTerm c.0 c.1) (WantDigits c.0 c.1) Quiet w.tokens refl (quiet g f) ∙ digits_stuck k w.rest g c.0 c.1 w.lacks ∙ ap Err (sym w.place)

-- What stands for a term and is none.

leaf_stays : (k : Kind) (x : Terminal) (w : Leaves k) (n : Nest (Leaves k) (Place k)) (b : Before (Leaves k)) → leaf_read k x ≡ Some w → list_step (leaf_read k) (base k) (WantTerm n b) x ≡ have n b (Leaf w)
leaf_stays k (t.Number m) w n b e = at k e
  where
    at : (k : Kind) {w : Leaves k} {A : Type 0} → leaf_read k (t.Number m) ≡ Some w → A
    at Ground e = cc
    at Operand e = cc
    at Argument e = cc
leaf_stays k t.Minus w n b e = at k e
  where
    at : (k : Kind) {w : Leaves k} {A : Type 0} → leaf_read k t.Minus ≡ Some w → A
    at Ground e = cc
    at Operand e = cc
    at Argument e = cc
leaf_stays k (t.Text text) w n b e = at k e
  where
    at : (k : Kind) {w : Leaves k} {A : Type 0} → leaf_read k (t.Text text) ≡ Some w → A
    at Ground e = cc
    at Operand e = cc
    at Argument e = cc
leaf_stays k (t.Name name) w n b e = at k e
  where
    at : (k : Kind) {w : Leaves k} {A : Type 0} → leaf_read k (t.Name name) ≡ Some w → A
    at Ground e = cc
    at Operand e = cc
    at Argument e = cc
leaf_stays k x w n b e = ap (have_leaf n b) e

leaf_spelled : (k : Kind) (x : Terminal) (w : Leaves k) → leaf_read k x ≡ Some w → x ≡ leaf_terminal k w
leaf_spelled Ground x w e = absurd w
leaf_spelled Operand (t.Var name) w e = ap t.Var (same_Some name w e)
leaf_spelled Operand x w e = cc
leaf_spelled Argument (t.Var name) w e = ap wanted (same_Some (Variable name) w e)
leaf_spelled Argument t.Wild w e = ap wanted (same_Some Anything w e)
leaf_spelled Argument x w e = cc

pub term_leaf : (k : Kind) {ts rest : List Terminal} {x : Terminal} {d : ℕ} {g g' : Counted} {v : Pat} → ts ≡ x ∷ rest → LeafRead k x g g' v → Read (term_level k) (term_of k) ts d g g' v rest
term_leaf k {ts} {rest} {x} {d} {g} {g'} {v} e w = record {
  tree = Leaf w.leaf;
  says = w.says;
  grows = w.grows;
  fine = w.fine;
  shorter = omega (arith, ap length e);
  counts = λ more. ap (λ h. count_all h more) (ap (λ y. count g (Quiet, y)) (sym (leaf_spelled k x w.leaf w.reads)) ∙ w.counts);
  runs = λ c q.
      list_on k g (WantTerm c.0 c.1) (HaveTerms c.0 (put_term c.1 (Leaf w.leaf))) Quiet e (leaf_stays k x w.leaf c.0 c.1 w.reads) (ap (λ h. passed h Quiet) w.counts ∙ quiet g' w.fine)
      ∙ ap (λ h. run rest h (in_list k (HaveTerms c.0 (put_term c.1 (Leaf w.leaf))))) w.counts ∙ have_resumes k rest g' c.0 _;
}

pub leaf_fails : (k : Kind) {ts rest : List Terminal} {x : Terminal} {d : ℕ} {g : Counted} {e : Fault} → ts ≡ x ∷ rest → LeafFails ts k x g e → (c : Nest (Leaves k) (Place k) × Before (Leaves k)) → level (base k) c.0 ≡ d
    → run ts g (in_list k (WantTerm c.0 c.1)) ≡ Err e
leaf_fails k {ts} {rest} {x} {d} {g} {e} q w c p =
    list_off k g (WantTerm c.0 c.1) (HaveTerms c.0 (put_term c.1 (Leaf w.leaf))) Quiet which.Variables q (leaf_stays k x w.leaf c.0 c.1 w.reads) w.passes ∙ ap Err (sym w.place)

no_leaf : (k : Kind) (x : Terminal) (xs : List Terminal) (n : Nest (Leaves k) (Place k)) (b : Before (Leaves k)) → LacksWord (x ∷ xs) → ((name : List ℕ) → ¬ (x ≡ t.Name name)) → leaf_read k x ≡ None
    → list_step (leaf_read k) (base k) (WantTerm n b) x ≡ Stuck
no_leaf k (t.Number m) xs n b h q e = absurd h
no_leaf k t.Minus xs n b h q e = absurd h
no_leaf k (t.Text text) xs n b h q e = absurd h
no_leaf k (t.Name name) xs n b h q e = absurd (q name refl)
no_leaf k x xs n b h q e = ap (have_leaf n b) e

pub term_stuck : (k : Kind) {ts rest : List Terminal} {x : Terminal} {d : ℕ} (g : Counted) → ts ≡ x ∷ rest → LacksWord ts → ((name : List ℕ) → ¬ (x ≡ t.Name name)) → leaf_read k x ≡ None
    → (c : Nest (Leaves k) (Place k) × Before (Leaves k)) → level (base k) c.0 ≡ d → run ts g (in_list k (WantTerm c.0 c.1)) ≡ Err (fault.Syntax (length ts))
term_stuck k {ts} {rest} {x} {d} g e h q r c p = list_none k g (WantTerm c.0 c.1) e (no_leaf k x rest c.0 c.1 (subst LacksWord e h) q r)

-- A name, and a compound.

pub term_symbol : (k : Kind) {ts rest : List Terminal} {d : ℕ} {g : Counted} {name v : List ℕ} → Fine g → ts ≡ t.Name name ∷ rest → Lacks sign.Open rest → v ≡ name
    → Read (term_level k) (term_of k) ts d g g (pat.Sym v) rest
term_symbol k {ts} {rest} {d} {g} {name} {v} f e h same = record {
  tree = Lone (Symbol name);
  says = λ names q. ap pat.Sym (sym same);
  grows = extends_refl g.names;
  fine = f;
  shorter = omega (arith, ap length e);
  counts = λ more. refl;
  runs = λ c q. list_on k g (WantTerm c.0 c.1) (HaveName c.0 c.1 name) Quiet e refl (quiet g f) ∙ name_resumes k rest g c.0 c.1 name h;
}

pub term_compound : (k : Kind) {ts r1 r2 rest : List Terminal} {d : ℕ} {g g' : Counted} {name v : List ℕ} {vs : List Pat} → Fine g → d + 1 ≤ 16 → ts ≡ t.Name name ∷ r1 → r1 ≡ t.Open ∷ r2
    → ListRead k r2 (d + 1) g g' vs rest → v ≡ name → Read (term_level k) (term_of k) ts d g g' (pat.Comp v vs) rest
term_compound k {ts} {r1} {r2} {rest} {d} {g} {g'} {name} {v} {vs} f h e1 e2 l same = record {
  tree = Compound name l.read.tree;
  says = λ names q. ap (λ n. pat.Comp n (terms_of k names l.read.tree)) (sym same) ∙ ap (pat.Comp v) (l.read.says names q);
  grows = l.read.grows;
  fine = l.read.fine;
  shorter = omega (arith, ap length e1, ap length e2, l.read.shorter, ap length l.close);
  counts = λ more. l.read.counts ((Quiet, t.Close) ∷ more);
  runs = λ c q.
      list_on k g (WantTerm c.0 c.1) (HaveName c.0 c.1 name) Quiet e1 refl (quiet g f)
      ∙ list_on k g (HaveName c.0 c.1 name) (WantTerm (Inside c.0 c.1 name) Start) (Deepens (level (base k) c.0 + 1)) e2 refl
      (fits g (Deepens (level (base k) c.0 + 1)) which.TermDepth 16 (level (base k) c.0 + 1) f refl (omega arith))
      ∙ l.read.runs (Inside c.0 c.1 name) (ap (λ n. n + 1) q)
      ∙ resume_on g' (λ x. turn_of k (behind_terms (Inside c.0 c.1 name) l.read.tree x)) Quiet (in_list k (HaveTerms c.0 (put_term c.1 (Compound name l.read.tree)))) l.close (list_stays k Quiet (HaveTerms c.0 (put_term c.1 (Compound name l.read.tree)))) (quiet g' l.read.fine)
      ∙ have_resumes k rest g' c.0 _;
}

pub compound_deep : (k : Kind) {ts r1 r2 : List Terminal} {d : ℕ} {g : Counted} {name : List ℕ} → Fine g → 16 ≤ d → ts ≡ t.Name name ∷ r1 → r1 ≡ t.Open ∷ r2
    → (c : Nest (Leaves k) (Place k) × Before (Leaves k)) → level (base k) c.0 ≡ d → run ts g (in_list k (WantTerm c.0 c.1)) ≡ Err (fault.Limit which.TermDepth (length r1))
compound_deep k {ts} {r1} {r2} {d} {g} {name} f h e1 e2 c q =
    list_on k g (WantTerm c.0 c.1) (HaveName c.0 c.1 name) Quiet e1 refl (quiet g f)
    ∙ list_off k g (HaveName c.0 c.1 name) (WantTerm (Inside c.0 c.1 name) Start) (Deepens (level (base k) c.0 + 1)) which.TermDepth e2 refl
    (exceeds g (Deepens (level (base k) c.0 + 1)) which.TermDepth 16 (level (base k) c.0 + 1) f refl (omega arith))

pub compound_fails : (k : Kind) {ts r1 r2 : List Terminal} {d : ℕ} {g : Counted} {name : List ℕ} (e : Stop) → Fine g → d + 1 ≤ 16 → ts ≡ t.Name name ∷ r1 → r1 ≡ t.Open ∷ r2
    → ((n : Nest (Leaves k) (Place k)) → level (base k) n ≡ d + 1 → Fails e (run r2 g (in_list k (WantTerm n Start))))
    → (c : Nest (Leaves k) (Place k) × Before (Leaves k)) → level (base k) c.0 ≡ d → Fails e (run ts g (in_list k (WantTerm c.0 c.1)))
compound_fails k {ts} {r1} {r2} {d} {g} {name} e f h e1 e2 fails c q =
    fails_along e (list_on k g (WantTerm c.0 c.1) (HaveName c.0 c.1 name) Quiet e1 refl (quiet g f)
    ∙ list_on k g (HaveName c.0 c.1 name) (WantTerm (Inside c.0 c.1 name) Start) (Deepens (level (base k) c.0 + 1)) e2 refl
    (fits g (Deepens (level (base k) c.0 + 1)) which.TermDepth 16 (level (base k) c.0 + 1) f refl (omega arith)))
    (fails (Inside c.0 c.1 name) (ap (λ n. n + 1) q))

-- Arguments.

pub terms_one : (k : Kind) {ts rest : List Terminal} {d : ℕ} {g g' : Counted} {v : Pat} {vs : List Pat} → Read (term_level k) (term_of k) ts d g g' v rest → vs ≡ v ∷ [] → Read (terms_level k) (terms_of k) ts d g g' vs rest
terms_one k {vs = vs} a e = record {
  tree = First a.tree;
  says = λ names q. ap (λ x. x ∷ []) (a.says names q) ∙ sym e;
  grows = a.grows;
  fine = a.fine;
  shorter = a.shorter;
  counts = a.counts;
  runs = λ n q. a.runs (n, Start) q;
}

length_terms : (k : Kind) (names : List (List ℕ)) (as' : Arguments (Leaves k)) → length (terms_of k names as') ≡ count_of as'
length_terms k names (First a) = refl
length_terms k names (Next as' a) = length-append (terms_of k names as') (term_of k names a ∷ []) ∙ ap (λ n. n + 1) (length_terms k names as')

pub counted_terms : (k : Kind) {ts rest : List Terminal} {d : ℕ} {g g' : Counted} {vs : List Pat} (a : Read (terms_level k) (terms_of k) ts d g g' vs rest) → count_of a.tree ≡ length vs
counted_terms k {g' = g'} a = sym (length_terms k g'.names a.tree) ∙ ap length (a.says g'.names (extends_refl g'.names))

comma_on : (k : Kind) (n : Nest (Leaves k) (Place k)) (as' : Arguments (Leaves k)) → turn_of k (behind_terms n as' t.Comma) ≡ to (Counts (count_of as' + 1)) (in_list k (WantTerm n (Behind as')))
comma_on k n as' = list_stays k (Counts (count_of as' + 1)) (WantTerm n (Behind as'))

pub terms_more : (k : Kind) {ts r1 r2 rest : List Terminal} {d : ℕ} {g g1 g' : Counted} {vs ws : List Pat} {v : Pat} → (a : Read (terms_level k) (terms_of k) ts d g g1 vs r1) → length vs < 16 → r1 ≡ t.Comma ∷ r2
    → Read (term_level k) (term_of k) r2 d g1 g' v rest → ws ≡ vs ++ v ∷ [] → Read (terms_level k) (terms_of k) ts d g g' ws rest
terms_more k {ts} {r1} {r2} {rest} {d} {g} {g1} {g'} {vs} {ws} {v} a h e b same = record {
  tree = Next a.tree b.tree;
  says = λ names q. ap (λ l. l ++ term_of k names b.tree ∷ []) (a.says names (extends_trans b.grows q)) ∙ ap (λ x. vs ++ x ∷ []) (b.says names q) ∙ sym same;
  grows = extends_trans a.grows b.grows;
  fine = b.fine;
  shorter = omega (arith, a.shorter, ap length e, b.shorter);
  counts = λ more. a.counts ((Counts (count_of a.tree + 1), t.Comma) ∷ term (leaf_terminal k) Quiet d b.tree more) ∙ b.counts more;
  runs = λ n q.
      a.runs n q
      ∙ resume_on g1 (λ x. turn_of k (behind_terms n a.tree x)) (Counts (count_of a.tree + 1)) (in_list k (WantTerm n (Behind a.tree))) e (comma_on k n a.tree)
      (fits g1 (Counts (count_of a.tree + 1)) which.TermWidth 16 (count_of a.tree + 1) a.fine refl (let c = counted_terms k a in omega arith))
      ∙ b.runs (n, Behind a.tree) q;
}

pub terms_wide : (k : Kind) {ts r1 r2 : List Terminal} {d : ℕ} {g g1 : Counted} {vs : List Pat} → (a : Read (terms_level k) (terms_of k) ts d g g1 vs r1) → 16 ≤ length vs → r1 ≡ t.Comma ∷ r2
    → (n : Nest (Leaves k) (Place k)) → level (base k) n ≡ d → run ts g (in_list k (WantTerm n Start)) ≡ Err (fault.Limit which.TermWidth (length r1))
terms_wide k {ts} {r1} {r2} {d} {g} {g1} {vs} a h e n q =
    a.runs n q
    ∙ resume_off g1 (λ x. turn_of k (behind_terms n a.tree x)) (Counts (count_of a.tree + 1)) (in_list k (WantTerm n (Behind a.tree))) which.TermWidth e (comma_on k n a.tree)
    (exceeds g1 (Counts (count_of a.tree + 1)) which.TermWidth 16 (count_of a.tree + 1) a.fine refl (let c = counted_terms k a in omega arith))

pub terms_fail : (k : Kind) {ts r1 r2 : List Terminal} {d : ℕ} {g g1 : Counted} {vs : List Pat} (e : Stop) → (a : Read (terms_level k) (terms_of k) ts d g g1 vs r1) → length vs < 16 → r1 ≡ t.Comma ∷ r2
    → ((c : Nest (Leaves k) (Place k) × Before (Leaves k)) → level (base k) c.0 ≡ d → Fails e (run r2 g1 (in_list k (WantTerm c.0 c.1))))
    → (n : Nest (Leaves k) (Place k)) → level (base k) n ≡ d → Fails e (run ts g (in_list k (WantTerm n Start)))
terms_fail k {ts} {r1} {r2} {d} {g} {g1} {vs} e a h q fails n p =
    fails_along e (a.runs n p
    ∙ resume_on g1 (λ x. turn_of k (behind_terms n a.tree x)) (Counts (count_of a.tree + 1)) (in_list k (WantTerm n (Behind a.tree))) q (comma_on k n a.tree)
    (fits g1 (Counts (count_of a.tree + 1)) which.TermWidth 16 (count_of a.tree + 1) a.fine refl (let c = counted_terms k a in omega arith)))
    (fails (n, Behind a.tree) p)

neither : (k : Kind) (n : Nest (Leaves k) (Place k)) (as' : Arguments (Leaves k)) (x : Terminal) (xs : List Terminal) → Lacks sign.Comma (x ∷ xs) → Lacks sign.Close (x ∷ xs) → behind_terms n as' x ≡ Stuck
neither k n as' t.Comma xs c d = absurd (c refl)
neither k (Outside o) as' t.Close xs c d = absurd (d refl)
neither k (Inside n b name) as' t.Close xs c d = absurd (d refl)
neither k n as' x xs c d = refl

terms_resume : (k : Kind) (n : Nest (Leaves k) (Place k)) (as' : Arguments (Leaves k)) (g : Counted) (rest : List Terminal) → Lacks sign.Comma rest → Lacks sign.Close rest
    → resume (λ x. turn_of k (behind_terms n as' x)) rest g ≡ Err (fault.Syntax (length rest))
terms_resume k n as' g [] c d = refl
terms_resume k n as' g (x ∷ xs) c d = ap (onward (run xs) (x ∷ xs) g x) (ap (turn_of k) (neither k n as' x xs c d) ∙ list_stuck k)

pub terms_stuck : (k : Kind) {ts r1 : List Terminal} {d : ℕ} {g g1 : Counted} {vs : List Pat} → (a : Read (terms_level k) (terms_of k) ts d g g1 vs r1) → Lacks sign.Comma r1 → Lacks sign.Close r1
    → (n : Nest (Leaves k) (Place k)) → level (base k) n ≡ d → run ts g (in_list k (WantTerm n Start)) ≡ Err (fault.Syntax (length r1))
terms_stuck k {ts} {r1} {d} {g} {g1} a c l n q = a.runs n q ∙ terms_resume k n a.tree g1 r1 c l

-- Faults of callees.

pub word_err : (k : Kind) (ts : List Terminal) {d : ℕ} {g : Counted} (e : Stop) → Fine g → WordAnswer ts (Err e) → (c : Nest (Leaves k) (Place k) × Before (Leaves k)) → level (base k) c.0 ≡ d → Fails e (run ts g (in_list k (WantTerm c.0 c.1)))
word_err k ts stop.Memory f h c q = tt
word_err k ts (stop.Fault x) f h c q = word_fails k f h c q

pub leaf_err : (k : Kind) {ts rest : List Terminal} {x : Terminal} {d : ℕ} (g g' : Counted) (e : Stop) → ts ≡ x ∷ rest → LeafAnswer ts x k g g' (Err e) → (c : Nest (Leaves k) (Place k) × Before (Leaves k)) → level (base k) c.0 ≡ d → Fails e (run ts g (in_list k (WantTerm c.0 c.1)))
leaf_err k g g' stop.Memory p h c q = tt
leaf_err k g g' (stop.Fault x) p h c q = leaf_fails k p h c q

-- What stands for a term and is none, by its token.

pub leaf_variable : (k : Kind) {x : Terminal} {g g' : Counted} {name : List ℕ} {slot : ℕ} → ¬ (k ≡ Ground) → x ≡ t.Var name → ((names : List (List ℕ)) → Extends g'.names names → slot_of names name ≡ slot)
    → g' ≡ with_variable g name → Fine (with_variable g name) → LeafRead k x g g' (pat.Var slot)
leaf_variable Ground n e s h f = absurd (n refl)
leaf_variable Operand {x} {g} {g'} {name} {slot} n e s h f = record {
  leaf = name;
  reads = ap reads_variable e;
  says = λ names q. ap pat.Var (s names q);
  grows = subst (λ y. Extends g.names y.names) (sym h) (extends_name g.names name);
  counts = ap (λ y. count g (Quiet, y)) e ∙ sym h;
  fine = subst Fine (sym h) f;
}
leaf_variable Argument {x} {g} {g'} {name} {slot} n e s h f = record {
  leaf = Variable name;
  reads = ap reads_wanted e;
  says = λ names q. ap pat.Var (s names q);
  grows = subst (λ y. Extends g.names y.names) (sym h) (extends_name g.names name);
  counts = ap (λ y. count g (Quiet, y)) e ∙ sym h;
  fine = subst Fine (sym h) f;
}

pub leaf_variable_err : (k : Kind) (ts : List Terminal) {x : Terminal} {g : Counted} (g' : Counted) {name : List ℕ} (e : Stop) → Fine g → ¬ (k ≡ Ground) → x ≡ t.Var name → SlotStops ts g name e → LeafAnswer ts x k g g' (Err e)
leaf_variable_err k ts g' stop.Memory f n q h = tt
leaf_variable_err Ground ts g' (stop.Fault y) f n q h = absurd (n refl)
leaf_variable_err Operand ts {x} {g} g' {name} (stop.Fault y) f n q h = record {
  leaf = name;
  reads = ap reads_variable q;
  place = h.0;
  passes = ap (λ z. passed (count g (Quiet, z)) Quiet) q ∙ too_many_names (with_variable g name) Quiet f.parts h.1;
}
leaf_variable_err Argument ts {x} {g} g' {name} (stop.Fault y) f n q h = record {
  leaf = Variable name;
  reads = ap reads_wanted q;
  place = h.0;
  passes = ap (λ z. passed (count g (Quiet, z)) Quiet) q ∙ too_many_names (with_variable g name) Quiet f.parts h.1;
}

pub leaf_anything : (k : Kind) {x : Terminal} {g : Counted} → Fine g → k ≡ Argument → x ≡ t.Wild → LeafRead k x g g pat.Any
leaf_anything Ground f e q = cc
leaf_anything Operand f e q = cc
leaf_anything Argument {x} {g} f e q = record {
  leaf = Anything;
  reads = ap reads_wanted q;
  says = λ names h. refl;
  grows = extends_refl g.names;
  counts = ap (λ y. count g (Quiet, y)) q;
  fine = f;
}

pub no_anything : (k : Kind) {x : Terminal} → ¬ (k ≡ Argument) → x ≡ t.Wild → leaf_read k x ≡ None
no_anything Ground n e = refl
no_anything Operand n e = ap reads_variable e
no_anything Argument n e = absurd (n refl)

pub no_leaf_token : (k : Kind) (x : Terminal) → ((name : List ℕ) → ¬ (x ≡ t.Var name)) → ¬ (x ≡ t.Wild) → leaf_read k x ≡ None
no_leaf_token Ground x v w = refl
no_leaf_token Operand (t.Var name) v w = absurd (v name refl)
no_leaf_token Operand x v w = refl
no_leaf_token Argument (t.Var name) v w = absurd (v name refl)
no_leaf_token Argument t.Wild v w = absurd (w refl)
no_leaf_token Argument x v w = refl

-- Numbers.

pub positive : (n m : ℕ) → n ≡ m → n < 2 ^ 63 → to_z w64 n ≡ pos m
positive n m e h = to_z_pos w64 n h ∙ ap pos e

pub negative : (n m : ℕ) → n ≡ m → n < 2 ^ 63 → to_z w64 (of_z w64 (pos 0 -ℤ to_z w64 n)) ≡ pos 0 -ℤ pos m
negative n m e h = let p = to_z_pos w64 n h in rw p (rw e (grind (arith, to_z-of_z)))

pub word_number : {ts rest : List Terminal} {x : Terminal} {n m : ℕ} → ts ≡ x ∷ rest → x ≡ t.Number m → n ≡ m → n < 2 ^ 63 → WordRead ts (pat.Num (to_z w64 n)) rest
word_number {ts} {rest} {x} {n} {m} e q s h = record { literal = Digits m; no_symbol = tt; tokens = e ∙ ap (λ y. y ∷ rest) q; says = ap pat.Num (sym (positive n m s h)) }

pub word_negative : {ts rest : List Terminal} {x : Terminal} {n m : ℕ} → ts ≡ x ∷ rest → x ≡ t.Number m → n ≡ m → n < 2 ^ 63 → WordRead (t.Minus ∷ ts) (pat.Num (to_z w64 (of_z w64 (pos 0 -ℤ to_z w64 n)))) rest
word_negative {ts} {rest} {x} {n} {m} e q s h = record { literal = Minus m; no_symbol = tt; tokens = ap (λ l. t.Minus ∷ l) (e ∙ ap (λ y. y ∷ rest) q); says = ap pat.Num (sym (negative n m s h)) }

pub word_text : {ts rest : List Terminal} {x : Terminal} {text v : List ℕ} → ts ≡ x ∷ rest → x ≡ t.Text text → v ≡ text → WordRead ts (pat.Text v) rest
word_text {ts} {rest} {x} {text} {v} e q s = record { literal = Quoted text; no_symbol = tt; tokens = e ∙ ap (λ y. y ∷ rest) q; says = ap pat.Text (sym s) }
