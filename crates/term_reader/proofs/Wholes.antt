-- Whole terms and atoms, and what their runs say of the bytes.
use Rattle.std.proofs.Common.{◌≡◌, ℕ, ◌+◌, ◌≤◌, Bool, true, false, List, [], ◌∷◌, ◌++◌, length, drop, None, Result, Ok, Err, refl, sym, ap, ◌∙◌, arith, subst, length-append, length-drop}
use Rattle.event_model.specs.declared.terms.Term.{Term}
use Rattle.event_model.specs.declared.atoms.Atom.{Atom}
use Rattle.term_reader.specs.declared.faults.TermFault.{TermFault}
use Rattle.term_reader.specs.declared.faults.TermFault.TheVariants.{Syntax, TooDeep, TooWide, NumberRange, Memory}
use Rattle.term_reader.specs.declared.signs.Sign.{Sign}
use Rattle.term_reader.specs.declared.signs.Sign.TheVariants.{Space, Tab, Lower}
use Rattle.term_reader.specs.Grammar.{Wanted, Wanted.AnyTerm, Wanted.AnAtom, Blanks.NoBlank, Tree, Tree.Name, Tree.Comp, between, Stands, PastLimit, FaultAt, TermRead, AtomRead, Viable, NoneGoesOn}
use Rattle.term_reader.specs.Machine.{Stack.Top, State.Begin, State.Want, State.Behind, step, start}
use Rattle.term_reader.specs.Steps.{Kind, Kind.Bad, Kind.Deep, Kind.Wide, Kind.Range, Outcome, Outcome.Reads, Outcome.Stops, run}
use Rattle.term_reader.specs.Readings.{begins, is_blank, is_lower, is_open, Fails, NameRead, ArgsRead, TreeAt, WholeRead, TermGiven, AtomGiven}
use Rattle.term_reader.proofs.Places.{rest_of, Meant, Past, kind_is, means}
use Rattle.term_reader.proofs.Names.{between_is}
use Rattle.term_reader.proofs.Branches.{behind_name, run_lacks}

-- outside all brackets a tree is over
pub over_top : (a : Wanted) (t : Tree) (xs : List ℕ) → run xs (Behind t (Top a) NoBlank) ≡ Reads t xs
over_top a t [] = refl
over_top a t (b ∷ rest) = refl

step_blank : (a : Wanted) (x : Sign) → is_blank x ≡ true → (lim : Bool) → step lim (Want (Top a)) x ≡ None
step_blank a Space h lim = refl
step_blank a Tab h lim = refl
step_blank a x h lim = cc

step_begin : (x : Sign) → is_lower x ≡ false → (lim : Bool) → step lim Begin x ≡ None
step_begin (Lower b) h lim = cc
step_begin x h lim = refl

pub no_name : (bytes : List ℕ) (at : ℕ) → at ≤ length bytes → begins is_lower (drop at bytes) ≡ false → (at ≤ length bytes) × (run (drop at bytes) (start AnAtom) ≡ Stops Bad (drop at bytes))
no_name bytes at h e = (h, run_lacks is_lower bytes at Begin refl e step_begin)

pub tree_given : (bytes : List ℕ) (at : ℕ) (r : Result (Term × ℕ) TermFault) → TreeAt bytes at 1 r → TermGiven bytes at r
tree_given bytes at (Ok x) h =
    (h.tree, record { ordered = omega (arith, h.ordered); inside = h.inside; reads = h.reads (Top AnyTerm) refl ∙ over_top AnyTerm h.tree (drop x.1 bytes) }, h.says)
tree_given bytes at (Err fault) h = h (Top AnyTerm) refl

pub name_given : (bytes : List ℕ) (at end : ℕ) (name name' : List ℕ) (args : List Term) → NameRead bytes at name end → begins is_open (drop end bytes) ≡ false → name' ≡ name → args ≡ [] → AtomGiven bytes at (Ok (record { name = name'; args = args }, end))
name_given bytes at end name name' args h e n q = (
  Name h.word,
  record { ordered = omega (arith, h.ordered); inside = h.inside; reads = h.starts ∙ behind_name (drop end bytes) h.word (Top AnAtom) h.over e ∙ over_top AnAtom (Name h.word) (drop end bytes) },
  (λ i. record { name = (h.is ∙ sym n) i; args = sym q i }),
)

pub comp_given : (bytes : List ℕ) (at end close : ℕ) (name name' : List ℕ) (items args : List Term) → NameRead bytes at name end → ArgsRead bytes end 0 items close → name' ≡ name → args ≡ items → AtomGiven bytes at (Ok (record { name = name'; args = args }, close))
comp_given bytes at end close name name' items args h g n q = (
  Comp h.word g.args,
  record { ordered = omega (arith, h.ordered, g.ordered); inside = g.inside; reads = h.starts ∙ g.reads h.word (Top AnAtom) refl ∙ over_top AnAtom (Comp h.word g.args) (drop close bytes) },
  (λ i. record { name = (h.is ∙ sym n) i; args = (g.says ∙ sym q) i }),
)

-- From runs to the bytes.

before : (bytes : List ℕ) (at place : ℕ) (front : List ℕ) → at ≤ length bytes → place ≤ length bytes → drop at bytes ≡ front ++ drop place bytes → at ≤ place
before bytes at place front h l e =
    let n : length (drop at bytes) ≡ length front + length (drop place bytes) = ap length e ∙ length-append front (drop place bytes) in
    omega (arith, n, length-drop at bytes, length-drop place bytes, h, l)

at_outcome : (a : Wanted) (bytes : List ℕ) (at : ℕ) (o : Outcome) → run (drop at bytes) (start a) ≡ o → (front : List ℕ) × (drop at bytes ≡ front ++ rest_of o) × Meant a front o
at_outcome a bytes at o e = subst (λ o. (front : List ℕ) × (drop at bytes ≡ front ++ rest_of o) × Meant a front o) e (means a (drop at bytes))

-- the front is what stands between the places
placed : (a : Wanted) (bytes : List ℕ) (at place : ℕ) (o : Outcome) → at ≤ length bytes → place ≤ length bytes → rest_of o ≡ drop place bytes → run (drop at bytes) (start a) ≡ o → (at ≤ place) × Meant a (between at place bytes) o
placed a bytes at place o h l r e =
    let m = at_outcome a bytes at o e in
    let w : drop at bytes ≡ m.0 ++ drop place bytes = m.1 ∙ ap (λ x. m.0 ++ x) r in
    let p = before bytes at place m.0 h l w in
    (p, subst (λ f. Meant a f o) (sym (between_is bytes at place m.0 p l w)) m.2)

stands : (a : Wanted) (bytes : List ℕ) (at end : ℕ) (t : Tree) → at ≤ length bytes → WholeRead a bytes at t end → Stands a bytes at end t
stands a bytes at end t h w =
    let p = placed a bytes at end (Reads t (drop end bytes)) h w.inside refl w.reads in
    record { ordered = p.0; inside = w.inside; fine = p.1.0; written = p.1.1; longest = p.1.2 }

limit : (a : Wanted) (bytes : List ℕ) (at place : ℕ) (k : Kind) → at ≤ place → place ≤ length bytes → Viable true a (between at place bytes) → NoneGoesOn true a (between at place bytes) (drop place bytes) → Past a (between at place bytes) (drop place bytes) k → PastLimit (kind_is k) a bytes at place
limit a bytes at place k o l v n p = record {
  stops = record { ordered = o; inside = l; viable = v; none = n };
  byte = p.byte;
  rest = p.more;
  next = p.next;
  is_kind = p.is_kind;
  viable = p.viable;
}

fault_at : (a : Wanted) (bytes : List ℕ) (at : ℕ) (fault : TermFault) → at ≤ length bytes → Fails bytes fault (run (drop at bytes) (start a)) → FaultAt a bytes at fault
fault_at a bytes at (Syntax place) h f =
    let p = placed a bytes at place (Stops Bad (drop place bytes)) h f.0 refl f.1 in
    record { stops = record { ordered = p.0; inside = f.0; viable = p.1.0; none = p.1.1 }; unfinished = p.1.2; lost = p.1.3 }
fault_at a bytes at (TooDeep place) h f =
    let p = placed a bytes at place (Stops Deep (drop place bytes)) h f.0 refl f.1 in limit a bytes at place Deep p.0 f.0 p.1.0 p.1.1 p.1.2
fault_at a bytes at (TooWide place) h f =
    let p = placed a bytes at place (Stops Wide (drop place bytes)) h f.0 refl f.1 in limit a bytes at place Wide p.0 f.0 p.1.0 p.1.1 p.1.2
fault_at a bytes at (NumberRange place) h f =
    let p = placed a bytes at place (Stops Range (drop place bytes)) h f.0 refl f.1 in limit a bytes at place Range p.0 f.0 p.1.0 p.1.1 p.1.2
fault_at a bytes at Memory h f = tt

pub term_read : (bytes : List ℕ) (at : ℕ) (r : Result (Term × ℕ) TermFault) → at ≤ length bytes → TermGiven bytes at r → TermRead bytes at r
term_read bytes at (Ok x) h g = (g.0, stands AnyTerm bytes at x.1 g.0 h g.1, g.2)
term_read bytes at (Err fault) h g = fault_at AnyTerm bytes at fault h g

pub atom_read : (bytes : List ℕ) (at : ℕ) (r : Result (Atom × ℕ) TermFault) → at ≤ length bytes → AtomGiven bytes at r → AtomRead bytes at r
atom_read bytes at (Ok x) h g = (g.0, stands AnAtom bytes at x.1 g.0 h g.1, g.2)
atom_read bytes at (Err fault) h g = fault_at AnAtom bytes at fault h g
