-- Nothing of the grammar is refused: a tree that stands at a place is read there.
use Rattle.std.proofs.Common.{◌≡◌, ℕ, ◌+◌, ◌-◌, ◌≤◌, true, false, List, [], ◌∷◌, ◌++◌, length, drop, Option, Some, None, option_and_then, Result, Ok, Err, refl, sym, ap, ◌∙◌, arith, subst, length-drop, take-append-drop}
use Rattle.std.proofs.lemmas.List.{drop-drop}
use Rattle.event_model.specs.declared.terms.Term.{Term}
use Rattle.event_model.specs.declared.atoms.Atom.{Atom}
use Rattle.term_reader.specs.declared.faults.TermFault.{TermFault}
use Rattle.term_reader.specs.declared.signs.Sign.{Sign}
use Rattle.term_reader.specs.Signs.{sign_of, signs}
use Rattle.term_reader.specs.Grammar.{Wanted, Wanted.AnyTerm, Wanted.AnAtom, Tree, value, atom_value, between, Stands, NoneGoesOn}
use Rattle.term_reader.specs.Machine.{State, step, said, start}
use Rattle.term_reader.specs.Steps.{Outcome.Reads, run, onward, halted, ended}
use Rattle.term_reader.specs.Readings.{TermGiven, AtomGiven}
use Rattle.term_reader.specs.Limits.{TermFound, AtomFound}
use Rattle.term_reader.proofs.Walks.{walk, tree_walks, behind_tree, said_tree, FineState, Fines, step_fine}
use Rattle.term_reader.proofs.Loose.{Loosens, step_loosens}
use Rattle.term_reader.proofs.Places.{Leads, leads_on, stays, start_fine, viable_past}
use Rattle.term_reader.proofs.Canonical.{run_on, same_tree, fault_is_memory}

same_state : {x y : State} → Some x ≡ Some y → x ≡ y
same_state e = cc

pub leads_walk : (a : Wanted) (front : List ℕ) (s to : State) → FineState true a s → walk true (signs front) s ≡ Some to → Leads a s front to
unfolding signs
leads_walk a [] s to f e = subst (Leads a s []) (same_state e) (stays a s f)
leads_walk a (b ∷ front) s to f e = at (step true s (sign_of b)) refl e (step_fine true a s (sign_of b) f) (leads_walk a front)
  where
    at : (o : Option State) → step true s (sign_of b) ≡ o → option_and_then (walk true (signs front)) o ≡ Some to → Fines true a o → ((s to : State) → FineState true a s → walk true (signs front) s ≡ Some to → Leads a s front to) → Leads a s (b ∷ front) to
    at None p e g more = absurd (let f = e in cc)
    at (Some u) p e g more = leads_on a s b u front to p (more u to g e)

-- where nothing goes on past the limits, nothing goes on within them
tight_step : (x : Sign) (o u : Option State) → u ≡ None → Loosens x o u → o ≡ None
tight_step x None u e h = refl
tight_step x (Some s) u e h = absurd (let f = sym h ∙ e in cc)

over_at : (a : Wanted) (t : Tree) (front rest : List ℕ) (to : State) → Leads a (start a) front to → said to ≡ Some t → NoneGoesOn false a front rest → run rest to ≡ Reads t rest
over_at a t front [] to l e n = ap (λ o. ended o []) e
over_at a t front (b ∷ rest) to l e n = at (step false to (sign_of b)) refl
  where
    at : (o : Option State) → step false to (sign_of b) ≡ o → run (b ∷ rest) to ≡ Reads t (b ∷ rest)
    at (Some on) p = absurd (n (viable_past a front to b on l p))
    at None p =
        ap (onward (run rest) to b rest) (tight_step (sign_of b) (step true to (sign_of b)) (step false to (sign_of b)) p (step_loosens to (sign_of b)))
        ∙ ap (λ o. halted o to b rest) p ∙ ap (λ o. ended o (b ∷ rest)) e

cut : (bytes : List ℕ) (at end : ℕ) → at ≤ end → drop at bytes ≡ between at end bytes ++ drop end bytes
cut bytes at end h =
    let n : at + (end - at) ≡ end = omega arith in
    sym (take-append-drop (end - at) (drop at bytes)) ∙ ap (λ y. between at end bytes ++ y) (drop-drop (end - at) at bytes ∙ ap (λ k. drop k bytes) n)

stands_run : (a : Wanted) (bytes : List ℕ) (at end : ℕ) (t : Tree) → Stands a bytes at end t → run (drop at bytes) (start a) ≡ Reads t (drop end bytes)
stands_run a bytes at end t s =
    let front : List ℕ = between at end bytes in
    let w : walk true (signs front) (start a) ≡ Some (behind_tree t a) = ap (λ y. walk true y (start a)) (sym s.written) ∙ tree_walks true a t [] s.fine in
    ap (λ y. run y (start a)) (cut bytes at end s.ordered) ∙ run_on front (drop end bytes) (start a) (behind_tree t a) w
    ∙ over_at a t front (drop end bytes) (behind_tree t a) (leads_walk a front (start a) (behind_tree t a) (start_fine a) w) (said_tree t a) s.longest

same_end : (bytes : List ℕ) (x y : ℕ) → x ≤ length bytes → y ≤ length bytes → drop x bytes ≡ drop y bytes → x ≡ y
same_end bytes x y h k e = omega (arith, ap length e, length-drop x bytes, length-drop y bytes, h, k)

pub term_found : (bytes : List ℕ) (at : ℕ) (r : Result (Term × ℕ) TermFault) → TermGiven bytes at r → TermFound bytes at r
term_found bytes at (Ok x) g = λ t end s.
    let u = same_tree (sym g.1.reads ∙ stands_run AnyTerm bytes at end t s) in
    (sym g.2 ∙ ap value u.0, same_end bytes x.1 end g.1.inside s.inside u.1)
term_found bytes at (Err fault) g = λ t end s. fault_is_memory bytes fault t (drop end bytes) (run (drop at bytes) (start AnyTerm)) (stands_run AnyTerm bytes at end t s) g

pub atom_found : (bytes : List ℕ) (at : ℕ) (r : Result (Atom × ℕ) TermFault) → AtomGiven bytes at r → AtomFound bytes at r
atom_found bytes at (Ok x) g = λ t end s.
    let u = same_tree (sym g.1.reads ∙ stands_run AnAtom bytes at end t s) in
    (sym g.2 ∙ ap atom_value u.0, same_end bytes x.1 end g.1.inside s.inside u.1)
atom_found bytes at (Err fault) g = λ t end s. fault_is_memory bytes fault t (drop end bytes) (run (drop at bytes) (start AnAtom)) (stands_run AnAtom bytes at end t s) g
