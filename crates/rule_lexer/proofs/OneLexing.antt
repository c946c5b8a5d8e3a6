-- A text has its tokens in one way.
use Rattle.std.proofs.Common.{◌≡◌, ℕ, ◌-◌, ◌≤◌, ◌<◌, Bool, true, false, List, [], ◌∷◌, length, refl, sym, ap, ◌∙◌, subst, arith}
use Rattle.std.specs.Prelude.{slice_range}
use Rattle.rule_lexer.specs.Places.{first_place, IsLongest}
use Rattle.rule_lexer.proofs.KindLaws.{same_token}
use Rattle.rule_lexer.proofs.EdgeLaws.{token_some}
use Rattle.rule_lexer.specs.declared.terminals.Terminal.{Terminal}
use Rattle.rule_lexer.specs.Lexing.{terminal_of, TerminalAt, Lexing}

-- one place has one token
same_terminal : (text : List ℕ) (t u : Terminal) (from m n : ℕ) → TerminalAt text t from m → TerminalAt text u from n → (t ≡ u) × (m ≡ n)
same_terminal text t u from m n h i =
    let s = same_token h.kind i.kind text from m n h.longest i.longest in
    (h.says ∙ (ap (λ k. terminal_of k (slice_range text from m)) s.0 ∙ (ap (λ x. terminal_of i.kind (slice_range text from x)) s.1 ∙ sym i.says)), s.1)

-- and none where a text's tokens end
no_terminal : (text : List ℕ) (at end : ℕ) (whole : Bool) (t : Terminal) (p to : ℕ) → Lexing text at [] [] end whole → p ≡ first_place text at → TerminalAt text t p to → ⊥
no_terminal text at end true t p to h e l = let s = l.longest.stands in let some : p < to = token_some text l.kind p to s in let w = s.within in omega arith
no_terminal text at end false t p to h e l = let s = (subst (λ x. IsLongest text l.kind x to) (e ∙ sym h.0) l.longest).stands in h.2 l.kind to s

same_end : (text : List ℕ) (at m n : ℕ) (v w : Bool) → Lexing text at [] [] m v → Lexing text at [] [] n w → (m ≡ n) × (v ≡ w)
same_end text at m n true true h i = (h.1 ∙ sym i.1, refl)
same_end text at m n true false h i = absurd (omega (arith, i.1))
same_end text at m n false true h i = absurd (omega (arith, h.1))
same_end text at m n false false h i = (h.0 ∙ sym i.0, refl)

pub same_lexing : (text : List ℕ) (at : ℕ) (ts us : List Terminal) (ps qs : List ℕ) (m n : ℕ) (v w : Bool) → Lexing text at ts ps m v → Lexing text at us qs n w → (ts ≡ us) × (ps ≡ qs) × (m ≡ n) × (v ≡ w)
same_lexing text at [] [] [] [] m n v w h i = let e = same_end text at m n v w h i in (refl, refl, e.0, e.1)
same_lexing text at [] us (p ∷ ps) qs m n v w h i = absurd h
same_lexing text at (t ∷ ts) us [] qs m n v w h i = absurd h
same_lexing text at ts [] ps (q ∷ qs) m n v w h i = absurd i
same_lexing text at ts (u ∷ us) ps [] m n v w h i = absurd i
same_lexing text at [] (u ∷ us) [] (q ∷ qs) m n v w h i = absurd (no_terminal text at m v u q i.0 h i.1.0 i.1.1)
same_lexing text at (t ∷ ts) [] (p ∷ ps) [] m n v w h i = absurd (no_terminal text at n w t p h.0 i h.1.0 h.1.1)
same_lexing text at (t ∷ ts) (u ∷ us) (p ∷ ps) (q ∷ qs) m n v w h i =
    let place : p ≡ q = h.1.0 ∙ sym i.1.0 in
    let s = same_terminal text t u q h.0 i.0 (subst (λ x. TerminalAt text t x h.0) place h.1.1) i.1.1 in
    let rest = same_lexing text i.0 ts us ps qs m n v w (subst (λ x. Lexing text x ts ps m v) s.1 h.1.2) i.1.2 in
    let e = rest.0 in let f = rest.1 in let g = s.0 in
    ((cc), (cc), rest.2, rest.3)

-- there are no more tokens than bytes
pub few_terminals : (text : List ℕ) (at : ℕ) (ts : List Terminal) (ps : List ℕ) (end : ℕ) (whole : Bool) → Lexing text at ts ps end whole → length ts ≤ length text - at
few_terminals text at [] ps end whole h = omega arith
few_terminals text at (t ∷ ts) [] end whole h = absurd h
few_terminals text at (t ∷ ts) (p ∷ ps) end whole h =
    let s = h.1.1.longest.stands in
    let some : p < h.0 = token_some text h.1.1.kind p h.0 s in
    let w : h.0 ≤ length text = s.within in
    let e : p ≡ first_place text at = h.1.0 in
    let rest : length ts ≤ length text - h.0 = few_terminals text h.0 ts ps end whole h.1.2 in
    omega arith
