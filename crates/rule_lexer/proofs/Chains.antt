-- The tokens of a text up to some place, one behind the other.
use Rattle.std.proofs.Common.{◌≡◌, ℕ, ◌<◌, Bool, false, length, List, [], ◌∷◌, ◌++◌, refl, sym, subst, Option, Some, Ok}
use Rattle.rule_lexer.specs.declared.tokens.Token.{Token}
use Rattle.rule_lexer.specs.Places.{first_place, NoneFrom, IfToken}
use Rattle.rule_lexer.specs.declared.terminals.Terminal.{Terminal}
use Rattle.rule_lexer.specs.Lexing.{TerminalAt, Lexing}

-- from a place on, these terminals stand at these places, and the last ends at another place
abbrev pub Lexes : List ℕ → ℕ → List Terminal → List ℕ → ℕ → Type 0
Lexes text at [] [] to = at ≡ to
Lexes text at [] (p ∷ ps) to = ⊥
Lexes text at (t ∷ ts) [] to = ⊥
Lexes text at (t ∷ ts) (p ∷ ps) to = (mid : ℕ) × ((p ≡ first_place text at) × TerminalAt text t p mid × Lexes text mid ts ps to)

-- one more at the end
pub lexes_more : (text : List ℕ) (at : ℕ) (ts : List Terminal) (ps : List ℕ) (mid : ℕ) (t : Terminal) (p to : ℕ)
    → Lexes text at ts ps mid → p ≡ first_place text mid → TerminalAt text t p to → Lexes text at (ts ++ t ∷ []) (ps ++ p ∷ []) to
lexes_more text at [] [] mid t p to h e l = (to, (subst (λ a. p ≡ first_place text a) (sym h) e, l, refl))
lexes_more text at [] (q ∷ ps) mid t p to h e l = absurd h
lexes_more text at (u ∷ ts) [] mid t p to h e l = absurd h
lexes_more text at (u ∷ ts) (q ∷ ps) mid t p to h e l = (h.0, (h.1.0, h.1.1, lexes_more text h.0 ts ps mid t p to h.1.2 e l))

pub lexes_none : (text : List ℕ) (at : ℕ) (ts : List Terminal) (ps : List ℕ) → ts ≡ [] → ps ≡ [] → Lexes text at ts ps at
lexes_none text at ts ps e f = subst (λ us. Lexes text at us ps at) (sym e) (subst (λ qs. Lexes text at [] qs at) (sym f) refl)

pub lexes_push : (text : List ℕ) (at : ℕ) (ts us : List Terminal) (ps qs : List ℕ) (mid : ℕ) (t : Terminal) (p to : ℕ)
    → Lexes text at ts ps mid → p ≡ first_place text mid → TerminalAt text t p to → us ≡ ts ++ t ∷ [] → qs ≡ ps ++ p ∷ [] → Lexes text at us qs to
lexes_push text at ts us ps qs mid t p to h e l f g = subst (λ vs. Lexes text at vs qs to) (sym f) (subst (λ rs. Lexes text at (ts ++ t ∷ []) rs to) (sym g) (lexes_more text at ts ps mid t p to h e l))

pub no_more : (text : List ℕ) (at end : ℕ) → end ≡ first_place text at → first_place text at < length text → NoneFrom text (first_place text at) → Lexing text at [] [] end false
no_more text at end e l n = (e, subst (λ m. m < length text) (sym e) l, subst (NoneFrom text) (sym e) n)

-- and the end of all
pub lexes_end : (text : List ℕ) (at : ℕ) (ts : List Terminal) (ps : List ℕ) (mid end : ℕ) (whole : Bool)
    → Lexes text at ts ps mid → Lexing text mid [] [] end whole → Lexing text at ts ps end whole
lexes_end text at [] [] mid end whole h l = subst (λ a. Lexing text a [] [] end whole) (sym h) l
lexes_end text at [] (q ∷ ps) mid end whole h l = absurd h
lexes_end text at (u ∷ ts) [] mid end whole h l = absurd h
lexes_end text at (u ∷ ts) (q ∷ ps) mid end whole h l = (h.0, (h.1.0, h.1.1, lexes_end text h.0 ts ps mid end whole h.1.2 l))

-- what is said of an answer's token
pub told : {o : Option Token} {t : Token} → o ≡ Some t → (P : Token → Type 0) → IfToken (Ok o) P → P t
told e P h = subst (λ x. IfToken (Ok x) P) e h
