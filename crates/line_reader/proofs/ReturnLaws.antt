-- The carriage return at the end of a line.
use Rattle.std.proofs.Common.{◌≡◌, ℕ, ◌≢◌, Bool, true, false, cond, eqb, eqb-true, List, [], ◌∷◌, ◌++◌, refl, sym, ap, ◌∙◌}
use Rattle.event_model.specs.Lines.{without_cr}

cr_cut : (front : List ℕ) → without_cr (front ++ 13 ∷ []) ≡ front
cr_cut [] = refl
cr_cut (b ∷ []) = refl
cr_cut (b ∷ c ∷ bytes) = ap (λ l. b ∷ l) (cr_cut (c ∷ bytes))

pub cr_was_cut : (front line cr : List ℕ) → cr ≡ 13 ∷ [] → line ≡ front ++ cr → front ≡ without_cr line
cr_was_cut front line cr e f = sym (ap without_cr (f ∙ ap (λ l. front ++ l) e) ∙ cr_cut front)

no_cr : (line : List ℕ) → ((front : List ℕ) → line ≡ front ++ 13 ∷ [] → ⊥) → line ≡ without_cr line
no_cr [] h = refl
no_cr (b ∷ []) h = at (eqb b 13) refl
  where
    at : (t : Bool) → eqb b 13 ≡ t → b ∷ [] ≡ cond t [] (b ∷ [])
    at true e = absurd (h [] (ap (λ x. x ∷ []) (eqb-true b 13 e)))
    at false e = refl
no_cr (b ∷ c ∷ bytes) h = ap (λ l. b ∷ l) (no_cr (c ∷ bytes) (λ front e. h (b ∷ front) (ap (λ l. b ∷ l) e)))

pub no_cr_to_cut : (line cr : List ℕ) → cr ≡ 13 ∷ [] → ((front : List ℕ) → line ≢ front ++ cr) → line ≡ without_cr line
no_cr_to_cut line cr e h = no_cr line (λ front f. h front (f ∙ ap (λ l. front ++ l) (sym e)))
