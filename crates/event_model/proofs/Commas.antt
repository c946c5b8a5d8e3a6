-- Arguments written one after another.
use Rattle.std.proofs.Common.{◌≡◌, ℕ, ◌+◌, ◌<◌, List, [], ◌∷◌, ◌++◌, length, map, drop, get_or, sym, ap, ◌∙◌, append-nil, append_assoc}
use Rattle.std.specs.List.{join_with_byte}
use Rattle.std.proofs.lemmas.List.{drop_more}
use Rattle.event_model.specs.declared.terms.Term.{Term}
use Rattle.event_model.specs.Text.{term_text}

-- texts, each behind a comma
abbrev pub behind_commas : List (List ℕ) → List ℕ
behind_commas [] = []
behind_commas (t ∷ ts) = 44 ∷ t ++ behind_commas ts

join-behind_commas : (t : List ℕ) (ts : List (List ℕ)) → join_with_byte 44 (t ∷ ts) ≡ t ++ behind_commas ts
join-behind_commas t [] = sym (append-nil t)
join-behind_commas t (u ∷ ts) = ap (λ l. t ++ 44 ∷ l) (join-behind_commas u ts)

-- the arguments from a place on
from_place : (xs : List Term) (i : ℕ) (x : Term) → i < length xs → x ≡ get_or xs i x → drop i xs ≡ x ∷ drop (i + 1) xs
from_place xs i x lt is = drop_more xs i x lt ∙ ap (λ y. y ∷ drop (i + 1) xs) (sym is)

-- all arguments, behind what was written before
pub first_written : (old new : List ℕ) (xs : List Term) (x : Term) → 0 < length xs → x ≡ get_or xs 0 x → new ≡ old ++ term_text x
    → new ++ behind_commas (map term_text (drop 1 xs)) ≡ old ++ join_with_byte 44 (map term_text xs)
first_written old new xs x lt is e =
    ap (λ l. l ++ behind_commas (map term_text (drop 1 xs))) e
    ∙ append_assoc old (term_text x) (behind_commas (map term_text (drop 1 xs)))
    ∙ ap (λ l. old ++ l) (sym (ap (λ l. join_with_byte 44 (map term_text l)) (from_place xs 0 x lt is) ∙ join-behind_commas (term_text x) (map term_text (drop 1 xs))))

-- one more argument
pub next_written : (old with_comma new : List ℕ) (xs : List Term) (i : ℕ) (x : Term) → i < length xs → x ≡ get_or xs i x → with_comma ≡ old ++ 44 ∷ [] → new ≡ with_comma ++ term_text x
    → new ++ behind_commas (map term_text (drop (i + 1) xs)) ≡ old ++ behind_commas (map term_text (drop i xs))
next_written old with_comma new xs i x lt is p q =
    let more : List ℕ = behind_commas (map term_text (drop (i + 1) xs)) in
    ap (λ l. l ++ more) (q ∙ ap (λ l. l ++ term_text x) p)
    ∙ append_assoc (old ++ 44 ∷ []) (term_text x) more ∙ append_assoc old (44 ∷ []) (term_text x ++ more)
    ∙ ap (λ l. old ++ behind_commas (map term_text l)) (sym (from_place xs i x lt is))

-- a name and its arguments in brackets
pub applied_written : (old name args n l a b c d : List ℕ) → n ≡ name → l ≡ args → a ≡ old ++ n → b ≡ a ++ 40 ∷ [] → c ≡ b ++ l → d ≡ c ++ 41 ∷ [] → d ≡ old ++ (name ++ 40 ∷ args ++ 41 ∷ [])
applied_written old name args n l a b c d e f p q r s = rw (s, r, q, p, e, f) (simp append_assoc)
