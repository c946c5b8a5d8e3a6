-- The variables of one argument more.
use Rattle.std.proofs.Common.{◌≡◌, ℕ, ◌+◌, ◌<◌, ◌||◌, List, [], ◌∷◌, ◌++◌, length, get_or, take, ap, sym, ◌∙◌, append-nil}
use Rattle.std.specs.List.{flat_map}
use Rattle.std.proofs.Math.Bool.{or_assoc}
use Rattle.std.proofs.lemmas.List.{take_more}
use Rattle.std.proofs.lemmas.List.Concat.{flat_map-append}
use Rattle.event_model.specs.SlotSets.{slot_in}
use Rattle.event_model.specs.declared.terms.Pat.{Pat}
use Rattle.rule_ast.specs.Vars.{slots_of, is_in, is_in-append}

flat_map_more : (xs : List Pat) (i : ℕ) (x : Pat) → i < length xs → x ≡ get_or xs i x
    → flat_map slots_of (take (i + 1) xs) ≡ flat_map slots_of (take i xs) ++ slots_of x
flat_map_more xs i x h is =
    ap (flat_map slots_of) (take_more xs i x h)
    ∙ ap (λ y. flat_map slots_of (take i xs ++ y ∷ [])) (sym is)
    ∙ flat_map-append slots_of (take i xs) (x ∷ [])
    ∙ ap (λ ys. flat_map slots_of (take i xs) ++ ys) (append-nil (slots_of x))

pub one_more : (old new more t : ℕ) (xs : List Pat) (i : ℕ) (x : Pat) → i < length xs → x ≡ get_or xs i x
    → slot_in new t ≡ (slot_in old t || is_in t (flat_map slots_of (take i xs)))
    → slot_in more t ≡ (slot_in new t || is_in t (slots_of x))
    → slot_in more t ≡ (slot_in old t || is_in t (flat_map slots_of (take (i + 1) xs)))
one_more old new more t xs i x h is e f =
    f ∙ ap (λ b. b || is_in t (slots_of x)) e
    ∙ or_assoc (slot_in old t) (is_in t (flat_map slots_of (take i xs))) (is_in t (slots_of x))
    ∙ ap (λ b. slot_in old t || b) (sym (is_in-append t (flat_map slots_of (take i xs)) (slots_of x)))
    ∙ ap (λ ys. slot_in old t || is_in t ys) (sym (flat_map_more xs i x h is))
