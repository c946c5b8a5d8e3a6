-- Lists that begin with another.
use Rattle.std.proofs.Common.{◌≡◌, ℕ, List, ◌∷◌, [], ◌++◌, length, take, drop, sym, ap, ◌∙◌, append_assoc}
use Rattle.std.specs.Io.{StartsWith}
use Rattle.std.proofs.lemmas.List.{take-append-drop}
use Rattle.std.proofs.Math.Seq.{take-append_seam}

front_is : (xs front : List ℕ) → StartsWith xs front → xs ≡ front ++ drop (length front) xs
front_is xs front e = sym (take-append-drop (length front) xs) ∙ ap (λ l. l ++ drop (length front) xs) e

pub starts_on : (xs ys zs : List ℕ) → StartsWith xs ys → StartsWith ys zs → StartsWith xs zs
starts_on xs ys zs p q =
    let more : List ℕ = drop (length ys) xs in
    let rest : List ℕ = drop (length zs) ys in
    ap (take (length zs)) (front_is xs ys p ∙ ap (λ l. l ++ more) (front_is ys zs q) ∙ append_assoc zs rest more) ∙ take-append_seam zs (rest ++ more)

pub starts_appended : (xs ys zs : List ℕ) → xs ≡ ys ++ zs → StartsWith xs ys
starts_appended xs ys zs e = ap (take (length ys)) e ∙ take-append_seam ys zs

-- one byte behind what begins so begins so
pub starts_pushed : (xs ys zs : List ℕ) (b : ℕ) → StartsWith ys zs → xs ≡ ys ++ b ∷ [] → StartsWith xs zs
starts_pushed xs ys zs b p e = starts_on xs ys zs (starts_appended xs ys (b ∷ []) e) p
