-- One number, and one line, more.
use Rattle.std.proofs.Common.{◌≡◌, ℕ, zero, suc, ◌+◌, List, [], ◌∷◌, ◌++◌, length, refl, ap, sym, ◌∙◌, arith, add-one, append-nil, append_assoc, length-append}
use Rattle.std.specs.Prelude.{decimal}
use Rattle.std.specs.List.{flat_map}
use Rattle.std.proofs.lemmas.Grind.{flat_map-append}
use Rattle.event_model.specs.declared.atoms.NameArity.{NameArity}
use Rattle.event_model.specs.Bytes.{feed, space, bang}
use Rattle.drill_lines.specs.Drill.{numbers, one_number, Made, Drilled, drilled, with_line, next_line}
use Rattle.drill_lines.specs.DrillText.{line_text, drill_text}

pub numbers_more : (n x : ℕ) → numbers (n + 1) x ≡ one_number (numbers n x)
numbers_more n x = rw add-one refl

-- the line after so many lines, from a seed
abbrev pub line_of : List NameArity → ℕ → ℕ → Made
line_of kinds seed n = next_line kinds (drilled kinds seed n).lines (drilled kinds seed n).state

pub drilled_more : (kinds : List NameArity) (seed n : ℕ) → drilled kinds seed (n + 1) ≡ with_line (drilled kinds seed n).lines
    (line_of kinds seed n)
drilled_more kinds seed n = rw add-one refl

pub drilled_length : (kinds : List NameArity) (seed n : ℕ) → length (drilled kinds seed n).lines ≡ n
drilled_length kinds seed zero = refl
drilled_length kinds seed (suc n) =
    let before = drilled_length kinds seed n in
    length-append (drilled kinds seed n).lines ((line_of kinds seed n).line ∷ []) ∙ omega (arith, before)

pub drill_text_more : (kinds : List NameArity) (seed n : ℕ) → drill_text kinds seed (n + 1) ≡ drill_text kinds seed n
    ++ line_text (line_of kinds seed n).line
drill_text_more kinds seed n =
    ap (λ (d : Drilled). flat_map line_text d.lines) (drilled_more kinds seed n)
    ∙ flat_map-append line_text (drilled kinds seed n).lines ((line_of kinds seed n).line ∷ [])
    ∙ ap (λ l. drill_text kinds seed n ++ l) (append-nil (line_text (line_of kinds seed n).line))

-- where there are no events, each line raises the bound to its number
pub advance_more : (seed n : ℕ) (out : List ℕ) → out ≡ drill_text [] seed n
    → ((out ++ bang ∷ space ∷ []) ++ decimal (n + 1)) ++ feed ∷ [] ≡ drill_text [] seed (n + 1)
advance_more seed n out old =
    append_assoc (out ++ bang ∷ space ∷ []) (decimal (n + 1)) (feed ∷ [])
    ∙ append_assoc out (bang ∷ space ∷ []) (decimal (n + 1) ++ feed ∷ [])
    ∙ ap (λ l. l ++ bang ∷ space ∷ (decimal (n + 1) ++ feed ∷ [])) old
    ∙ ap (λ k. drill_text [] seed n ++ bang ∷ space ∷ (decimal (k + 1) ++ feed ∷ [])) (sym (drilled_length [] seed n))
    ∙ sym (drill_text_more [] seed n)
