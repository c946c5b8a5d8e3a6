-- A way down the left parts of a pattern and up again gives its rows.
use Rattle.std.proofs.Common.{◌≡◌, ◌<◌, ◌+◌, ℕ, List, [], ◌∷◌, ◌++◌, map, Some, refl, sym, ap, ◌∙◌, arith}
use Rattle.std.specs.List.{filter}
use Rattle.std.proofs.lemmas.Option.{none-some, same_Some}
use Rattle.event_model.specs.declared.atoms.NameArity.{NameArity}
use Rattle.ev_bind.specs.declared.rows.Row.{Row}
use Rattle.rule_ast.specs.Trees.{PlainPattern, Atom, Both, Either, Where, Exact, Within, Not}
use Rattle.term_eval.specs.Values.{holds}
use Rattle.pattern_meaning.specs.PatternRows.{rows_of}
use Rattle.pattern_meaning.specs.RuleRows.{is_long, is_short, joined_rows, rows}
use Rattle.pattern_meaning.specs.Climbing.{left_part, rows_over, climbed}

-- how many patterns a pattern holds, itself among them
abbrev pub size : PlainPattern → ℕ
size (Atom a) = 1
size (Both op left right) = size left + size right + 1
size (Either left right) = size left + size right + 1
size (Where of c) = size of + 1
size (Exact of q) = size of + 1
size (Within of q) = size of + 1
size (Not inner before after) = size inner + size before + size after + 1

pub left_smaller : (p l : PlainPattern) → left_part p ≡ Some l → size l < size p
left_smaller (Atom a) l e = absurd (none-some l e)
left_smaller (Both op x y) l e = let same : size x ≡ size l = ap size (same_Some x l e) in omega (arith, same)
left_smaller (Either x y) l e = let same : size x ≡ size l = ap size (same_Some x l e) in omega (arith, same)
left_smaller (Where x c) l e = let same : size x ≡ size l = ap size (same_Some x l e) in omega (arith, same)
left_smaller (Exact x q) l e = let same : size x ≡ size l = ap size (same_Some x l e) in omega (arith, same)
left_smaller (Within x q) l e = let same : size x ≡ size l = ap size (same_Some x l e) in omega (arith, same)
left_smaller (Not i b a) l e = absurd (none-some l e)

rows_over_left : (named : NameArity → List Row) (p l : PlainPattern) → left_part p ≡ Some l → rows_over named p (rows named l) ≡ rows named p
rows_over_left named (Atom a) l e = absurd (none-some l e)
rows_over_left named (Both op x y) l e = ap (λ z. joined_rows op (rows named z) (rows named y)) (sym (same_Some x l e))
rows_over_left named (Either x y) l e = ap (λ z. rows_of (rows named z ++ rows named y)) (sym (same_Some x l e))
rows_over_left named (Where x c) l e = ap (λ z. rows_of (filter (λ r. holds c r.binding) (rows named z))) (sym (same_Some x l e))
rows_over_left named (Exact x q) l e = ap (λ z. rows_of (filter (is_long q) (rows named z))) (sym (same_Some x l e))
rows_over_left named (Within x q) l e = ap (λ z. rows_of (filter (is_short q) (rows named z))) (sym (same_Some x l e))
rows_over_left named (Not i b a) l e = absurd (none-some l e)

module _ {A : Type 0} (named : NameArity → List Row) (plain : A → PlainPattern) where
  climbed_more : (ps qs : List A) (xs : List Row) → climbed named (map plain (ps ++ qs)) xs ≡ climbed named (map plain ps) (climbed named (map plain qs) xs)
  climbed_more [] qs xs = refl
  climbed_more (p ∷ ps) qs xs = ap (rows_over named (plain p)) (climbed_more ps qs xs)

  -- one pattern more on the way down
  pub down : (ps qs : List A) (p : A) (l : PlainPattern) (xs : List Row) → qs ≡ ps ++ p ∷ [] → Some l ≡ left_part (plain p) → climbed named (map plain ps) (rows named (plain p)) ≡ xs → climbed named (map plain qs) (rows named l) ≡ xs
  down ps qs p l xs e s h =
      ap (λ k. climbed named (map plain k) (rows named l)) e ∙ climbed_more ps (p ∷ []) (rows named l) ∙ ap (climbed named (map plain ps)) (rows_over_left named (plain p) l (sym s)) ∙ h

  -- and one fewer on the way up
  pub up : (ps qs : List A) (p : A) (xs ys zs : List Row) → qs ≡ ps ++ p ∷ [] → climbed named (map plain qs) xs ≡ zs → ys ≡ rows_over named (plain p) xs → climbed named (map plain ps) ys ≡ zs
  up ps qs p xs ys zs e h r = ap (climbed named (map plain ps)) r ∙ sym (climbed_more ps (p ∷ []) xs) ∙ ap (λ l. climbed named (map plain l) xs) (sym e) ∙ h
