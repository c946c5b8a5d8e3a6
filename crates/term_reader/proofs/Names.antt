-- A name is its first letter and the rest of a word.
use Rattle.std.proofs.Common.{◌≡◌, ℕ, ◌+◌, ◌-◌, ◌<◌, ◌≤◌, true, false, List, [], ◌∷◌, ◌++◌, length, take, drop, get_or, refl, sym, ap, ◌∙◌, arith, subst, IsUtf8, length-drop, length-append, append_assoc}
use Rattle.std.proofs.lemmas.List.{drop_more}
use Rattle.std.proofs.lemmas.Str.{IsUtf8-nil}
use Rattle.term_reader.specs.declared.signs.Sign.{Sign}
use Rattle.term_reader.specs.declared.signs.Sign.TheVariants.{Lower}
use Rattle.term_reader.specs.Signs.{sign_of}
use Rattle.term_reader.specs.Grammar.{Wanted.AnAtom, Word, Word.OneLower, Word.MoreLower, Word.MoreUpper, Word.MoreNumber, named, between}
use Rattle.term_reader.specs.Machine.{Stack.Top, State.Want, State.Begin, step}
use Rattle.term_reader.specs.Steps.{run, onward}
use Rattle.term_reader.specs.Readings.{begins, is_lower, is_word, SmallWord, WordRead, NameRead}
use Rattle.term_reader.proofs.Bytes.{Tells, sign_tells, take_front}
use Rattle.term_reader.proofs.Utf8.{small_then}

pub between_is : (bytes : List ℕ) (at end : ℕ) (front : List ℕ) → at ≤ end → end ≤ length bytes → drop at bytes ≡ front ++ drop end bytes → between at end bytes ≡ front
between_is bytes at end front a b e =
    let n : length (drop at bytes) ≡ length front + length (drop end bytes) = ap length e ∙ length-append front (drop end bytes) in
    let m : end - at ≡ length front = omega (arith, n, length-drop at bytes, length-drop end bytes, a, b) in
    ap (λ k. take k (drop at bytes)) m ∙ ap (take (length front)) e ∙ take_front front (drop end bytes)

pub named-append : (w : Word) (rest : List ℕ) → named w rest ≡ named w [] ++ rest
named-append (OneLower b) rest = refl
named-append (MoreLower w b) rest = named-append w (b ∷ rest) ∙ sym (append_assoc (named w []) (b ∷ []) rest) ∙ ap (λ l. l ++ rest) (sym (named-append w (b ∷ [])))
named-append (MoreUpper w b) rest = named-append w (b ∷ rest) ∙ sym (append_assoc (named w []) (b ∷ []) rest) ∙ ap (λ l. l ++ rest) (sym (named-append w (b ∷ [])))
named-append (MoreNumber w d) rest = named-append w ((d + 48) ∷ rest) ∙ sym (append_assoc (named w []) ((d + 48) ∷ []) rest) ∙ ap (λ l. l ++ rest) (sym (named-append w ((d + 48) ∷ [])))

-- a lower letter that stands at a place
record LowerAt (bytes : List ℕ) (at : ℕ) : Type 0 where
  byte : ℕ
  next : drop at bytes ≡ byte ∷ drop (at + 1) bytes
  is : sign_of byte ≡ Lower byte
  small : byte < 128

as_lower : (b : ℕ) (s : Sign) → Tells b s → is_lower s ≡ true → (s ≡ Lower b) × (b < 128)
as_lower b (Lower x) t h = (ap Lower t.0, t.1)
as_lower b s t h = cc

lower_at : (bytes : List ℕ) (at : ℕ) → at < length bytes → begins is_lower (drop at bytes) ≡ true → LowerAt bytes at
lower_at bytes at h e =
    let b : ℕ = get_or bytes at 0 in
    let n : drop at bytes ≡ b ∷ drop (at + 1) bytes = drop_more bytes at 0 h in
    let l = as_lower b (sign_of b) (sign_tells b) (ap (begins is_lower) (sym n) ∙ e) in
    record { byte = b; next = n; is = l.0; small = l.1 }

one_small : (b : ℕ) → b < 128 → SmallWord (OneLower b)
one_small b h = λ rest u. small_then b rest h u

pub name_text : (bytes : List ℕ) (at end : ℕ) → at < length bytes → begins is_lower (drop at bytes) ≡ true → WordRead bytes (at + 1) end → IsUtf8 (between at end bytes)
name_text bytes at end h e w =
    let l = lower_at bytes at h e in
    let r = w.reads (OneLower l.byte) (one_small l.byte l.small) in
    subst IsUtf8 (sym (between_is bytes at end (named r.0 []) (omega (arith, w.ordered)) w.inside (l.next ∙ r.3 ∙ named-append r.0 (drop end bytes)))) (r.1 [] IsUtf8-nil)

pub name_read : (bytes : List ℕ) (at end : ℕ) (name : List ℕ) → at < length bytes → begins is_lower (drop at bytes) ≡ true → WordRead bytes (at + 1) end → begins is_word (drop end bytes) ≡ false → name ≡ between at end bytes → NameRead bytes at name end
name_read bytes at end name h e w over n =
    let l = lower_at bytes at h e in
    let r = w.reads (OneLower l.byte) (one_small l.byte l.small) in
    record {
      word = r.0;
      is = sym (between_is bytes at end (named r.0 []) (omega (arith, w.ordered)) w.inside (l.next ∙ r.3 ∙ named-append r.0 (drop end bytes))) ∙ sym n;
      ordered = omega (arith, w.ordered);
      inside = w.inside;
      reads = λ k. ap (λ y. run y (Want k)) l.next ∙ ap (onward (run (drop (at + 1) bytes)) (Want k) l.byte (drop (at + 1) bytes)) (ap (step true (Want k)) l.is) ∙ r.2 k;
      starts = ap (λ y. run y Begin) l.next ∙ ap (onward (run (drop (at + 1) bytes)) Begin l.byte (drop (at + 1) bytes)) (ap (step true Begin) l.is) ∙ r.2 (Top AnAtom);
      over = over;
    }
