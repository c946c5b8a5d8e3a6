-- Letters of a text, one after another.
use Rattle.std.proofs.Common.{◌≡◌, ℕ, ◌+◌, ◌<◌, Bool, true, false, cond, List, [], ◌∷◌, ◌++◌, drop, get_or, refl, sym, ap, ◌∙◌, arith, subst, IsUtf8, append_assoc}
use Rattle.std.specs.Prelude.{◌==◌}
use Rattle.std.proofs.lemmas.List.{drop_more}
use Rattle.std.proofs.lemmas.Str.{IsUtf8-nil, IsUtf8-append}
use Rattle.term_reader.specs.declared.signs.Sign.{Sign}
use Rattle.term_reader.specs.declared.signs.Sign.TheVariants.{Space, Digit, Lower, Upper, Open, Close, Comma, Quote, Backslash, Minus, Plus, High, Other}
use Rattle.term_reader.specs.declared.signs.Status.TheVariants.{Whole, Needs}
use Rattle.term_reader.specs.declared.signs.Need.{Need}
use Rattle.term_reader.specs.Signs.{byte_of, is_plain, is_escape, escaped, status_first, status_more}
use Rattle.term_reader.specs.Grammar.{Bytes.OneByte, Bytes.MoreByte, Letter, Letter.Plain, Letter.Escape, Letter.Wide, Letters, Letters.NoLetter, Letters.MoreLetter, raw, status, decoded, texted, between}
use Rattle.term_reader.specs.Machine.{State.InText, State.InEscape, State.InWide, guard, character}
use Rattle.term_reader.specs.Steps.{run}
use Rattle.term_reader.specs.Readings.{SignAt, LetterRead, LettersRead, WideRead}
use Rattle.term_reader.proofs.Bytes.{Tells, sign_tells, byte_back}
use Rattle.term_reader.proofs.Utf8.{small_then, of_whole, raw-append}
use Rattle.term_reader.proofs.Names.{between_is}
use Rattle.term_reader.proofs.Forms.{run_step}
use Rattle.term_reader.proofs.Walks.{step_plain}

-- the byte at a place
head_is : {x y : ℕ} {xs ys : List ℕ} → x ∷ xs ≡ y ∷ ys → x ≡ y
head_is e = cc

index_is : (bytes : List ℕ) (at : ℕ) (s : Sign) → SignAt bytes at s → get_or bytes at 0 ≡ byte_of s
index_is bytes at s h = head_is (sym (drop_more bytes at 0 h.inside) ∙ h.next) ∙ sym (byte_back h.byte) ∙ ap byte_of h.is

plain_small : (b : ℕ) (s : Sign) → Tells b s → is_plain s ≡ true → byte_of s < 128
plain_small b Space t h = omega arith
plain_small b (Digit d) t h = omega (arith, t.2)
plain_small b (Lower x) t h = omega (arith, t.0, t.1)
plain_small b (Upper x) t h = omega (arith, t.0, t.1)
plain_small b Open t h = omega arith
plain_small b Close t h = omega arith
plain_small b Comma t h = omega arith
plain_small b Minus t h = omega arith
plain_small b Plus t h = omega arith
plain_small b (Other x) t h = omega (arith, t.0, t.1)
plain_small b s t h = cc

pub plain_read : (bytes : List ℕ) (at : ℕ) (s : Sign) (old new : List ℕ) → SignAt bytes at s → is_plain s ≡ true → new ≡ old ++ get_or bytes at 0 ∷ [] → LetterRead bytes at (at + 1) old new
plain_read bytes at s old new h p e = record {
  letter = Plain s;
  says = e ∙ ap (λ x. old ++ x ∷ []) (index_is bytes at s h);
  text = small_then (byte_of s) [] (plain_small h.byte s (subst (Tells h.byte) h.is (sign_tells h.byte)) p) IsUtf8-nil;
  ordered = omega arith;
  inside = omega (arith, h.inside);
  reads = λ l k. run_step bytes at s (InText l k) (InText (MoreLetter l (Plain s)) k) h (step_plain true l k s p);
}

escaped_small : (s : Sign) → is_escape s ≡ true → escaped s < 128
escaped_small Quote h = omega arith
escaped_small Backslash h = omega arith
escaped_small (Lower b) h = at (b == 110)
  where
    at : (c : Bool) → cond c 10 9 < 128
    at true = omega arith
    at false = omega arith
escaped_small s h = cc

pub escape_read : (bytes : List ℕ) (at : ℕ) (s : Sign) (b : ℕ) (old new : List ℕ) → SignAt bytes at Backslash → SignAt bytes (at + 1) s → is_escape s ≡ true → b ≡ escaped s → new ≡ old ++ b ∷ [] → LetterRead bytes at (at + 2) old new
escape_read bytes at s b old new h g p q e =
    let n : at + 1 + 1 ≡ at + 2 = omega arith in
    record {
      letter = Escape s;
      says = e ∙ ap (λ x. old ++ x ∷ []) q;
      text = small_then (escaped s) [] (escaped_small s p) IsUtf8-nil;
      ordered = omega arith;
      inside = omega (arith, g.inside);
      reads = λ l k. run_step bytes at Backslash (InText l k) (InEscape l k) h refl
          ∙ run_step bytes (at + 1) s (InEscape l k) (InText (MoreLetter l (Escape s)) k) g (ap (λ c. guard c (InText (MoreLetter l (Escape s)) k)) p)
          ∙ ap (λ m. run (drop m bytes) (InText (MoreLetter l (Escape s)) k)) n;
    }

high_is : (bytes : List ℕ) (at x : ℕ) → (h : SignAt bytes at (High x)) → h.byte ≡ x
high_is bytes at x h = sym (byte_back h.byte) ∙ ap byte_of h.is

pub wide_start : (bytes : List ℕ) (at x : ℕ) (need : Need) → SignAt bytes at (High x) → status_first x ≡ Needs need → WideRead bytes at (at + 1) need
wide_start bytes at x need h e = record {
  so_far = OneByte x;
  status = e;
  raw = h.next ∙ ap (λ y. y ∷ drop (at + 1) bytes) (high_is bytes at x h);
  ordered = omega arith;
  inside = omega (arith, h.inside);
  reads = λ l k. run_step bytes at (High x) (InText l k) (InWide l (OneByte x) k) h (ap (character l (OneByte x) k) e);
}

wide_raw : (bytes : List ℕ) (at end y : ℕ) (need : Need) → (w : WideRead bytes at end need) → SignAt bytes end (High y) → drop at bytes ≡ raw (MoreByte w.so_far y) (drop (end + 1) bytes)
wide_raw bytes at end y need w h = w.raw ∙ ap (raw w.so_far) (h.next ∙ ap (λ x. x ∷ drop (end + 1) bytes) (high_is bytes end y h))

pub wide_more : (bytes : List ℕ) (at end y : ℕ) (need next : Need) → WideRead bytes at end need → SignAt bytes end (High y) → status_more (Needs need) y ≡ Needs next → WideRead bytes at (end + 1) next
wide_more bytes at end y need next w h e =
    let s : status (MoreByte w.so_far y) ≡ Needs next = ap (λ t. status_more t y) w.status ∙ e in
    record {
      so_far = MoreByte w.so_far y;
      status = s;
      raw = wide_raw bytes at end y need w h;
      ordered = omega (arith, w.ordered);
      inside = omega (arith, h.inside);
      reads = λ l k. w.reads l k ∙ run_step bytes end (High y) (InWide l w.so_far k) (InWide l (MoreByte w.so_far y) k) h (ap (character l (MoreByte w.so_far y) k) s);
    }

pub wide_whole : (bytes : List ℕ) (at end y : ℕ) (need : Need) (old new : List ℕ) → WideRead bytes at end need → SignAt bytes end (High y) → status_more (Needs need) y ≡ Whole → new ≡ old ++ between at (end + 1) bytes → LetterRead bytes at (end + 1) old new
wide_whole bytes at end y need old new w h e n =
    let s : status (MoreByte w.so_far y) ≡ Whole = ap (λ t. status_more t y) w.status ∙ e in
    let b : between at (end + 1) bytes ≡ raw (MoreByte w.so_far y) [] = between_is bytes at (end + 1) (raw (MoreByte w.so_far y) []) (omega (arith, w.ordered)) (omega (arith, h.inside)) (wide_raw bytes at end y need w h ∙ raw-append (MoreByte w.so_far y) (drop (end + 1) bytes)) in
    record {
      letter = Wide (MoreByte w.so_far y);
      says = n ∙ ap (λ x. old ++ x) b;
      text = of_whole (MoreByte w.so_far y) s;
      ordered = omega (arith, w.ordered);
      inside = omega (arith, h.inside);
      reads = λ l k. w.reads l k ∙ run_step bytes end (High y) (InWide l w.so_far k) (InText (MoreLetter l (Wide (MoreByte w.so_far y))) k) h (ap (character l (MoreByte w.so_far y) k) s);
    }

pub decoded-append : (c : Letter) (rest : List ℕ) → decoded c rest ≡ decoded c [] ++ rest
decoded-append (Plain s) rest = refl
decoded-append (Escape s) rest = refl
decoded-append (Wide bs) rest = raw-append bs rest

pub texted-append : (l : Letters) (rest : List ℕ) → texted l rest ≡ texted l [] ++ rest
texted-append NoLetter rest = refl
texted-append (MoreLetter l c) rest =
    texted-append l (decoded c rest) ∙ ap (λ x. texted l [] ++ x) (decoded-append c rest) ∙ sym (append_assoc (texted l []) (decoded c []) rest)
    ∙ ap (λ x. x ++ rest) (sym (texted-append l (decoded c [])))

pub letters_more : (bytes : List ℕ) (at end next : ℕ) (old new : List ℕ) → LettersRead bytes at end old → LetterRead bytes end next old new → LettersRead bytes at next new
letters_more bytes at end next old new h g = record {
  letters = MoreLetter h.letters g.letter;
  says = g.says ∙ ap (λ x. x ++ decoded g.letter []) h.says ∙ sym (texted-append h.letters (decoded g.letter []));
  utf8 = subst IsUtf8 (sym g.says) (IsUtf8-append old (decoded g.letter []) h.utf8 g.text);
  inside = g.inside;
  ordered = omega (arith, h.ordered, g.ordered);
  reads = λ k. h.reads k ∙ g.reads h.letters k;
}
