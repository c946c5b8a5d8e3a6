-- What was read so far, with what stands next, is more that was read.
use Rattle.std.proofs.Common.{◌≡◌, ℕ, ◌+◌, ◌*◌, ◌-◌, ◌/◌, ◌<◌, ◌≤◌, ◌⊎◌, inl, inr, Bool, true, false, List, ◌∷◌, length, drop, Some, None, refl, sym, ap, ◌∙◌, arith, subst, IsUtf8}
use Rattle.std.proofs.lemmas.Bool.{le-leb, lt-ltb}
use Rattle.term_reader.specs.declared.signs.Sign.{Sign}
use Rattle.term_reader.specs.declared.signs.Sign.TheVariants.{Space, Tab, Digit, Lower, Upper}
use Rattle.term_reader.specs.Signs.{DigitFits}
use Rattle.term_reader.specs.Grammar.{Blanks, Blanks.MoreSpace, Blanks.MoreTab, Digits.MoreDigit, Word, Word.MoreLower, Word.MoreUpper, Word.MoreNumber, named, number, fits}
use Rattle.term_reader.specs.Machine.{State, State.InWord, State.InNumber, Stack, guard, step}
use Rattle.term_reader.specs.Steps.{Outcome.Stops, limit_at, run, onward, halted}
use Rattle.term_reader.specs.Readings.{SignAt, BlanksRead, WordRead, DigitsRead, most_of}
use Rattle.term_reader.proofs.Bytes.{Tells, sign_tells}
use Rattle.term_reader.proofs.Utf8.{small_then}

-- one step of the machine, over the byte at a place

pub run_step : (bytes : List ℕ) (at : ℕ) (s : Sign) (from to : State) → SignAt bytes at s → step true from s ≡ Some to → run (drop at bytes) from ≡ run (drop (at + 1) bytes) to
run_step bytes at s from to h e = ap (λ y. run y from) h.next ∙ ap (onward (run (drop (at + 1) bytes)) from h.byte (drop (at + 1) bytes)) (ap (step true from) h.is ∙ e)

pub run_limit : (bytes : List ℕ) (at : ℕ) (s : Sign) (from to : State) → SignAt bytes at s → step true from s ≡ None → step false from s ≡ Some to → run (drop at bytes) from ≡ Stops (limit_at s) (drop at bytes)
run_limit bytes at s from to h e f =
    ap (λ y. run y from) h.next ∙ ap (onward (run (drop (at + 1) bytes)) from h.byte (drop (at + 1) bytes)) (ap (step true from) h.is ∙ e)
    ∙ ap (λ o. halted o from h.byte (drop (at + 1) bytes)) (ap (step false from) h.is ∙ f)
    ∙ ap (λ x. Stops (limit_at x) (h.byte ∷ drop (at + 1) bytes)) h.is ∙ ap (Stops (limit_at s)) (sym h.next)

pub sign_as : (bytes : List ℕ) (at : ℕ) (s u : Sign) → SignAt bytes at s → s ≡ u → SignAt bytes at u
sign_as bytes at s u h e = subst (SignAt bytes at) e h

-- blanks

pub blanks_start : (bytes : List ℕ) (at : ℕ) → at ≤ length bytes → BlanksRead bytes at at
blanks_start bytes at h = record { inside = h; ordered = omega arith; reads = λ b. (b, λ f p q. refl) }

blanks_sign : (bytes : List ℕ) (at end : ℕ) (s : Sign) (g : Blanks → Blanks) → ((f : Blanks → State) → ((b : Blanks) → step true (f b) Space ≡ Some (f (MoreSpace b))) → ((b : Blanks) → step true (f b) Tab ≡ Some (f (MoreTab b))) → (b : Blanks) → step true (f b) s ≡ Some (f (g b)))
    → BlanksRead bytes at end → SignAt bytes end s → BlanksRead bytes at (end + 1)
blanks_sign bytes at end s g go h a = record {
  inside = omega (arith, a.inside);
  ordered = omega (arith, h.ordered);
  reads = λ b. let r = h.reads b in (g r.0, λ f p q. r.1 f p q ∙ run_step bytes end s (f r.0) (f (g r.0)) a (go f p q r.0));
}

pub blanks_more : (bytes : List ℕ) (at end : ℕ) (s : Sign) → BlanksRead bytes at end → SignAt bytes end s → (s ≡ Space) ⊎ (s ≡ Tab) → BlanksRead bytes at (end + 1)
blanks_more bytes at end s h a (inl e) = blanks_sign bytes at end Space MoreSpace (λ f p q b. p b) h (sign_as bytes end s Space a e)
blanks_more bytes at end s h a (inr e) = blanks_sign bytes at end Tab MoreTab (λ f p q b. q b) h (sign_as bytes end s Tab a e)

-- words

-- a letter of a word is its byte, which is below 128
told_by : (bytes : List ℕ) (at : ℕ) (s : Sign) → (h : SignAt bytes at s) → Tells h.byte s
told_by bytes at s h = subst (Tells h.byte) h.is (sign_tells h.byte)

word_sign : (bytes : List ℕ) (at end : ℕ) (s : Sign) (x : ℕ) (f : Word → Word) → ((w : Word) (k : Stack) → step true (InWord w k) s ≡ Some (InWord (f w) k)) → ((w : Word) (rest : List ℕ) → named (f w) rest ≡ named w (x ∷ rest))
    → WordRead bytes at end → (a : SignAt bytes end s) → a.byte ≡ x → x < 128 → WordRead bytes at (end + 1)
word_sign bytes at end s x f p n h a e small = record {
  ordered = omega (arith, h.ordered);
  inside = omega (arith, a.inside);
  reads = λ w u.
      let r = h.reads w u in (
        f r.0,
        (λ rest t. subst IsUtf8 (sym (n r.0 rest)) (r.1 (x ∷ rest) (small_then x rest small t))),
        (λ k. r.2 k ∙ run_step bytes end s (InWord r.0 k) (InWord (f r.0) k) a (p r.0 k)),
        r.3 ∙ ap (named r.0) (a.next ∙ ap (λ y. y ∷ drop (end + 1) bytes) e) ∙ sym (n r.0 (drop (end + 1) bytes)),
      );
}

pub word_more : (bytes : List ℕ) (at end : ℕ) (s : Sign) → WordRead bytes at end → SignAt bytes end s → ((x : ℕ) × (s ≡ Lower x)) ⊎ (((x : ℕ) × (s ≡ Upper x)) ⊎ ((x : ℕ) × (s ≡ Digit x))) → WordRead bytes at (end + 1)
word_more bytes at end s h a (inl p) =
    let b = sign_as bytes end s (Lower p.0) a p.1 in
    let t = told_by bytes end (Lower p.0) b in
    word_sign bytes at end (Lower p.0) p.0 (λ w. MoreLower w p.0) (λ w k. refl) (λ w rest. refl) h b (sym t.0) (omega (arith, t.0, t.1))
word_more bytes at end s h a (inr (inl p)) =
    let b = sign_as bytes end s (Upper p.0) a p.1 in
    let t = told_by bytes end (Upper p.0) b in
    word_sign bytes at end (Upper p.0) p.0 (λ w. MoreUpper w p.0) (λ w k. refl) (λ w rest. refl) h b (sym t.0) (omega (arith, t.0, t.1))
word_more bytes at end s h a (inr (inr p)) =
    let b = sign_as bytes end s (Digit p.0) a p.1 in
    let t = told_by bytes end (Digit p.0) b in
    word_sign bytes at end (Digit p.0) (p.0 + 48) (λ w. MoreNumber w p.0) (λ w k. refl) (λ w rest. refl) h b (sym t.1) (omega (arith, t.2))

-- numbers

pub digits_more : (bytes : List ℕ) (m : Bool) (n at v end d : ℕ) (s : Sign) → DigitsRead bytes m n at v end → SignAt bytes end s → s ≡ Digit d → fits m (v * 10 + d) ≡ true → DigitsRead bytes m n at (v * 10 + d) (end + 1)
digits_more bytes m n at v end d s h a e f = record {
  ordered = omega (arith, h.ordered);
  inside = omega (arith, a.inside);
  fits = f;
  reads = λ ds q.
      let r = h.reads ds q in
      let g : fits m (number r.0 * 10 + d) ≡ true = ap (λ x. fits m (x * 10 + d)) r.1 ∙ f in (
        MoreDigit r.0 d,
        ap (λ x. x * 10 + d) r.1,
        λ k. r.2 k ∙ run_step bytes end (Digit d) (InNumber m r.0 k) (InNumber m (MoreDigit r.0 d) k) (sign_as bytes end s (Digit d) a e) (ap (λ c. guard c (InNumber m (MoreDigit r.0 d) k)) g),
      );
}

pub range_more : (m : Bool) (v d : ℕ) → d < 256 → v ≤ (most_of m - d) / 10 → fits m (v * 10 + d) ≡ true
range_more true v d b h = le-leb _ _ (omega arith)
range_more false v d b h = lt-ltb _ _ (omega arith)

pub digit_small : (bytes : List ℕ) (at : ℕ) (s : Sign) (d : ℕ) → SignAt bytes at s → s ≡ Digit d → d < 256
digit_small bytes at s d a e = let f = subst DigitFits e a.digit in omega arith
