-- What a reader gives of the bytes that it stands for, by the bytes that it keeps.
use Rattle.std.proofs.Common.{◌≡◌, ◌≢◌, ℕ, ◌+◌, ◌-◌, ◌<◌, ◌≤◌, min, IsTrue, Bool, true, false, ◌==◌, ◌||◌, ltb, ◌⊎◌, inl, inr, zero, suc, List, [], ◌∷◌, ◌++◌, length, take, drop, refl, ap, sym, subst, ◌∙◌, arith, true≢false, append_assoc, append-nil, take_all, length-take, length-drop, length-append}
use Rattle.std.specs.List.{list_any}
use Rattle.std.proofs.lemmas.Bool.{eqb-true}
use Rattle.std.proofs.lemmas.List.{take_rest, drop-drop, take-take, take-append-le, drop-append-le}
use Rattle.std.proofs.lemmas.List.Folds.{list_any-append}
use Rattle.event_model.specs.Bytes.{feed}
use Rattle.line_reader.specs.declared.reading.Line.{Line}
use Rattle.line_reader.specs.declared.reading.Line.TheVariants.{Long}
use Rattle.line_reader.specs.declared.reading.OpenLine.{OpenLine}
use Rattle.line_reader.specs.Cutting.{NoFeed, IsLine}
use Rattle.line_reader.specs.Keeping.{most_kept, passed_mark, mark_if, clipped_from, open_from, none_open, marked_length, IsFirstFeed}
use Rattle.line_reader.proofs.CutLaws.{no_feed-front, no_feed-append}
use Rattle.line_reader.proofs.KeepLaws.{any-clipped, clip, clip-short, clip-long, clipped-append, clipped-over, clipped-open, clipped-most, open-append, open-plain, open-most, open-whole, first_line, one_first, too_long, uncut}

abbrev is_feed : ℕ → Bool
is_feed b = b == feed

-- ---- slices of what is kept

pub slice_behind : (all items : List ℕ) (at : ℕ) → all ≡ items → take (length all - at) (drop at all) ≡ drop at items
slice_behind all items at e = take_rest all at ∙ ap (drop at) e

pub slice_first : (all items : List ℕ) (at n : ℕ) → all ≡ items → take (at + n - at) (drop at all) ≡ take n (drop at items)
slice_first all items at n e = let m : at + n - at ≡ n = omega arith in ap (λ k. take k (drop at all)) m ∙ ap (λ l. take n (drop at l)) e

-- ---- the mark behind what is kept

no_feed-mark : (passed : Bool) → NoFeed (mark_if passed)
no_feed-mark true = refl
no_feed-mark false = refl

pub no_feed-marked : (xs : List ℕ) (passed : Bool) → NoFeed xs → NoFeed (xs ++ mark_if passed)
no_feed-marked xs passed h = no_feed-append xs (mark_if passed) h (no_feed-mark passed)

-- so many bytes are kept where no line feed is among them
pub open_kept : (xs : List ℕ) (last : OpenLine) → marked_length last ≡ open_from 0 (xs ++ mark_if last.passed) → NoFeed (xs ++ mark_if last.passed) → length xs ≡ last.kept
open_kept xs last e h = omega (arith, e, open-plain 0 (xs ++ mark_if last.passed) h, length-append xs (mark_if last.passed))

pub no_feed-open : (items : List ℕ) (at : ℕ) (last : OpenLine) → marked_length last ≡ open_from 0 (drop at items ++ mark_if last.passed) → last.kept ≡ length items - at → NoFeed (drop at items)
no_feed-open items at last e f =
    let all : List ℕ = drop at items ++ mark_if last.passed in
    no_feed-front (drop at items) (mark_if last.passed) (open-whole all (sym e ∙ omega (arith, f, length-drop at items, length-append (drop at items) (mark_if last.passed))))

pub first_in_front : (n : ℕ) (xs more : List ℕ) → IsFirstFeed n xs → IsFirstFeed n (xs ++ more)
first_in_front n xs more f =
    let l = f.within in
    let front : take n (xs ++ more) ≡ take n xs = take-append-le n xs more (omega arith) in
    record {
      within = omega (arith, length-append xs more);
      parts =
          ap (λ y. y ++ more) f.parts ∙ append_assoc (take n xs) (feed ∷ drop (n + 1) xs) more
          ∙ ap (λ y. take n xs ++ feed ∷ y) (sym (drop-append-le (n + 1) xs more (omega arith)))
          ∙ ap (λ y. y ++ feed ∷ drop (n + 1) (xs ++ more)) (sym front);
      plain = subst NoFeed (sym front) f.plain;
    }

-- ---- what next_line gives

feed_in : (raw more : List ℕ) → NoFeed raw → list_any is_feed (raw ++ feed ∷ more) ≡ true
feed_in raw more h = list_any-append is_feed raw (feed ∷ more) ∙ ap (λ t. t || true) h

-- where nothing kept is a line feed, no line is ended
pub no_line : (held bytes : List ℕ) → NoFeed held → held ≡ clipped_from 0 bytes → NoFeed bytes
no_line held bytes h e = sym (any-clipped 0 bytes) ∙ ap (list_any is_feed) (sym e) ∙ h

pub never_both : (raw more : List ℕ) → NoFeed raw → NoFeed (raw ++ feed ∷ more) → ⊥
never_both raw more h k = true≢false (sym (feed_in raw more h) ∙ k)

-- the parts of bytes round their first line feed, by what is kept of them
kept_parts : (held raw more : List ℕ) (n : ℕ) → IsFirstFeed n held → held ≡ clipped_from 0 (raw ++ feed ∷ more) → NoFeed raw
    → (take n held ≡ clipped_from 0 raw) × (drop (n + 1) held ≡ clipped_from 0 more)
kept_parts held raw more n f e h =
    one_first (take n held) (clipped_from 0 raw) (drop (n + 1) held) (clipped_from 0 more) f.plain (any-clipped 0 raw ∙ h) (sym f.parts ∙ e ∙ clipped-append 0 raw (feed ∷ more))

ends_line : (held bytes : List ℕ) (n : ℕ) → IsFirstFeed n held → held ≡ clipped_from 0 bytes → list_any is_feed bytes ≡ true
ends_line held bytes n f e = sym (any-clipped 0 bytes) ∙ ap (list_any is_feed) (sym e ∙ f.parts) ∙ feed_in (take n held) (drop (n + 1) held) f.plain

pub never_open : (held bytes : List ℕ) (n : ℕ) → IsFirstFeed n held → held ≡ clipped_from 0 bytes → NoFeed bytes → ⊥
never_open held bytes n f e h = true≢false (sym (ends_line held bytes n f e) ∙ h)

pub has_line : (xs bytes : List ℕ) (passed : Bool) (n : ℕ) (line : Line) → IsFirstFeed n xs → xs ++ mark_if passed ≡ clipped_from 0 bytes → IsLine line (take n xs)
    → (raw : List ℕ) × (more : List ℕ) × (bytes ≡ raw ++ feed ∷ more) × NoFeed raw × IsLine line raw
has_line xs bytes passed n line f e told =
    let held : List ℕ = xs ++ mark_if passed in
    let first = first_in_front n xs (mark_if passed) f in
    let l = f.within in
    let p = first_line bytes (ends_line held bytes n first e) in
    let parts = kept_parts held p.0 p.1 n first (e ∙ ap (clipped_from 0) p.2) p.3 in
    let cut : take n xs ≡ clip most_kept p.0 = sym (take-append-le n xs (mark_if passed) (omega arith)) ∙ parts.0 ∙ clipped-open 0 most_kept p.0 p.3 refl in
    (p.0, p.1, p.2, p.3, uncut line p.0 (subst (IsLine line) cut told))

-- what is kept behind the first line
left_behind : (items more : List ℕ) (at n : ℕ) → IsFirstFeed n (drop at items) → drop (n + 1) (drop at items ++ more) ≡ drop (at + n + 1) items ++ more
left_behind items more at n f =
    let l = f.within in
    let m : at + (n + 1) ≡ at + n + 1 = omega arith in
    drop-append-le (n + 1) (drop at items) more (omega arith) ∙ ap (λ y. y ++ more) (drop-drop (n + 1) at items ∙ ap (λ k. drop k items) m)

pub behind_line : (items bytes raw more : List ℕ) (passed : Bool) (at n : ℕ) → IsFirstFeed n (drop at items) → drop at items ++ mark_if passed ≡ clipped_from 0 bytes
    → bytes ≡ raw ++ feed ∷ more → NoFeed raw → drop (at + n + 1) items ++ mark_if passed ≡ clipped_from 0 more
behind_line items bytes raw more passed at n f e b h =
    let held : List ℕ = drop at items ++ mark_if passed in
    sym (left_behind items (mark_if passed) at n f)
    ∙ (kept_parts held raw more n (first_in_front n (drop at items) (mark_if passed) f) (e ∙ ap (clipped_from 0) b) h).1

-- the open line stays the same where the first line is given
pub still_open : (items : List ℕ) (passed : Bool) (at n : ℕ) → IsFirstFeed n (drop at items)
    → open_from 0 (drop at items ++ mark_if passed) ≡ open_from 0 (drop (at + n + 1) items ++ mark_if passed)
still_open items passed at n f =
    let held : List ℕ = drop at items ++ mark_if passed in
    ap (open_from 0) (first_in_front n (drop at items) (mark_if passed) f).parts ∙ open-append 0 (take n held) (feed ∷ drop (n + 1) held)
    ∙ ap (open_from 0) (left_behind items (mark_if passed) at n f)

-- ---- what finish gives

pub no_length : (bytes : List ℕ) → true ≡ (length bytes == 0) → bytes ≡ []
no_length bytes e = nil bytes (eqb-true (length bytes) 0 (sym e))
  where
    nil : (bytes : List ℕ) → length bytes ≡ 0 → bytes ≡ []
    nil [] e = refl
    nil (b ∷ bytes) e = absurd (omega arith)

pub some_length : (bytes : List ℕ) → bytes ≡ [] → false ≡ (length bytes == 0) → ⊥
some_length bytes e f = true≢false (sym (f ∙ ap (λ l. length l == 0) e))

-- bytes without a line feed of which nothing is kept are none
pub none_left : (xs bytes : List ℕ) → NoFeed bytes → xs ++ mark_if false ≡ clipped_from 0 bytes → xs ≡ [] → bytes ≡ []
none_left xs bytes h e f = at most_kept refl bytes (sym (clipped-open 0 most_kept bytes h refl) ∙ sym e ∙ ap (λ y. y ++ []) f)
  where
    at : (room : ℕ) → room ≡ most_kept → (bytes : List ℕ) → clip room bytes ≡ [] → bytes ≡ []
    at room s [] e = refl
    at zero s (b ∷ bytes) e = cc
    at (suc room) s (b ∷ bytes) e = cc

pub some_left : (xs bytes : List ℕ) → xs ++ mark_if false ≡ clipped_from 0 bytes → xs ≢ [] → bytes ≢ []
some_left xs bytes e h f = h (sym (append-nil xs) ∙ e ∙ ap (clipped_from 0) f)

pub last_told : (xs bytes : List ℕ) (line : Line) → NoFeed bytes → xs ++ mark_if false ≡ clipped_from 0 bytes → IsLine line xs → IsLine line bytes
last_told xs bytes line h e told = uncut line bytes (subst (IsLine line) (sym (append-nil xs) ∙ e ∙ clipped-open 0 most_kept bytes h refl) told)

-- what is kept of bytes without a line feed
pub plain_kept : (xs bytes : List ℕ) (passed : Bool) → NoFeed bytes → xs ++ mark_if passed ≡ clipped_from 0 bytes → NoFeed (xs ++ mark_if passed)
plain_kept xs bytes passed h e = ap (list_any is_feed) e ∙ any-clipped 0 bytes ∙ h

-- an open line has passed only where it is too long
pub passed_long : (xs bytes : List ℕ) (last : OpenLine) → marked_length last ≡ open_from 0 (xs ++ mark_if last.passed) → (IsTrue last.passed → last.kept ≡ most_kept) → last.passed ≡ true
    → NoFeed bytes → xs ++ mark_if last.passed ≡ clipped_from 0 bytes → most_kept < length bytes
passed_long xs bytes last e full p h f =
    let kept = open_kept xs last e (plain_kept xs bytes last.passed h f) in
    omega (
      arith,
      kept,
      full p,
      ap (λ t. length (mark_if t)) p,
      ap length f,
      length-append xs (mark_if last.passed),
      clipped-most 0 bytes,
    )

pub long_told : (bytes : List ℕ) → most_kept < length bytes → (bytes ≢ []) × IsLine Long bytes
long_told bytes l = (λ e. omega (arith, l, ap length e), too_long bytes l)

pub kept_most : (xs bytes : List ℕ) (passed : Bool) → xs ++ mark_if passed ≡ clipped_from 0 bytes → length xs ≤ length bytes
kept_most xs bytes passed e = omega (arith, ap length e, length-append xs (mark_if passed), clipped-most 0 bytes)

-- so many bytes are kept of an open line
pub kept_exact : (xs bytes : List ℕ) (last : OpenLine) → marked_length last ≡ open_from 0 (xs ++ mark_if last.passed) → last.kept ≤ most_kept → (IsTrue last.passed → last.kept ≡ most_kept)
    → NoFeed bytes → xs ++ mark_if last.passed ≡ clipped_from 0 bytes → length xs ≡ min (length bytes) most_kept
kept_exact xs bytes last e few full h f = at last.passed refl
  where
    kept : length xs ≡ last.kept
    kept = open_kept xs last e (plain_kept xs bytes last.passed h f)

    whole : (room : ℕ) → room ≡ most_kept → xs ≡ clip room bytes → length xs ≡ min (length bytes) room
    whole room s g = sized (ltb room (length bytes)) refl
      where
        sized : (t : Bool) → ltb room (length bytes) ≡ t → length xs ≡ min (length bytes) room
        sized true q =
            let over : room < length bytes = grind arith in
            absurd (omega (arith, kept, few, ap length (g ∙ clip-long room bytes over), length-append (take room bytes) (passed_mark ∷ []), length-take room bytes))
        sized false q = let short : length bytes ≤ room = grind arith in omega (arith, ap length (g ∙ clip-short room bytes short))

    at : (t : Bool) → last.passed ≡ t → length xs ≡ min (length bytes) most_kept
    at true p = omega (arith, kept, full p, passed_long xs bytes last e full p h f)
    at false p =
        let same : xs ≡ clipped_from 0 bytes = sym (append-nil xs) ∙ ap (λ t. xs ++ mark_if t) (sym p) ∙ f in
        whole most_kept refl (same ∙ clipped-open 0 most_kept bytes h refl)

-- ---- what is appended

-- the bytes that are kept of a part of a line, and the mark then
pub part_kept : (held new part : List ℕ) (last : OpenLine) (count : ℕ) (passed : Bool) → last.kept ≤ most_kept → (IsTrue last.passed → last.kept ≡ most_kept) → NoFeed part
    → count ≡ min (length part) (most_kept - last.kept) → new ≡ held ++ take count part → passed ≡ (last.passed || ltb count (length part))
    → new ++ mark_if passed ≡ (held ++ mark_if last.passed) ++ clipped_from (marked_length last) part
part_kept held new part last count passed few full h c e f = ap (λ t. new ++ mark_if t) f ∙ at last.passed refl
  where
    short : (room : ℕ) → count ≡ min (length part) room → take count part ++ mark_if (ltb count (length part)) ≡ clip room part
    short room c = sized (ltb room (length part)) refl
      where
        sized : (t : Bool) → ltb room (length part) ≡ t → take count part ++ mark_if (ltb count (length part)) ≡ clip room part
        sized true q =
            let over : room < length part = grind arith in
            let same : count ≡ room = omega arith in
            ap (λ k. take k part ++ mark_if (ltb k (length part))) same ∙ ap (λ t. take room part ++ mark_if t) q ∙ sym (clip-long room part over)
        sized false q =
            let fits : length part ≤ room = grind arith in
            let same : count ≡ length part = omega arith in
            let none : ltb count (length part) ≡ false = grind arith in
            ap (λ t. take count part ++ mark_if t) none ∙ append-nil (take count part) ∙ take_all count part (omega arith) ∙ sym (clip-short room part fits)

    at : (t : Bool) → last.passed ≡ t → new ++ mark_if (last.passed || ltb count (length part)) ≡ (held ++ mark_if last.passed) ++ clipped_from (marked_length last) part
    at true p =
        let none : count ≡ 0 = omega (arith, c, full p) in
        let past : most_kept < marked_length last = omega (arith, full p, ap (λ t. length (mark_if t)) p) in
        ap (λ t. new ++ mark_if (t || ltb count (length part))) p ∙ ap (λ y. y ++ mark_if true) (e ∙ ap (λ k. held ++ take k part) none ∙ append-nil held)
        ∙ ap (λ t. held ++ mark_if t) (sym p) ∙ sym (append-nil (held ++ mark_if last.passed))
        ∙ ap (λ y. (held ++ mark_if last.passed) ++ y) (sym (clipped-over (marked_length last) part h past))
    at false p =
        let plain : marked_length last ≡ last.kept = omega (arith, ap (λ t. length (mark_if t)) p) in
        let left : last.kept + (most_kept - last.kept) ≡ most_kept = omega arith in
        let part_cut : clip (most_kept - last.kept) part ≡ clipped_from (marked_length last) part =
        sym (clipped-open last.kept (most_kept - last.kept) part h left) ∙ ap (λ n. clipped_from n part) (sym plain) in
        ap (λ t. new ++ mark_if (t || ltb count (length part))) p ∙ ap (λ y. y ++ mark_if (ltb count (length part))) e
        ∙ append_assoc held (take count part) (mark_if (ltb count (length part)))
        ∙ ap (λ y. held ++ y) (short (most_kept - last.kept) c ∙ part_cut)
        ∙ ap (λ y. y ++ clipped_from (marked_length last) part) (sym (append-nil held) ∙ ap (λ t. held ++ mark_if t) (sym p))

pub part_counted : (held new part : List ℕ) (last line : OpenLine) (count : ℕ) → NoFeed part → count ≤ length part → new ≡ held ++ take count part → line.kept ≡ last.kept + count
    → new ++ mark_if line.passed ≡ (held ++ mark_if last.passed) ++ clipped_from (marked_length last) part
    → marked_length line ≡ open_from (marked_length last) (clipped_from (marked_length last) part)
part_counted held new part last line count h within e more kept =
    let clipped : List ℕ = clipped_from (marked_length last) part in
    omega (
      arith,
      open-plain (marked_length last) clipped (any-clipped (marked_length last) part ∙ h),
      ap length kept,
      length-append new (mark_if line.passed),
      length-append (held ++ mark_if last.passed) clipped,
      length-append held (mark_if last.passed),
      ap length e,
      length-append held (take count part),
      length-take count part,
      more,
    )

pub piece_kept : (held first ended rest : List ℕ) (last line next : OpenLine) (n : ℕ) → IsFirstFeed n rest
    → first ++ mark_if line.passed ≡ (held ++ mark_if last.passed) ++ clipped_from (marked_length last) (take n rest)
    → ended ≡ (first ++ mark_if line.passed) ++ feed ∷ [] → next ≡ none_open
    → (held ++ mark_if last.passed) ++ clipped_from (marked_length last) rest ≡ (ended ++ mark_if next.passed) ++ clipped_from (marked_length next) (drop (n + 1) rest)
piece_kept held first ended rest last line next n f e g none =
    let all : List ℕ = held ++ mark_if last.passed in
    let part : List ℕ = clipped_from (marked_length last) (take n rest) in
    let more : List ℕ = clipped_from 0 (drop (n + 1) rest) in
    ap (λ l. all ++ clipped_from (marked_length last) l) f.parts ∙ ap (λ l. all ++ l) (clipped-append (marked_length last) (take n rest) (feed ∷ drop (n + 1) rest))
    ∙ sym (append_assoc all part (feed ∷ more)) ∙ ap (λ l. l ++ feed ∷ more) (sym e)
    ∙ sym (append_assoc (first ++ mark_if line.passed) (feed ∷ []) more) ∙ ap (λ l. l ++ more) (sym g ∙ sym (append-nil ended))
    ∙ ap (λ o. (ended ++ mark_if o.passed) ++ clipped_from (marked_length o) (drop (n + 1) rest)) (sym none)

pub piece_counted : (rest : List ℕ) (last next : OpenLine) (n : ℕ) → IsFirstFeed n rest → next ≡ none_open
    → open_from (marked_length last) (clipped_from (marked_length last) rest) ≡ open_from (marked_length next) (clipped_from (marked_length next) (drop (n + 1) rest))
piece_counted rest last next n f none =
    let from : ℕ = marked_length last in
    ap (λ l. open_from from (clipped_from from l)) f.parts ∙ ap (open_from from) (clipped-append from (take n rest) (feed ∷ drop (n + 1) rest))
    ∙ open-append from (clipped_from from (take n rest)) (feed ∷ clipped_from 0 (drop (n + 1) rest))
    ∙ ap (λ o. open_from (marked_length o) (clipped_from (marked_length o) (drop (n + 1) rest))) (sym none)

-- what stood in front before more was appended stands there after it
pub not_shorter : (front all : List ℕ) → take (length front) all ≡ front → length front ≤ length all
not_shorter front all e = omega (arith, ap length e, length-take (length front) all)

pub front_stays : (front held more : List ℕ) → take (length front) held ≡ front → take (length held) more ≡ held → take (length front) more ≡ front
front_stays front held more e f =
    sym (take-take (length front) (length held) more (not_shorter front held e)) ∙ ap (take (length front)) f ∙ e

-- ---- what is held after a piece

pub fed_marked : (items new piece : List ℕ) (at : ℕ) (last line : OpenLine) → at ≤ length items → take (length items) new ≡ items
    → new ++ mark_if line.passed ≡ (items ++ mark_if last.passed) ++ clipped_from (marked_length last) piece
    → drop at new ++ mark_if line.passed ≡ (drop at items ++ mark_if last.passed) ++ clipped_from (marked_length last) piece
fed_marked items new piece at last line le front e =
    let clipped : List ℕ = clipped_from (marked_length last) piece in
    sym (drop-append-le at new (mark_if line.passed) (omega (arith, not_shorter items new front)))
    ∙ ap (drop at) (e ∙ append_assoc items (mark_if last.passed) clipped)
    ∙ drop-append-le at items (mark_if last.passed ++ clipped) le ∙ sym (append_assoc (drop at items) (mark_if last.passed) clipped)

pub fed_open : (items new piece : List ℕ) (at : ℕ) (last line : OpenLine) → at ≤ length items → take (length items) new ≡ items
    → new ++ mark_if line.passed ≡ (items ++ mark_if last.passed) ++ clipped_from (marked_length last) piece
    → marked_length last ≡ open_from 0 (drop at items ++ mark_if last.passed)
    → open_from (marked_length last) (clipped_from (marked_length last) piece) ≡ open_from 0 (drop at new ++ mark_if line.passed)
fed_open items new piece at last line le front e f =
    let clipped : List ℕ = clipped_from (marked_length last) piece in
    ap (λ n. open_from n clipped) f ∙ sym (open-append 0 (drop at items ++ mark_if last.passed) clipped)
    ∙ ap (open_from 0) (sym (fed_marked items new piece at last line le front e))

pub fed_held : (items new piece bytes : List ℕ) (at : ℕ) (last line : OpenLine) → at ≤ length items → take (length items) new ≡ items
    → new ++ mark_if line.passed ≡ (items ++ mark_if last.passed) ++ clipped_from (marked_length last) piece
    → marked_length last ≡ open_from 0 (drop at items ++ mark_if last.passed) → drop at items ++ mark_if last.passed ≡ clipped_from 0 bytes
    → drop at new ++ mark_if line.passed ≡ clipped_from 0 (bytes ++ piece)
fed_held items new piece bytes at last line le front e f g =
    fed_marked items new piece at last line le front e ∙ ap (λ l. l ++ clipped_from (marked_length last) piece) g
    ∙ ap (λ n. clipped_from 0 bytes ++ clipped_from n piece) (f ∙ ap (open_from 0) g) ∙ sym (clipped-append 0 bytes piece)

-- at most the piece is added to what lies in memory, but for the mark of a line of which all that may be kept is there
pub fed_room : (items new piece : List ℕ) (last line : OpenLine) → new ++ mark_if line.passed ≡ (items ++ mark_if last.passed) ++ clipped_from (marked_length last) piece
    → length new ≤ length items + length (mark_if last.passed) + length piece
fed_room items new piece last line e =
    let clipped : List ℕ = clipped_from (marked_length last) piece in
    omega (
      arith,
      ap length e,
      length-append new (mark_if line.passed),
      length-append (items ++ mark_if last.passed) clipped,
      length-append items (mark_if last.passed),
      clipped-most (marked_length last) piece,
    )

-- a mark stands behind some bytes that are kept
pub passed_some : (xs : List ℕ) (last : OpenLine) → marked_length last ≡ open_from 0 (xs ++ mark_if last.passed) → (IsTrue last.passed → last.kept ≡ most_kept)
    → (length (mark_if last.passed) ≡ 0) ⊎ ((length (mark_if last.passed) ≡ 1) × (0 < length xs))
passed_some xs last e full = at last.passed refl
  where
    at : (t : Bool) → last.passed ≡ t → (length (mark_if last.passed) ≡ 0) ⊎ ((length (mark_if last.passed) ≡ 1) × (0 < length xs))
    at false p = inl (ap (λ t. length (mark_if t)) p)
    at true p = inr (
      ap (λ t. length (mark_if t)) p,
      omega (arith, e, full p, open-most 0 (xs ++ mark_if last.passed), length-append xs (mark_if last.passed)),
    )
