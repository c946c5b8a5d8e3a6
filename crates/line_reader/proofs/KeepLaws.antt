-- Bytes with their lines cut, and how many stand behind the last line feed.
use Rattle.std.proofs.Common.{not, get_or, Some, None, MatchOption, ◌≡◌, ℕ, suc, zero, ◌+◌, ◌<◌, ◌≤◌, Bool, true, false, cond, ◌==◌, ◌||◌, ltb, List, [], ◌∷◌, ◌++◌, length, take, drop, refl, ap, sym, subst, ◌∙◌, arith, true≢false, take_all, length-take-le, length-append}
use Rattle.std.specs.List.{list_any, position, position_or_len}
use Rattle.std.proofs.Math.Numerals.{one-add}
use Rattle.std.proofs.lemmas.Bool.{eqb-true}
use Rattle.std.proofs.lemmas.List.Quantifiers.{position-Some}
use Rattle.std.proofs.lemmas.List.Sums.{split_at_first}
use Rattle.event_model.specs.Bytes.{feed}
use Rattle.event_model.specs.Lines.{without_cr}
use Rattle.line_reader.specs.declared.reading.Line.{Line}
use Rattle.line_reader.specs.declared.reading.Line.TheVariants.{Bytes, Long}
use Rattle.line_reader.specs.Cutting.{NoFeed, IsLine}
use Rattle.line_reader.specs.Keeping.{most_kept, passed_mark, kept_byte, clipped_from, open_from, IsFirstFeed}
use Rattle.line_reader.proofs.CutLaws.{no_feed-parts}

abbrev is_feed : ℕ → Bool
is_feed b = b == feed

-- ---- cut lines

kept_plain : (n b : ℕ) → (b == feed) ≡ false → (kept_byte n b == feed) ≡ false
kept_plain n b e = elim (n == most_kept) as (λ t. (cond t passed_mark b == feed) ≡ false) [ true ↦ refl | false ↦ e ]

-- cutting lines removes no line feed
pub any-clipped : (n : ℕ) (bytes : List ℕ) → list_any is_feed (clipped_from n bytes) ≡ list_any is_feed bytes
any-clipped n [] = refl
any-clipped n (b ∷ bytes) = at (b == feed) refl (ltb n (most_kept + 1)) (any-clipped 0 bytes) (any-clipped (n + 1) bytes) (any-clipped n bytes)
  where
    at : (t : Bool) → (b == feed) ≡ t → (u : Bool)
        → list_any is_feed (clipped_from 0 bytes) ≡ list_any is_feed bytes
        → list_any is_feed (clipped_from (n + 1) bytes) ≡ list_any is_feed bytes
        → list_any is_feed (clipped_from n bytes) ≡ list_any is_feed bytes
        → list_any is_feed (cond t (b ∷ clipped_from 0 bytes) (cond u (kept_byte n b ∷ clipped_from (n + 1) bytes) (clipped_from n bytes))) ≡ (t || list_any is_feed bytes)
    at true e u first next over = ap (λ t. t || list_any is_feed (clipped_from 0 bytes)) e
    at false e true first next over = ap (λ t. t || list_any is_feed (clipped_from (n + 1) bytes)) (kept_plain n b e) ∙ next
    at false e false first next over = over

pub clipped-append : (n : ℕ) (xs ys : List ℕ) → clipped_from n (xs ++ ys) ≡ clipped_from n xs ++ clipped_from (open_from n (clipped_from n xs)) ys
clipped-append n [] ys = refl
clipped-append n (b ∷ xs) ys = at (b == feed) refl (ltb n (most_kept + 1)) (clipped-append 0 xs ys) (clipped-append (n + 1) xs ys) (clipped-append n xs ys)
  where
    at : (t : Bool) → (b == feed) ≡ t → (u : Bool)
        → clipped_from 0 (xs ++ ys) ≡ clipped_from 0 xs ++ clipped_from (open_from 0 (clipped_from 0 xs)) ys
        → clipped_from (n + 1) (xs ++ ys) ≡ clipped_from (n + 1) xs ++ clipped_from (open_from (n + 1) (clipped_from (n + 1) xs)) ys
        → clipped_from n (xs ++ ys) ≡ clipped_from n xs ++ clipped_from (open_from n (clipped_from n xs)) ys
        → cond t (b ∷ clipped_from 0 (xs ++ ys)) (cond u (kept_byte n b ∷ clipped_from (n + 1) (xs ++ ys)) (clipped_from n (xs ++ ys)))
        ≡ cond t (b ∷ clipped_from 0 xs) (cond u (kept_byte n b ∷ clipped_from (n + 1) xs) (clipped_from n xs))
        ++ clipped_from (open_from n (cond t (b ∷ clipped_from 0 xs) (cond u (kept_byte n b ∷ clipped_from (n + 1) xs) (clipped_from n xs)))) ys
    at true e u first next over =
        ap (λ l. b ∷ l) (first ∙ ap (λ t. clipped_from 0 xs ++ clipped_from (cond t (open_from 0 (clipped_from 0 xs)) (open_from (n + 1) (clipped_from 0 xs))) ys) (sym e))
    at false e true first next over =
        ap (λ l. kept_byte n b ∷ l)
        (next ∙ ap (λ t. clipped_from (n + 1) xs ++ clipped_from (cond t (open_from 0 (clipped_from (n + 1) xs)) (open_from (n + 1) (clipped_from (n + 1) xs))) ys) (sym (kept_plain n b e)))
    at false e false first next over = over

-- the first bytes, so many, and the mark of those behind them
abbrev pub clip : ℕ → List ℕ → List ℕ
clip room [] = []
clip zero (b ∷ bytes) = passed_mark ∷ []
clip (suc room) (b ∷ bytes) = b ∷ clip room bytes

pub clip-short : (room : ℕ) (bytes : List ℕ) → length bytes ≤ room → clip room bytes ≡ bytes
clip-short room [] l = refl
clip-short zero (b ∷ bytes) l = absurd (omega arith)
clip-short (suc room) (b ∷ bytes) l = ap (λ y. b ∷ y) (clip-short room bytes (omega arith))

pub clip-long : (room : ℕ) (bytes : List ℕ) → room < length bytes → clip room bytes ≡ take room bytes ++ passed_mark ∷ []
clip-long room [] l = absurd (omega arith)
clip-long zero (b ∷ bytes) l = refl
clip-long (suc room) (b ∷ bytes) l = ap (λ y. b ∷ y) (clip-long room bytes (omega arith))

-- nothing is kept behind the mark
pub clipped-over : (n : ℕ) (bytes : List ℕ) → NoFeed bytes → most_kept < n → clipped_from n bytes ≡ []
clipped-over n [] h l = refl
clipped-over n (b ∷ bytes) h l =
    let p = no_feed-parts b bytes h in
    let full : ltb n (most_kept + 1) ≡ false = grind arith in
    ap (λ t. cond t (b ∷ clipped_from 0 bytes) (cond (ltb n (most_kept + 1)) (kept_byte n b ∷ clipped_from (n + 1) bytes) (clipped_from n bytes))) p.0
    ∙ ap (λ t. cond t (kept_byte n b ∷ clipped_from (n + 1) bytes) (clipped_from n bytes)) full ∙ clipped-over n bytes p.1 l

-- a line that is left open keeps its first bytes
pub clipped-open : (n room : ℕ) (bytes : List ℕ) → NoFeed bytes → n + room ≡ most_kept → clipped_from n bytes ≡ clip room bytes
clipped-open n room [] h e = refl
clipped-open n room (b ∷ bytes) h e =
    let p = no_feed-parts b bytes h in
    let fits : ltb n (most_kept + 1) ≡ true = grind arith in
    ap (λ t. cond t (b ∷ clipped_from 0 bytes) (cond (ltb n (most_kept + 1)) (kept_byte n b ∷ clipped_from (n + 1) bytes) (clipped_from n bytes))) p.0
    ∙ ap (λ t. cond t (kept_byte n b ∷ clipped_from (n + 1) bytes) (clipped_from n bytes)) fits
    ∙ at room e p.1 (λ left. clipped-open (n + 1) left bytes p.1)
  where
    at : (room : ℕ) → n + room ≡ most_kept → NoFeed bytes → ((left : ℕ) → n + 1 + left ≡ most_kept → clipped_from (n + 1) bytes ≡ clip left bytes)
        → kept_byte n b ∷ clipped_from (n + 1) bytes ≡ clip room (b ∷ bytes)
    at zero e h next =
        let last : (n == most_kept) ≡ true = grind arith in
        ap (λ t. cond t passed_mark b ∷ clipped_from (n + 1) bytes) last ∙ ap (λ y. passed_mark ∷ y) (clipped-over (n + 1) bytes h (omega arith))
    at (suc room) e h next =
        let inner : (n == most_kept) ≡ false = grind arith in
        ap (λ t. cond t passed_mark b ∷ clipped_from (n + 1) bytes) inner ∙ ap (λ y. b ∷ y) (next room (omega arith))

pub clipped-most : (n : ℕ) (bytes : List ℕ) → length (clipped_from n bytes) ≤ length bytes
clipped-most n [] = omega arith
clipped-most n (b ∷ bytes) = at (b == feed) (ltb n (most_kept + 1)) (clipped-most 0 bytes) (clipped-most (n + 1) bytes) (clipped-most n bytes)
  where
    at : (t u : Bool) → length (clipped_from 0 bytes) ≤ length bytes → length (clipped_from (n + 1) bytes) ≤ length bytes → length (clipped_from n bytes) ≤ length bytes
        → length (cond t (b ∷ clipped_from 0 bytes) (cond u (kept_byte n b ∷ clipped_from (n + 1) bytes) (clipped_from n bytes))) ≤ length (b ∷ bytes)
    at true u first next over = omega arith
    at false true first next over = omega arith
    at false false first next over = omega arith

-- ---- the length of the open line

pub open-append : (n : ℕ) (xs ys : List ℕ) → open_from n (xs ++ ys) ≡ open_from (open_from n xs) ys
open-append n [] ys = refl
open-append n (b ∷ xs) ys =
    elim (b == feed) as (λ t. cond t (open_from 0 (xs ++ ys)) (open_from (n + 1) (xs ++ ys)) ≡ open_from (cond t (open_from 0 xs) (open_from (n + 1) xs)) ys)
    [ true ↦ open-append 0 xs ys | false ↦ open-append (n + 1) xs ys ]

pub open-plain : (n : ℕ) (bytes : List ℕ) → NoFeed bytes → open_from n bytes ≡ n + length bytes
open-plain n [] h = omega arith
open-plain n (b ∷ bytes) h =
    let p = no_feed-parts b bytes h in
    let more = open-plain (n + 1) bytes p.1 in
    ap (λ t. cond t (open_from 0 bytes) (open_from (n + 1) bytes)) p.0 ∙ omega arith

pub open-most : (n : ℕ) (bytes : List ℕ) → open_from n bytes ≤ n + length bytes
open-most n [] = omega arith
open-most n (b ∷ bytes) = at (b == feed) (open-most 0 bytes) (open-most (n + 1) bytes)
  where
    at : (t : Bool) → open_from 0 bytes ≤ 0 + length bytes → open_from (n + 1) bytes ≤ n + 1 + length bytes → cond t (open_from 0 bytes) (open_from (n + 1) bytes) ≤ n + length (b ∷ bytes)
    at true first next = omega arith
    at false first next = omega arith

pub open-less : (n : ℕ) (bytes : List ℕ) → list_any is_feed bytes ≡ true → open_from n bytes < length bytes
open-less n [] h = absurd (true≢false (sym h))
open-less n (b ∷ bytes) h = at (b == feed) h (open-most 0 bytes) (open-less (n + 1) bytes)
  where
    at : (t : Bool) → (t || list_any is_feed bytes) ≡ true → open_from 0 bytes ≤ 0 + length bytes → (list_any is_feed bytes ≡ true → open_from (n + 1) bytes < length bytes)
        → cond t (open_from 0 bytes) (open_from (n + 1) bytes) < length (b ∷ bytes)
    at true h first next = omega arith
    at false h first next = let less : open_from (n + 1) bytes < length bytes = next h in omega arith

-- a whole that is open has no line feed
pub open-whole : (bytes : List ℕ) → open_from 0 bytes ≡ length bytes → NoFeed bytes
open-whole bytes e = at (list_any is_feed bytes) (open-less 0 bytes)
  where
    at : (t : Bool) → (t ≡ true → open_from 0 bytes < length bytes) → t ≡ false
    at true less = let l : open_from 0 bytes < length bytes = less refl in absurd (omega arith)
    at false less = refl

-- ---- the first line

-- bytes with a line feed have a first line
pub first_line : (bytes : List ℕ) → list_any is_feed bytes ≡ true → (raw : List ℕ) × (more : List ℕ) × (bytes ≡ raw ++ feed ∷ more) × NoFeed raw
first_line [] h = absurd (true≢false (sym h))
first_line (b ∷ bytes) h = at (b == feed) refl h (first_line bytes)
  where
    at : (t : Bool) → (b == feed) ≡ t → (t || list_any is_feed bytes) ≡ true
        → (list_any is_feed bytes ≡ true → (raw : List ℕ) × (more : List ℕ) × (bytes ≡ raw ++ feed ∷ more) × NoFeed raw)
        → (raw : List ℕ) × (more : List ℕ) × (b ∷ bytes ≡ raw ++ feed ∷ more) × NoFeed raw
    at true e h next = let same : b ≡ feed = grind arith in ([], bytes, ap (λ b. b ∷ bytes) same, refl)
    at false e h next =
        let p = next h in
        (b ∷ p.0, p.1, ap (λ l. b ∷ l) p.2, ap (λ t. t || list_any is_feed p.0) e ∙ p.3)

-- bytes have one first line
pub one_first : (xs ys more left : List ℕ) → NoFeed xs → NoFeed ys → xs ++ feed ∷ more ≡ ys ++ feed ∷ left → (xs ≡ ys) × (more ≡ left)
one_first [] [] more left h k e = (refl, cc)
one_first [] (y ∷ ys) more left h k e =
    let same : 10 ≡ y = cc in
    absurd (true≢false (ap is_feed same ∙ (no_feed-parts y ys k).0))
one_first (x ∷ xs) [] more left h k e =
    let same : 10 ≡ x = cc in
    absurd (true≢false (ap is_feed same ∙ (no_feed-parts x xs h).0))
one_first (x ∷ xs) (y ∷ ys) more left h k e =
    let same : x ≡ y = cc in
    let tails : xs ++ feed ∷ more ≡ ys ++ feed ∷ left = cc in
    let p = one_first xs ys more left (no_feed-parts x xs h).1 (no_feed-parts y ys k).1 tails in
    (cc, p.1)

plain_before : (bytes : List ℕ) → NoFeed (take (position_or_len is_feed bytes) bytes)
plain_before [] = refl
plain_before (b ∷ bytes) = at (b == feed) refl (plain_before bytes)
  where
    at : (t : Bool) → (b == feed) ≡ t → NoFeed (take (position_or_len is_feed bytes) bytes) → NoFeed (take (cond (not t) (1 + position_or_len is_feed bytes) 0) (b ∷ bytes))
    at true e h = refl
    at false e h =
        let long : 1 + position_or_len is_feed bytes ≡ suc (position_or_len is_feed bytes) = one-add (position_or_len is_feed bytes) in
        subst (λ n. NoFeed (take n (b ∷ bytes))) (sym long) (ap (λ t. t || list_any is_feed (take (position_or_len is_feed bytes) bytes)) e ∙ h)

-- where the first line feed stands
pub first_feed : (bytes : List ℕ) → MatchOption (position is_feed bytes) (NoFeed bytes) (λ n. IsFirstFeed n bytes)
first_feed bytes = at (ltb (position_or_len is_feed bytes) (length bytes)) refl
  where
    at : (t : Bool) → ltb (position_or_len is_feed bytes) (length bytes) ≡ t → MatchOption (cond t (Some (position_or_len is_feed bytes)) None) (NoFeed bytes) (λ n. IsFirstFeed n bytes)
    at true e =
        let found = position-Some is_feed bytes (position_or_len is_feed bytes) 0 (ap (λ t. cond t (Some (position_or_len is_feed bytes)) None) e) in
        let feed : get_or bytes (position_or_len is_feed bytes) 0 ≡ feed = eqb-true (get_or bytes (position_or_len is_feed bytes) 0) feed found.1 in
        record {
          within = found.0;
          parts = split_at_first is_feed bytes 0 found.0 ∙ ap (λ b. take (position_or_len is_feed bytes) bytes ++ b ∷ drop (position_or_len is_feed bytes + 1) bytes) feed;
          plain = plain_before bytes;
        }
    at false e =
        let past : length bytes ≤ position_or_len is_feed bytes = grind arith in
        subst NoFeed (take_all (position_or_len is_feed bytes) bytes past) (plain_before bytes)

-- ---- what is told of a line that was cut

pub without_cr-least : (bytes : List ℕ) → length bytes ≤ length (without_cr bytes) + 1
without_cr-least [] = omega arith
without_cr-least (b ∷ []) = at (b == 13)
  where
    at : (t : Bool) → length (b ∷ []) ≤ length (cond t [] (b ∷ [])) + 1
    at true = omega arith
    at false = omega arith
without_cr-least (b ∷ c ∷ bytes) = let more = without_cr-least (c ∷ bytes) in omega arith

pub too_long : (raw : List ℕ) → most_kept < length raw → IsLine Long raw
too_long raw l = omega (arith, without_cr-least raw)

clip_told : (room : ℕ) → room ≡ most_kept → (line : Line) (raw : List ℕ) → IsLine line (clip room raw) → IsLine line raw
clip_told room e line raw h = at (ltb room (length raw)) refl
  where
    long : (line : Line) → room < length raw → IsLine line (take room raw ++ passed_mark ∷ []) → IsLine line raw
    long (Bytes line) over h =
        let cut : List ℕ = take room raw ++ passed_mark ∷ [] in
        absurd (omega (arith, without_cr-least cut, length-append (take room raw) (passed_mark ∷ []), length-take-le room raw (omega arith), h.1))
    long Long over h = too_long raw (omega arith)

    at : (t : Bool) → ltb room (length raw) ≡ t → IsLine line raw
    at true f = let over : room < length raw = grind arith in long line over (subst (IsLine line) (clip-long room raw over) h)
    at false f = let short : length raw ≤ room = grind arith in subst (IsLine line) (clip-short room raw short) h

-- a line that was cut is told as the whole line is
pub uncut : (line : Line) (raw : List ℕ) → IsLine line (clip most_kept raw) → IsLine line raw
uncut line raw h = clip_told most_kept refl line raw h
