-- The first line of some bytes and the lines behind it.
use Rattle.std.proofs.Common.{◌≡◌, ℕ, Bool, true, false, cond, ◌==◌, ◌||◌, List, [], ◌∷◌, ◌++◌, map, refl, ap, sym, ◌∙◌, append-nil, append_assoc}
use Rattle.std.specs.List.{list_any}
use Rattle.std.proofs.lemmas.List.Folds.{list_any-append}
use Rattle.event_model.specs.Bytes.{feed}
use Rattle.event_model.specs.Lines.{without_cr, ended_from, rest_from, ended, rest, last_line, lines_of}
use Rattle.line_reader.specs.Cutting.{NoFeed, AreLines, with_feeds}

abbrev is_feed : ℕ → Bool
is_feed b = b == feed

neither : (t u : Bool) → (t || u) ≡ false → (t ≡ false) × (u ≡ false)
neither true u e = (e, grind_false u e)
  where
    grind_false : (u : Bool) → true ≡ false → u ≡ false
    grind_false u e = cc
neither false u e = (refl, e)

-- the first of bytes without a line feed is none, and none is among the others
pub no_feed-parts : (b : ℕ) (bytes : List ℕ) → NoFeed (b ∷ bytes) → ((b == feed) ≡ false) × NoFeed bytes
no_feed-parts b bytes h = neither (b == feed) (list_any is_feed bytes) h

pub no_feed-front : (xs ys : List ℕ) → NoFeed (xs ++ ys) → NoFeed xs
no_feed-front xs ys h = (neither (list_any is_feed xs) (list_any is_feed ys) (sym (list_any-append is_feed xs ys) ∙ h)).0

pub no_feed-append : (xs ys : List ℕ) → NoFeed xs → NoFeed ys → NoFeed (xs ++ ys)
no_feed-append xs ys h k = list_any-append is_feed xs ys ∙ ap (λ t. t || list_any is_feed ys) h ∙ k

-- bytes without a line feed go to the part that came before
pub ended_from-part : (part bytes more : List ℕ) → NoFeed bytes → ended_from part (bytes ++ more) ≡ ended_from (part ++ bytes) more
ended_from-part part [] more h = ap (λ p. ended_from p more) (sym (append-nil part))
ended_from-part part (b ∷ bytes) more h =
    let p = no_feed-parts b bytes h in
    ap (λ t. cond t (without_cr part ∷ ended_from [] (bytes ++ more)) (ended_from (part ++ b ∷ []) (bytes ++ more))) p.0
    ∙ ended_from-part (part ++ b ∷ []) bytes more p.1 ∙ ap (λ l. ended_from l more) (append_assoc part (b ∷ []) bytes)

pub rest_from-part : (part bytes more : List ℕ) → NoFeed bytes → rest_from part (bytes ++ more) ≡ rest_from (part ++ bytes) more
rest_from-part part [] more h = ap (λ p. rest_from p more) (sym (append-nil part))
rest_from-part part (b ∷ bytes) more h =
    let p = no_feed-parts b bytes h in
    ap (λ t. cond t (rest_from [] (bytes ++ more)) (rest_from (part ++ b ∷ []) (bytes ++ more))) p.0
    ∙ rest_from-part (part ++ b ∷ []) bytes more p.1 ∙ ap (λ l. rest_from l more) (append_assoc part (b ∷ []) bytes)

-- a line feed ends the first line
pub ended-line : (raw more : List ℕ) → NoFeed raw → ended (raw ++ feed ∷ more) ≡ without_cr raw ∷ ended more
ended-line raw more h = ended_from-part [] raw (feed ∷ more) h

pub rest-line : (raw more : List ℕ) → NoFeed raw → rest (raw ++ feed ∷ more) ≡ rest more
rest-line raw more h = rest_from-part [] raw (feed ∷ more) h

-- without a line feed no line is ended
pub ended-open : (bytes : List ℕ) → NoFeed bytes → ended bytes ≡ []
ended-open bytes h = ap ended (sym (append-nil bytes)) ∙ ended_from-part [] bytes [] h

pub rest-open : (bytes : List ℕ) → NoFeed bytes → rest bytes ≡ bytes
rest-open bytes h = ap rest (sym (append-nil bytes)) ∙ rest_from-part [] bytes [] h

-- what came before may stand in front
pub ended-front : (part piece : List ℕ) → NoFeed part → ended_from part piece ≡ ended (part ++ piece)
ended-front part piece h = sym (ended_from-part [] part piece h)

pub rest-front : (part piece : List ℕ) → NoFeed part → rest_from part piece ≡ rest (part ++ piece)
rest-front part piece h = sym (rest_from-part [] part piece h)

no_feed-rest_from : (part bytes : List ℕ) → NoFeed part → NoFeed (rest_from part bytes)
no_feed-rest_from part [] h = h
no_feed-rest_from part (b ∷ bytes) h = at (b == feed) refl (no_feed-rest_from [] bytes refl) (no_feed-rest_from (part ++ b ∷ []) bytes)
  where
    at : (t : Bool) → (b == feed) ≡ t → NoFeed (rest_from [] bytes) → (NoFeed (part ++ b ∷ []) → NoFeed (rest_from (part ++ b ∷ []) bytes))
        → NoFeed (cond t (rest_from [] bytes) (rest_from (part ++ b ∷ []) bytes))
    at true e behind longer = behind
    at false e behind longer = longer (no_feed-append part (b ∷ []) h (ap (λ t. t || false) e))

pub no_feed-rest : (bytes : List ℕ) → NoFeed (rest bytes)
no_feed-rest bytes = no_feed-rest_from [] bytes refl

-- lines, each with its line feed, and then an open line
pub lines_of-given : (raws : List (List ℕ)) (left : List ℕ) → AreLines raws → NoFeed left → lines_of (with_feeds raws ++ left) ≡ map without_cr raws ++ last_line left
lines_of-given [] left all h = ap (λ l. l ++ last_line (rest left)) (ended-open left h) ∙ ap last_line (rest-open left h)
lines_of-given (raw ∷ raws) left all h =
    let more : List ℕ = with_feeds raws ++ left in
    let same : with_feeds (raw ∷ raws) ++ left ≡ raw ++ feed ∷ more = append_assoc (raw ++ feed ∷ []) (with_feeds raws) left ∙ append_assoc raw (feed ∷ []) more in
    ap lines_of same ∙ ap (λ l. l ++ last_line (rest (raw ++ feed ∷ more))) (ended-line raw more all.0) ∙ ap (λ l. without_cr raw ∷ (ended more ++ last_line l)) (rest-line raw more all.0)
    ∙ ap (λ l. without_cr raw ∷ l) (lines_of-given raws left all.1 h)
