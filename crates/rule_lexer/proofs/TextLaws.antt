-- Texts between quotes.
use Rattle.std.proofs.Common.{◌≡◌, ℕ, ◌+◌, ◌≤◌, Bool, true, false, cond, ◌==◌, List, [], ◌∷◌, ◌++◌, length, take, drop, refl, sym, ap, ◌∙◌, subst, arith, suc, ◌⊎◌, inl, inr, Result, Ok, Err, length-append, append_assoc}
use Rattle.std.proofs.lemmas.Bool.{and_parts, and_from, false≢true, eqb-true}
use Rattle.std.proofs.lemmas.List.{take-append-drop, take_at, length-take-le}
use Rattle.rule_lexer.specs.declared.tokens.LexKind.{LexKind}
use Rattle.rule_lexer.specs.declared.tokens.LexKind.TheVariants.{OpenText, BadEscape}
use Rattle.rule_lexer.specs.declared.tokens.TokenKind.{TokenKind}
use Rattle.rule_lexer.specs.declared.tokens.TokenKind.TheVariants.{Text}
use Rattle.rule_lexer.specs.Sorts.{is_quote, begins}
use Rattle.rule_lexer.specs.Spelling.{IsText, is_character, opens_escape, are_characters, is_escape}
use Rattle.rule_lexer.specs.Places.{HasBadEscape, Faulty}
use Rattle.rule_lexer.specs.Reading.{text_end, text_stop, TokenOf, LongestOf, NoneOf}
use Rattle.rule_lexer.proofs.Classes.{IsQuote, class_stands, quote_class, as_text}

-- characters and a quote are read up to the quote
pub text_end-quote : (escaped : Bool) (n : ℕ) (inside rest : List ℕ) → are_characters escaped inside ≡ true → text_end escaped n (inside ++ 34 ∷ rest) ≡ Ok (n + length inside)
text_end-quote true n [] rest h = absurd (false≢true h)
text_end-quote false n [] rest h = ap Ok (omega arith)
text_end-quote true n (b ∷ inside) rest h =
    let both = and_parts (is_character true b) (are_characters (opens_escape true b) inside) h in
    rw both.0 (text_end-quote (opens_escape true b) (suc n) inside rest both.1 ∙ ap Ok (omega arith))
text_end-quote false n (b ∷ inside) rest h =
    let both = and_parts (is_character false b) (are_characters (opens_escape false b) inside) h in
    rw both.0 (text_end-quote (opens_escape false b) (suc n) inside rest both.1 ∙ ap Ok (omega arith))

bad_end : (n : ℕ) (behind : List ℕ) → begins is_escape behind ≡ false → text_end true n behind ≡ Err BadEscape
bad_end n [] e = refl
bad_end n (b ∷ behind) e = rw e refl

-- and up to a backslash that begins no escape
pub text_end-bad : (escaped : Bool) (n : ℕ) (inside behind : List ℕ) → are_characters escaped inside ≡ true → begins is_escape behind ≡ false → text_end escaped n (inside ++ 92 ∷ behind) ≡ Err BadEscape
text_end-bad true n [] behind h e = absurd (false≢true h)
text_end-bad false n [] behind h e = bad_end (suc n) behind e
text_end-bad true n (b ∷ inside) behind h e =
    let both = and_parts (is_character true b) (are_characters (opens_escape true b) inside) h in
    rw both.0 (text_end-bad (opens_escape true b) (suc n) inside behind both.1 e)
text_end-bad false n (b ∷ inside) behind h e =
    let both = and_parts (is_character false b) (are_characters (opens_escape false b) inside) h in
    rw both.0 (text_end-bad (opens_escape false b) (suc n) inside behind both.1 e)

-- what a place where a text ends tells

pub record EndsAt (escaped : Bool) (n : ℕ) (bs : List ℕ) (m : ℕ) : Type 0 where
  pub inside : List ℕ
  pub rest : List ℕ
  pub whole : bs ≡ inside ++ 34 ∷ rest
  pub characters : are_characters escaped inside ≡ true
  pub place : m ≡ n + length inside

stops_at : (escaped : Bool) (n m b : ℕ) (bs : List ℕ) → text_stop escaped n b ≡ Ok m → EndsAt escaped n (b ∷ bs) m
stops_at true n m b bs e = let z : ⊥ = cc in absurd z
stops_at false n m b bs e = at (b == 34) refl e
  where
    at : (t : Bool) → (b == 34) ≡ t → cond {A = Result ℕ LexKind} t (Ok n) (Err OpenText) ≡ Ok m → EndsAt false n (b ∷ bs) m
    at true q f = record { inside = []; rest = bs; whole = ap (λ x. x ∷ bs) (eqb-true b 34 q); characters = refl; place = (let g : n ≡ m = cc in omega arith) }
    at false q f = let z : ⊥ = cc in absurd z

more_inside : (escaped : Bool) (n m b : ℕ) (bs : List ℕ) → is_character escaped b ≡ true → EndsAt (opens_escape escaped b) (suc n) bs m → EndsAt escaped n (b ∷ bs) m
more_inside escaped n m b bs c h = record {
  inside = b ∷ h.inside;
  rest = h.rest;
  whole = ap (λ xs. b ∷ xs) h.whole;
  characters = and_from _ _ c h.characters;
  place = omega (arith, h.place);
}

abbrev TextEnds : Bool → ℕ → List ℕ → Type 0
TextEnds escaped n bs = (m : ℕ) → text_end escaped n bs ≡ Ok m → EndsAt escaped n bs m

ends_step : (escaped : Bool) (n m b : ℕ) (bs : List ℕ) → ((s : Bool) → TextEnds s (suc n) bs) → (t : Bool) → is_character escaped b ≡ t
    → cond t (text_end (opens_escape escaped b) (suc n) bs) (text_stop escaped n b) ≡ Ok m → EndsAt escaped n (b ∷ bs) m
ends_step escaped n m b bs go true c e = more_inside escaped n m b bs c (go (opens_escape escaped b) m e)
ends_step escaped n m b bs go false c e = stops_at escaped n m b bs e

pub text_ends : (bs : List ℕ) (escaped : Bool) (n : ℕ) → TextEnds escaped n bs
text_ends [] true n m e = let z : ⊥ = cc in absurd z
text_ends [] false n m e = let z : ⊥ = cc in absurd z
text_ends (b ∷ bs) true n m e = ends_step true n m b bs (λ s. text_ends bs s (suc n)) (is_character true b) refl e
text_ends (b ∷ bs) false n m e = ends_step false n m b bs (λ s. text_ends bs s (suc n)) (is_character false b) refl e

-- what a bad escape tells: it stands in the bytes, or they begin behind its backslash

pub record BadIn (escaped : Bool) (bs : List ℕ) : Type 0 where
  pub inside : List ℕ
  pub behind : List ℕ
  pub whole : bs ≡ inside ++ 92 ∷ behind
  pub characters : are_characters escaped inside ≡ true
  pub no_escape : begins is_escape behind ≡ false

abbrev BadFrom : Bool → List ℕ → Type 0
BadFrom escaped bs = ((escaped ≡ true) × (begins is_escape bs ≡ false)) ⊎ BadIn escaped bs

abbrev TextBad : Bool → ℕ → List ℕ → Type 0
TextBad escaped n bs = text_end escaped n bs ≡ Err BadEscape → BadFrom escaped bs

bad_stop : (escaped : Bool) (n b : ℕ) (bs : List ℕ) → is_character escaped b ≡ false → text_stop escaped n b ≡ Err BadEscape → BadFrom escaped (b ∷ bs)
bad_stop true n b bs c e = inl (refl, c)
bad_stop false n b bs c e = at (b == 34) e
  where
    at : (t : Bool) → cond {A = Result ℕ LexKind} t (Ok n) (Err OpenText) ≡ Err BadEscape → BadFrom false (b ∷ bs)
    at true f = let z : ⊥ = cc in absurd z
    at false f = let z : ⊥ = cc in absurd z

bad_first : (escaped : Bool) (b : ℕ) (bs : List ℕ) → opens_escape escaped b ≡ true → begins is_escape bs ≡ false → BadIn escaped (b ∷ bs)
bad_first true b bs o e = absurd (false≢true o)
bad_first false b bs o e = record { inside = []; behind = bs; whole = ap (λ x. x ∷ bs) (eqb-true b 92 o); characters = refl; no_escape = e }

bad_more : (escaped : Bool) (b : ℕ) (bs : List ℕ) → is_character escaped b ≡ true → BadFrom (opens_escape escaped b) bs → BadFrom escaped (b ∷ bs)
bad_more escaped b bs c (inl h) = inr (bad_first escaped b bs h.0 h.1)
bad_more escaped b bs c (inr h) = inr (record { inside = b ∷ h.inside; behind = h.behind; whole = ap (λ xs. b ∷ xs) h.whole; characters = and_from _ _ c h.characters; no_escape = h.no_escape })

bad_step : (escaped : Bool) (n b : ℕ) (bs : List ℕ) → ((s : Bool) → TextBad s (suc n) bs) → (t : Bool) → is_character escaped b ≡ t
    → cond t (text_end (opens_escape escaped b) (suc n) bs) (text_stop escaped n b) ≡ Err BadEscape → BadFrom escaped (b ∷ bs)
bad_step escaped n b bs go true c e = bad_more escaped b bs c (go (opens_escape escaped b) e)
bad_step escaped n b bs go false c e = bad_stop escaped n b bs c e

text_bad : (bs : List ℕ) (escaped : Bool) (n : ℕ) → TextBad escaped n bs
text_bad [] true n e = inl (refl, refl)
text_bad [] false n e = let z : ⊥ = cc in absurd z
text_bad (b ∷ bs) true n e = bad_step true n b bs (λ s. text_bad bs s (suc n)) (is_character true b) refl e
text_bad (b ∷ bs) false n e = bad_step false n b bs (λ s. text_bad bs s (suc n)) (is_character false b) refl e

-- in the words of tokens

as_quoted : (bs : List ℕ) (k : TokenKind) (n : ℕ) → begins is_quote bs ≡ true → TokenOf bs k n → IsText (take n bs)
as_quoted bs k n q t = as_text k (take n bs) (subst IsQuote (sym (class_stands bs k n t ∙ quote_class bs q)) tt) t.token.spells

-- a text at the first place ends where reading ends
quoted_end : (b : ℕ) (bs : List ℕ) (n : ℕ) → n ≤ length (b ∷ bs) → (h : IsText (take n (b ∷ bs))) → (text_end false 0 bs ≡ Ok (length h.inside)) × (n ≡ length h.inside + 2)
quoted_end b bs n l h =
    let split : take n (b ∷ bs) ++ drop n (b ∷ bs) ≡ b ∷ bs = take-append-drop n (b ∷ bs) in
    let whole : b ∷ bs ≡ (34 ∷ h.inside ++ 34 ∷ []) ++ drop n (b ∷ bs) = sym split ∙ ap (λ xs. xs ++ drop n (b ∷ bs)) h.whole in
    let inner : bs ≡ (h.inside ++ 34 ∷ []) ++ drop n (b ∷ bs) = cc in
    let flat : bs ≡ h.inside ++ 34 ∷ drop n (b ∷ bs) = simp append_assoc at inner in (
      ap (text_end false 0) flat ∙ text_end-quote false 0 h.inside (drop n (b ∷ bs)) h.characters ∙ ap Ok (omega arith),
      omega (arith, ap length h.whole, length-append h.inside (34 ∷ []), length-take-le n (b ∷ bs) l),
    )

pub text_longest : (bs : List ℕ) (n : ℕ) → begins is_quote bs ≡ true → text_end false 0 (drop 1 bs) ≡ Ok n → LongestOf bs Text (n + 2)
text_longest [] n q e = absurd (false≢true q)
text_longest (b ∷ bs) n q e = record {
  stands = record { within = omega (arith, simp length-append at (ap length whole), h.place); token = record { spells = record { inside = h.inside; whole = front; characters = h.characters }; follows = refl } };
  longest = λ j m more t.
      let s = quoted_end b bs m t.within (as_quoted (b ∷ bs) j m q t) in
      let read = s.0 in
      let equal : n ≡ length (as_quoted (b ∷ bs) j m q t).inside = cc in
      omega (arith, s.1);
}
  where
    h : EndsAt false 0 bs n
    h = text_ends bs false 0 n e

    whole : b ∷ bs ≡ (34 ∷ h.inside ++ 34 ∷ []) ++ h.rest
    whole = (let f : b ≡ 34 = eqb-true b 34 q in let g : (h.inside ++ 34 ∷ []) ++ h.rest ≡ h.inside ++ 34 ∷ h.rest = append_assoc h.inside (34 ∷ []) h.rest in let w = h.whole in cc)

    front : take (n + 2) (b ∷ bs) ≡ 34 ∷ h.inside ++ 34 ∷ []
    front = ap (take (n + 2)) whole ∙ take_at (34 ∷ h.inside ++ 34 ∷ []) h.rest (n + 2) (omega (arith, length-append h.inside (34 ∷ []), h.place))

text_none : (b : ℕ) (bs : List ℕ) (kind : LexKind) → is_quote b ≡ true → text_end false 0 bs ≡ Err kind → NoneOf (b ∷ bs)
text_none b bs kind q e = record {
  none = λ j m t. let s = (quoted_end b bs m t.within (as_quoted (b ∷ bs) j m q t)).0 in let z : ⊥ = cc in z;
}

no_bad : (b : ℕ) (bs : List ℕ) (kind : LexKind) → text_end false 0 bs ≡ Err kind → HasBadEscape (b ∷ bs) → kind ≡ BadEscape
no_bad b bs kind e h =
    let whole = h.whole in
    let inner : bs ≡ h.inside ++ 92 ∷ h.behind = cc in
    let f = ap (text_end false 0) inner ∙ text_end-bad false 0 h.inside h.behind h.characters h.no_escape in
    cc

has_bad : (b : ℕ) (bs : List ℕ) → is_quote b ≡ true → BadFrom false bs → HasBadEscape (b ∷ bs)
has_bad b bs q (inl h) = absurd (false≢true h.0)
has_bad b bs q (inr h) = record {
  inside = h.inside;
  behind = h.behind;
  whole = (let f : b ≡ 34 = eqb-true b 34 q in let w = h.whole in cc);
  characters = h.characters;
  no_escape = h.no_escape;
}

-- a text without an end has one of two faults

abbrev OneOfTwo : LexKind → Type 0
OneOfTwo kind = (kind ≡ OpenText) ⊎ (kind ≡ BadEscape)

abbrev TextFaults : Bool → ℕ → List ℕ → Type 0
TextFaults escaped n bs = (kind : LexKind) → text_end escaped n bs ≡ Err kind → OneOfTwo kind

fault_stop : (escaped : Bool) (n b : ℕ) (kind : LexKind) → text_stop escaped n b ≡ Err kind → OneOfTwo kind
fault_stop true n b kind e = inr cc
fault_stop false n b kind e = at (b == 34) e
  where
    at : (t : Bool) → cond {A = Result ℕ LexKind} t (Ok n) (Err OpenText) ≡ Err kind → OneOfTwo kind
    at true f = let z : ⊥ = cc in absurd z
    at false f = inl cc

fault_step : (escaped : Bool) (n b : ℕ) (bs : List ℕ) (kind : LexKind) → ((s : Bool) → TextFaults s (suc n) bs) → (t : Bool)
    → cond t (text_end (opens_escape escaped b) (suc n) bs) (text_stop escaped n b) ≡ Err kind → OneOfTwo kind
fault_step escaped n b bs kind go true e = go (opens_escape escaped b) kind e
fault_step escaped n b bs kind go false e = fault_stop escaped n b kind e

text_faults : (bs : List ℕ) (escaped : Bool) (n : ℕ) → TextFaults escaped n bs
text_faults [] true n kind e = inr cc
text_faults [] false n kind e = inl cc
text_faults (b ∷ bs) true n kind e = fault_step true n b bs kind (λ s. text_faults bs s (suc n)) (is_character true b) e
text_faults (b ∷ bs) false n kind e = fault_step false n b bs kind (λ s. text_faults bs s (suc n)) (is_character false b) e

faulty_text : (b : ℕ) (bs : List ℕ) (kind : LexKind) → is_quote b ≡ true → text_end false 0 bs ≡ Err kind → OneOfTwo kind → Faulty kind (b ∷ bs)
faulty_text b bs kind q e (inl p) = rw p (q, λ h. let f : kind ≡ BadEscape = no_bad b bs kind e h in let z : ⊥ = cc in z)
faulty_text b bs kind q e (inr p) = rw p (has_bad b bs q (text_bad bs false 0 (e ∙ ap Err p)))

pub text_fault : (bs : List ℕ) (kind : LexKind) → begins is_quote bs ≡ true → text_end false 0 (drop 1 bs) ≡ Err kind → NoneOf bs × Faulty kind bs
text_fault [] kind q e = absurd (false≢true q)
text_fault (b ∷ bs) kind q e = (text_none b bs kind q e, faulty_text b bs kind q e (text_faults bs false 0 kind e))
