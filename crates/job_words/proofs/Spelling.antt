-- How the sorts of words are spelled.
use Rattle.std.proofs.Common.{◌≡◌, ◌∙◌, refl, sym, ap, ap₂, arith, Bool, true, false, not, ℕ, suc, ◌+◌, ◌||◌, [], ◌∷◌, ◌++◌, take, drop, Option, Some, None, codes, true≢false}
use Rattle.std.specs.Prelude.{option_and_then, if◌then◌else◌, ◌==◌, unwrap_or}
use Rattle.std.specs.List.{list_any, before_first, after_first, position_or_len}
use Rattle.std.specs.Str.{bytes_eq}
use Rattle.std.proofs.lemmas.Bool.{eqb-true}
use Rattle.std.proofs.lemmas.Slice.Eq.{bytes_eq-Decides}
use Rattle.clap.specs.Lexer.{long_of, short_of, name_and_value, long_of_rest, strip_byte}
use Rattle.job_words.specs.Words.{Text, OptionName, Late, Seed, Lines, option_word, is_plain}
use Rattle.job_words.proofs.ClapSteps.{Sort, Word, Dashes, Opens, Whole, Bad, sort, sort_by, name_of, name_by, named}

abbrev is_equals : ℕ → Bool
is_equals x = x == 61

-- ---- the first `=`

no_cut_step : (x : ℕ) (t : Text) → (list_any is_equals t ≡ false → before_first is_equals t ≡ t) → (b : Bool) → is_equals x ≡ b
    → (b || list_any is_equals t) ≡ false → before_first is_equals (x ∷ t) ≡ x ∷ t
no_cut_step x t ih true is e = absurd (true≢false e)
no_cut_step x t ih false is e =
    let one : 1 + position_or_len is_equals t ≡ suc (position_or_len is_equals t) = omega arith in
    rw is (ap (λ i. take i (x ∷ t)) one ∙ ap (λ s. x ∷ s) (ih e))

no_cut : (t : Text) → list_any is_equals t ≡ false → before_first is_equals t ≡ t
no_cut [] e = refl
no_cut (x ∷ t) e = no_cut_step x t (no_cut t) (is_equals x) refl e

cut_step : (x : ℕ) (t : Text) → (list_any is_equals t ≡ true → t ≡ before_first is_equals t ++ 61 ∷ after_first is_equals t) → (b : Bool)
    → is_equals x ≡ b → (b || list_any is_equals t) ≡ true
    → x ∷ t ≡ before_first is_equals (x ∷ t) ++ 61 ∷ after_first is_equals (x ∷ t)
cut_step x t ih true is e = rw is (ap (λ h. h ∷ t) (eqb-true x 61 is))
cut_step x t ih false is e =
    let one : 1 + position_or_len is_equals t ≡ suc (position_or_len is_equals t) = omega arith in
    let two : 1 + position_or_len is_equals t + 1 ≡ suc (position_or_len is_equals t + 1) = omega arith in
    rw is (ap (λ s. x ∷ s) (ih e) ∙ ap₂ (λ i j. take i (x ∷ t) ++ 61 ∷ drop j (x ∷ t)) (sym one) (sym two))

cut : (t : Text) → list_any is_equals t ≡ true → t ≡ before_first is_equals t ++ 61 ∷ after_first is_equals t
cut [] e = absurd (true≢false (sym e))
cut (x ∷ t) e = cut_step x t (cut t) (is_equals x) refl e

-- ---- words that are spelled so

pub option_word_opens : (o : OptionName) → sort (option_word o) ≡ Opens o
option_word_opens Late = refl
option_word_opens Seed = refl
option_word_opens Lines = refl

pub option_word_whole : (o : OptionName) (v : Text) → sort (option_word o ++ 61 ∷ v) ≡ Whole o v
option_word_whole Late v = refl
option_word_whole Seed v = refl
option_word_whole Lines v = refl

pub plain_word : (w : Text) → is_plain w ≡ true → sort w ≡ Word
plain_word [] e = refl
plain_word (b ∷ []) e = go (b == 45) refl
  where
    go : (t : Bool) → (b == 45) ≡ t → sort (b ∷ []) ≡ Word
    go true is = rw is refl
    go false is = rw is refl
plain_word (b ∷ c ∷ more) e = go (b == 45) refl e
  where
    go : (t : Bool) → (b == 45) ≡ t → not t ≡ true → sort (b ∷ c ∷ more) ≡ Word
    go true is e = absurd (true≢false (sym e))
    go false is e = rw is refl

-- ---- and back

abbrev is_word : Sort → Bool
is_word Word = true
is_word _ = false

named_no_word : (q : Option OptionName) (v : Option Text) → is_word (named q v) ≡ false
named_no_word None v = refl
named_no_word (Some o) None = refl
named_no_word (Some o) (Some v) = refl

not_word : (w : Text) (s : Sort) → sort w ≡ s → is_word s ≡ false → sort w ≡ Word → ⊥
not_word w s e other is = true≢false (sym (ap is_word is) ∙ ap is_word e ∙ other)

dashed : (b c : ℕ) (more : Text) → (b == 45) ≡ true → (u : Bool) → (c == 45) ≡ u → sort (b ∷ c ∷ more) ≡ Word → ⊥
dashed b c more is false is2 = not_word (b ∷ c ∷ more) Bad (rw (is, is2) refl) refl
dashed b c [] is true is2 = not_word (b ∷ c ∷ []) Dashes (rw (is, is2) refl) refl
dashed b c (d ∷ ds) is true is2 = let p = name_and_value (d ∷ ds) in not_word (b ∷ c ∷ d ∷ ds) (named (name_of p.0) p.1) (rw (is, is2) refl)
    (named_no_word (name_of p.0) p.1)

pub word_plain : (w : Text) → sort w ≡ Word → is_plain w ≡ true
word_plain [] e = refl
word_plain (b ∷ []) e = refl
word_plain (b ∷ c ∷ more) e = go (b == 45) refl
  where
    go : (t : Bool) → (b == 45) ≡ t → not (b == 45) ≡ true
    go true is = absurd (dashed b c more is (c == 45) refl e)
    go false is = ap not is

pub dashes_spelled : (w : Text) → sort w ≡ Dashes → w ≡ codes "--"
dashes_spelled w e = go (bytes_eq w (45 ∷ 45 ∷ [])) (long_of w) (short_of w) refl e
  where
    named_no : (q : Option OptionName) (v : Option Text) → named q v ≡ Dashes → w ≡ codes "--"
    named_no None v e = cc
    named_no (Some o) None e = cc
    named_no (Some o) (Some v) e = cc

    go : (b : Bool) (lo : Option (Text × Option Text)) (sh : Option Text) → bytes_eq w (45 ∷ 45 ∷ []) ≡ b → sort_by b lo sh ≡ Dashes
        → w ≡ codes "--"
    go true lo sh e1 e = (bytes_eq-Decides w (45 ∷ 45 ∷ [])).0 e1
    go false (Some p) sh e1 e = named_no (name_of p.0) p.1 e
    go false None (Some f) e1 e = cc
    go false None None e1 e = cc

-- ---- options

abbrev pub option_text : OptionName → Text
option_text Late = codes "late"
option_text Seed = codes "seed"
option_text Lines = codes "lines"

option_word_is : (o : OptionName) → option_word o ≡ 45 ∷ 45 ∷ option_text o
option_word_is Late = refl
option_word_is Seed = refl
option_word_is Lines = refl

name_spelled : (n : Text) (o : OptionName) → name_of n ≡ Some o → n ≡ option_text o
name_spelled n o e = go (bytes_eq (codes "late") n) (bytes_eq (codes "seed") n) (bytes_eq (codes "lines") n) refl refl refl e
  where
    got : (q : OptionName) → option_text q ≡ n → Some q ≡ Some o → n ≡ option_text o
    got q is e = sym is ∙ ap (λ x. option_text (unwrap_or x q)) e

    go : (a b d : Bool) → bytes_eq (codes "late") n ≡ a → bytes_eq (codes "seed") n ≡ b → bytes_eq (codes "lines") n ≡ d
        → name_by a b d ≡ Some o → n ≡ option_text o
    go true b d e1 e2 e3 e = got Late ((bytes_eq-Decides (codes "late") n).0 e1) e
    go false true d e1 e2 e3 e = got Seed ((bytes_eq-Decides (codes "seed") n).0 e2) e
    go false false true e1 e2 e3 e = got Lines ((bytes_eq-Decides (codes "lines") n).0 e3) e
    go false false false e1 e2 e3 e = cc

long_parts : (w : Text) (p : Text × Option Text) → long_of w ≡ Some p → (t : Text) × (w ≡ 45 ∷ 45 ∷ t) × (p ≡ name_and_value t)
long_parts [] p e = cc
long_parts (b ∷ []) p e = go (b == 45) e
  where
    go : (u : Bool) → option_and_then long_of_rest (option_and_then (strip_byte 45) (if u then Some [] else None)) ≡ Some p → (t : Text)
        × (b ∷ [] ≡ 45 ∷ 45 ∷ t) × (p ≡ name_and_value t)
    go true e = cc
    go false e = cc
long_parts (b ∷ c ∷ more) p e = go (b == 45) refl e
  where
    rest : (ts : Text) → b ≡ 45 → c ≡ 45 → long_of_rest ts ≡ Some p → (t : Text) × (b ∷ c ∷ ts ≡ 45 ∷ 45 ∷ t) × (p ≡ name_and_value t)
    rest [] is is2 e = cc
    rest (x ∷ xs) is is2 e = (x ∷ xs, ap₂ (λ i j. i ∷ j ∷ x ∷ xs) is is2, ap (λ (o : Option (Text × Option Text)). unwrap_or o p) (sym e))

    next : b ≡ 45 → (u : Bool) → (c == 45) ≡ u → option_and_then long_of_rest (if u then Some more else None) ≡ Some p → (t : Text)
        × (b ∷ c ∷ more ≡ 45 ∷ 45 ∷ t) × (p ≡ name_and_value t)
    next is true is2 e = rest more is (eqb-true c 45 is2) e
    next is false is2 e = cc

    go : (u : Bool) → (b == 45) ≡ u → option_and_then long_of_rest (option_and_then (strip_byte 45) (if u then Some (c ∷ more) else None))
        ≡ Some p → (t : Text) × (b ∷ c ∷ more ≡ 45 ∷ 45 ∷ t) × (p ≡ name_and_value t)
    go true is e = next (eqb-true b 45 is) (c == 45) refl e
    go false is e = cc

abbrev opened : Sort → Option OptionName
opened (Opens o) = Some o
opened (Whole o v) = Some o
opened _ = None

abbrev whole_value : Sort → Option Text
whole_value (Whole o v) = Some v
whole_value _ = None

-- an option's word is spelled by its name, and its value where it has one
abbrev spelled : OptionName → Option Text → Text
spelled o None = option_word o
spelled o (Some v) = option_word o ++ 61 ∷ v

named_parts : (q : Option OptionName) (v : Option Text) (o : OptionName) → opened (named q v) ≡ Some o → (q ≡ Some o)
    × (whole_value (named q v) ≡ v)
named_parts None v o e = cc
named_parts (Some q) None o e = (e, refl)
named_parts (Some q) (Some v) o e = (e, refl)

text_spelled : (t : Text) (o : OptionName) → name_of (name_and_value t).0 ≡ Some o → 45 ∷ 45 ∷ t ≡ spelled o (name_and_value t).1
text_spelled t o e = go (list_any is_equals t) refl
  where
    front : before_first is_equals t ≡ option_text o
    front = name_spelled (before_first is_equals t) o e

    go : (b : Bool) → list_any is_equals t ≡ b → 45 ∷ 45 ∷ t ≡ spelled o (if list_any is_equals t then Some (after_first is_equals t)
        else None)
    go true is = rw is (ap (λ s. 45 ∷ 45 ∷ s) (cut t is ∙ ap (λ s. s ++ 61 ∷ after_first is_equals t) front)
        ∙ ap (λ s. s ++ 61 ∷ after_first is_equals t) (sym (option_word_is o)))
    go false is = rw is (ap (λ s. 45 ∷ 45 ∷ s) (sym (no_cut t is) ∙ front) ∙ sym (option_word_is o))

option_spelled : (w : Text) (o : OptionName) → opened (sort w) ≡ Some o → w ≡ spelled o (whole_value (sort w))
option_spelled w o e = go (bytes_eq w (45 ∷ 45 ∷ [])) (long_of w) (short_of w) refl e
  where
    long : (p : Text × Option Text) → long_of w ≡ Some p → opened (named (name_of p.0) p.1) ≡ Some o
        → w ≡ spelled o (whole_value (named (name_of p.0) p.1))
    long p e2 e =
        let (t, whole, is) = long_parts w p e2 in
        let parts = named_parts (name_of p.0) p.1 o e in
        whole ∙ text_spelled t o (ap (λ (x : Text × Option Text). name_of x.0) (sym is) ∙ parts.0)
        ∙ ap (λ (x : Text × Option Text). spelled o x.1) (sym is) ∙ ap (spelled o) (sym parts.1)

    go : (b : Bool) (lo : Option (Text × Option Text)) (sh : Option Text) → long_of w ≡ lo → opened (sort_by b lo sh) ≡ Some o
        → w ≡ spelled o (whole_value (sort_by b lo sh))
    go true lo sh e2 e = cc
    go false (Some p) sh e2 e = long p e2 e
    go false None (Some f) e2 e = cc
    go false None None e2 e = cc

pub opens_spelled : (w : Text) (o : OptionName) → sort w ≡ Opens o → w ≡ option_word o
opens_spelled w o e = option_spelled w o (ap opened e) ∙ ap (λ s. spelled o (whole_value s)) e

pub whole_spelled : (w : Text) (o : OptionName) (v : Text) → sort w ≡ Whole o v → w ≡ option_word o ++ 61 ∷ v
whole_spelled w o v e = option_spelled w o (ap opened e) ∙ ap (λ s. spelled o (whole_value s)) e
