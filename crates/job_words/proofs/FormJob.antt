-- The job that uses come to.
use Rattle.std.proofs.Common.{◌≡◌, ◌∙◌, refl, sym, ap, ap₂, subst, Bool, true, false, ◌||◌, List, [], ◌∷◌, ◌++◌, map, Option, Some, None, codes, true≢false}
use Rattle.std.specs.Prelude.{if◌then◌else◌, unwrap_or}
use Rattle.std.specs.List.{flat_map}
use Rattle.std.specs.Str.{bytes_eq}
use Rattle.std.proofs.lemmas.Slice.Eq.{bytes_eq-Decides}
use Rattle.std.proofs.lemmas.List.{append_assoc, append-nil}
use Rattle.clap.specs.Words.{first_of}
use Rattle.job_words.specs.Words.{Text, OptionName, Late, Seed, Lines, Item, Alone, Apart, Joined, positional, alone_in, values, value_in, same_name, job_of}
use Rattle.job_words.specs.Account.{as_list, two, job_in}
use Rattle.job_words.proofs.ClapWalk.{Id, First, Second, Of, id_text, Use, row, has_use, settle}
use Rattle.job_words.proofs.ClapSteps.{Place, Zero, One, Two}
use Rattle.job_words.proofs.FormSound.{laid, uses_by, all_in}
use Rattle.job_words.proofs.FormComplete.{cut, added}

-- the values that uses give to an id
abbrev pub values_for : Text → List Use → List Text
values_for t [] = []
values_for t (u ∷ us) = if bytes_eq (id_text u.0) t then u.1 ∷ values_for t us else values_for t us

abbrev pub head : List Text → Option Text
head [] = None
head (x ∷ xs) = Some x

abbrev pub short : List Text → Type 0
short xs = as_list (head xs) ≡ xs

first_step : (t : Text) (u : Use) (us : List Use) → first_of t (map row us) ≡ head (values_for t us) → (b : Bool)
    → bytes_eq (id_text u.0) t ≡ b → first_of t (map row (u ∷ us)) ≡ head (values_for t (u ∷ us))
first_step t u us ih true e = rw e refl
first_step t u us ih false e = rw e ih

pub first_is : (t : Text) (us : List Use) → first_of t (map row us) ≡ head (values_for t us)
first_is t [] = refl
first_is t (u ∷ us) = first_step t u us (first_is t us) (bytes_eq (id_text u.0) t) refl

-- ---- the values of an option

mode_no : (o : OptionName) → bytes_eq (codes "mode") (id_text (Of o)) ≡ false
mode_no Late = refl
mode_no Seed = refl
mode_no Lines = refl

rules_no : (o : OptionName) → bytes_eq (codes "rules") (id_text (Of o)) ≡ false
rules_no Late = refl
rules_no Seed = refl
rules_no Lines = refl

same_is : (o q : OptionName) → bytes_eq (id_text (Of q)) (id_text (Of o)) ≡ same_name o q
same_is Late Late = refl
same_is Late Seed = refl
same_is Late Lines = refl
same_is Seed Late = refl
same_is Seed Seed = refl
same_is Seed Lines = refl
same_is Lines Late = refl
same_is Lines Seed = refl
same_is Lines Lines = refl

abbrev pick : Text → List Text → Bool → List Text
pick v xs b = if b then v ∷ xs else xs

pick_is : (v : Text) (xs : List Text) (b : Bool) → pick v xs b ≡ (if b then v ∷ [] else []) ++ xs
pick_is v xs true = refl
pick_is v xs false = refl

laid_values : (o : OptionName) (ws : List Text) (pl : Place) (vs : List Use) → laid pl ws ≡ Some vs → values_for (id_text (Of o)) vs ≡ []
laid_values o [] pl vs e = ap (λ r. values_for (id_text (Of o)) (unwrap_or r vs)) (sym e)
laid_values o (w ∷ ws) Zero vs e =
    let c = cut (First, w) (laid One ws) vs e in
    ap (values_for (id_text (Of o))) c.whole ∙ ap (pick w (values_for (id_text (Of o)) c.rest)) (mode_no o)
    ∙ laid_values o ws One c.rest c.is
laid_values o (w ∷ ws) One vs e =
    let c = cut (Second, w) (laid Two ws) vs e in
    ap (values_for (id_text (Of o))) c.whole ∙ ap (pick w (values_for (id_text (Of o)) c.rest)) (rules_no o)
    ∙ laid_values o ws Two c.rest c.is
laid_values o (w ∷ ws) Two vs e = cc

pub option_values : (o : OptionName) (items : List Item) (rest : List Text) (pl : Place) (vs : List Use) → uses_by pl items rest ≡ Some vs
    → values_for (id_text (Of o)) vs ≡ values o items
option_values o [] rest pl vs e = laid_values o rest pl vs e
option_values o (Alone w ∷ items) rest Zero vs e =
    let c = cut (First, w) (uses_by One items rest) vs e in
    ap (values_for (id_text (Of o))) c.whole ∙ ap (pick w (values_for (id_text (Of o)) c.rest)) (mode_no o)
    ∙ option_values o items rest One c.rest c.is
option_values o (Alone w ∷ items) rest One vs e =
    let c = cut (Second, w) (uses_by Two items rest) vs e in
    ap (values_for (id_text (Of o))) c.whole ∙ ap (pick w (values_for (id_text (Of o)) c.rest)) (rules_no o)
    ∙ option_values o items rest Two c.rest c.is
option_values o (Alone w ∷ items) rest Two vs e = cc
option_values o (Apart q v ∷ items) rest pl vs e =
    let c = cut (Of q, v) (uses_by pl items rest) vs e in
    ap (values_for (id_text (Of o))) c.whole ∙ ap (pick v (values_for (id_text (Of o)) c.rest)) (same_is o q)
    ∙ pick_is v (values_for (id_text (Of o)) c.rest) (same_name o q)
    ∙ ap (λ t. value_in o (Apart q v) ++ t) (option_values o items rest pl c.rest c.is)
option_values o (Joined q v ∷ items) rest pl vs e =
    let c = cut (Of q, v) (uses_by pl items rest) vs e in
    ap (values_for (id_text (Of o))) c.whole ∙ ap (pick v (values_for (id_text (Of o)) c.rest)) (same_is o q)
    ∙ pick_is v (values_for (id_text (Of o)) c.rest) (same_name o q)
    ∙ ap (λ t. value_in o (Joined q v) ++ t) (option_values o items rest pl c.rest c.is)

-- ---- the positional words

abbrev pub Spread : Place → List Text → List Text → List Text → Type 0
Spread Zero m r ps = (two (head m) (head r) ≡ ps) × short m × short r
Spread One m r ps = (m ≡ []) × (r ≡ ps) × short ps
Spread Two m r ps = (m ≡ []) × (r ≡ []) × (ps ≡ [])

abbrev Spreads : Place → List Use → List Text → Type 0
Spreads pl vs ps = Spread pl (values_for (codes "mode") vs) (values_for (codes "rules") vs) ps

spread_end : (pl : Place) → Spreads pl [] []
spread_end Zero = (refl, refl, refl)
spread_end One = (refl, refl, refl)
spread_end Two = (refl, refl, refl)

short_one : (w : Text) (xs : List Text) → xs ≡ [] → short (w ∷ xs)
short_one w xs e = ap (λ t. w ∷ t) (sym e)

spread_first : (w : Text) (vs : List Use) (ps : List Text) → Spreads One vs ps → Spreads Zero ((First, w) ∷ vs) (w ∷ ps)
spread_first w vs ps s = (
  ap (λ t. w ∷ as_list (head t)) s.1 ∙ ap (λ t. w ∷ t) s.2,
  short_one w (values_for (codes "mode") vs) s.0,
  subst short (sym s.1) s.2,
)

spread_second : (w : Text) (vs : List Use) (ps : List Text) → Spreads Two vs ps → Spreads One ((Second, w) ∷ vs) (w ∷ ps)
spread_second w vs ps s = (s.0, ap (λ t. w ∷ t) (s.1 ∙ sym s.2), short_one w ps s.2)

spread_option : (o : OptionName) (v : Text) (pl : Place) (vs : List Use) (ps : List Text) → Spreads pl vs ps
    → Spreads pl ((Of o, v) ∷ vs) ps
spread_option Late v pl vs ps s = s
spread_option Seed v pl vs ps s = s
spread_option Lines v pl vs ps s = s

laid_spread : (ws : List Text) (pl : Place) (vs : List Use) → laid pl ws ≡ Some vs → Spreads pl vs ws
laid_spread [] pl vs e = subst (λ us. Spreads pl us []) (ap (λ r. unwrap_or r vs) e) (spread_end pl)
laid_spread (w ∷ ws) Zero vs e = let c = cut (First, w) (laid One ws) vs e in subst (λ us. Spreads Zero us (w ∷ ws)) (sym c.whole)
    (spread_first w c.rest ws (laid_spread ws One c.rest c.is))
laid_spread (w ∷ ws) One vs e = let c = cut (Second, w) (laid Two ws) vs e in subst (λ us. Spreads One us (w ∷ ws)) (sym c.whole)
    (spread_second w c.rest ws (laid_spread ws Two c.rest c.is))
laid_spread (w ∷ ws) Two vs e = cc

pub spread : (items : List Item) (rest : List Text) (pl : Place) (vs : List Use) → uses_by pl items rest ≡ Some vs
    → Spreads pl vs (flat_map alone_in items ++ rest)
spread [] rest pl vs e = laid_spread rest pl vs e
spread (Alone w ∷ items) rest Zero vs e = let c = cut (First, w) (uses_by One items rest) vs e in
    subst (λ us. Spreads Zero us (w ∷ (flat_map alone_in items ++ rest))) (sym c.whole)
    (spread_first w c.rest _ (spread items rest One c.rest c.is))
spread (Alone w ∷ items) rest One vs e = let c = cut (Second, w) (uses_by Two items rest) vs e in
    subst (λ us. Spreads One us (w ∷ (flat_map alone_in items ++ rest))) (sym c.whole)
    (spread_second w c.rest _ (spread items rest Two c.rest c.is))
spread (Alone w ∷ items) rest Two vs e = cc
spread (Apart o v ∷ items) rest pl vs e = let c = cut (Of o, v) (uses_by pl items rest) vs e in
    subst (λ us. Spreads pl us (flat_map alone_in items ++ rest)) (sym c.whole)
    (spread_option o v pl c.rest _ (spread items rest pl c.rest c.is))
spread (Joined o v ∷ items) rest pl vs e = let c = cut (Of o, v) (uses_by pl items rest) vs e in
    subst (λ us. Spreads pl us (flat_map alone_in items ++ rest)) (sym c.whole)
    (spread_option o v pl c.rest _ (spread items rest pl c.rest c.is))

-- ---- each id at most once

pick_append : (v : Text) (xs ys : List Text) (b : Bool) → pick v (xs ++ ys) b ≡ pick v xs b ++ ys
pick_append v xs ys true = refl
pick_append v xs ys false = refl

pub values_append : (t : Text) (us more : List Use) → values_for t (us ++ more) ≡ values_for t us ++ values_for t more
values_append t [] more = refl
values_append t (u ∷ us) more = ap (λ xs. pick u.1 xs (bytes_eq (id_text u.0) t)) (values_append t us more)
    ∙ pick_append u.1 (values_for t us) (values_for t more) (bytes_eq (id_text u.0) t)

none_step : (u : Use) (us : List Use) (i : Id) → (has_use i us ≡ false → values_for (id_text i) us ≡ []) → (b : Bool)
    → bytes_eq (id_text u.0) (id_text i) ≡ b → (b || has_use i us) ≡ false → values_for (id_text i) (u ∷ us) ≡ []
none_step u us i ih true e h = absurd (true≢false h)
none_step u us i ih false e h = ap (pick u.1 (values_for (id_text i) us)) e ∙ ih h

no_values : (i : Id) (us : List Use) → has_use i us ≡ false → values_for (id_text i) us ≡ []
no_values i [] e = refl
no_values i (u ∷ us) e = none_step u us i (no_values i us) (bytes_eq (id_text u.0) (id_text i)) refl e

short_push : (t : Text) (u : Use) (us : List Use) → has_use u.0 us ≡ false → short (values_for t us) → short (values_for t (us ++ u ∷ []))
short_push t u us none s = go (bytes_eq (id_text u.0) t) refl
  where
    go : (b : Bool) → bytes_eq (id_text u.0) t ≡ b → short (values_for t (us ++ u ∷ []))
    go true e =
        let empty : values_for t us ≡ [] = subst (λ x. values_for x us ≡ []) ((bytes_eq-Decides (id_text u.0) t).0 e)
        (no_values u.0 us none) in
        subst short (sym (values_append t us (u ∷ []) ∙ ap₂ (λ xs ys. xs ++ ys) empty (ap (pick u.1 []) e))) refl
    go false e = subst short (sym (values_append t us (u ∷ []) ∙ ap (λ ys. values_for t us ++ ys) (ap (pick u.1 []) e)
        ∙ append-nil (values_for t us))) s

pub record Once (us0 vs us : List Use) : Type 0 where
  pub whole : us ≡ us0 ++ vs
  pub short : (t : Text) → short (values_for t us0) → short (values_for t us)

settled_to : (us : List Use) (u : Use) (more : List Use) → settle us (Some u) ≡ Some more → (has_use u.0 us ≡ false) × (more ≡ us ++ u ∷ [])
settled_to us u more e = go (has_use u.0 us) refl e
  where
    go : (b : Bool) → has_use u.0 us ≡ b → (if b then None else Some (us ++ u ∷ [])) ≡ Some more → (has_use u.0 us ≡ false)
        × (more ≡ us ++ u ∷ [])
    go true h e = cc
    go false h e = (h, ap (λ o. unwrap_or o more) (sym e))

pub once : (vs us0 us : List Use) → all_in us0 vs ≡ Some us → Once us0 vs us
once [] us0 us e = let is : us ≡ us0 = ap (λ o. unwrap_or o us) (sym e) in record {
  whole = is ∙ sym (append-nil us0);
  short =
      λ t s. subst (λ x. short (values_for t x)) (sym is) s;
}
once (u ∷ vs) us0 us e =
    let a = added us0 u vs us e in
    let s = settled_to us0 u a.more a.is in
    let o = once vs a.more us a.all_in in
    record {
      whole = o.whole ∙ ap (λ x. x ++ vs) s.1 ∙ append_assoc us0 (u ∷ []) vs;
      short = λ t h. o.short t (subst (λ x. short (values_for t x)) (sym s.1) (short_push t u us0 s.0 h));
    }

-- the job of uses is that of the words that they stand for
pub job_is : (items : List Item) (rest : Option (List Text)) (vs us : List Use) → uses_by Zero items (unwrap_or rest []) ≡ Some vs
    → all_in [] vs ≡ Some us
    → job_in (map row us) ≡ job_of (positional items rest) (values Late items) (values Seed items) (values Lines items)
job_is items rest vs us l e =
    let o = once vs [] us e in
    let s = subst (λ x. Spreads Zero x (positional items rest)) (sym o.whole) (spread items (unwrap_or rest []) Zero vs l) in
    let words = ap₂ two (first_is (codes "mode") us) (first_is (codes "rules") us) ∙ s.0 in
    let one = λ (n : OptionName). ap as_list (first_is (id_text (Of n)) us) ∙ o.short (id_text (Of n)) refl
    ∙ ap (values_for (id_text (Of n))) o.whole ∙ option_values n items (unwrap_or rest []) Zero vs l in
    λ i. job_of (words i) (one Late i) (one Seed i) (one Lines i)
