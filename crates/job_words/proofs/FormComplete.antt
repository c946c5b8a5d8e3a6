-- What is in form is taken by the smaller machine.
use Rattle.std.proofs.Common.{◌≡◌, ◌∙◌, refl, sym, ap, ap₂, Bool, true, List, [], ◌∷◌, ◌++◌, Option, Some, None, option_map}
use Rattle.std.specs.Prelude.{option_and_then, unwrap_or}
use Rattle.std.specs.List.{flat_map, list_all}
use Rattle.std.proofs.lemmas.Bool.{and_parts}
use Rattle.job_words.specs.Words.{Text, Item, Alone, Apart, Joined, closing, written, option_word, is_plain, is_free}
use Rattle.job_words.proofs.ClapWalk.{Id, Of, Use, settle}
use Rattle.job_words.proofs.ClapSteps.{Place, next_place, Idle, Waits, Trail, placed, wait_step, idle_step, uses_of}
use Rattle.job_words.proofs.Spelling.{plain_word, option_word_opens, option_word_whole}
use Rattle.job_words.proofs.FormSound.{laid, uses_by, all_in}

abbrev pub has_plain : Item → Bool
has_plain (Alone w) = true
has_plain (Apart o v) = is_plain v
has_plain (Joined o v) = true

-- a list that is there with one more in front
pub record Cut (u : Use) (r : Option (List Use)) (vs : List Use) : Type 0 where
  pub rest : List Use
  pub is : r ≡ Some rest
  pub whole : vs ≡ u ∷ rest

pub cut : (u : Use) (r : Option (List Use)) (vs : List Use) → option_map (λ more. u ∷ more) r ≡ Some vs → Cut u r vs
cut u None vs e = cc
cut u (Some more) vs e = record { rest = more; is = refl; whole = ap (λ o. unwrap_or o vs) (sym e) }

pub record Placed (w : Text) (n : Option (Id × Place)) (next : Id × Place → Option (List Use)) (vs : List Use) : Type 0 where
  pub at : Id × Place
  pub place : n ≡ Some at
  pub cut : Cut (at.0, w) (next at) vs

placed_at : (w : Text) (n : Option (Id × Place)) (next : Id × Place → Option (List Use)) (vs : List Use)
    → option_and_then (λ q. option_map (λ more. (q.0, w) ∷ more) (next q)) n ≡ Some vs → Placed w n next vs
placed_at w None next vs e = cc
placed_at w (Some q) next vs e = record { at = q; place = refl; cut = cut (q.0, w) (next q) vs e }

pub record Added (us : List Use) (u : Use) (vs all : List Use) : Type 0 where
  pub more : List Use
  pub is : settle us (Some u) ≡ Some more
  pub all_in : all_in more vs ≡ Some all

pub added : (us : List Use) (u : Use) (vs all : List Use) → all_in us (u ∷ vs) ≡ Some all → Added us u vs all
added us u vs all e = go (settle us (Some u)) refl e
  where
    go : (k : Option (List Use)) → settle us (Some u) ≡ k → option_and_then (λ s. all_in s vs) k ≡ Some all → Added us u vs all
    go None ks e = cc
    go (Some more) ks e = record { more = more; is = ks; all_in = e }

trail_complete : (ws : List Text) (p : Option Use) (us0 : List Use) (pl : Place) (more vs us : List Use) → laid pl ws ≡ Some vs
    → settle us0 p ≡ Some more → all_in more vs ≡ Some us
    → uses_of (record { stage = Trail p; uses = us0; place = pl }) ws ≡ Some us
trail_complete [] p us0 pl more vs us l ms e = ms ∙ ap (all_in more) (ap (λ o. unwrap_or o vs) l) ∙ e
trail_complete (w ∷ ws) p us0 pl more vs us l ms e =
    let q = placed_at w (next_place pl) (λ r. laid r.1 ws) vs l in
    let a = added more (q.at.0, w) q.cut.rest us (ap (all_in more) (sym q.cut.whole) ∙ e) in
    ap₂ (λ n m. option_and_then (λ b. uses_of b ws) (option_and_then (placed Trail w n) m)) q.place ms
    ∙ trail_complete ws (Some (q.at.0, w)) more q.at.1 a.more q.cut.rest us q.cut.is a.is a.all_in

pub complete : (items : List Item) (rest : Option (List Text)) (p : Option Use) (us0 : List Use) (pl : Place) (more vs us : List Use)
    → list_all is_free items ≡ true → list_all has_plain items ≡ true
    → uses_by pl items (unwrap_or rest []) ≡ Some vs → settle us0 p ≡ Some more → all_in more vs ≡ Some us
    → uses_of (record { stage = Idle p; uses = us0; place = pl }) (flat_map written items ++ closing rest) ≡ Some us
complete [] None p us0 pl more vs us free plain l ms e = ms ∙ ap (all_in more) (ap (λ o. unwrap_or o vs) l) ∙ e
complete [] (Some ws) p us0 pl more vs us free plain l ms e = trail_complete ws p us0 pl more vs us l ms e
complete (Alone w ∷ items) rest p us0 pl more vs us free plain l ms e =
    let tail = flat_map written items ++ closing rest in
    let f = and_parts (is_plain w) (list_all is_free items) free in
    let q = placed_at w (next_place pl) (λ r. uses_by r.1 items (unwrap_or rest [])) vs l in
    let a = added more (q.at.0, w) q.cut.rest us (ap (all_in more) (sym q.cut.whole) ∙ e) in
    ap (λ s. option_and_then (λ b. uses_of b tail) (idle_step s p w us0 pl)) (plain_word w f.0)
    ∙ ap₂ (λ n m. option_and_then (λ b. uses_of b tail) (option_and_then (placed Idle w n) m)) q.place ms
    ∙ complete items rest (Some (q.at.0, w)) more q.at.1 a.more q.cut.rest us f.1 plain q.cut.is a.is a.all_in
complete (Apart o v ∷ items) rest p us0 pl more vs us free plain l ms e =
    let tail = flat_map written items ++ closing rest in
    let f = and_parts (is_plain v) (list_all has_plain items) plain in
    let q = cut (Of o, v) (uses_by pl items (unwrap_or rest [])) vs l in
    let a = added more (Of o, v) q.rest us (ap (all_in more) (sym q.whole) ∙ e) in
    ap (λ s. option_and_then (λ b. uses_of b (v ∷ tail)) (idle_step s p (option_word o) us0 pl)) (option_word_opens o)
    ∙ ap (λ m. option_and_then (λ b. uses_of b (v ∷ tail)) (option_map (λ x. record { stage = Waits o; uses = x; place = pl }) m)) ms
    ∙ ap (λ s. option_and_then (λ b. uses_of b tail) (wait_step s o v more pl)) (plain_word v f.0)
    ∙ complete items rest (Some (Of o, v)) more pl a.more q.rest us free f.1 q.is a.is a.all_in
complete (Joined o v ∷ items) rest p us0 pl more vs us free plain l ms e =
    let tail = flat_map written items ++ closing rest in
    let q = cut (Of o, v) (uses_by pl items (unwrap_or rest [])) vs l in
    let a = added more (Of o, v) q.rest us (ap (all_in more) (sym q.whole) ∙ e) in
    ap (λ s. option_and_then (λ b. uses_of b tail) (idle_step s p (option_word o ++ 61 ∷ v) us0 pl)) (option_word_whole o v)
    ∙ ap (λ m. option_and_then (λ b. uses_of b tail)
    (option_and_then (λ x. option_map (λ all. record { stage = Idle None; uses = all; place = pl }) (settle x (Some (Of o, v)))) m)) ms
    ∙ ap (λ k. option_and_then (λ b. uses_of b tail) (option_map (λ all. record { stage = Idle None; uses = all; place = pl }) k)) a.is
    ∙ complete items rest None a.more pl a.more q.rest us free plain q.is refl a.all_in
