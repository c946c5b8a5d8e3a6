-- What the smaller machine takes is in form.
use Rattle.std.proofs.Common.{◌≡◌, ◌∙◌, refl, ap, ap₂, true, List, [], ◌∷◌, ◌++◌, Option, Some, None, option_map, codes}
use Rattle.std.specs.Prelude.{option_and_then, unwrap_or}
use Rattle.std.specs.List.{list_all}
use Rattle.std.proofs.lemmas.Bool.{and_from}
use Rattle.job_words.specs.Words.{Text, OptionName, Item, Alone, Apart, Joined, Splits, option_word, is_plain, is_free}
use Rattle.job_words.proofs.ClapWalk.{Id, Of, Use, settle}
use Rattle.job_words.proofs.ClapSteps.{Place, next_place, Sort, Word, Dashes, Opens, Whole, Bad, sort, Stage, Idle, Waits, Trail, At, placed, wait_step, idle_step, step_from, ends, uses_of}
use Rattle.job_words.proofs.Spelling.{word_plain, dashes_spelled, opens_spelled, whole_spelled}

abbrev pub use_list : Option Use → List Use
use_list None = []
use_list (Some u) = u ∷ []

-- words put to the places that are left
abbrev pub laid : Place → List Text → Option (List Use)
laid pl [] = Some []
laid pl (w ∷ ws) = option_and_then (λ q. option_map (λ vs. (q.0, w) ∷ vs) (laid q.1 ws)) (next_place pl)

-- the uses of items and of the words behind `--`, in order
abbrev pub uses_by : Place → List Item → List Text → Option (List Use)
uses_by pl [] rest = laid pl rest
uses_by pl (Alone w ∷ items) rest = option_and_then (λ q. option_map (λ vs. (q.0, w) ∷ vs) (uses_by q.1 items rest)) (next_place pl)
uses_by pl (Apart o v ∷ items) rest = option_map (λ vs. (Of o, v) ∷ vs) (uses_by pl items rest)
uses_by pl (Joined o v ∷ items) rest = option_map (λ vs. (Of o, v) ∷ vs) (uses_by pl items rest)

-- all of these used, each once
abbrev pub all_in : List Use → List Use → Option (List Use)
all_in us [] = Some us
all_in us (u ∷ more) = option_and_then (λ s. all_in s more) (settle us (Some u))

pub settle_all : (us more vs : List Use) (p : Option Use) → settle us p ≡ Some more → all_in us (use_list p ++ vs) ≡ all_in more vs
settle_all us more vs None e = ap (λ (o : Option (List Use)). all_in (unwrap_or o us) vs) e
settle_all us more vs (Some u) e = ap (option_and_then (λ s. all_in s vs)) e

pub record Found (ws : List Text) (pl : Place) (before us0 us : List Use) : Type 0 where
  pub items : List Item
  pub rest : Option (List Text)
  pub uses : List Use
  pub splits : Splits ws items rest
  pub laid : uses_by pl items (unwrap_or rest []) ≡ Some uses
  pub all : all_in us0 (before ++ uses) ≡ Some us

pub record Left (ws : List Text) (o : OptionName) (pl : Place) (us0 us : List Use) : Type 0 where
  pub value : Text
  pub behind : List Text
  pub words : ws ≡ value ∷ behind
  pub found : Found behind pl ((Of o, value) ∷ []) us0 us

pub record Laid (ws : List Text) (pl : Place) (before us0 us : List Use) : Type 0 where
  pub uses : List Use
  pub laid : laid pl ws ≡ Some uses
  pub all : all_in us0 (before ++ uses) ≡ Some us

abbrev pub Sound : List Text → Stage → List Use → Place → List Use → Type 0
Sound ws (Idle p) us0 pl us = Found ws pl (use_list p) us0 us
Sound ws (Waits o) us0 pl us = Left ws o pl us0 us
Sound ws (Trail p) us0 pl us = Laid ws pl (use_list p) us0 us

abbrev Known : List Text → Type 0
Known ws = (a : At) (us : List Use) → uses_of a ws ≡ Some us → Sound ws a.stage a.uses a.place us

end_sound : (stage : Stage) (us0 : List Use) (pl : Place) (us : List Use) → ends stage us0 ≡ Some us → Sound [] stage us0 pl us
end_sound (Idle p) us0 pl us e = record {
  items = [];
  rest = None;
  uses = [];
  splits = record { written = refl; free = refl };
  laid =
      refl;
  all = settle_all us0 us [] p e;
}
end_sound (Waits o) us0 pl us e = cc
end_sound (Trail p) us0 pl us e = record { uses = []; laid = refl; all = settle_all us0 us [] p e }

trail_sound : (w : Text) (ws : List Text) (p : Option Use) (us0 : List Use) (pl : Place) (us : List Use) → Known ws
    → (m : Option (List Use)) → settle us0 p ≡ m → (n : Option (Id × Place)) → next_place pl ≡ n
    → option_and_then (λ b. uses_of b ws) (option_and_then (placed Trail w n) m) ≡ Some us → Sound (w ∷ ws) (Trail p) us0 pl us
trail_sound w ws p us0 pl us ih None ms n ns e = cc
trail_sound w ws p us0 pl us ih (Some more) ms None ns e = cc
trail_sound w ws p us0 pl us ih (Some more) ms (Some q) ns e =
    let f = ih (record { stage = Trail (Some (q.0, w)); uses = more; place = q.1 }) us e in
    record {
      uses = (q.0, w) ∷ f.uses;
      laid = ap (option_and_then (λ (r : Id × Place). option_map (λ vs. (r.0, w) ∷ vs) (laid r.1 ws))) ns
          ∙ ap (option_map (λ vs. (q.0, w) ∷ vs)) f.laid;
      all = settle_all us0 more ((q.0, w) ∷ f.uses) p ms ∙ f.all;
    }

word_sound : (w : Text) (ws : List Text) (p : Option Use) (us0 : List Use) (pl : Place) (us : List Use) → Known ws → is_plain w ≡ true
    → (m : Option (List Use)) → settle us0 p ≡ m → (n : Option (Id × Place)) → next_place pl ≡ n
    → option_and_then (λ b. uses_of b ws) (option_and_then (placed Idle w n) m) ≡ Some us → Found (w ∷ ws) pl (use_list p) us0 us
word_sound w ws p us0 pl us ih plain None ms n ns e = cc
word_sound w ws p us0 pl us ih plain (Some more) ms None ns e = cc
word_sound w ws p us0 pl us ih plain (Some more) ms (Some q) ns e =
    let f = ih (record { stage = Idle (Some (q.0, w)); uses = more; place = q.1 }) us e in
    record {
      items = Alone w ∷ f.items;
      rest = f.rest;
      uses = (q.0, w) ∷ f.uses;
      splits = record {
        written = ap (λ t. w ∷ t) f.splits.written;
        free =
            and_from (is_plain w) (list_all is_free f.items) plain f.splits.free;
      };
      laid = ap (option_and_then (λ (r : Id × Place). option_map (λ vs. (r.0, w) ∷ vs) (uses_by r.1 f.items (unwrap_or f.rest [])))) ns
          ∙ ap (option_map (λ vs. (q.0, w) ∷ vs)) f.laid;
      all = settle_all us0 more ((q.0, w) ∷ f.uses) p ms ∙ f.all;
    }

opens_sound : (w : Text) (ws : List Text) (p : Option Use) (us0 : List Use) (pl : Place) (us : List Use) (o : OptionName) → Known ws
    → w ≡ option_word o → (m : Option (List Use)) → settle us0 p ≡ m
    → option_and_then (λ b. uses_of b ws) (option_map (λ more. record { stage = Waits o; uses = more; place = pl }) m) ≡ Some us
    → Found (w ∷ ws) pl (use_list p) us0 us
opens_sound w ws p us0 pl us o ih is None ms e = cc
opens_sound w ws p us0 pl us o ih is (Some more) ms e =
    let l = ih (record { stage = Waits o; uses = more; place = pl }) us e in
    let f = l.found in
    record {
      items = Apart o l.value ∷ f.items;
      rest = f.rest;
      uses = (Of o, l.value) ∷ f.uses;
      splits = record { written = ap₂ (λ s t. s ∷ t) is (l.words ∙ ap (λ t. l.value ∷ t) f.splits.written); free = f.splits.free };
      laid = ap (option_map (λ vs. (Of o, l.value) ∷ vs)) f.laid;
      all = settle_all us0 more ((Of o, l.value) ∷ f.uses) p ms ∙ f.all;
    }

whole_sound : (w : Text) (ws : List Text) (p : Option Use) (us0 : List Use) (pl : Place) (us : List Use) (o : OptionName) (v : Text)
    → Known ws → w ≡ option_word o ++ 61 ∷ v → (m : Option (List Use)) → settle us0 p ≡ m
    → option_and_then (λ b. uses_of b ws)
    (option_and_then (λ more. option_map (λ all. record { stage = Idle None; uses = all; place = pl })
    (settle more (Some (Of o, v)))) m) ≡ Some us → Found (w ∷ ws) pl (use_list p) us0 us
whole_sound w ws p us0 pl us o v ih is None ms e = cc
whole_sound w ws p us0 pl us o v ih is (Some more) ms e = go (settle more (Some (Of o, v))) refl e
  where
    go : (k : Option (List Use)) → settle more (Some (Of o, v)) ≡ k
        → option_and_then (λ b. uses_of b ws) (option_map (λ all. record { stage = Idle None; uses = all; place = pl }) k) ≡ Some us
        → Found (w ∷ ws) pl (use_list p) us0 us
    go None ks e = cc
    go (Some all) ks e =
        let f = ih (record { stage = Idle None; uses = all; place = pl }) us e in
        record {
          items = Joined o v ∷ f.items;
          rest = f.rest;
          uses = (Of o, v) ∷ f.uses;
          splits = record { written = ap₂ (λ s t. s ∷ t) is f.splits.written; free = f.splits.free };
          laid = ap (option_map (λ vs. (Of o, v) ∷ vs)) f.laid;
          all = settle_all us0 more ((Of o, v) ∷ f.uses) p ms ∙ ap (option_and_then (λ s. all_in s f.uses)) ks ∙ f.all;
        }

dashes_sound : (w : Text) (ws : List Text) (p : Option Use) (us0 : List Use) (pl : Place) (us : List Use) → Known ws → w ≡ codes "--"
    → uses_of (record { stage = Trail p; uses = us0; place = pl }) ws ≡ Some us → Found (w ∷ ws) pl (use_list p) us0 us
dashes_sound w ws p us0 pl us ih is e =
    let f = ih (record { stage = Trail p; uses = us0; place = pl }) us e in
    record {
      items = [];
      rest = Some ws;
      uses = f.uses;
      splits = record { written = ap (λ t. t ∷ ws) is; free = refl };
      laid = f.laid;
      all =
          f.all;
    }

idle_sound : (w : Text) (ws : List Text) (p : Option Use) (us0 : List Use) (pl : Place) (us : List Use) → Known ws → (s : Sort) → sort w ≡ s
    → option_and_then (λ b. uses_of b ws) (idle_step s p w us0 pl) ≡ Some us → Found (w ∷ ws) pl (use_list p) us0 us
idle_sound w ws p us0 pl us ih Word is e = word_sound w ws p us0 pl us ih (word_plain w is) (settle us0 p) refl (next_place pl) refl e
idle_sound w ws p us0 pl us ih Dashes is e = dashes_sound w ws p us0 pl us ih (dashes_spelled w is) e
idle_sound w ws p us0 pl us ih (Opens o) is e = opens_sound w ws p us0 pl us o ih (opens_spelled w o is) (settle us0 p) refl e
idle_sound w ws p us0 pl us ih (Whole o v) is e = whole_sound w ws p us0 pl us o v ih (whole_spelled w o v is) (settle us0 p) refl e
idle_sound w ws p us0 pl us ih Bad is e = cc

wait_sound : (w : Text) (ws : List Text) (o : OptionName) (us0 : List Use) (pl : Place) (us : List Use) → Known ws → (s : Sort)
    → option_and_then (λ b. uses_of b ws) (wait_step s o w us0 pl) ≡ Some us → Left (w ∷ ws) o pl us0 us
wait_sound w ws o us0 pl us ih Word e = record {
  value = w;
  behind = ws;
  words = refl;
  found =
      ih (record { stage = Idle (Some (Of o, w)); uses = us0; place = pl }) us e;
}
wait_sound w ws o us0 pl us ih Dashes e = cc
wait_sound w ws o us0 pl us ih (Opens q) e = cc
wait_sound w ws o us0 pl us ih (Whole q v) e = cc
wait_sound w ws o us0 pl us ih Bad e = cc

step_sound : (w : Text) (ws : List Text) → Known ws → (stage : Stage) (us0 : List Use) (pl : Place) (us : List Use)
    → option_and_then (λ b. uses_of b ws) (step_from stage us0 pl w) ≡ Some us → Sound (w ∷ ws) stage us0 pl us
step_sound w ws ih (Idle p) us0 pl us e = idle_sound w ws p us0 pl us ih (sort w) refl e
step_sound w ws ih (Waits o) us0 pl us e = wait_sound w ws o us0 pl us ih (sort w) e
step_sound w ws ih (Trail p) us0 pl us e = trail_sound w ws p us0 pl us ih (settle us0 p) refl (next_place pl) refl e

pub sound : (ws : List Text) → Known ws
sound [] a us e = end_sound a.stage a.uses a.place us e
sound (w ∷ ws) a us e = step_sound w ws (sound ws) a.stage a.uses a.place us e
