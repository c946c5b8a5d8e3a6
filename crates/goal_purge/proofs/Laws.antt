-- What the pass down over the steps has made of them so far.
use Rattle.std.proofs.Common.{◌≡◌, ℕ, ◌+◌, ◌-◌, ◌<◌, ◌≤◌, List, [], ◌∷◌, ◌++◌, length, get_or, set, drop, map, reverse, refl, ap, sym, ◌∙◌, arith, subst}
use Rattle.std.specs.Prelude.{zero, suc, Bool, true, false, cond, ◌||◌, ◌&&◌, ◌==◌, max, Some, None, replicate}
use Rattle.std.specs.List.{All}
use Rattle.std.proofs.lemmas.Bool.Decides.{nat_tests}
use Rattle.std.proofs.lemmas.List.{drop_more, drop_all, length-set, length-map, length-replicate, get_or-set_same, get_or-set_other, get_or_default, reverse-append, get_or-replicate, get_or-map}
use Rattle.ordered_lists.specs.Lists.{Each}
use Rattle.rule_ast.specs.declared.plans.Step.{Step}
use Rattle.rule_ast.specs.PlainPlans.{PlainStep, plain_step}
use Rattle.row_changes.specs.declared.caps.Reach.{Reach}
use Rattle.row_changes.specs.declared.caps.Reach.TheVariants.{NoUser, Limit, Free}
use Rattle.step_meaning.specs.StepRows.{step_at}
use Rattle.step_meaning.specs.Operands.{AreLower}
use Rattle.horizon_meaning.specs.Lengths.{Length, least, further, needed}
use Rattle.horizon_meaning.specs.Caps.{Hold, above_of, below, belows, each_user, holds_from, is_among, length_at, operands, seeks, use_of, uses}
use Rattle.horizon_meaning.specs.Users.{lower_operands}
use Rattle.goal_purge.specs.Charges.{charged}

-- ---- users, one by one

pub length-charged : (cap : Length) (is : List ℕ) (reaches : List Reach) → length (charged cap is reaches) ≡ length reaches
length-charged cap [] reaches = refl
length-charged cap (i ∷ is) reaches =
    length-charged cap is (set reaches i (further cap (get_or reaches i NoUser)))
    ∙ length-set reaches i (further cap (get_or reaches i NoUser))

further_twice : (cap : Length) (n : Reach) → further cap (further cap n) ≡ further cap n
further_twice None n = refl
further_twice (Some c) NoUser = ap Limit (let e : max c c ≡ c = omega arith in e)
further_twice (Some c) (Limit d) = ap Limit (let e : max c (max c d) ≡ max c d = omega arith in e)
further_twice (Some c) Free = refl

further_free : (cap : Length) → further cap Free ≡ Free
further_free None = refl
further_free (Some c) = refl

-- the user is charged to the steps that it uses, and to no other
pub charged_at : (cap : Length) (is : List ℕ) (reaches : List Reach) (o : ℕ) → o < length reaches
    → get_or (charged cap is reaches) o NoUser
    ≡ cond (is_among o is) (further cap (get_or reaches o NoUser)) (get_or reaches o NoUser)
charged_at cap [] reaches o l = refl
charged_at cap (i ∷ is) reaches o l =
    at (i == o) refl
    (charged_at cap is (set reaches i (further cap (get_or reaches i NoUser))) o
    (subst (λ n. o < n) (sym (length-set reaches i (further cap (get_or reaches i NoUser)))) l))
  where
    twice : (b : Bool) → cond b (further cap (further cap (get_or reaches o NoUser))) (further cap (get_or reaches o NoUser))
        ≡ further cap (get_or reaches o NoUser)
    twice true = further_twice cap (get_or reaches o NoUser)
    twice false = refl

    here : i ≡ o → get_or (set reaches i (further cap (get_or reaches i NoUser))) o NoUser ≡ further cap (get_or reaches o NoUser)
    here s =
        subst (λ m. get_or (set reaches m (further cap (get_or reaches m NoUser))) o NoUser ≡ further cap (get_or reaches o NoUser))
        (sym s) (get_or-set_same reaches o (further cap (get_or reaches o NoUser)) NoUser l)

    at : (t : Bool) → (i == o) ≡ t
        → get_or (charged cap is (set reaches i (further cap (get_or reaches i NoUser)))) o NoUser
        ≡ cond (is_among o is) (further cap (get_or (set reaches i (further cap (get_or reaches i NoUser))) o NoUser))
        (get_or (set reaches i (further cap (get_or reaches i NoUser))) o NoUser)
        → get_or (charged cap is (set reaches i (further cap (get_or reaches i NoUser)))) o NoUser
        ≡ cond (t || is_among o is) (further cap (get_or reaches o NoUser)) (get_or reaches o NoUser)
    at true e h =
        let s : i ≡ o = grind (arith, nat_tests) in
        h ∙ (λ k. cond (is_among o is) (further cap (here s k)) (here s k)) ∙ twice (is_among o is)
    at false e h =
        let other = get_or-set_other reaches i o (further cap (get_or reaches i NoUser)) NoUser (grind (arith, nat_tests)) in
        h ∙ (λ k. cond (is_among o is) (further cap (other k)) (other k))

-- ---- the steps from the number i on

module _ (shown : List ℕ) (steps : List PlainStep) where
  abbrev pub rest : ℕ → List Hold
  rest i = holds_from shown (below steps) i (drop i steps)

  -- the reaches of the steps below i from the users that pass the test; steps that are given out have a user without a cap
  pub record Users (given_out : ℕ → Bool) (test : PlainStep → Bool) (i : ℕ) (users : List Reach) : Type 0 where
    pub size : length users ≡ length steps
    pub are : (o : ℕ) → o < i → get_or users o NoUser ≡ cond (given_out o) Free (use_of test o (drop i steps) (rest i))

  abbrev pub are_shown : ℕ → Bool
  are_shown o = is_among o shown

  abbrev pub are_none : ℕ → Bool
  are_none o = false

  pub record Swept (i : ℕ) (users seekers : List Reach) (caps : List Length) (reaches : List Reach) : Type 0 where
    pub all : Users are_shown each_user i users
    pub some : Users are_none seeks i seekers
    pub caps_are : reverse caps ≡ map (λ h. h.cap) (rest i)
    pub reaches_are : reverse reaches ≡ map (λ h. h.reach) (rest i)

  -- ---- before the first step down

  gone : (n : ℕ) → n ≡ length steps → drop n steps ≡ []
  gone n e = drop_all n steps (omega (arith, e))

  pub swept_end : (n : ℕ) (users seekers : List Reach) → n ≡ length steps → users ≡ charged None shown (replicate n NoUser)
      → seekers ≡ replicate n NoUser → Swept n users seekers [] []
  swept_end n users seekers e h g = record {
    all = record {
      size = ap length h ∙ length-charged None shown (replicate n NoUser) ∙ length-replicate n NoUser ∙ e;
      are = λ o l. ap (λ u. get_or u o NoUser) h
          ∙ charged_at None shown (replicate n NoUser) o (subst (λ m. o < m) (sym (length-replicate n NoUser)) l)
          ∙ ap (λ r. cond (is_among o shown) Free r) (get_or-replicate n o NoUser NoUser l)
          ∙ sym (ap (λ d. cond (is_among o shown) Free (use_of each_user o d (holds_from shown (below steps) n d))) (gone n e));
    };
    some = record {
      size = ap length g ∙ length-replicate n NoUser ∙ e;
      are = λ o l. ap (λ u. get_or u o NoUser) g ∙ get_or-replicate n o NoUser NoUser l
          ∙ sym (ap (λ d. use_of seeks o d (holds_from shown (below steps) n d)) (gone n e));
    };
    caps_are = sym (ap (λ d. map (λ h. h.cap) (holds_from shown (below steps) n d)) (gone n e));
    reaches_are = sym (ap (λ d. map (λ h. h.reach) (holds_from shown (below steps) n d)) (gone n e));
  }

  -- ---- one step down

  opens : (i : ℕ) (d : PlainStep) → i < length steps → drop i steps ≡ get_or steps i d ∷ drop (i + 1) steps
  opens i d l = drop_more steps i d l

  above : (g : Bool) (n : Reach) → needed (cond g Free n) ≡ above_of g n
  above true n = refl
  above false n = refl

  charge_given : (g b : Bool) (c : Length) (n : Reach)
      → cond b (further c (cond g Free n)) (cond g Free n) ≡ cond g Free (cond b (further c n) n)
  charge_given true true c n = further_free c
  charge_given true false c n = refl
  charge_given false b c n = refl

  users_step : (given_out : ℕ → Bool) (test : PlainStep → Bool) (i : ℕ) (d : PlainStep) (users : List Reach) (c : Length)
      → i < length steps
      → c ≡ least (below steps i) (above_of (is_among i shown) (use_of each_user i (drop (i + 1) steps) (rest (i + 1))))
      → Users given_out test (i + 1) users
      → Users given_out test i (cond (test (get_or steps i d)) (charged c (operands (get_or steps i d)) users) users)
  users_step given_out test i d users c l ce h = at (test (get_or steps i d)) refl
    where
      shorter : (o : ℕ) → o < i → get_or users o NoUser ≡ cond (given_out o) Free (use_of test o (drop (i + 1) steps) (rest (i + 1)))
      shorter o m = h.are o (let q : o < i + 1 = omega (arith, m) in q)

      at : (t : Bool) → test (get_or steps i d) ≡ t
          → Users given_out test i (cond t (charged c (operands (get_or steps i d)) users) users)
      at true e = record {
        size = length-charged c (operands (get_or steps i d)) users ∙ h.size;
        are = λ o m. charged_at c (operands (get_or steps i d)) users o (let k : o < length users = omega (arith, m, l, h.size) in k)
            ∙ (λ k. cond (uses o (get_or steps i d)) (further c (shorter o m k)) (shorter o m k))
            ∙ charge_given (given_out o) (uses o (get_or steps i d)) c
            (use_of test o (drop (i + 1) steps) (rest (i + 1)))
            ∙ (λ k. cond (given_out o) Free (cond (sym e k && uses o (get_or steps i d))
            (further (ce k) (use_of test o (drop (i + 1) steps) (rest (i + 1)))) (use_of test o (drop (i + 1) steps) (rest (i + 1)))))
            ∙ sym (ap (λ ss. cond (given_out o) Free (use_of test o ss (holds_from shown (below steps) i ss))) (opens i d l));
      }
      at false e = record {
        size = h.size;
        are = λ o m. shorter o m
            ∙ (λ k. cond (given_out o) Free (cond (sym e k && uses o (get_or steps i d))
            (further (least (below steps i) (above_of (is_among i shown)
            (use_of each_user i (drop (i + 1) steps) (rest (i + 1))))) (use_of test o (drop (i + 1) steps) (rest (i + 1))))
            (use_of test o (drop (i + 1) steps) (rest (i + 1)))))
            ∙ sym (ap (λ ss. cond (given_out o) Free (use_of test o ss (holds_from shown (below steps) i ss))) (opens i d l));
      }

  pub swept_step : (i : ℕ) (d : PlainStep) (users seekers : List Reach) (caps : List Length) (reaches : List Reach) (c : Length)
      (u r : Reach) → i < length steps → u ≡ get_or users i NoUser → r ≡ get_or seekers i NoUser
      → c ≡ least (below steps i) (needed u) → Swept (i + 1) users seekers caps reaches
      → Swept i (charged c (operands (get_or steps i d)) users)
      (cond (seeks (get_or steps i d)) (charged c (operands (get_or steps i d)) seekers) seekers) (caps ++ c ∷ []) (reaches ++ r ∷ [])
  swept_step i d users seekers caps reaches c u r l ue re ce h = record {
    all = users_step are_shown each_user i d users c l cap_is h.all;
    some = users_step are_none seeks i d seekers c l cap_is h.some;
    caps_are = reverse-append caps (c ∷ []) ∙ (λ k. cap_is k ∷ h.caps_are k)
        ∙ sym (ap (λ ss. map (λ h. h.cap) (holds_from shown (below steps) i ss)) (opens i d l));
    reaches_are = reverse-append reaches (r ∷ []) ∙ (λ k. reach_is k ∷ h.reaches_are k)
        ∙ sym (ap (λ ss. map (λ h. h.reach) (holds_from shown (below steps) i ss)) (opens i d l));
  }
    where
      reach_is : r ≡ use_of seeks i (drop (i + 1) steps) (rest (i + 1))
      reach_is = re ∙ h.some.are i (omega arith)

      cap_is : c ≡ least (below steps i) (above_of (is_among i shown) (use_of each_user i (drop (i + 1) steps) (rest (i + 1))))
      cap_is =
          ce
          ∙ ap (λ v. least (below steps i) (needed v)) (ue ∙ h.all.are i (omega arith))
          ∙ ap (least (below steps i)) (above (is_among i shown) (use_of each_user i (drop (i + 1) steps) (rest (i + 1))))

-- ---- over the steps as code has them

plain_at : (steps : List Step) (s : Step) (i : ℕ) → i < length steps → s ≡ get_or steps i s
    → get_or (map plain_step steps) i (plain_step s) ≡ plain_step s
plain_at steps s i l e = get_or-map plain_step steps i s (plain_step s) l ∙ ap plain_step (sym e)

step_of_get : (ss : List PlainStep) (i : ℕ) (d : PlainStep) → i < length ss → step_at ss i ≡ Some (get_or ss i d)
step_of_get [] i d l = absurd (omega (arith, l))
step_of_get (s ∷ ss) zero d l = refl
step_of_get (s ∷ ss) (suc i) d l = step_of_get ss i d (let m : i < length ss = omega (arith, l) in m)

all_under : (n m : ℕ) → n ≤ m → (is : List ℕ) → Each (λ i. i < n) is → All (λ i. i < m) is
all_under n m le [] a k d l = absurd (omega (arith, l))
all_under n m le (i ∷ is) a zero d l = let g : i < n = a.0 in let h : i < m = omega (arith, g, le) in h
all_under n m le (i ∷ is) a (suc k) d l = all_under n m le is a.1 k d (let h : k < length is = omega (arith, l) in h)

-- the operands of a step have lower numbers
pub operands_under : (steps : List Step) (s : Step) (i m : ℕ) → AreLower (map plain_step steps) → i < length steps
    → s ≡ get_or steps i s → i ≤ m → All (λ j. j < m) (operands (plain_step s))
operands_under steps s i m low l e le =
    let lp : i < length (map plain_step steps) = omega (arith, l, length-map steps plain_step) in
    let there : step_at (map plain_step steps) i ≡ Some (plain_step s) =
    step_of_get (map plain_step steps) i (plain_step s) lp ∙ ap Some (plain_at steps s i l e) in
    all_under i m le (operands (plain_step s)) (lower_operands i (plain_step s) (low i (plain_step s) there))

-- one step down
pub swept_more : (shown : List ℕ) (steps : List Step) (lengths : List Length) (i : ℕ) (s : Step)
    (users users' seekers seekers' : List Reach) (caps caps' : List Length) (reaches reaches' : List Reach) (b c : Length) (u r : Reach)
    → 0 < i → i ≤ length steps → s ≡ get_or steps (i - 1) s
    → lengths ≡ belows (map plain_step steps) [] → length lengths ≡ length steps
    → u ≡ get_or users (i - 1) u → r ≡ get_or seekers (i - 1) r → b ≡ get_or lengths (i - 1) b → c ≡ least b (needed u)
    → users' ≡ charged c (operands (plain_step s)) users
    → seekers' ≡ cond (seeks (plain_step s)) (charged c (operands (plain_step s)) seekers) seekers
    → caps' ≡ caps ++ c ∷ [] → reaches' ≡ reaches ++ r ∷ []
    → Swept shown (map plain_step steps) i users seekers caps reaches
    → Swept shown (map plain_step steps) (i - 1) users' seekers' caps' reaches'
swept_more shown steps lengths i s users users' seekers seekers' caps caps' reaches reaches' b c u r z l se are lb ue re be ce us bs ke qe h =
    let k : i - 1 < length steps = omega (arith, z, l) in
    let kp : i - 1 < length (map plain_step steps) = omega (arith, k, length-map steps plain_step) in
    let ku : i - 1 < length users = omega (arith, kp, h.all.size) in
    let kr : i - 1 < length seekers = omega (arith, kp, h.some.size) in
    let kb : i - 1 < length lengths = omega (arith, k, lb) in
    let up : i ≡ i - 1 + 1 = omega (arith, z) in
    let p = plain_at steps s (i - 1) k se in
    let x : PlainStep = get_or (map plain_step steps) (i - 1) (plain_step s) in
    let long : b ≡ below (map plain_step steps) (i - 1) =
    be ∙ get_or_default lengths (i - 1) b None kb ∙ ap (λ t. length_at t (i - 1)) are in
    let g : Swept shown (map plain_step steps) (i - 1) (charged c (operands x) users)
    (cond (seeks x) (charged c (operands x) seekers) seekers) (caps ++ c ∷ []) (reaches ++ r ∷ []) =
    swept_step shown (map plain_step steps) (i - 1) (plain_step s) users seekers caps reaches c u r kp
    (ue ∙ get_or_default users (i - 1) u NoUser ku) (re ∙ get_or_default seekers (i - 1) r NoUser kr)
    (ce ∙ ap (λ y. least y (needed u)) long) (subst (λ n. Swept shown (map plain_step steps) n users seekers caps reaches) up h) in
    subst (λ (f : List Reach × (List Reach × (List Length × List Reach))). Swept shown (map plain_step steps) (i - 1) f.0 f.1.0 f.1.1.0 f.1.1.1)
    (λ j. (
      (ap (λ y. charged c (operands y) users) p ∙ sym us) j,
      ((ap (λ y. cond (seeks y) (charged c (operands y) seekers) seekers) p ∙ sym bs) j, (sym ke j, sym qe j)),
    )) g
