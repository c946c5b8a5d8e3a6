-- The step of each name of a plan has the rows of the name.
use Rattle.std.specs.Prelude.{ℕ, zero, suc, ◌≡◌, ◌<◌, ◌≤◌, ◌⊎◌, refl, Bool, true, false, cond, ◌||◌, ◌==◌, Some, List, [], ◌∷◌, ◌++◌, map, length}
use Rattle.std.specs.List.{filter, flat_map}
use Rattle.std.specs.Ordering.{is_eq, is_lt, nat_cmp, ordering_then}
use Rattle.std.specs.Str.{bytes_eq}
use Rattle.std.specs.Cmp.{tied_itself, nat_cmp_is}
use Rattle.std.specs.declared.cmp.Ordering.{Ordering}
use Rattle.std.specs.declared.cmp.Ordering.TheVariants.{Less, Equal, Greater}
use Rattle.std.proofs.Common.{inl, inr, ap, sym, ◌∙◌, arith, length-append, append_assoc}
use Rattle.std.proofs.lemmas.Grind.{flat_map-append}
use Rattle.std.proofs.lemmas.Cmp.{nat_cmp_total, on_total}
use Rattle.std.proofs.lemmas.Bool.{true≢false, and_parts, eqb-true}
use Rattle.std.proofs.lemmas.Slice.Eq.{bytes_eq-Decides}
use Rattle.std.proofs.lemmas.Option.{none-some}
use Rattle.std.proofs.lemmas.Bool.Decides.{nat_tests}
use Rattle.ordered_lists.specs.Lists.{Each, Each-append}
use Rattle.ordered_lists.specs.Canon.{canon, has, has-canon, Rising, Rising-canon, AllAbove}
use Rattle.ordered_lists.specs.Canon.{Exact as TellsApart}
use Rattle.ordered_lists.specs.Members.{list_any_agree, Each_has}
use Rattle.ordered_lists.specs.Orders.{exact_then_cmp}
use Rattle.event_model.specs.declared.events.Event.{Event}
use Rattle.event_model.specs.declared.atoms.NameArity.{NameArity}
use Rattle.ev_bind.specs.declared.rows.Row.{Row}
use Rattle.rule_ast.specs.Trees.{PlainRule, PlainStatement}
use Rattle.rule_check.specs.Cycles.{below, rank_of, rank_most, IsRanking}
use Rattle.rule_check.specs.Names.{outputs}
use Rattle.rule_check.specs.Sound.{rules_of}
use Rattle.pattern_meaning.specs.PatternRows.{rows_of, events_of, head_row}
use Rattle.pattern_meaning.specs.RuleRows.{rows, has_head, head_rows, name_rows}
use Rattle.pattern_meaning.specs.Standing.{standing, detection_of}
use Rattle.pattern_meaning.specs.Depths.{named_same}
use Rattle.rule_ast.specs.PlainPlans.{PlainStep, Named, Leaf, Join, Either, Where, Exact, Within, Minus, Head}
use Rattle.step_meaning.specs.StepRows.{step_at, step_rows, detections_of, given_out, shown_detections}
use Rattle.step_meaning.specs.PlanOf.{needs, by_rank, plan_names, top, is_named, step_of, body_steps, rule_steps, name_steps, names_steps, plan_steps, plan_of}
use Rattle.event_model.specs.EventOrder.{name_cmp, exact_names, detection_cmp}
use Rattle.pattern_meaning.specs.Depths.{or_left, or_right, bodies_below, ties_itself}
use Rattle.step_meaning.specs.NeededNames.{in_flat, flat_in, rank_below, needs_closed}
use Rattle.step_meaning.specs.Operands.{AreLower, HasPlaces, lower_push, rules_lower}
use Rattle.step_meaning.specs.Growing.{AtPush, placed_push, placed_last, at, Extends, stay, push, same_push, ◌then◌, at_end, at_top, extends, HasNames, still, compiled}

append_nil : {A : Type 0} (xs : List A) → xs ≡ xs ++ []
append_nil [] = refl
append_nil (x ∷ xs) = ap (λ l. x ∷ l) (append_nil xs)

Each-two : {A : Type 0} (P Q : A → Type 0) → ((x : A) → P x → Q x) → (xs : List A) → Each P xs → Each Q xs
Each-two P Q h [] a = tt
Each-two P Q h (x ∷ xs) a = (h x a.0, Each-two P Q h xs a.1)

-- a step that is a name's
pub named_is : (n : NameArity) (s : PlainStep) → is_named n s ≡ true → (heads : List ℕ) × (s ≡ Named n heads)
named_is n (Named m heads) e =
    let parts = and_parts (bytes_eq n.name m.name) (n.arity == m.arity) e in
    let same : n ≡ m = λ i. record { name = (bytes_eq-Decides n.name m.name).0 parts.0 i; arity = eqb-true n.arity m.arity parts.1 i } in
    (heads, ap (λ k. Named k heads) (sym same))
named_is n (Leaf of p) e = absurd (true≢false (sym e))
named_is n (Join op l r) e = absurd (true≢false (sym e))
named_is n (Either l r) e = absurd (true≢false (sym e))
named_is n (Where of c) e = absurd (true≢false (sym e))
named_is n (Exact of q) e = absurd (true≢false (sym e))
named_is n (Within of q) e = absurd (true≢false (sym e))
named_is n (Minus j b i a) e = absurd (true≢false (sym e))
named_is n (Head of h) e = absurd (true≢false (sym e))

-- what stands at the step of a name that has one
pub placed_at : (ss : List PlainStep) (n : NameArity) → step_of ss n < length ss
    → (heads : List ℕ) × (step_at ss (step_of ss n) ≡ Some (Named n heads))
placed_at [] n h = absurd (omega (arith, h))
placed_at (s ∷ ss) n h = here (is_named n s) refl h (placed_at ss n)
  where
    here : (b : Bool) → is_named n s ≡ b → cond b 0 (suc (step_of ss n)) < length (s ∷ ss)
        → (step_of ss n < length ss → (heads : List ℕ) × (step_at ss (step_of ss n) ≡ Some (Named n heads)))
        → (heads : List ℕ) × (step_at (s ∷ ss) (cond b 0 (suc (step_of ss n))) ≡ Some (Named n heads))
    here true e h more = let is = named_is n s e in (is.0, ap Some is.1)
    here false e h more = more (omega (arith, h))

pub tests_itself : (n : NameArity) (heads : List ℕ) → is_named n (Named n heads) ≡ true
tests_itself n heads = let same : bytes_eq n.name n.name ≡ true = (bytes_eq-Decides n.name n.name).1 refl in grind (arith, nat_tests, same)

-- ---- the order of names in a plan

module _ (rules : List PlainRule) where
  pub exact_by_rank : TellsApart (by_rank rules)
  exact_by_rank = exact_then_cmp (on_total (rank_of rules) nat_cmp_total) exact_names.total (λ x y d e. exact_names.same x y e)

  ties_by_rank : (q x : NameArity) → is_eq (by_rank rules q x) ≡ is_eq (name_cmp q x)
  ties_by_rank q x = cases (name_cmp q x) refl
    where
      less : (o : Ordering) → is_eq (ordering_then o Less) ≡ false
      less Less = refl
      less Equal = refl
      less Greater = refl

      greater : (o : Ordering) → is_eq (ordering_then o Greater) ≡ false
      greater Less = refl
      greater Equal = refl
      greater Greater = refl

      cases : (c : Ordering) → name_cmp q x ≡ c → is_eq (by_rank rules q x) ≡ is_eq c
      cases Less e = ap (λ c. is_eq (ordering_then (nat_cmp (rank_of rules q) (rank_of rules x)) c)) e
          ∙ less (nat_cmp (rank_of rules q) (rank_of rules x))
      cases Equal e = ap (λ z. is_eq (by_rank rules q z)) (sym (exact_names.same q x e)) ∙ ap is_eq (tied_itself exact_by_rank.total q)
      cases Greater e = ap (λ c. is_eq (ordering_then (nat_cmp (rank_of rules q) (rank_of rules x)) c)) e
          ∙ greater (nat_cmp (rank_of rules q) (rank_of rules x))

  pub has_by_rank : (q : NameArity) (xs : List NameArity) → has (by_rank rules) q xs ≡ has name_cmp q xs
  has_by_rank q xs = list_any_agree (λ x. is_eq (by_rank rules q x)) (λ x. is_eq (name_cmp q x)) (ties_by_rank q) xs

  -- a name that comes later has no lesser rank
  not_lower : (n x : NameArity) → by_rank rules n x ≡ Less → rank_of rules x < rank_of rules n → ⊥
  not_lower n x e lt = true≢false
      (sym (ap is_lt e) ∙ ap (λ o. is_lt (ordering_then o (name_cmp n x)))
      (sym (nat_cmp_is (rank_of rules n) (rank_of rules x) Greater lt)))

  none_lower : (n : NameArity) (rest : List NameArity) → AllAbove (by_rank rules) n rest
      → Each (λ x. rank_of rules x < rank_of rules n → ⊥) rest
  none_lower n [] a = tt
  none_lower n (x ∷ rest) a = (not_lower n x a.0, none_lower n rest a.1)

-- ---- the steps of the rules of a name

module _ (events : List Event) (of : NameArity → ℕ) (N : NameArity → List Row) where
  abbrev Within_ : List PlainStep → ℕ → Type 0
  Within_ ss i = i < length ss

  flat_kept : (ss more : List PlainStep) → Extends events ss more → (hs : List ℕ) → Each (Within_ ss) hs
      → flat_map (at events more) hs ≡ flat_map (at events ss) hs
  flat_kept ss more k [] a = refl
  flat_kept ss more k (i ∷ hs) a = λ j. k.same i a.0 j ++ flat_kept ss more k hs a.1 j

  below_more : (ss more : List PlainStep) → length ss ≤ length more → (hs : List ℕ) → Each (Within_ ss) hs → Each (Within_ more) hs
  below_more ss more le hs a = Each-two (Within_ ss) (Within_ more) (λ i h. omega (arith, h, le)) hs a

  pub rules_extend : (rs : List PlainRule) (ss : List PlainStep) (hs : List ℕ) → Extends events ss (rule_steps of rs ss hs).0
  rules_extend [] ss hs = stay events ss
  rules_extend (r ∷ rs) ss hs =
      let body = body_steps of r.body ss in
      let with_head = body ++ Head (top body) r.head ∷ [] in
      ◌then◌ events (◌then◌ events (extends events of r.body ss) (push events body (Head (top body) r.head) refl))
      (rules_extend rs with_head (hs ++ top with_head ∷ []))

  pub heads_at : (rs : List PlainRule) (ss : List PlainStep) (hs : List ℕ) → Each (λ r. HasNames events of N r.body ss) rs
      → Each (Within_ ss) hs
      → flat_map (at events (rule_steps of rs ss hs).0) (rule_steps of rs ss hs).1 ≡ flat_map (at events ss) hs ++ flat_map (head_rows N) rs
  heads_at [] ss hs h a = append_nil (flat_map (at events ss) hs)
  heads_at (r ∷ rs) ss hs h a =
      let body = body_steps of r.body ss in
      let s = Head (top body) r.head in
      let more = body ++ s ∷ [] in
      let e = ◌then◌ events (extends events of r.body ss) (push events body s refl) in
      let lt : top more < length more = omega (arith, length-append body (s ∷ [])) in
      let row : at events more (top more) ≡ rows_of (map (head_row r.head) (rows N r.body)) = at_top events body s
      ∙ ap (λ l. rows_of (map (head_row r.head) l)) (compiled events of N r.body ss h.0) in
      heads_at rs more (hs ++ top more ∷ [])
      (Each-two (λ r. HasNames events of N r.body ss) (λ r. HasNames events of N r.body more)
      (λ r g. still events of N r.body e g) rs h.1)
      (Each-append (Within_ more) hs (top more ∷ []) (below_more ss more e.longer hs a) (lt, tt))
      ∙ ap (λ l. l ++ flat_map (head_rows N) rs)
      (flat_map-append (at events more) hs (top more ∷ [])
      ∙ (λ i. flat_kept ss more e hs a i ++ ((sym (append_nil (at events more (top more))) ∙ row) i)))
      ∙ append_assoc (flat_map (at events ss) hs) (rows_of (map (head_row r.head) (rows N r.body))) (flat_map (head_rows N) rs)

-- ---- the steps of all names

module _ (statements : List PlainStatement) (events : List Event)
    (ranking : IsRanking (rules_of statements) (rank_of (rules_of statements))) where
  abbrev pub rules : List PlainRule
  rules = rules_of statements

  abbrev pub N : NameArity → List Row
  N = name_rows rules events

  pub in_plan : (q : NameArity)
      → has name_cmp q (plan_names statements) ≡ has name_cmp q (flat_map (needs (length rules) rules) (outputs statements))
  in_plan q =
      let all = flat_map (needs (length rules) rules) (outputs statements) in
      sym (has_by_rank rules q (canon (by_rank rules) all)) ∙ has-canon (exact_by_rank rules) q all ∙ has_by_rank rules q all

  -- what a name of the plan stands on is in the plan
  pub plan_closed : (n m : NameArity) → has name_cmp n (plan_names statements) ≡ true → has name_cmp m (below rules n) ≡ true
      → has name_cmp m (plan_names statements) ≡ true
  plan_closed n m e d = in_plan m
      ∙ in_flat (has name_cmp m (flat_map (needs (length rules) rules) (outputs statements)) ≡ true) (needs (length rules) rules) n
      (outputs statements) (sym (in_plan n) ∙ e)
      (λ x g i. flat_in (needs (length rules) rules) m x (outputs statements) g
      (needs_closed rules (rank_of rules) ranking (length rules) x n m (rank_most rules x) i d))

  -- each name that is given out is in the plan
  pub outputs_in_plan : (n : NameArity) → has name_cmp n (outputs statements) ≡ true → has name_cmp n (plan_names statements) ≡ true
  outputs_in_plan n e = in_plan n ∙ flat_in (needs (length rules) rules) n n (outputs statements) e (first (length rules))
    where
      first : (k : ℕ) → has name_cmp n (needs k rules n) ≡ true
      first zero = or_left _ _ (ties_itself n)
      first (suc k) = or_left _ _ (ties_itself n)

  -- each step of a name has the name's rows
  abbrev pub AreNamed : List PlainStep → Type 0
  AreNamed ss = (i : ℕ) (n : NameArity) (heads : List ℕ) → step_at ss i ≡ Some (Named n heads) → at events ss i ≡ N n

  -- each name of the plan has a step or is still to come
  abbrev pub Covered : List NameArity → List PlainStep → Type 0
  Covered rest ss = (m : NameArity) → has name_cmp m (plan_names statements) ≡ true
      → (step_of ss m < length ss) ⊎ (has name_cmp m rest ≡ true)

  module _ (n : NameArity) (rest : List NameArity) (ss : List PlainStep) (needed : has name_cmp n (plan_names statements) ≡ true)
      (above : AllAbove (by_rank rules) n rest) (named : AreNamed ss) (covered : Covered (n ∷ rest) ss) where
    -- the names below are there already
    pub placed_below : (m : NameArity) → has name_cmp m (below rules n) ≡ true → step_of ss m < length ss
    placed_below m e = cases (covered m (plan_closed n m needed e))
      where
        lower : rank_of rules m < rank_of rules n
        lower = rank_below rules (rank_of rules) ranking n m e

        here : (c : Ordering) → name_cmp m n ≡ c → (is_eq c || has name_cmp m rest) ≡ true → ⊥
        here Less d g = Each_has exact_names (λ x. rank_of rules x < rank_of rules n → ⊥) m rest (none_lower rules n rest above) g lower
        here Equal d g = let same : rank_of rules m ≡ rank_of rules n = ap (rank_of rules) (exact_names.same m n d) in
            omega (arith, lower, same)
        here Greater d g = Each_has exact_names (λ x. rank_of rules x < rank_of rules n → ⊥) m rest (none_lower rules n rest above) g lower

        cases : (step_of ss m < length ss) ⊎ (has name_cmp m (n ∷ rest) ≡ true) → step_of ss m < length ss
        cases (inl h) = h
        cases (inr h) = absurd (here (name_cmp m n) refl h)

    bodies_ready : Each (λ r. HasNames events (step_of ss) N r.body ss) (filter (has_head n) rules)
    bodies_ready = bodies_below (λ m. (step_of ss m < length ss) × (at events ss (step_of ss m) ≡ N m)) n rules
        (λ m e. let lt = placed_below m e in (lt, named (step_of ss m) m (placed_at ss m lt).0 (placed_at ss m lt).1))

    abbrev pub made : List PlainStep × List ℕ
    made = rule_steps (step_of ss) (filter (has_head n) rules) ss []

    pub made_extends : Extends events ss made.0
    made_extends = rules_extend events (step_of ss) N (filter (has_head n) rules) ss []

    -- the rows of the name's own step
    own_rows : at events (name_steps rules ss n) (length made.0) ≡ N n
    own_rows =
        at_end events made.0 (Named n made.1)
        ∙ ap (λ l. rows_of (rows_of (events_of events n) ++ l))
        (heads_at events (step_of ss) N (filter (has_head n) rules) ss [] bodies_ready tt)
        ∙ named_same rules events (rank_of rules) ranking (suc (length rules)) (length rules) n
        (let le = rank_most rules n in omega (arith, le)) (rank_most rules n)

    pub next_named : AreNamed (name_steps rules ss n)
    next_named i m heads e = cases (AtPush made.0 (Named n made.1) (Named m heads) i e)
      where
        cases : ((i < length made.0) × (step_at made.0 i ≡ Some (Named m heads))) ⊎ ((i ≡ length made.0) × (Named n made.1 ≡ Named m heads))
            → at events (name_steps rules ss n) i ≡ N m
        cases (inl h) =
            let old = made_extends.no_names i m heads h.1 in
            same_push events made.0 (Named n made.1) i h.0 ∙ made_extends.same i old.0 ∙ named i m heads old.1
        cases (inr h) = ap (at events (name_steps rules ss n)) h.0 ∙ own_rows ∙ ap N (let same : n ≡ m = let e = h.1 in cc in same)

    pub next_covered : Covered rest (name_steps rules ss n)
    next_covered m e = cases (covered m e)
      where
        last : m ≡ n → step_of (name_steps rules ss n) m < length (name_steps rules ss n)
        last same = placed_last made.0 (Named n made.1) m (ap (λ k. is_named k (Named n made.1)) same ∙ tests_itself n made.1)

        here : (c : Ordering) → name_cmp m n ≡ c → (is_eq c || has name_cmp m rest) ≡ true
            → (step_of (name_steps rules ss n) m < length (name_steps rules ss n)) ⊎ (has name_cmp m rest ≡ true)
        here Less d g = inr g
        here Equal d g = inl (last (exact_names.same m n d))
        here Greater d g = inr g

        cases : (step_of ss m < length ss) ⊎ (has name_cmp m (n ∷ rest) ≡ true)
            → (step_of (name_steps rules ss n) m < length (name_steps rules ss n)) ⊎ (has name_cmp m rest ≡ true)
        cases (inl h) = inl (placed_push made.0 (Named n made.1) m (made_extends.placed m h))
        cases (inr h) = here (name_cmp m n) refl h

    next_lower : AreLower ss → AreLower (name_steps rules ss n)
    next_lower low =
        let ready : Each (λ r. HasPlaces (step_of ss) r.body ss) (filter (has_head n) rules) = bodies_below
        (λ m. step_of ss m < length ss) n rules placed_below in
        let lower = rules_lower (step_of ss) (filter (has_head n) rules) ss [] ready low tt in
        lower_push made.0 (Named n made.1) lower.0 lower.1

  walk : (rest : List NameArity) (ss : List PlainStep) → Rising (by_rank rules) rest
      → ((m : NameArity) → has name_cmp m rest ≡ true → has name_cmp m (plan_names statements) ≡ true) → AreNamed ss → Covered rest ss
      → AreLower ss
      → AreNamed (names_steps rules rest ss) × Covered [] (names_steps rules rest ss) × AreLower (names_steps rules rest ss)
  walk [] ss rising within named covered lower = (named, covered, lower)
  walk (n ∷ rest) ss rising within named covered lower =
      let needed = within n (or_left _ _ (ties_itself n)) in
      walk rest (name_steps rules ss n) rising.1 (λ m e. within m (or_right _ _ e)) (next_named n rest ss needed rising.0 named covered)
      (next_covered n rest ss needed rising.0 named covered) (next_lower n rest ss needed rising.0 named covered lower)

  whole : AreNamed (plan_steps statements) × Covered [] (plan_steps statements) × AreLower (plan_steps statements)
  whole = walk (plan_names statements) [] (Rising-canon (exact_by_rank rules) (flat_map (needs (length rules) rules) (outputs statements)))
      (λ m e. e) (λ i n heads e. absurd (none-some (Named n heads) e)) (λ m e. inr e) (λ i s e. absurd (none-some s e))

  -- at each step of a name the rows of the step are those of the name
  pub named_steps_exact : (i : ℕ) (n : NameArity) (heads : List ℕ) → step_at (plan_steps statements) i ≡ Some (Named n heads)
      → step_rows (plan_steps statements) i events ≡ name_rows rules events n
  named_steps_exact = whole.0

  -- operands come first
  pub plan_lower : AreLower (plan_steps statements)
  plan_lower = whole.2

  -- each name of the plan has a step, which has its rows
  pub names_have_steps : (n : NameArity) → has name_cmp n (plan_names statements) ≡ true
      → (step_of (plan_steps statements) n < length (plan_steps statements))
      × (step_rows (plan_steps statements) (step_of (plan_steps statements) n) events ≡ name_rows rules events n)
  names_have_steps n e = cases (whole.1 n e)
    where
      cases : (step_of (plan_steps statements) n < length (plan_steps statements)) ⊎ (has name_cmp n [] ≡ true)
          → (step_of (plan_steps statements) n < length (plan_steps statements))
          × (step_rows (plan_steps statements) (step_of (plan_steps statements) n) events ≡ name_rows rules events n)
      cases (inl h) = let at_step = placed_at (plan_steps statements) n h in
          (h, whole.0 (step_of (plan_steps statements) n) n at_step.0 at_step.1)
      cases (inr h) = absurd (true≢false (sym h))

  -- the detections that the steps of these names give out are those of their rows
  given_out_names : (ns : List NameArity) → ((n : NameArity) → has name_cmp n ns ≡ true → has name_cmp n (outputs statements) ≡ true)
      → flat_map (given_out (plan_steps statements) events) (map (step_of (plan_steps statements)) ns)
      ≡ flat_map (λ n. map (detection_of n) (name_rows rules events n)) ns
  given_out_names [] h = refl
  given_out_names (n ∷ ns) h =
      let own = names_have_steps n (outputs_in_plan n (h n (or_left _ _ (ties_itself n)))) in
      let there = placed_at (plan_steps statements) n own.0 in
      let one = ap (λ s. detections_of s (step_rows (plan_steps statements) (step_of (plan_steps statements) n) events)) there.1
      ∙ ap (map (detection_of n)) own.1 in
      λ i. one i ++ given_out_names ns (λ m e. h m (or_right _ _ e)) i

  -- what stands is what the shown steps give out
  pub standing_by_steps : shown_detections (plan_of statements) events ≡ standing statements events
  unfolding standing
  standing_by_steps = ap (canon detection_cmp) (given_out_names (outputs statements) (λ n e. e))
