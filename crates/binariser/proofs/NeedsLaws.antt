-- The names that are given out, with the names below each, are those of the plan.
use Rattle.std.proofs.Common.{ℕ, zero, suc, ◌≡◌, ◌+◌, ◌<◌, ◌≤◌, Bool, true, false, cond, ◌||◌, List, [], ◌∷◌, ◌++◌, length, take, get_or, refl, sym, ap, ◌∙◌, arith}
use Rattle.std.specs.List.{filter, flat_map, IsDistinct}
use Rattle.std.specs.Ordering.{is_eq, eq_by_cmp}
use Rattle.std.proofs.lemmas.Bool.{true≢false}
use Rattle.std.proofs.lemmas.Cmp.{eq_by_cmp_equiv}
use Rattle.std.proofs.lemmas.List.{take_more, take-append-le, take_all}
use Rattle.std.proofs.lemmas.Map.Made.{length-le_from_is_member}
use Rattle.ordered_lists.specs.Canon.{has, has-append}
use Rattle.event_model.specs.EventOrder.{name_cmp, exact_names, same_names}
use Rattle.event_model.specs.declared.atoms.NameArity.{NameArity}
use Rattle.rule_ast.specs.Trees.{PlainRule, PlainStatement}
use Rattle.rule_check.specs.Cycles.{below, rank_of, IsRanking}
use Rattle.rule_check.specs.Names.{head_name, body_names, outputs}
use Rattle.rule_check.specs.Sound.{rules_of}
use Rattle.pattern_meaning.specs.RuleRows.{has_head}
use Rattle.pattern_meaning.specs.Depths.{or_left, or_right, ties_itself}
use Rattle.step_meaning.specs.PlanOf.{needs, plan_names}
use Rattle.step_meaning.specs.NeededNames.{in_flat}
use Rattle.step_meaning.specs.NamedSteps.{in_plan, plan_closed, outputs_in_plan}
use Rattle.binariser.specs.Heads.{rules_for}
use Rattle.binariser.specs.Needed.{IsGrown, bodies_names}
use Rattle.binariser.proofs.HeadLaws.{headed_in_order}

-- the names in the bodies of a name's rules are those below it
pub bodies_below_name : (rs : List PlainRule) (n : NameArity) → bodies_names (filter (has_head n) rs) ≡ below rs n
bodies_below_name [] n = refl
bodies_below_name (r ∷ rs) n = at (has_head n r) (headed_in_order n r) (bodies_below_name rs n)
  where
    at : (b : Bool) → b ≡ is_eq (name_cmp n (head_name r)) → bodies_names (filter (has_head n) rs) ≡ below rs n
        → bodies_names (cond b (r ∷ filter (has_head n) rs) (filter (has_head n) rs))
        ≡ cond (is_eq (name_cmp n (head_name r))) (body_names r.body) [] ++ below rs n
    at true e more = (λ i. body_names r.body ++ more i) ∙ ap (λ c. cond c (body_names r.body) [] ++ below rs n) e
    at false e more = more ∙ ap (λ c. cond c (body_names r.body) [] ++ below rs n) e

or_cases : (P : Type 0) (a b : Bool) → (a || b) ≡ true → (a ≡ true → P) → (b ≡ true → P) → P
or_cases P true b e f g = f refl
or_cases P false b e f g = g e

-- names of a plan, those that are given out among them, so that the names below the first of them are there
pub record Closing (statements : List PlainStatement) (now : List NameArity) (next : ℕ) : Type 0 where
  pub shown : (m : NameArity) → has name_cmp m (outputs statements) ≡ true → has name_cmp m now ≡ true
  pub closed : (n m : NameArity) → has name_cmp n (take next now) ≡ true → has name_cmp m (below (rules_of statements) n) ≡ true
      → has name_cmp m now ≡ true
  pub within : (m : NameArity) → has name_cmp m now ≡ true → has name_cmp m (plan_names statements) ≡ true

-- the name at a place
pub name_at : (xs : List NameArity) (i : ℕ) → i < length xs → (n : NameArity) × (n ≡ get_or xs i n)
name_at [] i h = absurd (omega arith)
name_at (x ∷ xs) zero h = (x, refl)
name_at (x ∷ xs) (suc i) h = name_at xs i (omega (arith, h))

pub same_at : (xs : List NameArity) (i : ℕ) (n m : NameArity) → i < length xs → n ≡ get_or xs i n → m ≡ get_or xs i m → n ≡ m
same_at [] i n m h e d = absurd (omega arith)
same_at (x ∷ xs) zero n m h e d = e ∙ sym d
same_at (x ∷ xs) (suc i) n m h e d = same_at xs i n m (omega (arith, h)) e d

module _ (statements : List PlainStatement) (ranking : IsRanking (rules_of statements) (rank_of (rules_of statements))) where
  abbrev rules_ : List PlainRule
  rules_ = rules_of statements

  pub closing_begins : (now : List NameArity) → ((m : NameArity) → has name_cmp m now ≡ has name_cmp m (outputs statements))
      → Closing statements now 0
  closing_begins now e = record {
    shown = λ m h. e m ∙ h;
    closed = λ n m h. absurd (true≢false (sym h));
    within = λ m h. outputs_in_plan statements [] ranking m (sym (e m) ∙ h);
  }

  has_at : (xs : List NameArity) (i : ℕ) (d : NameArity) → i < length xs → has name_cmp (get_or xs i d) xs ≡ true
  has_at [] i d h = absurd (omega arith)
  has_at (x ∷ xs) zero d h = or_left _ _ (ties_itself x)
  has_at (x ∷ xs) (suc i) d h = or_right _ _ (has_at xs i d (omega (arith, h)))

  module _ (now : List NameArity) (next : ℕ) (c : Closing statements now next) where
    -- no more names come than the plan has
    pub few_names : IsDistinct (eq_by_cmp name_cmp) now → length now ≤ length (plan_names statements)
    few_names distinct = length-le_from_is_member (eq_by_cmp_equiv exact_names.total) now (plan_names statements) distinct c.within

    module _ (n : NameArity) (new : List NameArity) (h : next < length now) (is : n ≡ get_or now next n)
        (g : IsGrown now (bodies_names (rules_for statements n)) new) where
      still_there : (m : NameArity) → has name_cmp m now ≡ true → has name_cmp m new ≡ true
      still_there m e = g.names m ∙ or_left _ _ e

      below_there : (m : NameArity) → has name_cmp m (below rules_ n) ≡ true → has name_cmp m new ≡ true
      below_there m e = g.names m ∙ or_right _ _ (ap (has name_cmp m) (bodies_below_name rules_ n) ∙ e)

      looked_into : take (next + 1) new ≡ take next now ++ n ∷ []
      looked_into =
          let le : next + 1 ≤ length now = omega (arith, h) in
          ap (take (next + 1)) g.kept.1 ∙ take-append-le (next + 1) now g.kept.0 le ∙ take_more now next n h
          ∙ ap (λ x. take next now ++ x ∷ []) (sym is)

      pub closing_more : Closing statements new (next + 1)
      closing_more = record {
        shown = λ m e. still_there m (c.shown m e);
        closed = λ k m e d.
            or_cases (has name_cmp m new ≡ true) (has name_cmp k (take next now)) (is_eq (name_cmp k n) || false)
            (sym (ap (has name_cmp k) looked_into ∙ has-append exact_names k (take next now) (n ∷ [])) ∙ e)
            (λ old. still_there m (c.closed k m old d))
            (λ own. or_cases (has name_cmp m new ≡ true) (is_eq (name_cmp k n)) false own
            (λ tie. below_there m (ap (λ x. has name_cmp m (below rules_ x)) (sym (same_names k n tie)) ∙ d))
            (λ no. absurd (true≢false (sym no))));
        within = λ m e.
            or_cases (has name_cmp m (plan_names statements) ≡ true) (has name_cmp m now)
            (has name_cmp m (bodies_names (rules_for statements n))) (sym (g.names m) ∙ e)
            (c.within m)
            (λ d. plan_closed statements [] ranking n m
            (c.within n (ap (λ x. has name_cmp x now) is ∙ has_at now next n h))
            (ap (has name_cmp m) (sym (bodies_below_name rules_ n)) ∙ d));
      }

    module _ (done : length now ≤ next) where
      all_closed : (n m : NameArity) → has name_cmp n now ≡ true → has name_cmp m (below rules_ n) ≡ true → has name_cmp m now ≡ true
      all_closed n m e d = c.closed n m (ap (has name_cmp n) (take_all next now done) ∙ e) d

      itself : (x m : NameArity) → has name_cmp x now ≡ true → is_eq (name_cmp m x) ≡ true → has name_cmp m now ≡ true
      itself x m e tie = ap (λ y. has name_cmp y now) (same_names m x tie) ∙ e

      needs_there : (k : ℕ) (x m : NameArity) → has name_cmp x now ≡ true → has name_cmp m (needs k rules_ x) ≡ true
          → has name_cmp m now ≡ true
      needs_there zero x m e d =
          or_cases (has name_cmp m now ≡ true) (is_eq (name_cmp m x)) false d (itself x m e) (λ no. absurd (true≢false (sym no)))
      needs_there (suc k) x m e d =
          or_cases (has name_cmp m now ≡ true) (is_eq (name_cmp m x)) (has name_cmp m (flat_map (needs k rules_) (below rules_ x))) d
          (itself x m e)
          (λ deeper. in_flat (has name_cmp m now ≡ true) (needs k rules_) m (below rules_ x) deeper
          (λ y f g. needs_there k y m (all_closed x y e f) g))

      -- with those below each the names are those of the plan
      pub closing_ends : (m : NameArity) → has name_cmp m now ≡ has name_cmp m (plan_names statements)
      closing_ends m = at (has name_cmp m now) refl (has name_cmp m (plan_names statements)) refl
        where
          there : has name_cmp m (plan_names statements) ≡ true → has name_cmp m now ≡ true
          there e =
              in_flat (has name_cmp m now ≡ true) (needs (length rules_) rules_) m (outputs statements)
              (sym (in_plan statements [] ranking m) ∙ e) (λ x f g. needs_there (length rules_) x m (c.shown x f) g)

          at : (a : Bool) → has name_cmp m now ≡ a → (b : Bool) → has name_cmp m (plan_names statements) ≡ b → a ≡ b
          at true e true d = refl
          at false e false d = refl
          at true e false d = absurd (true≢false (sym (c.within m e) ∙ d))
          at false e true d = absurd (true≢false (sym (there d) ∙ e))
