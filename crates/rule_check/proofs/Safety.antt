-- No variable stands where it may not exactly where the plain statements hold.
use Rattle.std.proofs.Common.{◌≡◌, ℕ, ◌+◌, Bool, true, false, not, ◌||◌, ◌&&◌, ◌==◌, cond, List, [], ◌∷◌, ◌++◌, map, refl, ap, sym, ◌∙◌}
use Rattle.std.proofs.Math.Logic.{⊎_elim}
use Rattle.std.proofs.lemmas.Bool.{and_parts, and_from, true≢false, or_left, or_right, or_cases}
use Rattle.std.proofs.lemmas.Bool.Decides.{Decides-eqb}
use Rattle.rule_ast.specs.Trees.{PlainPattern, Atom, Both, Either, Where, Exact, Within, Not, PlainRule}
use Rattle.rule_ast.specs.Vars.{atom_vars, vars, is_in, is_in-none, is_in-cons, is_in-append}
use Rattle.rule_check.specs.Offenders.{outside, among, cond_vars, head_offenders, where_offenders, or_offenders, not_offenders}
use Rattle.rule_check.specs.Sound.{AreWheresBound, AreOrsAlike, AreNotsBound, IsSafe, AreSafe}
use Rattle.rule_check.specs.Faults.{rule_faults, variable_faults}

module _ {A : Type 0} where
  pub append_none : (xs ys : List A) → xs ++ ys ≡ [] → (xs ≡ []) × (ys ≡ [])
  append_none [] ys e = (refl, e)
  append_none (x ∷ xs) ys e = cc

  pub none_append : (xs ys : List A) → xs ≡ [] → ys ≡ [] → xs ++ ys ≡ []
  none_append xs ys e f = ap (λ l. l ++ ys) e ∙ f

  pub map_none : {B : Type 0} (f : A → B) (xs : List A) → map f xs ≡ [] → xs ≡ []
  map_none f [] e = refl
  map_none f (x ∷ xs) e = cc

  pub none_map : {B : Type 0} (f : A → B) (xs : List A) → xs ≡ [] → map f xs ≡ []
  none_map f xs e = ap (map f) e

-- every one of these may stand there
abbrev All : (ℕ → Bool) → List ℕ → Type 0
All may xs = (s : ℕ) → is_in s xs ≡ true → may s ≡ true

same_slot : (may : ℕ → Bool) (x s : ℕ) → may x ≡ true → (x == s) ≡ true → may s ≡ true
same_slot may x s h e = ap may (sym ((Decides-eqb x s).0 e)) ∙ h

outside_none : (may : ℕ → Bool) (xs : List ℕ) → outside may xs ≡ [] → All may xs
outside_none may [] e s h = absurd (true≢false (sym h ∙ is_in-none s))
outside_none may (x ∷ xs) e s h = at (may x) refl (outside_none may xs) e
  where
    at : (b : Bool) → may x ≡ b → (outside may xs ≡ [] → All may xs) → cond (not b) (x ∷ outside may xs) (outside may xs) ≡ [] → may s ≡ true
    at true m rest f = ⊎_elim (same_slot may x s m) (rest f s) (or_cases (x == s) (is_in s xs) (sym (is_in-cons s x xs) ∙ h))
    at false m rest f = cc

none_outside : (may : ℕ → Bool) (xs : List ℕ) → All may xs → outside may xs ≡ []
none_outside may [] h = refl
none_outside may (x ∷ xs) h =
    ap (λ b. cond (not b) (x ∷ outside may xs) (outside may xs)) (h x (is_in-cons x x xs ∙ or_left (x == x) (is_in x xs) ((Decides-eqb x x).1 refl)))
    ∙ none_outside may xs (λ s e. h s (is_in-cons s x xs ∙ or_right (x == s) (is_in s xs) e))

-- of two lists put together
all_left : (may : ℕ → Bool) (xs ys : List ℕ) → All may (xs ++ ys) → All may xs
all_left may xs ys h s e = h s (is_in-append s xs ys ∙ or_left (is_in s xs) (is_in s ys) e)

all_right : (may : ℕ → Bool) (xs ys : List ℕ) → All may (xs ++ ys) → All may ys
all_right may xs ys h s e = h s (is_in-append s xs ys ∙ or_right (is_in s xs) (is_in s ys) e)

all_both : (may : ℕ → Bool) (xs ys : List ℕ) → All may xs → All may ys → All may (xs ++ ys)
all_both may xs ys h g s e = ⊎_elim (h s) (g s) (or_cases (is_in s xs) (is_in s ys) (sym (is_in-append s xs ys) ∙ e))

-- ---- WHERE

pub wheres : (p : PlainPattern) → where_offenders p ≡ [] → AreWheresBound p
wheres (Atom a) e = tt
wheres (Both op l r) e = let f = append_none (where_offenders l) (where_offenders r) e in (wheres l f.0, wheres r f.1)
wheres (Either l r) e = let f = append_none (where_offenders l) (where_offenders r) e in (wheres l f.0, wheres r f.1)
wheres (Where p c) e =
    let f = append_none (where_offenders p) (outside (among (vars p)) (cond_vars c)) e in
    (wheres p f.0, outside_none (among (vars p)) (cond_vars c) f.1)
wheres (Exact p q) e = wheres p e
wheres (Within p q) e = wheres p e
wheres (Not i b a) e =
    let f = append_none (where_offenders i) (where_offenders b ++ where_offenders a) e in
    let g = append_none (where_offenders b) (where_offenders a) f.1 in
    (wheres i f.0, wheres b g.0, wheres a g.1)

pub wheres_back : (p : PlainPattern) → AreWheresBound p → where_offenders p ≡ []
wheres_back (Atom a) h = refl
wheres_back (Both op l r) h = none_append (where_offenders l) (where_offenders r) (wheres_back l h.0) (wheres_back r h.1)
wheres_back (Either l r) h = none_append (where_offenders l) (where_offenders r) (wheres_back l h.0) (wheres_back r h.1)
wheres_back (Where p c) h = none_append (where_offenders p) (outside (among (vars p)) (cond_vars c)) (wheres_back p h.0) (none_outside (among (vars p)) (cond_vars c) h.1)
wheres_back (Exact p q) h = wheres_back p h
wheres_back (Within p q) h = wheres_back p h
wheres_back (Not i b a) h =
    none_append (where_offenders i) (where_offenders b ++ where_offenders a) (wheres_back i h.0)
    (none_append (where_offenders b) (where_offenders a) (wheres_back b h.1) (wheres_back a h.2))

-- ---- OR

pub ors : (may : ℕ → Bool) (p : PlainPattern) → or_offenders may p ≡ [] → AreOrsAlike p × All may (vars p)
ors may (Atom a) e = (tt, outside_none may (atom_vars a) e)
ors may (Both op l r) e =
    let f = append_none (or_offenders may l) (or_offenders may r) e in
    let x = ors may l f.0 in
    let y = ors may r f.1 in
    ((x.0, y.0), all_both may (vars l) (vars r) x.1 y.1)
ors may (Either l r) e =
    let f = append_none (or_offenders (λ s. may s && is_in s (vars r)) l) (or_offenders (λ s. may s && is_in s (vars l)) r) e in
    let x = ors (λ s. may s && is_in s (vars r)) l f.0 in
    let y = ors (λ s. may s && is_in s (vars l)) r f.1 in (
      (x.0, y.0, λ s h. (and_parts (may s) (is_in s (vars r)) (x.1 s h)).1, λ s h. (and_parts (may s) (is_in s (vars l)) (y.1 s h)).1),
      all_both may (vars l) (vars r) (λ s h. (and_parts (may s) (is_in s (vars r)) (x.1 s h)).0) (λ s h. (and_parts (may s) (is_in s (vars l)) (y.1 s h)).0),
    )
ors may (Where p c) e = ors may p e
ors may (Exact p q) e = ors may p e
ors may (Within p q) e = ors may p e
ors may (Not i b a) e =
    let f = append_none (or_offenders (λ s. true) i) (or_offenders may b ++ or_offenders may a) e in
    let g = append_none (or_offenders may b) (or_offenders may a) f.1 in
    let x = ors may b g.0 in
    let y = ors may a g.1 in
    (((ors (λ s. true) i f.0).0, x.0, y.0), all_both may (vars b) (vars a) x.1 y.1)

pub ors_back : (may : ℕ → Bool) (p : PlainPattern) → AreOrsAlike p → All may (vars p) → or_offenders may p ≡ []
ors_back may (Atom a) h m = none_outside may (atom_vars a) m
ors_back may (Both op l r) h m =
    none_append (or_offenders may l) (or_offenders may r) (ors_back may l h.0 (all_left may (vars l) (vars r) m)) (ors_back may r h.1 (all_right may (vars l) (vars r) m))
ors_back may (Either l r) h m =
    none_append (or_offenders (λ s. may s && is_in s (vars r)) l) (or_offenders (λ s. may s && is_in s (vars l)) r)
    (ors_back (λ s. may s && is_in s (vars r)) l h.0 (λ s e. and_from (may s) (is_in s (vars r)) (all_left may (vars l) (vars r) m s e) (h.2 s e)))
    (ors_back (λ s. may s && is_in s (vars l)) r h.1 (λ s e. and_from (may s) (is_in s (vars l)) (all_right may (vars l) (vars r) m s e) (h.3 s e)))
ors_back may (Where p c) h m = ors_back may p h m
ors_back may (Exact p q) h m = ors_back may p h m
ors_back may (Within p q) h m = ors_back may p h m
ors_back may (Not i b a) h m =
    none_append (or_offenders (λ s. true) i) (or_offenders may b ++ or_offenders may a) (ors_back (λ s. true) i h.0 (λ s e. refl))
    (none_append (or_offenders may b) (or_offenders may a) (ors_back may b h.1 (all_left may (vars b) (vars a) m)) (ors_back may a h.2 (all_right may (vars b) (vars a) m)))

-- ---- NOT

pub nots : (may : ℕ → Bool) (p : PlainPattern) → not_offenders may p ≡ [] → AreNotsBound p × All may (vars p)
nots may (Atom a) e = (tt, outside_none may (atom_vars a) e)
nots may (Both op l r) e =
    let f = append_none (not_offenders may l) (not_offenders may r) e in
    let x = nots may l f.0 in
    let y = nots may r f.1 in
    ((x.0, y.0), all_both may (vars l) (vars r) x.1 y.1)
nots may (Either l r) e =
    let f = append_none (not_offenders may l) (not_offenders may r) e in
    let x = nots may l f.0 in
    let y = nots may r f.1 in
    ((x.0, y.0), all_both may (vars l) (vars r) x.1 y.1)
nots may (Where p c) e = nots may p e
nots may (Exact p q) e = nots may p e
nots may (Within p q) e = nots may p e
nots may (Not i b a) e =
    let f = append_none (not_offenders (λ s. is_in s (vars b) || is_in s (vars a)) i) (not_offenders may b ++ not_offenders may a) e in
    let g = append_none (not_offenders may b) (not_offenders may a) f.1 in
    let w = nots (λ s. is_in s (vars b) || is_in s (vars a)) i f.0 in
    let x = nots may b g.0 in
    let y = nots may a g.1 in
    ((w.0, x.0, y.0, λ s h. is_in-append s (vars b) (vars a) ∙ w.1 s h), all_both may (vars b) (vars a) x.1 y.1)

pub nots_back : (may : ℕ → Bool) (p : PlainPattern) → AreNotsBound p → All may (vars p) → not_offenders may p ≡ []
nots_back may (Atom a) h m = none_outside may (atom_vars a) m
nots_back may (Both op l r) h m =
    none_append (not_offenders may l) (not_offenders may r) (nots_back may l h.0 (all_left may (vars l) (vars r) m)) (nots_back may r h.1 (all_right may (vars l) (vars r) m))
nots_back may (Either l r) h m =
    none_append (not_offenders may l) (not_offenders may r) (nots_back may l h.0 (all_left may (vars l) (vars r) m)) (nots_back may r h.1 (all_right may (vars l) (vars r) m))
nots_back may (Where p c) h m = nots_back may p h m
nots_back may (Exact p q) h m = nots_back may p h m
nots_back may (Within p q) h m = nots_back may p h m
nots_back may (Not i b a) h m =
    none_append (not_offenders (λ s. is_in s (vars b) || is_in s (vars a)) i) (not_offenders may b ++ not_offenders may a)
    (nots_back (λ s. is_in s (vars b) || is_in s (vars a)) i h.0 (λ s e. sym (is_in-append s (vars b) (vars a)) ∙ h.3 s e))
    (none_append (not_offenders may b) (not_offenders may a) (nots_back may b h.1 (all_left may (vars b) (vars a) m)) (nots_back may a h.2 (all_right may (vars b) (vars a) m)))

-- ---- rules

pub safe_rule : (number : ℕ) (r : PlainRule) → rule_faults number r ≡ [] → IsSafe r
safe_rule number r e =
    let f = append_none _ _ e in
    let g = append_none _ _ f.1 in
    let h = append_none _ _ g.1 in
    record {
      head_bound = outside_none (among (vars r.body)) (atom_vars r.head) (map_none _ (head_offenders r) f.0);
      wheres_bound = wheres r.body (map_none _ (where_offenders r.body) g.0);
      ors_alike = (ors (λ s. true) r.body (map_none _ (or_offenders (λ s. true) r.body) h.0)).0;
      nots_bound = (nots (λ s. true) r.body (map_none _ (not_offenders (λ s. true) r.body) h.1)).0;
    }

pub safe_rule_back : (number : ℕ) (r : PlainRule) → IsSafe r → rule_faults number r ≡ []
safe_rule_back number r h =
    none_append _ _ (none_map _ (head_offenders r) (none_outside (among (vars r.body)) (atom_vars r.head) h.head_bound))
    (none_append _ _ (none_map _ (where_offenders r.body) (wheres_back r.body h.wheres_bound))
    (none_append _ _ (none_map _ (or_offenders (λ s. true) r.body) (ors_back (λ s. true) r.body h.ors_alike (λ s e. refl)))
    (none_map _ (not_offenders (λ s. true) r.body) (nots_back (λ s. true) r.body h.nots_bound (λ s e. refl)))))

-- no fault in their variables: each keeps its own statements
pub safe_rules : (number : ℕ) (rules : List PlainRule) → variable_faults number rules ≡ [] → AreSafe rules
safe_rules number [] e = tt
safe_rules number (r ∷ rules) e =
    let f = append_none (rule_faults number r) (variable_faults (number + 1) rules) e in
    (safe_rule number r f.0, safe_rules (number + 1) rules f.1)

pub safe_rules_back : (number : ℕ) (rules : List PlainRule) → AreSafe rules → variable_faults number rules ≡ []
safe_rules_back number [] h = refl
safe_rules_back number (r ∷ rules) h =
    none_append (rule_faults number r) (variable_faults (number + 1) rules) (safe_rule_back number r h.0) (safe_rules_back (number + 1) rules h.1)
