-- The variables of shaped rules have names, and so do those that stand where they may not.
use Rattle.std.proofs.Common.{◌≡◌, ℕ, ◌<◌, Bool, true, false, not, ◌||◌, ◌&&◌, cond, nat_lt, nat_le, Option, Some, List, [], ◌∷◌, ◌++◌, length, map, refl, ap, sym, ◌∙◌}
use Rattle.std.specs.List.{list_all, flat_map, filter}
use Rattle.std.proofs.lemmas.Bool.{and_parts, and_from, true≢false}
use Rattle.std.proofs.lemmas.Bool.Decides.{Decides-ltb}
use Rattle.std.proofs.lemmas.List.Folds.{list_all-append}
use Rattle.event_model.specs.declared.terms.Pat.{Pat, out-Pat, roll-Pat, out-roll-Pat}
use Rattle.event_model.specs.declared.terms.Pat.TheOpen.{Pat-F}
use Rattle.event_model.specs.declared.terms.Pat.TheOpen.Pat-F.{Var, Any, Num, Sym, Text, Comp}
use Rattle.event_model.specs.declared.terms.Pat.TheFolds.{fold_out-Pat, map-Pat}
use Rattle.event_model.specs.declared.atoms.PatAtom.{PatAtom}
use Rattle.event_model.proofs.Layers.{Each, args_of, by_layers}
use Rattle.rule_ast.specs.Trees.{PlainCond, Value, Calculate, Compare, AndAlso, OrElse, Negate, PlainPattern, Atom, Both, Either, Where, Exact, Within, Not, PlainRule}
use Rattle.rule_ast.specs.Shaped.{parts_pass, passes, is_argument, is_variable, is_ground, is_head_argument, is_shaped_cond, is_shaped_atom, is_shaped_pattern, is_shaped_head, is_shaped_rule, names_differ, is_length}
use Rattle.rule_ast.specs.Vars.{slots_of, slots_step, slots_at, atom_vars, vars, is_in}
use Rattle.rule_check.specs.Offenders.{first, outside, among, cond_vars, head_offenders, where_offenders, or_offenders, not_offenders}

-- each of these passes
abbrev pub Holds : (ℕ → Bool) → List ℕ → Type 0
Holds f xs = list_all f xs ≡ true

holds-append : (f : ℕ → Bool) (xs ys : List ℕ) → Holds f xs → Holds f ys → Holds f (xs ++ ys)
holds-append f xs ys h g = list_all-append f xs ys ∙ and_from (list_all f xs) (list_all f ys) h g

holds-filter : (f p : ℕ → Bool) (xs : List ℕ) → Holds f xs → Holds f (filter p xs)
holds-filter f p [] h = refl
holds-filter f p (x ∷ xs) h = at (p x) (and_parts (f x) (list_all f xs) h).0 (holds-filter f p xs (and_parts (f x) (list_all f xs) h).1)
  where
    at : (b : Bool) → f x ≡ true → Holds f (filter p xs) → Holds f (cond b (x ∷ filter p xs) (filter p xs))
    at true e g = and_from (f x) (list_all f (filter p xs)) e g
    at false e g = g

-- what passes no test has no variables
holds_none : (f : ℕ → Bool) (xs : List ℕ) → Holds (λ s. false) xs → Holds f xs
holds_none f [] h = refl
holds_none f (x ∷ xs) h = absurd (true≢false (sym h))

-- ---- arguments

module _ (f : ℕ → Bool) (any : Bool) where
  passes_at : (p : Pat) {x : Pat-F Pat} → out-Pat p ≡ x → passes f any p ≡ parts_pass f any (map-Pat Pat Bool (passes f any) x)
  unfolding passes
  passes_at p e = fold_out-Pat Bool (parts_pass f any) p ∙ ap (λ x. parts_pass f any (map-Pat Pat Bool (passes f any) x)) e

  -- an argument that passes has variables that pass
  abbrev Held : Pat → Type 0
  Held p = passes f any p ≡ true → Holds f (slots_of p)

  all_args : (ps : List Pat) → Each Held ps → list_all (λ b. b) (map (passes f any) ps) ≡ true → Holds f (flat_map (λ slots. slots) (map slots_of ps))
  all_args [] h e = refl
  all_args (p ∷ ps) h e =
      let parts = and_parts (passes f any p) (list_all (λ b. b) (map (passes f any) ps)) e in
      holds-append f (slots_of p) (flat_map (λ slots. slots) (map slots_of ps)) (h.0 parts.0) (all_args ps h.1 parts.1)

  layer : (a : Pat-F Pat) → Each Held (args_of a) → parts_pass f any (map-Pat Pat Bool (passes f any) a) ≡ true → Holds f (slots_step (map-Pat Pat (List ℕ) slots_of a))
  layer (Var slot) h e = and_from (f slot) true e refl
  layer Any h e = refl
  layer (Num n) h e = refl
  layer (Sym s) h e = refl
  layer (Text s) h e = refl
  layer (Comp name ps) h e = all_args ps h e

  pub held : (p : Pat) → Held p
  held = by_layers Held (λ a h e.
      ap (list_all f) (slots_at (roll-Pat a) (out-roll-Pat a)) ∙ layer a h (sym (passes_at (roll-Pat a) (out-roll-Pat a)) ∙ e))

pub held_args : (f : ℕ → Bool) (ps : List Pat) → list_all (λ p. passes f true p) ps ≡ true → Holds f (flat_map slots_of ps)
held_args f [] e = refl
held_args f (p ∷ ps) e =
    let parts = and_parts (passes f true p) (list_all (λ p. passes f true p) ps) e in
    holds-append f (slots_of p) (flat_map slots_of ps) (held f true p parts.0) (held_args f ps parts.1)

-- ---- conditions and patterns

module _ (vars_count : ℕ) where
  abbrev named : ℕ → Bool
  named s = nat_lt s vars_count

  pub cond_named : (c : PlainCond) → is_shaped_cond vars_count c ≡ true → Holds named (cond_vars c)
  cond_named (Value p) e = held named false p e
  cond_named (Calculate calc l r) e = let h = and_parts (is_shaped_cond vars_count l) (is_shaped_cond vars_count r) e in holds-append named (cond_vars l) (cond_vars r) (cond_named l h.0) (cond_named r h.1)
  cond_named (Compare cmp l r) e = let h = and_parts (is_shaped_cond vars_count l) (is_shaped_cond vars_count r) e in holds-append named (cond_vars l) (cond_vars r) (cond_named l h.0) (cond_named r h.1)
  cond_named (AndAlso l r) e = let h = and_parts (is_shaped_cond vars_count l) (is_shaped_cond vars_count r) e in holds-append named (cond_vars l) (cond_vars r) (cond_named l h.0) (cond_named r h.1)
  cond_named (OrElse l r) e = let h = and_parts (is_shaped_cond vars_count l) (is_shaped_cond vars_count r) e in holds-append named (cond_vars l) (cond_vars r) (cond_named l h.0) (cond_named r h.1)
  cond_named (Negate c) e = cond_named c e

  -- what holds of every pattern
  pub wheres_named : (p : PlainPattern) → is_shaped_pattern vars_count p ≡ true → Holds named (where_offenders p)
  wheres_named (Atom a) e = refl
  wheres_named (Both op l r) e = let h = and_parts (is_shaped_pattern vars_count l) (is_shaped_pattern vars_count r) e in holds-append named (where_offenders l) (where_offenders r) (wheres_named l h.0) (wheres_named r h.1)
  wheres_named (Either l r) e = let h = and_parts (is_shaped_pattern vars_count l) (is_shaped_pattern vars_count r) e in holds-append named (where_offenders l) (where_offenders r) (wheres_named l h.0) (wheres_named r h.1)
  wheres_named (Where p c) e =
      let h = and_parts (is_shaped_pattern vars_count p) (is_shaped_cond vars_count c) e in
      holds-append named (where_offenders p) (outside (among (vars p)) (cond_vars c)) (wheres_named p h.0) (holds-filter named (λ s. not (among (vars p) s)) (cond_vars c) (cond_named c h.1))
  wheres_named (Exact p q) e = wheres_named p (and_parts (is_shaped_pattern vars_count p) (is_length q) e).0
  wheres_named (Within p q) e = wheres_named p (and_parts (is_shaped_pattern vars_count p) (is_length q) e).0
  wheres_named (Not i b a) e =
      let h = and_parts (is_shaped_pattern vars_count i) (is_shaped_pattern vars_count b && is_shaped_pattern vars_count a) e in
      let g = and_parts (is_shaped_pattern vars_count b) (is_shaped_pattern vars_count a) h.1 in
      holds-append named (where_offenders i) (where_offenders b ++ where_offenders a) (wheres_named i h.0)
      (holds-append named (where_offenders b) (where_offenders a) (wheres_named b g.0) (wheres_named a g.1))

  atom_named : (may : ℕ → Bool) (a : PatAtom) → is_shaped_atom vars_count a ≡ true → Holds named (outside may (atom_vars a))
  atom_named may a e = holds-filter named (λ s. not (may s)) (atom_vars a) (held_args named a.args (and_parts (nat_le (length a.args) 16) (list_all (is_argument vars_count) a.args) e).1)

  pub ors_named : (may : ℕ → Bool) (p : PlainPattern) → is_shaped_pattern vars_count p ≡ true → Holds named (or_offenders may p)
  ors_named may (Atom a) e = atom_named may a e
  ors_named may (Both op l r) e = let h = and_parts (is_shaped_pattern vars_count l) (is_shaped_pattern vars_count r) e in holds-append named (or_offenders may l) (or_offenders may r) (ors_named may l h.0) (ors_named may r h.1)
  ors_named may (Either l r) e =
      let h = and_parts (is_shaped_pattern vars_count l) (is_shaped_pattern vars_count r) e in
      holds-append named (or_offenders (λ s. may s && is_in s (vars r)) l) (or_offenders (λ s. may s && is_in s (vars l)) r)
      (ors_named (λ s. may s && is_in s (vars r)) l h.0) (ors_named (λ s. may s && is_in s (vars l)) r h.1)
  ors_named may (Where p c) e = ors_named may p (and_parts (is_shaped_pattern vars_count p) (is_shaped_cond vars_count c) e).0
  ors_named may (Exact p q) e = ors_named may p (and_parts (is_shaped_pattern vars_count p) (is_length q) e).0
  ors_named may (Within p q) e = ors_named may p (and_parts (is_shaped_pattern vars_count p) (is_length q) e).0
  ors_named may (Not i b a) e =
      let h = and_parts (is_shaped_pattern vars_count i) (is_shaped_pattern vars_count b && is_shaped_pattern vars_count a) e in
      let g = and_parts (is_shaped_pattern vars_count b) (is_shaped_pattern vars_count a) h.1 in
      holds-append named (or_offenders (λ s. true) i) (or_offenders may b ++ or_offenders may a) (ors_named (λ s. true) i h.0)
      (holds-append named (or_offenders may b) (or_offenders may a) (ors_named may b g.0) (ors_named may a g.1))

  pub nots_named : (may : ℕ → Bool) (p : PlainPattern) → is_shaped_pattern vars_count p ≡ true → Holds named (not_offenders may p)
  nots_named may (Atom a) e = atom_named may a e
  nots_named may (Both op l r) e = let h = and_parts (is_shaped_pattern vars_count l) (is_shaped_pattern vars_count r) e in holds-append named (not_offenders may l) (not_offenders may r) (nots_named may l h.0) (nots_named may r h.1)
  nots_named may (Either l r) e = let h = and_parts (is_shaped_pattern vars_count l) (is_shaped_pattern vars_count r) e in holds-append named (not_offenders may l) (not_offenders may r) (nots_named may l h.0) (nots_named may r h.1)
  nots_named may (Where p c) e = nots_named may p (and_parts (is_shaped_pattern vars_count p) (is_shaped_cond vars_count c) e).0
  nots_named may (Exact p q) e = nots_named may p (and_parts (is_shaped_pattern vars_count p) (is_length q) e).0
  nots_named may (Within p q) e = nots_named may p (and_parts (is_shaped_pattern vars_count p) (is_length q) e).0
  nots_named may (Not i b a) e =
      let h = and_parts (is_shaped_pattern vars_count i) (is_shaped_pattern vars_count b && is_shaped_pattern vars_count a) e in
      let g = and_parts (is_shaped_pattern vars_count b) (is_shaped_pattern vars_count a) h.1 in
      holds-append named (not_offenders (λ s. is_in s (vars b) || is_in s (vars a)) i) (not_offenders may b ++ not_offenders may a) (nots_named (λ s. is_in s (vars b) || is_in s (vars a)) i h.0)
      (holds-append named (not_offenders may b) (not_offenders may a) (nots_named may b g.0) (nots_named may a g.1))

  -- ---- heads

  variable_named : (p : Pat) (x : Pat-F Pat) → out-Pat p ≡ x → is_variable vars_count x ≡ true → Holds named (slots_of p)
  variable_named p (Var slot) is e = ap (list_all named) (slots_at p is) ∙ and_from (named slot) true e refl
  variable_named p Any is e = absurd (true≢false (sym e))
  variable_named p (Num n) is e = absurd (true≢false (sym e))
  variable_named p (Sym s) is e = absurd (true≢false (sym e))
  variable_named p (Text s) is e = absurd (true≢false (sym e))
  variable_named p (Comp f ps) is e = absurd (true≢false (sym e))

  head_argument_named : (p : Pat) → is_head_argument vars_count p ≡ true → Holds named (slots_of p)
  head_argument_named p e = at (is_variable vars_count (out-Pat p)) refl e
    where
      at : (b : Bool) → is_variable vars_count (out-Pat p) ≡ b → (b || is_ground p) ≡ true → Holds named (slots_of p)
      at true is e = variable_named p (out-Pat p) refl is
      at false is e = holds_none named (slots_of p) (held (λ s. false) false p e)

  head_args_named : (ps : List Pat) → list_all (is_head_argument vars_count) ps ≡ true → Holds named (flat_map slots_of ps)
  head_args_named [] e = refl
  head_args_named (p ∷ ps) e =
      let parts = and_parts (is_head_argument vars_count p) (list_all (is_head_argument vars_count) ps) e in
      holds-append named (slots_of p) (flat_map slots_of ps) (head_argument_named p parts.0) (head_args_named ps parts.1)

  pub first_named : (xs : List ℕ) (s : ℕ) → Holds named xs → first xs ≡ Some s → s < vars_count
  first_named [] s h e = cc
  first_named (x ∷ xs) s h e = let same : x ≡ s = cc in (Decides-ltb s vars_count).0 (sym (ap named same) ∙ (and_parts (named x) (list_all named xs) h).0)

-- ---- rules

pub record Named (r : PlainRule) : Type 0 where
  pub heads : Holds (named (length r.vars)) (head_offenders r)
  pub wheres : Holds (named (length r.vars)) (where_offenders r.body)
  pub ors : Holds (named (length r.vars)) (or_offenders (λ s. true) r.body)
  pub nots : Holds (named (length r.vars)) (not_offenders (λ s. true) r.body)

pub rule_named : (r : PlainRule) → is_shaped_rule r ≡ true → Named r
rule_named r e =
    let n = length r.vars in
    let parts = and_parts (nat_le n 64 && names_differ r.vars) (is_shaped_head n r.head && is_shaped_pattern n r.body) e in
    let both = and_parts (is_shaped_head n r.head) (is_shaped_pattern n r.body) parts.1 in
    let args = and_parts (nat_le (length r.head.args) 16) (list_all (is_head_argument n) r.head.args) both.0 in
    record {
      heads = holds-filter (named n) (λ s. not (among (vars r.body) s)) (atom_vars r.head) (head_args_named n r.head.args args.1);
      wheres = wheres_named n r.body both.1;
      ors = ors_named n (λ s. true) r.body both.1;
      nots = nots_named n (λ s. true) r.body both.1;
    }

pub offender_named : (xs : List ℕ) (n s : ℕ) (o : Option ℕ) → o ≡ first xs → o ≡ Some s → Holds (named n) xs → s < n
offender_named xs n s o e is h = first_named n xs s h (sym e ∙ is)
