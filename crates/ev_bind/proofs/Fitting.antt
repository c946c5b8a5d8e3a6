-- Matching finds the one binding that fits.
use Rattle.std.proofs.Common.{ℕ, ℤ, inl, inr, ◌⊎◌, ◌<◌, ◌≡◌, refl, ap, sym, ◌∙◌, subst, arith, Bool, true, false, cond, not, ◌&&◌, ◌||◌, Option, Some, None, List, [], ◌∷◌, map}
use Rattle.std.specs.Prelude.{◌==◌, nat_lt, is_some, if◌then◌else◌}
use Rattle.std.specs.Option.{option_and_then}
use Rattle.std.specs.List.{list_all, list_any}
use Rattle.std.specs.Str.{bytes_eq}
use Rattle.std.specs.Ordering.{is_eq, nat_cmp, int_eq, ordering_then, MatchOrdering}
use Rattle.std.specs.Cmp.{tied_itself, ranks}
use Rattle.std.specs.declared.cmp.Ordering.{Ordering}
use Rattle.std.specs.declared.cmp.Ordering.TheVariants.{Less, Equal, Greater}
use Rattle.std.proofs.lemmas.Bool.{true≢false, and_parts, and_right, or_cases, or_left, or_right, eq-eqb, eqb-true, ne_eqb, ltb-true}
use Rattle.std.proofs.lemmas.List.Folds.{list_all-append, list_any-append}
use Rattle.std.proofs.lemmas.Slice.Eq.{bytes_eq-Decides}
use Rattle.std.proofs.lemmas.Bool.Decides.{Decides-int_eq}
use Rattle.ordered_lists.specs.Canon.{canon, has, has-canon}
use Rattle.ordered_lists.specs.Members.{list_any-canon, list_any-map}
use Rattle.event_model.specs.TermOrder.{term_cmp, exact_terms}
use Rattle.event_model.specs.declared.terms.Term.{Term, out-Term, roll-Term, roll-out-Term}
use Rattle.event_model.specs.declared.terms.Term.TheOpen.{Term-F}
use Rattle.event_model.specs.declared.terms.Term.TheOpen.Term-F.{Num as TNum, Sym as TSym, Text as TText, Comp as TComp}
use Rattle.event_model.specs.declared.terms.Term.TheVariants as made
use Rattle.event_model.specs.declared.terms.Pat.{Pat, roll-Pat, out-roll-Pat}
use Rattle.event_model.specs.declared.terms.Pat.TheOpen.{Pat-F}
use Rattle.event_model.specs.declared.terms.Pat.TheOpen.Pat-F.{Var, Any, Num, Sym, Text, Comp}
use Rattle.event_model.specs.declared.terms.Pat.TheFolds.{map-Pat}
use Rattle.event_model.specs.declared.atoms.Atom.{Atom}
use Rattle.event_model.specs.declared.atoms.PatAtom.{PatAtom}
use Rattle.event_model.proofs.Layers.{Each, args_of, by_layers}
use Rattle.ev_bind.specs.Bindings.{Pair, Pairs, pair_cmp, alike, single, union_of, IsBinding, value_at, exact_pairs, all_has, has_all, union_same, union_of-itself, IsBinding-canon}
use Rattle.ev_bind.specs.Matching.{with_pairs, pairs_of_all, number_pairs, symbol_pairs, text_pairs, compound_pairs, pairs_step, pairs_of, pairs_at, match_of}
use Rattle.ev_bind.specs.Fits.{same, is_value, all_fit, is_compound, fits_step, fits, fits_at, occurs_step, occurs, occurs_at, Matches}
use Rattle.ev_bind.proofs.Adding.{climbs, climbs_of}
use Rattle.ev_bind.specs.Projections.{tie}
use Rattle.ev_bind.specs.Bindings.{same_Bool}

-- ---- values and pairs

turned : (s t : Term) → same s t ≡ true → same t s ≡ true
turned s t e = ap is_eq (ap (term_cmp t) (exact_terms.same s t (tie (term_cmp s t) e)) ∙ tied_itself exact_terms.total t)

pub itself : (t : Term) → same t t ≡ true
itself t = ap is_eq (tied_itself exact_terms.total t)

has_itself : (q : Pair) → is_eq (pair_cmp q q) ≡ true
has_itself q = ap is_eq (tied_itself exact_pairs.total q)

pub has_value : (b : Pairs) → climbs b ≡ true → (slot : ℕ) (t : Term) → has pair_cmp (slot, t) b ≡ is_value (value_at b slot) t
has_value [] c slot t = refl
has_value (p ∷ b) c slot t = at (nat_cmp slot p.0) (ranks slot p.0) (has_value b parts.1 slot t)
  where
    parts : (list_all (λ r. nat_lt p.0 r.0) b ≡ true) × (climbs b ≡ true)
    parts = and_parts (list_all (λ r. nat_lt p.0 r.0) b) (climbs b) c

    further : (p.0 ≡ slot → ⊥) → is_value (value_at b slot) t ≡ is_value (cond (p.0 == slot) (Some p.1) (value_at b slot)) t
    further n = sym (ap (λ e. is_value (cond e (Some p.1) (value_at b slot)) t) (ne_eqb p.0 slot n))

    at : (c : Ordering) → MatchOrdering c (slot < p.0) (slot ≡ p.0) (p.0 < slot) → has pair_cmp (slot, t) b ≡ is_value (value_at b slot) t
        → (is_eq (ordering_then c (term_cmp t p.1)) || has pair_cmp (slot, t) b) ≡ is_value (cond (p.0 == slot) (Some p.1) (value_at b slot)) t
    at Less m more = more ∙ further (λ e. absurd (omega (arith, m, e)))
    at Greater m more = more ∙ further (λ e. absurd (omega (arith, m, e)))
    at Equal m more = same_Bool (same t p.1 || has pair_cmp (slot, t) b) (same p.1 t)
        (λ h. elim (or_cases (same t p.1) (has pair_cmp (slot, t) b) h) [
          | inl e ↦ turned t p.1 e
          | inr e ↦ absurd (omega (arith, m, ltb-true p.0 slot (all_has exact_pairs (λ r. nat_lt p.0 r.0) b parts.0 (slot, t) e)))
        ])
        (λ h. or_left (same t p.1) (has pair_cmp (slot, t) b) (turned p.1 t h))
        ∙ sym (ap (λ e. is_value (cond e (Some p.1) (value_at b slot)) t) (eq-eqb p.0 slot (sym m)))

is_bound : (b : Pairs) (slot : ℕ) → is_some (value_at b slot) ≡ list_any (λ q. q.0 == slot) b
is_bound [] slot = refl
is_bound (p ∷ b) slot = at (p.0 == slot) (is_bound b slot)
  where
    at : (t : Bool) → is_some (value_at b slot) ≡ list_any (λ q. q.0 == slot) b → is_some (cond t (Some p.1) (value_at b slot)) ≡ (t || list_any (λ q. q.0 == slot) b)
    at true e = refl
    at false e = e

-- ---- pairs that a binding has

abbrev within : Pairs → Option Pairs → Bool
within b None = false
within b (Some xs) = list_all (λ q. has pair_cmp q b) xs

within_with : (b : Pairs) (x y : Option Pairs) → within b (with_pairs x y) ≡ (within b x && within b y)
within_with b None y = refl
within_with b (Some xs) None = sym (and_right (list_all (λ q. has pair_cmp q b) xs) false refl)
within_with b (Some xs) (Some ys) = list_all-append (λ q. has pair_cmp q b) xs ys

pub none_some : {X : Type 0} {v : X} → None ≡ Some v → ⊥
none_some e = cc

-- a constant
constant : (b : Pairs) (f : Term-F Term → Option Pairs) (c : Term) → f (out-Term c) ≡ Some [] → ((x : Term-F Term) → (f x ≡ None) ⊎ ((f x ≡ Some []) × (roll-Term x ≡ c)))
    → (t : Term) → within b (f (out-Term t)) ≡ same c t
constant b f c own others t = elim (others (out-Term t)) [
  | inl e ↦ ap (within b) e ∙ same_Bool false (same c t) (λ h. absurd (true≢false (sym h))) (λ h. absurd (none_some (sym e ∙ ap (λ s. f (out-Term s)) (sym (exact_terms.same c t (tie (term_cmp c t) h))) ∙ own)))
  | inr e ↦ ap (within b) e.0 ∙ sym (ap (same c) (sym (roll-out-Term t) ∙ e.1) ∙ itself c)
]

rolled-Num : (n : ℤ) → roll-Term (TNum n) ≡ made.Num n
rolled-Num n = ap roll-Term (sym (made.outs-Num n)) ∙ roll-out-Term (made.Num n)

rolled-Sym : (s : List ℕ) → roll-Term (TSym s) ≡ made.Sym s
rolled-Sym s = ap roll-Term (sym (made.outs-Sym s)) ∙ roll-out-Term (made.Sym s)

rolled-Text : (s : List ℕ) → roll-Term (TText s) ≡ made.Text s
rolled-Text s = ap roll-Term (sym (made.outs-Text s)) ∙ roll-out-Term (made.Text s)

abbrev told : Bool → Option Pairs
told t = if t then Some [] else None

number : (b : Pairs) (n : ℤ) (t : Term) → within b (number_pairs n (out-Term t)) ≡ same (made.Num n) t
number b n = constant b (number_pairs n) (made.Num n) (ap (number_pairs n) (made.outs-Num n) ∙ ap told ((Decides-int_eq n n).1 refl)) others
  where
    others : (x : Term-F Term) → (number_pairs n x ≡ None) ⊎ ((number_pairs n x ≡ Some []) × (roll-Term x ≡ made.Num n))
    others (TNum m) = at (int_eq n m) refl
      where
        at : (t : Bool) → int_eq n m ≡ t → (told t ≡ None) ⊎ ((told t ≡ Some []) × (roll-Term (TNum m) ≡ made.Num n))
        at true e = inr (refl, rolled-Num m ∙ ap made.Num (sym ((Decides-int_eq n m).0 e)))
        at false e = inl refl
    others (TSym s) = inl refl
    others (TText s) = inl refl
    others (TComp f ts) = inl refl

symbol : (b : Pairs) (n : List ℕ) (t : Term) → within b (symbol_pairs n (out-Term t)) ≡ same (made.Sym n) t
symbol b n = constant b (symbol_pairs n) (made.Sym n) (ap (symbol_pairs n) (made.outs-Sym n) ∙ ap told ((bytes_eq-Decides n n).1 refl)) others
  where
    others : (x : Term-F Term) → (symbol_pairs n x ≡ None) ⊎ ((symbol_pairs n x ≡ Some []) × (roll-Term x ≡ made.Sym n))
    others (TNum m) = inl refl
    others (TSym s) = at (bytes_eq n s) refl
      where
        at : (t : Bool) → bytes_eq n s ≡ t → (told t ≡ None) ⊎ ((told t ≡ Some []) × (roll-Term (TSym s) ≡ made.Sym n))
        at true e = inr (refl, rolled-Sym s ∙ ap made.Sym (sym ((bytes_eq-Decides n s).0 e)))
        at false e = inl refl
    others (TText s) = inl refl
    others (TComp f ts) = inl refl

text : (b : Pairs) (n : List ℕ) (t : Term) → within b (text_pairs n (out-Term t)) ≡ same (made.Text n) t
text b n = constant b (text_pairs n) (made.Text n) (ap (text_pairs n) (made.outs-Text n) ∙ ap told ((bytes_eq-Decides n n).1 refl)) others
  where
    others : (x : Term-F Term) → (text_pairs n x ≡ None) ⊎ ((text_pairs n x ≡ Some []) × (roll-Term x ≡ made.Text n))
    others (TNum m) = inl refl
    others (TSym s) = inl refl
    others (TText s) = at (bytes_eq n s) refl
      where
        at : (t : Bool) → bytes_eq n s ≡ t → (told t ≡ None) ⊎ ((told t ≡ Some []) × (roll-Term (TText s) ≡ made.Text n))
        at true e = inr (refl, rolled-Text s ∙ ap made.Text (sym ((bytes_eq-Decides n s).0 e)))
        at false e = inl refl
    others (TComp f ts) = inl refl

-- ---- an argument fits exactly where the binding has its pairs

module _ (b : Pairs) (h : IsBinding b) where
  abbrev Agrees : Pat → Type 0
  Agrees p = (t : Term) → within b (pairs_of p t) ≡ fits b p t

  each_agrees : (ps : List Pat) → Each Agrees ps → (ts : List Term) → within b (pairs_of_all (map pairs_of ps) ts) ≡ all_fit (map (fits b) ps) ts
  each_agrees [] e [] = refl
  each_agrees [] e (t ∷ ts) = refl
  each_agrees (p ∷ ps) e [] = refl
  each_agrees (p ∷ ps) e (t ∷ ts) = within_with b (pairs_of p t) (pairs_of_all (map pairs_of ps) ts) ∙ (λ i. e.0 t i && each_agrees ps e.1 ts i)

  compound : (name : List ℕ) (ps : List Pat) → Each Agrees ps → (x : Term-F Term) → within b (compound_pairs name (map pairs_of ps) x) ≡ is_compound name (map (fits b) ps) x
  compound name ps e (TNum n) = refl
  compound name ps e (TSym s) = refl
  compound name ps e (TText s) = refl
  compound name ps e (TComp f ts) = at (bytes_eq name f) (each_agrees ps e ts)
    where
      at : (t : Bool) → within b (pairs_of_all (map pairs_of ps) ts) ≡ all_fit (map (fits b) ps) ts
          → within b (if t then pairs_of_all (map pairs_of ps) ts else None) ≡ (t && all_fit (map (fits b) ps) ts)
      at true e = e
      at false e = refl

  layer_agrees : (a : Pat-F Pat) → Each Agrees (args_of a) → (t : Term) → within b (pairs_step (map-Pat Pat (Term → Option Pairs) pairs_of a) t) ≡ fits_step b (map-Pat Pat (Term → Bool) (fits b) a) t
  layer_agrees (Var slot) e t = and_true (has pair_cmp (slot, t) b) ∙ has_value b (climbs_of b h.rising h.one_value) slot t
    where
      and_true : (t : Bool) → (t && true) ≡ t
      and_true true = refl
      and_true false = refl
  layer_agrees Any e t = refl
  layer_agrees (Num n) e t = number b n t
  layer_agrees (Sym name) e t = symbol b name t
  layer_agrees (Text name) e t = text b name t
  layer_agrees (Comp name ps) e t = compound name ps e (out-Term t)

  agrees : (p : Pat) → Agrees p
  agrees = by_layers Agrees (λ a e t.
      ap (λ f. within b (f t)) (pairs_at (roll-Pat a) (out-roll-Pat a)) ∙ layer_agrees a e t ∙ sym (ap (λ f. f t) (fits_at b (roll-Pat a) (out-roll-Pat a))))

  all_agree : (ps : List Pat) → Each Agrees ps
  all_agree [] = tt
  all_agree (p ∷ ps) = (agrees p, all_agree ps)

-- ---- the slots of an argument's pairs are its variables

abbrev Covers : Option Pairs → ℕ → Bool → Type 0
Covers None slot t = Unit {0}
Covers (Some xs) slot t = list_any (λ q. q.0 == slot) xs ≡ t

covers_with : (x y : Option Pairs) (slot : ℕ) (s t : Bool) → Covers x slot s → Covers y slot t → Covers (with_pairs x y) slot (s || t)
covers_with None y slot s t e f = tt
covers_with (Some xs) None slot s t e f = tt
covers_with (Some xs) (Some ys) slot s t e f = list_any-append (λ q. q.0 == slot) xs ys ∙ (λ i. e i || f i)

abbrev Covered : ℕ → Pat → Type 0
Covered slot p = (t : Term) → Covers (pairs_of p t) slot (occurs slot p)

each_covered : (slot : ℕ) (ps : List Pat) → Each (Covered slot) ps → (ts : List Term) → Covers (pairs_of_all (map pairs_of ps) ts) slot (list_any (occurs slot) ps)
each_covered slot [] e [] = refl
each_covered slot [] e (t ∷ ts) = tt
each_covered slot (p ∷ ps) e [] = tt
each_covered slot (p ∷ ps) e (t ∷ ts) = covers_with (pairs_of p t) (pairs_of_all (map pairs_of ps) ts) slot (occurs slot p) (list_any (occurs slot) ps) (e.0 t) (each_covered slot ps e.1 ts)

covers_told : (t : Bool) (slot : ℕ) → Covers (told t) slot false
covers_told true slot = refl
covers_told false slot = tt

layer_covered : (slot : ℕ) (a : Pat-F Pat) → Each (Covered slot) (args_of a) → (t : Term) → Covers (pairs_step (map-Pat Pat (Term → Option Pairs) pairs_of a) t) slot (occurs_step slot (map-Pat Pat Bool (occurs slot) a))
layer_covered slot (Var s) e t = or_false (s == slot)
  where
    or_false : (t : Bool) → (t || false) ≡ t
    or_false true = refl
    or_false false = refl
layer_covered slot Any e t = refl
layer_covered slot (Num n) e t = at (out-Term t)
  where
    at : (x : Term-F Term) → Covers (number_pairs n x) slot false
    at (TNum m) = covers_told (int_eq n m) slot
    at (TSym s) = tt
    at (TText s) = tt
    at (TComp f ts) = tt
layer_covered slot (Sym n) e t = at (out-Term t)
  where
    at : (x : Term-F Term) → Covers (symbol_pairs n x) slot false
    at (TNum m) = tt
    at (TSym s) = covers_told (bytes_eq n s) slot
    at (TText s) = tt
    at (TComp f ts) = tt
layer_covered slot (Text n) e t = at (out-Term t)
  where
    at : (x : Term-F Term) → Covers (text_pairs n x) slot false
    at (TNum m) = tt
    at (TSym s) = tt
    at (TText s) = covers_told (bytes_eq n s) slot
    at (TComp f ts) = tt
layer_covered slot (Comp name ps) e t = at (out-Term t)
  where
    named : (u : Bool) (ts : List Term) → Covers (pairs_of_all (map pairs_of ps) ts) slot (list_any (occurs slot) ps) → Covers (if u then pairs_of_all (map pairs_of ps) ts else None) slot (list_any (occurs slot) ps)
    named true ts f = f
    named false ts f = tt

    at : (x : Term-F Term) → Covers (compound_pairs name (map pairs_of ps) x) slot (list_any (λ p. p) (map (occurs slot) ps))
    at (TNum m) = tt
    at (TSym s) = tt
    at (TText s) = tt
    at (TComp f ts) = subst (Covers (compound_pairs name (map pairs_of ps) (TComp f ts)) slot) (sym (list_any-map (λ p. p) (occurs slot) ps))
        (named (bytes_eq name f) ts (each_covered slot ps e ts))

covered : (slot : ℕ) (p : Pat) → Covered slot p
covered slot = by_layers (Covered slot) (λ a e t.
    let P : Option Pairs × Bool → Type 0 = λ z. Covers z.0 slot z.1 in
    let pairs = sym (pairs_at (roll-Pat a) (out-roll-Pat a)) in
    let variables = sym (occurs_at slot (roll-Pat a) (out-roll-Pat a)) in
    subst P (λ i. (pairs i t, variables i)) (layer_covered slot a e t))

all_covered : (slot : ℕ) (ps : List Pat) → Each (Covered slot) ps
all_covered slot [] = tt
all_covered slot (p ∷ ps) = (covered slot p, all_covered slot ps)

-- ---- the law

pub found : (p : PatAtom) (a : Atom) (b : Pairs) → match_of p a ≡ Some b → Matches p a b
found p a b e = at (bytes_eq p.name a.name) refl (pairs_of_all (map pairs_of p.args) a.args) refl e
  where
    from : (xs : Pairs) → p.name ≡ a.name → pairs_of_all (map pairs_of p.args) a.args ≡ Some xs → (s : Bool) → single xs ≡ s → cond s (Some (canon pair_cmp xs)) None ≡ Some b → Matches p a b
    from xs n x false s e = absurd (none_some e)
    from xs n x true s e =
        let is : canon pair_cmp xs ≡ b = cc in
        let whole : IsBinding b = subst IsBinding is (IsBinding-canon xs s) in
        record {
          binding = whole;
          name = n;
          args = sym (each_agrees b whole p.args (all_agree b whole p.args) a.args) ∙ ap (within b) x
              ∙ has_all exact_pairs (λ q. has pair_cmp q b) xs (λ q g. ap (has pair_cmp q) (sym is) ∙ has-canon exact_pairs q xs ∙ g);
          slots = λ slot. is_bound b slot ∙ ap (list_any (λ q. q.0 == slot)) (sym is) ∙ list_any-canon exact_pairs (λ q. q.0 == slot) xs
              ∙ (let P : Option Pairs → Type 0 = λ o. Covers o slot (list_any (occurs slot) p.args) in subst P x (each_covered slot p.args (all_covered slot p.args) a.args));
        }

    at : (n : Bool) → bytes_eq p.name a.name ≡ n → (o : Option Pairs) → pairs_of_all (map pairs_of p.args) a.args ≡ o → (if n then option_and_then union_of o else None) ≡ Some b → Matches p a b
    at false n o x e = absurd (none_some e)
    at true n None x e = absurd (none_some e)
    at true n (Some xs) x e = from xs ((bytes_eq-Decides p.name a.name).0 n) x (single xs) refl e

-- a pair at a slot
at_slot : (xs : Pairs) (slot : ℕ) → list_any (λ q. q.0 == slot) xs ≡ true → (r : Pair) × ((has pair_cmp r xs ≡ true) × (r.0 ≡ slot))
at_slot [] slot e = absurd (true≢false (sym e))
at_slot (x ∷ xs) slot e = elim (or_cases (x.0 == slot) (list_any (λ q. q.0 == slot) xs) e) [
  | inl f ↦ (x, (or_left (is_eq (pair_cmp x x)) (has pair_cmp x xs) (has_itself x), eqb-true x.0 slot f))
  | inr f ↦ (let r = at_slot xs slot f in (r.0, (or_right (is_eq (pair_cmp r.0 x)) (has pair_cmp r.0 xs) r.1.0, r.1.1)))
]

has_slot : (xs : Pairs) (q : Pair) → has pair_cmp q xs ≡ true → list_any (λ r. r.0 == q.0) xs ≡ true
has_slot [] q e = absurd (true≢false (sym e))
has_slot (x ∷ xs) q e = elim (or_cases (is_eq (pair_cmp q x)) (has pair_cmp q xs) e) [
  | inl f ↦ or_left (x.0 == q.0) (list_any (λ r. r.0 == q.0) xs) (eq-eqb x.0 q.0 (ap (λ r. r.0) (sym (exact_pairs.same q x (tie (pair_cmp q x) f)))))
  | inr f ↦ or_right (x.0 == q.0) (list_any (λ r. r.0 == q.0) xs) (has_slot xs q f)
]

-- two pairs of a binding at one slot are one
pub one_pair : (b : Pairs) → single b ≡ true → (q r : Pair) → has pair_cmp q b ≡ true → has pair_cmp r b ≡ true → r.0 ≡ q.0 → r ≡ q
one_pair b s q r e f slots = λ i. (slots i, exact_terms.same r.1 q.1 (tie (term_cmp r.1 q.1) values) i)
  where
    alike_pairs : alike r q ≡ true
    alike_pairs = all_has exact_pairs (alike r) b (all_has exact_pairs (λ p. list_all (alike p) b) b s r f) q e

    values : is_eq (term_cmp r.1 q.1) ≡ true
    values = sym (ap (λ t. not t || is_eq (term_cmp r.1 q.1)) (eq-eqb r.0 q.0 slots)) ∙ alike_pairs

pub complete : (p : PatAtom) (a : Atom) (b : Pairs) → Matches p a b → match_of p a ≡ Some b
complete p a b m = ap (λ t. if t then option_and_then union_of all else None) ((bytes_eq-Decides p.name a.name).1 m.name) ∙ at all refl
  where
    all : Option Pairs
    all = pairs_of_all (map pairs_of p.args) a.args

    at : (o : Option Pairs) → all ≡ o → option_and_then union_of o ≡ Some b
    at None x = absurd (true≢false (sym (each_agrees b m.binding p.args (all_agree b m.binding p.args) a.args ∙ m.args) ∙ ap (within b) x))
    at (Some xs) x = union_same xs b (λ q. same_Bool (has pair_cmp q xs) (has pair_cmp q b) (all_has exact_pairs (λ q. has pair_cmp q b) xs inside q) (back q)) ∙ union_of-itself b m.binding
      where
        inside : list_all (λ q. has pair_cmp q b) xs ≡ true
        inside = ap (within b) (sym x) ∙ each_agrees b m.binding p.args (all_agree b m.binding p.args) a.args ∙ m.args

        slots_same : (slot : ℕ) → list_any (λ q. q.0 == slot) xs ≡ list_any (occurs slot) p.args
        slots_same slot = let P : Option Pairs → Type 0 = λ o. Covers o slot (list_any (occurs slot) p.args) in subst P x (each_covered slot p.args (all_covered slot p.args) a.args)

        back : (q : Pair) → has pair_cmp q b ≡ true → has pair_cmp q xs ≡ true
        back q e =
            let r = at_slot xs q.0 (slots_same q.0 ∙ sym (m.slots q.0) ∙ is_bound b q.0 ∙ has_slot b q e) in
            ap (λ s. has pair_cmp s xs) (sym (one_pair b m.binding.one_value q r.0 e (all_has exact_pairs (λ q. has pair_cmp q b) xs inside r.0 r.1.0) r.1.1)) ∙ r.1.0
