-- A store without goals fits together.
use Rattle.std.proofs.Common.{ℕ, zero, suc, ◌≡◌, ◌≢◌, ◌<◌, ◌≤◌, ◌+◌, ◌==◌, ◌&&◌, ◌||◌, ◌⊎◌, cond, Bool, true, false, List, [], ◌∷◌, ◌++◌, length, map, drop, get_or, slice_set, Option, Some, None, Result, Ok, Err, refl, ap, sym, ◌∙◌, subst, inl, inr, arith, nat_lt}
use Rattle.std.proofs.Common.{drop-cons, add-one, append_assoc, append-nil}
use Rattle.std.specs.List.{filter, slice_get}
use Rattle.std.specs.Ordering.{is_eq}
use Rattle.std.specs.Option.{option_map, option_map_or, is_some, option_and_then}
use Rattle.std.specs.Prelude.{vec_len}
use Rattle.std.specs.Result.{IfOk, OnOk}
use Rattle.std.proofs.Math.Bool.{and-false, and-true}
use Rattle.std.proofs.lemmas.Bool.{true≢false, eqb-true, lt-ltb}
use Rattle.std.proofs.lemmas.Bool.Decides.{eqb_tells, nat_tests}
use Rattle.std.proofs.lemmas.List.{map-append, length-append, length-set}
use Rattle.std.proofs.lemmas.List.Elements.{filter-append}
use Rattle.std.proofs.lemmas.Option.{slice_get_read}
use Rattle.ordered_lists.specs.Canon.{canon_one}
use Rattle.event_model.specs.SlotSets.{slot_in}
use Rattle.event_model.specs.declared.operators.Edge.{Edge}
use Rattle.event_model.specs.declared.terms.TheConstants.{MOST_SLOTS}
use Rattle.ev_bind.specs.Rows.{row_cmp, row_writes, exact_rows}
use Rattle.ev_bind.specs.declared.rows.Row.{Row}
use Rattle.row_table.specs.Tables.{hashed}
use Rattle.row_table.specs.Steps.{row_under, step_value}
use Rattle.row_table.specs.declared.rows.RowTable.{RowTable}
use Rattle.rule_ast.specs.PlainPlans.{first_slots, slots_list, plain_index}
use Rattle.rule_ast.specs.Vars.{is_in, is_in-none, is_in-cons, is_in-append}
use Rattle.rule_ast.specs.declared.plans.Index.{Index}
use Rattle.goal_store.specs.Built.{IsOwn, no_rows, IsBare, IsAdded}
use Rattle.goal_store.specs.Fits.{SlotsFit, AllFit, IsPlaced}
use Rattle.goal_store.specs.Goals.{mark_at, row_at}
use Rattle.goal_store.specs.Good.{held_by, count_below, unsettled, IsGood}
use Rattle.goal_store.specs.Indexed.{IsIndex}
use Rattle.goal_store.specs.Marks.{is_old}
use Rattle.goal_store.specs.Steps.{index_in, kind}
use Rattle.goal_store.specs.Values.{rows_that, rows_rise, has_rows, value_nowhere, no_record}
use Rattle.goal_store.specs.declared.goals.Goals.{Goals}
use Rattle.goal_store.specs.declared.indexes.RowIndex.{RowIndex}
use Rattle.goal_store.specs.declared.kept.GoalStore.{GoalStore}
use Rattle.goal_store.specs.declared.marks.Mark.{Mark}
use Rattle.goal_store.specs.declared.steps.StepPlaces.{StepPlaces}
use Rattle.goal_store.proofs.Holding.{Table}
use Rattle.goal_store.proofs.Marking.{mark_nowhere}
use Rattle.goal_store.proofs.Stepping.{is_index_same, set_other, set_is}

none_some : {X : Type 0} (x : X) → None ≡ Some x → ⊥
none_some x e = cc

some_same : {X : Type 0} (x y : X) → Some x ≡ Some y → x ≡ y
some_same x y e = cc

-- ---- slots

pub lt_none : (t : ℕ) → false ≡ nat_lt t 0
lt_none t = grind (arith, nat_tests)

pub lt_more : (n t : ℕ) → (nat_lt t n || (n == t)) ≡ nat_lt t (n + 1)
lt_more n t = grind (arith, nat_tests)

lt_next : (n t : ℕ) → (nat_lt t n || ((n == t) || false)) ≡ nat_lt t (suc n)
lt_next n t = grind (arith, nat_tests)

is_first : (n t : ℕ) → is_in t (first_slots n) ≡ nat_lt t n
is_first zero t = is_in-none t ∙ lt_none t
is_first (suc n) t = is_in-append t (first_slots n) (n ∷ [])
    ∙ (λ i. is_first n t i || (is_in-cons t n [] ∙ ap (λ c. (n == t) || c) (is_in-none t)) i) ∙ lt_next n t

is_in-filter : (p : ℕ → Bool) (n t : ℕ) → is_in t (filter p (first_slots n)) ≡ (p t && is_in t (first_slots n))
is_in-filter p zero t = is_in-none t ∙ sym (and-false (p t)) ∙ ap (λ b. p t && b) (sym (is_in-none t))
is_in-filter p (suc n) t = ap (is_in t) (filter-append p (first_slots n) (n ∷ [])) ∙ is_in-append t (filter p (first_slots n)) (filter p (n ∷ []))
    ∙ (λ i. is_in-filter p n t i || one i) ∙ both (p t) (is_in t (first_slots n)) (is_in t (n ∷ []))
    ∙ ap (λ b. p t && b) (sym (is_in-append t (first_slots n) (n ∷ [])))
  where
    both : (a b c : Bool) → ((a && b) || (a && c)) ≡ (a && (b || c))
    both true b c = refl
    both false b c = refl

    single : (s : ℕ) → is_in s (n ∷ []) ≡ ((n == s) || false)
    single s = is_in-cons s n [] ∙ ap (λ c. (n == s) || c) (is_in-none s)

    own : (b c : Bool) → (n == t) ≡ b → p n ≡ c → is_in t (cond c (n ∷ []) []) ≡ (p t && is_in t (n ∷ []))
    own true true e f = sym (ap (λ c. c && is_in t (n ∷ [])) (ap p (sym (eqb-true n t e)) ∙ f))
    own true false e f = is_in-none t ∙ sym (ap (λ c. c && is_in t (n ∷ [])) (ap p (sym (eqb-true n t e)) ∙ f))
    own false true e f = single t ∙ ap (λ b. b || false) e ∙ sym (ap (λ b. p t && b) (single t ∙ ap (λ b. b || false) e) ∙ and-false (p t))
    own false false e f = is_in-none t ∙ sym (ap (λ b. p t && b) (single t ∙ ap (λ b. b || false) e) ∙ and-false (p t))

    one : is_in t (filter p (n ∷ [])) ≡ (p t && is_in t (n ∷ []))
    one = own (n == t) (p n) refl refl

module _ (key all met : ℕ) (every : (t : ℕ) → slot_in all t ≡ nat_lt t MOST_SLOTS)
    (meet : (t : ℕ) → slot_in met t ≡ (slot_in key t && slot_in all t)) where
  twice : (a b : Bool) → ((a && b) && b) ≡ (a && b)
  twice true true = refl
  twice true false = refl
  twice false b = refl

  pub met_fits : SlotsFit met
  unfolding slots_list
  met_fits t = is_in-filter (slot_in met) MOST_SLOTS t
      ∙ (λ i. (meet t ∙ ap (λ b. slot_in key t && b) (every t)) i && is_first MOST_SLOTS t i)
      ∙ twice (slot_in key t) (nat_lt t MOST_SLOTS) ∙ sym (meet t ∙ ap (λ b. slot_in key t && b) (every t))

  same_first : (n : ℕ) → n ≤ MOST_SLOTS → filter (slot_in met) (first_slots n) ≡ filter (slot_in key) (first_slots n)
  same_first zero h = refl
  same_first (suc n) h = filter-append (slot_in met) (first_slots n) (n ∷ [])
      ∙ (λ i. same_first n (omega (arith, h)) i ++ cond (own i) (n ∷ []) [])
      ∙ sym (filter-append (slot_in key) (first_slots n) (n ∷ []))
    where
      own : slot_in met n ≡ slot_in key n
      own = meet n ∙ ap (λ b. slot_in key n && b) (every n ∙ lt-ltb n MOST_SLOTS (omega (arith, h))) ∙ and-true (slot_in key n)

  pub met_same : slots_list met ≡ slots_list key
  unfolding slots_list
  met_same = same_first MOST_SLOTS (omega arith)

-- ---- lists that grow at their end

-- what stands in a list with one element more
grown : {X : Type 0} (xs : List X) (z : X) (k : ℕ) (w : X) → slice_get (xs ++ z ∷ []) k ≡ Some w
    → (slice_get xs k ≡ Some w) ⊎ ((z ≡ w) × (k ≡ length xs))
grown [] z zero w e = inr (some_same z w e, refl)
grown [] z (suc k) w e = absurd (none_some w e)
grown (x ∷ xs) z zero w e = inl e
grown (x ∷ xs) z (suc k) w e = elim (grown xs z k w e) [ inl f ↦ inl f | inr f ↦ inr (f.0, ap suc f.1) ]

grown_last : {X : Type 0} (xs : List X) (z : X) → slice_get (xs ++ z ∷ []) (length xs) ≡ Some z
grown_last [] z = refl
grown_last (x ∷ xs) z = grown_last xs z

grown_kept : {X Y : Type 0} (f : X → Y) (xs : List X) (z : X) (k : ℕ) (y : Y) → option_map f (slice_get xs k) ≡ Some y
    → option_map f (slice_get (xs ++ z ∷ []) k) ≡ Some y
grown_kept f [] z k y e = absurd (none_some y e)
grown_kept f (x ∷ xs) z zero y e = e
grown_kept f (x ∷ xs) z (suc k) y e = grown_kept f xs z k y e

length_grown : {X : Type 0} (xs : List X) (z : X) → length (xs ++ z ∷ []) ≡ length xs + 1
length_grown xs z = length-append xs (z ∷ [])

-- ---- indexes

pub record OwnTo (given own : List Index) (at : ℕ) : Type 0 where
  pub same : map plain_index own ++ map plain_index (drop at given) ≡ map plain_index given
  pub fits : AllFit own

pub own_none : (given : List Index) → OwnTo given [] 0
own_none given = record { same = refl; fits = λ i x e. absurd (none_some x e) }

pub own_more : (given own : List Index) (at : ℕ) → OwnTo given own at → at < length given → (x : Index) → x ≡ get_or given at x → (all met : ℕ)
    → ((t : ℕ) → slot_in all t ≡ nat_lt t MOST_SLOTS) → ((t : ℕ) → slot_in met t ≡ (slot_in x.key t && slot_in all t))
    → OwnTo given (own ++ (record { of = x.of; key = met; edge = x.edge }) ∷ []) (at + 1)
own_more given own at was within x is all met every meet = record {
  same = ap (λ l. l ++ map plain_index (drop (at + 1) given)) (map-append plain_index own (y ∷ []))
      ∙ append_assoc (map plain_index own) (plain_index y ∷ []) (map plain_index (drop (at + 1) given))
      ∙ ap (λ l. map plain_index own ++ l) (sym (ap (map plain_index) here ∙ (λ i. plain i ∷ map plain_index (drop (at + 1) given))))
      ∙ was.same;
  fits = λ i z e. elim (grown own y i z e) [ inl f ↦ was.fits i z f | inr f ↦ subst (λ v. SlotsFit v.key) f.0 (met_fits x.key all met every meet) ];
}
  where
    y : Index
    y = record { of = x.of; key = met; edge = x.edge }

    here : drop at given ≡ x ∷ drop (at + 1) given
    here = drop-cons given at x within ∙ (λ i. sym is i ∷ drop (sym (add-one at) i) given)

    plain : plain_index x ≡ plain_index y
    plain = λ i. record { of = x.of; key = sym (met_same x.key all met every meet) i; edge = x.edge }

drop_past : {X : Type 0} (xs : List X) (at : ℕ) → length xs ≤ at → drop at xs ≡ []
drop_past [] zero h = refl
drop_past [] (suc at) h = refl
drop_past (x ∷ xs) zero h = absurd (omega (arith, h))
drop_past (x ∷ xs) (suc at) h = drop_past xs at (omega (arith, h))

pub own_all : (given own : List Index) (at : ℕ) → OwnTo given own at → length given ≤ at → IsOwn given own
own_all given own at was past = record {
  same = sym (append-nil (map plain_index own)) ∙ ap (λ l. map plain_index own ++ map plain_index l) (sym (drop_past given at past)) ∙ was.same;
  fits = was.fits;
}

-- ---- steps

pub bare_none : IsBare []
bare_none s k ix e = absurd (none_some ix e)

pub bare_more : (steps : List StepPlaces) → IsBare steps → (p : StepPlaces) → p.indexes.items ≡ [] → IsBare (steps ++ p ∷ [])
bare_more [] bare p none zero k ix e = absurd (none_some ix (sym (ap (λ l. slice_get l k) none) ∙ e))
bare_more [] bare p none (suc s) k ix e = absurd (none_some ix e)
bare_more (q ∷ steps) bare p none zero k ix e = bare 0 k ix e
bare_more (q ∷ steps) bare p none (suc s) k ix e = bare_more steps (λ s. bare (suc s)) p none s k ix e

module _ (ys : List StepPlaces) (x : Index) (p q : StepPlaces) (ix : RowIndex) (within : x.of < length ys) (is : p ≡ get_or ys x.of p)
    (k : ℕ) (at : k ≡ length p.indexes.items) (more : q.indexes.items ≡ p.indexes.items ++ ix ∷ [])
    (alike : kind ix ≡ (x.key, x.edge)) (nothing : IsIndex ix no_rows) where
  abbrev zs : List StepPlaces
  zs = slice_set ys x.of q

  old_step : slice_get ys x.of ≡ Some p
  old_step = slice_get_read ys (length ys) x.of p refl within is

  old_at : (j : ℕ) → index_in ys x.of j ≡ slice_get p.indexes.items j
  old_at j = ap (option_and_then (λ p. slice_get p.indexes.items j)) old_step

  new_at : (j : ℕ) → index_in zs x.of j ≡ slice_get (p.indexes.items ++ ix ∷ []) j
  new_at j = ap (option_and_then (λ p. slice_get p.indexes.items j)) (set_is ys x.of q within) ∙ ap (λ l. slice_get l j) more

  others : (s j : ℕ) → s ≢ x.of → index_in zs s j ≡ index_in ys s j
  others s j d = ap (option_and_then (λ p. slice_get p.indexes.items j)) (set_other ys x.of s q d)

  bare_set : IsBare ys → (s : ℕ) → (s ≡ x.of) ⊎ (s ≢ x.of) → (j : ℕ) (jx : RowIndex) → index_in zs s j ≡ Some jx → IsIndex jx no_rows
  bare_set bare s (inr d) j jx e = bare s j jx (sym (others s j d) ∙ e)
  bare_set bare s (inl f) j jx e = elim (grown p.indexes.items ix j jx (sym (new_at j) ∙ ap (λ z. index_in zs z j) (sym f) ∙ e)) [
    | inl g ↦ bare x.of j jx (old_at j ∙ g)
    | inr g ↦ subst (λ z. IsIndex z no_rows) g.0 nothing
  ]

  kept_set : (s : ℕ) → (s ≡ x.of) ⊎ (s ≢ x.of) → (j : ℕ) (y : ℕ × Edge) → option_map kind (index_in ys s j) ≡ Some y
      → option_map kind (index_in zs s j) ≡ Some y
  kept_set s (inr d) j y e = ap (option_map kind) (others s j d) ∙ e
  kept_set s (inl f) j y e = ap (λ z. option_map kind (index_in zs z j)) f ∙ ap (option_map kind) (new_at j)
      ∙ grown_kept kind p.indexes.items ix j y (ap (option_map kind) (sym (old_at j)) ∙ ap (λ z. option_map kind (index_in ys z j)) (sym f) ∙ e)

  apart : (s : ℕ) → (s ≡ x.of) ⊎ (s ≢ x.of)
  apart s = elim (eqb_tells s x.of) [ inl e ↦ inl e.1 | inr d ↦ inr d.1 ]

  is_added : IsAdded ys zs x k
  is_added = record {
    number = length-set ys x.of q;
    kept = λ s j y e. kept_set s (apart s) j y e;
    here = λ h. ap (λ j. option_map kind (index_in zs x.of j)) at
        ∙ ap (option_map kind) (new_at (length p.indexes.items) ∙ grown_last p.indexes.items ix) ∙ ap Some alike;
    bare = λ bare s j jx e. bare_set bare s (apart s) j jx e;
  }

pub added : {E : Type 0} (r : Result ℕ E) (ys : List StepPlaces) (x : Index) (p q : StepPlaces) (ix : RowIndex) → x.of < length ys
    → p ≡ get_or ys x.of p → IfOk r (λ k. k ≡ length p.indexes.items) → OnOk r (q.indexes.items ≡ p.indexes.items ++ ix ∷ [])
    → kind ix ≡ (x.key, x.edge) → IsIndex ix no_rows → IfOk r (λ k. IsAdded ys (slice_set ys x.of q) x k)
added (Ok k) ys x p q ix within is at more alike nothing = is_added ys x p q ix within is k at more alike nothing
added (Err e) ys x p q ix within is at more alike nothing = at

-- the indexes so far stand at these spots
pub record PlacedTo (indexes : List Index) (spots : List ℕ) (old steps : List StepPlaces) (at : ℕ) : Type 0 where
  pub number : length spots ≡ at
  pub placed : (i : ℕ) (x : Index) (k : ℕ) → slice_get indexes i ≡ Some x → slice_get spots i ≡ Some k
      → nat_lt x.of (length steps) ≡ true → option_map kind (index_in steps x.of k) ≡ Some (x.key, x.edge)
  pub bare : IsBare steps
  pub len : length steps ≡ length old

pub placed_none : (indexes : List Index) (steps : List StepPlaces) → IsBare steps → PlacedTo indexes [] steps steps 0
placed_none indexes steps bare = record { number = refl; placed = λ i x k e f g. absurd (none_some k f); bare = bare; len = refl }

pub placed_more : (indexes : List Index) (spots : List ℕ) (old ys zs : List StepPlaces) (at k : ℕ) (x : Index) → PlacedTo indexes spots old ys at
    → at < length indexes → x ≡ get_or indexes at x → IsAdded ys zs x k → PlacedTo indexes (spots ++ k ∷ []) old zs (at + 1)
placed_more indexes spots old ys zs at k x was within is more = record {
  number = length_grown spots k ∙ ap (λ n. n + 1) was.number;
  placed = λ i z j e f g. elim (grown spots k i j f) [
    | inl h ↦ more.kept z.of j (z.key, z.edge) (was.placed i z j e h (ap (nat_lt z.of) (sym more.number) ∙ g))
    | inr h ↦ let same : x ≡ z = some_same x z (sym (slice_get_read indexes (length indexes) at x refl within is)
        ∙ ap (slice_get indexes) (sym (h.1 ∙ was.number)) ∙ e) in
        subst (λ v. option_map kind (index_in zs v.of j) ≡ Some (v.key, v.edge)) same
        (subst (λ v. option_map kind (index_in zs x.of v) ≡ Some (x.key, x.edge)) h.0
        (more.here (ap (λ v. nat_lt v.of (length ys)) same ∙ ap (nat_lt z.of) (sym more.number) ∙ g)))
  ];
  bare = more.bare was.bare;
  len = more.number ∙ was.len;
}

pub placed_all : (indexes : List Index) (spots : List ℕ) (old steps : List StepPlaces) (at : ℕ) → PlacedTo indexes spots old steps at
    → AllFit indexes → at ≡ length indexes → IsPlaced indexes spots steps
placed_all indexes spots old steps at was fits end = record { fits = fits; number = was.number ∙ end; placed = was.placed }

-- ---- no goals

module _ (t : RowTable Row Mark) (none : (n : ℕ) → row_under t n ≡ None) (table : Table t) where
  no_value : (n s : ℕ) → step_value t n s ≡ None
  no_value n s = no_record exact_rows (hashed row_writes) t n s (none n)

  no_held : (s : ℕ) (r : Row) (n : ℕ) → held_by t s r n ≡ false
  no_held s r n = ap (λ v. part v) (no_value n s) ∙ and-false _
    where
      part : Option Mark → Bool
      part v = option_map_or (λ k. is_eq (row_cmp r k)) (row_under t n) false && is_some v

  no_rows_that : (p : Mark → Bool) (s : ℕ) → rows_that row_cmp p t s ≡ []
  no_rows_that p s = canon_one exact_rows (rows_that row_cmp p t s) [] (rows_rise exact_rows (hashed row_writes) t p s) tt
      (λ k. has_rows exact_rows (hashed row_writes) t table p s k
      ∙ ap (λ o. option_map_or p o false) (value_nowhere exact_rows (hashed row_writes) t s k (λ n e. none_some k (sym (none n) ∙ e))))

  no_count : (p : Mark → Bool) (n : ℕ) → count_below p t n ≡ 0
  no_count p zero = refl
  no_count p (suc n) = (λ i. no_count p n i + length (no_rows_that p n i))

pub none_good : (g : Goals) → ((n : ℕ) → row_under g.held.rows n ≡ None) → Table g.held.rows → IsBare g.held.steps.items → g.held.number ≡ 0
    → vec_len g.changed ≡ 0 → IsGood g
none_good g none table bare number len = record {
  held = record {
    table = table;
    listed = λ s k ix e. is_index_same ix no_rows (held_by g.held.rows s) (λ r n. sym (no_held g.held.rows none table s r n)) (bare s k ix e);
    within = λ n s e. absurd (true≢false (sym e ∙ ap is_some (no_value g.held.rows none table n s)));
    counted = number ∙ sym (no_count g.held.rows none table (λ m. true) (length g.held.steps.items));
  };
  noted = λ n s e. absurd (true≢false (sym e ∙ ap unsettled (no_value g.held.rows none table n s)));
  room = let count = no_count g.held.rows none table is_old (length g.held.steps.items) in omega (arith, count, number, len);
  fits = omega (arith, number);
}

pub no_marks : (g : GoalStore) → ((n : ℕ) → row_at g n ≡ None) → (s : ℕ) (r : Row) → mark_at g s r ≡ None
no_marks g none s r = mark_nowhere g s r (λ n e. none_some r (sym (none n) ∙ e))
