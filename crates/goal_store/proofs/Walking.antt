-- What a walk over an index gives: the rows that the definition lists, in its order.
use Rattle.std.proofs.Common.{ℕ, zero, ◌≡◌, ◌≢◌, ◌<◌, ◌≤◌, ◌==◌, ◌&&◌, ◌||◌, not, cond, Bool, true, false, List, [], ◌∷◌, map, Option, Some, None, refl, ap, sym, ◌∙◌, inl, inr, arith, nat_le}
use Rattle.std.specs.List.{filter}
use Rattle.std.specs.Option.{is_some, option_map_or}
use Rattle.std.specs.Ordering.{is_eq, is_lt, nat_cmp, ordering_then, on, then_cmp}
use Rattle.std.specs.Bool.{Decides}
use Rattle.std.proofs.Common.{◌++◌}
use Rattle.std.specs.Cmp.{tied_itself}
use Rattle.std.specs.Cmp.Lexicographic.{slice_cmp}
use Rattle.std.specs.declared.cmp.Ordering.{Ordering}
use Rattle.std.specs.declared.cmp.Ordering.TheVariants.{Less, Equal, Greater}
use Rattle.std.proofs.Math.Bool.{and-false}
use Rattle.std.specs.Cmp.{nat_cmp_is}
use Rattle.std.proofs.lemmas.Bool.{true≢false, eqb-true, eq-eqb, false_from_ne_true, and_parts, cases_lt, leb-true, le-leb}
use Rattle.key_lists.proofs.Places.{at_found}
use Rattle.ordered_lists.specs.Canon.{canon, has, AllAbove, Rising, Exact, canon_one, Rising-canon, Rising-filter, has-canon, has-filter}
use Rattle.ordered_lists.specs.Lists.{Each, Each-filter}
use Rattle.ordered_lists.specs.Members.{filter_agree}
use Rattle.ordered_lists.specs.Orders.{exact_numbers, exact_lists, exact_then}
use Rattle.event_model.specs.declared.operators.Edge.{Edge}
use Rattle.event_model.specs.declared.operators.Edge.TheVariants.{Start, End}
use Rattle.interval_ops.specs.Operators.{edge_of, in_range}
use Rattle.ev_bind.specs.Bindings.{Pairs, pair_cmp, exact_pairs, same_Bool}
use Rattle.ev_bind.specs.Hashing.{code_of}
use Rattle.ev_bind.specs.Projections.{project, same_pairs, same_pairs_decides}
use Rattle.ev_bind.specs.Rows.{row_cmp, row_writes, exact_rows}
use Rattle.ev_bind.specs.declared.rows.Row.{Row}
use Rattle.row_changes.specs.Partners.{on_key, agree, edge_cmp, is_listed, listed}
use Rattle.row_table.specs.Tables.{hashed}
use Rattle.row_table.specs.Steps.{row_under, step_value, IsRowTable}
use Rattle.row_table.specs.declared.rows.RowTable.{RowTable}
use Rattle.rule_ast.specs.PlainPlans.{slots_list}
use Rattle.goal_store.specs.Goals.{mark_at, seen, has_seen}
use Rattle.goal_store.specs.Good.{held_by}
use Rattle.goal_store.specs.Indexed.{list_of, stands}
use Rattle.goal_store.specs.Marks.{seen_as}
use Rattle.goal_store.specs.Places.{place_cmp, place_at, least_row, least_at, exact_places}
use Rattle.goal_store.specs.Values.{find_row, tells, tied, untied}
use Rattle.goal_store.specs.Fits.{SlotsFit}
use Rattle.goal_store.specs.Walked.{IsWalk}
use Rattle.goal_store.specs.Walks.{is_shown}
use Rattle.goal_store.specs.declared.kept.GoalStore.{GoalStore}
use Rattle.goal_store.specs.declared.marks.Mark.{Mark}
use Rattle.goal_store.specs.declared.marks.When.{When}
use Rattle.goal_store.specs.declared.places.Place.{Place}
use Rattle.goal_store.proofs.Marking.{mark_under, mark_nowhere}

-- ---- the order of an edge

start_first : (c d b : Ordering) → ordering_then (ordering_then c d) b ≡ ordering_then c (ordering_then (ordering_then c d) b)
start_first Less d b = refl
start_first Equal d b = refl
start_first Greater d b = refl

end_first : (c d b : Ordering) → ordering_then c (ordering_then d b) ≡ ordering_then c (ordering_then (ordering_then d c) b)
end_first Less d b = refl
end_first Equal Less b = refl
end_first Equal Equal b = refl
end_first Equal Greater b = refl
end_first Greater d b = refl

edge_is : (e : Edge) (a b : Row) → edge_cmp e a b ≡ ordering_then (nat_cmp (edge_of e a.span) (edge_of e b.span)) (row_cmp a b)
edge_is Start a b = start_first (nat_cmp a.span.start b.span.start) (nat_cmp a.span.end b.span.end) (slice_cmp pair_cmp a.binding b.binding)
edge_is End a b = end_first (nat_cmp a.span.end b.span.end) (nat_cmp a.span.start b.span.start) (slice_cmp pair_cmp a.binding b.binding)

-- what comes behind the end
pub record Behind : Type 0 where
  pub start : ℕ
  pub binding : Pairs

exact_behind : Exact (then_cmp (on (λ (p : Behind). p.start) nat_cmp) (on (λ p. p.binding) (slice_cmp pair_cmp)))
exact_behind = exact_then {K = Behind} (λ p. p.start) (λ p. p.binding) (λ x y d e i. record { start = d i; binding = e i }) exact_numbers
    (exact_lists exact_pairs)

abbrev behind : Row → Behind
behind r = record { start = r.span.start; binding = r.binding }

pub exact_edges : (e : Edge) → Exact (edge_cmp e)
exact_edges Start = exact_rows
exact_edges End = exact_then {K = Row} (λ r. r.span.end) behind
    (λ x y d e i. record { binding = (e i).binding; span = record { start = (e i).start; end = d i } }) exact_numbers exact_behind

has_orders : {R S : Row → Row → Ordering} → Exact R → Exact S → (r : Row) (xs : List Row) → has R r xs ≡ has S r xs
has_orders o s r [] = refl
has_orders {R} {S} o s r (x ∷ xs) = λ i. same i || has_orders o s r xs i
  where
    same : is_eq (R r x) ≡ is_eq (S r x)
    same = elim (tells o r x) [ inl e ↦ tied o r x e ∙ sym (tied s r x e) | inr d ↦ untied o r x d ∙ sym (untied s r x d) ]

-- ---- places and their rows

module _ (t : RowTable Row Mark) (table : IsRowTable (hashed row_writes) row_cmp t) (e : Edge) where
  -- the place of a row under its number
  pub record Listed (p : Place) : Type 0 where
    pub row : row_under t p.number ≡ Some p.row
    pub edge : p.edge ≡ edge_of e p.row.span

  alike : (p q : Place) → Listed p → Listed q → place_cmp p q ≡ edge_cmp e p.row q.row
  alike p q a b = (λ i. ordering_then (nat_cmp (a.edge i) (b.edge i)) (by (row_cmp p.row q.row) refl i)) ∙ sym (edge_is e p.row q.row)
    where
      by : (c : Ordering) → row_cmp p.row q.row ≡ c → ordering_then (row_cmp p.row q.row) (nat_cmp p.number q.number) ≡ row_cmp p.row q.row
      by Less h = ap (λ c. ordering_then c (nat_cmp p.number q.number)) h ∙ sym h
      by Greater h = ap (λ c. ordering_then c (nat_cmp p.number q.number)) h ∙ sym h
      by Equal h = ap (λ c. ordering_then c (nat_cmp p.number q.number)) h
          ∙ ap (nat_cmp p.number) (sym (table.unique p.number q.number p.row a.row (b.row ∙ ap Some (sym (exact_rows.same p.row q.row h)))))
          ∙ tied_itself exact_numbers.total p.number ∙ sym h

  abbrev pub rows_of : List Place → List Row
  rows_of ps = map (λ p. p.row) ps

  has_row : (n : ℕ) (r : Row) → row_under t n ≡ Some r → (xs : List Place) → Each Listed xs
      → has (edge_cmp e) r (rows_of xs) ≡ has place_cmp (place_at e r n) xs
  has_row n r at [] a = refl
  has_row n r at (x ∷ xs) a =
      λ i. is_eq (sym (alike (place_at e r n) x (record { row = at; edge = refl }) a.0) i) || has_row n r at xs a.1 i

  has_no_row : (r : Row) → ((n : ℕ) → row_under t n ≢ Some r) → (xs : List Place) → Each Listed xs → has (edge_cmp e) r (rows_of xs) ≡ false
  has_no_row r none [] a = refl
  has_no_row r none (x ∷ xs) a =
      ap (λ b. b || has (edge_cmp e) r (rows_of xs)) (untied (exact_edges e) r x.row (λ h. none x.number (a.0.row ∙ ap Some (sym h))))
      ∙ has_no_row r none xs a.1

  above_rows : (p : Place) → Listed p → (xs : List Place) → Each Listed xs → AllAbove place_cmp p xs → AllAbove (edge_cmp e) p.row (rows_of xs)
  above_rows p l [] a h = tt
  above_rows p l (x ∷ xs) a h = (sym (alike p x l a.0) ∙ h.0, above_rows p l xs a.1 h.1)

  rising_rows : (xs : List Place) → Each Listed xs → Rising place_cmp xs → Rising (edge_cmp e) (rows_of xs)
  rising_rows [] a h = tt
  rising_rows (x ∷ xs) a h = (above_rows x a.0 xs a.1 h.0, rising_rows xs a.1 h.1)

  -- the rows that don't come before one
  pub rows_upward : (q : Place) → Listed q → (xs : List Place) → Each Listed xs
      → rows_of (filter (λ x. not (is_lt (place_cmp x q))) xs) ≡ filter (λ r. not (is_lt (edge_cmp e r q.row))) (rows_of xs)
  rows_upward q l [] a = refl
  rows_upward q l (x ∷ xs) a = ap (λ c. rows_of (cond (not (is_lt c)) (x ∷ filter (λ x. not (is_lt (place_cmp x q))) xs) (filter (λ x. not (is_lt (place_cmp x q))) xs))) (alike x q a.0 l)
      ∙ by (not (is_lt (edge_cmp e x.row q.row))) (rows_upward q l xs a.1)
    where
      by : (b : Bool) → rows_of (filter (λ x. not (is_lt (place_cmp x q))) xs) ≡ filter (λ r. not (is_lt (edge_cmp e r q.row))) (rows_of xs)
          → rows_of (cond b (x ∷ filter (λ x. not (is_lt (place_cmp x q))) xs) (filter (λ x. not (is_lt (place_cmp x q))) xs))
          ≡ cond b (x.row ∷ filter (λ r. not (is_lt (edge_cmp e r q.row))) (rows_of xs)) (filter (λ r. not (is_lt (edge_cmp e r q.row))) (rows_of xs))
      by true h = ap (λ l. x.row ∷ l) h
      by false h = h

each_member : (xs ys : List Place) → ((q : Place) → has place_cmp q xs ≡ true → has place_cmp q ys ≡ true)
    → Each (λ x. has place_cmp x ys ≡ true) xs
each_member [] ys h = tt
each_member (x ∷ xs) ys h =
    (h x (ap (λ c. c || has place_cmp x xs) (tied exact_places x x refl)), each_member xs ys (λ q e. h q (more (is_eq (place_cmp q x)) _ e)))
  where
    more : (a b : Bool) → b ≡ true → (a || b) ≡ true
    more true b e = refl
    more false b e = e

pub each_map : (P Q : Place → Type 0) → ((x : Place) → P x → Q x) → (xs : List Place) → Each P xs → Each Q xs
each_map P Q f [] a = tt
each_map P Q f (x ∷ xs) a = (f x a.0, each_map P Q f xs a.1)

pub filter_twice : {A : Type 0} (p q : A → Bool) (xs : List A) → filter p (filter q xs) ≡ filter (λ x. q x && p x) xs
filter_twice p q [] = refl
filter_twice p q (x ∷ xs) = by (q x) (filter_twice p q xs)
  where
    by : (b : Bool) → filter p (filter q xs) ≡ filter (λ x. q x && p x) xs
        → filter p (cond b (x ∷ filter q xs) (filter q xs)) ≡ cond (b && p x) (x ∷ filter (λ x. q x && p x) xs) (filter (λ x. q x && p x) xs)
    by true h = ap (λ l. cond (p x) (x ∷ l) l) h
    by false h = h

and_turn : (a b : Bool) → (a && b) ≡ (b && a)
and_turn true true = refl
and_turn true false = refl
and_turn false true = refl
and_turn false false = refl

pub filter_turn : {A : Type 0} (p q : A → Bool) (xs : List A) → filter p (filter q xs) ≡ filter q (filter p xs)
filter_turn p q xs = filter_twice p q xs ∙ filter_agree _ _ (λ x. and_turn (q x) (p x)) xs ∙ sym (filter_twice q p xs)

-- ---- keys

on_slots : (slots : ℕ) → SlotsFit slots → (b : Pairs) → on_key (slots_list slots) b ≡ project slots b
on_slots slots fit b = filter_agree _ _ (λ p. fit p.0) b

same_turn : (a b : Pairs) → same_pairs a b ≡ same_pairs b a
same_turn a b = same_Bool _ _
    (λ h. (same_pairs_decides b a).1 (sym ((same_pairs_decides a b).0 h)))
    (λ h. (same_pairs_decides a b).1 (sym ((same_pairs_decides b a).0 h)))

agree_is : (slots : ℕ) → SlotsFit slots → (a b : Pairs) → agree (slots_list slots) a b ≡ same_pairs (project slots b) (project slots a)
agree_is slots fit a b = (λ i. same_pairs (on_slots slots fit a i) (on_slots slots fit b i)) ∙ same_turn (project slots a) (project slots b)

-- the same is listed for keys that agree
pub same_key : (slots : ℕ) → SlotsFit slots → (a b : Pairs) → same_pairs (project slots a) (project slots b) ≡ true
    → (edge : Edge) (high : ℕ) (rows : List Row)
    → listed (slots_list slots) (record { edge = edge; low = 0; high = high }) a rows
    ≡ listed (slots_list slots) (record { edge = edge; low = 0; high = high }) b rows
same_key slots fit a b h edge high rows =
    ap (λ k. canon (edge_cmp edge) (filter (λ r. same_pairs k (on_key (slots_list slots) r.binding)
    && in_range (record { edge = edge; low = 0; high = high }) r.span) rows))
    (on_slots slots fit a ∙ (same_pairs_decides (project slots a) (project slots b)).0 h ∙ sym (on_slots slots fit b))

absorb : (q s : Bool) → (q ≡ true → s ≡ true) → (q && s) ≡ q
absorb true s h = h refl
absorb false s h = refl

le_zero : (n : ℕ) → nat_le 0 n ≡ true
le_zero n = le-leb 0 n (omega arith)

module _ (g : GoalStore) (index step slots : ℕ) (edge : Edge) (key : Pairs) (places : List Place)
    (walk : IsWalk g index step slots edge key places) (fit : SlotsFit slots) (w : When) (high : ℕ) where
  abbrev pub table : IsRowTable (hashed row_writes) row_cmp g.goals.held.rows
  table = g.good.held.table

  abbrev pub shows : Place → Bool
  shows = is_shown g.goals.held.rows step w slots key high

  abbrev pub all_rows : List Row
  all_rows = listed (slots_list slots) (record { edge = edge; low = 0; high = high }) key (seen g step w)

  held_row : (o : Option Row) (r : Row) → option_map_or (λ k. is_eq (row_cmp r k)) o false ≡ true → o ≡ Some r
  held_row None r h = absurd (true≢false (sym h))
  held_row (Some k) r h = elim (tells exact_rows r k) [ inl e ↦ ap Some (sym e) | inr d ↦ absurd (true≢false (sym h ∙ untied exact_rows r k d)) ]

  pub listed_place : (p : Place) → has place_cmp p places ≡ true → Listed g.goals.held.rows table edge p
  listed_place p h =
      let both = and_parts (stands slots edge (code_of (project slots key)) p) _ (sym (walk.listed p) ∙ h) in
      let held = and_parts _ (is_some (step_value g.goals.held.rows p.number step)) both.1 in
      record {
        row = held_row (row_under g.goals.held.rows p.number) p.row held.0;
        edge = sym (eqb-true (edge_of edge p.row.span) p.edge (and_parts (list_of slots p.row == code_of (project slots key)) _ both.0).1);
      }

  pub all_listed : Each (Listed g.goals.held.rows table edge) places
  all_listed = each_map _ _ listed_place places (each_member places places (λ q h. h))

  pub shown_listed : Each (Listed g.goals.held.rows table edge) (filter shows places)
  shown_listed = Each-filter (Listed g.goals.held.rows table edge) shows places all_listed

  turn : (v m h : Bool) → ((v && m) && h) ≡ ((m && (true && h)) && v)
  turn true true true = refl
  turn true true false = refl
  turn true false true = refl
  turn true false false = refl
  turn false true true = refl
  turn false true false = refl
  turn false false true = refl
  turn false false false = refl

  has_all : (r : Row) → has (edge_cmp edge) r all_rows
      ≡ ((agree (slots_list slots) key r.binding && in_range (record { edge = edge; low = 0; high = high }) r.span) && seen_as w (mark_at g step r))
  has_all r = has-canon (exact_edges edge) r (filter (is_listed (slots_list slots) (record { edge = edge; low = 0; high = high }) key) (seen g step w))
      ∙ has-filter (exact_edges edge) (is_listed (slots_list slots) (record { edge = edge; low = 0; high = high }) key) r (seen g step w)
      ∙ ap (λ b. is_listed (slots_list slots) (record { edge = edge; low = 0; high = high }) key r && b)
      (has_orders (exact_edges edge) exact_rows r (seen g step w) ∙ has_seen g step w r)

  has_same : (r : Row) → has (edge_cmp edge) r (map (λ p. p.row) (filter shows places)) ≡ has (edge_cmp edge) r all_rows
  has_same r = elim (find_row exact_rows (hashed row_writes) g.goals.held.rows r) [
    | inr none ↦ has_no_row g.goals.held.rows table edge r none (filter shows places) shown_listed
        ∙ sym (has_all r ∙ ap (λ b. is_listed (slots_list slots) (record { edge = edge; low = 0; high = high }) key r && b)
        (ap (seen_as w) (mark_nowhere g step r none)) ∙ and-false _)
    | inl f ↦ has_row g.goals.held.rows table edge f.0 r f.1 (filter shows places) shown_listed
        ∙ has-filter exact_places shows (place_at edge r f.0) places
        ∙ absorb (shows (place_at edge r f.0)) _ (λ h. walk.listed (place_at edge r f.0) ∙ there f.0 f.1 h)
        ∙ sym (has_all r ∙ (λ i. (agree_is slots fit key r.binding i && in_range (record { edge = edge; low = 0; high = high }) r.span)
        && seen_as w (mark_under g step r f.0 f.1 i))
        ∙ (λ i. (same_pairs (project slots r.binding) (project slots key) && (le_zero (edge_of edge r.span) i && nat_le (edge_of edge r.span) high))
        && seen_as w (step_value g.goals.held.rows f.0 step))
        ∙ sym (turn (seen_as w (step_value g.goals.held.rows f.0 step)) (same_pairs (project slots r.binding) (project slots key)) (nat_le (edge_of edge r.span) high)))
  ]
    where
      some_seen : (o : Option Mark) → seen_as w o ≡ true → is_some o ≡ true
      some_seen None h = absurd (true≢false (sym h))
      some_seen (Some m) h = refl

      there : (n : ℕ) → row_under g.goals.held.rows n ≡ Some r → shows (place_at edge r n) ≡ true
          → (stands slots edge (code_of (project slots key)) (place_at edge r n) && held_by g.goals.held.rows step r n) ≡ true
      there n at h =
          let parts = and_parts (seen_as w (step_value g.goals.held.rows n step) && same_pairs (project slots r.binding) (project slots key)) _ h in
          let both = and_parts (seen_as w (step_value g.goals.held.rows n step)) _ parts.0 in
          let same = (same_pairs_decides (project slots r.binding) (project slots key)).0 both.1 in
          λ i. (eq-eqb (list_of slots r) (code_of (project slots key)) (ap code_of same) i && eq-eqb (edge_of edge r.span) (edge_of edge r.span) refl i)
          && ((ap (λ o. option_map_or (λ k. is_eq (row_cmp r k)) o false) at ∙ tied exact_rows r r refl) i
          && some_seen (step_value g.goals.held.rows n step) both.0 i)

  -- the shown places are the listed rows
  pub shown_rows : map (λ p. p.row) (filter shows places) ≡ all_rows
  shown_rows = canon_one (exact_edges edge) _ _
      (rising_rows g.goals.held.rows table edge (filter shows places) shown_listed (Rising-filter exact_places shows places walk.rising))
      (Rising-canon (exact_edges edge) (filter (is_listed (slots_list slots) (record { edge = edge; low = 0; high = high }) key) (seen g step w))) has_same

  -- from a place on
  pub shown_from : (q : Place) → Listed g.goals.held.rows table edge q → (ps : List Place)
      → ps ≡ filter (λ x. not (is_lt (place_cmp x q))) places
      → map (λ p. p.row) (filter shows ps) ≡ filter (λ r. not (is_lt (edge_cmp edge r q.row))) all_rows
  shown_from q l ps here = ap (λ ps. map (λ p. p.row) (filter shows ps)) here
      ∙ ap (map (λ p. p.row)) (filter_turn shows (λ x. not (is_lt (place_cmp x q))) places)
      ∙ rows_upward g.goals.held.rows table edge q l (filter shows places) shown_listed
      ∙ ap (filter (λ r. not (is_lt (edge_cmp edge r q.row)))) shown_rows

-- ---- single steps of a walk

nat_less : (x y : ℕ) → x < y → nat_cmp x y ≡ Less
nat_less x y h = sym (nat_cmp_is x y Less h)

nat_greater : (x y : ℕ) → y < x → nat_cmp x y ≡ Greater
nat_greater x y h = sym (nat_cmp_is x y Greater h)

not_less : (x : ℕ) → is_lt (nat_cmp x 0) ≡ false
not_less x = elim (cases_lt 0 x) [
  | inl h ↦ ap is_lt (nat_greater x 0 h)
  | inr h ↦ ap is_lt (sym (nat_cmp_is x 0 Equal (omega (arith, h))))
]

then_not_less : (c d : Ordering) → is_lt c ≡ false → is_lt d ≡ false → is_lt (ordering_then c d) ≡ false
then_not_less Less d e f = e
then_not_less Equal d e f = f
then_not_less Greater d e f = e

binding_not_less : (b : Pairs) → is_lt (slice_cmp pair_cmp b []) ≡ false
binding_not_less [] = refl
binding_not_less (x ∷ xs) = refl

-- the places from a time of the edge on
pub from_time : (low : ℕ) (x : Place) → not (is_lt (place_cmp x (least_at low))) ≡ nat_le low x.edge
from_time low x = elim (cases_lt x.edge low) [
  | inl h ↦ ap (λ c. not (is_lt (ordering_then c rest))) (nat_less x.edge low h)
      ∙ sym (false_from_ne_true (nat_le low x.edge) (λ e. let le = leb-true low x.edge e in omega (arith, le, h)))
  | inr h ↦ at h (nat_cmp x.edge low) refl
]
  where
    rest : Ordering
    rest = ordering_then (row_cmp x.row least_row) (nat_cmp x.number 0)

    rest_not : is_lt rest ≡ false
    rest_not = then_not_less (row_cmp x.row least_row) (nat_cmp x.number 0)
        (then_not_less (ordering_then (nat_cmp x.row.span.start 0) (nat_cmp x.row.span.end 0)) (slice_cmp pair_cmp x.row.binding [])
        (then_not_less (nat_cmp x.row.span.start 0) (nat_cmp x.row.span.end 0) (not_less x.row.span.start) (not_less x.row.span.end))
        (binding_not_less x.row.binding))
        (not_less x.number)

    at : low ≤ x.edge → (c : Ordering) → nat_cmp x.edge low ≡ c → not (is_lt (ordering_then (nat_cmp x.edge low) rest)) ≡ nat_le low x.edge
    at h Less e = absurd (elim (cases_lt low x.edge) [
      | inl lt ↦ true≢false (sym (ap is_lt (sym (nat_greater x.edge low lt) ∙ e)))
      | inr ge ↦ true≢false (sym (ap is_lt (nat_cmp_is x.edge low Equal (omega (arith, h, ge)) ∙ e)))
    ])
    at h Equal e = ap (λ c. not (is_lt (ordering_then c rest))) e ∙ ap not rest_not ∙ sym (le-leb low x.edge h)
    at h Greater e = ap (λ c. not (is_lt (ordering_then c rest))) e ∙ sym (le-leb low x.edge h)

-- behind an edge past the end of a range there is nothing
pub none_past : (t : RowTable Row Mark) (step : ℕ) (w : When) (slots : ℕ) (key : Pairs) (high : ℕ) (x : Place) (xs : List Place)
    → high < x.edge → AllAbove place_cmp x xs → filter (is_shown t step w slots key high) (x ∷ xs) ≡ []
none_past t step w slots key high x xs h a = skip ∙ rest xs a
  where
    own : (y : Place) → high < y.edge → is_shown t step w slots key high y ≡ false
    own y lt = false_from_ne_true _ (λ e.
        let le = leb-true y.edge high (and_parts _ (nat_le y.edge high) e).1 in omega (arith, le, lt))

    skip : filter (is_shown t step w slots key high) (x ∷ xs) ≡ filter (is_shown t step w slots key high) xs
    skip = ap (λ b. cond b (x ∷ filter (is_shown t step w slots key high) xs) (filter (is_shown t step w slots key high) xs)) (own x h)

    later : (y : Place) → place_cmp x y ≡ Less → high < y.edge
    later y e = elim (cases_lt high y.edge) [
      | inl lt ↦ lt
      | inr le ↦ absurd (true≢false (sym (ap is_lt e) ∙ ap (λ c. is_lt (ordering_then c (ordering_then (row_cmp x.row y.row) (nat_cmp x.number y.number))))
          (nat_greater x.edge y.edge (omega (arith, le, h)))))
    ]

    rest : (ys : List Place) → AllAbove place_cmp x ys → filter (is_shown t step w slots key high) ys ≡ []
    rest [] b = refl
    rest (y ∷ ys) b = ap (λ c. cond c (y ∷ filter (is_shown t step w slots key high) ys) (filter (is_shown t step w slots key high) ys)) (own y (later y b.0))
        ∙ rest ys b.1

-- what tells whether two are one list of pairs
pub decides_same : (b : Bool) (x y : Pairs) → Decides b (x ≡ y) → b ≡ same_pairs x y
decides_same b x y d = same_Bool _ _ (λ h. (same_pairs_decides x y).1 (d.0 h)) (λ h. d.1 ((same_pairs_decides x y).0 h))

-- ---- one place after the other

pub step_on : (q : Place → Bool) (xs : List Place) (p : Place) (zs : List Place) → xs ≡ p ∷ zs → q p ≡ true → filter q xs ≡ p ∷ filter q zs
step_on q xs p zs here e = ap (filter q) here ∙ ap (λ b. cond b (p ∷ filter q zs) (filter q zs)) e

-- the end of a list in order is in order
pub rising_end : (ys xs : List Place) → Rising place_cmp (ys ++ xs) → Rising place_cmp xs
rising_end [] xs r = r
rising_end (y ∷ ys) xs r = rising_end ys xs r.1

module _ {K : Type 0} {R : K → K → Ordering} (o : Exact R) (p : K) (zs : List K) where
  below_it : (y : K) (ys : List K) → AllAbove R y (ys ++ p ∷ zs) → R y p ≡ Less
  below_it y [] a = a.0
  below_it y (x ∷ ys) a = below_it y ys a.1

  -- from an element on stands what doesn't come before it
  pub from_element : (ys : List K) → Rising R (ys ++ p ∷ zs) → p ∷ zs ≡ filter (λ x. not (is_lt (R x p))) (ys ++ p ∷ zs)
  from_element [] r = (at_found o p (p ∷ zs) r zero (omega arith) (λ d. tied_itself o.total p)).1
  from_element (y ∷ ys) r = from_element ys r.1
      ∙ sym (ap (λ c. cond (not (is_lt c)) (y ∷ filter (λ x. not (is_lt (R x p))) (ys ++ p ∷ zs)) (filter (λ x. not (is_lt (R x p))) (ys ++ p ∷ zs)))
      (below_it y ys r.0))
