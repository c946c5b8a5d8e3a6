-- What an index lists after one row comes or goes.
use Rattle.std.proofs.Common.{ℕ, ◌≡◌, ◌≢◌, ◌==◌, ◌&&◌, ◌||◌, not, Bool, true, false, List, refl, ap, sym, ◌∙◌, subst, inl, inr, Result, Ok, Err}
use Rattle.std.specs.List.{filter}
use Rattle.std.specs.Ordering.{is_eq}
use Rattle.std.specs.Result.{OnOk}
use Rattle.std.proofs.lemmas.Bool.{true≢false, eqb-true, eq-eqb, false_from_ne_true, and_parts}
use Rattle.std.proofs.lemmas.Bool.Decides.{eqb_tells}
use Rattle.event_model.specs.declared.operators.Edge.{Edge}
use Rattle.interval_ops.specs.Operators.{edge_of}
use Rattle.ordered_lists.specs.Canon.{has, place, has-place, has-filter}
use Rattle.ev_bind.specs.Rows.{row_cmp, exact_rows, same_rows}
use Rattle.ev_bind.specs.declared.rows.Row.{Row}
use Rattle.goal_store.specs.Places.{place_cmp, place_at, exact_places}
use Rattle.goal_store.specs.Values.{tells, tied, untied}
use Rattle.goal_store.specs.Indexed.{Rows, is_this, also, less, list_of, stands, HaveRows}
use Rattle.goal_store.specs.declared.places.Place.{Place}

or_apart : (s r h : Bool) → (s && r) ≡ false → (s && h) ≡ (s && (r || h))
or_apart true true h e = absurd (true≢false e)
or_apart true false h e = refl
or_apart false r h e = refl

and_apart : (s r h : Bool) → (s && r) ≡ false → (s && h) ≡ (s && (not r && h))
and_apart true true h e = absurd (true≢false e)
and_apart true false h e = refl
and_apart false r h e = refl

module _ (key : ℕ) (edge : Edge) (row : Row) (n : ℕ) where
  abbrev pub here : Place
  here = place_at edge row n

  -- the place of the row under the number
  stands_here : stands key edge (list_of key row) here ≡ true
  stands_here = λ i. eq-eqb (list_of key row) (list_of key row) refl i && eq-eqb (edge_of edge row.span) (edge_of edge row.span) refl i

  stands_there : (h : ℕ) → h ≢ list_of key row → stands key edge h here ≡ false
  stands_there h d = ap (λ b. b && (edge_of edge row.span == edge_of edge row.span))
      (false_from_ne_true (list_of key row == h) (λ e. d (sym (eqb-true (list_of key row) h e))))

  this_here : is_this row n row n ≡ true
  this_here = λ i. tied exact_rows row row refl i && eq-eqb n n refl i

  -- no other place is that of the row under the number
  apart : (h : ℕ) (p : Place) → p ≢ here → (stands key edge h p && is_this row n p.row p.number) ≡ false
  apart h p d = false_from_ne_true _ (λ e.
      let both = and_parts (stands key edge h p) (is_this row n p.row p.number) e in
      let that = and_parts (is_eq (row_cmp p.row row)) (p.number == n) both.1 in
      let edges = (and_parts (list_of key p.row == h) (edge_of edge p.row.span == p.edge) both.0).1 in
      let rows : p.row ≡ row = same_rows p.row row that.0 in
      d (λ i. record {
        edge = (sym (eqb-true (edge_of edge p.row.span) p.edge edges) ∙ ap (λ r. edge_of edge r.span) rows) i;
        row = rows i;
        number = eqb-true p.number n that.1 i;
      }))

  module _ (old new : ℕ → List Place) (others : (h : ℕ) → h ≢ list_of key row → new h ≡ old h) (held : Rows) (was : HaveRows key edge old held) where
    pub have_also : new (list_of key row) ≡ place place_cmp here (old (list_of key row)) → HaveRows key edge new (also row n held)
    have_also placed h p = elim (tells exact_places p here) [
      | inl e ↦ subst (λ z. has place_cmp z (new h) ≡ (stands key edge h z && also row n held z.row z.number)) (sym e) (own h)
      | inr d ↦ has_same h p d ∙ was h p ∙ or_apart (stands key edge h p) (is_this row n p.row p.number) (held p.row p.number) (apart h p d)
    ]
      where
        grown : (p : Place) → has place_cmp p (new (list_of key row)) ≡ (is_eq (place_cmp p here) || has place_cmp p (old (list_of key row)))
        grown p = ap (λ l. has place_cmp p l) placed ∙ has-place exact_places p here (old (list_of key row))

        has_same : (h : ℕ) (p : Place) → p ≢ here → has place_cmp p (new h) ≡ has place_cmp p (old h)
        has_same h p d = elim (eqb_tells h (list_of key row)) [
          | inr c ↦ ap (λ l. has place_cmp p l) (others h c.1)
          | inl c ↦ subst (λ z. has place_cmp p (new z) ≡ has place_cmp p (old z)) (sym c.1)
              (grown p ∙ ap (λ b. b || has place_cmp p (old (list_of key row))) (untied exact_places p here d))
        ]

        own : (h : ℕ) → has place_cmp here (new h) ≡ (stands key edge h here && also row n held row n)
        own h = elim (eqb_tells h (list_of key row)) [
          | inl c ↦ subst (λ z. has place_cmp here (new z) ≡ (stands key edge z here && also row n held row n)) (sym c.1)
              (grown here ∙ ap (λ b. b || has place_cmp here (old (list_of key row))) (tied exact_places here here refl)
              ∙ sym (λ i. stands_here i && (this_here i || held row n)))
          | inr c ↦ ap (λ l. has place_cmp here l) (others h c.1) ∙ was h here ∙ ap (λ b. b && held row n) (stands_there h c.1)
              ∙ sym (ap (λ b. b && also row n held row n) (stands_there h c.1))
        ]

    pub have_less : new (list_of key row) ≡ filter (λ x. not (is_eq (place_cmp here x))) (old (list_of key row))
        → HaveRows key edge new (less row n held)
    have_less rest h p = elim (tells exact_places p here) [
      | inl e ↦ subst (λ z. has place_cmp z (new h) ≡ (stands key edge h z && less row n held z.row z.number)) (sym e) (own h)
      | inr d ↦ has_same h p d ∙ was h p ∙ and_apart (stands key edge h p) (is_this row n p.row p.number) (held p.row p.number) (apart h p d)
    ]
      where
        left : (p : Place) → has place_cmp p (new (list_of key row))
            ≡ (not (is_eq (place_cmp here p)) && has place_cmp p (old (list_of key row)))
        left p = ap (λ l. has place_cmp p l) rest
            ∙ has-filter exact_places (λ x. not (is_eq (place_cmp here x))) p (old (list_of key row))

        has_same : (h : ℕ) (p : Place) → p ≢ here → has place_cmp p (new h) ≡ has place_cmp p (old h)
        has_same h p d = elim (eqb_tells h (list_of key row)) [
          | inr c ↦ ap (λ l. has place_cmp p l) (others h c.1)
          | inl c ↦ subst (λ z. has place_cmp p (new z) ≡ has place_cmp p (old z)) (sym c.1)
              (left p ∙ ap (λ b. not b && has place_cmp p (old (list_of key row))) (untied exact_places here p (λ e. d (sym e))))
        ]

        none : (s h : Bool) → s ≡ false → (s && h) ≡ false
        none s h e = ap (λ b. b && h) e

        gone : (s : Bool) → (s && less row n held row n) ≡ false
        gone true = ap (λ b. not b && held row n) this_here
        gone false = refl

        own : (h : ℕ) → has place_cmp here (new h) ≡ (stands key edge h here && less row n held row n)
        own h = elim (eqb_tells h (list_of key row)) [
          | inl c ↦ subst (λ z. has place_cmp here (new z) ≡ (stands key edge z here && less row n held row n)) (sym c.1)
              (left here ∙ ap (λ b. not b && has place_cmp here (old (list_of key row))) (tied exact_places here here refl)
              ∙ sym (gone (stands key edge (list_of key row) here)))
          | inr c ↦ ap (λ l. has place_cmp here l) (others h c.1) ∙ was h here ∙ none (stands key edge h here) (held row n) (stands_there h c.1)
              ∙ sym (gone (stands key edge h here))
        ]

-- where nothing changed
pub have_same : (key : ℕ) (edge : Edge) (old new : ℕ → List Place) → ((h : ℕ) → new h ≡ old h) → (held : Rows)
    → HaveRows key edge old held → HaveRows key edge new held
have_same key edge old new same held was h p = ap (λ l. has place_cmp p l) (same h) ∙ was h p

-- the same of numbers that were computed
module _ (key : ℕ) (edge : Edge) (row : Row) (n time code : ℕ) (e : time ≡ edge_of edge row.span) (f : code ≡ list_of key row)
    (old new : ℕ → List Place) (others : (h : ℕ) → h ≢ code → new h ≡ old h) (held : Rows) (was : HaveRows key edge old held) where
  abbrev pub at_time : ℕ → Place
  at_time t = record { edge = t; row = row; number = n }

  pub also_from : new code ≡ place place_cmp (at_time time) (old code) → HaveRows key edge new (also row n held)
  also_from placed = have_also key edge row n old new (subst (λ z. (h : ℕ) → h ≢ z → new h ≡ old h) f others) held was
      (subst (λ z. new z ≡ place place_cmp (at_time (edge_of edge row.span)) (old z)) f
      (subst (λ t. new code ≡ place place_cmp (at_time t) (old code)) e placed))

  pub less_from : new code ≡ filter (λ x. not (is_eq (place_cmp (at_time time) x))) (old code) → HaveRows key edge new (less row n held)
  less_from rest = have_less key edge row n old new (subst (λ z. (h : ℕ) → h ≢ z → new h ≡ old h) f others) held was
      (subst (λ z. new z ≡ filter (λ x. not (is_eq (place_cmp (at_time (edge_of edge row.span)) x))) (old z)) f
      (subst (λ t. new code ≡ filter (λ x. not (is_eq (place_cmp (at_time t) x))) (old code)) e rest))

  pub same_from : new code ≡ old code → HaveRows key edge new held
  same_from here = have_same key edge old new
      (λ h. elim (eqb_tells h code) [ inl c ↦ subst (λ z. new z ≡ old z) (sym c.1) here | inr d ↦ others h d.1 ]) held was

-- the same of what an insertion answers, with a copy of the row
pub also_result : {A E : Type 0} (r : Result A E) (key : ℕ) (edge : Edge) (row : Row) (n time code : ℕ) → time ≡ edge_of edge row.span
    → code ≡ list_of key row → (old new : ℕ → List Place) → ((h : ℕ) → h ≢ code → new h ≡ old h) → (held : Rows)
    → HaveRows key edge old held → (copy : Row) → copy ≡ row
    → OnOk r (new code ≡ place place_cmp (record { edge = time; row = copy; number = n }) (old code))
    → OnOk r (HaveRows key edge new (also row n held))
also_result (Err x) key edge row n time code e f old new others held was copy same placed = placed
also_result (Ok x) key edge row n time code e f old new others held was copy same placed =
    also_from key edge row n time code e f old new others held was
    (subst (λ c. new code ≡ place place_cmp (record { edge = time; row = c; number = n }) (old code)) same placed)
