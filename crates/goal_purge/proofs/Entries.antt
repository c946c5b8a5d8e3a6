-- Entries of expiries, which come and go.
use Rattle.std.specs.Prelude.{ℕ, ◌≡◌, ◌<◌, ◌≤◌, ◌==◌, ◌&&◌, ◌||◌, refl, Bool, true, false, not, cond, Option, Some, List, [], ◌∷◌, length}
use Rattle.std.specs.BTreeSet.{Updates, IsLowerBound}
use Rattle.std.specs.Option.{option_map_or}
use Rattle.std.specs.Ordering.{nat_cmp, ordering_then, ordering_reverse, is_eq, is_gt}
use Rattle.std.specs.declared.cmp.Ordering.{Ordering}
use Rattle.std.specs.declared.cmp.Ordering.TheVariants.{Less, Equal, Greater}
use Rattle.std.proofs.Common.{ap, sym, ◌∙◌, arith}
use Rattle.std.proofs.lemmas.Bool.{true≢false, false_from_ne_true}
use Rattle.std.proofs.lemmas.Bool.Decides.{nat_tests}
use Rattle.ordered_lists.specs.Canon.{has}
use Rattle.event_model.specs.Spans.{PlainSpan}
use Rattle.ev_bind.specs.Rows.{row_cmp, exact_rows}
use Rattle.ev_bind.specs.declared.rows.Row.{Row}
use Rattle.row_changes.specs.declared.caps.Reach.{Reach}
use Rattle.goal_purge.specs.Expiring.{due, expires_at, expiry, expiry_cmp}
use Rattle.goal_purge.specs.declared.expiries.Expiries.{Expiries}
use Rattle.goal_purge.specs.declared.expiries.Expiry.{Expiry}

-- ---- truths in another order

pub last_first : (a b k : Bool) → (a && (b && k)) ≡ (b && (k && a))
last_first true true true = refl
last_first true true false = refl
last_first true false k = refl
last_first false true true = refl
last_first false true false = refl
last_first false false k = refl

either : (a b : Bool) → (a && b) ≡ (b && a)
either true true = refl
either true false = refl
either false true = refl
either false false = refl

-- ---- whether two entries tie

is_eq_then : (o p : Ordering) → is_eq (ordering_then o p) ≡ (is_eq o && is_eq p)
is_eq_then Less p = refl
is_eq_then Equal p = refl
is_eq_then Greater p = refl

reversed : (o : Ordering) → is_eq (ordering_reverse o) ≡ is_eq o
reversed Less = refl
reversed Equal = refl
reversed Greater = refl

rows_back : (x y : Row) → is_eq (row_cmp x y) ≡ is_eq (row_cmp y x)
rows_back x y = ap is_eq (exact_rows.total.antisymm x y) ∙ reversed (row_cmp y x)

numbers_back : (m n : ℕ) → is_eq (nat_cmp m n) ≡ (n == m)
numbers_back m n = grind (arith, nat_tests)

-- step s has the row r under the bound d
abbrev entry : ℕ → ℕ → Row → Expiry
entry d s r = record { bound = d; row = r; step = s }

ties : (x : Expiry) (d s : ℕ) (r : Row)
    → is_eq (expiry_cmp x (entry d s r)) ≡ (d == x.bound && (s == x.step && is_eq (row_cmp r x.row)))
ties x d s r =
    is_eq_then (nat_cmp x.bound d) (ordering_then (row_cmp x.row r) (nat_cmp x.step s))
    ∙ ap (λ t. is_eq (nat_cmp x.bound d) && t) (is_eq_then (row_cmp x.row r) (nat_cmp x.step s))
    ∙ ap (λ t. is_eq (nat_cmp x.bound d) && t) (either (is_eq (row_cmp x.row r)) (is_eq (nat_cmp x.step s)))
    ∙ (λ i. numbers_back x.bound d i && (numbers_back x.step s i && rows_back x.row r i))

-- ---- an entry comes or goes

there : (b : Bool) (h : Bool) → cond b true h ≡ (b || h)
there true h = refl
there false h = refl

away : (b : Bool) (h : Bool) → cond b false h ≡ (not b && h)
away true h = refl
away false h = refl

-- the same as `ties`, where a row with this span expires at the entry's bound
ties_expiring : (x : Expiry) (cap : Option ℕ) (reach : Reach) (span : PlainSpan) → expiry cap reach span ≡ Some x.bound
    → (d s : ℕ) (r : Row) → is_eq (expiry_cmp x (entry d s r))
    ≡ (s == x.step && (is_eq (row_cmp r x.row) && expires_at cap reach span d))
ties_expiring x cap reach span e d s r =
    ties x d s r ∙ last_first (d == x.bound) (s == x.step) (is_eq (row_cmp r x.row))
    ∙ ap (λ t. s == x.step && (is_eq (row_cmp r x.row) && t)) (back d x.bound ∙ sym (ap (λ o. option_map_or (λ y. y == d) o false) e))
  where
    back : (m n : ℕ) → (m == n) ≡ (n == m)
    back m n = grind (arith, nat_tests)

module _ (old new : Expiries) (cap : Option ℕ) (reach : Reach) (span : PlainSpan) (bound step : ℕ) (row' row : Row)
    (same : row' ≡ row) (e : Some bound ≡ expiry cap reach span) where
  abbrev here : Expiry
  here = record { bound = bound; row = row'; step = step }

  pub put_in : Updates expiry_cmp old.entries new.entries here true → (d s : ℕ) (r : Row)
      → due new d s r ≡ ((s == step && (is_eq (row_cmp r row) && expires_at cap reach span d)) || due old d s r)
  unfolding due
  put_in up d s r =
      up.0 (entry d s r) ∙ there (is_eq (expiry_cmp here (entry d s r))) (has expiry_cmp (entry d s r) old.entries.keys)
      ∙ ap (λ t. t || has expiry_cmp (entry d s r) old.entries.keys)
      (ties_expiring here cap reach span (sym e) d s r ∙ ap (λ z. s == step && (is_eq (row_cmp r z) && expires_at cap reach span d)) same)

  pub taken_out : Updates expiry_cmp old.entries new.entries here false → (d s : ℕ) (r : Row)
      → due new d s r ≡ (not (s == step && (is_eq (row_cmp r row) && expires_at cap reach span d)) && due old d s r)
  unfolding due
  taken_out up d s r =
      up.0 (entry d s r) ∙ away (is_eq (expiry_cmp here (entry d s r))) (has expiry_cmp (entry d s r) old.entries.keys)
      ∙ ap (λ t. not t && has expiry_cmp (entry d s r) old.entries.keys)
      (ties_expiring here cap reach span (sym e) d s r ∙ ap (λ z. s == step && (is_eq (row_cmp r z) && expires_at cap reach span d)) same)

-- ---- the first entry

-- nothing is due where there is no entry
pub empty_due : (e : Expiries) → e.entries.keys ≡ [] → (d s : ℕ) (r : Row) → due e d s r ≡ false
unfolding due
empty_due e none d s r = ap (has expiry_cmp (entry d s r)) none

pub bare_due : (e : Expiries) → (0 < length e.entries.keys → ⊥) → (d s : ℕ) (r : Row) → due e d s r ≡ false
bare_due e none = empty_due e (at e.entries.keys none)
  where
    at : (ks : List Expiry) → (0 < length ks → ⊥) → ks ≡ []
    at [] none = refl
    at (k ∷ ks) none = absurd (none (omega arith))

pub member_due : (e : Expiries) (x : Expiry) → has expiry_cmp x e.entries.keys ≡ true → due e x.bound x.step x.row ≡ true
unfolding due
member_due e x h = h

module _ (old new : Expiries) (x : Expiry) where
  pub popped : Updates expiry_cmp old.entries new.entries x false → (d s : ℕ) (r : Row)
      → due new d s r ≡ (not (d == x.bound && (s == x.step && is_eq (row_cmp r x.row))) && due old d s r)
  unfolding due
  popped up d s r =
      up.0 (entry d s r)
      ∙ away (is_eq (expiry_cmp x (entry d s r))) (has expiry_cmp (entry d s r) old.entries.keys)
      ∙ ap (λ t. not t && has expiry_cmp (entry d s r) old.entries.keys) (ties x d s r)

-- one that isn't after another has no greater bound
first_bound : (x y : Expiry) → is_gt (expiry_cmp x y) ≡ false → x.bound ≤ y.bound
first_bound x y h = at (nat_cmp x.bound y.bound) refl h
  where
    at : (o : Ordering) → nat_cmp x.bound y.bound ≡ o
        → is_gt (ordering_then o (ordering_then (row_cmp x.row y.row) (nat_cmp x.step y.step))) ≡ false → x.bound ≤ y.bound
    at Less e h = grind (arith, nat_tests)
    at Equal e h = grind (arith, nat_tests)
    at Greater e h = absurd (true≢false h)

pub lower_bound : (old : Expiries) (x y : Expiry) → IsLowerBound expiry_cmp old.entries x → has expiry_cmp y old.entries.keys ≡ true
    → x.bound ≤ y.bound
lower_bound old x y least h = first_bound x y (least y h)

pub none_due : (old : Expiries) (x : Expiry) (bound : ℕ) → IsLowerBound expiry_cmp old.entries x → bound < x.bound
    → (d s : ℕ) (r : Row) → d ≤ bound → due old d s r ≡ false
unfolding due
none_due old x bound least l d s r le = false_from_ne_true (has expiry_cmp (entry d s r) old.entries.keys) (λ h.
    let k : x.bound ≤ d = lower_bound old x (entry d s r) least h in omega (arith, k, l, le))
