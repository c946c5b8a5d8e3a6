-- Laws of expiries: what they say of the rows that are kept, and how `Follows` goes along with the rows of the steps.
use Rattle.std.specs.Prelude.{ℕ, ◌≡◌, ◌+◌, ◌-◌, ◌^◌, ◌<◌, ◌≤◌, ◌==◌, ◌&&◌, ◌||◌, refl, Bool, true, false, not, max, nat_le, nat_lt, if◌then◌else◌, Option, Some, None}
use Rattle.std.specs.Option.{option_map_or}
use Rattle.std.specs.Ordering.{is_eq}
use Rattle.std.proofs.Common.{ap, sym, ◌∙◌, arith}
use Rattle.std.proofs.Math.Bool.{or-false}
use Rattle.std.proofs.lemmas.Bool.{true≢false}
use Rattle.std.proofs.lemmas.Bool.Decides.{nat_tests}
use Rattle.event_model.specs.Spans.{PlainSpan}
use Rattle.ev_bind.specs.Rows.{row_cmp, same_rows}
use Rattle.ev_bind.specs.declared.rows.Row.{Row}
use Rattle.row_changes.specs.declared.caps.Reach.{Reach}
use Rattle.row_changes.specs.declared.caps.Reach.TheVariants.{NoUser, Limit, Free}
use Rattle.row_changes.specs.Kept.{under, within, kept}
use Rattle.change_meaning.specs.Caps.{PlainCaps}
use Rattle.goal_purge.specs.Expiring.{after, due, expires_at, expiry, next, with_row, without_row, Follows}
use Rattle.goal_purge.specs.declared.expiries.Expiries.{Expiries}

-- ---- an expiry is the first bound at which a row isn't kept

or_true : (b : Bool) → true ≡ (b || true)
or_true true = refl
or_true false = refl

module _ (b : ℕ) (small : b < 2 ^ 64) where
  next_tells : (n : ℕ) → option_map_or (λ d. nat_lt b d) (next n) true ≡ nat_le b n
  next_tells n = at (nat_lt (n + 1) (2 ^ 64)) refl
    where
      at : (t : Bool) → nat_lt (n + 1) (2 ^ 64) ≡ t
          → option_map_or (λ d. nat_lt b d) (if t then Some (n + 1) else None) true ≡ nat_le b n
      at true e = grind (arith, nat_tests)
      at false e = grind (arith, nat_tests)

  after_tells : (reach : Reach) (s : PlainSpan)
      → option_map_or (λ d. nat_lt b d) (after reach s) true ≡ (nat_le b s.end || within reach (b - s.start))
  after_tells NoUser s = next_tells s.end ∙ sym (or-false (nat_le b s.end))
  after_tells (Limit c) s = next_tells (max (s.start + c) s.end) ∙ later
    where
      later : nat_le b (max (s.start + c) s.end) ≡ (nat_le b s.end || nat_le (b - s.start) c)
      later = grind (arith, nat_tests)
  after_tells Free s = or_true (nat_le b s.end)

  -- a row is kept at the bounds below its expiry
  pub kept_until : (cap : Option ℕ) (reach : Reach) (s : PlainSpan)
      → kept cap reach b s ≡ option_map_or (λ d. nat_lt b d) (expiry cap reach s) true
  kept_until cap reach s = at (under cap (s.end - s.start))
    where
      at : (t : Bool) → (t && (nat_le b s.end || within reach (b - s.start)))
          ≡ option_map_or (λ d. nat_lt b d) (if t then after reach s else Some 0) true
      at true = sym (after_tells reach s)
      at false = grind (arith, nat_tests)

  module _ (cap : Option ℕ) (reach : Reach) (s : PlainSpan) where
    -- no longer at its expiry and later
    pub gone_at : (d : ℕ) → d ≤ b → expires_at cap reach s d ≡ true → kept cap reach b s ≡ false
    gone_at d l e = kept_until cap reach s ∙ at (expiry cap reach s) e
      where
        at : (o : Option ℕ) → option_map_or (λ x. x == d) o false ≡ true → option_map_or (λ x. nat_lt b x) o true ≡ false
        at None e = absurd (true≢false (sym e))
        at (Some x) e = grind (arith, nat_tests)

    -- where it expires at no bound up to this one
    pub kept_at : ((d : ℕ) → d ≤ b → expires_at cap reach s d ≡ false) → kept cap reach b s ≡ true
    kept_at none = kept_until cap reach s ∙ at (expiry cap reach s) none
      where
        at : (o : Option ℕ) → ((d : ℕ) → d ≤ b → option_map_or (λ x. x == d) o false ≡ false)
            → option_map_or (λ x. nat_lt b x) o true ≡ true
        at None none = refl
        at (Some x) none = by (nat_lt b x) refl
          where
            by : (t : Bool) → nat_lt b x ≡ t → t ≡ true
            by true e = refl
            by false e =
                let l : x ≤ b = grind (arith, nat_tests) in
                let f : (x == x) ≡ false = none x l in
                let g : (x == x) ≡ true = grind (arith, nat_tests) in
                absurd (true≢false (sym g ∙ f))

-- a row expires at one bound
pub one_expiry : (cap : Option ℕ) (reach : Reach) (s : PlainSpan) (b d : ℕ) → expires_at cap reach s b ≡ true
    → expires_at cap reach s d ≡ (d == b)
one_expiry cap reach s b d e = at (expiry cap reach s) e
  where
    at : (o : Option ℕ) → option_map_or (λ x. x == b) o false ≡ true → option_map_or (λ x. x == d) o false ≡ (d == b)
    at None e = absurd (true≢false (sym e))
    at (Some x) e = grind (arith, nat_tests)

-- ---- the rows of the steps change

module _ (caps : PlainCaps) where
  -- a row expires by the cap and the reach of its step
  abbrev pub goes_at : ℕ → ℕ → Row → Bool
  goes_at d s r = expires_at (caps.cap s) (caps.reach s) r.span d

  -- the same rows
  pub follows_same : (had had' : ℕ → Row → Bool) (e : Expiries) → ((s : ℕ) (r : Row) → had' s r ≡ had s r) → Follows caps had e
      → Follows caps had' e
  follows_same had had' e same h d s r = h d s r ∙ ap (λ t. t && goes_at d s r) (sym (same s r))

  -- no row
  pub follows_none : (had : ℕ → Row → Bool) (e : Expiries) → ((d s : ℕ) (r : Row) → due e d s r ≡ false)
      → ((s : ℕ) (r : Row) → had s r ≡ false) → Follows caps had e
  follows_none had e none absent d s r = none d s r ∙ ap (λ t. t && goes_at d s r) (sym (absent s r))

  module _ (had : ℕ → Row → Bool) (old new : Expiries) (step : ℕ) (row : Row) (h : Follows caps had old) where
    -- the row of the step and no other
    here : (d s : ℕ) (r : Row) → (s == step) ≡ true → is_eq (row_cmp r row) ≡ true → goes_at d step row ≡ goes_at d s r
    here d s r t q =
        let e : s ≡ step = grind (arith, nat_tests) in
        λ i. goes_at d (sym e i) (sym (same_rows r row q) i)

    -- one row more
    pub follows_with : (cap : Option ℕ) (reach : Reach) → cap ≡ caps.cap step → reach ≡ caps.reach step
        → ((d s : ℕ) (r : Row) → due new d s r
        ≡ ((s == step && (is_eq (row_cmp r row) && expires_at cap reach row.span d)) || due old d s r))
        → Follows caps (with_row step row had) new
    follows_with cap reach ce re more d s r =
        more d s r ∙ (λ i. (s == step && (is_eq (row_cmp r row) && expires_at (ce i) (re i) row.span d)) || h d s r i)
        ∙ at (s == step) (is_eq (row_cmp r row)) (goes_at d step row) (goes_at d s r) (had s r) (here d s r)
      where
        at : (t q x y k : Bool) → (t ≡ true → q ≡ true → x ≡ y) → ((t && (q && x)) || (k && y)) ≡ (((t && q) || k) && y)
        at true true x y k same = ap (λ z. z || (k && y)) (same refl refl) ∙ by y k
          where
            by : (y k : Bool) → (y || (k && y)) ≡ y
            by true k = refl
            by false true = refl
            by false false = refl
        at true false x y k same = refl
        at false q x y k same = refl

    -- one row less
    pub follows_without : (cap : Option ℕ) (reach : Reach) → cap ≡ caps.cap step → reach ≡ caps.reach step
        → ((d s : ℕ) (r : Row) → due new d s r
        ≡ (not (s == step && (is_eq (row_cmp r row) && expires_at cap reach row.span d)) && due old d s r))
        → Follows caps (without_row step row had) new
    follows_without cap reach ce re less d s r =
        less d s r ∙ (λ i. not (s == step && (is_eq (row_cmp r row) && expires_at (ce i) (re i) row.span d)) && h d s r i)
        ∙ at (s == step) (is_eq (row_cmp r row)) (goes_at d step row) (goes_at d s r) (had s r) (here d s r)
      where
        at : (t q x y k : Bool) → (t ≡ true → q ≡ true → x ≡ y) → (not (t && (q && x)) && (k && y)) ≡ ((not (t && q) && k) && y)
        at true true x y k same = ap (λ z. not z && (k && y)) (same refl refl) ∙ by y k
          where
            by : (y k : Bool) → (not y && (k && y)) ≡ false
            by true k = refl
            by false true = refl
            by false false = refl
        at true false x y k same = refl
        at false q x y k same = refl
