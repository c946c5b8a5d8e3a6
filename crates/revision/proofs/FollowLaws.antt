-- The expiries follow the rows that come and go: those of the rows before become those of the rows after.
use Rattle.std.specs.Prelude.{ℕ, ◌≡◌, ◌≢◌, ◌+◌, ◌<◌, ◌≤◌, ◌==◌, refl, Bool, true, false, ◌&&◌, ◌||◌, if◌then◌else◌, Option, List, [], ◌∷◌, length, map, get_or}
use Rattle.std.specs.Ordering.{is_eq}
use Rattle.std.specs.declared.alloc.Global.{Global}
use Rattle.std.specs.declared.vec.Vec.{Vec}
use Rattle.std.proofs.Common.{ap, sym, ◌∙◌, arith, inl, inr, ◌⊎◌}
use Rattle.std.proofs.lemmas.Bool.{cases_lt}
use Rattle.std.proofs.lemmas.Bool.Decides.{nat_tests}
use Rattle.std.proofs.lemmas.Option.{slice_get_past, slice_get_read}
use Rattle.ordered_lists.specs.Canon.{has}
use Rattle.event_changes.specs.declared.changes.Sign.{Sign}
use Rattle.event_changes.specs.declared.changes.Sign.TheVariants.{Plus, Minus}
use Rattle.ev_bind.specs.Rows.{row_cmp, same_rows}
use Rattle.ev_bind.specs.declared.rows.Row.{Row}
use Rattle.row_changes.specs.Changes.{SignedRow, signed_row, changed, deltas}
use Rattle.row_changes.specs.declared.caps.Reach.{Reach}
use Rattle.change_meaning.specs.Caps.{PlainCaps}
use Rattle.change_meaning.proofs.Sums.{unchanged}
use Rattle.goal_purge.specs.Expiring.{expires_at, due, Follows}
use Rattle.goal_purge.specs.declared.expiries.Expiries.{Expiries}
use Rattle.step_changes.specs.Deltas.{plain_deltas}
use Rattle.step_changes.specs.declared.deltas.Delta.{Delta}
use Rattle.step_work.specs.Seen.{items_or_none}
use Rattle.revision.specs.Following.{follow, due_one, due_all, due_step}
use Rattle.revision.specs.Lists.{rows_at}

follow_none : (t : Sign) (was : Bool) → follow t false was ≡ was
follow_none Plus was = refl
follow_none Minus was = refl

-- ---- the rows of other steps

one_other : (cap : Option ℕ) (reach : Reach) (step d s : ℕ) (r : Row) (x : SignedRow) (was : Bool) → s ≢ step
    → due_one cap reach step d s r x was ≡ was
one_other cap reach step d s r x was n =
    let other : (s == step) ≡ false = grind (arith, nat_tests) in
    ap (λ b. follow x.sign (b && (is_eq (row_cmp r x.row) && expires_at cap reach x.row.span d)) was) other ∙ follow_none x.sign was

pub due_other : (cap : Option ℕ) (reach : Reach) (step d s : ℕ) (r : Row) (xs : List SignedRow) (was : Bool) → s ≢ step
    → due_all cap reach step d s r xs was ≡ was
due_other cap reach step d s r [] was n = refl
due_other cap reach step d s r (x ∷ xs) was n =
    ap (due_all cap reach step d s r xs) (one_other cap reach step d s r x was n) ∙ due_other cap reach step d s r xs was n

-- ---- the rows of a step

both_follow : (t : Sign) (had e : Bool) → follow t e (had && e) ≡ (follow t true had && e)
both_follow Plus true true = refl
both_follow Plus true false = refl
both_follow Plus false true = refl
both_follow Plus false false = refl
both_follow Minus true true = refl
both_follow Minus true false = refl
both_follow Minus false true = refl
both_follow Minus false false = refl

module _ (cap : Option ℕ) (reach : Reach) (d s : ℕ) (r : Row) where
  abbrev expires : Row → Bool
  expires x = expires_at cap reach x.span d

  own_one : (x : SignedRow) (had : Bool)
      → due_one cap reach s d s r x (had && expires r) ≡ (follow x.sign (is_eq (row_cmp r x.row)) had && expires r)
  own_one x had =
      let own : (s == s) ≡ true = grind (arith, nat_tests) in
      ap (λ b. follow x.sign (b && (is_eq (row_cmp r x.row) && expires x.row)) (had && expires r)) own
      ∙ at (is_eq (row_cmp r x.row)) refl
    where
      at : (b : Bool) → is_eq (row_cmp r x.row) ≡ b
          → follow x.sign (b && expires x.row) (had && expires r) ≡ (follow x.sign b had && expires r)
      at true e =
          ap (λ y. follow x.sign (expires y) (had && expires r)) (sym (same_rows r x.row e)) ∙ both_follow x.sign had (expires r)
      at false e = follow_none x.sign (had && expires r) ∙ ap (λ b. b && expires r) (sym (follow_none x.sign had))

  -- a row that has come or gone is there where it is afterwards
  follow_changed : (after : List Row) (x : Row) (rest had : Bool)
      → (if rest then has row_cmp r after else follow (signed_row after x).sign (is_eq (row_cmp r x)) had)
      ≡ (if is_eq (row_cmp r x) || rest then has row_cmp r after else had)
  follow_changed after x rest had = at (is_eq (row_cmp r x)) rest refl
    where
      comes : (b : Bool) → follow (if b then Plus else Minus) true had ≡ b
      comes true = refl
      comes false = refl

      at : (b c : Bool) → is_eq (row_cmp r x) ≡ b
          → (if c then has row_cmp r after else follow (signed_row after x).sign b had) ≡ (if b || c then has row_cmp r after else had)
      at true true e = refl
      at false true e = refl
      at true false e = comes (has row_cmp x after) ∙ ap (λ y. has row_cmp y after) (sym (same_rows r x e))
      at false false e = follow_none (signed_row after x).sign had

  own_all : (after rows : List Row) (had : Bool) → due_all cap reach s d s r (map (signed_row after) rows) (had && expires r)
      ≡ ((if has row_cmp r rows then has row_cmp r after else had) && expires r)
  own_all after [] had = refl
  own_all after (x ∷ rows) had =
      ap (due_all cap reach s d s r (map (signed_row after) rows)) (own_one (signed_row after x) had)
      ∙ own_all after rows (follow (signed_row after x).sign (is_eq (row_cmp r x)) had)
      ∙ ap (λ b. b && expires r) (follow_changed after x (has row_cmp r rows) had)

  due_changed : (before after : List Row)
      → due_all cap reach s d s r (deltas before after) (has row_cmp r before && expires r) ≡ (has row_cmp r after && expires r)
  due_changed before after =
      own_all after (changed before after) (has row_cmp r before)
      ∙ ap (λ b. b && expires r) (at (has row_cmp r (changed before after)) refl)
    where
      at : (b : Bool) → has row_cmp r (changed before after) ≡ b
          → (if b then has row_cmp r after else has row_cmp r before) ≡ has row_cmp r after
      at true e = refl
      at false e = unchanged before after r e

-- ---- the steps one after the other

pub rows_read : (lists : List (Vec Delta Global)) (n : ℕ) (v : Vec Delta Global) → n < length lists → v ≡ get_or lists n v
    → rows_at lists n ≡ plain_deltas v.items
rows_read lists n v lt e = ap (λ o. plain_deltas (items_or_none o)) (slice_get_read lists (length lists) n v refl lt e)

pub rows_past : (lists : List (Vec Delta Global)) (n : ℕ) → length lists ≤ n → rows_at lists n ≡ []
rows_past lists n le = ap (λ o. plain_deltas (items_or_none o)) (slice_get_past lists n le)

module _ (caps : PlainCaps) (lists : List (Vec Delta Global)) (n : ℕ) (start old : Expiries)
    (behind : (d s : ℕ) (r : Row) → s < n → due old d s r ≡ due_step caps lists d s r (due start d s r))
    (ahead : (d s : ℕ) (r : Row) → n ≤ s → due old d s r ≡ due start d s r) where
  module _ (new : Expiries) (this : (d s : ℕ) (r : Row)
      → due new d s r ≡ due_all (caps.cap n) (caps.reach n) n d s r (rows_at lists n) (due old d s r)) where
    pub behind_next : (d s : ℕ) (r : Row) → s < n + 1 → due new d s r ≡ due_step caps lists d s r (due start d s r)
    behind_next d s r lt = this d s r ∙ at (cases_lt s n)
      where
        at : (s < n) ⊎ (n ≤ s) → due_all (caps.cap n) (caps.reach n) n d s r (rows_at lists n) (due old d s r)
            ≡ due_step caps lists d s r (due start d s r)
        at (inl less) =
            due_other (caps.cap n) (caps.reach n) n d s r (rows_at lists n) (due old d s r) (λ e. omega (arith, less, e)) ∙ behind d s r less
        at (inr le) =
            let same : n ≡ s = omega (arith, lt, le) in
            (λ i. due_all (caps.cap (same i)) (caps.reach (same i)) (same i) d s r (rows_at lists (same i)) (ahead d s r le i))

    pub ahead_next : (d s : ℕ) (r : Row) → n + 1 ≤ s → due new d s r ≡ due start d s r
    ahead_next d s r le =
        this d s r
        ∙ due_other (caps.cap n) (caps.reach n) n d s r (rows_at lists n) (due old d s r) (λ e. omega (arith, le, e))
        ∙ (let more : n ≤ s = omega (arith, le) in ahead d s r more)

  pub all_behind : length lists ≤ n → (d s : ℕ) (r : Row) → due old d s r ≡ due_step caps lists d s r (due start d s r)
  all_behind past d s r = at (cases_lt s n)
    where
      at : (s < n) ⊎ (n ≤ s) → due old d s r ≡ due_step caps lists d s r (due start d s r)
      at (inl lt) = behind d s r lt
      at (inr le) =
          let none : length lists ≤ s = omega (arith, past, le) in
          ahead d s r le
          ∙ ap (λ xs. due_all (caps.cap s) (caps.reach s) s d s r xs (due start d s r)) (sym (rows_past lists s none))

-- ---- all steps

-- these rows came and went from those before to those after, or none did
abbrev pub Changes : List SignedRow → (before after : List Row) → Type 0
Changes xs before after = (xs ≡ deltas before after) ⊎ ((xs ≡ []) × (after ≡ before))

pub followed : (caps : PlainCaps) (lists : List (Vec Delta Global)) (before after : ℕ → List Row) (old new : Expiries)
    → ((s : ℕ) → Changes (rows_at lists s) (before s) (after s)) → Follows caps (λ s r. has row_cmp r (before s)) old
    → ((d s : ℕ) (r : Row) → due new d s r ≡ due_step caps lists d s r (due old d s r))
    → Follows caps (λ s r. has row_cmp r (after s)) new
followed caps lists before after old new changes follows is d s r =
    is d s r
    ∙ ap (due_step caps lists d s r) (follows d s r)
    ∙ at (rows_at lists s) (before s) (after s) (changes s)
  where
    at : (xs : List SignedRow) (was now : List Row) → Changes xs was now
        → due_all (caps.cap s) (caps.reach s) s d s r xs (has row_cmp r was && expires_at (caps.cap s) (caps.reach s) r.span d)
        ≡ (has row_cmp r now && expires_at (caps.cap s) (caps.reach s) r.span d)
    at xs was now (inl e) =
        ap (λ ys. due_all (caps.cap s) (caps.reach s) s d s r ys (has row_cmp r was && expires_at (caps.cap s) (caps.reach s) r.span d)) e
        ∙ due_changed (caps.cap s) (caps.reach s) d s r was now
    at xs was now (inr e) =
        ap (λ ys. due_all (caps.cap s) (caps.reach s) s d s r ys (has row_cmp r was && expires_at (caps.cap s) (caps.reach s) r.span d)) e.0
        ∙ ap (λ rows. has row_cmp r rows && expires_at (caps.cap s) (caps.reach s) r.span d) (sym e.1)
