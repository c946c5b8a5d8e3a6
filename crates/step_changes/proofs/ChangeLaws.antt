-- Changed rows, one after the other, and what is held with them.
use Rattle.std.proofs.Common.{◌≡◌, refl, ap, sym, ◌∙◌, ℕ, ◌+◌, ◌==◌, ◌&&◌, is_some, Bool, true, false, List, [], ◌∷◌, ◌++◌, Option, Some, None, Result, Ok, Err, OnOk, IfSome, IsSome, cond, if◌then◌else◌, arith}
use Rattle.std.proofs.lemmas.Bool.{true≢false}
use Rattle.std.specs.Ordering.{is_eq, is_gt, ordering_reverse}
use Rattle.std.specs.declared.cmp.Ordering.{Ordering}
use Rattle.std.specs.declared.cmp.Ordering.TheVariants.{Less, Equal, Greater}
use Rattle.ordered_lists.specs.Canon.{Rising, AllAbove}
use Rattle.event_changes.specs.declared.changes.Sign.{Sign}
use Rattle.event_changes.specs.declared.changes.Sign.TheVariants.{Plus, Minus}
use Rattle.ev_bind.specs.Rows.{row_cmp, exact_rows}
use Rattle.ev_bind.specs.declared.rows.Row.{Row}
use Rattle.step_changes.specs.RowCases.{is_other, is_same}
use Rattle.row_changes.specs.Changes.{SignedRow, delta_rows, sign_in, change}
use Rattle.row_changes.specs.Visits.{tally, same_sign}
use Rattle.support_table.specs.declared.kept.Supports.{Supports}
use Rattle.support_table.specs.Supports.{Counts, SameCounts}
use Rattle.step_changes.specs.declared.deltas.Delta.{Delta}
use Rattle.step_changes.specs.Deltas.{plain_delta, plain_deltas}
use Rattle.step_changes.specs.Pushes.{or_sign, AllUnder}

-- ---- one more changed row

sign-append : (r : Row) (ds : List SignedRow) (d : SignedRow)
    → sign_in r (ds ++ d ∷ []) ≡ or_sign (sign_in r ds) (if is_eq (row_cmp r d.row) then Some d.sign else None)
sign-append r [] d = refl
sign-append r (x ∷ ds) d = at (is_eq (row_cmp r x.row)) (sign-append r ds d)
  where
    at : (b : Bool) → sign_in r (ds ++ d ∷ []) ≡ or_sign (sign_in r ds) (if is_eq (row_cmp r d.row) then Some d.sign else None)
        → (if b then Some x.sign else sign_in r (ds ++ d ∷ []))
        ≡ or_sign (if b then Some x.sign else sign_in r ds) (if is_eq (row_cmp r d.row) then Some d.sign else None)
    at true i = refl
    at false i = i

or_none : (o : Option Sign) → or_sign o None ≡ o
or_none None = refl
or_none (Some s) = refl

pub sign_here : (r : Row) (ds : List SignedRow) (d : SignedRow) → r ≡ d.row → sign_in r (ds ++ d ∷ []) ≡ or_sign (sign_in r ds) (Some d.sign)
sign_here r ds d e = sign-append r ds d ∙ ap (λ b. or_sign (sign_in r ds) (if b then Some d.sign else None)) (is_same r d.row e)

pub sign_apart : (r : Row) (ds : List SignedRow) (d : SignedRow) → (r ≡ d.row → ⊥) → sign_in r (ds ++ d ∷ []) ≡ sign_in r ds
sign_apart r ds d n =
    sign-append r ds d ∙ ap (λ b. or_sign (sign_in r ds) (if b then Some d.sign else None)) (is_other r d.row n) ∙ or_none (sign_in r ds)

above_push : (a : Row) (ds : List SignedRow) (d : SignedRow) → AllAbove row_cmp a (delta_rows ds) → row_cmp a d.row ≡ Less
    → AllAbove row_cmp a (delta_rows (ds ++ d ∷ []))
above_push a [] d o h = (h, tt)
above_push a (y ∷ ds) d o h = (o.0, above_push a ds d o.1 h)

pub rise_push : (ds : List SignedRow) (d : SignedRow) → Rising row_cmp (delta_rows ds) → AllUnder d.row ds
    → Rising row_cmp (delta_rows (ds ++ d ∷ []))
rise_push [] d r b = (tt, tt)
rise_push (x ∷ ds) d r b = (above_push x.row ds d r.0 b.0, rise_push ds d r.1 b.1)

pub under_push : (k : Row) (ds : List SignedRow) (d : SignedRow) → row_cmp d.row k ≡ Less → AllUnder k ds → AllUnder k (ds ++ d ∷ [])
under_push k [] d h b = (h, tt)
under_push k (x ∷ ds) d h b = (b.0, under_push k ds d h b.1)

pub change_same : (n : ℕ) → change n n ≡ None
change_same n =
    elim (n == 0) as (λ b. (if b then (if b then None else Some Plus) else (if b then Some Minus else None)) ≡ None) [ true ↦ refl | false ↦ refl ]

-- the sign of a row that is applied now, and was not before
pub sign_now : (was before after : ℕ) (o : Option Sign) → before ≡ was → o ≡ change was before → or_sign o (change before after) ≡ change was after
sign_now was before after o h e =
    ap (λ x. or_sign x (change before after)) (e ∙ ap (change was) h ∙ change_same was) ∙ ap (λ x. change x after) h

-- what is neither the least nor below it is above it
pub above_first : (q k : Row) → (k ≡ q → ⊥) → (row_cmp k q ≡ Less → ⊥) → row_cmp q k ≡ Less
above_first q k n h = at (row_cmp k q) refl
  where
    at : (c : Ordering) → row_cmp k q ≡ c → row_cmp q k ≡ Less
    at Less e = absurd (h e)
    at Equal e = absurd (n (exact_rows.same k q e))
    at Greater e = exact_rows.total.antisymm q k ∙ ap ordering_reverse e

pub plain_push : (ds : List Delta) (d : Delta) → plain_deltas (ds ++ d ∷ []) ≡ plain_deltas ds ++ plain_delta d ∷ []
plain_push [] d = refl
plain_push (x ∷ ds) d = ap (λ es. plain_delta x ∷ es) (plain_push ds d)

-- ---- one more note of a row

pub note_law : (p : Sign → Row → ℕ) (sign : Sign) (row : Row) (s : Sign) (r : Row) (t n q : ℕ)
    → n ≡ t + (if same_sign s sign then 1 else 0) → t ≡ p s row → q ≡ (if is_eq (row_cmp r row) then n else p s r)
    → q ≡ p s r + tally s r (Some (sign, row) ∷ [])
note_law p sign row s r t n q a b e = at (row_cmp r row) refl (same_sign s sign) a e
  where
    at : (c : Ordering) → row_cmp r row ≡ c → (d : Bool) → n ≡ t + (if d then 1 else 0) → q ≡ (if is_eq c then n else p s r)
        → q ≡ p s r + ((if d && is_eq c then 1 else 0) + 0)
    at Less h true a e = omega (arith, e)
    at Less h false a e = omega (arith, e)
    at Greater h true a e = omega (arith, e)
    at Greater h false a e = omega (arith, e)
    at Equal h true a e = let k : p s r ≡ p s row = ap (p s) (exact_rows.same r row h) in omega (arith, a, b, e, k)
    at Equal h false a e = let k : p s r ≡ p s row = ap (p s) (exact_rows.same r row h) in omega (arith, a, b, e, k)

-- ---- facts of an answer

pub on_ok : {X E : Type 0} (r : Result X E) (P Q : Type 0) → (P → Q) → OnOk r P → OnOk r Q
on_ok (Ok x) P Q f p = f p
on_ok (Err e) P Q f p = tt

pub if_some : {X : Type 0} (o : Option X) (P Q : X → Type 0) → ((x : X) → P x → Q x) → IfSome o P → IfSome o Q
if_some None P Q f p = tt
if_some (Some x) P Q f p = f x p

-- ---- maps of rows

pub part_if : {T : Type 0} (part : Option T → ℕ) (b d : Bool) (o p : Option T) → b ≡ d → part (cond b o p) ≡ (if d then part o else part p)
part_if part b true o p e = ap (λ b. part (cond b o p)) e
part_if part b false o p e = ap (λ b. part (cond b o p)) e

-- below the least key there is none
pub none_below : {X : Type 0} (q r : Row) (o : Option X) → (IsSome o → is_gt (row_cmp q r) ≡ false) → row_cmp r q ≡ Less → is_some o ≡ false
none_below q r None h e = refl
none_below q r (Some x) h e = absurd (true≢false (sym (ap is_gt (exact_rows.total.antisymm q r ∙ ap ordering_reverse e)) ∙ h refl))

-- one count is set, between calls that change none
pub counts_through : (a b c d : Supports) (step : ℕ) (row : Row) (n : ℕ) → SameCounts a b → Counts b c step row n → SameCounts c d → Counts a d step row n
counts_through a b c d step row n before h after =
    record { this = after step row ∙ h.this; others = λ s r e. after s r ∙ h.others s r e ∙ before s r }
