-- What tests told of a row, against its count.
use Rattle.std.proofs.Common.{◌≡◌, refl, ap, ℕ, ◌+◌, ◌&&◌, ◌==◌, nat_lt, Some, Result, Ok, Err, OnOk, if◌then◌else◌, [], ◌∷◌, arith}
use Rattle.event_changes.specs.declared.changes.Sign.{Sign}
use Rattle.event_changes.specs.declared.changes.Sign.TheVariants.{Plus, Minus}
use Rattle.ev_bind.specs.declared.rows.Row.{Row}
use Rattle.row_changes.specs.Visits.{tally}
use Rattle.change_meaning.specs.MinusVisits.{turned}
use Rattle.step_changes.specs.RowCases.{is_same, is_other}
use Rattle.negation_witness.specs.Working.{times_of}

pub turned_first : (n t : ℕ) → n ≡ 0 → n + t ≡ t
turned_first n t e = omega (arith, e)

pub turned_none : (s : Sign) (a t n : ℕ) → a ≡ 0 → t ≡ 0 → turned s a t n ≡ 0
turned_none Plus a t n e f = ap (λ k. if nat_lt 0 k && (n == 0) then 1 else 0) e
turned_none Minus a t n e f = ap (λ k. if nat_lt 0 k && nat_lt 0 n then 1 else 0) f

-- one row is settled: what it gives is noted, and of it no test is left
pub turned_here : (s : Sign) (a t n a' t' x y k all : ℕ) → a' ≡ 0 → t' ≡ 0 → y ≡ x + k → k ≡ turned s a t n
    → x + turned s a t n ≡ all → y + turned s a' t' n ≡ all
turned_here s a t n a' t' x y k all e f g h i = let z = turned_none s a' t' n e f in omega (arith, z, g, h, i)

-- one note of a row
pub note_here : (s : Sign) (sign : Sign) (row : Row) → tally s row (Some (sign, row) ∷ []) ≡ times_of s (Some sign)
note_here Plus Plus row = ap (λ b. (if b then 1 else 0) + 0) (is_same row row refl)
note_here Plus Minus row = refl
note_here Minus Plus row = refl
note_here Minus Minus row = ap (λ b. (if b then 1 else 0) + 0) (is_same row row refl)

-- and none of the others
pub note_apart : (s : Sign) (sign : Sign) (row r : Row) → (r ≡ row → ⊥) → tally s r (Some (sign, row) ∷ []) ≡ 0
note_apart Plus Plus row r n = ap (λ b. (if b then 1 else 0) + 0) (is_other r row n)
note_apart Plus Minus row r n = refl
note_apart Minus Plus row r n = refl
note_apart Minus Minus row r n = ap (λ b. (if b then 1 else 0) + 0) (is_other r row n)

pub on_ok : {X E : Type 0} (r : Result X E) (P Q : Type 0) → (P → Q) → OnOk r P → OnOk r Q
on_ok (Ok x) P Q f p = f p
on_ok (Err e) P Q f p = tt
