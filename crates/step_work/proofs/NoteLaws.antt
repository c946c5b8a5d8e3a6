-- What is noted of a step.
use Rattle.std.proofs.Common.{◌≡◌, ap, sym, ◌∙◌, ℕ, ◌+◌, ◌<◌, Result, Ok, Err, IfOk, OnOk, List, ◌++◌, drop, length, get_or, add_assoc}
use Rattle.std.specs.List.{flat_map}
use Rattle.std.proofs.lemmas.List.{drop_more}
use Rattle.event_changes.specs.declared.changes.Sign.{Sign}
use Rattle.ev_bind.specs.declared.rows.Row.{Row}
use Rattle.row_changes.specs.Visits.{Visit, tally}
use Rattle.step_changes.specs.Stretches.{tally-append}

pub if_ok : {A E : Type 0} (r : Result A E) (P Q : A → Type 0) → ((x : A) → P x → Q x) → IfOk r P → IfOk r Q
if_ok (Ok x) P Q f h = f x h
if_ok (Err e) P Q f h = h

pub on_ok : {A E : Type 0} (r : Result A E) (P Q : Type 0) → (P → Q) → OnOk r P → OnOk r Q
on_ok (Ok x) P Q f h = f h
on_ok (Err e) P Q f h = h

-- visits are noted, and then others
pub noted_more : (s : Sign) (r : Row) (xs ys : List Visit) (o m n : ℕ) → m ≡ o + tally s r xs → n ≡ m + tally s r ys
    → n ≡ o + tally s r (xs ++ ys)
noted_more s r xs ys o m n e d =
    d ∙ ap (λ k. k + tally s r ys) e ∙ add_assoc o (tally s r xs) (tally s r ys) ∙ ap (λ k. o + k) (sym (tally-append s r xs ys))

-- those of one element of a list are noted, and those of the others are left
pub noted_next : {A : Type 0} (f : A → List Visit) (s : Sign) (r : Row) (xs : List A) (i : ℕ) (d : A) (o m n : ℕ) → i < length xs
    → n ≡ m + tally s r (f (get_or xs i d)) → m + tally s r (flat_map f (drop i xs)) ≡ o
    → n + tally s r (flat_map f (drop (i + 1) xs)) ≡ o
noted_next f s r xs i d o m n h is e =
    let x = get_or xs i d in
    let rest = flat_map f (drop (i + 1) xs) in
    ap (λ k. k + tally s r rest) is ∙ add_assoc m (tally s r (f x)) (tally s r rest)
    ∙ ap (λ k. m + k) (sym (tally-append s r (f x) rest))
    ∙ ap (λ l. m + tally s r (flat_map f l)) (sym (drop_more xs i d h)) ∙ e
