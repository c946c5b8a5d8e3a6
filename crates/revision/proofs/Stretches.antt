-- Stretches of visits, and the steps of a plan by their numbers.
use Rattle.std.specs.Prelude.{ℕ, zero, suc, ◌≡◌, ◌+◌, ◌<◌, refl, Some, None, List, [], ◌∷◌, ◌++◌, length, drop}
use Rattle.std.proofs.Common.{ap, sym, ◌∙◌, arith, append_assoc, append-nil, add-one, length-append, zero-add}
use Rattle.std.proofs.lemmas.Option.{none-some, same_Some}
use Rattle.std.proofs.Math.Seq.{drop-nil}
use Rattle.event_changes.specs.declared.changes.Sign.{Sign}
use Rattle.ev_bind.specs.declared.rows.Row.{Row}
use Rattle.rule_ast.specs.PlainPlans.{PlainStep}
use Rattle.step_meaning.specs.StepRows.{step_at}
use Rattle.row_changes.specs.Visits.{Visit, tally, At, Made}
use Rattle.change_meaning.proofs.Sums.{tally-append}
use Rattle.revision.specs.Works.{at_start, UnderWay}

-- ---- stretches

-- more visits behind those that were made
pub goes_on : (all : List Visit) (p q : At) (units rest : ℕ) → UnderWay all p → Made p q units rest
    → (n : ℕ) × Made (at_start all) q n rest
goes_on all p q units rest u m = (
  u.0 + units,
  record {
    made = u.1.made ++ m.made;
    left = u.1.left ∙ ap (λ l. u.1.made ++ l) m.left ∙ sym (append_assoc u.1.made m.made q.left);
    number = omega (arith, u.1.number, m.number, length-append u.1.made m.made);
    noted = λ s r. (let a = u.1.noted s r in let b = m.noted s r in let t = tally-append s r u.1.made m.made in omega (arith, a, b, t));
  },
)

-- where none is left, all are noted
pub all_noted : (all : List Visit) (p : At) (n rest : ℕ) → Made (at_start all) p n rest → p.left ≡ [] → (s : Sign) (r : Row)
    → p.noted s r ≡ tally s r all
all_noted all p n rest m e s r =
    m.noted s r ∙ zero-add (tally s r m.made)
    ∙ ap (tally s r) (sym (m.left ∙ ap (λ l. m.made ++ l) e ∙ append-nil m.made))

-- of no visits none is noted
pub none_noted : (p : At) → UnderWay [] p → (s : Sign) (r : Row) → p.noted s r ≡ 0
none_noted p u s r = at u.1.made u.1.left (u.1.noted s r)
  where
    at : (vs : List Visit) → [] ≡ vs ++ p.left → p.noted s r ≡ 0 + tally s r vs → p.noted s r ≡ 0
    at [] e h = h
    at (v ∷ vs) e h = absurd (cc)

pub none_under : (p : At) → UnderWay [] p → p.left ≡ []
none_under p u = at u.1.made u.1.left
  where
    at : (vs : List Visit) → [] ≡ vs ++ p.left → p.left ≡ []
    at [] e = sym e
    at (v ∷ vs) e = absurd (cc)

pub some_length : {A : Type 0} (xs : List A) → (xs ≡ [] → ⊥) → 0 < length xs
some_length [] h = absurd (h refl)
some_length (x ∷ xs) h = omega arith

-- so many visits fewer are left
pub fewer_left : (p q : At) (units rest : ℕ) → Made p q units rest → length q.left + units ≡ length p.left + rest
fewer_left p q units rest m =
    let a = ap length m.left in let b = length-append m.made q.left in omega (arith, a, b, m.number)

-- ---- the steps of a plan

pub drop_at : (ss : List PlainStep) (n : ℕ) (s : PlainStep) → step_at ss n ≡ Some s → drop n ss ≡ s ∷ drop (n + 1) ss
drop_at [] n s e = absurd (none-some s e)
drop_at (x ∷ ss) zero s e = ap (λ y. y ∷ ss) (same_Some x s e)
drop_at (x ∷ ss) (suc n) s e = let i = drop_at ss n s e in simp add-one (simp add-one at i)

pub drop_none : (ss : List PlainStep) (n : ℕ) → step_at ss n ≡ None → drop n ss ≡ []
drop_none [] n e = drop-nil n
drop_none (x ∷ ss) zero e = absurd (none-some x (sym e))
drop_none (x ∷ ss) (suc n) e = drop_none ss n e

pub drop_past : (ss : List PlainStep) (n : ℕ) → step_at ss n ≡ None → drop (n + 1) ss ≡ []
drop_past [] n e = drop-nil (n + 1)
drop_past (x ∷ ss) zero e = absurd (none-some x (sym e))
drop_past (x ∷ ss) (suc n) e = let i = drop_past ss n e in simp add-one (simp add-one at i)

pub within_plan : (ss : List PlainStep) (n : ℕ) (s : PlainStep) → step_at ss n ≡ Some s → n < length ss
within_plan [] n s e = absurd (none-some s e)
within_plan (x ∷ ss) zero s e = omega arith
within_plan (x ∷ ss) (suc n) s e = let i = within_plan ss n s e in omega (arith, i)
