-- How stretches of the work on a step follow on one another.
use Rattle.std.specs.Prelude.{◌≡◌, refl, ℕ, ◌+◌, List, [], ◌∷◌, ◌++◌}
use Rattle.std.proofs.Common.{ap, sym, ◌∙◌, append_assoc, length-append, add_assoc, zero-add, add-zero, arith}
use Rattle.event_changes.specs.declared.changes.Sign.{Sign}
use Rattle.ev_bind.specs.declared.rows.Row.{Row}
use Rattle.row_changes.specs.Visits.{Visit, hits, tally, At, Made}

pub tally-append : (s : Sign) (r : Row) (xs ys : List Visit) → tally s r (xs ++ ys) ≡ tally s r xs + tally s r ys
tally-append s r [] ys = sym (zero-add (tally s r ys))
tally-append s r (x ∷ xs) ys =
    ap (λ n. hits s r x + n) (tally-append s r xs ys) ∙ sym (add_assoc (hits s r x) (tally s r xs) (tally s r ys))

-- no visit
pub made_none : (p : At) (u : ℕ) → Made p p u u
made_none p u = record { made = []; left = refl; number = zero-add u; noted = λ s r. sym (add-zero (p.noted s r)) }

-- one visit
pub made_one : (p q : At) (v : Visit) (u w : ℕ) → p.left ≡ v ∷ q.left → 1 + w ≡ u
    → ((s : Sign) (r : Row) → q.noted s r ≡ p.noted s r + tally s r (v ∷ [])) → Made p q u w
made_one p q v u w e n h = record { made = v ∷ []; left = e; number = n; noted = h }

-- one stretch and then another, out of the same units
pub made_more : (a b c : At) (u v w : ℕ) → Made a b u v → Made b c v w → Made a c u w
made_more a b c u v w m n = record {
  made = m.made ++ n.made;
  left = m.left ∙ ap (λ xs. m.made ++ xs) n.left ∙ sym (append_assoc m.made n.made c.left);
  number = let e = length-append m.made n.made in omega (arith, m.number, n.number);
  noted = λ s r. n.noted s r ∙ ap (λ k. k + tally s r n.made) (m.noted s r)
      ∙ add_assoc (a.noted s r) (tally s r m.made) (tally s r n.made)
      ∙ ap (λ k. a.noted s r + k) (sym (tally-append s r m.made n.made));
}

-- the same stretch in front of further visits
pub made_front : (xs ys zs : List Visit) (n m : Sign → Row → ℕ) (u v : ℕ)
    → Made (record { left = xs; noted = n }) (record { left = ys; noted = m }) u v
    → Made (record { left = xs ++ zs; noted = n }) (record { left = ys ++ zs; noted = m }) u v
made_front xs ys zs n m u v h = record {
  made = h.made;
  left = ap (λ l. l ++ zs) h.left ∙ append_assoc h.made ys zs;
  number = h.number;
  noted = h.noted;
}

-- a turn after turns, each with units of its own
pub made_on : (a b c : At) (n u v : ℕ) → Made a b n 0 → Made b c u v → Made a c (n + u) v
made_on a b c n u v m h = record {
  made = m.made ++ h.made;
  left = m.left ∙ ap (λ xs. m.made ++ xs) h.left ∙ sym (append_assoc m.made h.made c.left);
  number = let e = length-append m.made h.made in omega (arith, m.number, h.number);
  noted = λ s r. h.noted s r ∙ ap (λ k. k + tally s r h.made) (m.noted s r)
      ∙ add_assoc (a.noted s r) (tally s r m.made) (tally s r h.made)
      ∙ ap (λ k. a.noted s r + k) (sym (tally-append s r m.made h.made));
}

-- what is in front of other visits is none where all are none
pub nil_front : (xs ys : List Visit) → xs ++ ys ≡ [] → xs ≡ []
nil_front [] ys e = refl
nil_front (x ∷ xs) ys e = absurd (cc)
