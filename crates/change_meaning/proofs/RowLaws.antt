-- The rows of the steps of a plan are in order, and are those with supports; past the last step there are none.
use Rattle.std.specs.Prelude.{ℕ, zero, suc, ◌≡◌, ◌+◌, ◌≤◌, refl, Bool, true, false, ◌&&◌, nat_lt, nat_le, if◌then◌else◌, Option, Some, None, List, [], ◌∷◌, ◌++◌, length}
use Rattle.std.proofs.Common.{ap, sym, ◌∙◌, arith, subst, length-append}
use Rattle.std.proofs.lemmas.Bool.Decides.{nat_tests}
use Rattle.std.proofs.lemmas.Option.{none-some}
use Rattle.ordered_lists.specs.Lists.{Each, Each-filter}
use Rattle.ordered_lists.specs.Canon.{has, Rising, Rising-canon, Rising-filter, has-filter}
use Rattle.event_model.specs.declared.events.Event.{Event}
use Rattle.ev_bind.specs.Rows.{row_cmp, exact_rows}
use Rattle.ev_bind.specs.declared.rows.Row.{Row}
use Rattle.rule_ast.specs.PlainPlans.{PlainStep}
use Rattle.pattern_meaning.specs.PatternRows.{rows_of}
use Rattle.step_meaning.specs.Operands.{AreLower, rows_of_supports, there_where_counted}
use Rattle.step_meaning.specs.StepRows.{step_at, supports, entry, table, step_rows, step_supports, times}
use Rattle.row_changes.specs.Changes.{IsHeld}
use Rattle.change_meaning.specs.Caps.{PlainCaps, keeps, kept_rows, supports_or_none, supports_at, kept_count}

-- ---- past the last step

past_end : (t : List (List Row)) (i : ℕ) → entry t (length t + i) ≡ []
past_end [] i = refl
past_end (x ∷ t) i = let k : length (x ∷ t) + i ≡ suc (length t + i) = omega arith in ap (entry (x ∷ t)) k ∙ past_end t i

past : (E : List Event) (ss : List PlainStep) (t : List (List Row)) (i : ℕ) → step_at ss i ≡ None → entry (table E ss t) (length t + i) ≡ []
past E [] t i e = past_end t i
past E (x ∷ ss) t zero e = absurd (none-some x (sym e))
past E (x ∷ ss) t (suc i) e =
    let new = rows_of (supports E (entry t) x) in
    let there : length (t ++ new ∷ []) + i ≡ length t + suc i = omega (arith, length-append t (new ∷ [])) in
    ap (entry (table E ss (t ++ new ∷ []))) (sym there) ∙ past E ss (t ++ new ∷ []) i e

pub rows_past : (steps : List PlainStep) (E : List Event) (i : ℕ) → step_at steps i ≡ None → step_rows steps i E ≡ []
rows_past steps E i e = let none : 0 + i ≡ i = omega arith in ap (entry (table E steps [])) (sym none) ∙ past E steps [] i e

pub none_at : (steps : List PlainStep) (i : ℕ) → length steps ≤ i → step_at steps i ≡ None
none_at [] i h = refl
none_at (s ∷ steps) zero h = absurd (let k : ⊥ = omega (arith, h) in k)
none_at (s ∷ steps) (suc i) h = let le : length steps ≤ i = omega (arith, h) in none_at steps i le

-- ---- rows in order

module _ (steps : List PlainStep) (lower : AreLower steps) (E : List Event) where
  pub rows_rise : (i : ℕ) → Rising row_cmp (step_rows steps i E)
  rows_rise i = at (step_at steps i) refl
    where
      at : (o : Option PlainStep) → step_at steps i ≡ o → Rising row_cmp (step_rows steps i E)
      at None e = subst (Rising row_cmp) (sym (rows_past steps E i e)) tt
      at (Some s) e =
          subst (Rising row_cmp) (sym (rows_of_supports E steps lower i s e))
          (Rising-canon exact_rows (supports E (λ j. step_rows steps j E) s))

  -- a row is there exactly where it has a support
  pub rows_supported : (i : ℕ) (r : Row) → has row_cmp r (step_rows steps i E) ≡ nat_lt 0 (times r (supports_at steps E i))
  rows_supported i r = at (step_at steps i) refl
    where
      one_or_more : (n : ℕ) → nat_le 1 n ≡ nat_lt 0 n
      one_or_more n = grind (arith, nat_tests)

      at : (o : Option PlainStep) → step_at steps i ≡ o
          → has row_cmp r (step_rows steps i E) ≡ nat_lt 0 (times r (supports_or_none steps E o))
      at None e = ap (has row_cmp r) (rows_past steps E i e) ∙ (let k : false ≡ nat_lt 0 0 = grind (arith, nat_tests) in k)
      at (Some s) e = there_where_counted E steps lower i s e r ∙ one_or_more (times r (step_supports steps s E))

  -- ---- kept rows

  module _ (caps : PlainCaps) (b : ℕ) where
    pub kept_rise : (i : ℕ) → Rising row_cmp (kept_rows steps caps b E i)
    kept_rise i = Rising-filter exact_rows (keeps caps b i) (step_rows steps i E) (rows_rise i)

    pub kept_each : (P : Row → Type 0) (i : ℕ) → Each P (step_rows steps i E) → Each P (kept_rows steps caps b E i)
    kept_each P i a = Each-filter P (keeps caps b i) (step_rows steps i E) a

    pub kept_held : (i : ℕ) → IsHeld (kept_rows steps caps b E i) (kept_count steps caps b E i)
    kept_held i = record {
      rises = kept_rise i;
      has = λ r. has-filter exact_rows (keeps caps b i) r (step_rows steps i E) ∙ at r (keeps caps b i r);
    }
      where
        at : (r : Row) (k : Bool)
            → (k && has row_cmp r (step_rows steps i E)) ≡ nat_lt 0 (if k then times r (supports_at steps E i) else 0)
        at r true = rows_supported i r
        at r false = let k : false ≡ nat_lt 0 0 = grind (arith, nat_tests) in k
