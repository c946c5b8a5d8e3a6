-- The supports of a step after a change are those before, with what came and without what went.
use Rattle.std.specs.Prelude.{ℕ, List}
use Rattle.ordered_lists.specs.Lists.{Balanced, Balanced-joins}
use Rattle.ordered_lists.specs.Canon.{Rising, Rising-filter}
use Rattle.event_model.specs.declared.events.Event.{Event}
use Rattle.event_changes.specs.declared.changes.Sign.TheVariants as sign
use Rattle.ev_bind.specs.Rows.{row_cmp, exact_rows}
use Rattle.ev_bind.specs.declared.rows.Row.{Row}
use Rattle.rule_ast.specs.PlainPlans.{PlainStep, Named, Leaf, Join, Either, Where, Exact, Within, Minus, Head}
use Rattle.term_eval.specs.Values.{holds}
use Rattle.pattern_meaning.specs.PatternRows.{matched, head_row}
use Rattle.pattern_meaning.specs.RuleRows.{joined, is_long, is_short}
use Rattle.step_meaning.specs.StepRows.{supports}
use Rattle.row_changes.specs.Changes.{fresh, dying}
use Rattle.change_meaning.specs.Moved.{minus_rows, moved, EventsMove}
use Rattle.change_meaning.proofs.Balance.{Balanced-append, Balanced-filter, Balanced-flat_map, Balanced-map, Balanced-each, Balanced-changed}

pub minus_rises : (joined before inner after : List Row) → Rising row_cmp joined → Rising row_cmp (minus_rows joined before inner after)
minus_rises joined before inner after u = Rising-filter exact_rows _ joined u

module _ (E F cs ws : List Event) (ev : EventsMove E F cs ws) (b a : ℕ → List Row) (ub : (i : ℕ) → Rising row_cmp (b i))
    (ua : (i : ℕ) → Rising row_cmp (a i)) where
  of_step : (i : ℕ) → Balanced (b i) (a i) (fresh (b i) (a i)) (dying (b i) (a i))
  of_step i = Balanced-changed exact_rows (b i) (a i) (ub i) (ua i)

  -- the supports of a step after the change, from those before
  pub step_moves : (s : PlainStep) → Balanced (supports E b s) (supports F a s) (moved sign.Plus cs b a s) (moved sign.Minus ws b a s)
  step_moves (Named n heads) = Balanced-append _ _ _ _ _ _ _ _ (ev n) (Balanced-each b a _ _ of_step heads)
  step_moves (Leaf of p) = Balanced-flat_map (matched p) _ _ _ _ (of_step of)
  step_moves (Join op l r) = Balanced-joins (joined op) _ _ _ _ _ _ _ _ (of_step l) (of_step r)
  step_moves (Either l r) = Balanced-append _ _ _ _ _ _ _ _ (of_step l) (of_step r)
  step_moves (Where of c) = Balanced-filter (λ r. holds c r.binding) _ _ _ _ (of_step of)
  step_moves (Exact of q) = Balanced-filter (is_long q) _ _ _ _ (of_step of)
  step_moves (Within of q) = Balanced-filter (is_short q) _ _ _ _ (of_step of)
  step_moves (Minus j f i l) =
      Balanced-changed exact_rows (minus_rows (b j) (b f) (b i) (b l)) (minus_rows (a j) (a f) (a i) (a l))
      (minus_rises (b j) (b f) (b i) (b l) (ub j)) (minus_rises (a j) (a f) (a i) (a l) (ua j))
  step_moves (Head of head) = Balanced-map (head_row head) _ _ _ _ (of_step of)
