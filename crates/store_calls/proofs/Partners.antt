-- Rows that no step has, and how the join of a plan of two indexes finds partners.
use Rattle.std.proofs.Common.{◌≡◌, refl, ap, sym, ◌∙◌, false, true≢false, [], ◌∷◌, Option, Some, None, unwrap_or, slice_get}
use Rattle.event_model.specs.declared.operators.Edge.TheVariants.{Start, End}
use Rattle.event_model.specs.declared.operators.Op.TheVariants.{Seq}
use Rattle.rule_ast.specs.PlainPlans.{plain_index, slots_list}
use Rattle.rule_ast.specs.declared.plans.Index.{Index}
use Rattle.goal_store.specs.Goals.{indexes_of}
use Rattle.goal_store.specs.Marks.{seen_as}
use Rattle.goal_store.specs.declared.kept.GoalStore.{GoalStore}
use Rattle.goal_store.specs.declared.marks.Mark.{Mark}
use Rattle.goal_store.specs.declared.marks.Mark.TheVariants.{Old, Fresh, Dying}
use Rattle.goal_store.specs.declared.marks.When.TheVariants.{Before, After}
use Rattle.match_step.specs.Joining.{IsWay}
use Rattle.match_step.specs.declared.ways.JoinWay.{JoinWay}
use Rattle.step_changes.specs.Indexed.{index_of}

-- a row that is seen from nowhere is not there
pub unseen : (o : Option Mark) → seen_as Before o ≡ false → seen_as After o ≡ false → o ≡ None
unseen None a b = refl
unseen (Some Old) a b = absurd (true≢false a)
unseen (Some Fresh) a b = absurd (true≢false b)
unseen (Some Dying) a b = absurd (true≢false a)

module _ (goals : GoalStore) (lefts rights : Index) (e : indexes_of goals ≡ plain_index lefts ∷ (plain_index rights ∷ []))
    (ends : lefts.edge ≡ End) (starts : rights.edge ≡ Start) (key : lefts.key ≡ rights.key) where
  left_is : index_of goals 0 ≡ plain_index lefts
  left_is = ap (λ xs. unwrap_or (slice_get xs 0) (record { of = 0; key = []; edge = Start })) e

  right_is : index_of goals 1 ≡ plain_index rights
  right_is = ap (λ xs. unwrap_or (slice_get xs 1) (record { of = 0; key = []; edge = Start })) e

  pub is_way : IsWay goals (record { op = Seq; cap = None; lefts = 0; rights = 1 })
  is_way = record {
    left_there = ap (λ xs. slice_get xs 0) e ∙ ap Some (sym left_is);
    right_there = ap (λ xs. slice_get xs 1) e ∙ ap Some (sym right_is);
    left_edge = ap (λ x. x.edge) left_is ∙ ends;
    right_edge = ap (λ x. x.edge) right_is ∙ starts;
    same_key = ap (λ x. x.key) right_is ∙ sym (ap (λ x. x.key) left_is ∙ ap slots_list key);
  }
