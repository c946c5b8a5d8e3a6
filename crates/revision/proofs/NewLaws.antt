-- Without rows no events are held.
use Rattle.std.specs.Prelude.{ℕ, ◌≡◌, None, List, []}
use Rattle.std.specs.declared.alloc.Global.{Global}
use Rattle.std.specs.declared.vec.Vec.{Vec}
use Rattle.std.proofs.Common.{ap, sym, ◌∙◌, arith}
use Rattle.ordered_lists.specs.Canon.{canon_one}
use Rattle.ev_bind.specs.Rows.{exact_rows}
use Rattle.ev_bind.specs.declared.rows.Row.{Row}
use Rattle.rule_ast.specs.PlainPlans.{PlainStep}
use Rattle.step_meaning.specs.Operands.{AreLower}
use Rattle.change_meaning.specs.Caps.{PlainCaps, kept_rows, kept_count}
use Rattle.support_table.specs.Supports.{count_of}
use Rattle.support_table.specs.declared.kept.Supports.{Supports}
use Rattle.goal_store.specs.Goals.{mark_at, seen, has_seen, seen_rises}
use Rattle.goal_store.specs.Marks.{seen_as}
use Rattle.goal_store.specs.declared.kept.GoalStore.{GoalStore}
use Rattle.goal_store.specs.declared.marks.When.{When}
use Rattle.goal_store.specs.declared.marks.When.TheVariants.{Before, After}
use Rattle.step_changes.specs.declared.deltas.Delta.{Delta}
use Rattle.step_work.specs.Seen.{view_in}
use Rattle.revision.specs.Works.{HasRows}
use Rattle.revision.proofs.HoldLaws.{no_kept_rows, no_counts}

none_seen : (goals : GoalStore) → ((s : ℕ) (r : Row) → mark_at goals s r ≡ None) → (s : ℕ) (w : When) → seen goals s w ≡ []
none_seen goals none s w = canon_one exact_rows (seen goals s w) [] (seen_rises goals s w) tt
    (λ r. has_seen goals s w r ∙ ap (seen_as w) (none s r))

pub rows_none : (goals : GoalStore) (supports : Supports) (changed : List (Vec Delta Global)) (steps : List PlainStep) (caps : PlainCaps)
    → AreLower steps → ((s : ℕ) (r : Row) → mark_at goals s r ≡ None) → ((s : ℕ) (r : Row) → 0 ≡ count_of supports s r) → (b : ℕ)
    → HasRows (view_in goals (count_of supports) changed) (kept_rows steps caps b []) (kept_count steps caps b [])
rows_none goals supports changed steps caps lower none counts b = record {
  before = λ j. none_seen goals none j Before ∙ sym (no_kept_rows steps lower caps b j);
  after = λ j. none_seen goals none j After ∙ sym (no_kept_rows steps lower caps b j);
  counts = λ j r. sym (counts j r) ∙ sym (no_counts steps lower caps b j r);
  small = λ j r. (let k = counts j r in omega (arith, k));
}
