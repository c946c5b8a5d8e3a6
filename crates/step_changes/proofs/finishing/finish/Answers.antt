use Rattle.std.proofs.Common.{◌≡◌, refl, ap, sym, ◌∙◌, subst, ◌+◌, ◌≤◌, true, arith}
use Rattle.std.proofs.lemmas.Bool.{true≢false}
use Rattle.ordered_lists.specs.Canon.{Rising}
use Rattle.ev_bind.specs.Rows.{row_cmp}
use Rattle.event_changes.specs.declared.changes.Sign.TheVariants.{Plus, Minus}
use Rattle.row_changes.specs.Changes.{change, sign_in, delta_rows}
use Rattle.support_table.specs.Supports.{count_of}
use Rattle.goal_store.specs.Goals.{mark_at}
use Rattle.step_changes.specs.Deltas.{plain_deltas}
use Rattle.step_changes.specs.Notes.{noted, has_note}
use Rattle.step_changes.specs.Pushes.{AllUnder}
use Rattle.step_changes.specs.RowCases.{each_row}
use Rattle.step_changes.specs.Marked.{mark_of, shown}
use Rattle.step_changes.proofs.ChangeLaws.{sign_now, above_first, change_same}
use Rattle.step_changes.proofs.finishing.finish.Goals as goal

pub apply_row-requires-clause-room : goal.apply_row-requires-clause-room
apply_row-requires-clause-room c =
    let q = c.in-Some.row in let h = c.in-Some.ensures.here in let i = c.loop-row.invariant in
    omega (arith, h Plus, h Minus, i.rest Plus q, i.kept q c.in-Some.ensures.own, c.requires.room q)

pub apply_row-requires-clause-fewer : goal.apply_row-requires-clause-fewer
apply_row-requires-clause-fewer c =
    let q = c.in-Some.row in let h = c.in-Some.ensures.here in let i = c.loop-row.invariant in
    omega (arith, h Plus, h Minus, i.counts q, i.kept q c.in-Some.ensures.own, c.requires.fewer q)

pub apply_row-requires-clause-mark : goal.apply_row-requires-clause-mark
apply_row-requires-clause-mark c =
    let q = c.in-Some.row in let i = c.loop-row.invariant in let was = count_of c.args.supports.now c.args.step q in
    let same = i.kept q c.in-Some.ensures.own in
    i.marks q ∙ ap (λ n. shown (change was n) (mark_of was)) same ∙ ap (λ o. shown o (mark_of was)) (change_same was) ∙ ap mark_of (sym same)

pub loop-row-init : goal.loop-row-init
loop-row-init c =
    let n = count_of c.args.supports.now c.args.step in let e = sym c.requires.none in
    record {
      counts = λ r. omega arith;
      rest = λ s r. omega arith;
      kept = λ r h. refl;
      others = λ s r d. refl;
      signs = λ r. ap (λ ds. sign_in r (plain_deltas ds)) (sym e) ∙ sym (change_same (n r));
      rise = subst (λ ds. Rising row_cmp (delta_rows (plain_deltas ds))) e tt;
      under = λ r h. subst (λ ds. AllUnder r (plain_deltas ds)) e tt;
      marks = λ r. c.requires.old r ∙ sym (ap (λ o. shown o (mark_of (n r))) (change_same (n r)));
      other_marks = λ s r d. refl;
      plan = (refl, refl);
    }

pub loop-row-preserved : goal.loop-row-preserved
loop-row-preserved c =
    let q = c.in-Some.row in let e = c.in-Some.ensures in let i = c.loop-row.invariant in let a = c.in_ok-apply_row.ensures in
    let step = c.args.step in let n = c.apply_row.new.supports in let k = c.loop-row.supports in let m = c.args.supports.now in
    let p = c.pop.new.self in let o = c.args.pending.now in let g = c.apply_row.new.goals in
    let same = i.kept q e.own in
    record {
      counts = each_row (λ r. count_of n step r + noted o Minus r + noted p Plus r ≡ count_of m step r + noted o Plus r + noted p Minus r) q
          (omega (arith, e.here Plus, e.here Minus, e.none Plus, e.none Minus, i.counts q, a.count))
          (λ r d. omega (arith, e.apart Plus r d, e.apart Minus r d, i.counts r, a.counts step r (λ s t. d t)));
      rest = λ s. each_row (λ r. noted p s r ≤ noted o s r) q (omega (arith, e.none s)) (λ r d. omega (arith, e.apart s r d, i.rest s r));
      kept = each_row (λ r. has_note p r ≡ true → count_of n step r ≡ count_of m step r) q
          (λ t. absurd (true≢false (sym t ∙ e.gone)))
          (λ r d t. a.counts step r (λ s w. d w) ∙ i.kept r (sym (e.others r d) ∙ t));
      others = λ s r d. a.counts s r (λ t w. d t) ∙ i.others s r d;
      signs = each_row (λ r. sign_in r (plain_deltas c.apply_row.new.rows.items) ≡ change (count_of m step r) (count_of n step r)) q
          (a.sign ∙ sign_now (count_of m step q) (count_of k step q) (count_of n step q) (sign_in q (plain_deltas c.loop-row.rows.items)) same (i.signs q))
          (λ r d. a.signs r d ∙ i.signs r ∙ ap (change (count_of m step r)) (sym (a.counts step r (λ s w. d w))));
      rise = a.rise i.rise (i.under q e.own);
      under = each_row (λ r. has_note p r ≡ true → AllUnder r (plain_deltas c.apply_row.new.rows.items)) q
          (λ t. absurd (true≢false (sym t ∙ e.gone)))
          (λ r d t. let w : has_note c.loop-row.pending r ≡ true = sym (e.others r d) ∙ t in
          a.under r (above_first q r d (λ l. true≢false (sym w ∙ e.first r l))) (i.under r w));
      marks = each_row (λ r. mark_at g step r ≡ shown (change (count_of m step r) (count_of n step r)) (mark_of (count_of m step r))) q
          (a.mark ∙ (λ j. shown (change (same j) (count_of n step q)) (mark_of (same j))))
          (λ r d. a.marks step r (λ s w. d w) ∙ i.marks r
          ∙ ap (λ x. shown (change (count_of m step r) x) (mark_of (count_of m step r))) (sym (a.counts step r (λ s w. d w))));
      other_marks = λ s r d. a.marks s r (λ t w. d t) ∙ i.other_marks s r d;
      plan = (a.plan.0 ∙ i.plan.0, a.plan.1 ∙ i.plan.1);
    }

pub returns-clause-counts : goal.returns-clause-counts
returns-clause-counts c = λ r. omega (arith, c.loop-row.invariant.counts r, c.in_default.ensures.over Plus r, c.in_default.ensures.over Minus r)
