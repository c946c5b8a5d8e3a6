use Rattle.std.proofs.Common.{◌≡◌, ap, sym, ◌∙◌, ◌+◌, add-zero}
use Rattle.event_changes.specs.declared.changes.Sign.TheVariants.{Plus, Minus}
use Rattle.change_meaning.specs.MinusVisits.{turned}
use Rattle.step_changes.specs.Notes.{noted}
use Rattle.step_changes.specs.RowCases.{each_row}
use Rattle.support_table.specs.Supports.{count_of}
use Rattle.negation_witness.proofs.SettleLaws.{turned_none, turned_here, turned_first}
use Rattle.negation_witness.proofs.settling.settle_tests.Goals as goal

pub loop-row-init : goal.loop-row-init
loop-row-init c = λ s r. turned_first _ _ (c.requires.none s r)

pub loop-row-preserved : goal.loop-row-preserved
loop-row-preserved c = λ s.
    let q = c.in-Some.row in let e = c.in-Some.ensures in let n = count_of c.args.supports.now c.args.step in
    let was = c.loop-row.tests in let now = c.pop.new.self in let old = c.args.tests.now in
    each_row (λ r. noted c.note_sign.new.settled s r + turned s (noted now Plus r) (noted now Minus r) (n r)
    ≡ turned s (noted old Plus r) (noted old Minus r) (n r)) q
    (turned_here s (noted was Plus q) (noted was Minus q) (n q) (noted now Plus q) (noted now Minus q)
    (noted c.loop-row.settled s q) (noted c.note_sign.new.settled s q) _ (turned s (noted old Plus q) (noted old Minus q) (n q))
    (e.none Plus) (e.none Minus) (c.in_ok-note_sign.ensures.here s)
    (c.sign_of.ensures s ∙ (λ j. turned s (sym (e.here Plus) j) (sym (e.here Minus) j) (c.count_near-count.ensures j)))
    (c.loop-row.invariant s q))
    (λ r k. (λ j. c.in_ok-note_sign.ensures.apart s r k j + turned s (e.apart Plus r k j) (e.apart Minus r k j) (n r))
    ∙ c.loop-row.invariant s r)

pub returns-clause-settled : goal.returns-clause-settled
returns-clause-settled c = λ s r. let e = c.in_default.ensures.over in
    sym (add-zero (noted c.loop-row.settled s r))
    ∙ sym (ap (λ k. noted c.loop-row.settled s r + k)
    (turned_none s (noted c.loop-row.tests Plus r) (noted c.loop-row.tests Minus r)
    (count_of c.args.supports.now c.args.step r) (e Plus r) (e Minus r)))
    ∙ c.loop-row.invariant s r
