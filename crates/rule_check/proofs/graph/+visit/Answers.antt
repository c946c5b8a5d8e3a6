use Rattle.std.proofs.Common.{arith, ◌≡◌, ◌<◌, length, length-set, take, subst, ◌∙◌}
use Rattle.std.proofs.lemmas.List.{take_all}
use Rattle.rule_check.specs.Graphs.{targets}
use Rattle.rule_check.specs.declared.graph.Mark.{Mark}
use Rattle.rule_check.proofs.Rows.{row_is, target_leads, take_target}
use Rattle.rule_check.proofs.Visiting.{visiting_none, visiting_more, visiting_fewer, open_lead, Visiting, top_below, visited}
use Rattle.rule_check.proofs.graph.+visit.Goals as goal

pub loop-target-init : goal.loop-target-init
loop-target-init t c = visiting_none _ _ _ (omega (arith, c.requires.in_range, c.requires.sized)) c.in-New.is c.requires.ranked

pub visit-requires : goal.visit-requires
visit-requires t c =
    let row : c.as_slice-target-items.result.now ≡ targets c.args.graph.now c.args.node = row_is _ _ _ _ c.requires.in_range c.index-graph-node.is c.as_slice-target-items.ensures in
    let lead = target_leads c.args.graph.now c.args.node _ c.loop-target.target-index row c.loop-target-test.true in
    let inside = c.requires.graph _ _ lead in
    let within : c.args.node < length c.args.marks.now = omega (arith, c.requires.in_range, c.requires.sized) in
    let fewer = visiting_fewer _ _ _ within c.in-New.is _ _ _ c.loop-target.invariant in
    let sized : length c.loop-target.marks ≡ length c.args.graph.now = omega (arith, c.loop-target.auto.marks, length-set {A = Mark}, c.requires.sized) in (
      omega (arith, fewer, c.decreases),
      (
        inside,
        (
          sized,
          (
            c.requires.graph,
            (
              c.requires.few,
              (
                c.loop-target.invariant.ranked,
                open_lead _ _ _ within c.in-New.is _ _ _ _ c.loop-target.invariant c.requires.open lead,
              ),
            ),
          ),
        ),
      ),
    )

pub loop-target-preserved : goal.loop-target-preserved
loop-target-preserved t c =
    let row : c.as_slice-target-items.result.now ≡ targets c.args.graph.now c.args.node = row_is _ _ _ _ c.requires.in_range c.index-graph-node.is c.as_slice-target-items.ensures in
    let within : c.args.node < length c.args.marks.now = omega (arith, c.requires.in_range, c.requires.sized) in
    rw (take_target c.as_slice-target-items.result.now c.loop-target.target-index c.loop-target-test.true, c.max-top.ensures)
    (visiting_more _ _ _ within c.in-New.is _ _ _ _ _ _ c.loop-target.invariant c.in-Some.ensures)

pub overflow_add-marks : goal.overflow_add-marks
overflow_add-marks t c =
    let within : c.args.node < length c.args.marks.now = omega (arith, c.requires.in_range, c.requires.sized) in
    let sized : length c.loop-target.marks ≡ length c.args.graph.now = omega (arith, c.loop-target.auto.marks, length-set {A = Mark}, c.requires.sized) in
    let below = top_below _ _ _ within c.in-New.is _ _ _ (omega (arith, sized, c.requires.sized)) c.loop-target.invariant in
    omega (arith, below, sized, c.requires.few)

pub overflow_add-result : goal.overflow_add-result
overflow_add-result t c = overflow_add-marks t c

pub returns : goal.returns
returns t c =
    let row : c.as_slice-target-items.result.now ≡ targets c.args.graph.now c.args.node = row_is _ _ _ _ c.requires.in_range c.index-graph-node.is c.as_slice-target-items.ensures in
    let within : c.args.node < length c.args.marks.now = omega (arith, c.requires.in_range, c.requires.sized) in
    let sized : length c.loop-target.marks ≡ length c.args.marks.now = omega (arith, c.loop-target.auto.marks, length-set {A = Mark}) in
    let all : take c.loop-target.target-index c.as_slice-target-items.result.now ≡ targets c.args.graph.now c.args.node = take_all c.loop-target.target-index c.as_slice-target-items.result.now c.loop-target-test.false ∙ row in
    visited _ _ _ within c.in-New.is _ _ sized (subst (λ xs. Visiting c.args.graph.now c.args.node c.args.marks.now c.loop-target.marks xs c.loop-target.top) all c.loop-target.invariant)
