use Rattle.std.proofs.Common.{ap, ◌∙◌, refl, length, map}
use Rattle.rule_check.specs.Graphs.{rank_of}
use Rattle.rule_check.proofs.Rows.{written_back}
use Rattle.rule_check.proofs.Visiting.{all_ranked}
use Rattle.rule_check.proofs.graph.ranks_of.Goals as goal

pub returns : goal.returns
returns c =
    let same = written_back c.in_ok-marks.marks.len c.visit_all.new.marks c.in_ok-marks.marks.items (c.visit_all.auto.marks ∙ ap length c.deref_mut.ensures.value) c.in_ok-marks.marks.ok.0 in
    all_ranked _ _ _ (c.if-not-visit_all.ensures.ranked refl) (c.in_ok-ranks_in.ensures ∙ ap (map rank_of) (c.deref.ensures.value ∙ same))
