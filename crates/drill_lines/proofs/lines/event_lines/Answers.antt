use Rattle.std.proofs.Common.{◌≡◌, ◌∙◌, arith, ap}
use Rattle.drill_lines.specs.DrillText.{drill_text}
use Rattle.drill_lines.proofs.Kept.{drilling_more, drilling_none}
use Rattle.drill_lines.proofs.lines.event_lines.Goals as goal

pub loop-count-init : goal.loop-count-init
loop-count-init c = drilling_none c.args.kinds.now c.args.seed _ _ _ c.new-out.ensures.items c.new-draws.ensures c.new-recent.ensures.items

pub loop-count-preserved : goal.loop-count-preserved
loop-count-preserved c =
    drilling_more c.args.kinds.now c.args.seed c.loop-count.count _ _ _ _ _ _ c.requires.some c.loop-count.invariant
    c.in_ok-push_line.ensures.line c.in_ok-push_line.ensures.state c.in_ok-push_line.ensures.recent

pub returns : goal.returns
returns c =
    let end : c.loop-count.count ≡ c.args.n = omega arith in
    c.loop-count.invariant.text ∙ ap (drill_text c.args.kinds.now c.args.seed) end
