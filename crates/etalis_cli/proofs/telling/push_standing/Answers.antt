use Rattle.std.proofs.Common.{refl}
use Rattle.etalis_cli.proofs.ReplyLaws.{standing_more, standing_all}
use Rattle.etalis_cli.proofs.telling.push_standing.Goals as goal

pub loop-detection-init : goal.loop-detection-init
loop-detection-init c = refl

pub loop-detection-preserved : goal.loop-detection-preserved
loop-detection-preserved c =
    standing_more c.loop-detection.out.items _ _ c.args.detections.now c.loop-detection.detection-index c.detection-item.result
    c.loop-detection-test.true c.detection-item.is c.in_ok-change_text.ensures.ok c.loop-detection.invariant

pub returns : goal.returns
returns c = standing_all c.loop-detection.out.items _ c.args.detections.now c.loop-detection.detection-index c.loop-detection-test.false c.loop-detection.invariant
