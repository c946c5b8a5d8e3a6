use Rattle.etalis_cli.proofs.SendLaws.{part_same}
use Rattle.etalis_cli.proofs.serving.finish.Goals as goal

pub returns-in-Err-Memory-clause-err : goal.returns-in-Err-Memory-clause-err
returns-in-Err-Memory-clause-err g c = λ t part b. part_same (g.O.Sink.got c.args.out.now) _ _ c.last_text.ensures.unsent

pub returns-in-Err-Write-clause-err : goal.returns-in-Err-Write-clause-err
returns-in-Err-Write-clause-err g c = λ t part b. part_same (g.O.Sink.got c.args.out.now) _ _ c.last_text.ensures.unsent
