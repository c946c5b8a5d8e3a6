use Rattle.step_work.proofs.IndexLaws.{number_stays}
use Rattle.step_work.proofs.NoteLaws.{if_ok}
use Rattle.step_work.proofs.ways.Asked.number.Goals as goal

pub returns-clause-number : goal.returns-clause-number
returns-clause-number c = λ before more after long. if_ok c.number_at.result _ _
    (λ n is. number_stays before _ more after _ c.args.self.now.first n c.in_ok-place.place long is c.in_ok-place.ensures.place)
    c.number_at.ensures
