use Rattle.step_work.proofs.NoteLaws.{on_ok, noted_more}
use Rattle.step_work.proofs.reading.Reading.note_name.Goals as goal

pub returns : goal.returns
returns c = λ s r. on_ok c.note_heads.result _ _ (noted_more s r _ _ _ _ _ (c.in_ok-note_events.ensures s r)) (c.note_heads.ensures s r)
