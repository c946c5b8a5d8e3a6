use Rattle.std.proofs.Common.{◌∙◌}
use Rattle.revision.specs.Working.{hand_of, IsFit, held_of}
use Rattle.revision.proofs.SweepLaws.{number_held}
use Rattle.revision.proofs.work.Work.held_rows.Goals as goal

pub returns-clause-held : goal.returns-clause-held
unfolding hand_of IsFit held_of
returns-clause-held c = λ b E w. c.held.ensures ∙ number_held c.args.self.now.parts b E w.holds w.fit
