use Rattle.support_table.proofs.kept.Supports.keep_at.Goals as goal

pub returns-then-not-is_wanted-clause-others : goal.returns-then-not-is_wanted-clause-others
returns-then-not-is_wanted-clause-others g c = λ row held. (c.forget_at.ensures.counts row held).others
