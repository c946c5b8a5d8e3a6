use Rattle.negation_witness.proofs.TestLaws.{walk_lists}
use Rattle.negation_witness.proofs.looking.rows_by.Goals as goal

pub returns-clause-rows : goal.returns-clause-rows
returns-clause-rows c = let g = c.args.goals.now in let n = c.args.index in
    walk_lists c.rows_of.result g n _ _ (c.args.key.now) c.partner_range.ensures c.requires.there c.requires.edge
    c.rows_of.ensures.none c.rows_of.ensures.rows
