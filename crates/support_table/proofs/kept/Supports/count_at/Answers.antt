use Rattle.std.proofs.Common.{sym, ap, ◌∙◌, unwrap_or}
use Rattle.support_table.specs.Supports.{count_under}
use Rattle.support_table.proofs.kept.Supports.count_at.Goals as goal

pub returns : goal.returns
returns c = λ row held. c.unwrap_or.ensures ∙ ap (λ o. unwrap_or o 0) c.at.ensures ∙ sym (count_under c.args.self.now c.args.step row c.args.number held)
