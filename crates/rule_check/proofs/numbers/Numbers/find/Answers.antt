use Rattle.std.proofs.Common.{ap, ◌∙◌}
use Rattle.rule_check.specs.Numbers.{place}
use Rattle.rule_check.proofs.Numbering.{found_number}
use Rattle.rule_check.proofs.numbers.Numbers.find.Goals as goal

pub returns : goal.returns
returns c =
    found_number c.self.inside.seen.keys c.args.name.now c.get_index_of.result c.get_index_of.ensures.index c.get_index_of.ensures.found
    ∙ ap (λ l. place l c.args.name.now) c.self.view_is
