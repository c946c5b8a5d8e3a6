use Rattle.std.proofs.Common.{◌∙◌}
use Rattle.rule_parser.proofs.PatternRuns.{part_bare, part_atom}
use Rattle.rule_parser.proofs.patterns.atom_at.Goals as goal

pub returns-in_default : goal.returns-in_default
returns-in_default c =
    rw c.in_ok-new.ensures.ok
    (λ d. part_bare c.in_ok-add_part.ensures.ok c.in_ok-add_part.ensures.fine c.requires.named c.in_default.ensures c.in_ok-name.ensures (c.in_ok-args.ensures ∙ c.new.ensures.items))

pub returns : goal.returns
returns c =
    rw c.in_ok-new-2.ensures.ok
    (λ d. part_atom c.in_ok-add_part.ensures.ok c.in_ok-add_part.ensures.fine c.requires.named c.in-Some.ensures c.in_ok-args-2.ensures c.in_ok-name-2.ensures c.in_ok-args-3.ensures)
