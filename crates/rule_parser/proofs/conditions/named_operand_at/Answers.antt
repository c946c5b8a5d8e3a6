use Rattle.rule_parser.proofs.CondRuns.{unit_symbol, unit_compound}
use Rattle.rule_parser.proofs.conditions.named_operand_at.Goals as goal

pub returns-in_default : goal.returns-in_default
returns-in_default c = λ d. unit_symbol c.in_ok-add_part.ensures.ok c.in_ok-add_part.ensures.fine c.requires.named c.in_default.ensures c.in_ok-share.ensures

pub returns : goal.returns
returns c =
    rw c.in_ok-new.ensures
    (λ d. unit_compound c.in_ok-add_part.ensures.ok c.in_ok-add_part.ensures.fine c.requires.named c.in-Some.ensures c.in_ok-args.ensures c.in_ok-share-2.ensures)
