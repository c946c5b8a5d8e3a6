use Rattle.rule_parser.proofs.FileRuns.{head_symbol, head_compound}
use Rattle.rule_parser.proofs.heads.named_at.Goals as goal

pub returns-in_default : goal.returns-in_default
returns-in_default c = head_symbol c.requires.fine c.requires.named c.in_default.ensures c.in_ok-share.ensures

pub returns : goal.returns
returns c = rw c.in_ok-new.ensures (head_compound c.requires.fine c.requires.named c.in-Some.ensures c.in_ok-args.ensures c.in_ok-share-2.ensures)
