use Rattle.line_reader.proofs.CutLaws.{ended-line, rest-line, ended-open, rest-open, ended-front, rest-front, no_feed-rest}
use Rattle.line_reader.proofs.cutting.first_lines_are_cut_off.Goals as goal

pub returns : goal.returns
returns c = record { first = ended-line; behind = rest-line; none = ended-open; all = rest-open; part = ended-front; left = rest-front; plain = no_feed-rest }
