use Rattle.pattern_meaning.specs.Left.{left_is_standing, replies_are_differences}
use Rattle.pattern_meaning.proofs.BatchLaws.{withheld_is_quiet}
use Rattle.pattern_meaning.proofs.laws.replies_leave_what_stands.Goals as goal

pub returns : goal.returns
returns c = record { left = left_is_standing; written = replies_are_differences; quiet = withheld_is_quiet }
