use Rattle.change_meaning.proofs.ShownLaws.{change_is_shown}
use Rattle.change_meaning.proofs.laws.shown_rows_are_what_changes.Goals as goal

pub returns : goal.returns
returns c = change_is_shown
