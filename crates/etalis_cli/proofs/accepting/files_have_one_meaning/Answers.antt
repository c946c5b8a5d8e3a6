use Rattle.etalis_cli.proofs.RuleLaws.{one_acceptance}
use Rattle.etalis_cli.proofs.accepting.files_have_one_meaning.Goals as goal

pub returns : goal.returns
returns c = one_acceptance
