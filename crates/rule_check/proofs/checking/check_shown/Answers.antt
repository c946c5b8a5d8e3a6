use Rattle.std.proofs.Common.{map, ◌∙◌, inr, ap}
use Rattle.rule_ast.specs.Plain.{plain_statement}
use Rattle.rule_check.specs.Names.{unknown_shows}
use Rattle.rule_check.specs.Offenders.{first}
use Rattle.rule_check.proofs.Verdicts.{show_unknown, show_known}
use Rattle.rule_check.proofs.checking.check_shown.Goals as goal

pub returns-in-Some-clause-verdict : goal.returns-in-Some-clause-verdict
returns-in-Some-clause-verdict c =
    inr (show_unknown (map plain_statement c.args.statements.now) c.args.heads.now c.requires.heads c.in-Some.number
    (c.in-Some.ensures ∙ ap (λ l. first (unknown_shows 1 c.args.heads.now l)) (c.deref.ensures.value ∙ c.in_ok-shown.ensures)))

pub returns-in_ok-given_out-in-None-clause-verdict : goal.returns-in_ok-given_out-in-None-clause-verdict
returns-in_ok-given_out-in-None-clause-verdict c =
    show_known (map plain_statement c.args.statements.now) c.args.heads.now c.requires.heads
    (c.in-None.ensures ∙ ap (λ l. first (unknown_shows 1 c.args.heads.now l)) (c.deref.ensures.value ∙ c.in_ok-shown.ensures))
