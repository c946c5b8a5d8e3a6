use Rattle.std.proofs.lemmas.Result.{err_from_is_err_and}
use Rattle.rule_parser.specs.Steps.{counted}
use Rattle.rule_parser.proofs.TermRuns.{leaf_variable, leaf_variable_err, leaf_anything, no_anything, no_leaf_token}
use Rattle.rule_parser.proofs.terms.leaf_at.Goals as goal

pub returns-in_err-slot_of-in_default-kind : goal.returns-in_err-slot_of-in_default-kind
returns-in_err-slot_of-in_default-kind c =
    let p = err_from_is_err_and c.from_residual.result c.from_residual.ensures.1 in
    rw (p.1, p.2) (leaf_variable_err c.args.kind _ (counted c.slot_of.new.ledger) _ c.requires c.in_default-kind.not-Ground c.in-Var.is c.in_err-slot_of-in_default-kind.ensures.err)

pub returns-in_ok-slot_of-in_default-kind : goal.returns-in_ok-slot_of-in_default-kind
returns-in_ok-slot_of-in_default-kind c =
    leaf_variable c.args.kind c.in_default-kind.not-Ground c.in-Var.is c.in_ok-slot_of-in_default-kind.ensures.slot c.in_ok-slot_of-in_default-kind.ensures.ok c.in_ok-slot_of-in_default-kind.ensures.fine

pub returns-in-Argument : goal.returns-in-Argument
returns-in-Argument c = leaf_anything c.args.kind c.requires c.in-Argument.is c.in-Wild.is

pub returns-in_default-kind-2 : goal.returns-in_default-kind-2
returns-in_default-kind-2 c = no_anything c.args.kind c.in_default-kind-2.not-Argument c.in-Wild.is

pub returns-in_default : goal.returns-in_default
returns-in_default c = no_leaf_token c.args.kind c.args.first.now c.in_default.not-Var c.in_default.not-Wild
