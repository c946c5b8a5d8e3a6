use Rattle.std.proofs.Common.{sym, ap, ◌∙◌, Some}
use Rattle.std.specs.Prelude.{option_and_then}
use Rattle.ev_bind.specs.Bindings.{union_of, union_of-itself}
use Rattle.ev_bind.proofs.matching.match_values.Goals as goal

pub returns-then-are_variables : goal.returns-then-are_variables
returns-then-are_variables c = ap Some c.in_ok-share.ensures
    ∙ sym (ap (option_and_then union_of) (c.are_variables.ensures.variables c.if-are_variables.true) ∙ union_of-itself c.args.args.now c.are_variables.ensures.binding)
