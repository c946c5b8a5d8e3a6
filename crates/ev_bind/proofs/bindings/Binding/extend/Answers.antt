use Rattle.std.proofs.Common.{◌∙◌, sym, ap, cond, Some, None}
use Rattle.std.specs.Option.{option_copied}
use Rattle.ev_bind.proofs.Adding.{join_found}
use Rattle.ev_bind.proofs.bindings.Binding.extend.Goals as goal

pub returns-then-same_terms : goal.returns-then-same_terms
returns-then-same_terms c =
    ap Some c.in_ok-share-in-Some.ensures
    ∙ ap (λ t. cond t (Some c.args.self.now) None) c.if-same_terms.ensures
    ∙ sym (join_found c.args.self.now c.args.slot c.args.term.now c.in-Some.value.now c.value_of.ensures.binding
    (sym c.value_of.ensures.value ∙ ap option_copied c.in-Some.is))

pub returns-else-same_terms : goal.returns-else-same_terms
returns-else-same_terms c =
    ap (λ t. cond t (Some c.args.self.now) None) c.if-same_terms.ensures
    ∙ sym (join_found c.args.self.now c.args.slot c.args.term.now c.in-Some.value.now c.value_of.ensures.binding
    (sym c.value_of.ensures.value ∙ ap option_copied c.in-Some.is))
