use Rattle.std.proofs.Common.{sym, ap, ◌∙◌, None, []}
use Rattle.std.specs.Prelude.{if◌then◌else◌}
use Rattle.ev_bind.specs.Bindings.{join}
use Rattle.ev_bind.proofs.Merging.{join_nothing}
use Rattle.ev_bind.proofs.matching.as_it_is.Goals as goal

pub returns : goal.returns
returns c = sym (ap (λ t. if t then join c.args.binding [] else None) c.if-not-fits.false ∙ join_nothing c.args.binding c.first.ensures.binding)
