use Rattle.std.proofs.Common.{ap, ◌∙◌, subst, map, get_or}
use Rattle.std.specs.Result.{OnOk}
use Rattle.rule_ast.specs.Plain.{plain_rule}
use Rattle.binariser.specs.Heads.{rules_in}
use Rattle.binariser.specs.Needed.{IsGrown, bodies_names}
use Rattle.binariser.proofs.NeedsLaws.{same_at}
use Rattle.binariser.proofs.names.add_needs.Goals as goal

pub returns-in-Some : goal.returns-in-Some
returns-in-Some c = λ n is.
    let own = same_at c.args.needed.now.keys c.args.place c.index-as_slice-place.result n c.requires.inside
    (c.index-as_slice-place.is ∙ ap (λ xs. get_or xs c.args.place c.index-as_slice-place.result) c.as_slice.ensures.keys) is in
    subst (λ rs. OnOk c.add_bodies.result (IsGrown c.args.needed.now.keys (bodies_names rs) c.add_bodies.new.needed.keys))
    (ap (map (λ r. plain_rule r.now)) c.as_slice-in-Some.ensures.value ∙ c.in-Some.ensures
    ∙ ap (rules_in c.args.heads.now) (c.in_ok-name.ensures ∙ own))
    c.add_bodies.ensures
