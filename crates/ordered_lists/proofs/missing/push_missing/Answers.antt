use Rattle.std.proofs.Common.{◌≡◌, ◌∷◌, ◌++◌, if◌then◌else◌, [], Ok, refl, ap, ◌∙◌, sym}
use Rattle.ordered_lists.proofs.missing.push_missing.Goals as goal

pub returns : goal.returns
returns g c =
    let same : c.in_ok-share.field-0 ≡ c.args.item.now = c.requires.shares c.args.item.now (Ok c.in_ok-share.field-0) (record { shown = c.args.item; shows = refl; says = record { met = c.in_ok-share.ensures } }) in
    c.in_ok-push.ensures.items ∙ ap (λ x. c.args.out.now.items ++ x ∷ []) same
    ∙ ap (λ b. c.args.out.now.items ++ (if b then [] else c.args.item.now ∷ [])) (sym (sym c.is_member.ensures ∙ c.if-is_member.false))
