use Rattle.std.proofs.Common.{rules, map, length, ap, sym, ◌∙◌, ◌++◌, ◌∷◌, [], Some, None, cond}
use Rattle.std.proofs.lemmas.List.{map-append}
use Rattle.std.specs.Option.{option_copied_mut}
use Rattle.std.specs.Ordering.{eq_by_cmp, is_eq}
use Rattle.event_model.specs.EventOrder.{name_cmp}
use Rattle.indexmap.specs.IndexMap.{get}
use Rattle.rule_ast.specs.Plain.{plain_rule}
use Rattle.binariser.proofs.HeadLaws.{one_more}
use Rattle.binariser.proofs.heads.HeadRules.add.Goals as goal

pub returns-in_ok-push-in-Some : goal.returns-in_ok-push-in-Some
returns-in_ok-push-in-Some c =
    one_more (λ v. map (λ r. plain_rule r.now) v.items) (plain_rule c.args.rule.now) _ c.push.new.self (Some c.in-Some.rules.now)
    (λ q. get (eq_by_cmp name_cmp) c.args.self.now.by_name q) (λ q. get (eq_by_cmp name_cmp) (c.get_mut.follows.lender c.push.new.self) q)
    (λ i. record { name = c.in_ok-share.ensures i; arity = length (c.as_slice.ensures i) })
    ((c.get_mut.follows.holds c.push.new.self).3 (search rules)).0
    (sym c.get_mut.ensures.value ∙ ap option_copied_mut c.in-Some.is)
    (ap (map (λ r. plain_rule r.now)) c.in_ok-push-in-Some.ensures.items
    ∙ map-append (λ r. plain_rule r.now) c.in-Some.rules.now.items (c.args.rule ∷ []))

pub returns-in_ok-insert-in-None : goal.returns-in_ok-insert-in-None
returns-in_ok-insert-in-None c =
    one_more (λ v. map (λ r. plain_rule r.now) v.items) (plain_rule c.args.rule.now) _ c.push-in-None.new.self None
    (λ q. get (eq_by_cmp name_cmp) c.args.self.now.by_name q) (λ q. get (eq_by_cmp name_cmp) c.insert.new.self q)
    (λ i. record { name = c.in_ok-share.ensures i; arity = length (c.as_slice.ensures i) })
    (λ q. c.in_ok-insert-in-None.ensures.updates.0 q
    ∙ ap (λ m. cond (is_eq (name_cmp (record { name = c.in_ok-share.field-0; arity = length c.as_slice.result.now }) q))
    (Some c.push-in-None.new.self) (get (eq_by_cmp name_cmp) m q)) c.get_mut.follows.holds-at-none)
    (sym c.get_mut.ensures.value ∙ ap option_copied_mut c.in-None.is)
    (ap (map (λ r. plain_rule r.now)) (c.in_ok-push-in-None.ensures.items ∙ ap (λ l. l ++ c.args.rule ∷ []) c.new-rules.ensures.items))
