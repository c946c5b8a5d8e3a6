use Rattle.std.proofs.Common.{◌∙◌, ap}
use Rattle.std.specs.List.{flat_map}
use Rattle.ordered_lists.specs.Canon.{canon}
use Rattle.event_model.specs.EventOrder.{detection_cmp, exact_detections}
use Rattle.rule_ast.specs.Plain.{plain_rules}
use Rattle.pattern_meaning.specs.Found.{of_name, with_rules}
use Rattle.pattern_meaning.specs.Words.{words_of}
use Rattle.pattern_meaning.specs.RuleOrder.{rules_at}
use Rattle.pattern_meaning.proofs.OrderLaws.{found_is_standing}
use Rattle.pattern_meaning.proofs.evaluating.scratch.Goals as goal

pub sort_unique-requires : goal.sort_unique-requires
sort_unique-requires c = exact_detections

pub returns : goal.returns
returns c =
    let end = c.in_ok-push_rules.ensures ∙ (λ i. with_rules (c.in_ok-push_events.ensures i) (rules_at (c.deref.ensures.value i))) in
    c.in_ok-sort_unique.ensures.ok
    ∙ ap (canon detection_cmp) (c.in_ok-shown.ensures ∙ (λ i. flat_map (λ n. of_name n (end i n.name)) (c.shown.ensures i)))
    ∙ found_is_standing (plain_rules c.args.checked.now) c.args.events.now (words_of c.new-found.result) (rules_at c.in_ok-rules.rules.items)
    c.rules_by_rank.ensures.ranking c.new-found.ensures c.in_ok-rules.ensures.ordered
