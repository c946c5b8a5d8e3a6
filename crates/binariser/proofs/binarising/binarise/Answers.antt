use Rattle.std.proofs.Common.{◌≡◌, ◌≤◌, ◌∙◌, map, length, ap, sym, subst}
use Rattle.std.proofs.lemmas.Result.{err_from_is_err_and}
use Rattle.rule_ast.specs.Plain.{plain_rules, plain_statement}
use Rattle.rule_ast.specs.PlainPlans.{plain_step}
use Rattle.step_meaning.specs.PlanOf.{plan_steps, plan_indexes, step_of}
use Rattle.binariser.specs.declared.faults.TheConstants.{MOST_STEPS}
use Rattle.binariser.specs.Heads.{rules_in, rules_for}
use Rattle.binariser.specs.Needed.{bodies_names, AreShort}
use Rattle.binariser.proofs.WholeLaws.{short_rules, made_are, made_lower, left_plan}
use Rattle.binariser.proofs.binarising.binarise.Goals as goal

pub plan_names-requires-clause-short : goal.plan_names-requires-clause-short
plan_names-requires-clause-short c = λ n.
    let S = plain_rules c.args.checked.now in
    let A : map plain_statement c.as_slice.result.now ≡ S =
    ap (map plain_statement) c.as_slice.ensures.value ∙ ap plain_rules c.rules-rules.ensures.same in
    subst (λ rs. AreShort (bodies_names rs)) (sym (c.in_ok-heads.ensures n ∙ ap (λ s. rules_for s n) A))
    (short_rules S c.rules-rules.ensures.shaped.each n)

pub returns-in_err-push_names : goal.returns-in_err-push_names
returns-in_err-push_names c =
    let S = plain_rules c.args.checked.now in
    let A : map plain_statement c.as_slice.result.now ≡ S =
    ap (map plain_statement) c.as_slice.ensures.value ∙ ap plain_rules c.rules-rules.ensures.same in
    let made = made_are S c.rules-rules.ensures.ranking (rules_in c.in_ok-heads.heads)
    (λ n. c.in_ok-heads.ensures n ∙ ap (λ s. rules_for s n) A) c.deref.result.now
    (c.deref.ensures.value ∙ c.in_ok-names.ensures) (map plain_step c.new-steps.result.items)
    (ap (map plain_step) c.new-steps.ensures.items) in
    let p = err_from_is_err_and c.from_residual-in_err-push_names.result c.from_residual-in_err-push_names.ensures.1 in
    rw (p.1, p.2) (left_plan (Unit {0}) _ _ _ _ made c.in_err-push_names.ensures)

pub plan_indexes-requires : goal.plan_indexes-requires
plan_indexes-requires c =
    let S = plain_rules c.args.checked.now in
    let A : map plain_statement c.as_slice.result.now ≡ S =
    ap (map plain_statement) c.as_slice.ensures.value ∙ ap plain_rules c.rules-rules.ensures.same in
    made_lower S c.rules-rules.ensures.ranking (rules_in c.in_ok-heads.heads)
    (λ n. c.in_ok-heads.ensures n ∙ ap (λ s. rules_for s n) A) c.deref.result.now
    (c.deref.ensures.value ∙ c.in_ok-names.ensures) (map plain_step c.new-steps.result.items)
    (ap (map plain_step) c.new-steps.ensures.items) _
    (ap (map plain_step) c.deref-2.ensures.value ∙ c.in_ok-push_names.ensures.0)

pub returns : goal.returns
returns c =
    let S = plain_rules c.args.checked.now in
    let A : map plain_statement c.as_slice.result.now ≡ S =
    ap (map plain_statement) c.as_slice.ensures.value ∙ ap plain_rules c.rules-rules.ensures.same in
    let made = made_are S c.rules-rules.ensures.ranking (rules_in c.in_ok-heads.heads)
    (λ n. c.in_ok-heads.ensures n ∙ ap (λ s. rules_for s n) A) c.deref.result.now
    (c.deref.ensures.value ∙ c.in_ok-names.ensures) (map plain_step c.new-steps.result.items)
    (ap (map plain_step) c.new-steps.ensures.items) in
    let X : map plain_step c.push_names.new.steps.items ≡ plan_steps S = c.in_ok-push_names.ensures.0 ∙ made in
    let Y = c.in_ok-indexes.ensures ∙ ap plan_indexes (ap (map plain_step) c.deref-2.ensures.value ∙ X) in
    let Z = c.in_ok-shown.ensures
    ∙ (λ j. map (step_of ((ap (map plain_step) c.deref-3.ensures.value ∙ X) j)) (c.shown.ensures j)) in
    (λ j. record { steps = X j; indexes = Y j; shown = Z j }, subst (λ l. length l ≤ MOST_STEPS) made c.in_ok-push_names.ensures.1)
