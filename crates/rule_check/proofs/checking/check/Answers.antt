use Rattle.std.proofs.Common.{◌≡◌, [], ap, sym, ◌∙◌}
use Rattle.std.proofs.lemmas.Result.{err_from_is_err_and}
use Rattle.rule_ast.specs.Plain.{plain_rules}
use Rattle.rule_check.specs.Sound.{rules_of}
use Rattle.rule_check.specs.Faults.{variable_faults}
use Rattle.rule_check.specs.Verdict.{show_faults, AreNameRanks}
use Rattle.rule_check.proofs.Gathered.{all_rules, all_shaped}
use Rattle.rule_check.proofs.Verdicts.{is_sound, refused_sound, refused_variables, refused_shown, refused_cycle}
use Rattle.rule_check.proofs.checking.check.Goals as goal

pub check_variables-requires : goal.check_variables-requires
check_variables-requires c =
    all_shaped _ _ _ _ c.deref.ensures.value c.in_ok-gathered.ensures c.as_slice-statements.ensures.value c.requires.shaped

pub heads_of-requires : goal.heads_of-requires
heads_of-requires c =
    all_shaped _ _ _ _ c.deref-2.ensures.value c.in_ok-gathered.ensures c.as_slice-statements.ensures.value c.requires.shaped

pub rank_heads-requires-clause-shaped : goal.rank_heads-requires-clause-shaped
rank_heads-requires-clause-shaped c =
    all_shaped _ _ _ _ c.deref-3.ensures.value c.in_ok-gathered.ensures c.as_slice-statements.ensures.value c.requires.shaped

pub returns-in_err-check_variables-clause-exact : goal.returns-in_err-check_variables-clause-exact
returns-in_err-check_variables-clause-exact c = λ s.
    let p = err_from_is_err_and c.from_residual-in_err-check_variables.result c.from_residual-in_err-check_variables.ensures.1 in
    let is = all_rules _ _ _ _ c.deref.ensures.value c.in_ok-gathered.ensures c.as_slice-statements.ensures.value in
    rw (p.1, p.2) (refused_sound (plain_rules c.args.rules) _ s (refused_variables (plain_rules c.args.rules) _ (rw (← is) c.in_err-check_variables.ensures)))

pub returns-in_err-shown-clause-exact : goal.returns-in_err-shown-clause-exact
returns-in_err-shown-clause-exact c = λ s.
    let p = err_from_is_err_and c.from_residual-in_err-shown.result c.from_residual-in_err-shown.ensures.1 in
    let is = all_rules _ _ _ _ c.deref.ensures.value c.in_ok-gathered.ensures c.as_slice-statements.ensures.value in
    let clean : variable_faults 1 (rules_of (plain_rules c.args.rules)) ≡ [] = ap (variable_faults 1) (sym is) ∙ c.in_ok-check_variables.ensures in
    rw (p.1, p.2) (refused_sound (plain_rules c.args.rules) _ s (refused_shown (plain_rules c.args.rules) _ clean (rw (← c.as_slice-statements.ensures.value) c.in_err-shown.ensures.verdict)))

pub returns-in_err-ranks-clause-exact : goal.returns-in_err-ranks-clause-exact
returns-in_err-ranks-clause-exact c = λ s.
    let p = err_from_is_err_and c.from_residual-in_err-ranks.result c.from_residual-in_err-ranks.ensures.1 in
    let is = all_rules _ _ _ _ c.deref.ensures.value c.in_ok-gathered.ensures c.as_slice-statements.ensures.value in
    let last = all_rules _ _ _ _ c.deref-3.ensures.value c.in_ok-gathered.ensures c.as_slice-statements.ensures.value in
    let clean : variable_faults 1 (rules_of (plain_rules c.args.rules)) ≡ [] = ap (variable_faults 1) (sym is) ∙ c.in_ok-check_variables.ensures in
    let known : show_faults (plain_rules c.args.rules) ≡ [] = rw (← c.as_slice-statements.ensures.value) c.in_ok-shown.ensures.verdict in
    rw (p.1, p.2) (refused_sound (plain_rules c.args.rules) _ s (refused_cycle (plain_rules c.args.rules) _ clean known (rw (← last) c.in_err-ranks.ensures.cycle)))

pub new-requires : goal.new-requires
new-requires c =
    let is = all_rules _ _ _ _ c.deref.ensures.value c.in_ok-gathered.ensures c.as_slice-statements.ensures.value in
    let second = all_rules _ _ _ _ c.deref-2.ensures.value c.in_ok-gathered.ensures c.as_slice-statements.ensures.value in
    let last = all_rules _ _ _ _ c.deref-3.ensures.value c.in_ok-gathered.ensures c.as_slice-statements.ensures.value in
    let clean : variable_faults 1 (rules_of (plain_rules c.args.rules)) ≡ [] = ap (variable_faults 1) (sym is) ∙ c.in_ok-check_variables.ensures in
    let known : show_faults (plain_rules c.args.rules) ≡ [] = rw (← c.as_slice-statements.ensures.value) c.in_ok-shown.ensures.verdict in
    let ranks : AreNameRanks (rules_of (plain_rules c.args.rules)) c.in_ok-heads.heads c.in_ok-ranks.ranks.items = rw (← last) c.in_ok-ranks.ensures.ranks in
    record {
      shaped = c.requires.shaped;
      sound = is_sound (plain_rules c.args.rules) clean known ranks.acyclic;
      shown_is = rw (← c.as_slice-statements.ensures.value) c.in_ok-shown.ensures.shown;
      heads_are = rw (← second) c.in_ok-heads.ensures;
      ranks_are = ranks;
    }
