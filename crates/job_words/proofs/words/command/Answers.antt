use Rattle.std.proofs.Common.{rules, ap₂, ◌≡◌, ◌∙◌, codes}
use Rattle.std.proofs.lemmas.Result.{IfOk-weaker}
use Rattle.clap.specs.Words.{app_of, rule_of, with_rule}
use Rattle.job_words.specs.Account.{bare_app, with_long}
use Rattle.job_words.proofs.words.command.Goals as goal

pub returns : goal.returns
returns c =
    let late_is : rule_of c.long.result ≡ with_long (codes "late") = search rules in
    let seed_is : rule_of c.long-2.result ≡ with_long (codes "seed") = search rules in
    let lines_is : rule_of c.long-3.result ≡ with_long (codes "lines") = search rules in
    let bare : app_of c.disable_help_flag.result ≡ bare_app = search rules in
    let one = c.in_ok-arg.ensures.shape (search rules) ∙ ap₂ with_rule bare c.new-2.ensures.rule in
    let two = c.in_ok-arg-2.ensures.shape (search rules) ∙ ap₂ with_rule one c.new-3.ensures.rule in
    let three = c.in_ok-arg-3.ensures.shape (search rules) ∙ ap₂ with_rule two late_is in
    let four = c.in_ok-arg-4.ensures.shape (search rules) ∙ ap₂ with_rule three seed_is in
    IfOk-weaker c.arg-5.result _ _ (λ r h. h.shape (search rules) ∙ ap₂ with_rule four lines_is) c.arg-5.ensures
