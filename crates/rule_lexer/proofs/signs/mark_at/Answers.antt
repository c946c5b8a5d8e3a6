use Rattle.std.proofs.Common.{sym, ◌∙◌}
use Rattle.std.proofs.lemmas.List.{take_rest}
use Rattle.rule_lexer.proofs.SignLaws.{two_longest, lone_longest, sign_none, sign_other}
use Rattle.rule_lexer.proofs.signs.mark_at.Goals as goal

pub returns-in-Some : goal.returns-in-Some
returns-in-Some c = let e = rw (take_rest c.args.bytes.now 1) at c.two_mark.ensures in two_longest c.args.bytes.now c.in-Some.mark c.requires (sym e ∙ c.in-Some.is)

pub returns-in-Some-lone_mark : goal.returns-in-Some-lone_mark
returns-in-Some-lone_mark c =
    let two = rw (take_rest c.args.bytes.now 1) at c.two_mark.ensures in
    let lone = rw (take_rest c.args.bytes.now 1) at c.lone_mark.ensures in
    lone_longest c.args.bytes.now c.in-Some-lone_mark.mark c.requires (sym two ∙ c.in_default.is) (sym lone ∙ c.in-Some-lone_mark.is)

pub returns : goal.returns
returns c =
    let two = rw (take_rest c.args.bytes.now 1) at c.two_mark.ensures in
    let lone = rw (take_rest c.args.bytes.now 1) at c.lone_mark.ensures in
    (sign_none c.args.bytes.now c.requires (sym two ∙ c.in_default.is) (sym lone ∙ c.in_default-lone_mark.is), sign_other c.args.bytes.now c.requires)
