use Rattle.std.proofs.Common.{sym, ◌∙◌}
use Rattle.std.proofs.lemmas.List.{take_rest}
use Rattle.rule_lexer.proofs.SignLaws.{wild_longest, wild_none, wild_other}
use Rattle.rule_lexer.proofs.signs.wild_at.Goals as goal

pub returns-then-begins_with_word : goal.returns-then-begins_with_word
returns-then-begins_with_word c =
    let e = rw (take_rest c.args.bytes.now 1) at c.begins_with_word.ensures in
    (wild_none c.args.bytes.now c.requires (sym e ∙ c.if-begins_with_word.true), wild_other c.args.bytes.now c.requires)

pub returns : goal.returns
returns c = let e = rw (take_rest c.args.bytes.now 1) at c.begins_with_word.ensures in wild_longest c.args.bytes.now c.requires (sym e ∙ c.if-begins_with_word.false)
