use Rattle.std.proofs.Common.{◌≡◌, true, false, subst, sym}
use Rattle.rule_lexer.specs.Spelling.{are_characters}
use Rattle.rule_lexer.proofs.TextPlaces.{TextAt, token_text}
use Rattle.rule_lexer.proofs.lexing.terminal_at.Goals as goal

pub range-requires-in-Text-clause-start_boundary : goal.range-requires-in-Text-clause-start_boundary
range-requires-in-Text-clause-start_boundary c = λ l. (token_text c.args.text.now c.args.token.kind c.args.token.from c.args.token.to c.utf8.text c.in-Text.is c.requires.stands).first

pub range-requires-in-Text-clause-end_boundary : goal.range-requires-in-Text-clause-end_boundary
range-requires-in-Text-clause-end_boundary c = (token_text c.args.text.now c.args.token.kind c.args.token.from c.args.token.to c.utf8.text c.in-Text.is c.requires.stands).last

pub unescaped-requires : goal.unescaped-requires
unescaped-requires c =
    let t : TextAt c.args.text.now c.args.token.from c.args.token.to = token_text c.args.text.now c.args.token.kind c.args.token.from c.args.token.to c.utf8.text c.in-Text.is c.requires.stands in
    subst (λ s. are_characters false s ≡ true) (sym c.range-in-Text.ensures.value) t.characters
