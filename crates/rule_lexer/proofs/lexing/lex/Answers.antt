use Rattle.std.proofs.Common.{◌≡◌, refl, ap, Ok, IsCharBoundary}
use Rattle.std.proofs.lemmas.Str.{IsCharBoundary-start}
use Rattle.rule_lexer.specs.Places.{first_place, IsLongest}
use Rattle.rule_lexer.specs.Lexing.{TerminalAt}
use Rattle.rule_lexer.proofs.Chains.{told, lexes_none, lexes_push, lexes_end, no_more}
use Rattle.rule_lexer.proofs.lexing.lex.Goals as goal

pub loop-token-init : goal.loop-token-init
loop-token-init c = (IsCharBoundary-start c.args.text.now c.utf8.text, lexes_none c.args.text.now 0 _ _ c.new-terminals.ensures.items c.new-places.ensures.items)

pub loop-token-preserved : goal.loop-token-preserved
loop-token-preserved c =
    let some = c.in-Ok-Some.field-0-is in
    let place : c.in-Ok-Some.token.from ≡ first_place c.args.text.now c.loop-token.at = told some (λ t. t.from ≡ first_place c.args.text.now c.loop-token.at) c.in-Ok-Some.ensures.place in
    let longest = told some (λ t. IsLongest c.args.text.now t.kind t.from t.to) c.in-Ok-Some.ensures.longest in
    let ends = told some (λ t. IsCharBoundary c.args.text.now t.from × IsCharBoundary c.args.text.now t.to) c.in-Ok-Some.ensures.ends in
    let token : TerminalAt c.args.text.now c.in_ok-terminal_at-in-Ok-Some.field-0 c.in-Ok-Some.token.from c.in-Ok-Some.token.to = record { kind = c.in-Ok-Some.token.kind; longest = longest; says = c.in_ok-terminal_at-in-Ok-Some.ensures } in (
      ends.1,
      lexes_push c.args.text.now 0 c.loop-token.terminals.items _ c.loop-token.places.items _ c.loop-token.at c.in_ok-terminal_at-in-Ok-Some.field-0 c.in-Ok-Some.token.from c.in-Ok-Some.token.to
          c.loop-token.invariant.1 place token c.in_ok-push-in-Ok-Some.ensures.items c.in_ok-push-in-Ok-Some-2.ensures.items,
    )

pub returns-in-Ok-None : goal.returns-in-Ok-None
returns-in-Ok-None c = lexes_end c.args.text.now 0 _ _ c.loop-token.at _ _ c.loop-token.invariant.1 (c.in-Ok-None.ensures.none.0 (ap Ok c.in-Ok-None.field-0-is), refl)

pub returns-in-Err : goal.returns-in-Err
returns-in-Err c =
    let none = c.in-Err.ensures.exact.0 refl in
    lexes_end c.args.text.now 0 _ _ c.loop-token.at _ _ c.loop-token.invariant.1 (no_more c.args.text.now c.loop-token.at _ c.in-Err.ensures.fault none.0 none.1)
