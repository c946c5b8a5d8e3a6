use Rattle.std.proofs.Common.{◌≡◌, ℕ, List, Result, Ok, Err, sym, ◌∙◌, subst, arith}
use Rattle.std.specs.Result.{IsErrAnd}
use Rattle.std.proofs.lemmas.List.{take_rest}
use Rattle.rule_lexer.specs.declared.tokens.TokenKind.{TokenKind}
use Rattle.rule_lexer.specs.declared.tokens.LexKind.{LexKind}
use Rattle.rule_lexer.specs.Places.{Faulty}
use Rattle.rule_lexer.specs.Reading.{NoneOf, Scanned}
use Rattle.rule_lexer.proofs.TextLaws.{text_longest, text_fault}
use Rattle.rule_lexer.proofs.texts.text_at.Goals as goal

-- a fault that is handed on
handed : (bytes : List ℕ) (kind : LexKind) (r : Result (TokenKind × ℕ) LexKind) → IsErrAnd r (λ k. k ≡ kind) → NoneOf bytes × Faulty kind bytes → Scanned bytes r
handed bytes kind (Ok x) h f = absurd h
handed bytes kind (Err k) h f = subst (λ k. NoneOf bytes × Faulty k bytes) (sym h) f

pub overflow_add-result : goal.overflow_add-result
overflow_add-result c =
    let e = rw (take_rest c.args.bytes.now 1) at c.text_end.ensures in
    let within = (text_longest c.args.bytes.now c.in_ok-len.len c.requires (sym e ∙ c.in_ok-len.was)).stands.within in
    omega arith

pub returns : goal.returns
returns c = let e = rw (take_rest c.args.bytes.now 1) at c.text_end.ensures in text_longest c.args.bytes.now c.in_ok-len.len c.requires (sym e ∙ c.in_ok-len.was)

pub returns-in_err-len : goal.returns-in_err-len
returns-in_err-len c =
    let e = rw (take_rest c.args.bytes.now 1) at c.text_end.ensures in
    handed _ _ c.from_residual.result c.from_residual.ensures.1 (text_fault c.args.bytes.now c.in_err-len.field-0.0 c.requires (sym e ∙ c.in_err-len.was))
