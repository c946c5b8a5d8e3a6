use Rattle.std.proofs.Common.{◌≡◌, true, false, ◌++◌, IfOk, string_bytes, subst, sym, ap, ◌∙◌}
use Rattle.std.proofs.lemmas.Str.{IsCharBoundary-after_ascii}
use Rattle.rule_lexer.specs.Spelling.{are_characters}
use Rattle.rule_lexer.specs.Lexing.{unescaped}
use Rattle.rule_lexer.proofs.Escapes.{SplitAt, EscapeAt, split_at, split_none, split_text, escape_at, escape_read}
use Rattle.rule_lexer.proofs.unescaping.unescaped.Goals as goal

pub loop-plain-preserved : goal.loop-plain-preserved
loop-plain-preserved c =
    let s : SplitAt c.loop-plain.rest.now c.in-Some.plain.now c.in-Some.behind.now = split_at c.loop-plain.rest.now (c.in-Some.plain, c.in-Some.behind) c.in-Some.ensures.cases c.loop-plain.invariant.1 in
    let e : EscapeAt c.in-Some.behind.now = escape_at c.in-Some.behind.now s.escape in
    let read = escape_read c.args.characters.now (string_bytes c.loop-plain.text) c.loop-plain.rest.now c.in-Some.plain.now c.in-Some.behind.now s.whole s.unescaped e.some c.loop-plain.invariant.2 in
    let plain = c.in_ok-push_str.ensures.bytes in
    let pushed = c.in_ok-push.ensures.bytes in
    let one = c.in_ok-push.ensures.ascii c.escaped_char.ensures.ascii in
    let byte = c.escaped_char.ensures.value in
    let next = c.range_from-rest.ensures.value in (
      c.range_from-rest.utf8,
      subst (λ x. are_characters false x ≡ true) (sym next) e.behind,
      (cc),
    )

pub returns : goal.returns
returns c =
    let same = split_none c.loop-plain.rest.now c.in_default.ensures.cases in
    let e : string_bytes c.push_str-2.new.self ≡ unescaped false c.args.characters.now = c.in_ok-push_str-2.ensures.bytes ∙ (ap (λ x. string_bytes c.loop-plain.text ++ x) (sym same) ∙ sym c.loop-plain.invariant.2) in
    subst (λ s. IfOk c.from_string.result (λ n. n ≡ s)) e c.from_string.ensures

pub escaped_char-requires : goal.escaped_char-requires
escaped_char-requires c = (split_at c.loop-plain.rest.now (c.in-Some.plain, c.in-Some.behind) c.in-Some.ensures.cases c.loop-plain.invariant.1).escape

pub range_from-rest-requires : goal.range_from-rest-requires
range_from-rest-requires c =
    let s : SplitAt c.loop-plain.rest.now c.in-Some.plain.now c.in-Some.behind.now = split_at c.loop-plain.rest.now (c.in-Some.plain, c.in-Some.behind) c.in-Some.ensures.cases c.loop-plain.invariant.1 in
    let e : EscapeAt c.in-Some.behind.now = escape_at c.in-Some.behind.now s.escape in
    λ l. IsCharBoundary-after_ascii c.in-Some.behind.now 0 (split_text c.loop-plain.rest.now (c.in-Some.plain, c.in-Some.behind) c.in-Some.ensures.cases c.loop-plain.invariant.0) e.some e.ascii
