use Rattle.std.proofs.Common.{◌≡◌, ◌++◌, true, false, length, string_bytes}
use denote.Text.{Utf8}
use denote.Shadow.{shadow}
use Rattle.rule_lexer.specs.Spelling.{are_characters}
use Rattle.rule_lexer.specs.Lexing.{unescaped}
use Rattle.rule_lexer.proofs.unescaping.unescaped.Given as goal

abbrev pub invariant-loop-plain : goal.invariant-loop-plain
invariant-loop-plain l = shadow (Utf8 l.rest) × (are_characters false l.rest ≡ true) × (unescaped false l.characters ≡ string_bytes l.text ++ unescaped false l.rest)

abbrev pub decreases-loop-plain : goal.decreases-loop-plain
decreases-loop-plain l = length l.rest
