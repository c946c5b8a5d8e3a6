use Rattle.std.proofs.Common.{◌-◌, length, IsCharBoundary}
use Rattle.rule_lexer.proofs.Chains.{Lexes}
use Rattle.rule_lexer.proofs.lexing.lex.Given as goal

abbrev pub invariant-loop-token : goal.invariant-loop-token
invariant-loop-token l = IsCharBoundary l.text l.at × Lexes l.text 0 l.terminals.items l.places.items l.at

abbrev pub decreases-loop-token : goal.decreases-loop-token
decreases-loop-token l = length l.text - l.at
