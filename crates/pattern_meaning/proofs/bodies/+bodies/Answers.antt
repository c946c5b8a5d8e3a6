use Rattle.std.proofs.Common.{◌≤◌, Some, arith, sym}
use Rattle.std.proofs.lemmas.List.Elements.{All-push, All-pop, All-same}
use Rattle.rule_ast.specs.Plain.{plain_pattern}
use Rattle.pattern_meaning.specs.Found.{named_by}
use Rattle.pattern_meaning.specs.Words.{words_of}
use Rattle.pattern_meaning.proofs.ClimbingLaws.{size, left_smaller, down, up}
use Rattle.pattern_meaning.proofs.bodies.+bodies.Goals as goal

pub pattern_rows-loop-left-preserved : goal.pattern_rows-loop-left-preserved
pattern_rows-loop-left-preserved t c =
    let h = c.loop-left.invariant in
    let pushed = c.in_ok-push.ensures.items in
    let left_is = c.in-Some.ensures in
    let less = left_smaller (plain_pattern c.loop-left.first.now) (plain_pattern c.in-Some.left.now) (sym left_is) in (
      down (named_by (words_of c.args.found.now)) (λ p. plain_pattern p.now) _ _ c.loop-left.first (plain_pattern c.in-Some.left.now) _ pushed left_is h.0,
      All-same (λ p. size (plain_pattern p.now) ≤ size (plain_pattern c.args.pattern.now)) _ _ pushed (All-push (λ p. size (plain_pattern p.now) ≤ size (plain_pattern c.args.pattern.now)) _ _ h.1 h.2),
      omega (arith, less, h.2),
    )

pub pattern_rows-loop-whole-preserved : goal.pattern_rows-loop-whole-preserved
pattern_rows-loop-whole-preserved t c =
    let h = c.loop-whole.invariant in
    let popped = c.in-Some-pop.ensures.items in (
      up (named_by (words_of c.args.found.now)) (λ p. plain_pattern p.now) _ _ c.in-Some-pop.whole _ _ _ popped h.0 c.in_ok-rows-2.ensures,
      (All-pop (λ p. size (plain_pattern p.now) ≤ size (plain_pattern c.args.pattern.now)) _ _ (Some c.in-Some-pop.whole) popped h.1).0,
    )
