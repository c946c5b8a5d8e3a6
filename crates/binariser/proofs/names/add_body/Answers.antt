use Rattle.std.proofs.Common.{rules, map, sym, subst, ap}
use Rattle.rule_ast.specs.Plain.{plain_pattern}
use Rattle.binariser.proofs.NeededLaws.{OnWay, short_part, one_part, ends, popped_way, parts_fewer, none_left}
use Rattle.binariser.proofs.names.add_body.Goals as goal

pub add_part-requires : goal.add_part-requires
add_part-requires c =
    short_part _ _ _ _ _
    (popped_way (λ p. plain_pattern p.now) _ _ c.in-Some.part c.in-Some.ensures.items _ _ _ c.loop-part.invariant)

pub loop-part-smaller : goal.loop-part-smaller
loop-part-smaller c =
    parts_fewer (λ p. plain_pattern p.now) _ _ c.in-Some.part c.in-Some.ensures.items _ c.in_ok-add_part.ensures.parts

pub loop-part-preserved : goal.loop-part-preserved
loop-part-preserved c =
    subst (OnWay c.args.needed.now.keys (plain_pattern c.args.body.now) c.add_part.new.needed.keys) (sym c.in_ok-add_part.ensures.parts)
    (one_part _ _ _ _ _
    (popped_way (λ p. plain_pattern p.now) _ _ c.in-Some.part c.in-Some.ensures.items _ _ _ c.loop-part.invariant)
    _ c.in_ok-add_part.ensures.names)

pub returns : goal.returns
returns c =
    ends _ _ _
    (subst (OnWay c.args.needed.now.keys (plain_pattern c.args.body.now) c.loop-part.needed.keys)
    (ap (map (λ p. plain_pattern p.now)) (none_left c.loop-part.parts.items (search rules))) c.loop-part.invariant)
