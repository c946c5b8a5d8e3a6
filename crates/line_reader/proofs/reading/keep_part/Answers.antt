use Rattle.std.proofs.Common.{◌||◌, ltb, length, refl, sym, ap, ◌∙◌, arith}
use Rattle.line_reader.proofs.HoldLaws.{part_kept, part_counted}
use Rattle.line_reader.proofs.reading.keep_part.Goals as goal

pub returns-then-last-clause-kept : goal.returns-then-last-clause-kept
returns-then-last-clause-kept c =
    let passed = c.if-last.true in
    part_kept _ _ _ c.args.last c.min-count.result _ c.requires.few c.requires.full c.requires.plain c.min-count.ensures c.in_ok-extend_from_slice.ensures.items
    (passed ∙ sym (ap (λ t. t || ltb c.min-count.result (length c.args.part.now)) passed))

pub returns-else-last-clause-kept : goal.returns-else-last-clause-kept
returns-else-last-clause-kept c =
    part_kept _ _ _ c.args.last c.min-count.result _ c.requires.few c.requires.full c.requires.plain c.min-count.ensures c.in_ok-extend_from_slice.ensures.items
    (sym (ap (λ t. t || ltb c.min-count.result (length c.args.part.now)) c.if-last.false))

pub returns-then-last-clause-counted : goal.returns-then-last-clause-counted
returns-then-last-clause-counted c =
    part_counted _ _ _ c.args.last _ c.min-count.result c.requires.plain (omega (arith, c.min-count.ensures)) c.in_ok-extend_from_slice.ensures.items refl
    (returns-then-last-clause-kept c)

pub returns-else-last-clause-counted : goal.returns-else-last-clause-counted
returns-else-last-clause-counted c =
    part_counted _ _ _ c.args.last _ c.min-count.result c.requires.plain (omega (arith, c.min-count.ensures)) c.in_ok-extend_from_slice.ensures.items refl
    (returns-else-last-clause-kept c)
