use Rattle.std.proofs.Common.{refl, sym, ap, ◌∙◌, ◌++◌, ◌+◌}
use Rattle.term_reader.specs.Grammar.{between}
use Rattle.term_reader.proofs.Letters.{wide_start, wide_more, wide_whole}
use Rattle.term_reader.proofs.texts.wide_at.Goals as goal

pub loop-byte-init : goal.loop-byte-init
loop-byte-init c = (wide_start _ _ _ _ c.requires c.in-Some.ensures, refl)

pub returns-in-Whole : goal.returns-in-Whole
returns-in-Whole c =
    wide_whole _ _ _ _ _ _ _ c.loop-byte.invariant.0 c.in-Some-high_at.ensures (sym c.in-Whole.ensures)
    (c.in_ok-extend_from_slice-in-Whole.ensures.items ∙ ap (λ x. x ++ between c.args.at (c.loop-byte.end + 1) c.args.bytes.now) c.loop-byte.invariant.1)

pub loop-byte-preserved : goal.loop-byte-preserved
loop-byte-preserved c = (wide_more _ _ _ _ _ _ c.loop-byte.invariant.0 c.in-Some-high_at.ensures (sym c.in-Needs.ensures), c.loop-byte.invariant.1)
