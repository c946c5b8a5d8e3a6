use Rattle.std.proofs.Common.{◌+◌, ◌++◌, refl, sym, ap, ◌∙◌, arith, length, length-drop, true≢false}
use Rattle.line_reader.specs.Keeping.{mark_if, clipped_from, open_from, marked_length}
use Rattle.line_reader.proofs.HoldLaws.{slice_behind, piece_kept, piece_counted, front_stays}
use Rattle.line_reader.proofs.reading.keep_piece.Goals as goal

pub keep_part-requires-clause-plain : goal.keep_part-requires-clause-plain
keep_part-requires-clause-plain c = c.in-Some.ensures.plain

pub overflow_add-rest : goal.overflow_add-rest
overflow_add-rest c = omega (arith, c.in-Some.ensures.within)

pub loop-length-preserved : goal.loop-length-preserved
loop-length-preserved c =
    let rest = c.loop-length.rest.now in
    let inv = c.loop-length.invariant in
    let last = c.loop-length.last in
    let next = c.new-last.result in
    let n = c.in-Some.length in
    let first = c.in-Some.ensures in
    let left = slice_behind rest rest (n + 1) refl in
    record {
      few = omega (arith, ap (λ o. o.kept) c.new-last.ensures);
      full = λ passed. absurd (true≢false (sym passed ∙ ap (λ o. o.passed) c.new-last.ensures));
      kept = inv.kept ∙ piece_kept c.loop-length.held.items c.keep_part.new.held.items _ rest last c.in_ok-line.line next n first c.in_ok-line.ensures.kept c.in_ok-end_line.ensures.ok c.new-last.ensures
          ∙ ap (λ l. (c.end_line.new.held.items ++ mark_if next.passed) ++ clipped_from (marked_length next) l) (sym left);
      counted = inv.counted ∙ piece_counted rest last next n first c.new-last.ensures
          ∙ ap (λ l. open_from (marked_length next) (clipped_from (marked_length next) l)) (sym left);
      shorter = omega (arith, ap length left, length-drop (n + 1) rest);
      front = front_stays _ _ _ (front_stays _ _ _ inv.front c.in_ok-line.ensures.before) c.in_ok-end_line.ensures.before;
    }
