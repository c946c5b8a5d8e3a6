use Rattle.std.proofs.Common.{◌≡◌, ◌≤◌, ◌++◌, IsTrue, length, take}
use Rattle.line_reader.specs.Keeping.{most_kept, mark_if, clipped_from, open_from, marked_length}
use Rattle.line_reader.proofs.reading.keep_piece.Given as goal

abbrev pub invariant-loop-length : goal.invariant-loop-length
invariant-loop-length l = record {
  few : l.last.kept ≤ most_kept;
  full : IsTrue l.last.passed → l.last.kept ≡ most_kept;
  kept :
      (l.initial.held.items ++ mark_if l.fn.last.passed) ++ clipped_from (marked_length l.fn.last) l.piece
      ≡ (l.held.items ++ mark_if l.last.passed) ++ clipped_from (marked_length l.last) l.rest;
  counted : open_from (marked_length l.fn.last) (clipped_from (marked_length l.fn.last) l.piece) ≡ open_from (marked_length l.last) (clipped_from (marked_length l.last) l.rest);
  shorter : length l.rest ≤ length l.piece;
  front : take (length l.initial.held.items) l.held.items ≡ l.initial.held.items;
}

abbrev pub decreases-loop-length : goal.decreases-loop-length
decreases-loop-length l = length l.rest
