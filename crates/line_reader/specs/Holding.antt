-- The bytes that a reader of lines stands for.
use Rattle.std.specs.Prelude.{◌≡◌, ℕ, ◌-◌, ◌<◌, ◌≤◌, List, ◌∷◌, ◌++◌, length, drop, Option, IsSome, IsNone}
use Rattle.event_model.specs.Bytes.{feed}
use Rattle.line_reader.specs.declared.reading.Line.{Line}
use Rattle.line_reader.specs.declared.reading.LineReader.{LineReader}
use Rattle.line_reader.specs.Cutting.{NoFeed}
use Rattle.line_reader.specs.Keeping.{most_kept, mark_if, clipped_from}

-- the bytes that are kept and not yet given, and the mark of the open line where it has more
abbrev pub marked : LineReader → List ℕ
marked reader = drop reader.at reader.held.items ++ mark_if reader.last.passed

-- these bytes were fed and not yet given in lines; of a line that is too long fewer are kept, so a reader stands for many lists
pub record Holds (reader : LineReader) (bytes : List ℕ) : Type 0 where
  pub kept : marked reader ≡ clipped_from 0 bytes

-- how many bytes it keeps of those that it stands for
abbrev pub bytes_kept : LineReader → ℕ
bytes_kept reader = length reader.held.items - reader.at

-- how many bytes lie in its memory, those that it gave among them
abbrev pub bytes_stored : LineReader → ℕ
bytes_stored reader = length reader.held.items

-- What it holds once it gave this answer: what stands behind the first line, or the same where no line is ended. A line leaves it
-- fewer bytes, and none at most those of the longest line with its carriage return.
pub record MovesOn (old : LineReader) (result : Option Line) (new : LineReader) : Type 0 where
  pub same : (bytes : List ℕ) → Holds old bytes → NoFeed bytes → Holds new bytes
  pub behind : (bytes raw more : List ℕ) → Holds old bytes → bytes ≡ raw ++ feed ∷ more → NoFeed raw → Holds new more
  pub fewer : IsSome result → bytes_kept new < bytes_kept old
  pub few : IsNone result → bytes_kept new ≤ most_kept
