-- What a reader of lines keeps of the bytes that were fed.
use Rattle.std.specs.Prelude.{◌≡◌, ℕ, ◌+◌, ◌<◌, nat_lt, Bool, true, false, ◌==◌, if◌then◌else◌, List, [], ◌∷◌, ◌++◌, length, take, drop}
use Rattle.event_model.specs.Bytes.{feed}
use Rattle.event_model.specs.declared.inputs.TheConstants.{MOST_LINE_BYTES}
use Rattle.line_reader.specs.declared.reading.OpenLine.{OpenLine}
use Rattle.line_reader.specs.Cutting.{NoFeed}

-- so many bytes are kept of a line: the longest with its carriage return
abbrev pub most_kept : ℕ
most_kept = MOST_LINE_BYTES + 1

-- stands for all bytes of a line behind those that are kept
abbrev pub passed_mark : ℕ
passed_mark = 0

abbrev pub mark_if : Bool → List ℕ
mark_if true = passed_mark ∷ []
mark_if false = []

-- a byte of a line, of which n came before
abbrev pub kept_byte : ℕ → ℕ → ℕ
kept_byte n b = if n == most_kept then passed_mark else b

-- the bytes with each line cut to what is kept of it and its mark, where n of the first line came before
abbrev pub clipped_from : ℕ → List ℕ → List ℕ
clipped_from n [] = []
clipped_from n (b ∷ bytes) =
    if b == feed then b ∷ clipped_from 0 bytes
    else if nat_lt n (most_kept + 1) then kept_byte n b ∷ clipped_from (n + 1) bytes else clipped_from n bytes

-- how many bytes stand behind the last line feed, where n came before
abbrev pub open_from : ℕ → List ℕ → ℕ
open_from n [] = n
open_from n (b ∷ bytes) = if b == feed then open_from 0 bytes else open_from (n + 1) bytes

-- an open line of which nothing came
abbrev pub none_open : OpenLine
none_open = record { kept = 0; passed = false }

-- how many bytes stand for an open line, the mark among them
abbrev pub marked_length : OpenLine → ℕ
marked_length line = line.kept + length (mark_if line.passed)

-- the first line feed stands at this place
pub record IsFirstFeed (n : ℕ) (bytes : List ℕ) : Type 0 where
  pub within : n < length bytes
  pub parts : bytes ≡ take n bytes ++ feed ∷ drop (n + 1) bytes
  pub plain : NoFeed (take n bytes)
