-- What a reader of lines gives of the bytes that it holds.
use Rattle.std.specs.Prelude.{◌≡◌, ℕ, ◌<◌, ◌≤◌, false, ◌==◌, List, [], ◌∷◌, ◌++◌, length}
use Rattle.std.specs.List.{list_any, flat_map}
use Rattle.event_model.specs.Bytes.{feed}
use Rattle.event_model.specs.Lines.{without_cr}
use Rattle.event_model.specs.declared.inputs.TheConstants.{MOST_LINE_BYTES}
use Rattle.line_reader.specs.declared.reading.Line.{Line}
use Rattle.line_reader.specs.declared.reading.Line.TheVariants.{Bytes, Long}

-- no line feed is among these bytes
abbrev pub NoFeed : List ℕ → Type 0
NoFeed bytes = list_any (λ b. b == feed) bytes ≡ false

-- the line that these bytes are, behind which a line feed or the end stood: its bytes, or that they are too many
abbrev pub IsLine : Line → List ℕ → Type 0
IsLine (Bytes line) raw = (line.now ≡ without_cr raw) × (length (without_cr raw) ≤ MOST_LINE_BYTES)
IsLine Long raw = MOST_LINE_BYTES < length (without_cr raw)

-- no line feed is among the bytes of any
abbrev pub AreLines : List (List ℕ) → Type 0
AreLines [] = Unit {0}
AreLines (raw ∷ raws) = NoFeed raw × AreLines raws

-- these lines, each with its line feed
abbrev pub with_feeds : List (List ℕ) → List ℕ
with_feeds raws = flat_map (λ raw. raw ++ feed ∷ []) raws
