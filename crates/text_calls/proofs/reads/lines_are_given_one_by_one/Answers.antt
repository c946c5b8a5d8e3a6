use Rattle.std.proofs.Common.{rules, ◌≡◌, ℕ, true, false, not, List, [], ◌∷◌, ◌++◌, Option, Some, None, MatchOption, ap, ◌∙◌, true≢false}
use Rattle.std.specs.Option.{is_some}
use Rattle.line_reader.specs.declared.reading.Line.{Line}
use Rattle.line_reader.specs.declared.reading.LineReader.{LineReader}
use Rattle.line_reader.specs.Cutting.{NoFeed, IsLine}
use Rattle.line_reader.specs.Holding.{Holds, MovesOn}
use Rattle.text_calls.proofs.reads.lines_are_given_one_by_one.Goals as goal

abbrev IsFirst : List ℕ → Line → Type 0
IsFirst bytes line = (raw : List ℕ) × (more : List ℕ) × (bytes ≡ raw ++ 10 ∷ more) × NoFeed raw × IsLine line raw

still_holds : (old new : LineReader) (given : Option Line) (bytes : List ℕ) → Holds old bytes → MatchOption given (NoFeed bytes) (IsFirst bytes) → MovesOn old given new → (left : List ℕ) × Holds new left
still_holds old new None bytes h plain moves = (bytes, moves.same bytes h plain)
still_holds old new (Some line) bytes h p moves = (p.1, moves.behind bytes p.0 p.1 h p.2 p.3)

no_line : (given : Option Line) (bytes : List ℕ) → is_some given ≡ false → MatchOption given (NoFeed bytes) (IsFirst bytes) → NoFeed bytes
no_line None bytes e plain = plain
no_line (Some line) bytes e p = absurd (true≢false e)

pub finish-requires : goal.finish-requires
finish-requires g c =
    let fed = c.in_ok-feed.ensures.ok [] c.new-reader.ensures in
    let left = still_holds _ _ c.next_line.result _ fed (c.next_line.ensures.line _ fed) c.next_line.follows.holds-at-none in
    let none : c.is_none.result ≡ true = search rules in
    let plain = no_line c.next_line-2.result left.0 (c.is_none.ensures ∙ ap not none) (c.next_line-2.ensures.line left.0 left.1) in
    (left.0, c.next_line-2.follows.holds-at-none.same left.0 left.1 plain, plain)
