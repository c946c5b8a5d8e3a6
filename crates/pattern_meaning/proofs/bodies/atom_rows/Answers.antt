use Rattle.std.proofs.Common.{◌∙◌, ap}
use Rattle.std.specs.List.{flat_map}
use Rattle.pattern_meaning.specs.PatternRows.{rows_of}
use Rattle.pattern_meaning.specs.Found.{matched_rows}
use Rattle.pattern_meaning.specs.Words.{words_of}
use Rattle.pattern_meaning.proofs.FoundLaws.{atom_rows_are}
use Rattle.pattern_meaning.proofs.bodies.atom_rows.Goals as goal

pub returns : goal.returns
returns c =
    c.in_ok-sorted.ensures
    ∙ ap rows_of (c.in_ok-matching.ensures ∙ ap (flat_map (matched_rows c.args.pat.now)) c.of_word.ensures)
    ∙ atom_rows_are c.args.pat.now (words_of c.args.found.now c.args.pat.now.name)
