use Rattle.std.proofs.Common.{drop, arith, length-drop}
use Rattle.line_reader.proofs.HoldLaws.{kept_most, kept_exact}
use Rattle.line_reader.proofs.reading.LineReader.held_bytes.Goals as goal

pub returns-clause-most : goal.returns-clause-most
returns-clause-most c bytes h =
    let reader = c.args.self.now in
    let items = drop reader.at reader.held.items in
    omega (arith, c.len.ensures, kept_most items bytes reader.last.passed h.kept, length-drop reader.at reader.held.items)

pub returns-clause-of_line : goal.returns-clause-of_line
returns-clause-of_line c bytes h plain =
    let reader = c.args.self.now in
    let items = drop reader.at reader.held.items in
    omega (arith, c.len.ensures, kept_exact items bytes reader.last reader.counted reader.few reader.full plain h.kept, length-drop reader.at reader.held.items)
