use Rattle.std.proofs.Common.{min, ◌≤◌, ◌+◌, ◌-◌, ◌*◌, ◌++◌, length, drop, ap, ◌∙◌, arith, length-drop}
use Rattle.line_reader.specs.Keeping.{mark_if}
use Rattle.line_reader.proofs.HoldLaws.{not_shorter, fed_open, fed_held, fed_room, passed_some}
use Rattle.line_reader.proofs.reading.LineReader.feed.Goals as goal

pub invariant_of-self : goal.invariant_of-self
invariant_of-self c =
    let held = c.drop_given.new.self in
    let fed = c.in-Ok.ensures in
    let within : held.at ≤ length held.held.items = omega (arith, held.placed, held.held.ok) in
    record {
      placed = omega (arith, within, not_shorter held.held.items c.keep_piece.new.held.items fed.before, c.keep_piece.new.held.ok);
      counted = fed.counted ∙ fed_open held.held.items _ c.args.piece.now held.at held.last c.in-Ok.last within fed.before fed.kept held.counted;
      few = fed.few;
      full = fed.full;
    }

pub returns-in-Ok-clause-ok : goal.returns-in-Ok-clause-ok
returns-in-Ok-clause-ok c bytes h =
    let old = c.args.self.now in
    let held = c.drop_given.new.self in
    let fed = c.in-Ok.ensures in
    let within : held.at ≤ length held.held.items = omega (arith, held.placed, held.held.ok) in
    let same = ap (λ l. l ++ mark_if held.last.passed) c.drop_given.ensures.kept ∙ ap (λ o. drop old.at old.held.items ++ mark_if o.passed) c.drop_given.ensures.last in
    record { kept = fed_held held.held.items _ c.args.piece.now bytes held.at held.last c.in-Ok.last within fed.before fed.kept held.counted (same ∙ h.kept) }

pub returns-in-Ok-clause-room : goal.returns-in-Ok-clause-room
returns-in-Ok-clause-room c =
    let old = c.args.self.now in
    let held = c.drop_given.new.self in
    let fed = c.in-Ok.ensures in
    let given = c.drop_given.ensures in
    let items = drop old.at old.held.items in
    let most = fed_room held.held.items c.keep_piece.new.held.items c.args.piece.now held.last c.in-Ok.last fed.kept in
    let room : length held.held.items + min 1 (length old.held.items - old.at) ≤ 2 * (length old.held.items - old.at) = given.room in
    let fits : length c.keep_piece.new.held.items ≤ 2 * (length old.held.items - old.at) + length c.args.piece.now =
    omega (arith, most, ap (λ o. length (mark_if o.passed)) given.last, passed_some items old.last old.counted old.full, length-drop old.at old.held.items, room) in
    fits
