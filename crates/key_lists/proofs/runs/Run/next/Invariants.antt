use Rattle.std.proofs.Common.{◌≡◌}
use Rattle.key_lists.specs.Pieces.{from}
use Rattle.key_lists.proofs.runs.Run.next.Given as goal

-- the pieces so far have nothing at the position or behind it
abbrev pub invariant-loop-number : goal.invariant-loop-number
invariant-loop-number g l = from l.self.first.now l.self.more.now l.fn.position.piece l.fn.position.at ≡ from l.self.first.now l.self.more.now l.number l.at
