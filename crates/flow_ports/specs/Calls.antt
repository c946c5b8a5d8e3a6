-- The numbers of calls, and how much a call gives.
use Rattle.std.specs.Prelude.{ℕ, ◌+◌, min, max, Option, Some, None}
use Rattle.flow_ports.specs.declared.ports.TheConstants.{LAST_COUNT}

-- the number of the call that follows so many, counted from 1
abbrev pub next_call : ℕ → ℕ
next_call calls = min (calls + 1) LAST_COUNT

-- how many faults there are with one more
abbrev pub next_fault : ℕ → ℕ
next_fault faults = min (faults + 1) LAST_COUNT

-- how many of the bytes that may be given are given: at most a piece, but at least one byte, and all where no piece is named
abbrev pub piece_len : Option ℕ → ℕ → ℕ
piece_len None most = most
piece_len (Some piece) most = min most (max 1 piece)
