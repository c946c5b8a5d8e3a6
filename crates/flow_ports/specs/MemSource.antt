-- What a source in memory has left, how much each of its calls gives, and which of them fail.
use Rattle.std.specs.Prelude.{ℕ, List, drop}
use Rattle.flow_ports.specs.declared.memory.MemSource.{MemSource}

-- the bytes still to come
abbrev pub bytes_of : MemSource → List ℕ
bytes_of s = drop s.at s.bytes.items

-- at most how many bytes its first calls give, one after another
abbrev pub pieces_of : MemSource → List ℕ
pieces_of s = s.pieces.items

-- the numbers of the calls that fail
abbrev pub fails_of : MemSource → List ℕ
fails_of s = s.fails.items

-- how many calls there were
abbrev pub calls_of : MemSource → ℕ
calls_of s = s.calls

-- how many of them failed
abbrev pub faults_of : MemSource → ℕ
faults_of s = s.faults
