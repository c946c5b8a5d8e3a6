-- What a sink in memory has got, what it has room for, and which of its calls fail.
use Rattle.std.specs.Prelude.{ℕ, List}
use Rattle.flow_ports.specs.declared.memory.MemSink.{MemSink}

-- the bytes taken so far
abbrev pub bytes_of : MemSink → List ℕ
bytes_of s = s.bytes.items

-- how many more bytes it can take
abbrev pub room_of : MemSink → ℕ
room_of s = s.room

-- the numbers of the calls that fail
abbrev pub fails_of : MemSink → List ℕ
fails_of s = s.fails.items

-- how many calls there were
abbrev pub calls_of : MemSink → ℕ
calls_of s = s.calls

-- how many of them failed
abbrev pub faults_of : MemSink → ℕ
faults_of s = s.faults
