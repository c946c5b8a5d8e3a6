-- The files that a shelf in memory holds, and which of its calls fail.
use Rattle.std.specs.Prelude.{ℕ, List, String, Vec}
use Rattle.std.specs.declared.alloc.Global.{Global}
use Rattle.flow_ports.specs.declared.memory.MemShelf.{MemShelf}

-- the files, each with its name
abbrev pub files_of : MemShelf → List (String Global × Vec ℕ Global)
files_of s = s.files.items

-- the numbers of the calls that fail
abbrev pub fails_of : MemShelf → List ℕ
fails_of s = s.fails.items

-- how many calls there were
abbrev pub calls_of : MemShelf → ℕ
calls_of s = s.calls

-- how many of them failed
abbrev pub faults_of : MemShelf → ℕ
faults_of s = s.faults
