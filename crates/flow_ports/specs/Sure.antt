-- What a source that never fails has left, and what a sink that never fails tells.
use Rattle.std.specs.Prelude.{ℕ, List, drop, Option, None}
use Rattle.flow_ports.specs.declared.sure.SureSource.{SureSource}

-- the bytes still to come
abbrev pub bytes_of : SureSource → List ℕ
bytes_of s = drop s.at s.bytes.items

-- bytes that aren't told
abbrev pub not_told : Option (List ℕ)
not_told = None
