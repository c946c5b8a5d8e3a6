use Rattle.std.proofs.Common.{◌≡◌, ◌++◌, drop}
use Rattle.std.specs.Io.{StartsWith}
use Rattle.std.specs.List.{flat_map}
use Rattle.event_model.specs.Text.{escape}
use Rattle.event_model.proofs.texts.push_escaped.Given as goal

-- what was written and what is left are all; what stood there before stands there still
abbrev pub invariant-loop-byte : goal.invariant-loop-byte
invariant-loop-byte l = record {
  rest : l.out.items ++ flat_map escape (drop l.byte-index l.text) ≡ l.initial.out.items ++ flat_map escape l.text;
  front : StartsWith l.out.items l.initial.out.items;
}
