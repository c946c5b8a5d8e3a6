use Rattle.std.proofs.Common.{◌≡◌, ◌++◌, map, drop}
use Rattle.std.specs.Io.{StartsWith}
use Rattle.std.specs.List.{join_with_byte}
use Rattle.event_model.specs.Text.{term_text}
use Rattle.event_model.proofs.Commas.{behind_commas}
use Rattle.event_model.proofs.texts.+text.Given as goal

-- what was written and what is left are all; what stood there before stands there still
abbrev pub invariant-push_args-loop-i : goal.invariant-push_args-loop-i
invariant-push_args-loop-i l = record {
  rest : l.out.items ++ behind_commas (map term_text (drop l.i l.args)) ≡ l.fn.out.items ++ join_with_byte 44 (map term_text l.args);
  front : StartsWith l.out.items l.fn.out.items;
}
