use Rattle.std.proofs.Common.{◌≡◌, ◌++◌}
use Rattle.std.specs.List.{flat_map}
use Rattle.pattern_meaning.specs.Replies.{both_texts}
use Rattle.event_changes.specs.Told.{changes_left}
use Rattle.etalis_core.specs.StandsFor.{last_change}
use Rattle.etalis_cli.proofs.ReplyLaws.{line_of}
use Rattle.etalis_cli.proofs.telling.push_changes.Given as goal

-- what was written and what is left are all
abbrev pub invariant-loop-changed : goal.invariant-loop-changed
invariant-loop-changed l = l.out.items ++ flat_map line_of (changes_left l.changed-iterator) ≡ l.initial.out.items ++ both_texts (last_change l.engine)
