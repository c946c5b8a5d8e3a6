use Rattle.std.proofs.Common.{rules, subst, MatchOption}
use Rattle.line_reader.specs.Cutting.{NoFeed}
use Rattle.line_reader.specs.Keeping.{IsFirstFeed}
use Rattle.line_reader.proofs.HoldLaws.{no_feed-open, slice_behind}
use Rattle.line_reader.proofs.reading.LineReader.first_length.Goals as goal

pub returns-then-self-len : goal.returns-then-self-len
returns-then-self-len c = no_feed-open c.args.self.now.held.items c.args.self.now.at c.args.self.now.last c.args.self.now.counted (search rules)

pub returns : goal.returns
returns c =
    subst (λ l. MatchOption c.line_end.result (NoFeed l) (λ n. IsFirstFeed n l))
    (slice_behind c.deref.result.now c.args.self.now.held.items c.args.self.now.at c.deref.ensures.value) c.line_end.ensures
