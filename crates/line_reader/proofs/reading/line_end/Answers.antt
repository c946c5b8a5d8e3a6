use Rattle.std.proofs.Common.{rules, ◌≡◌, ◌==◌, sym, subst, MatchOption}
use Rattle.std.specs.List.{position}
use Rattle.std.proofs.lemmas.Iterator.{YieldsList-from_slice}
use Rattle.std.proofs.lemmas.Iterator.Search.{position_from_yields_List}
use borrow.Author.Tests.{tests}
use Rattle.line_reader.specs.Cutting.{NoFeed}
use Rattle.line_reader.specs.Keeping.{IsFirstFeed}
use Rattle.line_reader.proofs.KeepLaws.{first_feed}
use Rattle.line_reader.proofs.reading.line_end.Goals as goal

pub returns : goal.returns
returns c =
    let bytes = c.args.bytes.now in
    let found : c.position.result ≡ position (λ b. b == 10) bytes =
    position_from_yields_List (λ b. b == 10) _ _ c.position.result c.position.ensures.ran (YieldsList-from_slice bytes c.iter.ensures.rest) (λ x b q k. search (rules, tests)) in
    subst (λ o. MatchOption o (NoFeed bytes) (λ n. IsFirstFeed n bytes)) (sym found) (first_feed bytes)
