use Rattle.std.proofs.Common.{◌≡◌, ◌∙◌, ap}
use Rattle.std.specs.Option.{option_map, option_and_then}
use Rattle.row_table.specs.Pairs.{get}
use Rattle.row_table.proofs.Kept.{some_step}
use Rattle.row_table.proofs.rows.RowTable.is_bare.Goals as goal

-- a record with a step isn't bare
pub returns-in-Some-clause-other : goal.returns-in-Some-clause-other
returns-in-Some-clause-other g c e none =
    absurd (some_step c.in-Some.entry.now.value (c.is_empty.ensures.full e)
    (λ s. ap (λ o. option_and_then (λ m. get m s) (option_map (λ x. x.value) o)) c.in-Some.ensures ∙ none s))
