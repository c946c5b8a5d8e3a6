use Rattle.std.proofs.Common.{◌∙◌, ◌&&◌, sym}
use Rattle.std.proofs.lemmas.Bool.{le-leb}
use Rattle.goal_store.proofs.Standing.{step_end}
use Rattle.goal_store.proofs.walks.RowsFrom.seek.Goals as goal

pub returns-then-place-self-clause-none : goal.returns-then-place-self-clause-none
returns-then-place-self-clause-none c = c.loop-place.invariant
    ∙ step_end c.args.self.now c.in-Some.place.now c.loop-place.at c.in-Some.behind c.in-Some.ensures c.if-place-self.true

pub returns-then-shows-clause-stop : goal.returns-then-shows-clause-stop
returns-then-shows-clause-stop c = record {
  here = c.in-Some.ensures;
  shown = λ i. (sym c.shows.ensures ∙ c.if-shows.true) i && le-leb c.in-Some.place.now.edge c.args.self.now.high c.if-place-self.false i;
  first = c.loop-place.invariant;
}
