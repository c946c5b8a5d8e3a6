use Rattle.std.proofs.Common.{refl, ◌∙◌, sym, length, arith}
use Rattle.std.proofs.lemmas.Bool.{ltb-true, ltb-false}
use Rattle.key_lists.proofs.Lending.{from_next, from_past, from_none, there}
use Rattle.key_lists.proofs.runs.Run.next.Goals as goal
use Rattle.key_lists.proofs.runs.Run.next.Goals.{in-Some+in_default-get, in_default}

pub loop-number-init : goal.loop-number-init
loop-number-init g c = refl

pub returns-in-Some-get : goal.returns-in-Some-get
returns-in-Some-get g c =
    c.loop-number.invariant
    ∙ from_next c.args.self.now.first.now c.in-Some.items.now c.args.self.now.more.now c.loop-number.number c.loop-number.at c.in-Some-get.item.now
    (sym c.in-Some.ensures) (ltb-true c.loop-number.at (length c.in-Some.items.now) (sym c.in-Some-get.ensures.lookup.0)) c.in-Some-get.ensures.lookup.1

pub returns : goal.returns
returns g c =
    c.loop-number.invariant
    ∙ from_none c.args.self.now.first.now c.args.self.now.more.now c.loop-number.number c.loop-number.at (omega (arith, c.loop-number-test.false))

pub loop-number-preserved : goal.loop-number-preserved
loop-number-preserved g c = elim c.match-piece.branch [
  | in-Some+in_default-get w ↦ c.loop-number.invariant
      ∙ from_past c.args.self.now.first.now w.in-Some.items.now c.args.self.now.more.now c.loop-number.number c.loop-number.at (sym w.in-Some.ensures)
      (ltb-false c.loop-number.at (length w.in-Some.items.now) (sym w.in_default-get.ensures.lookup.0))
  | in_default w ↦ absurd (there c.args.self.now.first.now c.args.self.now.more.now c.loop-number.number (omega (arith, c.loop-number-test.true))
      (sym w.in_default.ensures))
]
