use Rattle.std.proofs.Common.{◌≡◌, sym, ap, ◌∙◌, ◌∷◌, Some, arith}
use Rattle.std.proofs.lemmas.Result.{IfOk-weaker}
use Rattle.ev_bind.proofs.Chaining.{alone_binding, low_binding, low_join, high_binding, high_join}
use Rattle.ev_bind.proofs.unions.+with_pair.Goals as goal

pub in_front-requires : goal.in_front-requires
in_front-requires t c = alone_binding (c.args.slot, c.in_ok-share-in-None.field-0) c.empty.result c.empty.ensures

pub in_front-requires-then-number : goal.in_front-requires-then-number
in_front-requires-then-number t c =
    low_binding c.args.binding.now (c.in-Some.cell.now.slot, c.in-Some.cell.now.term) (c.args.slot, c.in_ok-share-in-Some.field-0) c.in-Some.cell.now.rest c.in-Some.ensures.pairs c.first.ensures.binding
    c.in_ok-share-in-Some-2.field-0 c.in_ok-share-in-Some-2.ensures (omega (arith, c.if-number.true, c.number.ensures.number, c.number-in-Some.ensures.number))

pub returns-then-number : goal.returns-then-number
returns-then-number t c = IfOk-weaker c.in_front-then-number.result (λ b. b ≡ (c.args.slot, c.in_ok-share-in-Some.field-0) ∷ c.in_ok-share-in-Some-2.field-0) _
    (λ b e. low_join c.args.binding.now (c.in-Some.cell.now.slot, c.in-Some.cell.now.term) (c.args.slot, c.args.term.now) c.in-Some.cell.now.rest c.in-Some.ensures.pairs c.first.ensures.binding
    b (e ∙ (λ i. (c.args.slot, c.in_ok-share-in-Some.ensures i) ∷ c.in_ok-share-in-Some-2.ensures i)) (omega (arith, c.if-number.true, c.number.ensures.number, c.number-in-Some.ensures.number)))
    c.in_front-then-number.ensures

pub with-requires : goal.with-requires
with-requires t c = high_binding c.args.binding.now (c.in-Some.cell.now.slot, c.in-Some.cell.now.term) (c.args.slot, c.args.term.now) c.in-Some.cell.now.rest c.in-Some.ensures.pairs c.first.ensures.binding
    c.in_ok-rest-in-Some.rest (omega (arith, c.if-number.false, c.number.ensures.number, c.number-in-Some.ensures.number)) c.requires c.in_ok-rest-in-Some.ensures

pub returns-in_ok-rest-in-Some : goal.returns-in_ok-rest-in-Some
returns-in_ok-rest-in-Some t c = IfOk-weaker c.with.result (λ b. b ≡ (c.in-Some.cell.now.slot, c.in-Some.cell.now.term) ∷ c.in_ok-rest-in-Some.rest) _
    (λ b e. high_join c.args.binding.now (c.in-Some.cell.now.slot, c.in-Some.cell.now.term) (c.args.slot, c.args.term.now) c.in-Some.cell.now.rest c.in-Some.ensures.pairs c.first.ensures.binding
    c.in_ok-rest-in-Some.rest (omega (arith, c.if-number.false, c.number.ensures.number, c.number-in-Some.ensures.number)) c.requires c.in_ok-rest-in-Some.ensures ∙ ap Some (sym e))
    c.with.ensures
