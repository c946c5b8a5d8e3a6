use Rattle.std.proofs.Common.{◌≡◌, ◌<◌, ◌∙◌, get_or, length, sym, ap, subst, arith}
use Rattle.row_table.specs.Pairs.{get, key_at, IsNext, IsStrictlySorted}
use Rattle.row_table.proofs.Behind.{next_is, none_left}
use Rattle.row_table.proofs.Place.{key_is}
use Rattle.row_table.proofs.steps.StepList.next.Goals as goal

pub returns-then-at-len : goal.returns-then-at-len
returns-then-at-len g c =
    let l = c.args.self.now in
    let at = c.place_behind-at.result in
    let within : at < length l = omega (arith, c.if-at-len.true, c.len.ensures, c.self.inside.pairs.ok.0, ap length c.self.view_is) in
    let key : key_at l at ≡ c.index.result.now.0 = key_is l at c.index.result.now within
    ∙ ap (λ (p : _). p.0) (sym (c.index.ensures ∙ ap (λ xs. get_or xs at c.index.result.now) c.self.view_is)) in
    subst (IsNext (get l) c.args.last) key
    (next_is l (subst IsStrictlySorted c.self.view_is c.self.invariant) c.args.last at c.place_behind-at.ensures within c.index.result.now)

pub returns : goal.returns
returns g c =
    none_left c.args.self.now (subst IsStrictlySorted c.self.view_is c.self.invariant) c.args.last c.place_behind-at.result
    c.place_behind-at.ensures
    (omega (arith, c.if-at-len.false, c.len.ensures, c.self.inside.pairs.ok.0, ap length c.self.view_is))
