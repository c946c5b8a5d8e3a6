use Rattle.std.proofs.Common.{◌≡◌, suc, ◌-◌, ◌++◌, ◌∙◌, ap, length, slice_set, arith}
use Rattle.std.proofs.lemmas.List.{take-append-drop}
use Rattle.std.specs.List.{insert}
use Rattle.key_lists.specs.Pieces.{joined, all_in}
use Rattle.key_lists.proofs.Parting.{split_first, split_more}
use Rattle.key_lists.proofs.pieces.Pieces.part.Goals as goal

pub returns-in_ok-behind-clause-all : goal.returns-in_ok-behind-clause-all
returns-in_ok-behind-clause-all g c =
    let first = c.args.self.now.first.items in
    ap (all_in c.split_off.new.self.items) (c.put_piece.ensures ∙ ap (λ m. insert m 0 c.in_ok-behind.behind) c.reserve.ensures.items)
    ∙ split_first first c.split_off.new.self.items c.args.self.now.more.items c.in_ok-behind.behind
    ((λ i. c.in_ok-behind.ensures.items i ++ c.in_ok-behind.ensures.tail i) ∙ take-append-drop c.seam-at.result first)

pub returns-in_ok-behind-2-clause-all : goal.returns-in_ok-behind-2-clause-all
returns-in_ok-behind-2-clause-all g c =
    let first = c.args.self.now.first.items in
    let pieces = c.reserve.new.self.items in
    let piece = c.split_off-else-number-eq0.new.self in
    let behind = c.in_ok-behind-2.behind in
    let same = ap length c.reserve.ensures.items in
    let within = c.requires.within in
    let behind_one : c.args.number ≡ suc (c.args.number - 1) = omega (arith, c.if-number-eq0.false) in
    ap (all_in first) (c.put_piece-else-number-eq0.ensures
    ∙ ap (λ n. insert (slice_set pieces (c.args.number - 1) piece) n behind) behind_one)
    ∙ ap (λ l. first ++ l)
    (split_more pieces (c.args.number - 1) c.index_mut.result.now piece behind (omega (arith, same, within, c.if-number-eq0.false)) c.index_mut.ensures.value
    ((λ i. c.in_ok-behind-2.ensures.items i ++ c.in_ok-behind-2.ensures.tail i) ∙ take-append-drop c.seam-at-else-number-eq0.result c.index_mut.result.now.items)
    ∙ ap joined c.reserve.ensures.items)
