use Rattle.std.proofs.Common.{◌≡◌, ◌<◌, ◌∙◌, ◌++◌, suc, length, get_or, slice_set, ap, sym, subst, add-one, arith}
use Rattle.std.specs.List.{remove}
use Rattle.key_lists.specs.Pieces.{is_full, joined, AllFull}
use Rattle.key_lists.proofs.Parting.{set_same, full_at, full_more, one_piece, full_one, one_before, one_behind}
use Rattle.key_lists.proofs.pieces.join.Given as given
use Rattle.key_lists.proofs.pieces.join.Goals as goal
use Rattle.key_lists.proofs.pieces.join.Goals.{After-more-then-is_ok-1}

within : (g : given.Over) (c : After-more-then-is_ok-1 g) → suc c.args.at < length c.args.more.now.items
within g c = omega (arith, c.len.ensures, c.len-else-len-lt2.ensures, c.if-len-lt2.false, c.if-at-len.false)

parts : (g : given.Over) (c : After-more-then-is_ok-1 g) → c.pour.new.piece.items ≡ c.index_mut.result.now.items ++ c.remove-behind.result.items
parts g c = c.pour.ensures ∙ ap (λ v. v.items ++ c.remove-behind.result.items)
    (c.index_mut-then-is_ok.ensures.value
    ∙ ap (λ l. get_or l c.args.at c.index_mut-then-is_ok.result.now)
    (c.remove-behind.ensures.items ∙ ap (remove (slice_set c.args.more.now.items c.args.at c.reserve.new.self)) (add-one c.args.at))
    ∙ one_before c.args.more.now.items c.args.at c.reserve.new.self c.index_mut-then-is_ok.result.now (within g c))
    ∙ ap (λ l. l ++ c.remove-behind.result.items) c.reserve.ensures.items

pub returns-then-is_ok-clause-all : goal.returns-then-is_ok-clause-all
returns-then-is_ok-clause-all g c =
    let pieces = c.args.more.now.items in
    let behind = c.remove-behind.result in
    ap (λ l. joined (slice_set l c.args.at c.pour.new.piece))
    (c.remove-behind.ensures.items ∙ ap (remove (slice_set pieces c.args.at c.reserve.new.self)) (add-one c.args.at))
    ∙ one_piece pieces c.args.at c.index_mut.result.now behind c.reserve.new.self c.pour.new.piece (within g c)
    (parts g c ∙ (λ i. (c.index_mut.ensures.value i).items ++ ((c.remove-behind.ensures.value
    ∙ ap (λ n. get_or (slice_set pieces c.args.at c.reserve.new.self) n behind) (add-one c.args.at)
    ∙ one_behind pieces c.args.at c.reserve.new.self behind) i).items))

pub returns-then-is_ok-clause-full : goal.returns-then-is_ok-clause-full
returns-then-is_ok-clause-full g c =
    let pieces = c.args.more.now.items in
    let first = c.index_mut.result.now in
    let inside = within g c in
    subst (λ l. AllFull (slice_set l c.args.at c.pour.new.piece))
    (sym (c.remove-behind.ensures.items ∙ ap (remove (slice_set pieces c.args.at c.reserve.new.self)) (add-one c.args.at)))
    (full_one pieces c.args.at c.reserve.new.self c.pour.new.piece c.requires.full
    (ap is_full (parts g c) ∙ full_more first.items c.remove-behind.result.items
    (ap (λ v. is_full v.items) c.index_mut.ensures.value ∙ full_at pieces c.args.at first c.requires.full (omega (arith, inside)))))

pub returns-else-is_ok-clause-all : goal.returns-else-is_ok-clause-all
returns-else-is_ok-clause-all g c =
    set_same c.args.more.now.items c.args.at c.index_mut.result.now c.reserve.new.self
    (omega (arith, c.len.ensures, c.len-else-len-lt2.ensures, c.if-len-lt2.false, c.if-at-len.false)) c.index_mut.ensures.value c.reserve.ensures.items
