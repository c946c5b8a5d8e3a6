use Rattle.std.proofs.Common.{not, ap, sym, ◌∙◌}
use Rattle.std.proofs.lemmas.Bool.{true≢false}
use Rattle.ordered_lists.specs.Members.{place_itself}
use Rattle.ordered_lists.proofs.Search.{found, parted}
use Rattle.ordered_lists.proofs.sorted.insert_unique.Goals as goal

pub returns-in-Ok-clause-came : goal.returns-in-Ok-clause-came
returns-in-Ok-clause-came g c = rw (← c.deref.ensures.value) (sym (ap not (found c.requires.exact c.args.item _ _ c.in-Ok.ensures.bound c.in-Ok.ensures.position)))

pub returns-in-Ok-clause-placed : goal.returns-in-Ok-clause-placed
returns-in-Ok-clause-placed g c =
    rw (← c.deref.ensures.value) (sym (place_itself c.requires.exact _ _ (rw c.deref.ensures.value c.requires.rising) (found c.requires.exact c.args.item _ _ c.in-Ok.ensures.bound c.in-Ok.ensures.position)))

pub returns-in_ok-insert-in-Err-clause-came : goal.returns-in_ok-insert-in-Err-clause-came
returns-in_ok-insert-in-Err-clause-came g c =
    rw (← c.deref.ensures.value) (sym (ap not (parted c.requires.exact c.args.item _ (rw c.deref.ensures.value c.requires.rising) _ c.in-Err.ensures.bound c.in-Err.ensures.position).0))

pub returns-in_ok-insert-in-Err-clause-placed : goal.returns-in_ok-insert-in-Err-clause-placed
returns-in_ok-insert-in-Err-clause-placed g c =
    rw (c.in_ok-insert-in-Err.ensures.items, ← c.deref.ensures.value) (parted c.requires.exact c.args.item _ (rw c.deref.ensures.value c.requires.rising) _ c.in-Err.ensures.bound c.in-Err.ensures.position).1

pub returns-in_err-insert-in-Err-clause-present : goal.returns-in_err-insert-in-Err-clause-present
returns-in_err-insert-in-Err-clause-present g c is =
    absurd (true≢false (sym is ∙ rw (← c.deref.ensures.value) (parted c.requires.exact c.args.item _ (rw c.deref.ensures.value c.requires.rising) _ c.in-Err.ensures.bound c.in-Err.ensures.position).0))
