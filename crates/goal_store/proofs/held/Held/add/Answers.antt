use Rattle.std.proofs.Common.{◌∙◌, Some, refl, sym}
use Rattle.goal_store.specs.Good.{held_by}
use Rattle.goal_store.specs.Indexed.{also}
use Rattle.goal_store.proofs.Holding.{mark_set, one_set, some_row, is_held_back, is_held_added, absent_held, taken_again}
use Rattle.goal_store.proofs.held.Held.add.Goals as goal

pub returns-in_err-list_row-clause-held : goal.returns-in_err-list_row-clause-held
returns-in_err-list_row-clause-held c =
    let row = some_row _ c.requires.row in
    let old = c.args.self.now in
    is_held_back old _ c.requires.held c.requires.held.table (λ n. refl) (λ n s. refl) c.args.step c.list_row.ensures.others c.list_row.ensures.length refl
    (λ k. c.in_err-list_row.ensures.err row.0 row.1 k (held_by old.rows c.args.step)
    (absent_held old.rows c.args.number c.args.step row.0 c.requires.absent) (c.requires.held.listed c.args.step k))

pub returns-in-Ok-clause-mark : goal.returns-in-Ok-clause-mark
returns-in-Ok-clause-mark c row at =
    mark_set c.args.self.now.rows c.put.new.self c.requires.held.table c.put.ensures.table c.args.number c.args.step row at (Some c.args.mark)
    c.put.ensures.keys c.in-Ok.ensures.here c.in-Ok.ensures.steps c.put.ensures.others

pub returns-in-Ok-clause-held : goal.returns-in-Ok-clause-held
returns-in-Ok-clause-held c =
    let row = some_row _ c.requires.row in
    let old = c.args.self.now in
    is_held_added old _ c.requires.held c.put.ensures.table (λ n r e. sym (c.put.ensures.keys n) ∙ e) c.args.number c.args.step row.0 row.1 (Some c.args.mark)
    (one_set old.rows c.put.new.self c.args.number c.args.step (Some c.args.mark) c.in-Ok.ensures.here c.in-Ok.ensures.steps c.put.ensures.others)
    (mark_set old.rows c.put.new.self c.requires.held.table c.put.ensures.table c.args.number c.args.step row.0 row.1 (Some c.args.mark)
    c.put.ensures.keys c.in-Ok.ensures.here c.in-Ok.ensures.steps c.put.ensures.others)
    c.list_row.ensures.others c.list_row.ensures.length c.requires.step (c.put.ensures.keys c.args.number ∙ row.1) refl c.requires.absent
    (c.in_ok-list_row.ensures.ok row.0 row.1) refl

pub returns-in-Err-clause-held : goal.returns-in-Err-clause-held
returns-in-Err-clause-held c =
    let row = some_row _ c.requires.row in
    let old = c.args.self.now in
    let held = held_by old.rows c.args.step in
    is_held_back old _ c.requires.held c.put.ensures.table c.put.ensures.keys c.in-Err.ensures.err c.args.step
    (λ s d. c.unlist_row.ensures.others s d ∙ c.list_row.ensures.others s d) (c.unlist_row.ensures.length ∙ c.list_row.ensures.length) refl
    (λ k. taken_again c.list_row.new.steps.items c.unlist_row.new.steps.items c.args.step c.args.number row.0 held
    (absent_held old.rows c.args.number c.args.step row.0 c.requires.absent) k
    (c.in_ok-list_row.ensures.ok row.0 row.1 k held (c.requires.held.listed c.args.step k))
    (c.unlist_row.ensures.less row.0 (c.put.ensures.keys c.args.number ∙ row.1) k (also row.0 c.args.number held)))
