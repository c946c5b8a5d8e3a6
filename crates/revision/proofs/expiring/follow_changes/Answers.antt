use Rattle.std.proofs.Common.{◌≡◌, ◌<◌, ◌≤◌, ℕ, length, ◌∙◌, sym, arith}
use Rattle.ev_bind.specs.declared.rows.Row.{Row}
use Rattle.change_meaning.specs.Caps.{caps_in}
use Rattle.goal_purge.specs.Expiring.{due}
use Rattle.step_changes.specs.Deltas.{plain_deltas}
use Rattle.revision.specs.Following.{due_all}
use Rattle.revision.specs.Lists.{rows_at}
use Rattle.revision.proofs.FollowLaws.{rows_read, behind_next, ahead_next, all_behind}
use Rattle.revision.proofs.expiring.follow_changes.Goals as goal

pub loop-at-preserved : goal.loop-at-preserved
loop-at-preserved c =
    let caps = caps_in c.args.caps.now in
    let lists = c.args.changed.now in
    let n = c.loop-at.at in
    let within : n < length lists = omega (arith, c.loop-at-test.true) in
    let rows : rows_at lists n ≡ plain_deltas c.deref.result.now =
    rows_read lists n c.index-changed-at.result within c.index-changed-at.is ∙ (λ i. plain_deltas (sym c.deref.ensures.value i)) in
    let this : (d s : ℕ) (r : Row) → due c.follow_rows.new.expiries d s r
    ≡ due_all (caps.cap n) (caps.reach n) n d s r (rows_at lists n) (due c.loop-at.expiries d s r) =
    (λ d s r. c.in_ok-follow_rows.ensures d s r
    ∙ (λ i. due_all (c.cap_at.ensures i) (c.reach_at.ensures i) n d s r (sym rows i) (due c.loop-at.expiries d s r))) in
    record {
      behind = behind_next caps lists n c.args.expiries.now c.loop-at.expiries c.loop-at.invariant.behind c.loop-at.invariant.ahead
          c.follow_rows.new.expiries this;
      ahead = ahead_next caps lists n c.args.expiries.now c.loop-at.expiries c.loop-at.invariant.behind c.loop-at.invariant.ahead
          c.follow_rows.new.expiries this;
    }

pub returns : goal.returns
returns c =
    let lists = c.args.changed.now in
    let past : length lists ≤ c.loop-at.at = omega (arith, c.loop-at-test.false) in
    all_behind (caps_in c.args.caps.now) lists c.loop-at.at c.args.expiries.now c.loop-at.expiries c.loop-at.invariant.behind
    c.loop-at.invariant.ahead past
