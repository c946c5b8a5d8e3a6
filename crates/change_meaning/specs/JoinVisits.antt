-- The visits of a join: each changed row has one of its own, and then one for each of its partners.
use Rattle.std.specs.Prelude.{ℕ, Option, None, List, ◌∷◌, ◌++◌, map}
use Rattle.std.specs.List.{flat_map}
use Rattle.event_model.specs.declared.operators.Op.{Op}
use Rattle.event_changes.specs.declared.changes.Sign.{Sign}
use Rattle.interval_ops.specs.Operators.{partner_range}
use Rattle.interval_ops.specs.declared.ranges.Side.{Side}
use Rattle.interval_ops.specs.declared.ranges.Side.TheVariants.{Left, Right}
use Rattle.ev_bind.specs.declared.rows.Row.{Row}
use Rattle.pattern_meaning.specs.RuleRows.{joined}
use Rattle.row_changes.specs.Changes.{SignedRow}
use Rattle.row_changes.specs.Partners.{listed}
use Rattle.row_changes.specs.Visits.{Visit, signed}
use Rattle.change_meaning.specs.Caps.{fitting}

-- a join that works: its operator, the cap of its rows, the slots of its key, the left rows before, and the right rows after
pub record JoinView : Type 0 where
  pub op : Op
  pub cap : Option ℕ
  pub key : List ℕ
  pub lefts : List Row
  pub rights : List Row

-- a changed row, with the side on which it stands
pub record JoinTask : Type 0 where
  pub side : Side
  pub sign : Sign
  pub row : Row

abbrev pub join_task : Side → SignedRow → JoinTask
join_task side d = record { side = side; sign = d.sign; row = d.row }

-- the changed left rows and then the changed right rows
abbrev pub join_tasks : (lefts rights : List SignedRow) → List JoinTask
join_tasks lefts rights = map (join_task Left) lefts ++ map (join_task Right) rights

-- the rows of the other side
abbrev pub across : JoinView → Side → List Row
across v Left = v.rights
across v Right = v.lefts

-- the rows that are looked at for a row of a side: those of the other side with its values at the key, in the operator's range
abbrev pub partners : JoinView → Side → Row → List Row
partners v side r = listed v.key (partner_range v.op side r.span) r.binding (across v side)

-- the joined row of a row of a side and one of the other
abbrev pub meeting : Op → Side → Row → Row → Option Row
meeting op Left x y = joined op x y
meeting op Right y x = joined op x y

-- what the visit of a partner gives: the joined row, where there is one and it fits, with the sign of the changed row
abbrev pub meeting_visit : JoinView → JoinTask → Row → Visit
meeting_visit v t partner = signed t.sign (fitting v.cap (meeting v.op t.side t.row partner))

abbrev pub visits_at : JoinView → JoinTask → List Visit
visits_at v t = None ∷ map (meeting_visit v t) (partners v t.side t.row)

-- all visits, where these are the changed rows of the operands
abbrev pub join_visits : JoinView → (lefts rights : List SignedRow) → List Visit
join_visits v lefts rights = flat_map (visits_at v) (join_tasks lefts rights)
