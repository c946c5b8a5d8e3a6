-- The marks of the goals, and who sees which.
--     sees w m      whether a goal with this mark is seen from there
--     settled m     the mark once a change is over
use Rattle.std.specs.Prelude.{Bool, true, false, Option, Some, None}
use Rattle.goal_store.specs.declared.marks.Mark.{Mark}
use Rattle.goal_store.specs.declared.marks.Mark.TheVariants.{Old, Fresh, Dying}
use Rattle.goal_store.specs.declared.marks.When.{When}
use Rattle.goal_store.specs.declared.marks.When.TheVariants.{Before, After}

-- from before what is old or dying is seen, and from after what is old or fresh
abbrev pub sees : When → Mark → Bool
sees Before Old = true
sees Before Fresh = false
sees Before Dying = true
sees After Old = true
sees After Fresh = true
sees After Dying = false

abbrev pub is_old : Mark → Bool
is_old Old = true
is_old Fresh = false
is_old Dying = false

-- whether a step that has no row, or has it with this mark, is seen to have it
abbrev pub seen_as : When → Option Mark → Bool
seen_as w None = false
seen_as w (Some m) = sees w m

-- fresh goals become old, and dying ones go
abbrev pub settled : Option Mark → Option Mark
settled None = None
settled (Some Old) = Some Old
settled (Some Fresh) = Some Old
settled (Some Dying) = None

-- whether a goal is old
abbrev pub was_old : Option Mark → Bool
was_old None = false
was_old (Some m) = is_old m
