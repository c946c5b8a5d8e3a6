-- The replies to lines, as data and as text, and what a list of replies leaves.
use Rattle.std.specs.Prelude.{◌≡◌, ℕ, ◌+◌, Bool, true, false, not, ◌&&◌, Option, if◌then◌else◌, List, [], ◌∷◌, ◌++◌, codes, decimal}
use Rattle.std.specs.List.{flat_map}
use Rattle.ordered_lists.specs.Canon.{canon, has}
use Rattle.ordered_lists.specs.Members.{without}
use Rattle.event_model.specs.Bytes.{feed, space, plus, minus}
use Rattle.event_model.specs.EventOrder.{detection_cmp}
use Rattle.event_model.specs.Text.{atom_text}
use Rattle.event_model.specs.Presence.{History, no_history, settled, settles, extended, Said, Verdict, Accepted, Refused, verdict, after_verdict, present}
use Rattle.event_model.specs.declared.inputs.Input.{Input}
use Rattle.event_model.specs.declared.inputs.Input.TheVariants.{Nothing}
use Rattle.event_model.specs.declared.inputs.Refusal.{Refusal}
use Rattle.event_model.specs.declared.inputs.Refusal.TheVariants.{Syntax, Batch, Below, Absent}
use Rattle.event_model.specs.declared.events.Detection.{Detection}
use Rattle.rule_ast.specs.Trees.{PlainStatement}
use Rattle.pattern_meaning.specs.Standing.{standing}

-- ---- replies

-- the detections that a line takes away and those that it adds
pub record Change : Type 0 where
  pub gone : List Detection
  pub come : List Detection

-- what stood and doesn't stand any more, and what stands now and didn't, each in order
abbrev pub change_between : List Detection → List Detection → Change
change_between before after = record { gone = without detection_cmp before after; come = without detection_cmp after before }

-- what stands after a history: over the events that are present by its groups
abbrev pub standing_after : List PlainStatement → History → List Detection
standing_after statements h = standing statements (present (settled h))

-- the change that one more input makes after a history
abbrev pub change_by : List PlainStatement → History → Input → Change
change_by statements h input = change_between (standing_after statements h) (standing_after statements (extended h input))

-- none, the refusal of line n, or the change that line n makes
pub data Reply : Type 0 where
  Silent : Reply
  Refusing : ℕ → Refusal → Reply
  Changing : ℕ → Change → Reply

abbrev pub says_nothing : Input → Bool
says_nothing Nothing = true
says_nothing input = false

-- whether an input that is accepted has a reply: one that settles something and isn't `Nothing`
abbrev pub is_told : History → Input → Bool
is_told h input = settles h input && not (says_nothing input)

-- to line n, whose input is accepted
abbrev pub reply_to_input : List PlainStatement → History → ℕ → Input → Reply
reply_to_input statements h n input = if is_told h input then Changing n (change_by statements h input) else Silent

-- to line n, which is judged so after this history
abbrev pub reply : List PlainStatement → History → ℕ → Verdict → Reply
reply statements h n (Accepted input) = reply_to_input statements h n input
reply statements h n (Refused why) = Refusing n why

-- ---- their texts, of which each line ends with a line feed

-- the line of a detection behind its sign: `+ START END ATOM` or `- START END ATOM`
abbrev pub change_text : ℕ → Detection → List ℕ
change_text sign d = sign ∷ space ∷ (decimal d.span.start ++ space ∷ (decimal d.span.end ++ space ∷ (atom_text d.atom ++ feed ∷ [])))

abbrev pub change_texts : ℕ → List Detection → List ℕ
change_texts sign detections = flat_map (change_text sign) detections

abbrev pub ok_text : ℕ → List ℕ
ok_text n = codes "ok " ++ decimal n ++ codes "\n"

abbrev pub refusal_text : ℕ → Refusal → List ℕ
refusal_text n (Syntax at) = codes "no " ++ decimal n ++ codes " syntax " ++ decimal at ++ codes "\n"
refusal_text n Batch = codes "no " ++ decimal n ++ codes " batch\n"
refusal_text n (Below bound) = codes "no " ++ decimal n ++ codes " below " ++ decimal bound ++ codes "\n"
refusal_text n Absent = codes "no " ++ decimal n ++ codes " absent\n"

-- the last line: how many lines came, and whether a batch is open behind them
abbrev pub end_text : ℕ → Bool → List ℕ
end_text n false = codes "end " ++ decimal n ++ codes "\n"
end_text n true = codes "end " ++ decimal n ++ codes " open\n"

-- how many rows and events are held
abbrev pub held_text : ℕ → ℕ → List ℕ
held_text rows events = codes "held " ++ decimal rows ++ codes " " ++ decimal events ++ codes "\n"

-- how many detections were told and withdrawn over a drill, how many visits were made, and the most rows held
abbrev pub drill_text : (told withdrawn visits held : ℕ) → List ℕ
drill_text told withdrawn visits held =
    codes "drill " ++ decimal told ++ codes " " ++ decimal withdrawn ++ codes " " ++ decimal visits ++ codes " "
    ++ decimal held ++ codes "\n"

-- a change: what goes behind `-`, and then what comes behind `+`
abbrev pub both_texts : Change → List ℕ
both_texts c = change_texts minus c.gone ++ change_texts plus c.come

abbrev pub reply_text : Reply → List ℕ
reply_text Silent = []
reply_text (Refusing n why) = refusal_text n why
reply_text (Changing n c) = both_texts c ++ ok_text n

-- ---- the replies to a list of lines

-- what lines have come to: the rules, the lateness, the history of the inputs that were accepted, and how many lines came
pub record State : Type 0 where
  pub rules : List PlainStatement
  pub late : Option ℕ
  pub history : History
  pub count : ℕ

-- before the first line
abbrev pub start : List PlainStatement → Option ℕ → State
start rules late = record { rules = rules; late = late; history = no_history; count = 0 }

-- after a line that says so
abbrev pub after_said : State → Said → State
after_said s said = record {
  rules = s.rules;
  late = s.late;
  history = after_verdict s.history (verdict s.late s.history said);
  count = s.count + 1;
}

abbrev pub reply_to_said : State → Said → Reply
reply_to_said s said = reply s.rules s.history (s.count + 1) (verdict s.late s.history said)

abbrev pub after_all : State → List Said → State
after_all s [] = s
after_all s (said ∷ more) = after_all (after_said s said) more

abbrev pub replies_to : State → List Said → List Reply
replies_to s [] = []
replies_to s (said ∷ more) = reply_to_said s said ∷ replies_to (after_said s said) more

-- ---- what replies leave of a table of detections

-- the table without those that go, and with those that come
abbrev pub changed : List Detection → Change → List Detection
changed table c = canon detection_cmp (without detection_cmp table c.gone ++ c.come)

abbrev pub left_by : List Detection → Reply → List Detection
left_by table Silent = table
left_by table (Refusing n why) = table
left_by table (Changing n c) = changed table c

-- one reply after the other
abbrev pub left_of : List Detection → List Reply → List Detection
left_of table [] = table
left_of table (r ∷ replies) = left_of (left_by table r) replies

-- a change writes just the differences: what goes stood before and doesn't after, and what comes stands after and didn't before
abbrev pub IsDifference : List Detection → List Detection → Change → Type 0
IsDifference before after c =
    (d : Detection)
    → (has detection_cmp d c.gone ≡ (has detection_cmp d before && not (has detection_cmp d after)))
    × (has detection_cmp d c.come ≡ (has detection_cmp d after && not (has detection_cmp d before)))
