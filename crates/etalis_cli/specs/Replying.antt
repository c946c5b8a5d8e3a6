-- What is refused, and the replies by what lines have come to.
use Rattle.std.specs.Prelude.{ℕ, ◌≡◌, if◌then◌else◌, Option, Some, None, List}
use Rattle.event_model.specs.Presence.{History, Verdict, Accepted, Refused, settles}
use Rattle.event_model.specs.declared.inputs.Input.{Input}
use Rattle.event_model.specs.declared.inputs.Judgement.{Judgement}
use Rattle.event_model.specs.declared.inputs.Judgement.TheVariants as judgement
use Rattle.event_model.specs.declared.inputs.Refusal.{Refusal}
use Rattle.event_model.specs.declared.inputs.Refusal.TheVariants as refusal
use Rattle.pattern_meaning.specs.Replies.{Change, Reply, Silent, Refusing, Changing}
use Rattle.rule_ast.specs.Trees.{PlainStatement}
use Rattle.revision.specs.Holding.{counted as capped}
use Rattle.etalis_core.specs.StandsFor.{visits_by}
use Rattle.etalis_cli.specs.declared.replying.Answer.{Answer}
use Rattle.etalis_cli.specs.declared.replying.Answer.TheVariants as answer

abbrev pub refusal_of : Judgement → Option Refusal
refusal_of judgement.Fine = None
refusal_of judgement.Batch = Some refusal.Batch
refusal_of (judgement.Below bound) = Some (refusal.Below bound)
refusal_of judgement.Absent = Some refusal.Absent

-- the reply to line n, where this is what has changed last
abbrev pub reply_by : ℕ → Answer → Change → Reply
reply_by n answer.Silent c = Silent
reply_by n (answer.Refused why) c = Refusing n why
reply_by n answer.Changed c = Changing n c

-- where a change is told, the engine made so many visits for it, as far as they are counted
abbrev pub HasVisits : Answer → (made visits : ℕ) → Type 0
HasVisits answer.Silent made visits = Unit {0}
HasVisits (answer.Refused why) made visits = Unit {0}
HasVisits answer.Changed made visits = made ≡ capped visits

-- how many visits of rows are made for an accepted input, whether its change is told or not
abbrev pub visits_made : List PlainStatement → Option ℕ → History → Input → ℕ
visits_made rules late h input = if settles h input then visits_by rules late h input else 0

-- those for a line that is judged so
abbrev pub visits_for : List PlainStatement → Option ℕ → History → Verdict → ℕ
visits_for rules late h (Accepted input) = visits_made rules late h input
visits_for rules late h (Refused why) = 0
