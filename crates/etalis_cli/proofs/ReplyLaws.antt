-- The reply to a line, by what it says and how that is judged.
use Rattle.std.proofs.Common.{◌≡◌, ℕ, ◌<◌, ◌&&◌, ◌⊎◌, inl, inr, not, Bool, true, false, if◌then◌else◌, Result, Ok, Err, IfOk, Option, Some, None, List, [], ◌∷◌, ◌++◌, length, map, refl, sym, ap, ◌∙◌, subst, arith, ◌+◌, ◌≤◌, drop, get_or, add-one, append_assoc, append-nil}
use Rattle.std.specs.List.{flat_map}
use Rattle.std.proofs.Math.Seq.{drop-cons}
use Rattle.std.proofs.lemmas.List.{drop_all}
use Rattle.std.proofs.lemmas.List.Concat.{flat_map-append}
use Rattle.event_model.specs.Bytes.{plus, minus}
use Rattle.event_model.specs.Presence.{History, all_inputs, extended, copies, judge, IsAccepted, settles, Says, Fails, Verdict, Accepted, Refused, verdict, verdict_of, after_verdict}
use Rattle.event_model.specs.declared.inputs.Input.{Input}
use Rattle.event_model.specs.declared.inputs.Input.TheVariants.{Add, Take, Advance, Nothing, Begin, Commit}
use Rattle.event_model.specs.declared.inputs.Judgement.{Judgement}
use Rattle.event_model.specs.declared.inputs.Judgement.TheVariants as judgement
use Rattle.event_model.specs.declared.inputs.Refusal.{Refusal}
use Rattle.event_model.specs.declared.inputs.Refusal.TheVariants.{Syntax}
use Rattle.event_model.specs.declared.events.Detection.{Detection}
use Rattle.rule_ast.specs.Trees.{PlainStatement}
use Rattle.pattern_meaning.specs.Replies.{Change, Silent, Refusing, Changing, change_by, says_nothing, is_told, reply, reply_to_input, change_text, change_texts, both_texts}
use Rattle.event_changes.specs.Told.{PlainChanged, signed}
use Rattle.event_changes.specs.declared.changes.Sign.TheVariants.{Plus, Minus}
use Rattle.detect_writer.specs.Signs.{sign_byte}
use Rattle.event_reader.specs.Machine.{heard}
use Rattle.etalis_core.specs.Kept.{HasRoom}
use Rattle.etalis_core.specs.StandsFor.{StandsFor, WorksFrom, CanBegin, can_begin, late_of, is_working, visits_by}
use Rattle.etalis_core.specs.declared.present.TheConstants.{MOST_COPIES}
use Rattle.etalis_core.specs.declared.engine.Engine.{Engine}
use Rattle.etalis_core.specs.declared.roll.Roll.{Roll}
use Rattle.etalis_core.proofs.HistoryLaws.{copies_few}
use Rattle.revision.specs.Holding.{counted as capped}
use Rattle.etalis_cli.specs.Output.{visits_told, visits_in}
use Rattle.etalis_cli.specs.Replying.{refusal_of, reply_by, HasVisits}
use Rattle.etalis_cli.specs.StandsFor.{KeepsAll}
use Rattle.etalis_cli.specs.declared.replying.Answer.{Answer}

-- ---- how a judgement refuses

pub refused : (j : Judgement) (input : Input) (why : Refusal) → refusal_of j ≡ Some why → verdict_of j input ≡ Refused why
refused judgement.Fine input why e = absurd (let f = e in cc)
refused judgement.Batch input why e = let same = e in cc
refused (judgement.Below b) input why e = let same = e in cc
refused judgement.Absent input why e = let same = e in cc

pub not_refused : (j : Judgement) → refusal_of j ≡ None → j ≡ judgement.Fine
not_refused judgement.Fine e = refl
not_refused judgement.Batch e = absurd (let f = e in cc)
not_refused (judgement.Below b) e = absurd (let f = e in cc)
not_refused judgement.Absent e = absurd (let f = e in cc)

-- ---- what a line comes to

module _ (late : Option ℕ) (h : History) (line : List ℕ) where
  pub fails : (at : ℕ) → heard line ≡ Fails at → verdict late h (heard line) ≡ Refused (Syntax at)
  fails at e = ap (verdict late h) e

  pub says_refused : (input : Input) (why : Refusal) → heard line ≡ Says input → refusal_of (judge late h input) ≡ Some why → verdict late h (heard line) ≡ Refused why
  says_refused input why e r = ap (verdict late h) e ∙ refused (judge late h input) input why r

  pub says_accepted : (input : Input) → heard line ≡ Says input → judge late h input ≡ judgement.Fine → verdict late h (heard line) ≡ Accepted input
  says_accepted input e r = ap (verdict late h) e ∙ ap (λ j. verdict_of j input) r

pub refused_reply : (rules : List PlainStatement) (h : History) (n : ℕ) (v : Verdict) (why : Refusal) → v ≡ Refused why → Refusing n why ≡ reply rules h n v
refused_reply rules h n v why e = ap (reply rules h n) (sym e)

pub refused_history : (h : History) (v : Verdict) (why : Refusal) → v ≡ Refused why → h ≡ after_verdict h v
refused_history h v why e = ap (after_verdict h) (sym e)

pub accepted_reply : (rules : List PlainStatement) (h : History) (n : ℕ) (v : Verdict) (input : Input) → v ≡ Accepted input → reply_to_input rules h n input ≡ reply rules h n v
accepted_reply rules h n v input e = ap (reply rules h n) (sym e)

pub accepted_history : (h : History) (v : Verdict) (input : Input) → v ≡ Accepted input → extended h input ≡ after_verdict h v
accepted_history h v input e = ap (after_verdict h) (sym e)

-- what an input that is accepted comes to is what its line comes to
pub accepted_answer : (rules : List PlainStatement) (h : History) (v : Verdict) (input : Input) → v ≡ Accepted input → (c : Change) {E : Type 0} (r : Result Answer E)
    → IfOk r (λ answer. (n : ℕ) → reply_by n answer c ≡ reply_to_input rules h n input) → IfOk r (λ answer. (n : ℕ) → reply_by n answer c ≡ reply rules h n v)
accepted_answer rules h v input e c (Ok answer) p = λ n. p n ∙ accepted_reply rules h n v input e
accepted_answer rules h v input e c (Err fault) p = tt

-- and so are its visits
pub accepted_visits : (rules : List PlainStatement) (late : Option ℕ) (h : History) (v : Verdict) (input : Input) → v ≡ Accepted input → (made : ℕ) {E : Type 0} (r : Result Answer E)
    → IfOk r (λ answer. HasVisits answer made (visits_told rules late h input)) → IfOk r (λ answer. HasVisits answer made (visits_in rules late h v))
accepted_visits rules late h v input e made (Ok answer) p = subst (λ w. HasVisits answer made (visits_in rules late h w)) (sym e) p
accepted_visits rules late h v input e made (Err fault) p = tt

-- ---- what an input that is accepted comes to

-- an engine that was begun works exactly where the input settles something
pub settles_where : (engine : Engine) (h : History) (input : Input) (b : Bool) → (settles h input ≡ true → (left : ℕ) × WorksFrom engine h input left)
    → (settles h input ≡ false → StandsFor engine (extended h input)) → is_working engine ≡ b → settles h input ≡ b
settles_where engine h input b works stands is = at (settles h input) refl
  where
    at : (t : Bool) → settles h input ≡ t → settles h input ≡ b
    at true e = e ∙ sym (works e).1.is_begun ∙ is
    at false e = e ∙ sym (stands e).not_working ∙ is

-- a roll that follows with a lateness follows with an equal one
pub keeps_on : (old new : Option Roll) (late other : Option ℕ) (h : History) (input : Input) → late ≡ other
    → (KeepsAll old late h → IsAccepted late h → judge late h input ≡ judgement.Fine → KeepsAll new late (extended h input))
    → KeepsAll old other h → IsAccepted other h → judge other h input ≡ judgement.Fine → KeepsAll new other (extended h input)
keeps_on old new late other h input e follows =
    subst (λ l. KeepsAll old l h → IsAccepted l h → judge l h input ≡ judgement.Fine → KeepsAll new l (extended h input)) e follows

-- its reply and its visits, by whether it settled something and whether it says nothing
module _ (rules : List PlainStatement) (late : Option ℕ) (h : History) (input : Input) where
  not_told : (settles h input ≡ false) ⊎ (says_nothing input ≡ true) → is_told h input ≡ false
  not_told (inl e) = ap (λ b. b && not (says_nothing input)) e
  not_told (inr e) = ap (λ b. settles h input && not b) e ∙ and_false (settles h input)
    where
      and_false : (b : Bool) → (b && false) ≡ false
      and_false true = refl
      and_false false = refl

  pub silent_reply : (settles h input ≡ false) ⊎ (says_nothing input ≡ true) → (n : ℕ) → Silent ≡ reply_to_input rules h n input
  silent_reply e n = sym (ap (λ t. if t then Changing n (change_by rules h input) else Silent) (not_told e))

  module _ (settling : settles h input ≡ true) (speaks : says_nothing input ≡ false) where
    told : is_told h input ≡ true
    told = λ i. settling i && not (speaks i)

    pub told_reply : (c : Change) → c ≡ change_by rules h input → (n : ℕ) → Changing n c ≡ reply_to_input rules h n input
    told_reply c is n = ap (Changing n) is ∙ sym (ap (λ t. if t then Changing n (change_by rules h input) else Silent) told)

    pub told_visits : (made : ℕ) → made ≡ capped (visits_by rules late h input) → made ≡ capped (visits_told rules late h input)
    told_visits made is = is ∙ sym (ap (λ t. capped (if t then visits_by rules late h input else 0)) told)

-- ---- what may begin

room : (h : History) (input : Input) → length (all_inputs h) < MOST_COPIES → HasRoom (copies (all_inputs h)) input
room h (Add e) few = omega (arith, few, copies_few (all_inputs h) e)
room h (Take e) few = tt
room h (Advance t) few = tt
room h Nothing few = tt
room h Begin few = tt
room h Commit few = tt

pub may_begin : (engine : Engine) (h : History) (input : Input) → StandsFor engine h → judge (late_of engine) h input ≡ judgement.Fine → length (all_inputs h) < MOST_COPIES → CanBegin engine h input
may_begin engine h input stands fine few = can_begin engine h input stands fine (room h input few)

-- ---- the lines of changes

abbrev pub line_of : PlainChanged → List ℕ
line_of c = change_text (sign_byte c.0) c.1

lines_minus : (ds : List Detection) → flat_map line_of (map (λ d. (Minus, d)) ds) ≡ change_texts minus ds
lines_minus [] = refl
lines_minus (d ∷ ds) = ap (λ t. change_text minus d ++ t) (lines_minus ds)

lines_plus : (ds : List Detection) → flat_map line_of (map (λ d. (Plus, d)) ds) ≡ change_texts plus ds
lines_plus [] = refl
lines_plus (d ∷ ds) = ap (λ t. change_text plus d ++ t) (lines_plus ds)

pub lines_both : (c : Change) → flat_map line_of (signed c.gone c.come) ≡ both_texts c
lines_both c = flat_map-append line_of (map (λ d. (Minus, d)) c.gone) (map (λ d. (Plus, d)) c.come) ∙ (λ i. lines_minus c.gone i ++ lines_plus c.come i)

-- ---- the lines of what stands

-- one line more of those that are left
pub standing_more : (out new all : List ℕ) (ds : List Detection) (i : ℕ) (d : Detection) → i < length ds → d ≡ get_or ds i d → new ≡ out ++ change_text plus d
    → out ++ change_texts plus (drop i ds) ≡ all → new ++ change_texts plus (drop (i + 1) ds) ≡ all
standing_more out new all ds i d lt is e so_far =
    let rest : List Detection = drop (i + 1) ds in
    let split : drop i ds ≡ d ∷ rest = drop-cons ds i d lt ∙ (λ j. sym is j ∷ drop (sym (add-one i) j) ds) in
    ap (λ l. l ++ change_texts plus rest) e ∙ append_assoc out (change_text plus d) (change_texts plus rest) ∙ ap (λ l. out ++ change_texts plus l) (sym split) ∙ so_far

-- none is left
pub standing_all : (out all : List ℕ) (ds : List Detection) (i : ℕ) → length ds ≤ i → out ++ change_texts plus (drop i ds) ≡ all → out ≡ all
standing_all out all ds i le so_far = sym (append-nil out) ∙ ap (λ l. out ++ change_texts plus l) (sym (drop_all i ds le)) ∙ so_far
