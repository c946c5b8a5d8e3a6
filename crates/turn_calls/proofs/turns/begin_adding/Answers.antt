use Rattle.std.proofs.Common.{◌≡◌, ◌<◌, Bool, true, false, true≢false, length, inr, refl, sym, ◌∙◌, arith}
use Rattle.event_model.specs.Presence.{History, all_inputs, copies, extended, settles}
use Rattle.event_model.specs.declared.events.Event.{Event}
use Rattle.event_model.specs.declared.inputs.Input.{Input}
use Rattle.event_model.specs.declared.inputs.Input.TheVariants.{Add}
use Rattle.etalis_core.specs.StandsFor.{StandsFor, can_begin, is_working, late_of, rules_of, visits_by}
use Rattle.etalis_core.specs.declared.engine.Engine.{Engine}
use Rattle.etalis_core.specs.declared.present.TheConstants.{MOST_COPIES}
use Rattle.etalis_core.proofs.HistoryLaws.{copies_few}
use Rattle.turn_calls.proofs.turns.begin_adding.Goals as goal

-- there are no more copies of an event than inputs
room : (h : History) (e : Event) → length (all_inputs h) < MOST_COPIES → copies (all_inputs h) e < MOST_COPIES
room h e few = omega (arith, few, copies_few (all_inputs h) e)

-- an engine that works after an input was given one that settles something
settling : (engine : Engine) (h : History) (input : Input) → (settles h input ≡ false → StandsFor engine (extended h input))
    → is_working engine ≡ true → (b : Bool) → settles h input ≡ b → settles h input ≡ true
settling engine h input stands works true e = e
settling engine h input stands works false e = absurd (true≢false (sym works ∙ (stands e).not_working))

pub judge-requires-clause-resting : goal.judge-requires-clause-resting
judge-requires-clause-resting c = c.requires.1.not_working

pub judge-requires-clause-unspent : goal.judge-requires-clause-unspent
judge-requires-clause-unspent c = c.requires.1.not_spent

pub begin-requires : goal.begin-requires
begin-requires c = let (h, s, few) = c.requires in
    inr (h, can_begin c.args.engine.now h (Add c.args.event) s (sym (c.judge.ensures h s) ∙ c.in-Fine.is) (room h c.args.event few))

pub returns : goal.returns
returns c = λ h s.
    let input = Add c.args.event in
    let works = sym c.working.ensures ∙ c.if-not-working.false in (
      visits_by (rules_of c.args.engine.now) (late_of c.args.engine.now) h input,
      c.in_ok-begin.ensures.works h s (settling _ h input (c.in_ok-begin.ensures.stands h s) works (settles h input) refl),
    )
