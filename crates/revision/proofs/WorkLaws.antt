-- A work, in the words of its parts.
use Rattle.std.specs.Prelude.{ℕ, ◌≡◌, ◌+◌, ◌-◌, ◌≤◌, true, false, List, map}
use Rattle.std.proofs.Common.{ap, sym, ◌∙◌, arith}
use Rattle.std.proofs.lemmas.Bool.{true≢false}
use Rattle.event_model.specs.declared.events.Event.{Event}
use Rattle.rule_ast.specs.PlainPlans.{plain_step}
use Rattle.change_meaning.specs.Caps.{caps_in}
use Rattle.revision.specs.Holding.{WorksTo, visits_to, counted}
use Rattle.revision.specs.InHand.{steps_in, hand, IsOn, Stands, state_works}
use Rattle.revision.specs.PartsTurned.{GoesOn, Ends}
use Rattle.revision.specs.declared.parts.Parts.{Parts}
use Rattle.revision.specs.declared.parts.State.{State}
use Rattle.revision.specs.declared.parts.State.TheVariants.{Resting, Working, Broken}

pub stands_on : (s : State) (p : Parts) → state_works s ≡ true → Stands s p → IsOn p
stands_on Resting p e h = absurd (true≢false (sym e))
stands_on Working p e h = h
stands_on Broken p e h = absurd (true≢false (sym e))

-- between changes nothing is asked of them
pub stands_idle : (s : State) (p : Parts) → state_works s ≡ false → Stands s p
stands_idle Resting p e = tt
stands_idle Working p e = absurd (true≢false e)
stands_idle Broken p e = tt

-- ---- how many visits were made

counted_more : (all left units now old new : ℕ) → left ≤ all → now + units ≡ left → old ≡ counted (all - left) → new ≡ counted (old + units)
    → new ≡ counted (all - now)
counted_more all left units now old new within spent was e = omega (arith, within, spent, was, e)

counted_all : (all left old new : ℕ) → left ≤ all → old ≡ counted (all - left) → new ≡ counted (old + left) → new ≡ counted all
counted_all all left old new within was e = omega (arith, within, was, e)

module _ (old new : Parts) (plan : new.plan ≡ old.plan) (caps : new.caps ≡ old.caps) (b : ℕ) (E F : List Event) (left units : ℕ)
    (w : WorksTo (hand old) b E F left)
    (made : old.made ≡ counted (visits_to (steps_in old) (caps_in old.caps) b E F - left)) where
  same_visits : visits_to (steps_in new) (caps_in new.caps) b E F ≡ visits_to (steps_in old) (caps_in old.caps) b E F
  same_visits = λ i. visits_to (map plain_step (plan i).steps.items) (caps_in (caps i)) b E F

  pub made_more : (g : GoesOn old new b E F left units)
      → new.made ≡ counted (visits_to (steps_in new) (caps_in new.caps) b E F - g.now)
  made_more g =
      counted_more (visits_to (steps_in old) (caps_in old.caps) b E F) left units g.now old.made new.made w.within g.spent made g.made
      ∙ ap (λ n. counted (n - g.now)) (sym same_visits)

  pub made_all : Ends old new b E F left units → new.made ≡ counted (visits_to (steps_in new) (caps_in new.caps) b E F)
  made_all g =
      counted_all (visits_to (steps_in old) (caps_in old.caps) b E F) left old.made new.made w.within made g.made
      ∙ ap counted (sym same_visits)

-- at the beginning none was made
none_counted : (all now new : ℕ) → now ≡ all → new ≡ 0 → new ≡ counted (now - all)
none_counted all now new same e = omega (arith, same, e)

pub made_none : (old new : Parts) → new.plan ≡ old.plan → new.caps ≡ old.caps → (b : ℕ) (E F : List Event) → new.made ≡ 0
    → new.made ≡ counted (visits_to (steps_in new) (caps_in new.caps) b E F - visits_to (steps_in old) (caps_in old.caps) b E F)
made_none old new plan caps b E F e =
    none_counted (visits_to (steps_in old) (caps_in old.caps) b E F) (visits_to (steps_in new) (caps_in new.caps) b E F) new.made
    (λ i. visits_to (map plain_step (plan i).steps.items) (caps_in (caps i)) b E F) e
