-- A session from line to line.
use Rattle.std.proofs.Common.{◌≡◌, ℕ, ◌+◌, ◌^◌, ◌<◌, ◌≤◌, Option, Some, None, List, [], ◌∷◌, ◌++◌, length, refl, sym, ap, ◌∙◌, subst, inl, arith, length-append, append-nil}
use Rattle.std.specs.Prelude.{is_some}
use Rattle.std.proofs.lemmas.List.Concat.{flat_map-append}
use Rattle.std.specs.List.{flat_map}
use Rattle.event_model.specs.Presence.{History, Verdict, Accepted, Refused, verdict, after_verdict, extended, with_input, all_inputs, batch_inputs, Fails}
use Rattle.event_model.specs.declared.inputs.Input.{Input}
use Rattle.event_model.specs.declared.inputs.Input.TheVariants.{Add, Take, Advance, Nothing, Begin, Commit}
use Rattle.event_model.specs.declared.inputs.TheConstants.{MOST_LINE_BYTES}
use Rattle.pattern_meaning.specs.Replies.{Reply, reply}
use Rattle.event_reader.specs.Machine.{heard}
use Rattle.event_reader.proofs.LineLaws.{heard_short}
use Rattle.etalis_core.specs.StandsFor as core
use Rattle.etalis_core.specs.StandsFor.{rules_of, late_of, rows_kept, events_kept}
use Rattle.etalis_core.specs.declared.engine.Engine.{Engine}
use Rattle.etalis_cli.specs.Output.{Talk, voiced, counted, visits_in, after_line, reply_to, tally_after}
use Rattle.etalis_cli.specs.StandsFor.{IsWithin, KeepsAll, StandsFor, keeps_all}
use Rattle.etalis_cli.specs.declared.voices.Tally.{Tally}
use Rattle.etalis_cli.specs.declared.session.Session.{Session}

-- ---- a reply in the session's words

abbrev pub judged_in : Session → Talk → List ℕ → Verdict
judged_in a t line = verdict (late_of a.engine) t.state.history (heard line)

abbrev reply_in : Session → Talk → List ℕ → Reply
reply_in a t line = reply (rules_of a.engine) t.state.history (a.count + 1) (judged_in a t line)

-- what is written of it, by what an engine with the same rules holds after it
pub told : (a : Session) (engine : Engine) (t : Talk) (line : List ℕ) (r : Reply) → StandsFor a t → r ≡ reply_in a t line
    → rules_of engine ≡ rules_of a.engine → late_of engine ≡ late_of a.engine → let h = after_verdict t.state.history (judged_in a t line) in
    voiced a.voice r (rows_kept (rules_of engine) (late_of engine) h) (events_kept (late_of engine) h) ≡ reply_to t line
unfolding reply_to
told a engine t line r p is rules late =
    let h : History = after_verdict t.state.history (judged_in a t line) in
    (λ i. voiced a.voice (is i) (rows_kept (rules i) (late i) h) (events_kept (late i) h))
    ∙ (λ i. voiced (sym p.same_voice i) (reply (sym p.same_rules i) t.state.history (sym p.same_count i + 1) (verdict (sym p.same_late i) t.state.history (heard line)))
    (rows_kept (sym p.same_rules i) (sym p.same_late i) (after_verdict t.state.history (verdict (sym p.same_late i) t.state.history (heard line))))
    (events_kept (sym p.same_late i) (after_verdict t.state.history (verdict (sym p.same_late i) t.state.history (heard line)))))

abbrev pub visits_of : Session → Talk → List ℕ → ℕ
visits_of a t line = visits_in (rules_of a.engine) (late_of a.engine) t.state.history (judged_in a t line)

-- what is counted of it
pub tallied : (a : Session) (engine : Engine) (t : Talk) (line : List ℕ) (r : Reply) → StandsFor a t → r ≡ reply_in a t line
    → rules_of engine ≡ rules_of a.engine → late_of engine ≡ late_of a.engine → let h = after_verdict t.state.history (judged_in a t line) in
    counted a.voice a.tally r (visits_of a t line) (rows_kept (rules_of engine) (late_of engine) h) ≡ tally_after t line
unfolding tally_after
tallied a engine t line r p is rules late =
    let h : History = after_verdict t.state.history (judged_in a t line) in
    (λ i. counted a.voice a.tally (is i) (visits_of a t line) (rows_kept (rules i) (late i) h))
    ∙ (λ i. counted (sym p.same_voice i) (sym p.same_tally i) (reply (sym p.same_rules i) t.state.history (sym p.same_count i + 1) (verdict (sym p.same_late i) t.state.history (heard line)))
    (visits_in (sym p.same_rules i) (sym p.same_late i) t.state.history (verdict (sym p.same_late i) t.state.history (heard line)))
    (rows_kept (sym p.same_rules i) (sym p.same_late i) (after_verdict t.state.history (verdict (sym p.same_late i) t.state.history (heard line)))))

-- one line more
within_after : (old new : Tally) (n : ℕ) → IsWithin old n → new.told ≤ old.told + 2 ^ 64 → new.withdrawn ≤ old.withdrawn + 2 ^ 64 → IsWithin new (n + 1)
within_after old new n w told withdrawn = record {
  told = omega (arith, w.told);
  withdrawn = omega (arith, w.withdrawn);
}

-- ---- no line is more than one input

settled_more : (groups : List (List Input)) (group : List Input) → length (flat_map (λ g. g) (groups ++ group ∷ [])) ≡ length (flat_map (λ g. g) groups) + length group
settled_more groups group =
    ap length (flat_map-append (λ g. g) groups (group ∷ []) ∙ ap (λ l. flat_map (λ g. g) groups ++ l) (append-nil group))
    ∙ length-append (flat_map (λ g. g) groups) group

few_with : (groups : List (List Input)) (batch : Option (List Input)) (input : Input)
    → length (all_inputs (with_input groups batch input)) ≤ length (all_inputs (record { groups = groups; batch = batch })) + 1
few_with groups None input =
    let more = settled_more groups (input ∷ []) in
    omega (arith, length-append (flat_map (λ g. g) (groups ++ (input ∷ []) ∷ [])) [], length-append (flat_map (λ g. g) groups) [], more)
few_with groups (Some group) input =
    omega (arith, length-append (flat_map (λ g. g) groups) (group ++ input ∷ []), length-append (flat_map (λ g. g) groups) group, length-append group (input ∷ []))

few_extended : (h : History) (input : Input) → length (all_inputs (extended h input)) ≤ length (all_inputs h) + 1
few_extended h (Add e) = few_with h.groups h.batch (Add e)
few_extended h (Take e) = few_with h.groups h.batch (Take e)
few_extended h (Advance t) = few_with h.groups h.batch (Advance t)
few_extended h Nothing = few_with h.groups h.batch Nothing
few_extended h Begin = omega (arith, length-append (flat_map (λ g. g) h.groups) [], length-append (flat_map (λ g. g) h.groups) (batch_inputs h.batch))
few_extended h Commit =
    let more = settled_more h.groups (batch_inputs h.batch) in
    omega (arith, length-append (flat_map (λ g. g) (h.groups ++ batch_inputs h.batch ∷ [])) [], length-append (flat_map (λ g. g) h.groups) (batch_inputs h.batch), more)

few_after : (h : History) (v : Verdict) (n : ℕ) → length (all_inputs h) ≤ n → length (all_inputs (after_verdict h v)) ≤ n + 1
few_after h (Accepted input) n few = omega (arith, few, few_extended h input)
few_after h (Refused why) n few = omega (arith, few)

pub stands_after : (a b : Session) (t : Talk) (line : List ℕ) → StandsFor a t → rules_of b.engine ≡ rules_of a.engine → late_of b.engine ≡ late_of a.engine
    → b.voice ≡ a.voice → b.count ≡ a.count + 1 → b.tally ≡ tally_after t line → b.tally.told ≤ a.tally.told + 2 ^ 64 → b.tally.withdrawn ≤ a.tally.withdrawn + 2 ^ 64
    → core.StandsFor b.engine (after_verdict t.state.history (judged_in a t line)) → is_some b.roll ≡ is_some a.roll
    → KeepsAll b.roll (late_of a.engine) (after_verdict t.state.history (judged_in a t line)) → StandsFor b (after_line t line)
stands_after a b t line p rules late voice count tally more_told more_withdrawn h there all = record {
  same_rules = p.same_rules ∙ sym rules;
  same_late = p.same_late ∙ sym late;
  same_voice = p.same_voice ∙ sym voice;
  same_count = ap (λ n. n + 1) p.same_count ∙ sym count;
  same_tally = sym tally;
  inputs = subst (λ l. core.StandsFor b.engine (after_verdict t.state.history (verdict l t.state.history (heard line)))) (sym p.same_late) h;
  there = there ∙ p.there ∙ ap keeps_all (sym voice);
  all = subst (λ l. KeepsAll b.roll (late_of b.engine) (after_verdict t.state.history (verdict l t.state.history (heard line)))) (sym p.same_late)
      (subst (λ l. KeepsAll b.roll l (after_verdict t.state.history (judged_in a t line))) (sym late) all);
  few = few_after t.state.history (verdict t.state.late t.state.history (heard line)) t.state.count p.few;
  within = subst (λ x. IsWithin x (t.state.count + 1)) tally
      (within_after a.tally b.tally t.state.count (subst (λ x. IsWithin x t.state.count) p.same_tally p.within) more_told more_withdrawn);
}

-- a line that is too long says nothing from the place of the limit on
pub heard_long : (line : List ℕ) → MOST_LINE_BYTES < length line → heard line ≡ Fails MOST_LINE_BYTES
heard_long line long = heard_short line (Fails MOST_LINE_BYTES) (inl (long, refl))
