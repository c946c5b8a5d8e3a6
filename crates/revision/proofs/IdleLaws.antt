-- A step that has nothing to do is finished as it is.
use Rattle.std.specs.Prelude.{ℕ, ◌≡◌, ◌≢◌, ◌+◌, ◌==◌, refl, Bool, true, false, if◌then◌else◌, Option, Some, None, List, [], ◌++◌, map}
use Rattle.std.specs.declared.alloc.Global.{Global}
use Rattle.std.specs.declared.vec.Vec.{Vec}
use Rattle.std.proofs.Common.{ap, sym, ◌∙◌, subst, add-zero, arith}
use Rattle.event_changes.specs.declared.changes.Sign.{Sign}
use Rattle.event_changes.specs.declared.changes.Sign.TheVariants as sign
use Rattle.event_changes.specs.declared.events.EventChange.{EventChange}
use Rattle.ev_bind.specs.declared.rows.Row.{Row}
use Rattle.rule_ast.specs.PlainPlans.{PlainStep, Named, Leaf, Join, Either, Where, Exact, Within, Minus, Head}
use Rattle.term_eval.specs.Values.{holds}
use Rattle.pattern_meaning.specs.PatternRows.{head_row}
use Rattle.pattern_meaning.specs.RuleRows.{is_long, is_short}
use Rattle.step_meaning.specs.StepRows.{step_at}
use Rattle.row_changes.specs.Changes.{IsChange}
use Rattle.row_changes.specs.Visits.{Visit, tally, At}
use Rattle.change_meaning.specs.Caps.{caps_in}
use Rattle.change_meaning.specs.Courses.{Course, leaf_row, passing, row_gives}
use Rattle.change_meaning.specs.JoinVisits.{join_visits}
use Rattle.change_meaning.specs.Keys.{slots_at}
use Rattle.change_meaning.specs.MinusVisits.{minus_visits, turned}
use Rattle.support_table.specs.Supports.{count_of}
use Rattle.goal_store.specs.declared.kept.GoalStore.{GoalStore}
use Rattle.step_changes.specs.Notes.{noted}
use Rattle.step_changes.specs.Stretches.{made_none}
use Rattle.step_changes.specs.declared.deltas.Delta.{Delta}
use Rattle.step_work.specs.Seen.{view_in}
use Rattle.step_work.specs.Stepping.{Notes, StepWork}
use Rattle.step_work.specs.Views.{View, seen_join, seen_minus, seen_visits, seen_gives, settled}
use Rattle.step_work.specs.declared.spots.Spot.{Spot}
use Rattle.revision.specs.Works.{UnderWay, cap_of, Finishes}
use Rattle.revision.specs.Idle.{IsIdle}
use Rattle.revision.specs.InHand.{steps_in, hand, IsReady, Goes, StepGoes}
use Rattle.revision.specs.Lists.{rows_at}
use Rattle.revision.specs.declared.parts.Parts.{Parts}
use Rattle.revision.proofs.FinishLaws.{held_before, held_after}
use Rattle.revision.proofs.PartLaws.{Starts, fresh_left, none_left}
use Rattle.revision.proofs.Stretches.{none_noted, none_under}
use Rattle.revision.proofs.TurnLaws.{seen_under, step_turned}

-- ---- it has no visits, and gives nothing

module _ (cap : Option ℕ) (slots : ℕ → List ℕ) (goals : GoalStore) (count : ℕ → Row → ℕ) (lists : List (Vec Delta Global))
    (es : List EventChange) where
  abbrev seen_here : View
  seen_here = view_in goals count lists

  idle_visits : (s : PlainStep) → IsIdle s lists → seen_visits cap slots s seen_here ≡ []
  idle_visits (Named n heads) h = absurd h
  idle_visits (Leaf of p) h = refl
  idle_visits (Join op l r) h = λ i. join_visits (seen_join cap slots seen_here op l r) (h.0 i) (h.1 i)
  idle_visits (Either l r) h = refl
  idle_visits (Where of t) h = refl
  idle_visits (Exact of q) h = refl
  idle_visits (Within of q) h = refl
  idle_visits (Minus j f m l) h = λ i. minus_visits (seen_minus cap slots seen_here j f m l) (h.0 i) (h.2 i) (h.1 i) (h.3 i)
  idle_visits (Head of head) h = refl

  idle_gives : (s : PlainStep) → IsIdle s lists → seen_gives cap slots s seen_here es ≡ []
  idle_gives (Named n heads) h = absurd h
  idle_gives (Leaf of p) h = ap (map (row_gives cap (leaf_row p))) h
  idle_gives (Join op l r) h = idle_visits (Join op l r) h
  idle_gives (Either l r) h = λ i. map (row_gives cap Some) (h.0 i) ++ map (row_gives cap Some) (h.1 i)
  idle_gives (Where of t) h = ap (map (row_gives cap (passing (λ r. holds t r.binding)))) h
  idle_gives (Exact of q) h = ap (map (row_gives cap (passing (is_long q)))) h
  idle_gives (Within of q) h = ap (map (row_gives cap (passing (is_short q)))) h
  idle_gives (Minus j f m l) h = idle_visits (Minus j f m l) h
  idle_gives (Head of head) h = ap (map (row_gives cap (λ r. Some (head_row head r)))) h

  no_notes : (gives : List Visit) → gives ≡ [] → (p : At) (units : ℕ) → Notes gives p p units (Some units)
  no_notes gives e p units = (refl, refl, λ t r. sym (ap (λ vs. p.noted t r + tally t r vs) e ∙ add-zero (p.noted t r)))

  -- so no work leaves it where it is
  idle_work : (s : PlainStep) → IsIdle s lists → (p : At) → p.left ≡ [] → (units : ℕ)
      → StepWork cap slots s seen_here es p p units (Some units)
  idle_work (Named n heads) h p e units = absurd h
  idle_work (Leaf of a) h p e units = no_notes (seen_gives cap slots (Leaf of a) seen_here es) (idle_gives (Leaf of a) h) p units
  idle_work (Join op l r) h p e units = (made_none p units, e)
  idle_work (Either l r) h p e units = no_notes (seen_gives cap slots (Either l r) seen_here es) (idle_gives (Either l r) h) p units
  idle_work (Where of t) h p e units = no_notes (seen_gives cap slots (Where of t) seen_here es) (idle_gives (Where of t) h) p units
  idle_work (Exact of q) h p e units = no_notes (seen_gives cap slots (Exact of q) seen_here es) (idle_gives (Exact of q) h) p units
  idle_work (Within of q) h p e units = no_notes (seen_gives cap slots (Within of q) seen_here es) (idle_gives (Within of q) h) p units
  idle_work (Minus j f m l) h p e units = (made_none p units, e)
  idle_work (Head of head) h p e units = no_notes (seen_gives cap slots (Head of head) seen_here es) (idle_gives (Head of head) h) p units

-- ---- and nothing is applied

settled_none : (s : PlainStep) (count : Row → ℕ) (notes : Sign → Row → ℕ) → ((t : Sign) (r : Row) → notes t r ≡ 0) → (t : Sign) (r : Row)
    → settled s count notes t r ≡ 0
settled_none (Named n heads) count notes h t r = h t r
settled_none (Leaf of p) count notes h t r = h t r
settled_none (Join op l m) count notes h t r = h t r
settled_none (Either l m) count notes h t r = h t r
settled_none (Where of q) count notes h t r = h t r
settled_none (Exact of q) count notes h t r = h t r
settled_none (Within of q) count notes h t r = h t r
settled_none (Minus j f m l) count notes h t r = (λ i. turned t (h sign.Plus r i) (h sign.Minus r i) (count r)) ∙ at t
  where
    at : (t : Sign) → turned t 0 0 (count r) ≡ 0
    at sign.Plus = refl
    at sign.Minus = refl
settled_none (Head of head) count notes h t r = h t r

no_change : (count : Row → ℕ) → IsChange count count []
no_change count = record { in_order = tt; each = λ r. at (count r == 0) }
  where
    none : Option Sign
    none = None

    at : (b : Bool) → none ≡ (if b then (if b then None else Some sign.Plus) else (if b then Some sign.Minus else None))
    at true = refl
    at false = refl

module _ (p : Parts) (c : Course) (left units : ℕ) (g : Goes p c left) (s : PlainStep) (here : step_at (steps_in p) p.finished ≡ Some s)
    (idle : IsIdle s p.changed.items) (changed : Vec (Vec Delta Global) Global) (spot : Spot) (starts : Starts spot) where
  abbrev passed : Parts
  passed = record p { changed = changed; finished = p.finished + 1; spot = spot }

  under : UnderWay [] (hand p).at
  under =
      subst (λ all. UnderWay all (hand p).at)
      (idle_visits (cap_of (hand p)) (slots_at (steps_in p)) p.goals (count_of p.supports) p.changed.items p.events.items s idle)
      (seen_under (hand p) c left units s here (hand p).at g.on)

  nothing : (t : Sign) (r : Row) → noted p.pending t r ≡ 0
  nothing t r = none_noted (hand p).at under t r

  unchanged : (t : Sign) (r : Row) → settled s (count_of p.supports p.finished) (noted p.pending) t r ≡ 0
  unchanged = settled_none s (count_of p.supports p.finished) (noted p.pending) nothing

  finished_so : rows_at changed.items p.finished ≡ [] → ((j : ℕ) → j ≢ p.finished → rows_at changed.items j ≡ rows_at p.changed.items j)
      → Finishes s (hand p) (hand passed)
  finished_so cleared others = record {
    steps = refl;
    caps = refl;
    changes = refl;
    finished = refl;
    counts = λ r. ap (λ k. count_of p.supports p.finished r + k) (unchanged sign.Minus r ∙ sym (unchanged sign.Plus r));
    other_counts = λ j d r. refl;
    small = g.on.between.small p.finished;
    changed = subst (IsChange (count_of p.supports p.finished) (count_of p.supports p.finished)) (sym cleared)
        (no_change (count_of p.supports p.finished));
    other_changed = λ j lt. others j (omega (arith, lt));
    before = held_before (steps_in p) (caps_in p.caps) p.events.items c (hand p).view p.finished g.on.between;
    after = held_after (steps_in p) (caps_in p.caps) p.events.items c (hand p).view p.finished g.on.between;
    other_before = λ j d. refl;
    other_after = λ j d. refl;
    left = fresh_left p g.ready p.goals refl changed.items (count_of p.supports) spot starts (p.finished + 1);
    none_left = none_left p g.ready p.goals refl changed.items (count_of p.supports) spot starts (p.finished + 1);
    noted = nothing;
  }

  pub passes : rows_at changed.items p.finished ≡ [] → ((j : ℕ) → j ≢ p.finished → rows_at changed.items j ≡ rows_at p.changed.items j)
      → IsReady passed → StepGoes passed c left units (Some units)
  passes cleared others ready =
      let w = idle_work (cap_of (hand p)) (slots_at (steps_in p)) p.goals (count_of p.supports) p.changed.items p.events.items s idle
      (hand p).at (none_under (hand p).at under) units in
      let t = step_turned (hand p) c left units s here (hand p).at g.on units w (hand passed) (finished_so cleared others) in
      (t.0, record { on = t.1; ready = ready }, t.2)
