-- What is seen of the step under way is what its course says.
use Rattle.std.specs.Prelude.{ℕ, ◌≡◌, ◌<◌, refl, Option, Some, List, [], ◌∷◌, ◌++◌, map}
use Rattle.std.specs.List.{flat_map}
use Rattle.std.proofs.Common.{ap, ◌∙◌, arith}
use Rattle.ordered_lists.specs.Lists.{Each}
use Rattle.event_changes.specs.declared.changes.Sign.{Sign}
use Rattle.event_changes.specs.declared.changes.Sign.TheVariants as sign
use Rattle.event_changes.specs.declared.events.EventChange.{EventChange}
use Rattle.ev_bind.specs.declared.rows.Row.{Row}
use Rattle.rule_ast.specs.PlainPlans.{PlainStep, Named, Leaf, Join, Either, Where, Exact, Within, Minus, Head}
use Rattle.term_eval.specs.Values.{holds}
use Rattle.pattern_meaning.specs.PatternRows.{head_row}
use Rattle.pattern_meaning.specs.RuleRows.{is_long, is_short}
use Rattle.step_meaning.specs.Operands.{IsLower}
use Rattle.step_meaning.specs.StepRows.{step_at}
use Rattle.row_changes.specs.Visits.{Visit, tally}
use Rattle.change_meaning.specs.Keys.{join_key, slots_at}
use Rattle.change_meaning.specs.Caps.{PlainCaps}
use Rattle.change_meaning.specs.JoinVisits.{join_visits}
use Rattle.change_meaning.specs.MinusVisits.{minus_visits, turned}
use Rattle.change_meaning.specs.Courses.{Course, changed_at, leaf_row, passing, row_gives, event_gives, visits, given}
use Rattle.step_work.specs.Views.{View, seen_visits, seen_gives, settled}
use Rattle.revision.specs.Works.{Between}

module _ (steps : List PlainStep) (caps : PlainCaps) (es : List EventChange) (c : Course) (v : View) (n : ℕ)
    (b : Between steps caps es c v n) (cap : Option ℕ) (slots : ℕ → List ℕ) where
  pub visits_seen : (s : PlainStep) → IsLower n s → seen_visits cap slots s v ≡ visits cap slots s c
  visits_seen (Named m heads) low = refl
  visits_seen (Leaf of p) low = refl
  visits_seen (Join op l r) low = λ i. join_visits
      (record { op = op; cap = cap; key = join_key slots l r; lefts = b.before l i; rights = b.after_done r low.1 i })
      (b.changed_done l low.0 i) (b.changed_done r low.1 i)
  visits_seen (Either l r) low = refl
  visits_seen (Where of t) low = refl
  visits_seen (Exact of q) low = refl
  visits_seen (Within of q) low = refl
  visits_seen (Minus j f m l) low = λ i. minus_visits
      (record {
        cap = cap;
        joined = b.after_done j low.0 i;
        before = b.after_done f low.1 i;
        inner = b.after_done m low.2 i;
        after = b.after_done l low.3 i;
        before_key = slots f;
        inner_key = slots m;
        after_key = slots l;
      })
      (b.changed_done j low.0 i) (b.changed_done m low.2 i) (b.changed_done f low.1 i) (b.changed_done l low.3 i)
  visits_seen (Head of head) low = refl

  heads_seen : (hs : List ℕ) → Each (λ h. h < n) hs
      → flat_map (λ h. map (row_gives cap Some) (v.changed h)) hs ≡ flat_map (λ h. map (row_gives cap Some) (changed_at c h)) hs
  heads_seen [] low = refl
  heads_seen (h ∷ hs) low = λ i. map (row_gives cap Some) (b.changed_done h low.0 i) ++ heads_seen hs low.1 i

  -- a step gives, of what is seen, what it gives of its course; a Minus first tests
  abbrev told : PlainStep → List Visit
  told (Minus j f m l) = visits cap slots (Minus j f m l) c
  told (Named m heads) = given cap slots (Named m heads) c es
  told (Leaf of p) = given cap slots (Leaf of p) c es
  told (Join op l r) = given cap slots (Join op l r) c es
  told (Either l r) = given cap slots (Either l r) c es
  told (Where of t) = given cap slots (Where of t) c es
  told (Exact of q) = given cap slots (Exact of q) c es
  told (Within of q) = given cap slots (Within of q) c es
  told (Head of head) = given cap slots (Head of head) c es

  gives_seen : (s : PlainStep) → IsLower n s → seen_gives cap slots s v es ≡ told s
  gives_seen (Named m heads) low = ap (λ l. map (event_gives cap m) es ++ l) (heads_seen heads low)
  gives_seen (Leaf of p) low = ap (map (row_gives cap (leaf_row p))) (b.changed_done of low)
  gives_seen (Join op l r) low = visits_seen (Join op l r) low
  gives_seen (Either l r) low =
      λ i. map (row_gives cap Some) (b.changed_done l low.0 i) ++ map (row_gives cap Some) (b.changed_done r low.1 i)
  gives_seen (Where of t) low = ap (map (row_gives cap (passing (λ r. holds t r.binding)))) (b.changed_done of low)
  gives_seen (Exact of q) low = ap (map (row_gives cap (passing (is_long q)))) (b.changed_done of low)
  gives_seen (Within of q) low = ap (map (row_gives cap (passing (is_short q)))) (b.changed_done of low)
  gives_seen (Minus j f m l) low = visits_seen (Minus j f m l) low
  gives_seen (Head of head) low = ap (map (row_gives cap (λ r. Some (head_row head r)))) (b.changed_done of low)

module _ (steps : List PlainStep) (caps : PlainCaps) (es : List EventChange) (c : Course) (v : View) (n : ℕ)
    (b : Between steps caps es c v n) (noted : Sign → Row → ℕ) where
  -- what is applied of all that was noted is what the step gives
  pub settled_gives : (s : PlainStep) → step_at steps n ≡ Some s
      → ((t : Sign) (r : Row) → noted t r ≡ tally t r (seen_gives (caps.cap n) (slots_at steps) s v es))
      → (t : Sign) (r : Row) → settled s (v.count n) noted t r ≡ tally t r (given (caps.cap n) (slots_at steps) s c es)
  settled_gives s e h t r = at s (b.course.lower n s e) e
      (λ t r. h t r
      ∙ ap (tally t r) (gives_seen steps caps es c v n b (caps.cap n) (slots_at steps) s (b.course.lower n s e)))
    where
      at : (s : PlainStep) → IsLower n s → step_at steps n ≡ Some s
          → ((t : Sign) (r : Row) → noted t r ≡ tally t r (told steps caps es c v n b (caps.cap n) (slots_at steps) s))
          → settled s (v.count n) noted t r ≡ tally t r (given (caps.cap n) (slots_at steps) s c es)
      at (Named m heads) low e h = h t r
      at (Leaf of p) low e h = h t r
      at (Join op l m) low e h = h t r
      at (Either l m) low e h = h t r
      at (Where of q) low e h = h t r
      at (Exact of q) low e h = h t r
      at (Within of q) low e h = h t r
      at (Minus j f m l) low e h =
          (λ i. turned t (h sign.Plus r i) (h sign.Minus r i) (b.counts_ahead n (omega arith) r i))
          ∙ b.course.settled n (Minus j f m l) e t r
      at (Head of head) low e h = h t r
