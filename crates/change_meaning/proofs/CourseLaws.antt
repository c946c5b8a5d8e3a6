-- The course of the kept rows of a plan is one on which an evaluator that works by changes can stand.
use Rattle.std.specs.Prelude.{ℕ, ◌≡◌, ◌+◌, ◌-◌, ◌<◌, ◌^◌, refl, Bool, true, false, cond, ◌&&◌, ◌||◌, nat_lt, nat_le, if◌then◌else◌, Option, Some, List, ◌++◌, length}
use Rattle.std.specs.List.{filter, flat_map}
use Rattle.std.specs.Ordering.{is_eq}
use Rattle.std.proofs.Common.{ap, sym, ◌∙◌, arith}
use Rattle.std.proofs.lemmas.Bool.{or_cases, or_left, or_right}
use Rattle.std.proofs.lemmas.Bool.Decides.{nat_tests}
use Rattle.ordered_lists.specs.Lists.{total-append, Each, Each-append, Each-filter, Each-flat_map}
use Rattle.ordered_lists.specs.Canon.{has, Rising, has-filter}
use Rattle.ordered_lists.specs.Members.{Each_has}
use Rattle.event_model.specs.declared.events.Event.{Event}
use Rattle.event_model.specs.declared.operators.Op.TheVariants.{Seq}
use Rattle.event_changes.specs.declared.changes.Sign.{Sign}
use Rattle.event_changes.specs.declared.changes.Sign.TheVariants as sign
use Rattle.event_changes.specs.declared.events.EventChange.{EventChange}
use Rattle.ev_bind.specs.Rows.{row_cmp, exact_rows}
use Rattle.ev_bind.specs.declared.rows.Row.{Row}
use Rattle.rule_ast.specs.PlainPlans.{PlainStep, Named, Leaf, Join, Either, Where, Exact, Within, Minus, Head}
use Rattle.rule_ast.specs.Vars.{is_in}
use Rattle.term_eval.specs.Values.{holds}
use Rattle.pattern_meaning.specs.PatternRows.{matched, events_of, head_row}
use Rattle.pattern_meaning.specs.RuleRows.{joined_rows, is_long, is_short}
use Rattle.pattern_meaning.proofs.Eachs.{Each-more}
use Rattle.step_meaning.specs.Counting.{times_has}
use Rattle.step_meaning.specs.PastRows.{past_presence, past_count}
use Rattle.step_meaning.specs.PlanOf.{in_either}
use Rattle.step_meaning.specs.StepRows.{step_at, supports, step_rows, step_supports, times}
use Rattle.row_changes.specs.Changes.{changed}
use Rattle.row_changes.specs.Kept.{within}
use Rattle.row_changes.specs.Visits.{tally}
use Rattle.change_meaning.specs.Caps.{PlainCaps, fits, is_late, keeps, kept_rows, supports_or_none, supports_at, NoLossOver}
use Rattle.change_meaning.specs.Courses.{Course, course_of, minus_view, leaf_row, passing, given, visits, heads_of, AreFew, IsSettled, IsCourse}
use Rattle.change_meaning.specs.MinusVisits.{blocks}
use Rattle.change_meaning.specs.Keys.{slots_at, join_key, IsBoundOn, IsBody, IsKeyedMinus, IsKeyedStep, IsWorkable}
use Rattle.change_meaning.specs.Moved.{moved_of, came_of, went_of, events_in, minus_rows, moved, AreSpans, IsMoved}
use Rattle.change_meaning.proofs.ChainLaws.{IsPart, AreLimits, blocks_are, has_chains}
use Rattle.change_meaning.proofs.GivenLaws.{rows_give, made_flat, made_each, made_map, made_passing, cond_sum, events_give, heads_give, minus_gives}
use Rattle.change_meaning.proofs.JoinLaws.{IsFound, join_gives}
use Rattle.change_meaning.proofs.KeyLaws.{Each-both, rows_bound_on}
use Rattle.change_meaning.proofs.LateLaws.{Late, late_changed, late_moved_of, none_late, late_matched, late_left, late_right, late_heads, late_users, late_events, late_minus}
use Rattle.change_meaning.proofs.MinusLaws.{Side, settles, untested_early}
use Rattle.change_meaning.proofs.MoveLaws.{step_moves}
use Rattle.change_meaning.proofs.RoomLaws.{step_room}
use Rattle.change_meaning.proofs.RowLaws.{none_at, rows_past, kept_rise, kept_each, kept_held}
use Rattle.change_meaning.proofs.SlotLaws.{small_at, in_both_parts, in_either_is}
use Rattle.change_meaning.proofs.SpanLaws.{OnSpan, goes, rows_on_spans}
use Rattle.change_meaning.proofs.Sums.{Each-moved, moved_rises, tally-append}

-- ---- conditions as tests

-- a test that is one number's or none
when_fits : (c : Bool) (n m : ℕ) → n ≡ m → cond c n 0 ≡ cond c m 0
when_fits c n m e = ap (λ k. cond c k 0) e

module _ (steps : List PlainStep) (ok : IsWorkable steps) (caps : PlainCaps) (b : ℕ) where
  -- the kept rows over the events G
  abbrev at : List Event → ℕ → List Row
  at G = kept_rows steps caps b G

  kept_spans : (G : List Event) → AreSpans G → (i : ℕ) → Each OnSpan (at G i)
  kept_spans G a i = kept_each steps ok.lower G caps b OnSpan i (rows_on_spans G a steps i)

  kept_bound : (G : List Event) (i : ℕ) → IsBody steps i → Each (IsBoundOn (slots_at steps i)) (at G i)
  kept_bound G i body = kept_each steps ok.lower G caps b (IsBoundOn (slots_at steps i)) i (rows_bound_on steps ok.lower ok.keyed G i body)

  kept_parts : (G : List Event) → AreSpans G → (i : ℕ) → IsBody steps i → Each (IsPart (slots_at steps i)) (at G i)
  kept_parts G a i body =
      Each-more (λ r. OnSpan r × IsBoundOn (slots_at steps i) r) (IsPart (slots_at steps i)) (λ r h. record { span = h.0; bound = h.1 })
      (at G i) (Each-both OnSpan (IsBoundOn (slots_at steps i)) (at G i) (kept_spans G a i) (kept_bound G i body))

  found_by : (key slots : List ℕ) → ((s : ℕ) → is_in s key ≡ true → is_in s slots ≡ true) → (xs : List Row) → Each (IsPart slots) xs
      → Each (IsFound key) xs
  found_by key slots h =
      Each-more (IsPart slots) (IsFound key)
      (λ r p. record { span = p.span; binding = p.bound.binding; bound = λ s e. p.bound.exact s ∙ h s e })

  kept_left : (G : List Event) → AreSpans G → (l k : ℕ) → IsBody steps l → Each (IsFound (join_key (slots_at steps) l k)) (at G l)
  kept_left G a l k body =
      found_by (join_key (slots_at steps) l k) (slots_at steps l)
      (λ s e. (in_both_parts (slots_at steps l) (slots_at steps k) s e).0) (at G l) (kept_parts G a l body)

  kept_right : (G : List Event) → AreSpans G → (l k : ℕ) → IsBody steps k → Each (IsFound (join_key (slots_at steps) l k)) (at G k)
  kept_right G a l k body =
      found_by (join_key (slots_at steps) l k) (slots_at steps k)
      (λ s e. (in_both_parts (slots_at steps l) (slots_at steps k) s e).1) (at G k) (kept_parts G a k body)

  -- the slots of the operands of a Minus
  limits_of : (j f i l : ℕ) → IsKeyedMinus (slots_at steps) j f i l
      → AreLimits (slots_at steps j) (slots_at steps f) (slots_at steps i) (slots_at steps l)
  limits_of j f i l k = record {
    has_before = λ s e. k.limits s ∙ both s ∙ or_left (is_in s (slots_at steps f)) (is_in s (slots_at steps l)) e;
    has_inner = k.inside;
    has_after = λ s e. k.limits s ∙ both s ∙ or_right (is_in s (slots_at steps f)) (is_in s (slots_at steps l)) e;
    in_limits = λ s e. or_cases (is_in s (slots_at steps f)) (is_in s (slots_at steps l)) (sym (k.limits s ∙ both s) ∙ e);
  }
    where
      both : (s : ℕ) → is_in s (in_either (slots_at steps f) (slots_at steps l)) ≡ (is_in s (slots_at steps f) || is_in s (slots_at steps l))
      both s = in_either_is (slots_at steps f) (slots_at steps l) (small_at steps f) (small_at steps l) s

  -- a joined row is blocked exactly where a chain of kept rows gives it
  pub blocks_at : (F : List Event) → AreSpans F → (E : List Event) (i j f n l : ℕ) → step_at steps i ≡ Some (Minus j f n l) → (r : Row)
      → has row_cmp r (at F j) ≡ true
      → blocks (minus_view (caps.cap i) (slots_at steps) (course_of steps caps b E F) j f n l) r
      ≡ has row_cmp r (joined_rows Seq (joined_rows Seq (at F f) (at F n)) (at F l))
  blocks_at F a E i j f n l e r there =
      let k = ok.keyed i (Minus j f n l) e in
      let p : IsPart (slots_at steps j) r = Each_has exact_rows (IsPart (slots_at steps j)) r (at F j) (kept_parts F a j k.0) there in
      blocks_are (slots_at steps j) (slots_at steps f) (slots_at steps n) (slots_at steps l) (limits_of j f n l k.4) r p (caps.cap i)
      (at F j) (at F f) (at F n) (at F l) (kept_parts F a f k.1) (kept_parts F a n k.2) (kept_parts F a l k.3)
      ∙ sym (has_chains r (at F f) (at F n) (at F l))

  module _ (E F : List Event) (es : List EventChange) (mv : IsMoved b E F es) where
    abbrev c : Course
    c = course_of steps caps b E F

    old_rise : (i : ℕ) → Rising row_cmp (at E i)
    old_rise i = kept_rise steps ok.lower E caps b i

    new_rise : (i : ℕ) → Rising row_cmp (at F i)
    new_rise i = kept_rise steps ok.lower F caps b i

    side_of : (i : ℕ) → IsBody steps i → Side (slots_at steps i)
    side_of i body = record {
      old = at E i;
      new = at F i;
      old_rises = old_rise i;
      new_rises = new_rise i;
      old_parts = kept_parts E mv.before_spans i body;
      new_parts = kept_parts F mv.after_spans i body;
    }

    -- ---- what a step gives is what it gets and loses

    pub given_is : (s : Sign) (r : Row) (cap : Option ℕ) (t : PlainStep) → IsKeyedStep steps t
        → tally s r (given cap (slots_at steps) t c es) ≡ cond (fits cap r) (times r (moved s (events_in s es) (at E) (at F) t)) 0
    given_is s r cap (Named n heads) k =
        let one : Row → ℕ = λ x. cond (is_eq (row_cmp r x)) 1 0 in
        let own = events_of (events_in s es) n in
        let used = flat_map (λ h. moved_of s (at E h) (at F h)) heads in
        tally-append s r _ _
        ∙ (λ i. events_give r cap n s es i + heads_give s r cap (at E) (at F) old_rise new_rise heads i)
        ∙ cond_sum (fits cap r) (times r own) (times r used)
        ∙ when_fits (fits cap r) (times r own + times r used) (times r (own ++ used)) (sym (total-append one own used))
    given_is s r cap (Leaf of p) k =
        rows_give s r cap (leaf_row p) (at E of) (at F of) (old_rise of) (new_rise of)
        ∙ when_fits (fits cap r) _ _ (made_flat r (leaf_row p) (moved_of s (at E of) (at F of)))
    given_is s r cap (Join op l m) k =
        join_gives s r op cap (join_key (slots_at steps) l m) (at E l) (at F l) (at E m) (at F m)
        (old_rise l) (new_rise l) (old_rise m) (new_rise m)
        (kept_left E mv.before_spans l m k.0) (kept_left F mv.after_spans l m k.0)
        (kept_right E mv.before_spans l m k.1) (kept_right F mv.after_spans l m k.1)
    given_is s r cap (Either l m) k =
        let one : Row → ℕ = λ x. cond (is_eq (row_cmp r x)) 1 0 in
        let left = moved_of s (at E l) (at F l) in
        let right = moved_of s (at E m) (at F m) in
        tally-append s r _ _
        ∙ (λ i. (rows_give s r cap Some (at E l) (at F l) (old_rise l) (new_rise l) ∙ when_fits (fits cap r) _ _ (made_each r left)) i
        + (rows_give s r cap Some (at E m) (at F m) (old_rise m) (new_rise m) ∙ when_fits (fits cap r) _ _ (made_each r right)) i)
        ∙ cond_sum (fits cap r) (times r left) (times r right)
        ∙ when_fits (fits cap r) (times r left + times r right) (times r (left ++ right)) (sym (total-append one left right))
    given_is s r cap (Where of q) k =
        rows_give s r cap (passing (λ r. holds q r.binding)) (at E of) (at F of) (old_rise of) (new_rise of)
        ∙ when_fits (fits cap r) _ _ (made_passing r (λ r. holds q r.binding) (moved_of s (at E of) (at F of)))
    given_is s r cap (Exact of q) k =
        rows_give s r cap (passing (is_long q)) (at E of) (at F of) (old_rise of) (new_rise of)
        ∙ when_fits (fits cap r) _ _ (made_passing r (is_long q) (moved_of s (at E of) (at F of)))
    given_is s r cap (Within of q) k =
        rows_give s r cap (passing (is_short q)) (at E of) (at F of) (old_rise of) (new_rise of)
        ∙ when_fits (fits cap r) _ _ (made_passing r (is_short q) (moved_of s (at E of) (at F of)))
    given_is s r cap (Minus j f i l) k =
        minus_gives s r cap (minus_rows (at E j) (at E f) (at E i) (at E l)) (minus_rows (at F j) (at F f) (at F i) (at F l))
    given_is s r cap (Head of head) k =
        rows_give s r cap (λ r. Some (head_row head r)) (at E of) (at F of) (old_rise of) (new_rise of)
        ∙ when_fits (fits cap r) _ _ (made_map r (head_row head) (moved_of s (at E of) (at F of)))

    -- ---- what changes is late

    stays : (i : ℕ) (r : Row) → r.span.end < b → has row_cmp r (at E i) ≡ has row_cmp r (at F i)
    stays i r lt =
        has-filter exact_rows (keeps caps b i) r (step_rows steps i E)
        ∙ ap (λ t. keeps caps b i r && t)
        (past_presence b E F (goes E mv.before_spans) (goes F mv.after_spans) mv.same_below r lt steps i)
        ∙ sym (has-filter exact_rows (keeps caps b i) r (step_rows steps i F))

    changes_late : (i : ℕ) → Each (Late b) (changed (at E i) (at F i))
    changes_late i = late_changed b (at E i) (at F i) (stays i)

    moves_late : (s : Sign) (i : ℕ) → Each (Late b) (moved_of s (at E i) (at F i))
    moves_late s i = late_moved_of b s (at E i) (at F i) (changes_late i)

    moves_span : (s : Sign) (i : ℕ) → Each OnSpan (moved_of s (at E i) (at F i))
    moves_span s i = Each-moved OnSpan s (at E i) (at F i) (kept_spans E mv.before_spans i) (kept_spans F mv.after_spans i)

    late_step : (s : Sign) (t : PlainStep) → IsKeyedStep steps t → Each (Late b) (moved s (events_in s es) (at E) (at F) t)
    unfolding side_of
    late_step s (Named n heads) k =
        Each-append (Late b) _ _ (late_events b s es mv.late n) (late_users b (λ h. moved_of s (at E h) (at F h)) (moves_late s) heads)
    late_step s (Leaf of p) k = Each-flat_map (Late b) (Late b) (matched p) (late_matched b p) _ (moves_late s of)
    late_step s (Join op l m) k =
        Each-append (Late b) _ _
        (late_left b op (moved_of s (at E l) (at F l)) (at F m) (moves_late s l) (moves_span s l) (kept_spans F mv.after_spans m))
        (late_right b op (at E l) (moved_of s (at E m) (at F m)) (kept_spans E mv.before_spans l) (moves_late s m) (moves_span s m))
    late_step s (Either l m) k = Each-append (Late b) _ _ (moves_late s l) (moves_late s m)
    late_step s (Where of q) k = Each-filter (Late b) _ _ (moves_late s of)
    late_step s (Exact of q) k = Each-filter (Late b) _ _ (moves_late s of)
    late_step s (Within of q) k = Each-filter (Late b) _ _ (moves_late s of)
    late_step s (Minus j f i l) k =
        late_minus b (slots_at steps j) (slots_at steps f) (slots_at steps i) (slots_at steps l) (limits_of j f i l k.4)
        (side_of j k.0) (side_of f k.1) (side_of i k.2) (side_of l k.3)
        (changes_late j) (changes_late f) (changes_late i) (changes_late l) s
    late_step s (Head of head) k = late_heads b head _ (moves_late s of)

    -- ---- counts

    module _ (old_whole : NoLossOver steps caps b E) (new_whole : NoLossOver steps caps b F) where
      count_at : (G : List Event) (i : ℕ) (t : PlainStep) → step_at steps i ≡ Some t → (r : Row)
          → times r (supports_at steps G i) ≡ times r (step_supports steps t G)
      count_at G i t e r = ap (λ o. times r (supports_or_none steps G o)) e

      -- the counts of a row of one step, by whether it fits and is late
      module _ (i : ℕ) (t : PlainStep) (e : step_at steps i ≡ Some t) (r : Row) where
        abbrev cap : Option ℕ
        cap = caps.cap i

        abbrev come : ℕ
        come = times r (moved sign.Plus (came_of es) (at E) (at F) t)

        abbrev go : ℕ
        go = times r (moved sign.Minus (went_of es) (at E) (at F) t)

        whole_old : fits cap r ≡ true → is_late b r ≡ true → times r (supports_at steps E i) ≡ times r (supports E (at E) t)
        whole_old f l = count_at E i t e r ∙ old_whole i t e r f l

        whole_new : fits cap r ≡ true → is_late b r ≡ true → times r (supports_at steps F i) ≡ times r (supports F (at F) t)
        whole_new f l = count_at F i t e r ∙ new_whole i t e r f l

        balanced : times r (supports F (at F) t) + go ≡ times r (supports E (at E) t) + come
        balanced = step_moves E F (came_of es) (went_of es) mv.moves (at E) (at F) old_rise new_rise t (λ x. cond (is_eq (row_cmp r x)) 1 0)

        counted : (f : Bool) → fits cap r ≡ f → (l : Bool) → is_late b r ≡ l
            → (if f && (l || within (caps.reach i) (b - r.span.start)) then times r (supports_at steps F i) else 0) + cond f go 0
            ≡ (if f && (l || within (caps.reach i) (b - r.span.start)) then times r (supports_at steps E i) else 0) + cond f come 0
        counted false g l h = refl
        counted true g true h = let x = whole_old g h in let y = whole_new g h in omega (arith, x, y, balanced)
        counted true g false h =
            let lt : r.span.end < b = grind (arith, nat_tests, h) in
            let came = none_late b r lt (moved sign.Plus (came_of es) (at E) (at F) t) (late_step sign.Plus t (ok.keyed i t e)) in
            let went = none_late b r lt (moved sign.Minus (went_of es) (at E) (at F) t) (late_step sign.Minus t (ok.keyed i t e)) in
            let same : times r (supports_at steps E i) ≡ times r (supports_at steps F i) =
            count_at E i t e r
            ∙ past_count b E F (goes E mv.before_spans) (goes F mv.after_spans) mv.same_below r lt steps t
            ∙ sym (count_at F i t e r) in
            stay (within (caps.reach i) (b - r.span.start)) (times r (supports_at steps E i)) (times r (supports_at steps F i)) same came went
          where
            stay : (k : Bool) (m n : ℕ) → m ≡ n → come ≡ 0 → go ≡ 0 → (if k then n else 0) + go ≡ (if k then m else 0) + come
            stay true m n same p q = omega (arith, same, p, q)
            stay false m n same p q = omega (arith, p, q)

        counts_move : c.new_count i r + tally sign.Minus r (given cap (slots_at steps) t c es)
            ≡ c.old_count i r + tally sign.Plus r (given cap (slots_at steps) t c es)
        counts_move =
            (λ k. c.new_count i r + given_is sign.Minus r cap t (ok.keyed i t e) k)
            ∙ counted (fits cap r) refl (is_late b r) refl
            ∙ sym (λ k. c.old_count i r + given_is sign.Plus r cap t (ok.keyed i t e) k)

        -- a row that a step gives is kept, and has as many supports by the kept rows
        given_kept : 0 < tally sign.Plus r (given cap (slots_at steps) t c es)
            → (c.old_count i r ≡ times r (supports E (at E) t)) × (tally sign.Plus r (given cap (slots_at steps) t c es) ≡ come)
        given_kept some = by (fits cap r) refl (is_late b r) refl
          where
            is : tally sign.Plus r (given cap (slots_at steps) t c es) ≡ cond (fits cap r) come 0
            is = given_is sign.Plus r cap t (ok.keyed i t e)

            by : (f : Bool) → fits cap r ≡ f → (l : Bool) → is_late b r ≡ l
                → ((if f && (l || within (caps.reach i) (b - r.span.start)) then times r (supports_at steps E i) else 0) ≡ times r (supports E (at E) t))
                × (tally sign.Plus r (given cap (slots_at steps) t c es) ≡ come)
            by false g l h =
                let z : tally sign.Plus r (given cap (slots_at steps) t c es) ≡ 0 = is ∙ ap (λ f. cond f come 0) g in
                absurd (let k : ⊥ = omega (arith, z, some) in k)
            by true g true h = (whole_old g h, is ∙ ap (λ f. cond f come 0) g)
            by true g false h =
                let lt : r.span.end < b = grind (arith, nat_tests, h) in
                let none = none_late b r lt (moved sign.Plus (came_of es) (at E) (at F) t) (late_step sign.Plus t (ok.keyed i t e)) in
                let z : tally sign.Plus r (given cap (slots_at steps) t c es) ≡ 0 = is ∙ ap (λ f. cond f come 0) g ∙ none in
                absurd (let k : ⊥ = omega (arith, z, some) in k)

        room_for : length es < 2 ^ 64 → length (heads_of t) < 2 ^ 64 → AreFew c i
            → 0 < tally sign.Plus r (given cap (slots_at steps) t c es)
            → c.old_count i r + tally sign.Plus r (given cap (slots_at steps) t c es) < 2 ^ 128
        room_for few heads short some =
            let is = given_kept some in
            let fits_in = step_room E es (at E) (at F) old_rise (λ j. moved_rises sign.Plus (at E j) (at F j) (old_rise j) (new_rise j)) t i
            (ok.lower i t e) few heads short r in
            omega (arith, is.0, is.1, fits_in)

      -- ---- tests

      settled_at : (i : ℕ) (t : PlainStep) → step_at steps i ≡ Some t → IsSettled (caps.cap i) (slots_at steps) t c (c.old_count i) es
      unfolding side_of
      settled_at i (Named n heads) e = tt
      settled_at i (Leaf of p) e = tt
      settled_at i (Join op l m) e = tt
      settled_at i (Either l m) e = tt
      settled_at i (Where of q) e = tt
      settled_at i (Exact of q) e = tt
      settled_at i (Within of q) e = tt
      settled_at i (Minus j f n l) e = λ s r.
          settles sj sf sn sl limits (side_of j k.0) (side_of f k.1) (side_of n k.2) (side_of l k.3) (caps.cap i) s r (c.old_count i r)
          (λ fit some. by r fit some (is_late b r) refl)
          ∙ sym (given_is s r (caps.cap i) (Minus j f n l) k)
        where
          k : IsKeyedStep steps (Minus j f n l)
          k = ok.keyed i (Minus j f n l) e

          sj : List ℕ
          sj = slots_at steps j

          sf : List ℕ
          sf = slots_at steps f

          sn : List ℕ
          sn = slots_at steps n

          sl : List ℕ
          sl = slots_at steps l

          limits : AreLimits sj sf sn sl
          limits = limits_of j f n l k.4

          by : (r : Row) → fits (caps.cap i) r ≡ true
              → 0 < tally sign.Plus r (visits (caps.cap i) (slots_at steps) (Minus j f n l) c)
              + tally sign.Minus r (visits (caps.cap i) (slots_at steps) (Minus j f n l) c)
              → (t : Bool) → is_late b r ≡ t
              → nat_lt 0 (c.old_count i r) ≡ has row_cmp r (minus_rows (at E j) (at E f) (at E n) (at E l))
          by r fit some true h =
              let xs = minus_rows (at E j) (at E f) (at E n) (at E l) in
              (λ m. nat_lt 0 (if fit m && (h m || within (caps.reach i) (b - r.span.start)) then times r (supports_at steps E i) else 0))
              ∙ ap (nat_lt 0) (count_at E i (Minus j f n l) e r ∙ old_whole i (Minus j f n l) e r fit h)
              ∙ one_or_more (times r xs)
              ∙ sym (times_has r xs)
            where
              one_or_more : (n : ℕ) → nat_lt 0 n ≡ nat_le 1 n
              one_or_more n = grind (arith, nat_tests)
          by r fit some false h =
              let lt : r.span.end < b = grind (arith, nat_tests, h) in
              let plus = untested_early sj sf sn sl limits (side_of j k.0) (side_of f k.1) (side_of n k.2) (side_of l k.3) (caps.cap i) b
              (changes_late j) (changes_late n) (changes_late f) (changes_late l) sign.Plus r lt in
              let minus = untested_early sj sf sn sl limits (side_of j k.0) (side_of f k.1) (side_of n k.2) (side_of l k.3) (caps.cap i) b
              (changes_late j) (changes_late n) (changes_late f) (changes_late l) sign.Minus r lt in
              absurd (let z : ⊥ = omega (arith, some, plus, minus) in z)
      settled_at i (Head of head) e = tt

      -- the course is one to stand on
      pub course_is : IsCourse steps caps es c
      course_is = record {
        lower = ok.lower;
        counts = counts_move;
        settled = settled_at;
        room = λ i t e few heads short r some. room_for i t e r few heads short some;
        old_held = kept_held steps ok.lower E caps b;
        new_held = kept_held steps ok.lower F caps b;
        beyond = λ i h. (
          ap (filter (keeps caps b i)) (rows_past steps F i (none_at steps i h) ∙ sym (rows_past steps E i (none_at steps i h))),
          λ r. ap (λ n. if keeps caps b i r then n else 0)
              (ap (λ o. times r (supports_or_none steps F o)) (none_at steps i h)
              ∙ sym (ap (λ o. times r (supports_or_none steps E o)) (none_at steps i h))),
        );
      }
