-- The operands of a step have lower numbers. So a step's rows are those of its supports over the rows of all steps, and a row is there
-- exactly where it has a support.
use Rattle.std.specs.Prelude.{ℕ, zero, suc, ◌≡◌, ◌+◌, ◌-◌, ◌<◌, ◌≤◌, ◌⊎◌, refl, true, false, nat_le, Some, List, [], ◌∷◌, ◌++◌, map, length}
use Rattle.std.specs.List.{filter, flat_map}
use Rattle.std.proofs.Common.{inl, inr, ap, sym, ◌∙◌, arith, subst, length-append}
use Rattle.std.proofs.lemmas.Option.{none-some, same_Some}
use Rattle.ordered_lists.specs.Lists.{joins, Each, Each-append}
use Rattle.ordered_lists.specs.Canon.{has, has-canon}
use Rattle.ordered_lists.specs.Members.{without}
use Rattle.event_model.specs.declared.events.Event.{Event}
use Rattle.event_model.specs.declared.operators.Op.TheVariants.{Seq}
use Rattle.event_model.specs.declared.atoms.NameArity.{NameArity}
use Rattle.ev_bind.specs.Rows.{row_cmp, exact_rows}
use Rattle.ev_bind.specs.declared.rows.Row.{Row}
use Rattle.rule_ast.specs.Trees.{PlainPattern, PlainRule}
use Rattle.rule_ast.specs.Trees as tree
use Rattle.term_eval.specs.Values.{holds}
use Rattle.rule_check.specs.Names.{body_names, name_of_atom}
use Rattle.pattern_meaning.specs.PatternRows.{rows_of, matched, events_of, head_row}
use Rattle.pattern_meaning.specs.RuleRows.{joined, joined_rows, is_long, is_short}
use Rattle.rule_ast.specs.PlainPlans.{PlainStep, Named, Leaf, Join, Either, Where, Exact, Within, Minus, Head}
use Rattle.step_meaning.specs.StepRows.{step_at, supports, entry, table, step_rows, count}
use Rattle.step_meaning.specs.PlanOf.{top, body_steps, rule_steps}
use Rattle.event_model.specs.EventOrder.{name_cmp}
use Rattle.pattern_meaning.specs.Depths.{in_left, in_right, or_left, ties_itself}
use Rattle.step_meaning.specs.Growing.{AtPush, entry_front, entry_end, extends, some_steps}
use Rattle.step_meaning.specs.Counting.{times_has}

-- each operand of the step has a number below this one
abbrev pub IsLower : ℕ → PlainStep → Type 0
IsLower i (Named n heads) = Each (λ h. h < i) heads
IsLower i (Leaf of p) = of < i
IsLower i (Join op left right) = (left < i) × (right < i)
IsLower i (Either left right) = (left < i) × (right < i)
IsLower i (Where of c) = of < i
IsLower i (Exact of q) = of < i
IsLower i (Within of q) = of < i
IsLower i (Minus joined before inner after) = (joined < i) × (before < i) × (inner < i) × (after < i)
IsLower i (Head of head) = of < i

-- operands come first
abbrev pub AreLower : List PlainStep → Type 0
AreLower ss = (i : ℕ) (s : PlainStep) → step_at ss i ≡ Some s → IsLower i s

module _ (events : List Event) (at to : ℕ → List Row) (i : ℕ) (same : (j : ℕ) → j < i → at j ≡ to j) where
  heads_same : (hs : List ℕ) → Each (λ h. h < i) hs → flat_map at hs ≡ flat_map to hs
  heads_same [] a = refl
  heads_same (h ∷ hs) a = λ k. same h a.0 k ++ heads_same hs a.1 k

  -- a step's supports depend on the rows of its operands
  pub supports_same : (s : PlainStep) → IsLower i s → supports events at s ≡ supports events to s
  supports_same (Named n heads) a = ap (λ l. rows_of (events_of events n) ++ l) (heads_same heads a)
  supports_same (Leaf of p) a = ap (flat_map (matched p)) (same of a)
  supports_same (Join op l r) a = λ k. joins (joined op) (same l a.0 k) (same r a.1 k)
  supports_same (Either l r) a = λ k. same l a.0 k ++ same r a.1 k
  supports_same (Where of c) a = ap (filter (λ r. holds c r.binding)) (same of a)
  supports_same (Exact of q) a = ap (filter (is_long q)) (same of a)
  supports_same (Within of q) a = ap (filter (is_short q)) (same of a)
  supports_same (Minus j b n f) a =
      λ k. without row_cmp (same j a.0 k) (joined_rows Seq (joined_rows Seq (same b a.1 k) (same n a.2 k)) (same f a.3 k))
  supports_same (Head of head) a = ap (map (head_row head)) (same of a)

module _ (events : List Event) where
  table_keeps : (ss : List PlainStep) (t : List (List Row)) (i : ℕ) → i < length t → entry (table events ss t) i ≡ entry t i
  table_keeps [] t i h = refl
  table_keeps (s ∷ ss) t i h = let x = rows_of (supports events (entry t) s) in
      table_keeps ss (t ++ x ∷ []) i (omega (arith, h, length-append t (x ∷ []))) ∙ entry_front events t x i h

  own : (ss : List PlainStep) (t : List (List Row)) (i : ℕ) (s : PlainStep) → step_at ss i ≡ Some s → IsLower (length t + i) s
      → entry (table events ss t) (length t + i) ≡ rows_of (supports events (entry (table events ss t)) s)
  own [] t i s e low = absurd (none-some s e)
  own (x ∷ ss) t zero s e low =
      let is : x ≡ s = same_Some x s e in
      let new = rows_of (supports events (entry t) x) in
      let here : length t + 0 ≡ length t = omega arith in
      let whole = table events ss (t ++ new ∷ []) in
      ap (entry whole) here
      ∙ table_keeps ss (t ++ new ∷ []) (length t) (omega (arith, length-append t (new ∷ [])))
      ∙ entry_end events t new
      ∙ ap (λ z. rows_of (supports events (entry t) z)) is
      ∙ ap rows_of (supports_same events (entry t) (entry whole) (length t + 0)
      (λ j h. sym (table_keeps ss (t ++ new ∷ []) j (omega (arith, h, length-append t (new ∷ [])))
      ∙ entry_front events t new j (omega (arith, h)))) s low)
  own (x ∷ ss) t (suc i) s e low =
      let new = rows_of (supports events (entry t) x) in
      let there : length (t ++ new ∷ []) + i ≡ length t + suc i = omega (arith, length-append t (new ∷ [])) in
      ap (entry (table events ss (t ++ new ∷ []))) (sym there) ∙ own ss (t ++ new ∷ []) i s e (subst (λ k. IsLower k s) (sym there) low)

-- a step's rows are those of its supports
pub rows_of_supports : (events : List Event) (steps : List PlainStep) → AreLower steps → (i : ℕ) (s : PlainStep) → step_at steps i ≡ Some s
    → step_rows steps i events ≡ rows_of (supports events (λ j. step_rows steps j events) s)
rows_of_supports events steps low i s e =
    let none : 0 + i ≡ i = omega arith in
    ap (entry (table events steps [])) (sym none) ∙ own events steps [] i s e (subst (λ k. IsLower k s) (sym none) (low i s e))

-- a row is there exactly where it has a support
pub there_where_counted : (events : List Event) (steps : List PlainStep) → AreLower steps → (i : ℕ) (s : PlainStep)
    → step_at steps i ≡ Some s → (r : Row) → has row_cmp r (step_rows steps i events) ≡ nat_le 1 (count steps s r events)
there_where_counted events steps low i s e r =
    ap (has row_cmp r) (rows_of_supports events steps low i s e)
    ∙ has-canon exact_rows r (supports events (λ j. step_rows steps j events) s)
    ∙ times_has r (supports events (λ j. step_rows steps j events) s)

-- ---- the operands in a plan come first

pub lower_push : (ss : List PlainStep) (s : PlainStep) → AreLower ss → IsLower (length ss) s → AreLower (ss ++ s ∷ [])
lower_push ss s low new i x e = at (AtPush ss s x i e)
  where
    at : ((i < length ss) × (step_at ss i ≡ Some x)) ⊎ ((i ≡ length ss) × (s ≡ x)) → IsLower i x
    at (inl h) = low i x h.1
    at (inr h) = subst (λ k. IsLower k x) (sym h.0) (subst (IsLower (length ss)) h.1 new)

module _ (of : NameArity → ℕ) where
  -- the names of a pattern have steps
  abbrev pub HasPlaces : PlainPattern → List PlainStep → Type 0
  HasPlaces p ss = (n : NameArity) → has name_cmp n (body_names p) ≡ true → of n < length ss

  longer : (p : PlainPattern) (ss : List PlainStep) → length ss ≤ length (body_steps of p ss)
  longer p ss = (extends [] of p ss).longer

  later : (p q : PlainPattern) (ss : List PlainStep) → HasPlaces p ss → HasPlaces p (body_steps of q ss)
  later p q ss h n e = let lt = h n e in let le = longer q ss in omega (arith, lt, le)

  below_top : (more : List PlainStep) → 0 < length more → (k : ℕ) → length more ≤ k → top more < k
  below_top more some k le = let lt : length more - 1 < k = omega (arith, some, le) in lt

  pub body_lower : (p : PlainPattern) (ss : List PlainStep) → HasPlaces p ss → AreLower ss → AreLower (body_steps of p ss)
  body_lower (tree.Atom a) ss h low = lower_push ss _ low (h (name_of_atom a) (or_left _ false (ties_itself (name_of_atom a))))
  body_lower (tree.Both op l r) ss h low =
      let left = body_steps of l ss in
      let right = body_steps of r left in
      let hl : HasPlaces l ss = λ n e. h n (in_left n (body_names l) (body_names r) e) in
      let hr : HasPlaces r ss = λ n e. h n (in_right n (body_names l) (body_names r) e) in
      lower_push right (Join op (top left) (top right)) (body_lower r left (later r l ss hr) (body_lower l ss hl low)) (
        below_top left (some_steps [] of l ss) (length right) (longer r left),
        below_top right (some_steps [] of r left) (length right)
            (omega arith),
      )
  body_lower (tree.Either l r) ss h low =
      let left = body_steps of l ss in
      let right = body_steps of r left in
      let hl : HasPlaces l ss = λ n e. h n (in_left n (body_names l) (body_names r) e) in
      let hr : HasPlaces r ss = λ n e. h n (in_right n (body_names l) (body_names r) e) in
      lower_push right (Either (top left) (top right)) (body_lower r left (later r l ss hr) (body_lower l ss hl low)) (
        below_top left (some_steps [] of l ss) (length right) (longer r left),
        below_top right (some_steps [] of r left) (length right)
            (omega arith),
      )
  body_lower (tree.Where p c) ss h low = let inner = body_steps of p ss in
      lower_push inner (Where (top inner) c) (body_lower p ss h low) (below_top inner (some_steps [] of p ss) (length inner) (omega arith))
  body_lower (tree.Exact p q) ss h low = let inner = body_steps of p ss in
      lower_push inner (Exact (top inner) q) (body_lower p ss h low) (below_top inner (some_steps [] of p ss) (length inner) (omega arith))
  body_lower (tree.Within p q) ss h low = let inner = body_steps of p ss in
      lower_push inner (Within (top inner) q) (body_lower p ss h low) (below_top inner (some_steps [] of p ss) (length inner) (omega arith))
  body_lower (tree.Not i b a) ss h low =
      let before = body_steps of b ss in
      let after = body_steps of a before in
      let j = Join Seq (top before) (top after) in
      let joined = after ++ j ∷ [] in
      let inner = body_steps of i joined in
      let hi : HasPlaces i ss = λ n e. h n (in_left n (body_names i) (body_names b ++ body_names a) e) in
      let hb : HasPlaces b ss = λ n e. h n
      (in_right n (body_names i) (body_names b ++ body_names a) (in_left n (body_names b) (body_names a) e)) in
      let ha : HasPlaces a ss = λ n e. h n
      (in_right n (body_names i) (body_names b ++ body_names a) (in_right n (body_names b) (body_names a) e)) in
      let one : length joined ≡ length after + 1 = length-append after (j ∷ []) in
      let lb = longer b ss in
      let la = longer a before in
      let li = longer i joined in
      let lj : 0 < length joined = omega (arith, one) in
      let hj : HasPlaces i joined = λ n e. (let lt = hi n e in omega (arith, lt, lb, la, one)) in
      let to_joined = lower_push after j (body_lower a before (later a b ss ha) (body_lower b ss hb low)) (
        below_top before (some_steps [] of b ss) (length after) la,
        below_top after (some_steps [] of a before) (length after)
            (omega arith),
      ) in
      lower_push inner (Minus (top joined) (top before) (top inner) (top after)) (body_lower i joined hj to_joined) (
        below_top joined lj (length inner) li,
        below_top before (some_steps [] of b ss) (length inner)
            (omega (arith, la, one, li)),
        below_top inner (some_steps [] of i joined) (length inner) (omega arith),
        below_top after
            (some_steps [] of a before) (length inner) (omega (arith, one, li)),
      )

  pub rules_lower : (rs : List PlainRule) (ss : List PlainStep) (hs : List ℕ) → Each (λ r. HasPlaces r.body ss) rs → AreLower ss
      → Each (λ h. h < length ss) hs
      → AreLower (rule_steps of rs ss hs).0 × Each (λ h. h < length (rule_steps of rs ss hs).0) (rule_steps of rs ss hs).1
  rules_lower [] ss hs h low a = (low, a)
  rules_lower (r ∷ rs) ss hs h low a =
      let body = body_steps of r.body ss in
      let s = Head (top body) r.head in
      let more = body ++ s ∷ [] in
      let one : length more ≡ length body + 1 = length-append body (s ∷ []) in
      let le = longer r.body ss in
      let lt : top more < length more = below_top more (omega (arith, one)) (length more) (omega arith) in
      rules_lower rs more (hs ++ top more ∷ []) (raise more rs h.1 (omega (arith, one, le)))
      (lower_push body s (body_lower r.body ss h.0 low) (below_top body (some_steps [] of r.body ss) (length body) (omega arith)))
      (Each-append (λ h. h < length more) hs (top more ∷ []) (heads_raise more hs a (omega (arith, one, le))) (lt, tt))
    where
      raise : (more : List PlainStep) (rs : List PlainRule) → Each (λ r. HasPlaces r.body ss) rs → length ss ≤ length more
          → Each (λ r. HasPlaces r.body more) rs
      raise more [] b le = tt
      raise more (r ∷ rs) b le = ((λ n e. (let lt = b.0 n e in omega (arith, lt, le))), raise more rs b.1 le)

      heads_raise : (more : List PlainStep) (hs : List ℕ) → Each (λ h. h < length ss) hs → length ss ≤ length more
          → Each (λ h. h < length more) hs
      heads_raise more [] b le = tt
      heads_raise more (h ∷ hs) b le = (let lt = b.0 in omega (arith, lt, le), heads_raise more hs b.1 le)
