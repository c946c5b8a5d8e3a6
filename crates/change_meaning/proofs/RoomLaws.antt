-- How many supports a row can have, where the operands have so few rows that each can have a number in 64 bits.
use Rattle.std.specs.Prelude.{ℕ, ◌≡◌, ◌+◌, ◌*◌, ◌<◌, ◌≤◌, ◌^◌, Bool, true, false, cond, not, Option, Some, None, List, [], ◌∷◌, ◌++◌, map, length}
use Rattle.std.specs.List.{filter, flat_map}
use Rattle.std.specs.Ordering.{is_eq}
use Rattle.std.proofs.Common.{arith, length-append}
use Rattle.std.proofs.lemmas.List.{length-map}
use Rattle.ordered_lists.specs.Lists.{some_of, joins, with_each, total-append}
use Rattle.ordered_lists.specs.Canon.{has, Rising, Rising-canon}
use Rattle.event_model.specs.Events.{span_of}
use Rattle.event_model.specs.declared.atoms.NameArity.{NameArity}
use Rattle.event_model.specs.declared.events.Event.{Event}
use Rattle.event_model.specs.declared.operators.Op.TheVariants.{Seq}
use Rattle.event_changes.specs.declared.changes.Sign.TheVariants as sign
use Rattle.event_changes.specs.declared.events.EventChange.{EventChange}
use Rattle.event_changes.specs.declared.events.EventChange.TheVariants.{Came, Went}
use Rattle.ev_bind.specs.Matching.{match_of_args}
use Rattle.ev_bind.specs.Rows.{row_cmp, exact_rows}
use Rattle.ev_bind.specs.declared.rows.Row.{Row}
use Rattle.rule_ast.specs.PlainPlans.{PlainStep, Named, Leaf, Join, Either, Where, Exact, Within, Minus, Head}
use Rattle.term_eval.specs.Values.{holds}
use Rattle.pattern_meaning.specs.PatternRows.{rows_of, spanned, matched, args_of, found, is_of, events_of, head_row}
use Rattle.pattern_meaning.specs.RuleRows.{joined, joined_rows, is_long, is_short}
use Rattle.step_meaning.specs.Operands.{IsLower}
use Rattle.step_meaning.specs.StepRows.{supports, times}
use Rattle.row_changes.specs.Changes.{fresh}
use Rattle.change_meaning.specs.Courses.{heads_of}
use Rattle.change_meaning.specs.Moved.{came_of, minus_rows, moved}
use Rattle.change_meaning.proofs.MinusLaws.{times_rising}

pub filter_len : {A : Type 0} (p : A → Bool) (xs : List A) → length (filter p xs) ≤ length xs
filter_len p [] = omega arith
filter_len p (x ∷ xs) = at (p x) (filter_len p xs)
  where
    at : (b : Bool) → length (filter p xs) ≤ length xs → length (cond b (x ∷ filter p xs) (filter p xs)) ≤ length (x ∷ xs)
    at true i = omega (arith, i)
    at false i = omega (arith, i)

pub flat_len : {A B : Type 0} (f : A → List B) → ((x : A) → length (f x) ≤ 1) → (xs : List A) → length (flat_map f xs) ≤ length xs
flat_len f h [] = omega arith
flat_len f h (x ∷ xs) =
    let i = flat_len f h xs in let e = length-append (f x) (flat_map f xs) in let k = h x in omega (arith, i, e, k)

pub some_len : {A : Type 0} (o : Option A) → length (some_of o) ≤ 1
some_len None = omega arith
some_len (Some x) = omega arith

pub times_len : (r : Row) (xs : List Row) → times r xs ≤ length xs
times_len r [] = omega arith
times_len r (x ∷ xs) = at (is_eq (row_cmp r x)) (times_len r xs)
  where
    at : (b : Bool) → times r xs ≤ length xs → cond b 1 0 + times r xs ≤ length (x ∷ xs)
    at true i = omega (arith, i)
    at false i = omega (arith, i)

rising_once : (r : Row) (xs : List Row) → Rising row_cmp xs → times r xs ≤ 1
rising_once r xs u = at (has row_cmp r xs) (times_rising r xs u)
  where
    at : (b : Bool) → times r xs ≡ cond b 1 0 → times r xs ≤ 1
    at true e = omega (arith, e)
    at false e = omega (arith, e)

users_once : (r : Row) (f : ℕ → List Row) → ((i : ℕ) → Rising row_cmp (f i)) → (hs : List ℕ) → times r (flat_map f hs) ≤ length hs
users_once r f u [] = omega arith
users_once r f u (h ∷ hs) =
    let one : Row → ℕ = λ x. cond (is_eq (row_cmp r x)) 1 0 in
    let t = total-append one (f h) (flat_map f hs) in
    let i = rising_once r (f h) (u h) in
    let k = users_once r f u hs in
    omega (arith, t, i, k)

came_len : (n : NameArity) (es : List EventChange) → length (events_of (came_of es) n) ≤ length es
came_len n es =
    let a = length-map (filter (λ e. is_of n e.atom) (came_of es)) (λ (e : Event). found e.atom.args (span_of e)) in
    let b = filter_len (λ (e : Event). is_of n e.atom) (came_of es) in
    let c = fewer es in
    omega (arith, a, b, c)
  where
    fewer : (es : List EventChange) → length (came_of es) ≤ length es
    fewer [] = omega arith
    fewer (Came e ∷ es) = let i = fewer es in omega (arith, i)
    fewer (Went e ∷ es) = let i = fewer es in omega (arith, i)

-- joins with two lists that have together at most so many rows
two_len : (j : Row → Row → Option Row) (xs ys zs : List Row) → length ys + length zs ≤ 18446744073709551615
    → length (joins j xs ys) + length (joins j xs zs) ≤ length xs * 18446744073709551615
two_len j [] ys zs h = omega arith
two_len j (x ∷ xs) ys zs h =
    let a = length-append (with_each j ys x) (joins j xs ys) in
    let b = length-append (with_each j zs x) (joins j xs zs) in
    let p = flat_len (λ y. some_of (j x y)) (λ y. some_len (j x y)) ys in
    let q = flat_len (λ y. some_of (j x y)) (λ y. some_len (j x y)) zs in
    let i = two_len j xs ys zs h in
    omega (arith, a, b, p, q, i, h)

-- each pair of rows that are seen before or after counts at most once
pairs_fit : (j : Row → Row → Option Row) (r : Row) (lb la rb ra : List Row) → length lb + length (fresh lb la) < 2 ^ 64
    → length rb + length (fresh rb ra) < 2 ^ 64 → length ra < 2 ^ 64
    → times r (joins j lb rb) + times r (joins j (fresh lb la) ra ++ joins j lb (fresh rb ra)) < 2 ^ 128
pairs_fit j r lb la rb ra h k l =
    let one : Row → ℕ = λ x. cond (is_eq (row_cmp r x)) 1 0 in
    let t = total-append one (joins j (fresh lb la) ra) (joins j lb (fresh rb ra)) in
    let x = times_len r (joins j lb rb) in
    let y = times_len r (joins j (fresh lb la) ra) in
    let z = times_len r (joins j lb (fresh rb ra)) in
    let m = two_len j lb rb (fresh rb ra) (omega (arith, k)) in
    let n = two_len j (fresh lb la) ra [] (omega (arith, l)) in
    omega (arith, t, x, y, z, m, n, h)

-- the lists of the operand j are short
abbrev pub IsShort : (b a : ℕ → List Row) → ℕ → Type 0
IsShort b a j = (length (b j) + length (fresh (b j) (a j)) < 2 ^ 64) × (length (a j) < 2 ^ 64)

module _ (E : List Event) (es : List EventChange) (b a : ℕ → List Row) (ub : (i : ℕ) → Rising row_cmp (b i))
    (uf : (i : ℕ) → Rising row_cmp (fresh (b i) (a i))) where
  passed : (p : Row → Bool) (of : ℕ) → IsShort b a of → (r : Row)
      → times r (filter p (b of)) + times r (filter p (fresh (b of) (a of))) < 2 ^ 128
  passed p of w r =
      let x = times_len r (filter p (b of)) in
      let y = filter_len p (b of) in
      let z = times_len r (filter p (fresh (b of) (a of))) in
      let u = filter_len p (fresh (b of) (a of)) in
      omega (arith, x, y, z, u, w.0)

  pub step_room : (s : PlainStep) (i : ℕ) → IsLower i s → length es < 2 ^ 64 → length (heads_of s) < 2 ^ 64
      → ((j : ℕ) → j < i → IsShort b a j) → (r : Row)
      → times r (supports E b s) + times r (moved sign.Plus (came_of es) b a s) < 2 ^ 128
  step_room (Named n heads) i low few hs short r =
      let one : Row → ℕ = λ x. cond (is_eq (row_cmp r x)) 1 0 in
      let p = rising_once r (rows_of (events_of E n)) (Rising-canon exact_rows (events_of E n)) in
      let q = users_once r b ub heads in
      let x = times_len r (events_of (came_of es) n) in
      let y = came_len n es in
      let z = users_once r (λ h. fresh (b h) (a h)) uf heads in
      let t = total-append one (rows_of (events_of E n)) (flat_map b heads) in
      let u = total-append one (events_of (came_of es) n) (flat_map (λ h. fresh (b h) (a h)) heads) in
      omega (arith, p, q, x, y, z, t, u, few, hs)
  step_room (Leaf of p) i low few hs short r =
      let w = short of low in
      let each : (x : Row) → length (matched p x) ≤ 1 = λ x. some_len (spanned (Some x.span) (match_of_args p.args (args_of x))) in
      let x = times_len r (flat_map (matched p) (b of)) in
      let y = flat_len (matched p) each (b of) in
      let z = times_len r (flat_map (matched p) (fresh (b of) (a of))) in
      let u = flat_len (matched p) each (fresh (b of) (a of)) in
      omega (arith, x, y, z, u, w.0)
  step_room (Join op l k) i low few hs short r =
      let w = short l low.0 in
      let v = short k low.1 in
      pairs_fit (joined op) r (b l) (a l) (b k) (a k) w.0 v.0 v.1
  step_room (Either l k) i low few hs short r =
      let one : Row → ℕ = λ x. cond (is_eq (row_cmp r x)) 1 0 in
      let w = short l low.0 in
      let v = short k low.1 in
      let t = total-append one (b l) (b k) in
      let u = total-append one (fresh (b l) (a l)) (fresh (b k) (a k)) in
      let p = times_len r (b l) in
      let q = times_len r (b k) in
      let x = times_len r (fresh (b l) (a l)) in
      let y = times_len r (fresh (b k) (a k)) in
      omega (arith, t, u, p, q, x, y, w.0, v.0)
  step_room (Where of c) i low few hs short r = passed (λ r. holds c r.binding) of (short of low) r
  step_room (Exact of q) i low few hs short r = passed (is_long q) of (short of low) r
  step_room (Within of q) i low few hs short r = passed (is_short q) of (short of low) r
  step_room (Minus j f n l) i low few hs short r =
      let w = short j low.0 in
      let old = minus_rows (b j) (b f) (b n) (b l) in
      let new = minus_rows (a j) (a f) (a n) (a l) in
      let x = times_len r old in
      let y = filter_len (λ r. not (has row_cmp r (joined_rows Seq (joined_rows Seq (b f) (b n)) (b l)))) (b j) in
      let z = times_len r (fresh old new) in
      let u = filter_len (λ r. not (has row_cmp r old)) new in
      let v = filter_len (λ r. not (has row_cmp r (joined_rows Seq (joined_rows Seq (a f) (a n)) (a l)))) (a j) in
      omega (arith, x, y, z, u, v, w.0, w.1)
  step_room (Head of head) i low few hs short r =
      let w = short of low in
      let x = times_len r (map (head_row head) (b of)) in
      let y = length-map (b of) (head_row head) in
      let z = times_len r (map (head_row head) (fresh (b of) (a of))) in
      let u = length-map (fresh (b of) (a of)) (head_row head) in
      omega (arith, x, y, z, u, w.0)
