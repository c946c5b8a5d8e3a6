-- Which joined rows of a Minus can change, and that its tests tell of each what comes and what goes.
use Rattle.std.specs.Prelude.{ℕ, ◌≡◌, ◌+◌, ◌<◌, ◌≤◌, ◌==◌, refl, Bool, true, false, cond, not, ◌&&◌, ◌||◌, nat_lt, nat_le, if◌then◌else◌, Option, Some, None, List, [], ◌∷◌, ◌++◌, map}
use Rattle.std.specs.List.{filter, flat_map}
use Rattle.std.specs.Ordering.{is_eq}
use Rattle.std.specs.Cmp.{tied_itself}
use Rattle.std.specs.declared.cmp.Ordering.{Ordering}
use Rattle.std.specs.declared.cmp.Ordering.TheVariants.{Less, Equal, Greater}
use Rattle.std.proofs.Common.{ap, sym, ◌∙◌, arith}
use Rattle.std.proofs.Math.Bool.{and-false}
use Rattle.std.proofs.lemmas.Bool.{true≢false, or_left, or_right}
use Rattle.std.proofs.lemmas.Bool.Decides.{nat_tests}
use Rattle.std.proofs.lemmas.Grind.{flat_map-append}
use Rattle.ordered_lists.specs.Lists.{total, Each, Each-filter}
use Rattle.ordered_lists.specs.Canon.{canon, has, Rising, Each-canon, Rising-filter, has-canon, has-filter, canon_one}
use Rattle.ordered_lists.specs.Members.{has-without, Each_has}
use Rattle.event_model.specs.declared.operators.Op.TheVariants.{Seq}
use Rattle.event_changes.specs.declared.changes.Sign.{Sign}
use Rattle.event_changes.specs.declared.changes.Sign.TheVariants.{Plus, Minus}
use Rattle.event_model.specs.declared.operators.Edge.TheVariants.{Start}
use Rattle.interval_ops.specs.Operators.{empty_range, in_range}
use Rattle.interval_ops.specs.declared.ranges.Range.{Range}
use Rattle.ev_bind.specs.Bindings.{Pairs}
use Rattle.ev_bind.specs.Rows.{row_cmp, exact_rows}
use Rattle.ev_bind.specs.declared.rows.Row.{Row}
use Rattle.pattern_meaning.specs.RuleRows.{joined_rows}
use Rattle.pattern_meaning.proofs.Eachs.{each}
use Rattle.step_meaning.specs.StepRows.{times}
use Rattle.row_changes.specs.Changes.{changed, SignedRow, signed_row, deltas}
use Rattle.row_changes.specs.Partners.{agree, edge_cmp, is_listed, listed}
use Rattle.row_changes.specs.Visits.{Visit, same_sign, hits, tally, signed}
use Rattle.change_meaning.specs.Caps.{fits, fitting}
use Rattle.change_meaning.specs.MinusVisits.{MinusView, blocks, verdict, own_verdict, TestTask, joined_task, inner_task, before_task, after_task, test, own_test, tested_rows, tests_at, minus_visits, turned}
use Rattle.change_meaning.specs.Moved.{moved_of, minus_rows}
use Rattle.change_meaning.proofs.ChainLaws.{IsPart, AreLimits, any_chain, has_chains, chains_near, near_before, near_inner, near_after, blocks_are}
use Rattle.change_meaning.proofs.Distinct.{above_lacks}
use Rattle.change_meaning.proofs.Balance.{total-map}
use Rattle.change_meaning.proofs.Sums.{total_each, total_none, exact_edge, same_has, sign_of, has_changed, unchanged, moved_rises, has_moved, tally-append, tally-map, tally-flat_map, hits_fitting}

-- ---- lists of rows

pub each_has : (xs : List Row) → Each (λ x. has row_cmp x xs ≡ true) xs
each_has [] = tt
each_has (x ∷ xs) = (or_left (is_eq (row_cmp x x)) (has row_cmp x xs) (ap is_eq (tied_itself exact_rows.total x)), more xs (each_has xs))
  where
    more : (zs : List Row) → Each (λ z. has row_cmp z xs ≡ true) zs → Each (λ z. has row_cmp z (x ∷ xs) ≡ true) zs
    more [] a = tt
    more (z ∷ zs) a = (or_right (is_eq (row_cmp z x)) (has row_cmp z xs) a.0, more zs a.1)

-- a member of a sum that is 0 adds 0
zero_member : (f : Row → ℕ) (q : Row) (xs : List Row) → total f xs ≡ 0 → has row_cmp q xs ≡ true → f q ≡ 0
zero_member f q [] h e = absurd (true≢false (sym e))
zero_member f q (x ∷ xs) h e = at (row_cmp q x) refl e (zero_member f q xs)
  where
    at : (c : Ordering) → row_cmp q x ≡ c → (is_eq c || has row_cmp q xs) ≡ true → (total f xs ≡ 0 → has row_cmp q xs ≡ true → f q ≡ 0)
        → f q ≡ 0
    at Less d k more = more (omega (arith, h)) k
    at Greater d k more = more (omega (arith, h)) k
    at Equal d k more = let zero : f x ≡ 0 = omega (arith, h) in ap f (exact_rows.same q x d) ∙ zero

-- a row stands once in a list in order
pub times_rising : (r : Row) (xs : List Row) → Rising row_cmp xs → times r xs ≡ (if has row_cmp r xs then 1 else 0)
times_rising r [] u = refl
times_rising r (x ∷ xs) u = at (row_cmp r x) refl (times_rising r xs u.1)
  where
    at : (c : Ordering) → row_cmp r x ≡ c → times r xs ≡ (if has row_cmp r xs then 1 else 0)
        → cond (is_eq c) 1 0 + times r xs ≡ (if is_eq c || has row_cmp r xs then 1 else 0)
    at Less e i = omega (arith, i)
    at Greater e i = omega (arith, i)
    at Equal e i =
        let none : has row_cmp r xs ≡ false =
        ap (λ q. has row_cmp q xs) (exact_rows.same r x e) ∙ above_lacks exact_rows x xs u.0 in
        let zero : times r xs ≡ 0 = i ∙ ap (λ b. if b then 1 else 0) none in
        omega (arith, zero)

-- a row is looked at where it passes and is there
has_listed : (key : List ℕ) (range : Range) (b : Pairs) (r : Row) (xs : List Row)
    → has row_cmp r (listed key range b xs) ≡ (is_listed key range b r && has row_cmp r xs)
has_listed key range b r xs =
    let s = exact_edge range.edge in
    same_has exact_rows s r (listed key range b xs)
    ∙ has-canon s r (filter (is_listed key range b) xs)
    ∙ sym (same_has exact_rows s r (filter (is_listed key range b) xs))
    ∙ has-filter exact_rows (is_listed key range b) r xs

-- where no changed row is near, what is near is the same
near_same : (near : Row → Bool) (xs ys : List Row) → Rising row_cmp xs → Rising row_cmp ys
    → ((q : Row) → has row_cmp q (changed xs ys) ≡ true → near q ≡ false) → filter near xs ≡ filter near ys
near_same near xs ys u v h =
    canon_one exact_rows _ _ (Rising-filter exact_rows near xs u) (Rising-filter exact_rows near ys v)
    (λ q. has-filter exact_rows near q xs ∙ at q (near q) refl (has row_cmp q (changed xs ys)) refl ∙ sym (has-filter exact_rows near q ys))
  where
    at : (q : Row) (t : Bool) → near q ≡ t → (c : Bool) → has row_cmp q (changed xs ys) ≡ c → (t && has row_cmp q xs) ≡ (t && has row_cmp q ys)
    at q false e c k = refl
    at q true e false k = unchanged xs ys q k
    at q true e true k = absurd (true≢false (sym e ∙ h q k))

-- ---- what a test tells

module _ (s : Sign) (r : Row) (cap : Option ℕ) where
  -- of another row it tells nothing
  other_row : (sign : Sign) (x : Row) → is_eq (row_cmp r x) ≡ false → hits s r (signed sign (fitting cap (Some x))) ≡ 0
  other_row sign x e =
      hits_fitting s sign r cap (Some x)
      ∙ ap (λ b. if same_sign s sign then cond (fits cap r) (cond b 1 0 + 0) 0 else 0) e ∙ at (same_sign s sign) (fits cap r)
    where
      at : (b c : Bool) → ◌≡◌ {A = ℕ} (if b then cond c (0 + 0) 0 else 0) 0
      at true true = refl
      at true false = refl
      at false c = refl

  own_row : (sign : Sign) → hits s r (signed sign (fitting cap (Some r))) ≡ (if same_sign s sign then cond (fits cap r) 1 0 else 0)
  own_row sign =
      hits_fitting s sign r cap (Some r)
      ∙ ap (λ c. if same_sign s sign then cond (fits cap r) (cond (is_eq c) 1 0 + 0) 0 else 0) (tied_itself exact_rows.total r)

-- ---- from tests to what comes and goes

abbrev sign_when : Bool → Sign
sign_when b = if b then Plus else Minus

-- the Minus had the row or not (old), and has it or not (new); tests told only the right sign, and of rows that fit
settle : (s : Sign) (p m count : ℕ) (fit old new : Bool)
    → ((same_sign Plus (sign_when new) && fit) ≡ false → p ≡ 0)
    → ((same_sign Minus (sign_when new) && fit) ≡ false → m ≡ 0)
    → (fit ≡ true → p + m ≡ 0 → old ≡ new)
    → (fit ≡ true → 0 < p + m → nat_lt 0 count ≡ old)
    → turned s p m count ≡ cond fit (if same_sign s (sign_when new) && ((new && not old) || (old && not new)) then 1 else 0) 0
settle s p m count fit old new no_plus no_minus same counted = by s
  where
    none : (n : ℕ) → nat_lt 0 n ≡ false → n ≡ 0
    none n e = grind (arith, nat_tests, e)

    no : (n : ℕ) → n ≡ 0 → nat_lt 0 n ≡ false
    no n e = grind (arith, nat_tests, e)

    zero_test : (count == 0) ≡ not (nat_lt 0 count)
    zero_test = grind (arith, nat_tests)

    plus_when : (fit && new) ≡ false → nat_lt 0 p ≡ false
    plus_when e = no p (no_plus (by new fit e))
      where
        by : (w f : Bool) → (f && w) ≡ false → (same_sign Plus (sign_when w) && f) ≡ false
        by true true e = e
        by true false e = refl
        by false f e = refl

    minus_when : (fit && not new) ≡ false → nat_lt 0 m ≡ false
    minus_when e = no m (no_minus (by new fit e))
      where
        by : (w f : Bool) → (f && not w) ≡ false → (same_sign Minus (sign_when w) && f) ≡ false
        by true f e = refl
        by false true e = e
        by false false e = refl

    unmet : fit ≡ true → nat_lt 0 p ≡ false → nat_lt 0 m ≡ false → old ≡ new
    unmet e a b = same e (let z : p + m ≡ 0 = omega (arith, none p a, none m b) in z)

    met_plus : fit ≡ true → nat_lt 0 p ≡ true → nat_lt 0 count ≡ old
    met_plus e a = counted e (let z : 0 < p + m = grind (arith, nat_tests, a) in z)

    met_minus : fit ≡ true → nat_lt 0 m ≡ true → nat_lt 0 count ≡ old
    met_minus e a = counted e (let z : 0 < p + m = grind (arith, nat_tests, a) in z)

    plus : (f : Bool) → fit ≡ f → (w : Bool) → new ≡ w → (o : Bool) → old ≡ o → (tp : Bool) → nat_lt 0 p ≡ tp
        → (tp && not (nat_lt 0 count)) ≡ (f && (w && not o))
    plus false e w d o g true h = absurd (true≢false (sym h ∙ plus_when (ap (λ b. b && new) e)))
    plus false e w d o g false h = refl
    plus true e false d o g true h = absurd (true≢false (sym h ∙ plus_when ((λ i. e i && d i))))
    plus true e false d o g false h = refl
    plus true e true d o g true h = ap not (met_plus e h ∙ g)
    plus true e true d true g false h = refl
    plus true e true d false g false h =
        absurd (true≢false (sym d ∙ sym (unmet e h (minus_when (λ i. e i && not (d i)))) ∙ g))

    minus : (f : Bool) → fit ≡ f → (w : Bool) → new ≡ w → (o : Bool) → old ≡ o → (tm : Bool) → nat_lt 0 m ≡ tm
        → (tm && nat_lt 0 count) ≡ (f && (not w && o))
    minus false e w d o g true h = absurd (true≢false (sym h ∙ minus_when (ap (λ b. b && not new) e)))
    minus false e w d o g false h = refl
    minus true e true d o g true h = absurd (true≢false (sym h ∙ minus_when (λ i. e i && not (d i))))
    minus true e true d o g false h = refl
    minus true e false d o g true h = met_minus e h ∙ g
    minus true e false d false g false h = refl
    minus true e false d true g false h =
        absurd (true≢false (sym g ∙ unmet e (plus_when (λ i. e i && d i)) h ∙ d))

    comes : (f w o : Bool) → ◌≡◌ {A = ℕ} (if f && (w && not o) then 1 else 0)
        (cond f (if same_sign Plus (sign_when w) && ((w && not o) || (o && not w)) then 1 else 0) 0)
    comes true true true = refl
    comes true true false = refl
    comes true false o = refl
    comes false w o = refl

    goes : (f w o : Bool) → ◌≡◌ {A = ℕ} (if f && (not w && o) then 1 else 0)
        (cond f (if same_sign Minus (sign_when w) && ((w && not o) || (o && not w)) then 1 else 0) 0)
    goes true true o = refl
    goes true false true = refl
    goes true false false = refl
    goes false w o = refl

    by : (s : Sign) → turned s p m count
        ≡ cond fit (if same_sign s (sign_when new) && ((new && not old) || (old && not new)) then 1 else 0) 0
    by Plus =
        ap (λ t. if t then 1 else 0)
        (ap (λ t. nat_lt 0 p && t) zero_test ∙ plus fit refl new refl old refl (nat_lt 0 p) refl) ∙ comes fit new old
    by Minus = ap (λ t. if t then 1 else 0) (minus fit refl new refl old refl (nat_lt 0 m) refl) ∙ goes fit new old

-- the rows of an operand before and after
pub record Side (slots : List ℕ) : Type 0 where
  pub old : List Row
  pub new : List Row
  pub old_rises : Rising row_cmp old
  pub new_rises : Rising row_cmp new
  pub old_parts : Each (IsPart slots) old
  pub new_parts : Each (IsPart slots) new

module _ (sj sb si sa : List ℕ) (limits : AreLimits sj sb si sa) (j : Side sj) (b : Side sb) (i : Side si) (a : Side sa) where
  abbrev pub old_rows : List Row
  old_rows = minus_rows j.old b.old i.old a.old

  abbrev pub new_rows : List Row
  new_rows = minus_rows j.new b.new i.new a.new

  -- no changed row of an operand is near the row
  pub record IsUntouched (r : Row) : Type 0 where
    pub joined : has row_cmp r (changed j.old j.new) ≡ false
    pub before : has row_cmp r j.new ≡ true → (q : Row) → has row_cmp q (changed b.old b.new) ≡ true → near_before sb r q ≡ false
    pub inner : has row_cmp r j.new ≡ true → (q : Row) → has row_cmp q (changed i.old i.new) ≡ true → near_inner si r q ≡ false
    pub after : has row_cmp r j.new ≡ true → (q : Row) → has row_cmp q (changed a.old a.new) ≡ true → near_after sa r q ≡ false

  has_rows : (r : Row) (xs ys zs ws : List Row)
      → has row_cmp r (minus_rows xs ys zs ws) ≡ (has row_cmp r xs && not (any_chain r ys zs ws))
  has_rows r xs ys zs ws =
      has-without exact_rows r xs (joined_rows Seq (joined_rows Seq ys zs) ws)
      ∙ ap (λ b. has row_cmp r xs && not b) (has_chains r ys zs ws)

  -- such a row is in the Minus as before
  pub untouched : (r : Row) → IsUntouched r → has row_cmp r old_rows ≡ has row_cmp r new_rows
  untouched r u =
      has_rows r j.old b.old i.old a.old
      ∙ at (has row_cmp r j.new) refl (unchanged j.old j.new r u.joined)
      ∙ sym (has_rows r j.new b.new i.new a.new)
    where
      at : (t : Bool) → has row_cmp r j.new ≡ t → has row_cmp r j.old ≡ has row_cmp r j.new
          → (has row_cmp r j.old && not (any_chain r b.old i.old a.old)) ≡ (has row_cmp r j.new && not (any_chain r b.new i.new a.new))
      at false e same = (λ k. (same ∙ e) k && not (any_chain r b.old i.old a.old)) ∙ sym (λ k. e k && not (any_chain r b.new i.new a.new))
      at true e same =
          let p : IsPart sj r = Each_has exact_rows (IsPart sj) r j.new j.new_parts e in
          let chains : any_chain r b.old i.old a.old ≡ any_chain r b.new i.new a.new =
          chains_near sj sb si sa limits r p b.old i.old a.old b.old_parts i.old_parts a.old_parts
          ∙ (λ k. any_chain r (near_same (near_before sb r) b.old b.new b.old_rises b.new_rises (u.before e) k)
          (near_same (near_inner si r) i.old i.new i.old_rises i.new_rises (u.inner e) k)
          (near_same (near_after sa r) a.old a.new a.old_rises a.new_rises (u.after e) k))
          ∙ sym (chains_near sj sb si sa limits r p b.new i.new a.new b.new_parts i.new_parts a.new_parts) in
          λ k. same k && not (chains k)

  module _ (cap : Option ℕ) where
    abbrev pub view : MinusView
    view = record {
      cap = cap;
      joined = j.new;
      before = b.new;
      inner = i.new;
      after = a.new;
      before_key = sb;
      inner_key = si;
      after_key = sa;
    }

    abbrev pub all_visits : List Visit
    all_visits = minus_visits view (deltas j.old j.new) (deltas i.old i.new) (deltas b.old b.new) (deltas a.old a.new)

    -- the test of a joined row tells whether the Minus has it
    tells : (r : Row) → has row_cmp r j.new ≡ true → not (blocks view r) ≡ has row_cmp r new_rows
    tells r e =
        let p : IsPart sj r = Each_has exact_rows (IsPart sj) r j.new j.new_parts e in
        ap not (blocks_are sj sb si sa limits r p cap j.new b.new i.new a.new b.new_parts i.new_parts a.new_parts)
        ∙ sym (ap (λ t. t && not (any_chain r b.new i.new a.new)) e)
        ∙ sym (has_rows r j.new b.new i.new a.new)

    -- the sign that tests tell of a row
    abbrev pub told : Row → Sign
    told r = if has row_cmp r new_rows then Plus else Minus

    told_joined : (r : Row) → has row_cmp r j.new ≡ true → (if blocks view r then Minus else Plus) ≡ told r
    told_joined r e = at (blocks view r) (has row_cmp r new_rows) (tells r e)
      where
        at : (t h : Bool) → not t ≡ h → (if t then Minus else Plus) ≡ (if h then Plus else Minus)
        at true true k = absurd (true≢false (sym k))
        at true false k = refl
        at false true k = refl
        at false false k = absurd (true≢false k)

    told_gone : (r : Row) → has row_cmp r j.new ≡ false → told r ≡ Minus
    told_gone r e =
        ap (λ t. if t then Plus else Minus)
        (has_rows r j.new b.new i.new a.new ∙ ap (λ t. t && not (any_chain r b.new i.new a.new)) e)

    -- the test of a row tells of the row, where it fits, and of no other
    verdict_hits : (s : Sign) (r x : Row) → has row_cmp x j.new ≡ true
        → hits s r (verdict view x) ≡ (if is_eq (row_cmp r x) then (if same_sign s (told r) then cond (fits cap r) 1 0 else 0) else 0)
    verdict_hits s r x e = at (row_cmp r x) refl
      where
        at : (c : Ordering) → row_cmp r x ≡ c
            → hits s r (verdict view x) ≡ (if is_eq c then (if same_sign s (told r) then cond (fits cap r) 1 0 else 0) else 0)
        at Less d = other_row s r cap (if blocks view x then Minus else Plus) x (ap is_eq d)
        at Greater d = other_row s r cap (if blocks view x then Minus else Plus) x (ap is_eq d)
        at Equal d =
            let same : r ≡ x = exact_rows.same r x d in
            let there : has row_cmp r j.new ≡ true = ap (λ z. has row_cmp z j.new) same ∙ e in
            ap (λ z. hits s r (verdict view z)) (sym same)
            ∙ own_row s r cap (if blocks view r then Minus else Plus)
            ∙ ap (λ sign. if same_sign s sign then cond (fits cap r) 1 0 else 0) (told_joined r there)

    own_hits : (s : Sign) (r x : Row)
        → hits s r (own_verdict view (sign_of j.new x) x)
        ≡ (if is_eq (row_cmp r x) then (if same_sign s (told r) then cond (fits cap r) 1 0 else 0) else 0)
    own_hits s r x = at (has row_cmp x j.new) refl
      where
        gone : has row_cmp x j.new ≡ false → (c : Ordering) → row_cmp r x ≡ c
            → hits s r (signed Minus (fitting cap (Some x)))
            ≡ (if is_eq c then (if same_sign s (told r) then cond (fits cap r) 1 0 else 0) else 0)
        gone e Less d = other_row s r cap Minus x (ap is_eq d)
        gone e Greater d = other_row s r cap Minus x (ap is_eq d)
        gone e Equal d =
            let same : r ≡ x = exact_rows.same r x d in
            let none : has row_cmp r j.new ≡ false = ap (λ z. has row_cmp z j.new) same ∙ e in
            ap (λ z. hits s r (signed Minus (fitting cap (Some z)))) (sym same)
            ∙ own_row s r cap Minus
            ∙ ap (λ sign. if same_sign s sign then cond (fits cap r) 1 0 else 0) (sym (told_gone r none))

        at : (t : Bool) → has row_cmp x j.new ≡ t
            → hits s r (own_verdict view (if t then Plus else Minus) x)
            ≡ (if is_eq (row_cmp r x) then (if same_sign s (told r) then cond (fits cap r) 1 0 else 0) else 0)
        at true e = verdict_hits s r x e
        at false e = gone e (row_cmp r x) refl

    -- ---- all tests

    -- the tests for the changed rows of an operand
    abbrev of_rows : (SignedRow → TestTask) → (xs ys : List Row) → List Visit
    of_rows task xs ys = flat_map (tests_at view) (map task (deltas xs ys))

    tally_all : (s : Sign) (r : Row) → tally s r all_visits
        ≡ tally s r (of_rows joined_task j.old j.new) + (tally s r (of_rows (inner_task view) i.old i.new)
        + (tally s r (of_rows (before_task view) b.old b.new) + tally s r (of_rows (after_task view) a.old a.new)))
    tally_all s r =
        let tj = map joined_task (deltas j.old j.new) in
        let ti = map (inner_task view) (deltas i.old i.new) in
        let tb = map (before_task view) (deltas b.old b.new) in
        let ta = map (after_task view) (deltas a.old a.new) in
        let f = tests_at view in
        ap (tally s r) (flat_map-append f tj (ti ++ (tb ++ ta))) ∙ tally-append s r (flat_map f tj) (flat_map f (ti ++ (tb ++ ta)))
        ∙ ap (λ n. tally s r (flat_map f tj) + n)
        (ap (tally s r) (flat_map-append f ti (tb ++ ta)) ∙ tally-append s r (flat_map f ti) (flat_map f (tb ++ ta))
        ∙ ap (λ n. tally s r (flat_map f ti) + n)
        (ap (tally s r) (flat_map-append f tb ta) ∙ tally-append s r (flat_map f tb) (flat_map f ta)))

    tally_rows : (s : Sign) (r : Row) (task : SignedRow → TestTask) (xs ys : List Row)
        → tally s r (of_rows task xs ys) ≡ total (λ x. tally s r (tests_at view (task (signed_row ys x)))) (changed xs ys)
    tally_rows s r task xs ys =
        tally-flat_map s r (tests_at view) (map task (deltas xs ys))
        ∙ total-map (λ t. tally s r (tests_at view t)) task (deltas xs ys)
        ∙ total-map (λ d. tally s r (tests_at view (task d))) (signed_row ys) (changed xs ys)

    in_joined : (t : TestTask) → Each (λ x. has row_cmp x j.new ≡ true) (tested_rows view t)
    in_joined t =
        Each-canon (edge_cmp t.range.edge) (λ x. has row_cmp x j.new ≡ true) (filter (is_listed t.key t.range t.row.binding) j.new)
        (Each-filter (λ x. has row_cmp x j.new ≡ true) (is_listed t.key t.range t.row.binding) j.new (each_has j.new))

    -- where no test tells anything of a row, all tests tell nothing
    module _ (s : Sign) (r : Row) where
      tests_quiet : (t : TestTask) → hits s r (own_test view t) ≡ 0
          → ((x : Row) → has row_cmp x j.new ≡ true → hits s r (test view t.row x) ≡ 0) → tally s r (tests_at view t) ≡ 0
      tests_quiet t own h =
          let rest : tally s r (map (test view t.row) (tested_rows view t)) ≡ 0 =
          tally-map s r (test view t.row) (tested_rows view t)
          ∙ total_each (λ x. has row_cmp x j.new ≡ true) (λ x. hits s r (test view t.row x)) (λ x. 0) h (tested_rows view t) (in_joined t)
          ∙ total_none (tested_rows view t) in
          omega (arith, own, rest)

      rows_quiet : (P : Row → Type 0) (task : SignedRow → TestTask) (xs ys : List Row) → Each P (changed xs ys)
          → ((x : Row) → P x → tally s r (tests_at view (task (signed_row ys x))) ≡ 0) → tally s r (of_rows task xs ys) ≡ 0
      rows_quiet P task xs ys a h =
          tally_rows s r task xs ys
          ∙ total_each P (λ x. tally s r (tests_at view (task (signed_row ys x)))) (λ x. 0) h (changed xs ys) a
          ∙ total_none (changed xs ys)

      all_quiet : (P : Row → Type 0) → Each P (changed j.old j.new) → Each P (changed i.old i.new) → Each P (changed b.old b.new)
          → Each P (changed a.old a.new) → ((x : Row) → P x → hits s r (own_verdict view (sign_of j.new x) x) ≡ 0)
          → ((q x : Row) → P q → has row_cmp x j.new ≡ true → hits s r (test view q x) ≡ 0)
          → tally s r all_visits ≡ 0
      all_quiet P pj pi pb pa own h =
          let qj = rows_quiet P joined_task j.old j.new pj (λ x px. no_list x (own x px)) in
          let qi = rows_quiet P (inner_task view) i.old i.new pi
          (λ x px. tests_quiet (inner_task view (signed_row i.new x)) refl (λ y e. h x y px e)) in
          let qb = rows_quiet P (before_task view) b.old b.new pb
          (λ x px. tests_quiet (before_task view (signed_row b.new x)) refl (λ y e. h x y px e)) in
          let qa = rows_quiet P (after_task view) a.old a.new pa
          (λ x px. tests_quiet (after_task view (signed_row a.new x)) refl (λ y e. h x y px e)) in
          omega (arith, tally_all s r, qj, qi, qb, qa)
        where
          -- a joined row looks at no other
          no_list : (x : Row) → hits s r (own_verdict view (sign_of j.new x) x) ≡ 0
              → tally s r (tests_at view (joined_task (signed_row j.new x))) ≡ 0
          no_list x e =
              let t = joined_task (signed_row j.new x) in
              let none : tested_rows view t ≡ [] = ap (canon (edge_cmp t.range.edge)) (nothing j.new) in
              let rest : tally s r (map (test view t.row) (tested_rows view t)) ≡ 0 = ap (λ l. tally s r (map (test view t.row) l)) none in
              omega (arith, e, rest)
            where
              nothing : (xs : List Row) → filter (is_listed [] (empty_range Start) x.binding) xs ≡ []
              nothing [] = refl
              nothing (y ∷ xs) =
                  let off : in_range (empty_range Start) y.span ≡ false = grind (arith, nat_tests) in
                  let no : is_listed [] (empty_range Start) x.binding y ≡ false =
                  ap (λ b. agree [] x.binding y.binding && b) off ∙ and-false (agree [] x.binding y.binding) in
                  ap (λ b. cond b (y ∷ filter (is_listed [] (empty_range Start) x.binding) xs)
                  (filter (is_listed [] (empty_range Start) x.binding) xs)) no ∙ nothing xs

    test_hits : (s : Sign) (r q x : Row) → has row_cmp x j.new ≡ true → hits s r (test view q x)
        ≡ (if nat_le q.span.end x.span.end then hits s r (verdict view x) else 0)
    test_hits s r q x e = at (nat_le q.span.end x.span.end)
      where
        at : (t : Bool) → hits s r (if t then verdict view x else None) ≡ (if t then hits s r (verdict view x) else 0)
        at true = refl
        at false = refl

    -- tests tell nothing but the sign told, of rows that fit
    untold : (s : Sign) (r : Row) → (same_sign s (told r) && fits cap r) ≡ false → tally s r all_visits ≡ 0
    untold s r e =
        let unit : (xs : List Row) → Each (λ _. Unit {0}) xs = each in
        all_quiet s r (λ _. Unit {0}) (unit _) (unit _) (unit _) (unit _)
        (λ x _. own_hits s r x ∙ zero (is_eq (row_cmp r x)))
        (λ q x _ h. test_hits s r q x h ∙ ap (λ n. if nat_le q.span.end x.span.end then n else 0) (verdict_hits s r x h ∙ zero (is_eq (row_cmp r x)))
        ∙ none (nat_le q.span.end x.span.end))
      where
        none : (b : Bool) → ◌≡◌ {A = ℕ} (if b then 0 else 0) 0
        none true = refl
        none false = refl

        zero : (b : Bool) → ◌≡◌ {A = ℕ} (if b then (if same_sign s (told r) then cond (fits cap r) 1 0 else 0) else 0) 0
        zero false = refl
        zero true = at (same_sign s (told r)) (fits cap r) e
          where
            at : (c d : Bool) → (c && d) ≡ false → ◌≡◌ {A = ℕ} (if c then cond d 1 0 else 0) 0
            at true true k = absurd (true≢false k)
            at true false k = refl
            at false d k = refl

    -- a row that ends before all changed rows is never tested
    pub untested_early : (bound : ℕ) → Each (λ x. bound ≤ x.span.end) (changed j.old j.new) → Each (λ x. bound ≤ x.span.end) (changed i.old i.new)
        → Each (λ x. bound ≤ x.span.end) (changed b.old b.new) → Each (λ x. bound ≤ x.span.end) (changed a.old a.new)
        → (s : Sign) (r : Row) → r.span.end < bound → tally s r all_visits ≡ 0
    untested_early bound pj pi pb pa s r lt =
        all_quiet s r (λ x. bound ≤ x.span.end) pj pi pb pa
        (λ x le. own_hits s r x ∙ ap (λ t. if t then (if same_sign s (told r) then cond (fits cap r) 1 0 else 0) else 0) (apart x le))
        (λ q x le h. test_hits s r q x h ∙ at q x le h (nat_le q.span.end x.span.end) refl)
      where
        apart : (x : Row) → bound ≤ x.span.end → is_eq (row_cmp r x) ≡ false
        apart x le = by (row_cmp r x) refl
          where
            by : (c : Ordering) → row_cmp r x ≡ c → is_eq c ≡ false
            by Less d = refl
            by Greater d = refl
            by Equal d =
                let same : r.span.end ≡ x.span.end = ap (λ (z : Row). z.span.end) (exact_rows.same r x d) in
                absurd (let k : ⊥ = omega (arith, same, le, lt) in k)

        at : (q x : Row) → bound ≤ q.span.end → has row_cmp x j.new ≡ true → (t : Bool) → nat_le q.span.end x.span.end ≡ t
            → (if t then hits s r (verdict view x) else 0) ≡ 0
        at q x le h false d = refl
        at q x le h true d =
            let more : bound ≤ x.span.end = grind (arith, nat_tests, d, le) in
            verdict_hits s r x h ∙ ap (λ t. if t then (if same_sign s (told r) then cond (fits cap r) 1 0 else 0) else 0) (apart x more)

    -- ---- what isn't tested isn't touched

    module _ (r : Row) (fit : fits cap r ≡ true) where
      -- how often the row was tested
      abbrev met : List Visit → ℕ
      met vs = tally Plus r vs + tally Minus r vs

      own_met : hits Plus r (own_verdict view (sign_of j.new r) r) + hits Minus r (own_verdict view (sign_of j.new r) r) ≡ 1
      own_met =
          (λ k. own_hits Plus r r k + own_hits Minus r r k)
          ∙ (λ k. (if is_eq (tied_itself exact_rows.total r k) then (if same_sign Plus (told r) then cond (fit k) 1 0 else 0) else 0)
          + (if is_eq (tied_itself exact_rows.total r k) then (if same_sign Minus (told r) then cond (fit k) 1 0 else 0) else 0))
          ∙ at (told r)
        where
          at : (sign : Sign) → ◌≡◌ {A = ℕ} ((if same_sign Plus sign then 1 else 0) + (if same_sign Minus sign then 1 else 0)) 1
          at Plus = refl
          at Minus = refl

      verdict_met : has row_cmp r j.new ≡ true → hits Plus r (verdict view r) + hits Minus r (verdict view r) ≡ 1
      verdict_met e =
          (λ k. verdict_hits Plus r r e k + verdict_hits Minus r r e k)
          ∙ (λ k. (if is_eq (tied_itself exact_rows.total r k) then (if same_sign Plus (told r) then cond (fit k) 1 0 else 0) else 0)
          + (if is_eq (tied_itself exact_rows.total r k) then (if same_sign Minus (told r) then cond (fit k) 1 0 else 0) else 0))
          ∙ at (told r)
        where
          at : (sign : Sign) → ◌≡◌ {A = ℕ} ((if same_sign Plus sign then 1 else 0) + (if same_sign Minus sign then 1 else 0)) 1
          at Plus = refl
          at Minus = refl

      -- of each changed row of an operand
      rows_met : (task : SignedRow → TestTask) (xs ys : List Row) → met (of_rows task xs ys) ≡ 0 → (q : Row) → has row_cmp q (changed xs ys) ≡ true
          → met (tests_at view (task (signed_row ys q))) ≡ 0
      rows_met task xs ys e q h =
          let plus : Row → ℕ = λ x. tally Plus r (tests_at view (task (signed_row ys x))) in
          let minus : Row → ℕ = λ x. tally Minus r (tests_at view (task (signed_row ys x))) in
          let p : plus q ≡ 0 = zero_member plus q (changed xs ys) (omega (arith, e, tally_rows Plus r task xs ys)) h in
          let m : minus q ≡ 0 = zero_member minus q (changed xs ys) (omega (arith, e, tally_rows Minus r task xs ys)) h in
          omega (arith, p, m)

      -- a joined row that is looked at and doesn't end before the changed row is tested
      looked_at : (t : TestTask) → met (tests_at view t) ≡ 0 → has row_cmp r j.new ≡ true
          → (nat_le t.row.span.end r.span.end && is_listed t.key t.range t.row.binding r) ≡ false
      looked_at t e there = at (nat_le t.row.span.end r.span.end) refl (is_listed t.key t.range t.row.binding r) refl
        where
          at : (c : Bool) → nat_le t.row.span.end r.span.end ≡ c → (d : Bool) → is_listed t.key t.range t.row.binding r ≡ d → (c && d) ≡ false
          at false g d k = refl
          at true g false k = refl
          at true g true k =
              let listed_too : has row_cmp r (tested_rows view t) ≡ true =
              has_listed t.key t.range t.row.binding r j.new ∙ (λ i. k i && there i) in
              let plus : Row → ℕ = λ x. hits Plus r (test view t.row x) in
              let minus : Row → ℕ = λ x. hits Minus r (test view t.row x) in
              let p : plus r ≡ 0 = zero_member plus r (tested_rows view t)
              (omega (arith, e, tally-map Plus r (test view t.row) (tested_rows view t))) listed_too in
              let m : minus r ≡ 0 = zero_member minus r (tested_rows view t)
              (omega (arith, e, tally-map Minus r (test view t.row) (tested_rows view t))) listed_too in
              let hp : hits Plus r (test view t.row r) ≡ hits Plus r (verdict view r) =
              test_hits Plus r t.row r there ∙ ap (λ b. if b then hits Plus r (verdict view r) else 0) g in
              let hm : hits Minus r (test view t.row r) ≡ hits Minus r (verdict view r) =
              test_hits Minus r t.row r there ∙ ap (λ b. if b then hits Minus r (verdict view r) else 0) g in
              absurd (let k : ⊥ = omega (arith, p, m, hp, hm, verdict_met there) in k)

      -- a row that no test told of is in the Minus as before
      pub covers : met all_visits ≡ 0 → has row_cmp r old_rows ≡ has row_cmp r new_rows
      covers e = untouched r (record {
        joined = own (has row_cmp r (changed j.old j.new)) refl;
        before = λ there q h. looked_at (before_task view (signed_row b.new q)) (rows_met (before_task view) b.old b.new parts.2 q h) there;
        inner = λ there q h. looked_at (inner_task view (signed_row i.new q)) (rows_met (inner_task view) i.old i.new parts.1 q h) there;
        after = λ there q h. looked_at (after_task view (signed_row a.new q)) (rows_met (after_task view) a.old a.new parts.3 q h) there;
      })
        where
          parts : (met (of_rows joined_task j.old j.new) ≡ 0) × (met (of_rows (inner_task view) i.old i.new) ≡ 0)
              × (met (of_rows (before_task view) b.old b.new) ≡ 0) × (met (of_rows (after_task view) a.old a.new) ≡ 0)
          parts = (
            omega (arith, e, tally_all Plus r, tally_all Minus r),
            omega (arith, e, tally_all Plus r, tally_all Minus r),
            omega (arith, e, tally_all Plus r, tally_all Minus r),
            omega (arith, e, tally_all Plus r, tally_all Minus r),
          )

          own : (c : Bool) → has row_cmp r (changed j.old j.new) ≡ c → c ≡ false
          own false g = refl
          own true g =
              let k : met (tests_at view (joined_task (signed_row j.new r))) ≡ 0 = rows_met joined_task j.old j.new parts.0 r g in
              absurd (let z : ⊥ = omega (arith, k, own_met) in z)

    -- ---- at the end

    -- What the tests leave of a row is what the Minus gives of it, where a row that was tested has a count exactly where the Minus had it.
    pub settles : (s : Sign) (r : Row) (count : ℕ)
        → (fits cap r ≡ true → 0 < tally Plus r all_visits + tally Minus r all_visits → nat_lt 0 count ≡ has row_cmp r old_rows)
        → turned s (tally Plus r all_visits) (tally Minus r all_visits) count
        ≡ cond (fits cap r) (times r (moved_of s old_rows new_rows)) 0
    settles s r count h =
        at (fits cap r) refl ∙ ap (λ n. cond (fits cap r) n 0) (sym (times_rising r (moved_of s old_rows new_rows)
        (moved_rises s old_rows new_rows (Rising-filter exact_rows _ j.old j.old_rises) (Rising-filter exact_rows _ j.new j.new_rises))
        ∙ ap (λ b. if b then 1 else 0) (has_moved s old_rows new_rows r ∙ ap (λ b. same_sign s (told r) && b) (has_changed old_rows new_rows r))))
      where
        at : (f : Bool) → fits cap r ≡ f
            → turned s (tally Plus r all_visits) (tally Minus r all_visits) count
            ≡ cond f (if same_sign s (told r)
            && ((has row_cmp r new_rows && not (has row_cmp r old_rows)) || (has row_cmp r old_rows && not (has row_cmp r new_rows)))
            then 1 else 0) 0
        at f e =
            settle s (tally Plus r all_visits) (tally Minus r all_visits) count f (has row_cmp r old_rows) (has row_cmp r new_rows)
            (λ q. untold Plus r (ap (λ b. same_sign Plus (told r) && b) e ∙ q))
            (λ q. untold Minus r (ap (λ b. same_sign Minus (told r) && b) e ∙ q))
            (λ t z. covers r (e ∙ t) z) (λ t z. h (e ∙ t) z)
