-- Which rows chains of three give: by partners that are looked for (blocks), and by which rows of the operands alone (near).
use Rattle.std.specs.Prelude.{ℕ, ◌≡◌, ◌+◌, ◌<◌, refl, Bool, true, false, cond, ◌&&◌, ◌||◌, nat_lt, nat_le, Option, Some, None, List, [], ◌∷◌, ◌++◌}
use Rattle.std.specs.List.{filter, flat_map, list_any}
use Rattle.std.specs.Ordering.{is_eq}
use Rattle.std.specs.Cmp.{tied_itself}
use Rattle.std.proofs.Common.{ap, sym, ◌∙◌, arith, inl, inr, ◌⊎◌}
use Rattle.std.proofs.lemmas.Bool.{true≢false, and_parts, or_left, or_right, or_cases}
use Rattle.std.proofs.lemmas.Bool.Decides.{nat_tests}
use Rattle.ordered_lists.specs.Lists.{some_of, Each}
use Rattle.ordered_lists.specs.Canon.{canon, has, Rising-canon, has-append, has-filter, has-canon, canon_one}
use Rattle.ordered_lists.specs.Members.{list_any-flat_map, list_any-canon}
use Rattle.event_model.specs.declared.operators.Edge.TheVariants.{Start, End}
use Rattle.event_model.specs.declared.operators.Op.TheVariants.{Seq}
use Rattle.interval_ops.specs.Operators.{range_at, range_from, range_before, in_range}
use Rattle.interval_ops.specs.declared.ranges.Range.{Range}
use Rattle.ev_bind.specs.Bindings.{Pair, Pairs, pair_cmp, exact_pairs, single, single_within, Within as Among, same_Bool}
use Rattle.ev_bind.specs.Projections.{same_pairs_decides}
use Rattle.ev_bind.specs.Rows.{row_cmp, exact_rows, same_rows}
use Rattle.ev_bind.specs.declared.rows.Row.{Row}
use Rattle.rule_ast.specs.Vars.{is_in}
use Rattle.pattern_meaning.specs.PatternRows.{spanned}
use Rattle.pattern_meaning.specs.RuleRows.{joined_rows}
use Rattle.step_meaning.specs.Chains.{from_to, chain, chains, chains_are}
use Rattle.row_changes.specs.Partners.{on_key, agree, is_listed, listed}
use Rattle.change_meaning.specs.Keys.{IsBoundOn}
use Rattle.change_meaning.specs.MinusVisits.{MinusView, ends_chain, goes_on, blocks}
use Rattle.change_meaning.proofs.KeyLaws.{Binds, agree_in, pair_value}
use Rattle.change_meaning.proofs.SpanLaws.{OnSpan}
use Rattle.change_meaning.proofs.Sums.{exact_edge}

-- ---- whether any passes

pub any_each : {A : Type 0} (P : A → Type 0) (p q : A → Bool) → ((x : A) → P x → p x ≡ q x) → (xs : List A) → Each P xs
    → list_any p xs ≡ list_any q xs
any_each P p q h [] a = refl
any_each P p q h (x ∷ xs) a = λ i. h x a.0 i || any_each P p q h xs a.1 i

pub any_filter : {A : Type 0} (p q : A → Bool) (xs : List A) → list_any p (filter q xs) ≡ list_any (λ x. q x && p x) xs
any_filter p q [] = refl
any_filter p q (x ∷ xs) = at (q x) (any_filter p q xs)
  where
    at : (b : Bool) → list_any p (filter q xs) ≡ list_any (λ x. q x && p x) xs
        → list_any p (cond b (x ∷ filter q xs) (filter q xs)) ≡ ((b && p x) || list_any (λ x. q x && p x) xs)
    at true i = ap (λ c. p x || c) i
    at false i = i

pub any_and : {A : Type 0} (b : Bool) (p : A → Bool) (xs : List A) → (b && list_any p xs) ≡ list_any (λ x. b && p x) xs
any_and true p xs = refl
any_and false p [] = refl
any_and false p (x ∷ xs) = any_and false p xs

-- of the rows that are looked at
any_listed : (key : List ℕ) (range : Range) (b : Pairs) (p : Row → Bool) (xs : List Row)
    → list_any p (listed key range b xs) ≡ list_any (λ x. is_listed key range b x && p x) xs
any_listed key range b p xs =
    list_any-canon (exact_edge range.edge) p (filter (is_listed key range b) xs) ∙ any_filter p (is_listed key range b) xs

-- ---- rows

-- a row of an operand of a Minus
pub record IsPart (slots : List ℕ) (r : Row) : Type 0 where
  pub span : OnSpan r
  pub bound : IsBoundOn slots r

-- what a chain gives
pub chain_has : Row → Row → Row → Row → Bool
chain_has r x y z = has row_cmp r (some_of (chain x y z))

-- whether a chain of any of these gives the row
pub any_chain : Row → (before inner after : List Row) → Bool
any_chain r before inner after = list_any (λ x. list_any (λ y. list_any (chain_has r x y) after) inner) before

pub has_chains : (r : Row) (before inner after : List Row)
    → has row_cmp r (joined_rows Seq (joined_rows Seq before inner) after) ≡ any_chain r before inner after
unfolding any_chain chain_has
has_chains r before inner after =
    let here : Row → Bool = λ q. is_eq (row_cmp r q) in
    ap (has row_cmp r) (chains_are before inner after)
    ∙ has-canon exact_rows r (chains before inner after)
    ∙ list_any-flat_map here (λ x. flat_map (λ y. flat_map (λ z. some_of (chain x y z)) after) inner) before
    ∙ any_same (λ x. list_any-flat_map here (λ y. flat_map (λ z. some_of (chain x y z)) after) inner
    ∙ any_same (λ y. list_any-flat_map here (λ z. some_of (chain x y z)) after) inner) before
  where
    any_same : {A : Type 0} {p q : A → Bool} → ((x : A) → p x ≡ q x) → (xs : List A) → list_any p xs ≡ list_any q xs
    any_same h [] = refl
    any_same h (x ∷ xs) = λ i. h x i || any_same h xs i

-- three rows whose chain gives r
pub record Chained (r x y z : Row) : Type 0 where
  pub first : x.span.end < y.span.start
  pub second : y.span.end < z.span.start
  pub start : r.span.start ≡ x.span.start
  pub end : r.span.end ≡ z.span.end
  pub one : single ((x.binding ++ y.binding) ++ z.binding) ≡ true
  pub is : r.binding ≡ canon pair_cmp ((x.binding ++ y.binding) ++ z.binding)

chained_is : (r x y z : Row) → chain_has r x y z ≡ true → Chained r x y z
unfolding chain_has
chained_is r x y z e =
    at (nat_lt x.span.end y.span.start) refl (nat_lt y.span.end z.span.start) refl (single ((x.binding ++ y.binding) ++ z.binding)) refl e
  where
    all : Pairs
    all = (x.binding ++ y.binding) ++ z.binding

    at : (a : Bool) → nat_lt x.span.end y.span.start ≡ a → (b : Bool) → nat_lt y.span.end z.span.start ≡ b → (c : Bool)
        → single ((x.binding ++ y.binding) ++ z.binding) ≡ c
        → has row_cmp r (some_of (cond (a && b) (spanned (Some (from_to x z))
        (cond c (Some (canon pair_cmp ((x.binding ++ y.binding) ++ z.binding))) None)) None)) ≡ true
        → Chained r x y z
    at true p true q true s h =
        let given : Row = record { binding = canon pair_cmp ((x.binding ++ y.binding) ++ z.binding); span = from_to x z } in
        let same : r ≡ given = same_rows r given (or_first (is_eq (row_cmp r given)) h) in
        record {
          first = (let lt : x.span.end < y.span.start = grind (arith, nat_tests) in lt);
          second = (let lt : y.span.end < z.span.start = grind (arith, nat_tests) in lt);
          start = ap (λ (t : Row). t.span.start) same;
          end = ap (λ (t : Row). t.span.end) same;
          one = s;
          is = ap (λ (t : Row). t.binding) same;
        }
      where
        or_first : (b : Bool) → (b || false) ≡ true → b ≡ true
        or_first true h = refl
        or_first false h = h
    at true p true q false s h = absurd (true≢false (sym h))
    at true p false q c s h = absurd (true≢false (sym h))
    at false p b q c s h = absurd (true≢false (sym h))

chained_has : (r x y z : Row) → Chained r x y z → chain_has r x y z ≡ true
unfolding chain_has
chained_has r x y z c =
    let first : nat_lt x.span.end y.span.start ≡ true = grind (arith, nat_tests, c.first) in
    let second : nat_lt y.span.end z.span.start ≡ true = grind (arith, nat_tests, c.second) in
    let given : Row = record { binding = canon pair_cmp ((x.binding ++ y.binding) ++ z.binding); span = from_to x z } in
    let same : r ≡ given = λ i. record { binding = c.is i; span = record { start = c.start i; end = c.end i } } in
    (λ i. has row_cmp r (some_of (cond (first i && second i) (spanned (Some (from_to x z))
    (cond (c.one i) (Some (canon pair_cmp ((x.binding ++ y.binding) ++ z.binding))) None)) None)))
    ∙ or_left (is_eq (row_cmp r given)) false (ap is_eq (ap (row_cmp r) (sym same) ∙ tied_itself exact_rows.total r))

module _ (r x y z : Row) (c : Chained r x y z) where
  has_all : (q : Pair) → has pair_cmp q ((x.binding ++ y.binding) ++ z.binding) ≡ true → has pair_cmp q r.binding ≡ true
  has_all q e = ap (has pair_cmp q) c.is ∙ has-canon exact_pairs q ((x.binding ++ y.binding) ++ z.binding) ∙ e

  among_first : Among exact_pairs x.binding r.binding
  among_first q e =
      has_all q (has-append exact_pairs q (x.binding ++ y.binding) z.binding
      ∙ or_left (has pair_cmp q (x.binding ++ y.binding)) (has pair_cmp q z.binding)
      (has-append exact_pairs q x.binding y.binding ∙ or_left (has pair_cmp q x.binding) (has pair_cmp q y.binding) e))

  among_second : Among exact_pairs y.binding r.binding
  among_second q e =
      has_all q (has-append exact_pairs q (x.binding ++ y.binding) z.binding
      ∙ or_left (has pair_cmp q (x.binding ++ y.binding)) (has pair_cmp q z.binding)
      (has-append exact_pairs q x.binding y.binding ∙ or_right (has pair_cmp q x.binding) (has pair_cmp q y.binding) e))

  among_third : Among exact_pairs z.binding r.binding
  among_third q e =
      has_all q (has-append exact_pairs q (x.binding ++ y.binding) z.binding
      ∙ or_right (has pair_cmp q (x.binding ++ y.binding)) (has pair_cmp q z.binding) e)

-- ---- which rows of the operands can be parts of a chain that gives r

abbrev pub near_before : List ℕ → Row → Row → Bool
near_before key r x = nat_le x.span.end r.span.end && is_listed key (range_at Start x.span.start) x.binding r

abbrev pub near_inner : List ℕ → Row → Row → Bool
near_inner key r y = nat_le y.span.end r.span.end && is_listed key (range_before Start 0 y.span.start) y.binding r

abbrev pub near_after : List ℕ → Row → Row → Bool
near_after key r z = nat_le z.span.end r.span.end && is_listed key (range_at End z.span.end) z.binding r

-- ---- the operands of a Minus

-- the slots of its operands: those of joined are those of before and after, and have those of inner
pub record AreLimits (joined before inner after : List ℕ) : Type 0 where
  pub has_before : (s : ℕ) → is_in s before ≡ true → is_in s joined ≡ true
  pub has_inner : (s : ℕ) → is_in s inner ≡ true → is_in s joined ≡ true
  pub has_after : (s : ℕ) → is_in s after ≡ true → is_in s joined ≡ true
  pub in_limits : (s : ℕ) → is_in s joined ≡ true → (is_in s before ≡ true) ⊎ (is_in s after ≡ true)

module _ (sj sb si sa : List ℕ) (limits : AreLimits sj sb si sa) (r : Row) (joined : IsPart sj r) where
  bound_self : (slots : List ℕ) (x : Row) → IsPart slots x → Binds slots x.binding
  bound_self slots x p s e = p.bound.exact s ∙ e

  bound_joined : (slots : List ℕ) → ((s : ℕ) → is_in s slots ≡ true → is_in s sj ≡ true) → Binds slots r.binding
  bound_joined slots h s e = joined.bound.exact s ∙ h s e

  itself : Among exact_pairs r.binding r.binding
  itself q e = e

  -- a part of a chain that gives r has its values
  part_agrees : (slots : List ℕ) → ((s : ℕ) → is_in s slots ≡ true → is_in s sj ≡ true) → (x : Row) → IsPart slots x
      → Among exact_pairs x.binding r.binding
      → (agree slots x.binding r.binding ≡ true) × (agree slots r.binding x.binding ≡ true)
  part_agrees slots h x p w = (
    agree_in slots r.binding joined.bound.binding.one_value x.binding r.binding p.bound.binding joined.bound.binding w itself
        (bound_self slots x p) (bound_joined slots h),
    agree_in slots r.binding joined.bound.binding.one_value r.binding x.binding joined.bound.binding p.bound.binding itself w
        (bound_joined slots h) (bound_self slots x p),
  )

  -- ---- near

  module _ (x y z : Row) (px : IsPart sb x) (py : IsPart si y) (pz : IsPart sa z) (h : chain_has r x y z ≡ true) where
    c : Chained r x y z
    c = chained_is r x y z h

    is_near_before : near_before sb r x ≡ true
    is_near_before =
        let agrees = (part_agrees sb limits.has_before x px (among_first r x y z c)).0 in
        let ends : nat_le x.span.end r.span.end ≡ true = grind (arith, nat_tests, c.first, c.second, c.end, py.span.0, pz.span.0) in
        let lies : in_range (range_at Start x.span.start) r.span ≡ true = grind (arith, nat_tests, c.start) in
        λ i. ends i && (agrees i && lies i)

    is_near_inner : near_inner si r y ≡ true
    is_near_inner =
        let agrees = (part_agrees si limits.has_inner y py (among_second r x y z c)).0 in
        let ends : nat_le y.span.end r.span.end ≡ true = grind (arith, nat_tests, c.second, c.end, pz.span.0) in
        let lies : in_range (range_before Start 0 y.span.start) r.span ≡ true = grind (arith, nat_tests, c.start, c.first, px.span.0) in
        λ i. ends i && (agrees i && lies i)

    is_near_after : near_after sa r z ≡ true
    is_near_after =
        let agrees = (part_agrees sa limits.has_after z pz (among_third r x y z c)).0 in
        let ends : nat_le z.span.end r.span.end ≡ true = grind (arith, nat_tests, c.end) in
        let lies : in_range (range_at End z.span.end) r.span ≡ true = grind (arith, nat_tests, c.end) in
        λ i. ends i && (agrees i && lies i)

  and_none : (a b : Bool) → (b ≡ true → a ≡ true) → b ≡ (a && b)
  and_none true b h = refl
  and_none false true h = sym (h refl)
  and_none false false h = refl

  -- chains that give r are made of what is near it
  pub chains_near : (before inner after : List Row) → Each (IsPart sb) before → Each (IsPart si) inner → Each (IsPart sa) after
      → any_chain r before inner after ≡ any_chain r (filter (near_before sb r) before) (filter (near_inner si r) inner) (filter (near_after sa r) after)
  unfolding any_chain
  chains_near before inner after pb pi pa =
      any_each (IsPart sb) _ _ (λ x px.
      any_each (IsPart si) _ _ (λ y py.
      any_each (IsPart sa) _ _ (λ z pz. three (near_before sb r x) (near_inner si r y) (near_after sa r z) (chain_has r x y z)
      (is_near_before x y z px py pz) (is_near_inner x y z px py pz) (is_near_after x y z px py pz)) after pa
      ∙ sym (any_and (near_before sb r x) (λ z. near_inner si r y && (near_after sa r z && chain_has r x y z)) after)
      ∙ ap (λ b. near_before sb r x && b) (sym (any_and (near_inner si r y) (λ z. near_after sa r z && chain_has r x y z) after)
      ∙ ap (λ b. near_inner si r y && b) (sym (any_filter (chain_has r x y) (near_after sa r) after)))) inner pi
      ∙ sym (any_and (near_before sb r x) (λ y. near_inner si r y && list_any (chain_has r x y) (filter (near_after sa r) after)) inner)
      ∙ ap (λ b. near_before sb r x && b)
      (sym (any_filter (λ y. list_any (chain_has r x y) (filter (near_after sa r) after)) (near_inner si r) inner))) before pb
      ∙ sym (any_filter (λ x. list_any (λ y. list_any (chain_has r x y) (filter (near_after sa r) after)) (filter (near_inner si r) inner))
      (near_before sb r) before)
    where
      three : (a b d t : Bool) → (t ≡ true → a ≡ true) → (t ≡ true → b ≡ true) → (t ≡ true → d ≡ true) → t ≡ (a && (b && (d && t)))
      three true true true t f g h = refl
      three true true false true f g h = sym (h refl)
      three true true false false f g h = refl
      three true false d true f g h = sym (g refl)
      three true false d false f g h = refl
      three false b d true f g h = sym (f refl)
      three false b d false f g h = refl

  -- ---- blocks

  -- the three tests by which blocks looks for a chain
  looked : Row → Row → Row → Bool
  looked x y z =
      is_listed sb (range_at Start r.span.start) r.binding x
      && (is_listed si (range_from Start (x.span.end + 1)) r.binding y
      && (is_listed sa (range_at End r.span.end) r.binding z && nat_lt y.span.end z.span.start))

  -- a pair of a part is one of r, where both have the same values
  part_in : (slots : List ℕ) (x : Row) → IsPart slots x → agree slots r.binding x.binding ≡ true → Among exact_pairs x.binding r.binding
  part_in slots x p e q h =
      let same : on_key slots r.binding ≡ on_key slots x.binding = (same_pairs_decides (on_key slots r.binding) (on_key slots x.binding)).0 e in
      let inside : is_in q.0 slots ≡ true = sym (p.bound.exact q.0) ∙ pair_value x.binding q h in
      (and_parts (is_in q.0 slots) (has pair_cmp q r.binding)
      (sym (has-filter exact_pairs (λ p. is_in p.0 slots) q r.binding) ∙ ap (has pair_cmp q) same
      ∙ has-filter exact_pairs (λ p. is_in p.0 slots) q x.binding ∙ (λ i. inside i && h i))).1

  -- and a pair of r at a slot of the part is one of the part
  in_part : (slots : List ℕ) (x : Row) → agree slots r.binding x.binding ≡ true → (q : Pair) → is_in q.0 slots ≡ true
      → has pair_cmp q r.binding ≡ true → has pair_cmp q x.binding ≡ true
  in_part slots x e q inside h =
      let same : on_key slots r.binding ≡ on_key slots x.binding = (same_pairs_decides (on_key slots r.binding) (on_key slots x.binding)).0 e in
      (and_parts (is_in q.0 slots) (has pair_cmp q x.binding)
      (sym (has-filter exact_pairs (λ p. is_in p.0 slots) q x.binding) ∙ sym (ap (has pair_cmp q) same)
      ∙ has-filter exact_pairs (λ p. is_in p.0 slots) q r.binding ∙ (λ i. inside i && h i))).1

  module _ (x y z : Row) (px : IsPart sb x) (py : IsPart si y) (pz : IsPart sa z) where
    found : looked x y z ≡ true → chain_has r x y z ≡ true
    unfolding looked
    found h =
        let first = and_parts (is_listed sb (range_at Start r.span.start) r.binding x) _ h in
        let rest = and_parts (is_listed si (range_from Start (x.span.end + 1)) r.binding y) _ first.1 in
        let last = and_parts (is_listed sa (range_at End r.span.end) r.binding z) (nat_lt y.span.end z.span.start) rest.1 in
        let bx = and_parts (agree sb r.binding x.binding) (in_range (range_at Start r.span.start) x.span) first.0 in
        let by = and_parts (agree si r.binding y.binding) (in_range (range_from Start (x.span.end + 1)) y.span) rest.0 in
        let bz = and_parts (agree sa r.binding z.binding) (in_range (range_at End r.span.end) z.span) last.0 in
        let all : Pairs = (x.binding ++ y.binding) ++ z.binding in
        let wx : Among exact_pairs x.binding r.binding = part_in sb x px bx.0 in
        let wy : Among exact_pairs y.binding r.binding = part_in si y py by.0 in
        let wz : Among exact_pairs z.binding r.binding = part_in sa z pz bz.0 in
        let inside : Among exact_pairs all r.binding = λ q e. within q wx wy wz e in
        chained_has r x y z (record {
          first = (let lt : x.span.end < y.span.start = grind (arith, nat_tests, by.1) in lt);
          second = (let lt : y.span.end < z.span.start = grind (arith, nat_tests, last.1) in lt);
          start = (let eq : r.span.start ≡ x.span.start = grind (arith, nat_tests, bx.1) in eq);
          end = (let eq : r.span.end ≡ z.span.end = grind (arith, nat_tests, bz.1) in eq);
          one = single_within r.binding all inside joined.bound.binding.one_value;
          is = canon_one exact_pairs r.binding (canon pair_cmp all) joined.bound.binding.rising (Rising-canon exact_pairs all)
              (λ q. same_Bool (has pair_cmp q r.binding) (has pair_cmp q (canon pair_cmp all))
              (λ e. has-canon exact_pairs q all ∙ whole q bx.0 bz.0 e) (λ e. inside q (sym (has-canon exact_pairs q all) ∙ e)));
        })
      where
        within : (q : Pair) → Among exact_pairs x.binding r.binding → Among exact_pairs y.binding r.binding
            → Among exact_pairs z.binding r.binding → has pair_cmp q ((x.binding ++ y.binding) ++ z.binding) ≡ true
            → has pair_cmp q r.binding ≡ true
        within q wx wy wz e =
            third (or_cases (has pair_cmp q (x.binding ++ y.binding)) (has pair_cmp q z.binding)
            (sym (has-append exact_pairs q (x.binding ++ y.binding) z.binding) ∙ e))
          where
            second : (has pair_cmp q x.binding ≡ true) ⊎ (has pair_cmp q y.binding ≡ true) → has pair_cmp q r.binding ≡ true
            second (inl d) = wx q d
            second (inr d) = wy q d

            third : (has pair_cmp q (x.binding ++ y.binding) ≡ true) ⊎ (has pair_cmp q z.binding ≡ true) → has pair_cmp q r.binding ≡ true
            third (inl d) =
                second (or_cases (has pair_cmp q x.binding) (has pair_cmp q y.binding) (sym (has-append exact_pairs q x.binding y.binding) ∙ d))
            third (inr d) = wz q d

        whole : (q : Pair) → agree sb r.binding x.binding ≡ true → agree sa r.binding z.binding ≡ true → has pair_cmp q r.binding ≡ true
            → has pair_cmp q ((x.binding ++ y.binding) ++ z.binding) ≡ true
        whole q ex ez e = at (limits.in_limits q.0 (sym (joined.bound.exact q.0) ∙ pair_value r.binding q e))
          where
            at : (is_in q.0 sb ≡ true) ⊎ (is_in q.0 sa ≡ true) → has pair_cmp q ((x.binding ++ y.binding) ++ z.binding) ≡ true
            at (inl d) =
                has-append exact_pairs q (x.binding ++ y.binding) z.binding
                ∙ or_left (has pair_cmp q (x.binding ++ y.binding)) (has pair_cmp q z.binding)
                (has-append exact_pairs q x.binding y.binding
                ∙ or_left (has pair_cmp q x.binding) (has pair_cmp q y.binding) (in_part sb x ex q d e))
            at (inr d) =
                has-append exact_pairs q (x.binding ++ y.binding) z.binding
                ∙ or_right (has pair_cmp q (x.binding ++ y.binding)) (has pair_cmp q z.binding) (in_part sa z ez q d e)

    sought : chain_has r x y z ≡ true → looked x y z ≡ true
    unfolding looked
    sought h =
        let c = chained_is r x y z h in
        let ax = (part_agrees sb limits.has_before x px (among_first r x y z c)).1 in
        let ay = (part_agrees si limits.has_inner y py (among_second r x y z c)).1 in
        let az = (part_agrees sa limits.has_after z pz (among_third r x y z c)).1 in
        let rx : in_range (range_at Start r.span.start) x.span ≡ true = grind (arith, nat_tests, c.start) in
        let ry : in_range (range_from Start (x.span.end + 1)) y.span ≡ true =
        grind (arith, nat_tests, c.first, py.span.0, py.span.1) in
        let rz : in_range (range_at End r.span.end) z.span ≡ true = grind (arith, nat_tests, c.end) in
        let lt : nat_lt y.span.end z.span.start ≡ true = grind (arith, nat_tests, c.second) in
        λ i. (ax i && rx i) && ((ay i && ry i) && ((az i && rz i) && lt i))

    looked_is : looked x y z ≡ chain_has r x y z
    looked_is = same_Bool (looked x y z) (chain_has r x y z) found sought

  -- a row is blocked exactly where a chain gives it
  pub blocks_are : (cap : Option ℕ) (rows before inner after : List Row) → Each (IsPart sb) before → Each (IsPart si) inner
      → Each (IsPart sa) after
      → blocks (record { cap = cap; joined = rows; before = before; inner = inner; after = after; before_key = sb; inner_key = si; after_key = sa }) r
      ≡ any_chain r before inner after
  unfolding any_chain looked
  blocks_are cap rows before inner after pb pi pa =
      let v : MinusView = record { cap = cap; joined = rows; before = before; inner = inner; after = after; before_key = sb; inner_key = si; after_key = sa } in
      let lx = is_listed sb (range_at Start r.span.start) r.binding in
      let ly = λ (x : Row). is_listed si (range_from Start (x.span.end + 1)) r.binding in
      let lz = is_listed sa (range_at End r.span.end) r.binding in
      any_listed sb (range_at Start r.span.start) r.binding (goes_on v r) before
      ∙ any_each (IsPart sb) (λ x. lx x && goes_on v r x) _ (λ x px.
      ap (λ b. lx x && b) (any_listed si (range_from Start (x.span.end + 1)) r.binding (ends_chain v r) inner)
      ∙ any_and (lx x) (λ y. ly x y && ends_chain v r y) inner
      ∙ any_each (IsPart si) (λ y. lx x && (ly x y && ends_chain v r y)) _ (λ y py.
      ap (λ b. lx x && (ly x y && b)) (any_listed sa (range_at End r.span.end) r.binding (λ z. nat_lt y.span.end z.span.start) after)
      ∙ ap (λ b. lx x && b) (any_and (ly x y) (λ z. lz z && nat_lt y.span.end z.span.start) after)
      ∙ any_and (lx x) (λ z. ly x y && (lz z && nat_lt y.span.end z.span.start)) after
      ∙ any_each (IsPart sa) (λ z. looked x y z) (chain_has r x y) (λ z pz. looked_is x y z px py pz) after pa) inner pi) before pb
