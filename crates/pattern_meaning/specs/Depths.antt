-- From its rank on, a name has the same rows at every depth.
use Rattle.std.specs.Prelude.{ℕ, zero, suc, ◌≡◌, ◌+◌, ◌≤◌, ◌==◌, refl, Bool, true, false, cond, ◌||◌, List, [], ◌∷◌, ◌++◌, map, length}
use Rattle.std.specs.List.{filter, flat_map}
use Rattle.std.specs.Str.{bytes_eq}
use Rattle.std.specs.Cmp.{tied_itself}
use Rattle.std.specs.Ordering.{is_eq}
use Rattle.std.specs.declared.cmp.Ordering.{Ordering}
use Rattle.std.specs.declared.cmp.Ordering.TheVariants.{Less, Equal, Greater}
use Rattle.std.proofs.Common.{ap, sym, ◌∙◌, arith, append-nil}
use Rattle.std.proofs.lemmas.Bool.{true≢false, eqb-true, and_parts}
use Rattle.std.proofs.lemmas.Slice.Eq.{bytes_eq-Decides}
use Rattle.ordered_lists.specs.Lists.{Each}
use Rattle.ordered_lists.specs.Canon.{has, has-append, canon_itself, Rising-canon}
use Rattle.event_model.specs.declared.events.Event.{Event}
use Rattle.event_model.specs.declared.atoms.NameArity.{NameArity}
use Rattle.ev_bind.specs.Rows.{exact_rows}
use Rattle.ev_bind.specs.declared.rows.Row.{Row}
use Rattle.rule_ast.specs.Trees.{PlainPattern, Atom, Both, Either, Where, Exact, Within, Not, PlainRule}
use Rattle.term_eval.specs.Values.{holds}
use Rattle.event_model.specs.EventOrder.{name_cmp, exact_names}
use Rattle.rule_check.specs.Names.{name_of_atom, head_name, head_names, body_names}
use Rattle.rule_check.specs.Graphs.{greatest}
use Rattle.rule_check.specs.Cycles.{below, IsRanking}
use Rattle.pattern_meaning.specs.PatternRows.{rows_of, matched, events_of, head_row}
use Rattle.pattern_meaning.specs.RuleRows.{joined_rows, is_long, is_short, remaining, rows, has_head, head_rows, named_rows}

pub or_left : (a b : Bool) → a ≡ true → (a || b) ≡ true
or_left true b e = refl
or_left false b e = absurd (true≢false (sym e))

pub or_right : (a b : Bool) → b ≡ true → (a || b) ≡ true
or_right true b e = refl
or_right false b e = e

pub in_left : (m : NameArity) (xs ys : List NameArity) → has name_cmp m xs ≡ true → has name_cmp m (xs ++ ys) ≡ true
in_left m xs ys e = has-append exact_names m xs ys ∙ or_left (has name_cmp m xs) (has name_cmp m ys) e

pub in_right : (m : NameArity) (xs ys : List NameArity) → has name_cmp m ys ≡ true → has name_cmp m (xs ++ ys) ≡ true
in_right m xs ys e = has-append exact_names m xs ys ∙ or_right (has name_cmp m xs) (has name_cmp m ys) e

pub ties_itself : (n : NameArity) → is_eq (name_cmp n n) ≡ true
ties_itself n = ap is_eq (tied_itself exact_names.total n)

-- what the names of a pattern have
abbrev Agree : (NameArity → List Row) → (NameArity → List Row) → PlainPattern → Type 0
Agree N M p = (m : NameArity) → has name_cmp m (body_names p) ≡ true → N m ≡ M m

-- the rows of a pattern depend on those of its names alone
pub rows_same : (N M : NameArity → List Row) (p : PlainPattern) → Agree N M p → rows N p ≡ rows M p
rows_same N M (Atom a) h =
    let n = name_of_atom a in
    ap (λ l. rows_of (flat_map (matched a) l)) (h n (or_left (is_eq (name_cmp n n)) false (ties_itself n)))
rows_same N M (Both op l r) h =
    let left = rows_same N M l (λ m e. h m (in_left m (body_names l) (body_names r) e)) in
    let right = rows_same N M r (λ m e. h m (in_right m (body_names l) (body_names r) e)) in
    λ i. joined_rows op (left i) (right i)
rows_same N M (Either l r) h =
    let left = rows_same N M l (λ m e. h m (in_left m (body_names l) (body_names r) e)) in
    let right = rows_same N M r (λ m e. h m (in_right m (body_names l) (body_names r) e)) in
    λ i. rows_of (left i ++ right i)
rows_same N M (Where p c) h = ap (λ l. rows_of (filter (λ r. holds c r.binding) l)) (rows_same N M p h)
rows_same N M (Exact p q) h = ap (λ l. rows_of (filter (is_long q) l)) (rows_same N M p h)
rows_same N M (Within p q) h = ap (λ l. rows_of (filter (is_short q) l)) (rows_same N M p h)
rows_same N M (Not i b a) h =
    let edges = body_names b ++ body_names a in
    let inner = rows_same N M i (λ m e. h m (in_left m (body_names i) edges e)) in
    let before = rows_same N M b (λ m e. h m (in_right m (body_names i) edges (in_left m (body_names b) (body_names a) e))) in
    let after = rows_same N M a (λ m e. h m (in_right m (body_names i) edges (in_right m (body_names b) (body_names a) e))) in
    λ j. remaining (before j) (inner j) (after j)

heads_same : (N M : NameArity → List Row) (rs : List PlainRule) → Each (λ r. Agree N M r.body) rs
    → flat_map (head_rows N) rs ≡ flat_map (head_rows M) rs
heads_same N M [] a = refl
heads_same N M (r ∷ rs) a = λ i. rows_of (map (head_row r.head) (rows_same N M r.body a.0 i)) ++ heads_same N M rs a.1 i

-- the head's name and its order
pub head_ties : (n : NameArity) (r : PlainRule) → has_head n r ≡ true → is_eq (name_cmp n (head_name r)) ≡ true
head_ties n r e =
    let parts = and_parts (bytes_eq n.name r.head.name) (n.arity == length r.head.args) e in
    let names = (bytes_eq-Decides n.name r.head.name).0 parts.0 in
    let arities = eqb-true n.arity (length r.head.args) parts.1 in
    let same : n ≡ head_name r = λ i. record { name = names i; arity = arities i } in
    ap (λ m. is_eq (name_cmp m (head_name r))) same ∙ ties_itself (head_name r)

-- each of its names has it
abbrev Body : (NameArity → Type 0) → PlainRule → Type 0
Body P r = (m : NameArity) → has name_cmp m (body_names r.body) ≡ true → P m

-- what holds of the names below a name holds of those in the bodies of its rules
pub bodies_below : (P : NameArity → Type 0) (n : NameArity) (rs : List PlainRule)
    → ((m : NameArity) → has name_cmp m (below rs n) ≡ true → P m)
    → Each (λ r. (m : NameArity) → has name_cmp m (body_names r.body) ≡ true → P m) (filter (has_head n) rs)
bodies_below P n [] h = tt
bodies_below P n (r ∷ rs) h = at (has_head n r) refl (bodies_below P n rs (λ m e. h m (in_right m own (below rs n) e)))
  where
    own : List NameArity
    own = cond (is_eq (name_cmp n (head_name r))) (body_names r.body) []

    at : (b : Bool) → has_head n r ≡ b → Each (Body P) (filter (has_head n) rs)
        → Each (Body P) (cond b (r ∷ filter (has_head n) rs) (filter (has_head n) rs))
    at true e more =
        let mine = λ (m : NameArity). ap (λ b. has name_cmp m (cond b (body_names r.body) [])) (head_ties n r e) in
        ((λ m g. h m (in_left m own (below rs n) (mine m ∙ g))), more)
    at false e more = more

-- a name that heads no rule
no_heads : (n : NameArity) (rs : List PlainRule) → has name_cmp n (head_names rs) ≡ false → filter (has_head n) rs ≡ []
no_heads n [] h = refl
no_heads n (r ∷ rs) h = at (has_head n r) refl (is_eq (name_cmp n (head_name r))) refl h (no_heads n rs)
  where
    at : (b : Bool) → has_head n r ≡ b → (c : Bool) → is_eq (name_cmp n (head_name r)) ≡ c
        → (c || has name_cmp n (head_names rs)) ≡ false
        → (has name_cmp n (head_names rs) ≡ false → filter (has_head n) rs ≡ [])
        → cond b (r ∷ filter (has_head n) rs) (filter (has_head n) rs) ≡ []
    at true e true g k more = absurd (true≢false k)
    at false e true g k more = absurd (true≢false k)
    at true e false g k more = absurd (true≢false (sym (head_ties n r e) ∙ g))
    at false e false g k more = more k

pub greatest_of : (rank : NameArity → ℕ) (m : NameArity) (xs : List NameArity) → has name_cmp m xs ≡ true → rank m ≤ greatest (map rank xs)
greatest_of rank m [] e = absurd (true≢false (sym e))
greatest_of rank m (x ∷ xs) e = at (name_cmp m x) refl e (greatest_of rank m xs)
  where
    at : (c : Ordering) → name_cmp m x ≡ c → (is_eq c || has name_cmp m xs) ≡ true
        → (has name_cmp m xs ≡ true → rank m ≤ greatest (map rank xs)) → rank m ≤ greatest (map rank (x ∷ xs))
    at Less d g rest = let more : rank m ≤ greatest (map rank xs) = rest g in omega (arith, more)
    at Equal d g rest = let same : rank m ≡ rank x = ap rank (exact_names.same m x d) in omega (arith, same)
    at Greater d g rest = let more : rank m ≤ greatest (map rank xs) = rest g in omega (arith, more)

-- no heads add nothing
none_more : (events : List Event) (n : NameArity) (l : List Row) → l ≡ []
    → rows_of (rows_of (events_of events n) ++ l) ≡ rows_of (events_of events n)
none_more events n l e =
    let own = rows_of (events_of events n) in
    ap (λ m. rows_of (own ++ m)) e
    ∙ ap rows_of (append-nil own)
    ∙ canon_itself exact_rows own (Rising-canon exact_rows (events_of events n))

module _ (rules : List PlainRule) (events : List Event) (rank : NameArity → ℕ) (ranking : IsRanking rules rank) where
  -- the rank of a name that heads a rule
  pub one_more : (n : NameArity) → has name_cmp n (head_names rules) ≡ true → rank n ≡ greatest (map rank (below rules n)) + 1
  one_more n e = ranking n ∙ ap (λ b. cond b (greatest (map rank (below rules n)) + 1) 0) e

  pub unranked : (n : NameArity) → rank n ≡ 0 → filter (has_head n) rules ≡ []
  unranked n z = no_heads n rules (at (has name_cmp n (head_names rules)) refl)
    where
      at : (b : Bool) → has name_cmp n (head_names rules) ≡ b → b ≡ false
      at false e = refl
      at true e = let r = one_more n e in absurd (omega (arith, r, z))

  -- the heads that a name has over the rows of all names at a depth
  abbrev heads : ℕ → NameArity → List Row
  heads k n = flat_map (head_rows (named_rows rules events k)) (filter (has_head n) rules)

  -- two depths that are at least the rank give the same rows
  pub named_same : (k j : ℕ) (n : NameArity) → rank n ≤ k → rank n ≤ j → named_rows rules events k n ≡ named_rows rules events j n
  named_same zero zero n h g = refl
  named_same zero (suc j) n h g = let z : rank n ≡ 0 = omega arith in sym (none_more events n _ (ap (flat_map _) (unranked n z)))
  named_same (suc k) zero n h g = let z : rank n ≡ 0 = omega arith in none_more events n _ (ap (flat_map _) (unranked n z))
  named_same (suc k) (suc j) n h g =
      ap (λ l. rows_of (rows_of (events_of events n) ++ l)) (at (has name_cmp n (head_names rules)) refl (named_same k j))
    where
      at : (b : Bool) → has name_cmp n (head_names rules) ≡ b
          → ((m : NameArity) → rank m ≤ k → rank m ≤ j → named_rows rules events k m ≡ named_rows rules events j m)
          → heads k n ≡ heads j n
      at false e lower = ap (flat_map _) (no_heads n rules e) ∙ sym (ap (flat_map _) (no_heads n rules e))
      at true e lower =
          let r = one_more n e in
          heads_same (named_rows rules events k) (named_rows rules events j) (filter (has_head n) rules)
          (bodies_below (λ m. named_rows rules events k m ≡ named_rows rules events j m) n rules
          (λ m d. let most = greatest_of rank m (below rules n) d in lower m (omega (arith, r, most, h)) (omega (arith, r, most, g))))
