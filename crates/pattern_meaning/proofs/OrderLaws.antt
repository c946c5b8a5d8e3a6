-- Rules that are evaluated once, each after those of the names in its body, find the rows of names.
use Rattle.std.proofs.Common.{◌≡◌, ◌≤◌, ◌<◌, ℕ, suc, Bool, true, false, cond, not, ◌&&◌, ◌||◌, ◌==◌, List, [], ◌∷◌, ◌++◌, map, length, refl, sym, ap, ◌∙◌, subst, eq-eqb, ne_eqb, append_assoc, append-nil, arith}
use Rattle.std.specs.List.{filter, flat_map}
use Rattle.std.specs.Str.{bytes_eq}
use Rattle.std.specs.Ordering.{is_eq, is_lt, nat_cmp, MatchOrdering}
use Rattle.std.specs.Cmp.{ranks}
use Rattle.std.specs.declared.cmp.Ordering.{Ordering}
use Rattle.std.specs.declared.cmp.Ordering.TheVariants.{Less, Equal, Greater}
use Rattle.std.proofs.lemmas.Bool.{true≢false, leb-true, le-leb}
use Rattle.std.specs.Prelude.{nat_le}
use Rattle.std.specs.List.{All}
use Rattle.std.specs.List.Sorted.{IsPermutation, IsNonDecreasingBy, IsStableByKey, ties}
use Rattle.std.proofs.lemmas.List.Sorted.{All-permutation}
use Rattle.std.proofs.lemmas.List.{map-append}
use Rattle.std.proofs.lemmas.List.Concat.{flat_map-append}
use Rattle.std.proofs.lemmas.List.Elements.{filter-append, All-nil, All-cons, All-head, All-tail}
use Rattle.std.proofs.lemmas.Slice.Eq.{bytes_eq-Decides}
use Rattle.ordered_lists.specs.Lists.{Each, Each-filter_passes, filter-filter, filter_agree_on}
use Rattle.ordered_lists.specs.Canon.{canon, has}
use Rattle.ordered_lists.specs.Members.{filter_agree, canon-append-canon, canon-append-canon_after}
use Rattle.event_model.specs.declared.events.Event.{Event}
use Rattle.event_model.specs.EventOrder.{name_cmp, detection_cmp, exact_detections, same_names}
use Rattle.event_model.specs.declared.atoms.NameArity.{NameArity}
use Rattle.event_model.specs.declared.events.Detection.{Detection}
use Rattle.ev_bind.specs.Rows.{exact_rows}
use Rattle.ev_bind.specs.declared.rows.Row.{Row}
use Rattle.rule_ast.specs.Trees.{PlainRule, PlainStatement}
use Rattle.rule_check.specs.Sound.{rules_of}
use Rattle.rule_check.specs.Names.{head_name, head_names, body_names, outputs}
use Rattle.rule_check.specs.Graphs.{greatest}
use Rattle.rule_check.specs.Cycles.{below, IsRanking, rank_of, rank_most}
use Rattle.pattern_meaning.specs.PatternRows.{rows_of, is_of, events_of, head_row}
use Rattle.pattern_meaning.specs.Standing.{detection_of, standing}
use Rattle.pattern_meaning.specs.RuleRows.{rows, has_head, head_rows, name_rows}
use Rattle.pattern_meaning.specs.Depths.{rows_same, named_same, head_ties, greatest_of, in_left, in_right, ties_itself, one_more}
use Rattle.pattern_meaning.specs.Found.{of_name, found_row, named_in, head_detection, as_detection, Words, named_by, with_one, with_all, rule_detections, with_rules, is_within, AreReady, IsOrdered}
use Rattle.pattern_meaning.specs.RuleOrder.{ranked_by}
use Rattle.pattern_meaning.specs.declared.rule_order.Ranked.{Ranked}
use Rattle.pattern_meaning.proofs.Eachs.{Each-more, Each-map}
use Rattle.pattern_meaning.proofs.FoundLaws.{events_are, heads_of, rows_in_both, named_detections, parts_alike}

-- ---- what is found is put behind what was found

abbrev of_word : List ℕ → List Detection → List Detection
of_word word ds = filter (λ d. bytes_eq d.atom.name word) ds

all_behind : (words : Words) (ds : List Detection) (word : List ℕ) → with_all words ds word ≡ words word ++ of_word word ds
all_behind words [] word = sym (append-nil (words word))
all_behind words (d ∷ ds) word = all_behind (with_one words d) ds word ∙ at (bytes_eq d.atom.name word)
  where
    at : (b : Bool) → cond b (words word ++ d ∷ []) (words word) ++ of_word word ds ≡ words word ++ cond b (d ∷ of_word word ds) (of_word word ds)
    at true = append_assoc (words word) (d ∷ []) (of_word word ds)
    at false = refl

-- a name's detections are of its word
name_in_word : (n : NameArity) (ds : List Detection) → of_name n (of_word n.name ds) ≡ of_name n ds
name_in_word n [] = refl
name_in_word n (d ∷ ds) = at (bytes_eq d.atom.name n.name) refl (name_in_word n ds)
  where
    at : (b : Bool) → bytes_eq d.atom.name n.name ≡ b → of_name n (of_word n.name ds) ≡ of_name n ds
        → of_name n (cond b (d ∷ of_word n.name ds) (of_word n.name ds)) ≡ cond (is_of n d.atom) (d ∷ of_name n ds) (of_name n ds)
    at true e h = λ i. cond (is_of n d.atom) (d ∷ h i) (h i)
    at false e h = h ∙ sym (ap (λ b. cond (b && (n.arity == length d.atom.args)) (d ∷ of_name n ds) (of_name n ds)) (differs (bytes_eq n.name d.atom.name) refl))
      where
        differs : (b : Bool) → bytes_eq n.name d.atom.name ≡ b → b ≡ false
        differs false g = refl
        differs true g = absurd (true≢false (sym ((bytes_eq-Decides d.atom.name n.name).1 (sym ((bytes_eq-Decides n.name d.atom.name).0 g))) ∙ e))

named_more : (words : Words) (ds : List Detection) (n : NameArity) → named_by (with_all words ds) n ≡ rows_of (named_by words n ++ map found_row (of_name n ds))
named_more words ds n =
    ap (λ l. named_in l n) (all_behind words ds n.name)
    ∙ ap rows_of (rows_in_both n (words n.name) (of_word n.name ds) ∙ ap (λ l. map found_row (of_name n (words n.name)) ++ map found_row l) (name_in_word n ds))
    ∙ sym (canon-append-canon exact_rows (map found_row (of_name n (words n.name))) (map found_row (of_name n ds)))

-- ---- rules that are ready

module _ (rules : List PlainRule) (events : List Event) (ranking : IsRanking rules (rank_of rules)) where
  abbrev full : NameArity → List Row
  full = name_rows rules events

  abbrev rank : NameArity → ℕ
  rank = rank_of rules

  -- all rules of the name are among these
  abbrev IsDone : List PlainRule → NameArity → Type 0
  IsDone done n = filter (has_head n) done ≡ filter (has_head n) rules

  abbrev IsReady : List PlainRule → PlainRule → Type 0
  IsReady done r = (m : NameArity) → has name_cmp m (body_names r.body) ≡ true → IsDone done m

  -- the rows that a name has by these rules
  abbrev rows_by : List PlainRule → NameArity → List Row
  rows_by done n = rows_of (events_of events n ++ flat_map (head_rows full) (filter (has_head n) done))

  -- what was found is what the rules that were evaluated give
  abbrev Holds : Words → List PlainRule → Type 0
  Holds words done = (n : NameArity) → named_by words n ≡ rows_by done n

  full_is : (n : NameArity) → rows_by rules n ≡ full n
  full_is n =
      let most = rank_most rules n in
      sym (canon-append-canon exact_rows (events_of events n) (flat_map (head_rows full) (filter (has_head n) rules)))
      ∙ named_same rules events rank ranking (suc (length rules)) (length rules) n (omega (arith, most)) most

  done_full : (words : Words) (done : List PlainRule) → Holds words done → (n : NameArity) → IsDone done n → named_by words n ≡ full n
  done_full words done h n d = h n ∙ ap (λ rs. rows_of (events_of events n ++ flat_map (head_rows full) rs)) d ∙ full_is n

  -- one rule more
  one_rule : (words : Words) (done : List PlainRule) (r : PlainRule) → Holds words done → IsReady done r → Holds (with_all words (rule_detections words r)) (done ++ r ∷ [])
  one_rule words done r h ready n =
      named_more words (rule_detections words r) n
      ∙ (λ i. rows_of (h n i ++ own_heads i))
      ∙ canon-append-canon exact_rows before (cond (has_head n r) (map (head_row r.head) xs) [])
      ∙ at (has_head n r)
      ∙ ap (λ rs. rows_of (events_of events n ++ flat_map (head_rows full) rs)) (sym (filter-append (has_head n) done (r ∷ [])))
    where
      xs : List Row
      xs = rows full r.body

      before : List Row
      before = events_of events n ++ flat_map (head_rows full) (filter (has_head n) done)

      same : rows (named_by words) r.body ≡ xs
      same = rows_same (named_by words) full r.body (λ m e. done_full words done h m (ready m e))

      own_heads : map found_row (of_name n (rule_detections words r)) ≡ cond (has_head n r) (map (head_row r.head) xs) []
      own_heads = ap (λ l. map found_row (of_name n (map (head_detection r.head) l))) same ∙ heads_of n r (has_head n r) refl xs

      at : (b : Bool) → rows_of (before ++ cond b (map (head_row r.head) xs) [])
          ≡ rows_of (events_of events n ++ flat_map (head_rows full) (filter (has_head n) done ++ cond b (r ∷ []) []))
      at true =
          sym (canon-append-canon_after exact_rows before (map (head_row r.head) xs))
          ∙ ap rows_of (append_assoc (events_of events n) (flat_map (head_rows full) (filter (has_head n) done)) (head_rows full r))
          ∙ ap (λ l. rows_of (events_of events n ++ l))
          (ap (λ l. flat_map (head_rows full) (filter (has_head n) done) ++ l) (sym (append-nil (head_rows full r)))
          ∙ sym (flat_map-append (head_rows full) (filter (has_head n) done) (r ∷ [])))
      at false = ap rows_of (append-nil before) ∙ ap (λ rs. rows_of (events_of events n ++ flat_map (head_rows full) rs)) (sym (append-nil (filter (has_head n) done)))

  -- and one after the other
  pub all_rules : (words : Words) (done rest : List PlainRule) → Holds words done → AreReady rules done rest → Holds (with_rules words rest) (done ++ rest)
  all_rules words done [] h ready = subst (Holds words) (sym (append-nil done)) h
  all_rules words done (r ∷ rest) h ready =
      let next = with_all words (rule_detections words r) in
      subst (Holds (with_rules next rest)) (append_assoc done (r ∷ []) rest)
      (all_rules next (done ++ r ∷ []) rest (one_rule words done r h ready.0) ready.1)

  -- with no rule, what was found are the events
  pub no_rules : (words : Words) → ((word : List ℕ) → words word ≡ []) → Holds (with_all words (map as_detection events)) []
  no_rules words none n =
      named_more words (map as_detection events) n
      ∙ (λ i. rows_of (named_in (none n.name i) n ++ events_are n events i))
      ∙ ap rows_of (sym (append-nil (events_of events n)))

-- ---- the order of ranks

-- the names in the body of a rule have lower ranks than its head
abbrev IsAbove : List PlainRule → PlainRule → Type 0
IsAbove rules r = (m : NameArity) → has name_cmp m (body_names r.body) ≡ true → rank_of rules m < rank_of rules (head_name r)

module _ (rules : List PlainRule) (ranking : IsRanking rules (rank_of rules)) where
  ranks_fall : (pre rs : List PlainRule) → pre ++ rs ≡ rules → Each (IsAbove rules) rs
  ranks_fall pre [] e = tt
  ranks_fall pre (r ∷ rs) e = (own, ranks_fall (pre ++ r ∷ []) rs (append_assoc pre (r ∷ []) rs ∙ e))
    where
      n : NameArity
      n = head_name r

      heads : has name_cmp n (head_names rules) ≡ true
      heads =
          ap (λ l. has name_cmp n (head_names l)) (sym e)
          ∙ ap (has name_cmp n) (map-append head_name pre (r ∷ rs))
          ∙ in_right n (head_names pre) (head_names (r ∷ rs)) (ap (λ b. b || has name_cmp n (head_names rs)) (ties_itself n))

      under : (m : NameArity) → has name_cmp m (body_names r.body) ≡ true → has name_cmp m (below rules n) ≡ true
      under m h =
          ap (λ l. has name_cmp m (below l n)) (sym e)
          ∙ ap (has name_cmp m) (flat_map-append (λ q. cond (is_eq (name_cmp n (head_name q))) (body_names q.body) []) pre (r ∷ rs))
          ∙ in_right m (below pre n) (below (r ∷ rs) n) (in_left m (cond (is_eq (name_cmp n n)) (body_names r.body) []) (below rs n)
          (ap (λ b. has name_cmp m (cond b (body_names r.body) [])) (ties_itself n) ∙ h))

      own : IsAbove rules r
      own m h =
          let most = greatest_of (rank_of rules) m (below rules n) (under m h) in
          let more = one_more rules [] (rank_of rules) ranking n heads in
          omega (arith, most, more)

-- ---- rules that are sorted by rank

constant : {A : Type 0} (b : Bool) (xs : List A) → filter (λ _. b) xs ≡ cond b xs []
constant true [] = refl
constant true (x ∷ xs) = ap (λ l. x ∷ l) (constant true xs)
constant false [] = refl
constant false (x ∷ xs) = constant false xs

filter_map : {A : Type 0} (p : PlainRule → Bool) (plain : A → PlainRule) (xs : List A) → filter p (map plain xs) ≡ map plain (filter (λ x. p (plain x)) xs)
filter_map p plain [] = refl
filter_map p plain (x ∷ xs) = at (p (plain x)) (filter_map p plain xs)
  where
    at : (b : Bool) → filter p (map plain xs) ≡ map plain (filter (λ x. p (plain x)) xs)
        → cond b (plain x ∷ filter p (map plain xs)) (filter p (map plain xs)) ≡ map plain (cond b (x ∷ filter (λ x. p (plain x)) xs) (filter (λ x. p (plain x)) xs))
    at true h = ap (λ l. plain x ∷ l) h
    at false h = h

module _ {A : Type 0} (rules : List PlainRule) (ranking : IsRanking rules (rank_of rules)) (most : ℕ) (key : A → ℕ) (plain : A → PlainRule) where
  -- of a rule and a number: the number is the rank of its head and isn't greater than the greatest, and the names in its body have lower ones
  abbrev PairFits : PlainRule × ℕ → Type 0
  PairFits p = (p.1 ≡ rank_of rules (head_name p.0)) × (p.1 ≤ most) × IsAbove rules p.0

  abbrev Fits : A → Type 0
  Fits x = PairFits (plain x, key x)

  abbrev heads_it : NameArity → A → Bool
  heads_it n x = has_head n (plain x)

  key_of_name : (n : NameArity) (x : A) → Fits x → heads_it n x ≡ true → key x ≡ rank_of rules n
  key_of_name n x f e = f.0 ∙ sym (ap (rank_of rules) (same_names n (head_name (plain x)) (head_ties n (plain x) e)))

  -- those of a name are among those of its rank
  own_class : (n : NameArity) (xs : List A) → All Fits xs → filter (heads_it n) xs ≡ filter (heads_it n) (filter (λ x. key x == rank_of rules n) xs)
  own_class n [] a = refl
  own_class n (x ∷ xs) a = at (heads_it n x) refl (key x == rank_of rules n) refl (own_class n xs (All-tail Fits x xs a))
    where
      class : List A
      class = filter (λ x. key x == rank_of rules n) xs

      at : (b : Bool) → heads_it n x ≡ b → (c : Bool) → (key x == rank_of rules n) ≡ c → filter (heads_it n) xs ≡ filter (heads_it n) class
          → cond b (x ∷ filter (heads_it n) xs) (filter (heads_it n) xs) ≡ filter (heads_it n) (cond c (x ∷ class) class)
      at true e true g h = ap (λ l. x ∷ l) h ∙ sym (ap (λ b. cond b (x ∷ filter (heads_it n) class) (filter (heads_it n) class)) e)
      at true e false g h = absurd (true≢false (sym (eq-eqb (key x) (rank_of rules n) (key_of_name n x (All-head Fits x xs a) e)) ∙ g))
      at false e true g h = h ∙ sym (ap (λ b. cond b (x ∷ filter (heads_it n) class) (filter (heads_it n) class)) e)
      at false e false g h = h

  -- none of a name of lower rank
  none_of : (n : NameArity) (xs : List A) → All (λ x. Fits x × (rank_of rules n < key x)) xs → filter (has_head n) (map plain xs) ≡ []
  none_of n [] a = refl
  none_of n (x ∷ xs) a = at (heads_it n x) refl (none_of n xs (All-tail (λ x. Fits x × (rank_of rules n < key x)) x xs a))
    where
      at : (b : Bool) → heads_it n x ≡ b → filter (has_head n) (map plain xs) ≡ []
          → cond b (plain x ∷ filter (has_head n) (map plain xs)) (filter (has_head n) (map plain xs)) ≡ []
      at true e h = let p = All-head (λ x. Fits x × (rank_of rules n < key x)) x xs a in let same = key_of_name n x p.0 e in absurd (omega (arith, p.1, same))
      at false e h = h

  sorted_ready : (done : List PlainRule) (xs : List A) → IsNonDecreasingBy key xs → All Fits xs
      → ((m : NameArity) → rank_of rules m ≤ most → filter (has_head m) (done ++ map plain xs) ≡ filter (has_head m) rules)
      → AreReady rules done (map plain xs)
  sorted_ready done [] s a h = tt
  sorted_ready done (x ∷ xs) s a h = (
    own,
    sorted_ready (done ++ plain x ∷ []) xs (λ i j d l m. s (suc i) (suc j) d (omega (arith, l)) (omega (arith, m))) (All-tail Fits x xs a)
        (λ m l. ap (filter (has_head m)) (append_assoc done (plain x ∷ []) (map plain xs)) ∙ h m l),
  )
    where
      own : (m : NameArity) → has name_cmp m (body_names (plain x).body) ≡ true → filter (has_head m) done ≡ filter (has_head m) rules
      own m e =
          let fits = All-head Fits x xs a in
          let less = fits.2 m e in
          let later : All (λ y. Fits y × (rank_of rules m < key y)) (x ∷ xs) = λ k d l. (a k d l, (let above = s 0 k d (omega arith) l in omega (arith, less, above, fits.0))) in
          sym (append-nil (filter (has_head m) done))
          ∙ ap (λ l. filter (has_head m) done ++ l) (sym (none_of m (x ∷ xs) later))
          ∙ sym (filter-append (has_head m) done (map plain (x ∷ xs)))
          ∙ h m (omega (arith, less, fits.0, fits.1))

  abbrev pairs : List A → List (PlainRule × ℕ)
  pairs xs = map (λ x. (plain x, key x)) xs

  abbrev low : List PlainRule
  low = filter (is_within rules most) rules

  all_fit : (xs : List A) → Each PairFits (pairs xs) → All Fits xs
  all_fit [] e = All-nil Fits
  all_fit (x ∷ xs) e = All-cons Fits x xs e.0 (all_fit xs e.1)

  low_fit : Each PairFits (map (ranked_by rules) low)
  low_fit = Each-map (λ r. IsAbove rules r × (is_within rules most r ≡ true)) PairFits (ranked_by rules)
      (λ r h. (refl, leb-true (rank_of rules (head_name r)) most h.1, h.0)) low
      (Each-filter_passes (IsAbove rules) (is_within rules most) rules (ranks_fall rules ranking [] rules refl))

  firsts : (xs : List A) → map (λ p. p.0) (pairs xs) ≡ map plain xs
  firsts [] = refl
  firsts (x ∷ xs) = ap (λ l. plain x ∷ l) (firsts xs)

  first_of_ranked : (rs : List PlainRule) → map (λ p. p.0) (map (ranked_by rules) rs) ≡ rs
  first_of_ranked [] = refl
  first_of_ranked (r ∷ rs) = ap (λ l. r ∷ l) (first_of_ranked rs)

  all_low : (n : NameArity) → rank_of rules n ≤ most → filter (has_head n) low ≡ filter (has_head n) rules
  all_low n h =
      filter-filter (has_head n) (is_within rules most) rules
      ∙ filter_agree_on (is_within rules most) (λ _. true) (has_head n) (λ r e. ap (λ m. nat_le (rank_of rules m) most) (sym (same_names n (head_name r) (head_ties n r e))) ∙ le-leb (rank_of rules n) most h) rules
      ∙ constant true (filter (has_head n) rules)

  -- rules with their ranks, sorted by these, are in order
  pub sorted_in_order : (xs ys : List A) → pairs xs ≡ map (ranked_by rules) low → IsPermutation xs ys → IsNonDecreasingBy key ys
      → ((d : ℕ) → filter (λ x. key x == d) ys ≡ filter (λ x. key x == d) xs) → IsOrdered rules most (map plain ys)
  sorted_in_order xs ys e p s classes = record { whole = whole; ready = sorted_ready [] ys s (All-permutation Fits xs ys p fit) whole }
    where
      fit : All Fits xs
      fit = all_fit xs (subst (Each PairFits) (sym e) low_fit)

      whole : (n : NameArity) → rank_of rules n ≤ most → filter (has_head n) (map plain ys) ≡ filter (has_head n) rules
      whole n h =
          filter_map (has_head n) plain ys
          ∙ ap (map plain) (own_class n ys (All-permutation Fits xs ys p fit) ∙ ap (filter (heads_it n)) (classes (rank_of rules n)) ∙ sym (own_class n xs fit))
          ∙ sym (filter_map (has_head n) plain xs)
          ∙ ap (filter (has_head n)) (sym (firsts xs) ∙ ap (map (λ p. p.0)) e ∙ first_of_ranked low)
          ∙ all_low n h

-- what a stable sort by rank leaves of each rank
tied : (a b : ℕ) → (not (is_lt (nat_cmp a b)) && not (is_lt (nat_cmp b a))) ≡ (b == a)
tied a b = at (nat_cmp a b) (ranks a b) (nat_cmp b a) (ranks b a)
  where
    at : (c : Ordering) → MatchOrdering c (a < b) (a ≡ b) (b < a) → (d : Ordering) → MatchOrdering d (b < a) (b ≡ a) (a < b)
        → (not (is_lt c) && not (is_lt d)) ≡ (b == a)
    at Less m d n = sym (ne_eqb b a (λ e. omega (arith, m, e)))
    at Equal m Less n = absurd (omega (arith, m, n))
    at Equal m Equal n = sym (eq-eqb b a n)
    at Equal m Greater n = absurd (omega (arith, m, n))
    at Greater m Less n = sym (ne_eqb b a (λ e. omega (arith, n, e)))
    at Greater m Equal n = absurd (omega (arith, m, n))
    at Greater m Greater n = absurd (omega (arith, m, n))

pub same_classes : (xs ys : List Ranked) → length ys ≡ length xs → IsStableByKey (λ r. r.rank) nat_cmp xs ys
    → (d : ℕ) → filter (λ r. r.rank == d) ys ≡ filter (λ r. r.rank == d) xs
same_classes [] [] l stable d = refl
same_classes [] (y ∷ ys) l stable d = absurd (omega (arith, l))
same_classes (x ∷ xs) ys l stable d =
    filter_agree (λ r. r.rank == d) (ties lt own) (λ r. sym (tied d r.rank)) ys ∙ stable own ∙ filter_agree (ties lt own) (λ r. r.rank == d) (λ r. tied d r.rank) (x ∷ xs)
  where
    own : Ranked
    own = record x { rank = d }

    lt : Ranked → Ranked → Bool
    lt r s = is_lt (nat_cmp r.rank s.rank)

-- ---- what stands

each_most : (rank : NameArity → ℕ) (k : ℕ) (names : List NameArity) → greatest (map rank names) ≤ k → Each (λ n. rank n ≤ k) names
each_most rank k [] h = tt
each_most rank k (n ∷ names) h = (omega (arith, h), each_most rank k names (omega (arith, h)))

-- what the rules find by rank is what stands
pub found_is_standing : (statements : List PlainStatement) (events : List Event) (words : Words) (ordered : List PlainRule)
    → IsRanking (rules_of statements) (rank_of (rules_of statements))
    → ((word : List ℕ) → words word ≡ [])
    → IsOrdered (rules_of statements) (greatest (map (rank_of (rules_of statements)) (outputs statements))) ordered
    → canon detection_cmp (flat_map (λ n. of_name n (with_rules (with_all words (map as_detection events)) ordered n.name)) (outputs statements)) ≡ standing statements events
unfolding standing
found_is_standing statements events words ordered ranking none o =
    parts_alike exact_detections (λ n. of_name n (end n.name)) (λ n. map (detection_of n) (name_rows rules events n)) (outputs statements)
    (Each-more (λ n. rank_of rules n ≤ k) _ (λ n h. named_detections n (end n.name) (name_rows rules events n) (complete n h)) (outputs statements) (each_most (rank_of rules) k (outputs statements) (omega arith)))
  where
    rules : List PlainRule
    rules = rules_of statements

    k : ℕ
    k = greatest (map (rank_of rules) (outputs statements))

    end : Words
    end = with_rules (with_all words (map as_detection events)) ordered

    complete : (n : NameArity) → rank_of rules n ≤ k → named_by end n ≡ name_rows rules events n
    complete n h = done_full rules events ranking end ordered
        (all_rules rules events ranking (with_all words (map as_detection events)) [] ordered (no_rules rules events ranking words none) o.ready)
        n (o.whole n h)
