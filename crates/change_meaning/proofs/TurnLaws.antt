-- How many visits there are, and what turns answer.
use Rattle.std.specs.Prelude.{ℕ, ◌≡◌, ◌+◌, ◌-◌, ◌<◌, refl, Bool, true, false, ◌&&◌, nat_le, if◌then◌else◌, List, [], ◌∷◌, ◌++◌, map, length}
use Rattle.std.specs.List.{filter, flat_map}
use Rattle.std.proofs.Common.{ap, sym, ◌∙◌, arith, length-append}
use Rattle.std.proofs.Math.Bool.{and-false}
use Rattle.std.proofs.lemmas.Bool.Decides.{nat_tests}
use Rattle.std.proofs.lemmas.Grind.{flat_map-append}
use Rattle.std.proofs.lemmas.List.{length-map}
use Rattle.ordered_lists.specs.Lists.{total, total-filter, total_same}
use Rattle.ordered_lists.specs.Canon.{Rising, Rising-filter}
use Rattle.event_changes.specs.declared.changes.Progress.TheVariants.{More, Done}
use Rattle.event_model.specs.declared.operators.Edge.TheVariants.{Start, End}
use Rattle.interval_ops.specs.Operators.{partner_range, range_at, range_before, empty_range, in_range}
use Rattle.interval_ops.specs.declared.ranges.Range.{Range}
use Rattle.interval_ops.specs.declared.ranges.Side.TheVariants.{Left, Right}
use Rattle.ev_bind.specs.Bindings.{Pairs}
use Rattle.ev_bind.specs.Rows.{row_cmp, exact_rows}
use Rattle.ev_bind.specs.declared.rows.Row.{Row}
use Rattle.row_changes.specs.Changes.{SignedRow}
use Rattle.row_changes.specs.Partners.{agree, is_listed, listed}
use Rattle.row_changes.specs.Visits.{Visit}
use Rattle.change_meaning.specs.JoinVisits.{JoinView, join_task, partners, meeting_visit, visits_at, join_visits}
use Rattle.change_meaning.specs.MinusVisits.{MinusView, TestTask, joined_task, inner_task, before_task, after_task, test, tested_rows, tests_at, minus_visits}
use Rattle.change_meaning.specs.Turns.{number_listed, answers, sum_of}
use Rattle.change_meaning.proofs.Sums.{exact_edge, total_reordered}
use Rattle.change_meaning.proofs.Balance.{total-map}

-- ---- numbers

length_total : {A : Type 0} (xs : List A) → length xs ≡ total (λ x. 1) xs
length_total [] = refl
length_total (x ∷ xs) = let i = length_total xs in omega (arith, i)

-- how many rows are looked at
pub listed_number : (key : List ℕ) (range : Range) (b : Pairs) (rows : List Row) → Rising row_cmp rows
    → length (listed key range b rows) ≡ number_listed key range b rows
listed_number key range b rows u =
    let test = is_listed key range b in
    length_total (listed key range b rows)
    ∙ total_reordered exact_rows (exact_edge range.edge) (λ r. 1) (filter test rows) (Rising-filter exact_rows test rows u)
    ∙ total-filter (λ r. 1) test rows

length_flat : {A B : Type 0} (f : A → List B) (xs : List A) → length (flat_map f xs) ≡ total (λ x. length (f x)) xs
length_flat f [] = refl
length_flat f (x ∷ xs) = let i = length_flat f xs in let e = length-append (f x) (flat_map f xs) in omega (arith, i, e)

module _ {A : Type 0} (f : A → List Visit) (task : SignedRow → A) (n : SignedRow → ℕ) (h : (d : SignedRow) → length (f (task d)) ≡ n d) where
  of_tasks : (ds : List SignedRow) → length (flat_map f (map task ds)) ≡ total n ds
  of_tasks ds =
      length_flat f (map task ds) ∙ total-map (λ t. length (f t)) task ds ∙ total_same (λ d. length (f (task d))) n h ds

-- each changed row of a join has a visit, and one for each row that is looked at
pub join_number : (v : JoinView) → Rising row_cmp v.lefts → Rising row_cmp v.rights → (cl cr : List SignedRow)
    → length (join_visits v cl cr)
    ≡ total (λ d. 1 + number_listed v.key (partner_range v.op Left d.row.span) d.row.binding v.rights) cl
    + total (λ d. 1 + number_listed v.key (partner_range v.op Right d.row.span) d.row.binding v.lefts) cr
join_number v ul ur cl cr =
    ap length (flat_map-append (visits_at v) (map (join_task Left) cl) (map (join_task Right) cr))
    ∙ length-append (flat_map (visits_at v) (map (join_task Left) cl)) (flat_map (visits_at v) (map (join_task Right) cr))
    ∙ (λ i. of_tasks (visits_at v) (join_task Left)
    (λ d. 1 + number_listed v.key (partner_range v.op Left d.row.span) d.row.binding v.rights) left cl i
    + of_tasks (visits_at v) (join_task Right)
    (λ d. 1 + number_listed v.key (partner_range v.op Right d.row.span) d.row.binding v.lefts) right cr i)
  where
    left : (d : SignedRow) → length (visits_at v (join_task Left d))
        ≡ 1 + number_listed v.key (partner_range v.op Left d.row.span) d.row.binding v.rights
    left d =
        let t = join_task Left d in
        let m = length-map (partners v Left d.row) (meeting_visit v t) in
        let k = listed_number v.key (partner_range v.op Left d.row.span) d.row.binding v.rights ur in
        omega (arith, m, k)

    right : (d : SignedRow) → length (visits_at v (join_task Right d))
        ≡ 1 + number_listed v.key (partner_range v.op Right d.row.span) d.row.binding v.lefts
    right d =
        let t = join_task Right d in
        let m = length-map (partners v Right d.row) (meeting_visit v t) in
        let k = listed_number v.key (partner_range v.op Right d.row.span) d.row.binding v.lefts ul in
        omega (arith, m, k)

tests_number : (v : MinusView) → Rising row_cmp v.joined → (t : TestTask)
    → length (tests_at v t) ≡ 1 + number_listed t.key t.range t.row.binding v.joined
tests_number v u t =
    let m = length-map (tested_rows v t) (test v t.row) in
    let k = listed_number t.key t.range t.row.binding v.joined u in
    omega (arith, m, k)

-- in no tick no row lies
none_listed : (key : List ℕ) (b : Pairs) (rows : List Row) → number_listed key (empty_range Start) b rows ≡ 0
none_listed key b [] = refl
none_listed key b (r ∷ rows) =
    let off : in_range (empty_range Start) r.span ≡ false = grind (arith, nat_tests) in
    let no : is_listed key (empty_range Start) b r ≡ false = ap (λ c. agree key b r.binding && c) off ∙ and-false (agree key b r.binding) in
    (λ i. (if no i then 1 else 0) + none_listed key b rows i)

-- each changed row of a Minus has a visit, and one for each joined row that is looked at
pub minus_number : (v : MinusView) → Rising row_cmp v.joined → (cj ci cb ca : List SignedRow)
    → length (minus_visits v cj ci cb ca)
    ≡ length cj
    + (total (λ d. 1 + number_listed v.inner_key (range_before Start 0 d.row.span.start) d.row.binding v.joined) ci
    + (total (λ d. 1 + number_listed v.before_key (range_at Start d.row.span.start) d.row.binding v.joined) cb
    + total (λ d. 1 + number_listed v.after_key (range_at End d.row.span.end) d.row.binding v.joined) ca))
minus_number v u cj ci cb ca =
    let f = tests_at v in
    let tj = map joined_task cj in
    let ti = map (inner_task v) ci in
    let tb = map (before_task v) cb in
    let ta = map (after_task v) ca in
    ap length (flat_map-append f tj (ti ++ (tb ++ ta))) ∙ length-append (flat_map f tj) (flat_map f (ti ++ (tb ++ ta)))
    ∙ (λ i. (of_tasks f joined_task (λ d. 1) own cj ∙ sym (length_total cj)) i
    + (ap length (flat_map-append f ti (tb ++ ta)) ∙ length-append (flat_map f ti) (flat_map f (tb ++ ta))
    ∙ (λ j. of_tasks f (inner_task v) (λ d. 1 + number_listed v.inner_key (range_before Start 0 d.row.span.start) d.row.binding v.joined)
    (λ d. tests_number v u (inner_task v d)) ci j
    + (ap length (flat_map-append f tb ta) ∙ length-append (flat_map f tb) (flat_map f ta)
    ∙ (λ k. of_tasks f (before_task v) (λ d. 1 + number_listed v.before_key (range_at Start d.row.span.start) d.row.binding v.joined)
    (λ d. tests_number v u (before_task v d)) cb k
    + of_tasks f (after_task v) (λ d. 1 + number_listed v.after_key (range_at End d.row.span.end) d.row.binding v.joined)
    (λ d. tests_number v u (after_task v d)) ca k)) j)) i)
  where
    own : (d : SignedRow) → length (tests_at v (joined_task d)) ≡ 1
    own d =
        let k = tests_number v u (joined_task d) in
        let z = none_listed [] d.row.binding v.joined in
        omega (arith, k, z)

-- ---- turns

-- the turn behind these is Done where all units so far suffice, and More where they don't
pub answer_at : (left : ℕ) (turns : List ℕ) (units : ℕ) → sum_of turns < left
    → answers left (turns ++ units ∷ []) ≡ map (λ u. More) turns ++ (if nat_le left (sum_of turns + units) then Done else More) ∷ []
answer_at left [] units h =
    let zero : 0 + units ≡ units = omega arith in
    at (nat_le left units) ∙ ap (λ m. (if nat_le left m then Done else More) ∷ []) (sym zero)
  where
    at : (b : Bool) → (if b then Done ∷ [] else More ∷ []) ≡ (if b then Done else More) ∷ []
    at true = refl
    at false = refl
answer_at left (u ∷ turns) units h =
    let no : nat_le left u ≡ false = grind (arith, nat_tests, h) in
    let less : sum_of turns < left - u = omega (arith, h) in
    let same : nat_le (left - u) (sum_of turns + units) ≡ nat_le left (u + sum_of turns + units) = grind (arith, nat_tests, less) in
    ap (λ b. if b then Done ∷ [] else More ∷ answers (left - u) (turns ++ units ∷ [])) no
    ∙ ap (λ l. More ∷ l) (answer_at (left - u) turns units less
    ∙ ap (λ b. map (λ u. More) turns ++ (if b then Done else More) ∷ []) same)
