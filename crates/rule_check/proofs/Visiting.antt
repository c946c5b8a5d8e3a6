-- Visits of a graph that give each node a rank above those of its targets.
use Rattle.std.proofs.Common.{◌≡◌, ℕ, zero, suc, ◌+◌, ◌<◌, ◌≤◌, max, Bool, true, false, cond, ◌||◌, ◌==◌, List, [], ◌∷◌, ◌++◌, length, get_or, set, map, refl, ap, sym, subst, ◌∙◌, ◌⊎◌, inl, inr, arith}
use Rattle.std.proofs.lemmas.Bool.{true≢false, cases_eq, both_ways, or_right}
use Rattle.std.proofs.lemmas.List.{get_or-set_same, get_or-set_other, map-append, length-map}
use Rattle.rule_ast.specs.Vars.{is_in, is_in-none, is_in-cons}
use Rattle.rule_check.specs.Graphs.{Reaches, stop, step, Returns, greatest, leads, targets, mark_at, is_open, is_new, is_ranked, rank_of, rank_at, tally, AreRanked, Follows, OpenLead, Visited, IsRankList, RankedBelow}
use Rattle.rule_check.specs.declared.graph.Mark.{Mark}
use Rattle.rule_check.specs.declared.graph.Mark.TheVariants.{New, Open, Ranked}
use Rattle.rule_check.proofs.Rows.{in_more}
use Rattle.std.proofs.lemmas.Bool.Decides.{Decides-eqb}

abbrev pub ones : Bool → ℕ
ones b = cond b 1 0

tally-set : (test : Mark → Bool) (ms : List Mark) (i : ℕ) (m : Mark) → i < length ms → tally test (set ms i m) + ones (test (mark_at ms i)) ≡ tally test ms + ones (test m)
tally-set test [] i m h = absurd (omega arith)
tally-set test (x ∷ ms) zero m h = omega arith
tally-set test (x ∷ ms) (suc i) m h = let more = tally-set test ms i m (omega arith) in omega (arith, more)

one_at_most : (b : Bool) → ones b ≤ 1
one_at_most true = omega arith
one_at_most false = omega arith

tally_few : (test : Mark → Bool) (ms : List Mark) → tally test ms ≤ length ms
tally_few test [] = omega arith
tally_few test (x ∷ ms) = let more = tally_few test ms in let first = one_at_most (test x) in omega (arith, more, first)

tally_below : (test : Mark → Bool) (ms : List Mark) (i : ℕ) → i < length ms → test (mark_at ms i) ≡ false → tally test ms < length ms
tally_below test [] i h e = absurd (omega arith)
tally_below test (x ∷ ms) zero h e = let few = tally_few test ms in omega (arith, few, ap ones e)
tally_below test (x ∷ ms) (suc i) h e = let first = one_at_most (test x) in let more = tally_below test ms i (omega arith) e in omega (arith, first, more)

map_agree : (f g : ℕ → ℕ) (xs : List ℕ) → ((j : ℕ) → is_in j xs ≡ true → f j ≡ g j) → map f xs ≡ map g xs
map_agree f g [] h = refl
map_agree f g (x ∷ xs) h =
    λ i. h x (is_in-cons x x xs ∙ ap (λ b. b || is_in x xs) ((Decides-eqb x x).1 refl)) i
    ∷ map_agree f g xs (λ j e. h j (is_in-cons j x xs ∙ or_right (x == j) (is_in j xs) e)) i

greatest-more : (xs : List ℕ) (x : ℕ) → greatest (xs ++ x ∷ []) ≡ max (greatest xs) x
greatest-more [] x = omega arith
greatest-more (y ∷ xs) x = let more = greatest-more xs x in omega (arith, more)

greatest_few : (f : ℕ → ℕ) (xs : List ℕ) (n : ℕ) → ((j : ℕ) → is_in j xs ≡ true → f j ≤ n) → greatest (map f xs) ≤ n
greatest_few f [] n h = omega arith
greatest_few f (x ∷ xs) n h =
    let first = h x (is_in-cons x x xs ∙ ap (λ b. b || is_in x xs) ((Decides-eqb x x).1 refl)) in
    let more = greatest_few f xs n (λ j e. h j (is_in-cons j x xs ∙ or_right (x == j) (is_in j xs) e)) in
    omega (arith, first, more)

open_unranked : (m : Mark) → is_open m ≡ true → is_ranked m ≡ false
open_unranked New e = refl
open_unranked Open e = refl
open_unranked (Ranked r) e = absurd (true≢false (sym e))

open_old : (m : Mark) → is_open m ≡ true → is_new m ≡ false
open_old New e = absurd (true≢false (sym e))
open_old Open e = refl
open_old (Ranked r) e = refl

reaches_more : {K : Type 0} {leads : K → K → Bool} (x y z : K) → Reaches leads x y → leads y z ≡ true → Reaches leads x z
reaches_more x y z (stop x') e = step x z z e (stop z)
reaches_more x y z (step x' m y' l r) e = step x m z l (reaches_more m y z r e)

module _ (graph : List (List ℕ)) where
  -- marks that differ where there is no rank
  same_ranks : (old new : List Mark) → AreRanked graph old → ((i : ℕ) → is_ranked (mark_at new i) ≡ true → mark_at new i ≡ mark_at old i)
      → ((i : ℕ) → is_ranked (mark_at old i) ≡ true → mark_at new i ≡ mark_at old i) → tally is_ranked new ≡ tally is_ranked old → AreRanked graph new
  same_ranks old new a back forth count = record {
    below = λ i j r l. ap is_ranked (forth j (a.below i j (was i r) l)) ∙ a.below i j (was i r) l;
    rank = λ i r. ap rank_of (back i r) ∙ a.rank i (was i r) ∙ ap (λ ns. greatest ns + 1) (sym (map_agree (rank_at new) (rank_at old) (targets graph i) (λ j l. ap rank_of (forth j (a.below i j (was i r) l)))));
    few = λ i r. let old_few = a.few i (was i r) in omega (arith, old_few, ap rank_of (back i r), count);
  }
    where
      was : (i : ℕ) → is_ranked (mark_at new i) ≡ true → is_ranked (mark_at old i) ≡ true
      was i r = ap is_ranked (sym (back i r)) ∙ r

  module _ (node : ℕ) (old : List Mark) where
    -- a visit that has followed these targets of a node, of which the greatest rank is `top`
    pub record Visiting (now : List Mark) (followed : List ℕ) (top : ℕ) : Type 0 where
      pub ranked : AreRanked graph now
      pub follows : Follows (set old node Open) now
      pub done : (j : ℕ) → is_in j followed ≡ true → is_ranked (mark_at now j) ≡ true
      pub is_top : top ≡ greatest (map (rank_at now) followed)

    other : (m : Mark) (i : ℕ) → (i ≡ node → ⊥) → mark_at (set old node m) i ≡ mark_at old i
    other m i d = get_or-set_other old node i m New d

    module _ (h : node < length old) (new : mark_at old node ≡ New) where
      opened : mark_at (set old node Open) node ≡ Open
      opened = get_or-set_same old node Open New h

      pub visiting_none : AreRanked graph old → Visiting (set old node Open) [] 0
      visiting_none a = record {
        ranked = same_ranks old (set old node Open) a (λ i r. back i (cases_eq i node) r) (λ i r. forth i (cases_eq i node) r)
            (let t = tally-set is_ranked old node Open h in omega (arith, t, ap (λ m. ones (is_ranked m)) new));
        follows = record { ranked = λ i r. refl; open_as_before = λ i. refl; fewer = omega arith };
        done = λ j e. absurd (true≢false (sym e ∙ is_in-none j));
        is_top = refl;
      }
        where
          back : (i : ℕ) → (i ≡ node) ⊎ (i ≡ node → ⊥) → is_ranked (mark_at (set old node Open) i) ≡ true → mark_at (set old node Open) i ≡ mark_at old i
          back i (inl e) r = absurd (both_ways (is_ranked (mark_at (set old node Open) i)) (ap (λ k. is_ranked (mark_at (set old node Open) k)) e ∙ ap is_ranked opened) r)
          back i (inr d) r = other Open i d

          forth : (i : ℕ) → (i ≡ node) ⊎ (i ≡ node → ⊥) → is_ranked (mark_at old i) ≡ true → mark_at (set old node Open) i ≡ mark_at old i
          forth i (inl e) r = absurd (both_ways (is_ranked (mark_at old i)) (ap (λ k. is_ranked (mark_at old k)) e ∙ ap is_ranked new) r)
          forth i (inr d) r = other Open i d

      -- the measure falls
      pub visiting_fewer : (now : List Mark) (followed : List ℕ) (top : ℕ) → Visiting now followed top → tally is_new now < tally is_new old
      visiting_fewer now followed top v =
          let t = tally-set is_new old node Open h in
          let f = v.follows.fewer in
          omega (arith, t, f, ap (λ m. ones (is_new m)) new)

      -- the nodes that are open while a target is visited lead to it
      pub open_lead : (now : List Mark) (followed : List ℕ) (top t : ℕ) → Visiting now followed top → OpenLead graph old node → leads graph node t ≡ true → OpenLead graph now t
      open_lead now followed top t v o l i e = at (cases_eq i node)
        where
          at : (i ≡ node) ⊎ (i ≡ node → ⊥) → Returns (leads graph) i t
          at (inl p) = subst (λ k. Returns (leads graph) k t) (sym p) (t, l, stop t)
          at (inr d) =
              let (y, first, rest) = o i (ap is_open (sym (other Open i d)) ∙ sym (v.follows.open_as_before i) ∙ e) in
              (y, first, reaches_more y node t rest l)

      pub visiting_more : (now next : List Mark) (followed : List ℕ) (top t rank : ℕ) → Visiting now followed top → Visited graph t rank now next → Visiting next (followed ++ t ∷ []) (max top rank)
      visiting_more now next followed top t rank v n = record {
        ranked = n.ranked;
        follows = record {
          ranked = λ i r. let kept = v.follows.ranked i r in n.follows.ranked i (ap is_ranked kept ∙ r) ∙ kept;
          open_as_before = λ i. n.follows.open_as_before i ∙ v.follows.open_as_before i;
          fewer = let a = n.follows.fewer in let b = v.follows.fewer in omega (arith, a, b);
        };
        done = λ j e. in_more j t followed (λ f. ap is_ranked (n.follows.ranked j (v.done j f)) ∙ v.done j f) (λ f. ap (λ k. is_ranked (mark_at next k)) f ∙ ap is_ranked n.rank_is) e;
        is_top =
            let same : map (rank_at next) followed ≡ map (rank_at now) followed = map_agree (rank_at next) (rank_at now) followed (λ j f. ap rank_of (n.follows.ranked j (v.done j f))) in
            (λ i. max ((v.is_top ∙ ap greatest (sym same)) i) (sym (ap rank_of n.rank_is) i))
            ∙ sym (greatest-more (map (rank_at next) followed) (rank_at next t)) ∙ ap greatest (sym (map-append (rank_at next) followed (t ∷ [])));
      }

      top_few : (now : List Mark) (followed : List ℕ) (top : ℕ) → Visiting now followed top → top ≤ tally is_ranked now
      top_few now followed top v =
          let all = greatest_few (rank_at now) followed (tally is_ranked now) (λ j f. v.ranked.few j (v.done j f)) in
          let is = v.is_top in
          omega (arith, all, is)

      open_still : (now : List Mark) (followed : List ℕ) (top : ℕ) → Visiting now followed top → is_open (mark_at now node) ≡ true
      open_still now followed top v = v.follows.open_as_before node ∙ ap is_open opened

      pub top_below : (now : List Mark) (followed : List ℕ) (top : ℕ) → length now ≡ length old → Visiting now followed top → top < length now
      top_below now followed top sized v =
          let few = top_few now followed top v in
          let below = tally_below is_ranked now node (omega (arith, h, sized)) (open_unranked (mark_at now node) (open_still now followed top v)) in
          omega (arith, few, below)

      module _ (now : List Mark) (top : ℕ) (sized : length now ≡ length old) (v : Visiting now (targets graph node) top) where
        abbrev final : List Mark
        final = set now node (Ranked (top + 1))

        within : node < length now
        within = omega arith

        open_now : is_open (mark_at now node) ≡ true
        open_now = open_still now (targets graph node) top v

        here : mark_at final node ≡ Ranked (top + 1)
        here = get_or-set_same now node (Ranked (top + 1)) New within

        elsewhere : (i : ℕ) → (i ≡ node → ⊥) → mark_at final i ≡ mark_at now i
        elsewhere i d = get_or-set_other now node i (Ranked (top + 1)) New d

        still : (i : ℕ) → is_ranked (mark_at now i) ≡ true → mark_at final i ≡ mark_at now i
        still i r = elsewhere i (λ e. absurd (both_ways (is_ranked (mark_at now i)) (ap (λ k. is_ranked (mark_at now k)) e ∙ open_unranked (mark_at now node) open_now) r))

        was : (i : ℕ) → (i ≡ node → ⊥) → is_ranked (mark_at final i) ≡ true → is_ranked (mark_at now i) ≡ true
        was i d r = ap is_ranked (sym (elsewhere i d)) ∙ r

        targets_ranked : (i j : ℕ) → (i ≡ node) ⊎ (i ≡ node → ⊥) → is_ranked (mark_at final i) ≡ true → leads graph i j ≡ true → is_ranked (mark_at now j) ≡ true
        targets_ranked i j (inl e) r l = v.done j (ap (λ k. leads graph k j) (sym e) ∙ l)
        targets_ranked i j (inr d) r l = v.ranked.below i j (was i d r) l

        same_below : (i : ℕ) → is_ranked (mark_at final i) ≡ true → map (rank_at now) (targets graph i) ≡ map (rank_at final) (targets graph i)
        same_below i r = map_agree (rank_at now) (rank_at final) (targets graph i) (λ j l. ap rank_of (sym (still j (targets_ranked i j (cases_eq i node) r l))))

        rank_final : (i : ℕ) → (i ≡ node) ⊎ (i ≡ node → ⊥) → is_ranked (mark_at final i) ≡ true → rank_at final i ≡ greatest (map (rank_at final) (targets graph i)) + 1
        rank_final i (inl e) r =
            ap (rank_at final) e ∙ ap rank_of here ∙ ap (λ n. n + 1) v.is_top ∙ ap (λ k. greatest (map (rank_at now) (targets graph k)) + 1) (sym e)
            ∙ ap (λ ns. greatest ns + 1) (same_below i r)
        rank_final i (inr d) r = ap rank_of (elsewhere i d) ∙ v.ranked.rank i (was i d r) ∙ ap (λ ns. greatest ns + 1) (same_below i r)

        count : tally is_ranked final ≡ tally is_ranked now + 1
        count = let t = tally-set is_ranked now node (Ranked (top + 1)) within in omega (arith, t, ap ones (open_unranked (mark_at now node) open_now))

        few_final : (i : ℕ) → (i ≡ node) ⊎ (i ≡ node → ⊥) → is_ranked (mark_at final i) ≡ true → rank_at final i ≤ tally is_ranked final
        few_final i (inl e) r =
            let is : rank_at final i ≡ top + 1 = ap (rank_at final) e ∙ ap rank_of here in
            let few = top_few now (targets graph node) top v in
            omega (arith, is, few, count)
        few_final i (inr d) r =
            let is : rank_at final i ≡ rank_at now i = ap rank_of (elsewhere i d) in
            let few = v.ranked.few i (was i d r) in
            omega (arith, is, few, count)

        kept : (i : ℕ) → (i ≡ node) ⊎ (i ≡ node → ⊥) → is_ranked (mark_at old i) ≡ true → mark_at final i ≡ mark_at old i
        kept i (inl e) r = absurd (both_ways (is_ranked (mark_at old i)) (ap (λ k. is_ranked (mark_at old k)) e ∙ ap is_ranked new) r)
        kept i (inr d) r = elsewhere i d ∙ v.follows.ranked i (ap is_ranked (other Open i d) ∙ r) ∙ other Open i d

        as_before : (i : ℕ) → (i ≡ node) ⊎ (i ≡ node → ⊥) → is_open (mark_at final i) ≡ is_open (mark_at old i)
        as_before i (inl e) = ap (λ k. is_open (mark_at final k)) e ∙ ap is_open here ∙ sym (ap is_open new) ∙ ap (λ k. is_open (mark_at old k)) (sym e)
        as_before i (inr d) = ap is_open (elsewhere i d) ∙ v.follows.open_as_before i ∙ ap is_open (other Open i d)

        pub visited : Visited graph node (top + 1) old (set now node (Ranked (top + 1)))
        visited = record {
          rank_is = here;
          ranked = record {
            below = λ i j r l. let t = targets_ranked i j (cases_eq i node) r l in ap is_ranked (still j t) ∙ t;
            rank = λ i r. rank_final i (cases_eq i node) r;
            few = λ i r. few_final i (cases_eq i node) r;
          };
          follows = record {
            ranked = λ i r. kept i (cases_eq i node) r;
            open_as_before = λ i. as_before i (cases_eq i node);
            fewer =
                let t = tally-set is_new now node (Ranked (top + 1)) within in
                let f = visiting_fewer now (targets graph node) top v in
                omega (arith, t, f, ap ones (open_old (mark_at now node) open_now));
          };
        }

rank_in_list : (marks : List Mark) (i : ℕ) → get_or (map rank_of marks) i 0 ≡ rank_at marks i
rank_in_list [] i = refl
rank_in_list (m ∷ marks) zero = refl
rank_in_list (m ∷ marks) (suc i) = rank_in_list marks i

pub all_ranked : (graph : List (List ℕ)) (marks : List Mark) (ranks : List ℕ) → RankedBelow graph marks (length graph) → ranks ≡ map rank_of marks → IsRankList graph ranks
all_ranked graph marks ranks r is = record {
  sized = ap length is ∙ length-map marks rank_of ∙ r.sized;
  rank = λ i h.
      at i ∙ r.ranked.rank i (r.done i h) ∙ ap (λ ns. greatest ns + 1) (map_agree (rank_at marks) (λ j. get_or ranks j 0) (targets graph i) (λ j l. sym (at j)));
  few = λ i h.
      let is = at i in
      let few = r.ranked.few i (r.done i h) in
      let all = tally_few is_ranked marks in
      let sized = r.sized in
      omega (arith, is, few, all, sized);
}
  where
    at : (i : ℕ) → get_or ranks i 0 ≡ rank_at marks i
    at i = ap (λ l. get_or l i 0) is ∙ rank_in_list marks i
