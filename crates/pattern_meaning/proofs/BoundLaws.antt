-- Each row of a pattern binds exactly the pattern's variables.
use Rattle.std.proofs.Common.{inl, inr, ◌≡◌, ℕ, zero, suc, Bool, true, false, cond, ◌&&◌, ◌||◌, Option, Some, None, List, [], ◌∷◌, ◌++◌, map, length, refl, sym, ap, ◌∙◌}
use Rattle.std.specs.Prelude.{◌==◌, is_some, nat_lt, nat_le}
use Rattle.std.specs.List.{filter, flat_map, list_all, list_any}
use Rattle.std.specs.Str.{bytes_eq}
use Rattle.std.proofs.lemmas.Bool.{true≢false, and_parts, or_cases, or_left, or_right, eq-eqb, eqb-true}
use Rattle.std.proofs.lemmas.List.{length-map}
use Rattle.std.proofs.lemmas.List.Folds.{list_any-append}
use Rattle.std.proofs.lemmas.Slice.Eq.{bytes_eq-Decides}
use Rattle.ordered_lists.specs.Lists.{some_of, joins, with_each, Each, Each-append, Each-filter, Each-filter_passes, Each-flat_map}
use Rattle.ordered_lists.specs.Canon.{canon, Each-canon}
use Rattle.ordered_lists.specs.Members.{without, list_any-canon}
use Rattle.event_model.specs.Spans.{PlainSpan}
use Rattle.event_model.specs.Events.{span_of}
use Rattle.event_model.specs.declared.events.Event.{Event}
use Rattle.event_model.specs.declared.operators.Op.{Op}
use Rattle.event_model.specs.declared.operators.Op.TheVariants.{Seq}
use Rattle.event_model.specs.declared.terms.Term.{Term}
use Rattle.event_model.specs.declared.terms.Pat.{Pat, out-Pat, roll-Pat, out-roll-Pat}
use Rattle.event_model.specs.declared.terms.Pat.TheOpen.{Pat-F}
use Rattle.event_model.specs.declared.terms.Pat.TheOpen.Pat-F.{Var, Any, Num, Sym, Text, Comp}
use Rattle.event_model.specs.declared.terms.Pat.TheFolds.{map-Pat, fold_out-Pat}
use Rattle.event_model.specs.declared.atoms.Atom.{Atom as GroundAtom}
use Rattle.event_model.specs.declared.atoms.PatAtom.{PatAtom}
use Rattle.event_model.specs.declared.atoms.NameArity.{NameArity}
use Rattle.event_model.proofs.Layers.{Each as EachPart, args_of as parts_of, by_layers}
use Rattle.interval_ops.specs.Operators.{pair}
use Rattle.ev_bind.specs.Bindings.{Pairs, pair_cmp, single, value_at, exact_pairs}
use Rattle.ev_bind.specs.Matching.{match_of_args, match_of, instance}
use Rattle.ev_bind.specs.Fits.{occurs, occurs_step, occurs_at}
use Rattle.ev_bind.specs.Rows.{row_cmp}
use Rattle.ev_bind.specs.declared.rows.Row.{Row}
use Rattle.ev_bind.proofs.Fitting.{found as match_found}
use Rattle.rule_ast.specs.Trees.{PlainCond, Value, Calculate, Compare, AndAlso, OrElse, Negate, PlainPattern, Atom, Both, Either, Where, Exact, Within, Not, PlainRule, PlainStatement, Clause, Show}
use Rattle.rule_ast.specs.Vars.{slots_of, slots_step, slots_at, atom_vars, vars, is_in, is_in-none, is_in-cons, is_in-append}
use Rattle.rule_ast.specs.Shaped.{passes, parts_pass, is_variable, is_ground, is_head_argument, is_length, is_shaped_cond, is_shaped_pattern, is_shaped_head, is_shaped_rule, is_shaped_statement, IsShaped}
use Rattle.rule_check.specs.Offenders.{cond_vars}
use Rattle.rule_check.specs.Sound.{rules_of, AreWheresBound, AreOrsAlike, AreNotsBound, IsSafe, AreSafe}
use Rattle.rule_check.specs.Verdict.{IsSound}
use Rattle.term_eval.specs.Values.{holds, binds, binds_argument}
use Rattle.pattern_meaning.specs.PatternRows.{spanned, numbered, found, args_of, matched, name_of, is_of, events_of, head_row, rows_of}
use Rattle.pattern_meaning.specs.RuleRows.{joined, joined_rows, is_long, is_short, rows, has_head, head_rows, named_rows}
use Rattle.pattern_meaning.specs.Bound.{BindsExactly, AreRowsBound, AreConditionsBound, AreChainsBound, IsBoundBy, IsRowOfName}
use Rattle.pattern_meaning.proofs.Eachs.{each, Each-more, Each-map}
use Rattle.pattern_meaning.proofs.FoundLaws.{args_of-found}

-- ---- the variables of arguments

abbrev Occurs : ℕ → Pat → Type 0
Occurs slot p = occurs slot p ≡ is_in slot (slots_of p)

parts_occur : (slot : ℕ) (ps : List Pat) → EachPart (Occurs slot) ps → list_any (λ b. b) (map (occurs slot) ps) ≡ is_in slot (flat_map (λ slots. slots) (map slots_of ps))
parts_occur slot [] h = sym (is_in-none slot)
parts_occur slot (p ∷ ps) h = (λ i. h.0 i || parts_occur slot ps h.1 i) ∙ sym (is_in-append slot (slots_of p) (flat_map (λ slots. slots) (map slots_of ps)))

or_false : (a : Bool) → (a || false) ≡ a
or_false true = refl
or_false false = refl

layer_occurs : (slot : ℕ) (a : Pat-F Pat) → EachPart (Occurs slot) (parts_of a) → occurs_step slot (map-Pat Pat Bool (occurs slot) a) ≡ is_in slot (slots_step (map-Pat Pat (List ℕ) slots_of a))
layer_occurs slot (Var s) h = sym (is_in-cons slot s [] ∙ ap (λ b. (s == slot) || b) (is_in-none slot) ∙ or_false (s == slot))
layer_occurs slot Any h = sym (is_in-none slot)
layer_occurs slot (Num n) h = sym (is_in-none slot)
layer_occurs slot (Sym s) h = sym (is_in-none slot)
layer_occurs slot (Text s) h = sym (is_in-none slot)
layer_occurs slot (Comp name ps) h = parts_occur slot ps h

occurs_in : (slot : ℕ) (p : Pat) → Occurs slot p
occurs_in slot = by_layers (Occurs slot) (λ a h.
    occurs_at slot (roll-Pat a) (out-roll-Pat a) ∙ layer_occurs slot a h ∙ sym (ap (is_in slot) (slots_at (roll-Pat a) (out-roll-Pat a))))

all_occur : (slot : ℕ) (ps : List Pat) → list_any (occurs slot) ps ≡ is_in slot (flat_map slots_of ps)
all_occur slot [] = sym (is_in-none slot)
all_occur slot (p ∷ ps) = (λ i. occurs_in slot p i || all_occur slot ps i) ∙ sym (is_in-append slot (slots_of p) (flat_map slots_of ps))

-- ---- atoms

atom_bound : (p : PatAtom) (r : Row) → Each (BindsExactly (atom_vars p)) (matched p r)
atom_bound p r = at (match_of_args p.args (args_of r)) refl
  where
    a : GroundAtom
    a = record { name = p.name; args = args_of r }

    at : (o : Option Pairs) → match_of_args p.args (args_of r) ≡ o → Each (BindsExactly (atom_vars p)) (some_of (spanned (Some r.span) o))
    at None e = tt
    at (Some b) e =
        let is : match_of p a ≡ Some b = ap (λ t. cond t (match_of_args p.args (args_of r)) None) ((bytes_eq-Decides p.name p.name).1 refl) ∙ e in
        ((λ slot. (match_found p a b is).slots slot ∙ all_occur slot p.args), tt)

-- ---- joins

slot_bound : (b : Pairs) (slot : ℕ) → is_some (value_at b slot) ≡ list_any (λ q. q.0 == slot) b
slot_bound [] slot = refl
slot_bound (p ∷ b) slot = at (p.0 == slot) (slot_bound b slot)
  where
    at : (t : Bool) → is_some (value_at b slot) ≡ list_any (λ q. q.0 == slot) b
        → is_some (cond t (Some p.1) (value_at b slot)) ≡ (t || list_any (λ q. q.0 == slot) b)
    at true e = refl
    at false e = e

union_bound : (a b : Pairs) (slot : ℕ) → is_some (value_at (canon pair_cmp (a ++ b)) slot) ≡ (is_some (value_at a slot) || is_some (value_at b slot))
union_bound a b slot =
    slot_bound (canon pair_cmp (a ++ b)) slot
    ∙ list_any-canon exact_pairs (λ q. q.0 == slot) (a ++ b)
    ∙ list_any-append (λ q. q.0 == slot) a b
    ∙ sym (λ i. slot_bound a slot i || slot_bound b slot i)

pair_bound : (op : Op) (s t : List ℕ) (x y : Row) → BindsExactly s x → BindsExactly t y → Each (BindsExactly (s ++ t)) (some_of (joined op x y))
pair_bound op s t x y left right = at (pair op x.span y.span) (single (x.binding ++ y.binding))
  where
    at : (o : Option PlainSpan) (c : Bool)
        → Each (BindsExactly (s ++ t)) (some_of (spanned o (cond c (Some (canon pair_cmp (x.binding ++ y.binding))) None)))
    at None c = tt
    at (Some span) false = tt
    at (Some span) true = ((λ slot. union_bound x.binding y.binding slot ∙ (λ i. left slot i || right slot i) ∙ sym (is_in-append slot s t)), tt)

join_bound : (op : Op) (s t : List ℕ) (xs ys : List Row) → Each (BindsExactly s) xs → Each (BindsExactly t) ys → Each (BindsExactly (s ++ t)) (joined_rows op xs ys)
join_bound op s t xs ys left right =
    Each-canon row_cmp (BindsExactly (s ++ t)) (joins (joined op) xs ys)
    (Each-flat_map (BindsExactly s) (BindsExactly (s ++ t)) (with_each (joined op) ys)
    (λ x h. Each-flat_map (BindsExactly t) (BindsExactly (s ++ t)) (λ y. some_of (joined op x y)) (λ y g. pair_bound op s t x y h g) ys right)
    xs left)

-- ---- patterns

same_slots : (s t : List ℕ) → ((slot : ℕ) → is_in slot s ≡ is_in slot t) → (xs : List Row) → Each (BindsExactly s) xs → Each (BindsExactly t) xs
same_slots s t same = Each-more (BindsExactly s) (BindsExactly t) (λ row h slot. h slot ∙ same slot)

or_has_left : (a b : Bool) → (b ≡ true → a ≡ true) → a ≡ (a || b)
or_has_left true b h = refl
or_has_left false true h = h refl
or_has_left false false h = refl

or_has_right : (a b : Bool) → (a ≡ true → b ≡ true) → b ≡ (a || b)
or_has_right true b h = h refl
or_has_right false b h = refl

pub rows_bound : (named : NameArity → List Row) (p : PlainPattern) → AreOrsAlike p → AreRowsBound named p
rows_bound named (Atom a) h =
    Each-canon row_cmp (BindsExactly (atom_vars a)) (flat_map (matched a) (named (name_of a)))
    (Each-flat_map (λ _. Unit {0}) (BindsExactly (atom_vars a)) (matched a) (λ r _. atom_bound a r) (named (name_of a)) (each (named (name_of a))))
rows_bound named (Both op l r) h = join_bound op (vars l) (vars r) (rows named l) (rows named r) (rows_bound named l h.0) (rows_bound named r h.1)
rows_bound named (Either l r) h =
    let both : List ℕ = vars l ++ vars r in
    let left : Each (BindsExactly both) (rows named l) =
    same_slots (vars l) both (λ s. or_has_left (is_in s (vars l)) (is_in s (vars r)) (h.3 s) ∙ sym (is_in-append s (vars l) (vars r))) (rows named l) (rows_bound named l h.0) in
    let right : Each (BindsExactly both) (rows named r) =
    same_slots (vars r) both (λ s. or_has_right (is_in s (vars l)) (is_in s (vars r)) (h.2 s) ∙ sym (is_in-append s (vars l) (vars r))) (rows named r) (rows_bound named r h.1) in
    Each-canon row_cmp (BindsExactly both) (rows named l ++ rows named r) (Each-append (BindsExactly both) (rows named l) (rows named r) left right)
rows_bound named (Where p c) h =
    let kept = filter (λ r. holds c r.binding) (rows named p) in
    Each-canon row_cmp (BindsExactly (vars p)) kept (Each-filter (BindsExactly (vars p)) (λ r. holds c r.binding) (rows named p) (rows_bound named p h))
rows_bound named (Exact p q) h =
    Each-canon row_cmp (BindsExactly (vars p)) (filter (is_long q) (rows named p)) (Each-filter (BindsExactly (vars p)) (is_long q) (rows named p) (rows_bound named p h))
rows_bound named (Within p q) h =
    Each-canon row_cmp (BindsExactly (vars p)) (filter (is_short q) (rows named p)) (Each-filter (BindsExactly (vars p)) (is_short q) (rows named p) (rows_bound named p h))
rows_bound named (Not i b a) h =
    let both : List ℕ = vars b ++ vars a in
    let pairs : List Row = joined_rows Seq (rows named b) (rows named a) in
    let chains : List Row = joined_rows Seq (joined_rows Seq (rows named b) (rows named i)) (rows named a) in
    Each-canon row_cmp (BindsExactly both) (without row_cmp pairs chains) (Each-filter (BindsExactly both) _ pairs
    (join_bound Seq (vars b) (vars a) (rows named b) (rows named a) (rows_bound named b h.1) (rows_bound named a h.2)))

-- ---- arguments whose variables are bound

module _ (f g : ℕ → Bool) where
  passes_at : (t : ℕ → Bool) (p : Pat) {x : Pat-F Pat} → out-Pat p ≡ x → passes t false p ≡ parts_pass t false (map-Pat Pat Bool (passes t false) x)
  unfolding passes
  passes_at t p e = fold_out-Pat Bool (parts_pass t false) p ∙ ap (λ x. parts_pass t false (map-Pat Pat Bool (passes t false) x)) e

  -- what passes one test passes another that all of its variables pass
  abbrev Passes : Pat → Type 0
  Passes p = passes g false p ≡ true → ((s : ℕ) → is_in s (slots_of p) ≡ true → f s ≡ true) → passes f false p ≡ true

  parts_more : (ps : List Pat) → EachPart Passes ps → list_all (λ b. b) (map (passes g false) ps) ≡ true
      → ((s : ℕ) → is_in s (flat_map (λ slots. slots) (map slots_of ps)) ≡ true → f s ≡ true)
      → list_all (λ b. b) (map (passes f false) ps) ≡ true
  parts_more [] h e v = refl
  parts_more (p ∷ ps) h e v =
      let parts = and_parts (passes g false p) (list_all (λ b. b) (map (passes g false) ps)) e in
      let more : List ℕ = flat_map (λ slots. slots) (map slots_of ps) in
      let first : passes f false p ≡ true = h.0 parts.0 (λ s i. v s (is_in-append s (slots_of p) more ∙ or_left (is_in s (slots_of p)) (is_in s more) i)) in
      let rest : list_all (λ b. b) (map (passes f false) ps) ≡ true = parts_more ps h.1 parts.1 (λ s i. v s (is_in-append s (slots_of p) more ∙ or_right (is_in s (slots_of p)) (is_in s more) i)) in
      λ i. first i && rest i

  layer_more : (a : Pat-F Pat) → EachPart Passes (parts_of a) → parts_pass g false (map-Pat Pat Bool (passes g false) a) ≡ true
      → ((s : ℕ) → is_in s (slots_step (map-Pat Pat (List ℕ) slots_of a)) ≡ true → f s ≡ true)
      → parts_pass f false (map-Pat Pat Bool (passes f false) a) ≡ true
  layer_more (Var slot) h e v = v slot (is_in-cons slot slot [] ∙ or_left (slot == slot) (is_in slot []) (eq-eqb slot slot refl))
  layer_more Any h e v = e
  layer_more (Num n) h e v = refl
  layer_more (Sym s) h e v = refl
  layer_more (Text s) h e v = refl
  layer_more (Comp name ps) h e v = parts_more ps h e v

  passes_more : (p : Pat) → Passes p
  passes_more = by_layers Passes (λ a h e v.
      passes_at f (roll-Pat a) (out-roll-Pat a)
      ∙ layer_more a h (sym (passes_at g (roll-Pat a) (out-roll-Pat a)) ∙ e) (λ s i. v s (ap (is_in s) (slots_at (roll-Pat a) (out-roll-Pat a)) ∙ i)))

-- ---- conditions

abbrev Bound : Pairs → List ℕ → Type 0
Bound b slots = (s : ℕ) → is_in s slots ≡ true → is_some (value_at b s) ≡ true

bound_left : (b : Pairs) (xs ys : List ℕ) → Bound b (xs ++ ys) → Bound b xs
bound_left b xs ys h s e = h s (is_in-append s xs ys ∙ or_left (is_in s xs) (is_in s ys) e)

bound_right : (b : Pairs) (xs ys : List ℕ) → Bound b (xs ++ ys) → Bound b ys
bound_right b xs ys h s e = h s (is_in-append s xs ys ∙ or_right (is_in s xs) (is_in s ys) e)

binds_both : (b : Pairs) (k : ℕ) (l r : PlainCond) → (is_shaped_cond k l ≡ true → Bound b (cond_vars l) → binds b l ≡ true)
    → (is_shaped_cond k r ≡ true → Bound b (cond_vars r) → binds b r ≡ true)
    → (is_shaped_cond k l && is_shaped_cond k r) ≡ true → Bound b (cond_vars l ++ cond_vars r) → (binds b l && binds b r) ≡ true
binds_both b k l r left right e h =
    let parts = and_parts (is_shaped_cond k l) (is_shaped_cond k r) e in
    let first : binds b l ≡ true = left parts.0 (bound_left b (cond_vars l) (cond_vars r) h) in
    let second : binds b r ≡ true = right parts.1 (bound_right b (cond_vars l) (cond_vars r) h) in
    λ i. first i && second i

binds_all : (b : Pairs) (k : ℕ) (c : PlainCond) → is_shaped_cond k c ≡ true → Bound b (cond_vars c) → binds b c ≡ true
binds_all b k (Value p) e h = passes_more (λ s. is_some (value_at b s)) (λ s. nat_lt s k) p e h
binds_all b k (Calculate calc l r) e h = binds_both b k l r (binds_all b k l) (binds_all b k r) e h
binds_all b k (Compare cmp l r) e h = binds_both b k l r (binds_all b k l) (binds_all b k r) e h
binds_all b k (AndAlso l r) e h = binds_both b k l r (binds_all b k l) (binds_all b k r) e h
binds_all b k (OrElse l r) e h = binds_both b k l r (binds_all b k l) (binds_all b k r) e h
binds_all b k (Negate c) e h = binds_all b k c e h

bound_by : (slots : List ℕ) (row : Row) → BindsExactly slots row → Bound row.binding slots
bound_by slots row h s e = h s ∙ e

pub conditions_bound : (named : NameArity → List Row) (k : ℕ) (p : PlainPattern) → is_shaped_pattern k p ≡ true → AreOrsAlike p → AreWheresBound p → AreConditionsBound named p
conditions_bound named k (Atom a) e o w = tt
conditions_bound named k (Both op l r) e o w =
    let parts = and_parts (is_shaped_pattern k l) (is_shaped_pattern k r) e in
    (conditions_bound named k l parts.0 o.0 w.0, conditions_bound named k r parts.1 o.1 w.1)
conditions_bound named k (Either l r) e o w =
    let parts = and_parts (is_shaped_pattern k l) (is_shaped_pattern k r) e in
    (conditions_bound named k l parts.0 o.0 w.0, conditions_bound named k r parts.1 o.1 w.1)
conditions_bound named k (Where p c) e o w =
    let parts = and_parts (is_shaped_pattern k p) (is_shaped_cond k c) e in (
      conditions_bound named k p parts.0 o w.0,
      Each-more (BindsExactly (vars p)) (λ row. binds row.binding c ≡ true)
          (λ row h. binds_all row.binding k c parts.1 (λ s i. bound_by (vars p) row h s (w.1 s i))) (rows named p) (rows_bound named p o),
    )
conditions_bound named k (Exact p q) e o w = conditions_bound named k p (and_parts (is_shaped_pattern k p) (is_length q) e).0 o w
conditions_bound named k (Within p q) e o w = conditions_bound named k p (and_parts (is_shaped_pattern k p) (is_length q) e).0 o w
conditions_bound named k (Not i b a) e o w =
    let first = and_parts (is_shaped_pattern k i) (is_shaped_pattern k b && is_shaped_pattern k a) e in
    let rest = and_parts (is_shaped_pattern k b) (is_shaped_pattern k a) first.1 in
    (conditions_bound named k i first.0 o.0 w.0, conditions_bound named k b rest.0 o.1 w.1, conditions_bound named k a rest.1 o.2 w.2)

-- ---- chains

inner_within : (b i a : Bool) → (i ≡ true → (b || a) ≡ true) → ((b || i) || a) ≡ (b || a)
inner_within true i a h = refl
inner_within false true a h = sym (h refl)
inner_within false false a h = refl

pub chains_bound : (named : NameArity → List Row) (p : PlainPattern) → AreOrsAlike p → AreNotsBound p → AreChainsBound named p
chains_bound named (Atom a) o n = tt
chains_bound named (Both op l r) o n = (chains_bound named l o.0 n.0, chains_bound named r o.1 n.1)
chains_bound named (Either l r) o n = (chains_bound named l o.0 n.0, chains_bound named r o.1 n.1)
chains_bound named (Where p c) o n = chains_bound named p o n
chains_bound named (Exact p q) o n = chains_bound named p o n
chains_bound named (Within p q) o n = chains_bound named p o n
chains_bound named (Not i b a) o n = (
  chains_bound named i o.0 n.0,
  chains_bound named b o.1 n.1,
  chains_bound named a o.2 n.2,
  same_slots ((vars b ++ vars i) ++ vars a) (vars b ++ vars a) same (joined_rows Seq front (rows named a))
      (join_bound Seq (vars b ++ vars i) (vars a) front (rows named a)
      (join_bound Seq (vars b) (vars i) (rows named b) (rows named i) (rows_bound named b o.1) (rows_bound named i o.0))
      (rows_bound named a o.2)),
)
  where
    front : List Row
    front = joined_rows Seq (rows named b) (rows named i)

    same : (s : ℕ) → is_in s ((vars b ++ vars i) ++ vars a) ≡ is_in s (vars b ++ vars a)
    same s =
        is_in-append s (vars b ++ vars i) (vars a)
        ∙ ap (λ t. t || is_in s (vars a)) (is_in-append s (vars b) (vars i))
        ∙ inner_within (is_in s (vars b)) (is_in s (vars i)) (is_in s (vars a)) (λ e. sym (is_in-append s (vars b) (vars a)) ∙ n.3 s e)
        ∙ sym (is_in-append s (vars b) (vars a))

-- ---- heads

head_argument : (k : ℕ) (p : Pat) → is_head_argument k p ≡ true → passes (λ s. true) false p ≡ true
head_argument k p e = elim (or_cases (is_variable k (out-Pat p)) (is_ground p) e) [
  | inl v ↦ passes_at (λ s. true) (λ s. true) (λ s. true) p refl ∙ variable (out-Pat p) v
  | inr ground ↦ passes_more (λ s. true) (λ s. false) p ground (λ s i. refl)
]
  where
    variable : (x : Pat-F Pat) → is_variable k x ≡ true → parts_pass (λ s. true) false (map-Pat Pat Bool (passes (λ s. true) false) x) ≡ true
    variable (Var slot) v = refl
    variable Any v = v
    variable (Num n) v = refl
    variable (Sym s) v = refl
    variable (Text s) v = refl
    variable (Comp name ps) v = absurd (true≢false (sym v))

binds_arguments : (b : Pairs) (k : ℕ) (ps : List Pat) → list_all (is_head_argument k) ps ≡ true → Bound b (flat_map slots_of ps) → list_all (binds_argument b) ps ≡ true
binds_arguments b k [] e h = refl
binds_arguments b k (p ∷ ps) e h =
    let parts = and_parts (is_head_argument k p) (list_all (is_head_argument k) ps) e in
    let first : binds_argument b p ≡ true = passes_more (λ s. is_some (value_at b s)) (λ s. true) p (head_argument k p parts.0) (bound_left b (slots_of p) (flat_map slots_of ps) h) in
    let rest : list_all (binds_argument b) ps ≡ true = binds_arguments b k ps parts.1 (bound_right b (slots_of p) (flat_map slots_of ps) h) in
    λ i. first i && rest i

-- ---- rules

rule_bound : (named : NameArity → List Row) (r : PlainRule) → is_shaped_rule r ≡ true → IsSafe r → IsBoundBy named r
rule_bound named r e safe =
    let k : ℕ = length r.vars in
    let shapes = and_parts _ (is_shaped_head k r.head && is_shaped_pattern k r.body) e in
    let parts = and_parts (is_shaped_head k r.head) (is_shaped_pattern k r.body) shapes.1 in
    let arguments = and_parts (nat_le (length r.head.args) 16) (list_all (is_head_argument k) r.head.args) parts.0 in
    let body : AreRowsBound named r.body = rows_bound named r.body safe.ors_alike in
    record {
      body = body;
      conditions = conditions_bound named k r.body parts.1 safe.ors_alike safe.wheres_bound;
      chains = chains_bound named r.body safe.ors_alike safe.nots_bound;
      head = Each-more (BindsExactly (vars r.body)) (λ row. list_all (binds_argument row.binding) r.head.args ≡ true)
          (λ row h. binds_arguments row.binding k r.head.args arguments.1 (λ s i. bound_by (vars r.body) row h s (safe.head_bound s i)))
          (rows named r.body) body;
    }

bound_rules : (named : NameArity → List Row) (statements : List PlainStatement) → list_all is_shaped_statement statements ≡ true → AreSafe (rules_of statements) → Each (IsBoundBy named) (rules_of statements)
bound_rules named [] e safe = tt
bound_rules named (Clause r ∷ statements) e safe =
    let parts = and_parts (is_shaped_rule r) (list_all is_shaped_statement statements) e in
    (rule_bound named r parts.0 safe.0, bound_rules named statements parts.1 safe.1)
bound_rules named (Show names ∷ statements) e safe = bound_rules named statements (and_parts _ (list_all is_shaped_statement statements) e).1 safe

pub rules_bound : (statements : List PlainStatement) (named : NameArity → List Row) → IsShaped statements → IsSound statements → Each (IsBoundBy named) (rules_of statements)
rules_bound statements named shaped sound = bound_rules named statements shaped.each sound.safe

-- ---- the rows of a name

found_of_name : (n : NameArity) (args : List Term) (span : PlainSpan) → n.arity ≡ length args → IsRowOfName n (found args span)
found_of_name n args span e = (ap (numbered 0) (sym (args_of-found args span)), ap length (args_of-found args span) ∙ sym e)

events_of_name : (events : List Event) (n : NameArity) → Each (IsRowOfName n) (events_of events n)
events_of_name events n =
    Each-map (λ (e : Event). Unit {0} × (is_of n e.atom ≡ true)) (IsRowOfName n) (λ e. found e.atom.args (span_of e))
    (λ e h. found_of_name n e.atom.args (span_of e) (eqb-true n.arity (length e.atom.args) (and_parts (bytes_eq n.name e.atom.name) (n.arity == length e.atom.args) h.1).1))
    (filter (λ e. is_of n e.atom) events) (Each-filter_passes (λ _. Unit {0}) (λ e. is_of n e.atom) events (each events))

heads_of_name : (named : NameArity → List Row) (n : NameArity) (r : PlainRule) → has_head n r ≡ true → Each (IsRowOfName n) (head_rows named r)
heads_of_name named n r e =
    let arity : n.arity ≡ length r.head.args = eqb-true n.arity (length r.head.args) (and_parts (bytes_eq n.name r.head.name) (n.arity == length r.head.args) e).1 in
    Each-canon row_cmp (IsRowOfName n) (map (head_row r.head) (rows named r.body))
    (Each-map (λ _. Unit {0}) (IsRowOfName n) (head_row r.head)
    (λ row _. found_of_name n (map (λ p. instance p row.binding) r.head.args) row.span (arity ∙ sym (length-map r.head.args (λ p. instance p row.binding))))
    (rows named r.body) (each (rows named r.body)))

pub names_bound : (rules : List PlainRule) (events : List Event) (depth : ℕ) (n : NameArity) → Each (IsRowOfName n) (named_rows rules events depth n)
names_bound rules events zero n = Each-canon row_cmp (IsRowOfName n) (events_of events n) (events_of_name events n)
names_bound rules events (suc k) n =
    let own : List Row = rows_of (events_of events n) in
    let heads : List Row = flat_map (head_rows (named_rows rules events k)) (filter (has_head n) rules) in
    Each-canon row_cmp (IsRowOfName n) (own ++ heads) (Each-append (IsRowOfName n) own heads
    (Each-canon row_cmp (IsRowOfName n) (events_of events n) (events_of_name events n))
    (Each-flat_map (λ (r : PlainRule). Unit {0} × (has_head n r ≡ true)) (IsRowOfName n) (head_rows (named_rows rules events k))
    (λ r h. heads_of_name (named_rows rules events k) n r h.1)
    (filter (has_head n) rules) (Each-filter_passes (λ _. Unit {0}) (has_head n) rules (each rules))))
