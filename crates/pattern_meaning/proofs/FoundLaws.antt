-- What the plain evaluator of rules finds is what stands.
use Rattle.std.proofs.Common.{◌≡◌, ℕ, suc, Bool, true, false, cond, ◌&&◌, ◌==◌, List, [], ◌∷◌, ◌++◌, map, length, Option, Some, None, refl, sym, ap, ◌∙◌, eq-eqb, arith}
use Rattle.std.specs.Prelude.{option_and_then}
use Rattle.std.specs.List.{filter, flat_map}
use Rattle.std.specs.Str.{bytes_eq}
use Rattle.std.specs.declared.cmp.Ordering.{Ordering}
use Rattle.std.proofs.lemmas.Bool.{true≢false, and_parts}
use Rattle.std.proofs.lemmas.List.{length-map}
use Rattle.std.proofs.lemmas.List.Elements.{filter-append}
use Rattle.std.proofs.lemmas.Slice.Eq.{bytes_eq-Decides}
use Rattle.ordered_lists.specs.Lists.{some_of, Each, flat_map_cut}
use Rattle.ordered_lists.specs.Canon.{canon, Exact}
use Rattle.ordered_lists.specs.Members.{canon-map-canon, canon-append-canon_both, canon-flat_map-canon}
use Rattle.event_model.specs.Spans.{PlainSpan}
use Rattle.event_model.specs.Events.{span_of}
use Rattle.event_model.specs.declared.events.Event.{Event}
use Rattle.event_model.specs.EventOrder.{detection_cmp, exact_detections}
use Rattle.event_model.specs.declared.terms.Term.{Term}
use Rattle.event_model.specs.declared.terms.Pat.{Pat}
use Rattle.event_model.specs.declared.atoms.PatAtom.{PatAtom}
use Rattle.event_model.specs.declared.atoms.NameArity.{NameArity}
use Rattle.event_model.specs.declared.events.Detection.{Detection}
use Rattle.ev_bind.specs.Bindings.{Pairs, union_of}
use Rattle.ev_bind.specs.Matching.{pairs_of, pairs_of_all, with_pairs, match_of_args, instance}
use Rattle.ev_bind.specs.Rows.{exact_rows}
use Rattle.ev_bind.specs.declared.rows.Row.{Row}
use Rattle.rule_ast.specs.Trees.{PlainRule}
use Rattle.pattern_meaning.proofs.Eachs.{each}
use Rattle.pattern_meaning.specs.PatternRows.{rows_of, numbered, found, args_of, matched, spanned, name_of, is_of, events_of, head_row}
use Rattle.pattern_meaning.specs.Standing.{detection_of}
use Rattle.pattern_meaning.specs.RuleRows.{has_head}
use Rattle.pattern_meaning.specs.Found.{of_name, found_row, named_in, matched_rows, head_detection, as_detection}

numbered-args : (k : ℕ) (ts : List Term) → map (λ p. p.1) (numbered k ts) ≡ ts
numbered-args k [] = refl
numbered-args k (t ∷ ts) = ap (λ l. t ∷ l) (numbered-args (suc k) ts)

-- a row of a name keeps its arguments
pub args_of-found : (ts : List Term) (span : PlainSpan) → args_of (found ts span) ≡ ts
args_of-found ts span = numbered-args 0 ts

map-append : {A B : Type 0} (f : A → B) (xs ys : List A) → map f (xs ++ ys) ≡ map f xs ++ map f ys
map-append f [] ys = refl
map-append f (x ∷ xs) ys = ap (λ l. f x ∷ l) (map-append f xs ys)

flat_map-map : {A B C : Type 0} (f : B → List C) (g : A → B) (xs : List A) → flat_map f (map g xs) ≡ flat_map (λ x. f (g x)) xs
flat_map-map f g [] = refl
flat_map-map f g (x ∷ xs) = ap (λ l. f (g x) ++ l) (flat_map-map f g xs)

-- ---- the rows of an atom, detection by detection

with_nothing : (o : Option Pairs) → with_pairs o None ≡ None
with_nothing None = refl
with_nothing (Some xs) = refl

lengths_differ : (ps : List Pat) (ts : List Term) → (length ps ≡ length ts → ⊥) → pairs_of_all (map pairs_of ps) ts ≡ None
lengths_differ [] [] ne = absurd (ne refl)
lengths_differ [] (t ∷ ts) ne = refl
lengths_differ (p ∷ ps) [] ne = refl
lengths_differ (p ∷ ps) (t ∷ ts) ne = ap (with_pairs (pairs_of p t)) (lengths_differ ps ts (λ e. ne (omega (arith, e)))) ∙ with_nothing (pairs_of p t)

skips : (p : PatAtom) (d : Detection) → is_of (name_of p) d.atom ≡ false → matched_rows p d ≡ []
skips p d other = at (bytes_eq p.name d.atom.name) refl other
  where
    at : (b : Bool) → bytes_eq p.name d.atom.name ≡ b → (b && (length p.args == length d.atom.args)) ≡ false → some_of (spanned (Some d.span) (cond b (match_of_args p.args d.atom.args) None)) ≡ []
    at false n h = refl
    at true n h = ap (λ o. some_of (spanned (Some d.span) (option_and_then union_of o))) (lengths_differ p.args d.atom.args (λ same. true≢false (sym (eq-eqb (length p.args) (length d.atom.args) same) ∙ h)))

keeps : (p : PatAtom) (d : Detection) → is_of (name_of p) d.atom ≡ true → matched_rows p d ≡ matched p (found_row d)
keeps p d own = at (bytes_eq p.name d.atom.name) refl own
  where
    at : (b : Bool) → bytes_eq p.name d.atom.name ≡ b → (b && (length p.args == length d.atom.args)) ≡ true → some_of (spanned (Some d.span) (cond b (match_of_args p.args d.atom.args) None)) ≡ matched p (found_row d)
    at false n h = absurd (true≢false (sym h))
    at true n h = ap (λ ts. some_of (spanned (Some d.span) (match_of_args p.args ts))) (sym (args_of-found d.atom.args d.span))

pub atom_rows_are : (p : PatAtom) (ds : List Detection) → rows_of (flat_map (matched_rows p) ds) ≡ rows_of (flat_map (matched p) (named_in ds (name_of p)))
atom_rows_are p ds =
    ap rows_of (flat_map_cut (λ _. Unit {0}) (λ d. is_of (name_of p) d.atom) (matched_rows p) (λ d. matched p (found_row d)) (λ d _ h. skips p d h) (λ d _ h. keeps p d h) ds (each ds)
    ∙ sym (flat_map-map (matched p) found_row (of_name (name_of p) ds)))
    ∙ sym (canon-flat_map-canon exact_rows exact_rows (matched p) (map found_row (of_name (name_of p) ds)))

-- ---- the rounds find the rows of names

pub events_are : (n : NameArity) (es : List Event) → map found_row (of_name n (map as_detection es)) ≡ events_of es n
events_are n [] = refl
events_are n (e ∷ es) = at (is_of n e.atom) (events_are n es)
  where
    at : (b : Bool) → map found_row (of_name n (map as_detection es)) ≡ events_of es n
        → map found_row (cond b (as_detection e ∷ of_name n (map as_detection es)) (of_name n (map as_detection es)))
        ≡ map (λ e. found e.atom.args (span_of e)) (cond b (e ∷ filter (λ e. is_of n e.atom) es) (filter (λ e. is_of n e.atom) es))
    at true h = ap (λ l. found e.atom.args (span_of e) ∷ l) h
    at false h = h

is_head : (n : NameArity) (r : PlainRule) (x : Row) → is_of n (head_detection r.head x).atom ≡ has_head n r
is_head n r x = ap (λ k. bytes_eq n.name r.head.name && (n.arity == k)) (length-map r.head.args (λ p. instance p x.binding))

pub heads_of : (n : NameArity) (r : PlainRule) (b : Bool) → has_head n r ≡ b → (xs : List Row) → map found_row (of_name n (map (head_detection r.head) xs)) ≡ cond b (map (head_row r.head) xs) []
heads_of n r true e [] = refl
heads_of n r false e [] = refl
heads_of n r true e (x ∷ xs) =
    ap (λ t. map found_row (cond t (head_detection r.head x ∷ of_name n (map (head_detection r.head) xs)) (of_name n (map (head_detection r.head) xs)))) (is_head n r x ∙ e)
    ∙ ap (λ l. head_row r.head x ∷ l) (heads_of n r true e xs)
heads_of n r false e (x ∷ xs) =
    ap (λ t. map found_row (cond t (head_detection r.head x ∷ of_name n (map (head_detection r.head) xs)) (of_name n (map (head_detection r.head) xs)))) (is_head n r x ∙ e)
    ∙ heads_of n r false e xs

pub rows_in_both : (n : NameArity) (xs ys : List Detection) → map found_row (of_name n (xs ++ ys)) ≡ map found_row (of_name n xs) ++ map found_row (of_name n ys)
rows_in_both n xs ys = ap (map found_row) (filter-append (λ d. is_of n d.atom) xs ys) ∙ map-append found_row (of_name n xs) (of_name n ys)

-- ---- what stands

-- a detection of a name, out of its row
own_again : (n : NameArity) (ds : List Detection) → map (detection_of n) (map found_row (of_name n ds)) ≡ of_name n ds
own_again n [] = refl
own_again n (d ∷ ds) = at (is_of n d.atom) refl (own_again n ds)
  where
    at : (b : Bool) → is_of n d.atom ≡ b → map (detection_of n) (map found_row (of_name n ds)) ≡ of_name n ds → map (detection_of n) (map found_row (cond b (d ∷ of_name n ds) (of_name n ds))) ≡ cond b (d ∷ of_name n ds) (of_name n ds)
    at false e h = h
    at true e h =
        let parts = and_parts (bytes_eq n.name d.atom.name) (n.arity == length d.atom.args) e in
        λ i. record { atom = record { name = (bytes_eq-Decides n.name d.atom.name).0 parts.0 i; args = args_of-found d.atom.args d.span i }; span = d.span } ∷ h i

pub named_detections : (n : NameArity) (ds : List Detection) (rs : List Row) → named_in ds n ≡ rs → canon detection_cmp (of_name n ds) ≡ canon detection_cmp (map (detection_of n) rs)
named_detections n ds rs e =
    ap (canon detection_cmp) (sym (own_again n ds))
    ∙ sym (canon-map-canon exact_detections exact_rows (detection_of n) (map found_row (of_name n ds)))
    ∙ ap (λ l. canon detection_cmp (map (detection_of n) l)) e

pub parts_alike : {A K : Type 0} {R : K → K → Ordering} (o : Exact R) (f g : A → List K) (xs : List A) → Each (λ x. canon R (f x) ≡ canon R (g x)) xs → canon R (flat_map f xs) ≡ canon R (flat_map g xs)
parts_alike o f g [] a = refl
parts_alike {R = R} o f g (x ∷ xs) a =
    let rest = parts_alike o f g xs a.1 in
    sym (canon-append-canon_both o (f x) (flat_map f xs)) ∙ (λ i. canon R (a.0 i ++ rest i)) ∙ canon-append-canon_both o (g x) (flat_map g xs)
