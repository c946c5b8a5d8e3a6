-- Sets of needed names that grow.
use Rattle.std.proofs.Common.{ℕ, zero, suc, ◌≡◌, ◌+◌, ◌<◌, Bool, true, false, ◌||◌, List, [], ◌∷◌, ◌++◌, map, length, take, get_or, refl, sym, ap, ◌∙◌, arith, subst, append_assoc, append-nil, if◌then◌else◌}
use Rattle.std.specs.List.{flat_map}
use Rattle.std.specs.Ordering.{is_eq, eq_by_cmp}
use Rattle.std.proofs.lemmas.List.{take_more, map-append}
use Rattle.std.proofs.lemmas.List.Concat.{flat_map-append}
use Rattle.ordered_lists.specs.Lists.{Each-append, total, total-append}
use Rattle.ordered_lists.specs.Canon.{has, has-append}
use Rattle.event_model.specs.EventOrder.{name_cmp, exact_names, same_names}
use Rattle.event_model.specs.declared.atoms.NameArity.{NameArity}
use Rattle.indexmap.specs.IndexSet.{insert_key}
use Rattle.rule_ast.specs.Trees.{PlainPattern, Atom, Both, Either, Where, Exact, Within, Not, PlainRule}
use Rattle.rule_check.specs.Names.{name_of_atom, body_names}
use Rattle.binariser.specs.Needed.{IsGrown, own_names, parts_of, bodies_names, AreShort}
use Rattle.binariser.proofs.ClimbingLaws.{size}

or_none : (b : Bool) → b ≡ (b || false)
or_none true = refl
or_none false = refl

or_assoc : (a b c : Bool) → ((a || b) || c) ≡ (a || (b || c))
or_assoc true b c = refl
or_assoc false b c = refl

or_among : (a o f q : Bool) → ((a || o) || (f || q)) ≡ (a || (f || (o || q)))
or_among true o f q = refl
or_among false true true q = refl
or_among false true false q = refl
or_among false false f q = refl

pub grown_none : (xs : List NameArity) → IsGrown xs [] xs
grown_none xs = record { kept = ([], sym (append-nil xs)); names = λ m. or_none (has name_cmp m xs) }

pub grown_then : (a b c xs ys : List NameArity) → IsGrown a xs b → IsGrown b ys c → IsGrown a (xs ++ ys) c
grown_then a b c xs ys g h = record {
  kept = (g.kept.0 ++ h.kept.0, h.kept.1 ∙ ap (λ l. l ++ h.kept.0) g.kept.1 ∙ append_assoc a g.kept.0 h.kept.0);
  names = λ m.
      h.names m ∙ ap (λ t. t || has name_cmp m ys) (g.names m) ∙ or_assoc (has name_cmp m a) (has name_cmp m xs) (has name_cmp m ys)
      ∙ ap (λ t. has name_cmp m a || t) (sym (has-append exact_names m xs ys));
}

pub grown_same : (a xs ys b : List NameArity) → ((m : NameArity) → has name_cmp m xs ≡ has name_cmp m ys) → IsGrown a xs b → IsGrown a ys b
grown_same a xs ys b e g = record { kept = g.kept; names = λ m. g.names m ∙ ap (λ t. has name_cmp m a || t) (e m) }

pub grown_one : (xs : List NameArity) (n : NameArity) → IsGrown xs (n ∷ []) (insert_key (eq_by_cmp name_cmp) xs n)
grown_one xs n = at (has name_cmp n xs) refl
  where
    at : (b : Bool) → has name_cmp n xs ≡ b → IsGrown xs (n ∷ []) (if b then xs else xs ++ n ∷ [])
    at true e = record { kept = ([], sym (append-nil xs)); names = λ m. known m (is_eq (name_cmp m n)) refl }
      where
        known : (m : NameArity) (c : Bool) → is_eq (name_cmp m n) ≡ c
            → has name_cmp m xs ≡ (has name_cmp m xs || (is_eq (name_cmp m n) || false))
        known m true d =
            let there : has name_cmp m xs ≡ true = ap (λ k. has name_cmp k xs) (same_names m n d) ∙ e in
            there ∙ sym (ap (λ t. t || (is_eq (name_cmp m n) || false)) there)
        known m false d = or_none (has name_cmp m xs) ∙ sym (ap (λ t. has name_cmp m xs || (t || false)) d)
    at false e = record { kept = (n ∷ [], refl); names = λ m. has-append exact_names m xs (n ∷ []) }

-- ---- the parts of a pattern

three : (a b c : Bool) → (a || (b || c)) ≡ (a || (b || (c || false)))
three true b c = refl
three false true c = refl
three false false c = or_none c

-- a pattern's names are its own and those of its parts
own_and_parts : (p : PlainPattern) (m : NameArity)
    → has name_cmp m (body_names p) ≡ (has name_cmp m (own_names p) || has name_cmp m (flat_map body_names (parts_of p)))
own_and_parts (Atom a) m = or_none (has name_cmp m (name_of_atom a ∷ []))
own_and_parts (Both op l r) m = ap (λ xs. has name_cmp m (body_names l ++ xs)) (sym (append-nil (body_names r)))
own_and_parts (Either l r) m = ap (λ xs. has name_cmp m (body_names l ++ xs)) (sym (append-nil (body_names r)))
own_and_parts (Where p c) m = ap (has name_cmp m) (sym (append-nil (body_names p)))
own_and_parts (Exact p q) m = ap (has name_cmp m) (sym (append-nil (body_names p)))
own_and_parts (Within p q) m = ap (has name_cmp m) (sym (append-nil (body_names p)))
own_and_parts (Not i b a) m = ap (λ xs. has name_cmp m (body_names i ++ (body_names b ++ xs))) (sym (append-nil (body_names a)))

short_left : (xs ys : List NameArity) → AreShort (xs ++ ys) → AreShort xs
short_left [] ys h = tt
short_left (x ∷ xs) ys h = (h.0, short_left xs ys h.1)

short_right : (xs ys : List NameArity) → AreShort (xs ++ ys) → AreShort ys
short_right [] ys h = h
short_right (x ∷ xs) ys h = short_right xs ys h.1

pub short_parts : (p : PlainPattern) → AreShort (body_names p) → AreShort (flat_map body_names (parts_of p))
short_parts (Atom a) h = tt
short_parts (Both op l r) h = subst (λ xs. AreShort (body_names l ++ xs)) (sym (append-nil (body_names r))) h
short_parts (Either l r) h = subst (λ xs. AreShort (body_names l ++ xs)) (sym (append-nil (body_names r))) h
short_parts (Where p c) h = subst AreShort (sym (append-nil (body_names p))) h
short_parts (Exact p q) h = subst AreShort (sym (append-nil (body_names p))) h
short_parts (Within p q) h = subst AreShort (sym (append-nil (body_names p))) h
short_parts (Not i b a) h = subst (λ xs. AreShort (body_names i ++ (body_names b ++ xs))) (sym (append-nil (body_names a))) h

pub parts_smaller : (p : PlainPattern) → total size (parts_of p) < size p
parts_smaller (Atom a) = omega arith
parts_smaller (Both op l r) = omega arith
parts_smaller (Either l r) = omega arith
parts_smaller (Where p c) = omega arith
parts_smaller (Exact p q) = omega arith
parts_smaller (Within p q) = omega arith
parts_smaller (Not i b a) = omega arith

-- with the names so far and those of the parts that are left, all names of a body are there
pub record OnWay (old : List NameArity) (body : PlainPattern) (now : List NameArity) (parts : List PlainPattern) : Type 0 where
  pub kept : (rest : List NameArity) × (now ≡ old ++ rest)
  pub names : (m : NameArity)
      → (has name_cmp m now || has name_cmp m (flat_map body_names parts)) ≡ (has name_cmp m old || has name_cmp m (body_names body))
  pub short : AreShort (flat_map body_names parts)

pub begins : (old : List NameArity) (body : PlainPattern) → AreShort (body_names body) → OnWay old body old (body ∷ [])
begins old body h = record {
  kept = ([], sym (append-nil old));
  names = λ m. ap (λ xs. has name_cmp m old || has name_cmp m xs) (append-nil (body_names body));
  short = subst AreShort (sym (append-nil (body_names body))) h;
}

pub ends : (old : List NameArity) (body : PlainPattern) (now : List NameArity) → OnWay old body now [] → IsGrown old (body_names body) now
ends old body now w = record { kept = w.kept; names = λ m. or_none (has name_cmp m now) ∙ w.names m }

module _ (old : List NameArity) (body : PlainPattern) (now : List NameArity) (parts : List PlainPattern) (p : PlainPattern)
    (way : OnWay old body now (parts ++ p ∷ [])) where
  last_part : flat_map body_names (parts ++ p ∷ []) ≡ flat_map body_names parts ++ body_names p
  last_part =
      flat_map-append body_names parts (p ∷ []) ∙ ap (λ l. flat_map body_names parts ++ l) (append-nil (body_names p))

  pub short_part : AreShort (body_names p)
  short_part = short_right (flat_map body_names parts) (body_names p) (subst AreShort last_part way.short)

  pub one_part : (next : List NameArity) → IsGrown now (own_names p) next → OnWay old body next (parts ++ parts_of p)
  one_part next g = record {
    kept = (way.kept.0 ++ g.kept.0, g.kept.1 ∙ ap (λ l. l ++ g.kept.0) way.kept.1 ∙ append_assoc old way.kept.0 g.kept.0);
    names = λ m.
        let fm = has name_cmp m (flat_map body_names parts) in
        let fp = has name_cmp m (flat_map body_names (parts_of p)) in
        (λ i. g.names m i
        || (ap (has name_cmp m) (flat_map-append body_names parts (parts_of p))
        ∙ has-append exact_names m (flat_map body_names parts) (flat_map body_names (parts_of p))) i)
        ∙ or_among (has name_cmp m now) (has name_cmp m (own_names p)) fm fp
        ∙ ap (λ t. has name_cmp m now || (fm || t)) (sym (own_and_parts p m))
        ∙ ap (λ t. has name_cmp m now || t)
        (sym (ap (has name_cmp m) last_part ∙ has-append exact_names m (flat_map body_names parts) (body_names p)))
        ∙ way.names m;
    short = subst AreShort (sym (flat_map-append body_names parts (parts_of p)))
        (Each-append _ (flat_map body_names parts) (flat_map body_names (parts_of p))
        (short_left (flat_map body_names parts) (body_names p) (subst AreShort last_part way.short)) (short_parts p short_part));
  }

-- ---- the bodies of rules

pub bodies_names-append : (xs ys : List PlainRule) → bodies_names (xs ++ ys) ≡ bodies_names xs ++ bodies_names ys
bodies_names-append xs ys = flat_map-append (λ r. body_names r.body) xs ys

-- ---- one part fewer

module _ {A : Type 0} (plain : A → PlainPattern) (qs ps : List A) (p : A) (popped : qs ≡ ps ++ p ∷ []) where
  popped_plain : map plain qs ≡ map plain ps ++ plain p ∷ []
  popped_plain = ap (map plain) popped ∙ map-append plain ps (p ∷ [])

  pub popped_way : (old : List NameArity) (body : PlainPattern) (now : List NameArity) → OnWay old body now (map plain qs)
      → OnWay old body now (map plain ps ++ plain p ∷ [])
  popped_way old body now way = subst (OnWay old body now) popped_plain way

  pub parts_fewer : (left : List PlainPattern) → left ≡ map plain ps ++ parts_of (plain p) → total size left < total size (map plain qs)
  parts_fewer left e =
      let now : total size left ≡ total size (map plain ps) + total size (parts_of (plain p)) =
      ap (total size) e ∙ total-append size (map plain ps) (parts_of (plain p)) in
      let before : total size (map plain qs) ≡ total size (map plain ps) + total size (plain p ∷ []) =
      ap (total size) popped_plain ∙ total-append size (map plain ps) (plain p ∷ []) in
      let less = parts_smaller (plain p) in
      omega (arith, now, before, less)

-- ---- one rule more

module _ {A : Type 0} (plain : A → PlainRule) (xs : List A) (i : ℕ) (x : A) (h : i < length xs) (is : x ≡ get_or xs i x) where
  pub one_body : bodies_names (map plain (take (i + 1) xs)) ≡ bodies_names (map plain (take i xs)) ++ body_names (plain x).body
  one_body =
      ap (λ l. bodies_names (map plain l)) (take_more xs i x h ∙ ap (λ y. take i xs ++ y ∷ []) (sym is))
      ∙ ap bodies_names (map-append plain (take i xs) (x ∷ []))
      ∙ bodies_names-append (map plain (take i xs)) (plain x ∷ [])
      ∙ ap (λ l. bodies_names (map plain (take i xs)) ++ l) (append-nil (body_names (plain x).body))

pub short_body : {A : Type 0} (plain : A → PlainRule) (xs : List A) (i : ℕ) (x : A) → i < length xs → x ≡ get_or xs i x
    → AreShort (bodies_names (map plain xs)) → AreShort (body_names (plain x).body)
short_body plain [] i x h is all = absurd (omega arith)
short_body plain (y ∷ xs) zero x h is all =
    subst (λ z. AreShort (body_names (plain z).body)) (sym is) (short_left (body_names (plain y).body) (bodies_names (map plain xs)) all)
short_body plain (y ∷ xs) (suc i) x h is all =
    short_body plain xs i x (omega (arith, h)) is (short_right (body_names (plain y).body) (bodies_names (map plain xs)) all)

pub none_left : {A : Type 0} (xs : List A) → length xs ≡ 0 → xs ≡ []
none_left [] e = refl
none_left (x ∷ xs) e = absurd (omega (arith, e))

-- one name more of a list
pub one_name : (xs : List NameArity) (i : ℕ) (x : NameArity) → i < length xs → x ≡ get_or xs i x → (now new : List NameArity)
    → new ≡ insert_key (eq_by_cmp name_cmp) now x → ((m : NameArity) → has name_cmp m now ≡ has name_cmp m (take i xs))
    → (m : NameArity) → has name_cmp m new ≡ has name_cmp m (take (i + 1) xs)
one_name xs i x h is now new e so_far m =
    ap (has name_cmp m) e ∙ (grown_one now x).names m ∙ ap (λ b. b || has name_cmp m (x ∷ [])) (so_far m)
    ∙ sym (ap (has name_cmp m) (take_more xs i x h ∙ ap (λ y. take i xs ++ y ∷ []) (sym is))
    ∙ has-append exact_names m (take i xs) (x ∷ []))
