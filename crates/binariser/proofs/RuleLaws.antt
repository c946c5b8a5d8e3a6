-- The steps of rules and of names, one behind the other.
use Rattle.std.proofs.Common.{◌≡◌, ◌<◌, ◌≤◌, ◌+◌, ℕ, List, [], ◌∷◌, ◌++◌, map, length, get_or, drop, Err, sym, ap, ◌∙◌, arith, length-append}
use Rattle.std.proofs.lemmas.List.{drop_more}
use Rattle.event_model.specs.declared.atoms.NameArity.{NameArity}
use Rattle.rule_ast.specs.Trees.{PlainRule}
use Rattle.rule_ast.specs.PlainPlans.{PlainStep, Head, Named}
use Rattle.step_meaning.specs.PlanOf.{top, body_steps, rule_steps}
use Rattle.binariser.specs.declared.faults.PlanFault.{PlanFault}
use Rattle.binariser.specs.declared.faults.PlanFault.TheVariants.{TooMany, Memory}
use Rattle.binariser.specs.Making.{AreAdded, AreLeft, AreMade, with_place, named_steps, names_steps_by}
use Rattle.binariser.proofs.ClimbingLaws.{body_grows}

-- a fault of a part is one of the whole, where the whole is no shorter
pub fewer_added : (A : Type 0) (part whole : List PlainStep × List ℕ) (new left : List PlainStep) (hs gs : List ℕ) (e : PlanFault)
    → length part.0 ≤ length whole.0 → AreAdded {A = A} (Err e) part new hs → AreAdded {A = A} (Err e) whole left gs
fewer_added A part whole new left hs gs TooMany le h = omega (arith, le, h)
fewer_added A part whole new left hs gs Memory le h = tt

pub fewer_left : (A : Type 0) (part whole new left : List PlainStep) (e : PlanFault) → length part ≤ length whole
    → AreMade (Err e) part new → AreLeft {A = A} (Err e) whole left
fewer_left A part whole new left TooMany le h = omega (arith, le, h)
fewer_left A part whole new left Memory le h = tt

-- too many steps of the rules are too many of the name
pub fewer_named : (A : Type 0) (part : List PlainStep × List ℕ) (n : NameArity) (new left : List PlainStep) (hs : List ℕ) (e : PlanFault)
    → AreAdded {A = A} (Err e) part new hs → AreMade (Err e) (part.0 ++ Named n part.1 ∷ []) left
fewer_named A part n new left hs TooMany h = omega (arith, h, length-append part.0 (Named n part.1 ∷ []))
fewer_named A part n new left hs Memory h = tt

module _ (of : NameArity → ℕ) where
  pub rules_grow : (rs : List PlainRule) (ss : List PlainStep) (hs : List ℕ) → length ss ≤ length (rule_steps of rs ss hs).0
  rules_grow [] ss hs = omega arith
  rules_grow (r ∷ rs) ss hs =
      let body = body_steps of r.body ss in
      let with_head = body ++ Head (top body) r.head ∷ [] in
      let more = rules_grow rs with_head (hs ++ top with_head ∷ []) in
      let one : length with_head ≡ length body + 1 = length-append body (Head (top body) r.head ∷ []) in
      let grown = body_grows of r.body ss in
      omega (arith, more, one, grown)

  module _ {A : Type 0} (plain : A → PlainRule) (xs : List A) (i : ℕ) (x : A) (h : i < length xs) (is : x ≡ get_or xs i x)
      (ss : List PlainStep) (hs : List ℕ) (all : List PlainStep × List ℕ)
      (left : rule_steps of (map plain (drop i xs)) ss hs ≡ all) where
    abbrev made : List PlainStep × List ℕ
    made = rule_steps of (plain x ∷ []) ss hs

    -- the rules behind this one make the rest
    behind : rule_steps of (map plain (drop (i + 1) xs)) made.0 made.1 ≡ all
    behind =
        ap (λ y. rule_steps of (map plain (y ∷ drop (i + 1) xs)) ss hs) is
        ∙ ap (λ l. rule_steps of (map plain l) ss hs) (sym (drop_more xs i x h)) ∙ left

    pub after_rule : (new : List PlainStep) (gs : List ℕ) → new ≡ made.0 → gs ≡ made.1
        → rule_steps of (map plain (drop (i + 1) xs)) new gs ≡ all
    after_rule new gs e d = (λ j. rule_steps of (map plain (drop (i + 1) xs)) (e j) (d j)) ∙ behind

    pub rule_fewer : length made.0 ≤ length all.0
    rule_fewer =
        let more = rules_grow (map plain (drop (i + 1) xs)) made.0 made.1 in
        let same : length (rule_steps of (map plain (drop (i + 1) xs)) made.0 made.1).0 ≡ length all.0 =
        ap (λ (p : List PlainStep × List ℕ). length p.0) behind in
        omega (arith, more, same)

module _ (rules : NameArity → List PlainRule) where
  named_grows : (of : NameArity → ℕ) (ss : List PlainStep) (n : NameArity) → length ss ≤ length (named_steps of (rules n) ss n)
  named_grows of ss n =
      let made = rule_steps of (rules n) ss [] in
      let le = rules_grow of (rules n) ss [] in
      let one : length (made.0 ++ Named n made.1 ∷ []) ≡ length made.0 + 1 = length-append made.0 (Named n made.1 ∷ []) in
      omega (arith, le, one)

  names_grow : (ns : List NameArity) (of : NameArity → ℕ) (ss : List PlainStep) → length ss ≤ length (names_steps_by rules ns of ss)
  names_grow [] of ss = omega arith
  names_grow (n ∷ ns) of ss =
      let made = named_steps of (rules n) ss n in
      let more = names_grow ns (with_place of n (top made)) made in
      let one = named_grows of ss n in
      omega (arith, more, one)

  module _ (xs : List NameArity) (i : ℕ) (x : NameArity) (h : i < length xs) (is : x ≡ get_or xs i x) (of : NameArity → ℕ)
      (ss all : List PlainStep) (left : names_steps_by rules (drop i xs) of ss ≡ all) where
    abbrev made_of : List PlainStep
    made_of = named_steps of (rules x) ss x

    behind_name : names_steps_by rules (drop (i + 1) xs) (with_place of x (top made_of)) made_of ≡ all
    behind_name =
        ap (λ y. names_steps_by rules (y ∷ drop (i + 1) xs) of ss) is
        ∙ ap (λ l. names_steps_by rules l of ss) (sym (drop_more xs i x h)) ∙ left

    pub after_name : (new : List PlainStep) (number : ℕ) (kept : NameArity → ℕ) → new ≡ made_of → number ≡ top made_of
        → ((n : NameArity) → kept n ≡ with_place of x number n) → names_steps_by rules (drop (i + 1) xs) kept new ≡ all
    after_name new number kept e d k =
        (λ j. names_steps_by rules (drop (i + 1) xs) (λ n. (k n ∙ ap (λ m. with_place of x m n) d) j) (e j)) ∙ behind_name

    pub name_fewer : length made_of ≤ length all
    name_fewer =
        let more = names_grow (drop (i + 1) xs) (with_place of x (top made_of)) made_of in
        let same : length (names_steps_by rules (drop (i + 1) xs) (with_place of x (top made_of)) made_of) ≡ length all =
        ap length behind_name in
        omega (arith, more, same)
