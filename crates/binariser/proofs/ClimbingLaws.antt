-- A way down the left parts of a pattern and up again makes its steps.
use Rattle.std.proofs.Common.{◌≡◌, ◌<◌, ◌≤◌, ◌+◌, ℕ, List, [], ◌∷◌, ◌++◌, map, length, Some, Err, refl, sym, ap, ◌∙◌, arith, subst, length-append}
use Rattle.std.proofs.lemmas.Option.{none-some, same_Some}
use Rattle.event_model.specs.declared.atoms.NameArity.{NameArity}
use Rattle.event_model.specs.declared.operators.Op.TheVariants.{Seq}
use Rattle.rule_ast.specs.Trees.{PlainPattern, Atom, Both, Either, Where, Exact, Within, Not}
use Rattle.pattern_meaning.specs.Climbing.{left_part}
use Rattle.rule_ast.specs.PlainPlans.{PlainStep}
use Rattle.rule_ast.specs.PlainPlans as step
use Rattle.step_meaning.specs.PlanOf.{top, body_steps}
use Rattle.step_meaning.specs.Growing.{extends}
use Rattle.binariser.specs.declared.faults.PlanFault.{PlanFault}
use Rattle.binariser.specs.declared.faults.PlanFault.TheVariants.{TooMany, Memory}
use Rattle.binariser.specs.Making.{steps_over, steps_climbed, AreMade}

-- a fault of a part is one of the whole, where the whole is no shorter
pub fewer : (want whole new left : List PlainStep) (e : PlanFault) → length want ≤ length whole → AreMade (Err e) want new
    → AreMade (Err e) whole left
fewer want whole new left TooMany le h = omega (arith, le, h)
fewer want whole new left Memory le h = tt

pub not_is : (p i b a d f : PlainPattern) → p ≡ Not i b a → d ≡ b → f ≡ a → p ≡ Not i d f
not_is p i b a d f e x y = e ∙ sym (λ j. Not i (x j) (y j))

module _ (of : NameArity → ℕ) where
  -- a pattern's steps are no fewer than those before
  pub body_grows : (p : PlainPattern) (ss : List PlainStep) → length ss ≤ length (body_steps of p ss)
  body_grows p ss = (extends [] of p ss).longer

  push_grows : (ss more : List PlainStep) (s : PlainStep) → length ss ≤ length more → length ss ≤ length (more ++ s ∷ [])
  push_grows ss more s h = omega (arith, h, length-append more (s ∷ []))

  pub over_grows : (p : PlainPattern) (ss : List PlainStep) → length ss ≤ length (steps_over of p ss)
  over_grows (Atom a) ss = omega arith
  over_grows (Both op l r) ss = push_grows ss (body_steps of r ss) (step.Join op (top ss) (top (body_steps of r ss))) (body_grows r ss)
  over_grows (Either l r) ss = push_grows ss (body_steps of r ss) (step.Either (top ss) (top (body_steps of r ss))) (body_grows r ss)
  over_grows (Where p c) ss = push_grows ss ss (step.Where (top ss) c) (omega arith)
  over_grows (Exact p q) ss = push_grows ss ss (step.Exact (top ss) q) (omega arith)
  over_grows (Within p q) ss = push_grows ss ss (step.Within (top ss) q) (omega arith)
  over_grows (Not i b a) ss = omega arith

  pub climbed_grows : (ps : List PlainPattern) (ss : List PlainStep) → length ss ≤ length (steps_climbed of ps ss)
  climbed_grows [] ss = omega arith
  climbed_grows (p ∷ ps) ss = let more = climbed_grows ps ss in let last = over_grows p (steps_climbed of ps ss) in
      omega (arith, more, last)

  pub climbed_below : (ps : List PlainPattern) (ss want : List PlainStep) → steps_climbed of ps ss ≡ want → length ss ≤ length want
  climbed_below ps ss want e = let more = climbed_grows ps ss in let same : length (steps_climbed of ps ss) ≡ length want = ap length e in
      omega (arith, more, same)

  -- the parts of a NOT
  pub not_before : (p i b a : PlainPattern) (ss : List PlainStep) → p ≡ Not i b a
      → length (body_steps of b ss) ≤ length (body_steps of p ss)
  not_before p i b a ss e = subst (λ q. length (body_steps of b ss) ≤ length (body_steps of q ss)) (sym e)
      (let before = body_steps of b ss in
      let after = body_steps of a before in
      let joined = after ++ step.Join Seq (top before) (top after) ∷ [] in
      let inner = body_steps of i joined in
      push_grows before inner (step.Minus (top joined) (top before) (top inner) (top after))
      (let x = body_grows a before in let y = push_grows after after (step.Join Seq (top before) (top after)) (omega arith) in
      let z = body_grows i joined in omega (arith, x, y, z)))

  pub not_after : (p i b a : PlainPattern) (ss xs : List PlainStep) → p ≡ Not i b a → xs ≡ body_steps of b ss
      → length (body_steps of a xs) ≤ length (body_steps of p ss)
  not_after p i b a ss xs e h =
      subst (λ q. length (body_steps of a xs) ≤ length (body_steps of q ss)) (sym e)
      (subst (λ l. length (body_steps of a l) ≤ length (body_steps of (Not i b a) ss)) (sym h)
      (let before = body_steps of b ss in
      let after = body_steps of a before in
      let joined = after ++ step.Join Seq (top before) (top after) ∷ [] in
      let inner = body_steps of i joined in
      push_grows after inner (step.Minus (top joined) (top before) (top inner) (top after))
      (let y = push_grows after after (step.Join Seq (top before) (top after)) (omega arith) in let z = body_grows i joined in
      omega (arith, y, z))))

  pub not_joined : (p i b a : PlainPattern) (ss xs ys : List PlainStep) (s : PlainStep) → p ≡ Not i b a → xs ≡ body_steps of b ss
      → ys ≡ body_steps of a xs → length (ys ++ s ∷ []) ≤ length (body_steps of p ss)
  not_joined p i b a ss xs ys s e h g =
      let before = body_steps of b ss in
      let after = body_steps of a before in
      let joined = after ++ step.Join Seq (top before) (top after) ∷ [] in
      let inner = body_steps of i joined in
      let same : length ys ≡ length after = ap length (g ∙ ap (body_steps of a) h) in
      let whole : length (body_steps of p ss) ≡ length (body_steps of (Not i b a) ss) = ap (λ q. length (body_steps of q ss)) e in
      let z = body_grows i joined in
      let m : length (body_steps of (Not i b a) ss)
      ≡ length inner + 1 = length-append inner (step.Minus (top joined) (top before) (top inner) (top after) ∷ []) in
      let j : length joined ≡ length after + 1 = length-append after (step.Join Seq (top before) (top after) ∷ []) in
      let y : length (ys ++ s ∷ []) ≡ length ys + 1 = length-append ys (s ∷ []) in
      omega (arith, same, whole, z, m, j, y)

  over_left : (p l : PlainPattern) (ss : List PlainStep) → left_part p ≡ Some l → steps_over of p (body_steps of l ss) ≡ body_steps of p ss
  over_left (Atom a) l ss e = absurd (none-some l e)
  over_left (Both op x y) l ss e = ap (λ z. steps_over of (Both op x y) (body_steps of z ss)) (sym (same_Some x l e))
  over_left (Either x y) l ss e = ap (λ z. steps_over of (Either x y) (body_steps of z ss)) (sym (same_Some x l e))
  over_left (Where x c) l ss e = ap (λ z. steps_over of (Where x c) (body_steps of z ss)) (sym (same_Some x l e))
  over_left (Exact x q) l ss e = ap (λ z. steps_over of (Exact x q) (body_steps of z ss)) (sym (same_Some x l e))
  over_left (Within x q) l ss e = ap (λ z. steps_over of (Within x q) (body_steps of z ss)) (sym (same_Some x l e))
  over_left (Not i b a) l ss e = absurd (none-some l e)

  module _ {A : Type 0} (plain : A → PlainPattern) where
    climbed_more : (ps qs : List A) (ss : List PlainStep)
        → steps_climbed of (map plain (ps ++ qs)) ss ≡ steps_climbed of (map plain ps) (steps_climbed of (map plain qs) ss)
    climbed_more [] qs ss = refl
    climbed_more (p ∷ ps) qs ss = ap (steps_over of (plain p)) (climbed_more ps qs ss)

    -- one pattern more on the way down
    pub down : (ps qs : List A) (p : A) (l : PlainPattern) (ss want : List PlainStep) → qs ≡ ps ++ p ∷ [] → Some l ≡ left_part (plain p)
        → steps_climbed of (map plain ps) (body_steps of (plain p) ss) ≡ want → steps_climbed of (map plain qs) (body_steps of l ss) ≡ want
    down ps qs p l ss want e s h =
        ap (λ k. steps_climbed of (map plain k) (body_steps of l ss)) e ∙ climbed_more ps (p ∷ []) (body_steps of l ss)
        ∙ ap (steps_climbed of (map plain ps)) (over_left (plain p) l ss (sym s)) ∙ h

    -- and one fewer on the way up
    pub up : (ps qs : List A) (p : A) (xs ys want : List PlainStep) → qs ≡ ps ++ p ∷ [] → steps_climbed of (map plain qs) xs ≡ want
        → ys ≡ steps_over of (plain p) xs → steps_climbed of (map plain ps) ys ≡ want
    up ps qs p xs ys want e h r = ap (steps_climbed of (map plain ps)) r ∙ sym (climbed_more ps (p ∷ []) xs)
        ∙ ap (λ l. steps_climbed of (map plain l) xs) (sym e) ∙ h

    -- too many on the way are too many in the end
    pub up_grows : (ps qs : List A) (p : A) (xs want : List PlainStep) → qs ≡ ps ++ p ∷ [] → steps_climbed of (map plain qs) xs ≡ want
        → length (steps_over of (plain p) xs) ≤ length want
    up_grows ps qs p xs want e h = let more = climbed_grows (map plain ps) (steps_over of (plain p) xs) in
        let same : length (steps_climbed of (map plain ps) (steps_over of (plain p) xs))
        ≡ length want = ap length (up ps qs p xs (steps_over of (plain p) xs) want e h refl) in omega (arith, more, same)

-- how many patterns a pattern holds, itself among them
abbrev pub size : PlainPattern → ℕ
size (Atom a) = 1
size (Both op left right) = size left + size right + 1
size (Either left right) = size left + size right + 1
size (Where of c) = size of + 1
size (Exact of q) = size of + 1
size (Within of q) = size of + 1
size (Not inner before after) = size inner + size before + size after + 1

pub left_smaller : (p l : PlainPattern) → left_part p ≡ Some l → size l < size p
left_smaller (Atom a) l e = absurd (none-some l e)
left_smaller (Both op x y) l e = let same : size x ≡ size l = ap size (same_Some x l e) in omega (arith, same)
left_smaller (Either x y) l e = let same : size x ≡ size l = ap size (same_Some x l e) in omega (arith, same)
left_smaller (Where x c) l e = let same : size x ≡ size l = ap size (same_Some x l e) in omega (arith, same)
left_smaller (Exact x q) l e = let same : size x ≡ size l = ap size (same_Some x l e) in omega (arith, same)
left_smaller (Within x q) l e = let same : size x ≡ size l = ap size (same_Some x l e) in omega (arith, same)
left_smaller (Not i b a) l e = absurd (none-some l e)
