-- Sets of slots in place of the tests of the definitions.
use Rattle.std.proofs.Common.{◌≡◌, ℕ, ◌||◌, ◌&&◌, Option, Some, List, ◌++◌, ap, sym, ◌∙◌}
use Rattle.std.specs.Option.{option_or}
use Rattle.event_model.specs.SlotSets.{slot_in}
use Rattle.rule_ast.specs.Trees.{PlainPattern, Either, Not}
use Rattle.rule_ast.specs.Vars.{vars, is_in}
use Rattle.rule_check.specs.Offenders.{first, among, outside, or_offenders, not_offenders}
use Rattle.rule_check.specs.Allowed.{allowed}
use Rattle.rule_check.proofs.FirstOutside.{first-append}

-- the set of a pattern's variables
pub own_set : (v : ℕ) (p : PlainPattern) (xs : List ℕ) → ((t : ℕ) → slot_in v t ≡ is_in t (vars p)) → outside (allowed (Some v)) xs ≡ outside (among (vars p)) xs
own_set v p xs h = ap (λ may. outside may xs) (λ i s. h s i)

pub other_side : (may m : Option ℕ) (v : ℕ) (p q : PlainPattern) → ((s : ℕ) → allowed m s ≡ (allowed may s && slot_in v s)) → ((t : ℕ) → slot_in v t ≡ is_in t (vars q))
    → or_offenders (allowed m) p ≡ or_offenders (λ s. allowed may s && is_in s (vars q)) p
other_side may m v p q h g = ap (λ f. or_offenders f p) (λ i s. (h s ∙ ap (λ b. allowed may s && b) (g s)) i)

pub both_edges : (v w u : ℕ) (p b a : PlainPattern) → ((t : ℕ) → slot_in u t ≡ (slot_in v t || slot_in w t)) → ((t : ℕ) → slot_in v t ≡ is_in t (vars b)) → ((t : ℕ) → slot_in w t ≡ is_in t (vars a))
    → not_offenders (allowed (Some u)) p ≡ not_offenders (λ s. is_in s (vars b) || is_in s (vars a)) p
both_edges v w u p b a h f g = ap (λ may. not_offenders may p) (λ i s. (h s ∙ (λ j. f s j || g s j)) i)

pub both_sides : (may m n : Option ℕ) (v w : ℕ) (l r : PlainPattern) (x y o : Option ℕ)
    → ((t : ℕ) → slot_in v t ≡ is_in t (vars r)) → ((s : ℕ) → allowed m s ≡ (allowed may s && slot_in v s)) → x ≡ first (or_offenders (allowed m) l)
    → ((t : ℕ) → slot_in w t ≡ is_in t (vars l)) → ((s : ℕ) → allowed n s ≡ (allowed may s && slot_in w s)) → y ≡ first (or_offenders (allowed n) r)
    → o ≡ option_or x y → o ≡ first (or_offenders (allowed may) (Either l r))
both_sides may m n v w l r x y o v_is m_is x_is w_is n_is y_is o_is =
    o_is
    ∙ (λ i. option_or ((x_is ∙ ap first (other_side may m v l r m_is v_is)) i) ((y_is ∙ ap first (other_side may n w r l n_is w_is)) i))
    ∙ sym (first-append (or_offenders (λ s. allowed may s && is_in s (vars r)) l) (or_offenders (λ s. allowed may s && is_in s (vars l)) r))

pub negated : (may : Option ℕ) (v w u : ℕ) (p b a : PlainPattern) (x y o : Option ℕ)
    → ((t : ℕ) → slot_in v t ≡ is_in t (vars b)) → ((t : ℕ) → slot_in w t ≡ is_in t (vars a)) → ((t : ℕ) → slot_in u t ≡ (slot_in v t || slot_in w t))
    → y ≡ first (not_offenders (allowed may) b ++ not_offenders (allowed may) a) → x ≡ first (not_offenders (allowed (Some u)) p)
    → o ≡ option_or x y → o ≡ first (not_offenders (allowed may) (Not p b a))
negated may v w u p b a x y o v_is w_is u_is y_is x_is o_is =
    o_is
    ∙ (λ i. option_or ((x_is ∙ ap first (both_edges v w u p b a u_is v_is w_is)) i) (y_is i))
    ∙ sym (first-append (not_offenders (λ s. is_in s (vars b) || is_in s (vars a)) p) (not_offenders (allowed may) b ++ not_offenders (allowed may) a))

pub ruleset where_steps = (first-append, own_set)
