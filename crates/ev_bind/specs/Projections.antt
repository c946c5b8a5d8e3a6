-- Bindings cut to a set of slots.
use Rattle.std.specs.Prelude.{ℕ, ◌≡◌, refl, Bool, true}
use Rattle.std.specs.List.{filter}
use Rattle.std.specs.Bool.{Decides}
use Rattle.std.specs.Ordering.{is_eq}
use Rattle.std.specs.Cmp.{tied_itself}
use Rattle.std.specs.Cmp.Lexicographic.{slice_cmp}
use Rattle.std.specs.declared.cmp.Ordering.{Ordering}
use Rattle.std.specs.declared.cmp.Ordering.TheVariants.{Less, Equal, Greater}
use Rattle.std.proofs.Common.{ap, sym, ◌∙◌}
use Rattle.std.proofs.lemmas.Bool.{true≢false, and_parts}
use Rattle.ordered_lists.specs.Canon.{Exact, Rising-filter, has-filter, has}
use Rattle.ordered_lists.specs.Orders.{exact_lists}
use Rattle.event_model.specs.SlotSets.{slot_in}
use Rattle.ev_bind.specs.Bindings.{Pairs, pair_cmp, exact_pairs, IsBinding, single_within}

-- the pairs whose slot is in the set
abbrev pub project : ℕ → Pairs → Pairs
project slots b = filter (λ p. slot_in slots p.0) b

-- one list of pairs
abbrev pub same_pairs : Pairs → Pairs → Bool
same_pairs a b = is_eq (slice_cmp pair_cmp a b)

-- ---- laws

pub is_binding_project : (slots : ℕ) (b : Pairs) → IsBinding b → IsBinding (project slots b)
is_binding_project slots b h = record {
  rising = Rising-filter exact_pairs (λ p. slot_in slots p.0) b h.rising;
  one_value = single_within b (project slots b) (λ q e.
      (and_parts (slot_in slots q.0) (has pair_cmp q b) (sym (has-filter exact_pairs (λ p. slot_in slots p.0) q b) ∙ e)).1) h.one_value;
}

-- what doesn't tell two apart
pub tie : (o : Ordering) → is_eq o ≡ true → o ≡ Equal
tie Less e = absurd (true≢false (sym e))
tie Equal e = refl
tie Greater e = absurd (true≢false (sym e))

pub same_pairs_decides : (a b : Pairs) → Decides (same_pairs a b) (a ≡ b)
same_pairs_decides a b = (
  λ e. exact.same a b (tie (slice_cmp pair_cmp a b) e),
  λ e. ap is_eq (ap (slice_cmp pair_cmp a) (sym e) ∙ tied_itself exact.total a),
)
  where
    exact : Exact (slice_cmp pair_cmp)
    exact = exact_lists exact_pairs
