-- A change of values alone keeps the table, and so does room that is given back; a value names its row and step.
use Rattle.std.proofs.Common.{ℕ, ◌≡◌, ◌==◌, ◌⊎◌, Some, None, List, [], ◌∷◌, cond, refl, ap, sym, ◌∙◌, inl, inr}
use Rattle.std.proofs.lemmas.Bool.{eq-eqb}
use Rattle.std.specs.Option.{option_map}
use Rattle.row_table.specs.Pairs.{get}
use Rattle.std.specs.HashMap.{HashMap}
use Rattle.std.specs.HashMap as by_hash
use Rattle.std.specs.BTreeMap.{BTreeMap}
use Rattle.std.specs.BTreeMap as by_order
use Rattle.std.specs.declared.cmp.Ordering.{Ordering}
use Rattle.slab.specs.Slab.{Slab, SameValues}
use Rattle.row_table.specs.Tables.{key_of, IsTable}
use Rattle.row_table.specs.declared.keys.Entry.{Entry}

module _ {K V S : Type 0} (code : K → ℕ) (cmp : K → K → Ordering) (firsts : HashMap ℕ ℕ S) (rest : BTreeMap K ℕ) where
  pub table_kept : (s t : Slab (Entry K V)) → IsTable code cmp s firsts rest → ((m : ℕ) → key_of t m ≡ key_of s m) → IsTable code cmp t firsts rest
  table_kept s t old same = record { first = first; second = second; found = found; apart = old.apart; unique = unique }
    where
      first : (h n : ℕ) → by_hash.get ◌==◌ firsts h ≡ Some n → (k : K) × (key_of t n ≡ Some k) × (code k ≡ h)
      first h n e = let f = old.first h n e in (f.0, same n ∙ f.1, f.2)

      second : (k : K) (n : ℕ) → by_order.get cmp rest k ≡ Some n → key_of t n ≡ Some k
      second k n e = same n ∙ old.second k n e

      found : (n : ℕ) (k : K) → key_of t n ≡ Some k → (by_hash.get ◌==◌ firsts (code k) ≡ Some n) ⊎ (by_order.get cmp rest k ≡ Some n)
      found n k e = old.found n k (sym (same n) ∙ e)

      unique : (n m : ℕ) (k : K) → key_of t n ≡ Some k → key_of t m ≡ Some k → n ≡ m
      unique n m k e f = old.unique n m k (sym (same n) ∙ e) (sym (same m) ∙ f)

  pub table_trimmed : (s t : Slab (Entry K V)) (firsts' : HashMap ℕ ℕ S) → IsTable code cmp s firsts rest → SameValues s t → ((h : ℕ) → by_hash.get ◌==◌ firsts' h ≡ by_hash.get ◌==◌ firsts h) → IsTable code cmp t firsts' rest
  table_trimmed s t firsts' old same gets = record { first = first; second = kept.second; found = found; apart = apart; unique = kept.unique }
    where
      kept : IsTable code cmp t firsts rest
      kept = table_kept s t old (λ m. ap (λ o. option_map (λ e. e.key) o) (same m))

      first : (h n : ℕ) → by_hash.get ◌==◌ firsts' h ≡ Some n → (k : K) × (key_of t n ≡ Some k) × (code k ≡ h)
      first h n e = kept.first h n (sym (gets h) ∙ e)

      found : (n : ℕ) (k : K) → key_of t n ≡ Some k → (by_hash.get ◌==◌ firsts' (code k) ≡ Some n) ⊎ (by_order.get cmp rest k ≡ Some n)
      found n k e = elim (kept.found n k e) [ inl x ↦ inl (gets (code k) ∙ x) | inr x ↦ inr x ]

      apart : (k : K) (n : ℕ) → by_order.get cmp rest k ≡ Some n → by_hash.get ◌==◌ firsts' (code k) ≡ Some n → ⊥
      apart k n e f = kept.apart k n e (sym (gets (code k)) ∙ f)

none_some : {X : Type 0} (x : X) → None ≡ Some x → ⊥
none_some x e = cc

-- a list of steps that isn't empty has one
pub some_step : {V : Type 0} (l : List (ℕ × V)) → (l ≡ [] → ⊥) → ((s : ℕ) → get l s ≡ None) → ⊥
some_step [] n h = n refl
some_step ((k, v) ∷ rest) n h = none_some v (sym (h k) ∙ ap (λ b. cond b (Some v) (get rest k)) (eq-eqb k k refl))
