-- A table is what it is in one way, so it can be a fact that a value keeps.
use Rattle.std.specs.Prelude.{ℕ, ◌≡◌, ◌⊎◌, Option, Some, unwrap_or}
use Rattle.std.specs.Coded.{Coded, Coded-set, coded_option, coded_ℕ}
use Rattle.std.specs.HashMap.{HashMap}
use Rattle.std.specs.BTreeMap.{BTreeMap}
use Rattle.std.specs.declared.cmp.Ordering.{Ordering}
use Rattle.std.proofs.Common.{ap, sym, ◌∙◌, inl, inr}
use Rattle.slab.specs.Slab.{Slab}
use mathlib.Core.HLevel.{is_prop→PathP}
use Rattle.row_table.specs.Tables.{IsTable}
use Rattle.row_table.specs.Steps.{IsRowTable}
use Rattle.row_table.specs.declared.keys.Entry.{Entry}
use Rattle.row_table.specs.declared.rows.RowTable.{RowTable}

sum_prop : {A B : Type 0} → IsProp A → IsProp B → (A → B → ⊥) → IsProp (A ⊎ B)
sum_prop p q n (inl a) (inl b) = ap inl (p a b)
sum_prop p q n (inl a) (inr b) = absurd (n a b)
sum_prop p q n (inr a) (inl b) = absurd (n b a)
sum_prop p q n (inr a) (inr b) = ap inr (q a b)

module _ {K : Type 0} (coded : Coded K) (code : K → ℕ) where
  key_prop : (o : Option K) (h : ℕ) → IsProp ((k : K) × (o ≡ Some k) × (code k ≡ h))
  key_prop o h x y = λ i. (
    same i,
    is_prop→PathP (λ i. o ≡ Some (same i)) (λ i. Coded-set (coded_option coded) o (Some (same i))) x.1 y.1 i,
    is_prop→PathP (λ i. code (same i) ≡ h) (λ i. Coded-set coded_ℕ (code (same i)) h) x.2 y.2 i,
  )
    where
      same : x.0 ≡ y.0
      same = ap (λ o. unwrap_or o x.0) (sym x.1 ∙ y.1)

  pub IsTable-prop : {V S : Type 0} (cmp : K → K → Ordering) (entries : Slab (Entry K V)) (firsts : HashMap ℕ ℕ S) (rest : BTreeMap K ℕ)
      → IsProp (IsTable code cmp entries firsts rest)
  IsTable-prop cmp entries firsts rest x y = λ i. record {
    first = λ h n e. key_prop _ h (x.first h n e) (y.first h n e) i;
    second = λ k n e. Coded-set (coded_option coded) _ _ (x.second k n e) (y.second k n e) i;
    found = λ n k e. sum_prop (Coded-set (coded_option coded_ℕ) _ _) (Coded-set (coded_option coded_ℕ) _ _) (λ a b. x.apart k n b a)
        (x.found n k e) (y.found n k e) i;
    apart = λ k n e f. let p : x.apart k n e f ≡ y.apart k n e f = absurd (x.apart k n e f) in p i;
    unique = λ n m k e f. Coded-set coded_ℕ n m (x.unique n m k e f) (y.unique n m k e f) i;
  }

-- the same of a table of rows
pub IsRowTable-prop : {K V : Type 0} → Coded K → (code : K → ℕ) (cmp : K → K → Ordering) (t : RowTable K V) → IsProp (IsRowTable code cmp t)
IsRowTable-prop coded code cmp t = IsTable-prop coded code cmp t.table.entries t.table.firsts t.table.rest
