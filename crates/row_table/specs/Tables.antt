-- Keys under numbers, each with a value; a map from hashes to numbers, and a second one for the keys whose hash another key has.
--     key_in t n, value_in t n      the key under n, and its value
--     hashed f k                    the hash of a key that feeds the hasher f k
use Rattle.std.specs.Prelude.{ℕ, ◌≡◌, ◌==◌, ◌⊎◌, Option, Some, fold}
use Rattle.std.specs.Hash.{HashWrites}
use Rattle.std.specs.Hash.DefaultHasher as sip
use Rattle.std.specs.Option.{option_map}
use Rattle.std.specs.HashMap.{HashMap}
use Rattle.std.specs.HashMap as by_hash
use Rattle.std.specs.BTreeMap.{BTreeMap}
use Rattle.std.specs.BTreeMap as by_order
use Rattle.slab.specs.Slab.{Slab}
use Rattle.slab.specs.Slab as slots
use Rattle.std.specs.declared.cmp.Ordering.{Ordering}
use Rattle.row_table.specs.declared.keys.Entry.{Entry}
use Rattle.row_table.specs.declared.keys.KeyTable.{KeyTable}

-- the hash of a key
unfoldable pub hashed : {K : Type 0} → (K → HashWrites) → K → ℕ
hashed f k = sip.finish (fold sip.write sip.initial (f k))

-- the key and the value in a slot
abbrev pub key_of : {K V : Type 0} → Slab (Entry K V) → ℕ → Option K
key_of s n = option_map (λ e. e.key) (slots.get s n)

abbrev pub value_of : {K V : Type 0} → Slab (Entry K V) → ℕ → Option V
value_of s n = option_map (λ e. e.value) (slots.get s n)

pub record IsTable {K V S : Type 0} (code : K → ℕ) (cmp : K → K → Ordering)
    (entries : Slab (Entry K V)) (firsts : HashMap ℕ ℕ S) (rest : BTreeMap K ℕ) : Type 0 where
  -- a first number is that of a key with this hash
  pub first : (h n : ℕ) → by_hash.get ◌==◌ firsts h ≡ Some n → (k : K) × (key_of entries n ≡ Some k) × (code k ≡ h)
  -- a number in the second map is that of the key
  pub second : (k : K) (n : ℕ) → by_order.get cmp rest k ≡ Some n → key_of entries n ≡ Some k
  -- each key is in one of the two
  pub found : (n : ℕ) (k : K) → key_of entries n ≡ Some k → (by_hash.get ◌==◌ firsts (code k) ≡ Some n) ⊎ (by_order.get cmp rest k ≡ Some n)
  -- and not in both
  pub apart : (k : K) (n : ℕ) → by_order.get cmp rest k ≡ Some n → by_hash.get ◌==◌ firsts (code k) ≡ Some n → ⊥
  -- and under one number
  pub unique : (n m : ℕ) (k : K) → key_of entries n ≡ Some k → key_of entries m ≡ Some k → n ≡ m

-- ---- the same of a whole table

abbrev pub entry_in : {K V : Type 0} → KeyTable K V → ℕ → Option (Entry K V)
entry_in t n = slots.get t.entries n

abbrev pub key_in : {K V : Type 0} → KeyTable K V → ℕ → Option K
key_in t n = key_of t.entries n

abbrev pub value_in : {K V : Type 0} → KeyTable K V → ℕ → Option V
value_in t n = value_of t.entries n

abbrev pub IsKeyTable : {K V : Type 0} → (K → ℕ) → (K → K → Ordering) → KeyTable K V → Type 0
IsKeyTable code cmp t = IsTable code cmp t.entries t.firsts t.rest
