-- A map as a list of pairs of a key and a value.
use Rattle.std.specs.Prelude.{◌≡◌, ℕ, ◌<◌, ◌≤◌, ◌≢◌, Bool, true, false, List, [], ◌∷◌, length, map, if◌then◌else◌, ◌==◌, nat_lt, slice_index_or, Some, None, Option, IsSome}

module _ {V : Type 0} where
  -- the value of the first pair that has the key
  abbrev pub get : List (ℕ × V) → ℕ → Option V
  get [] key = None
  get ((k, v) ∷ rest) key = if k == key then Some v else get rest key

  abbrev pub keys : List (ℕ × V) → List ℕ
  keys l = map (λ p. p.0) l

  -- the key of the pair at place i
  abbrev pub key_at : List (ℕ × V) → ℕ → ℕ
  key_at l i = slice_index_or (keys l) i 0

-- each number is above those before it
abbrev pub Rise : List ℕ → Type 0
Rise ks = (i j : ℕ) → i < j → j < length ks → slice_index_or ks i 0 < slice_index_or ks j 0

-- the keys rise, so no key comes twice
abbrev pub IsStrictlySorted : {V : Type 0} → List (ℕ × V) → Type 0
IsStrictlySorted l = Rise (keys l)

-- the pair at place i has the key
pub record IsAt {V : Type 0} (l : List (ℕ × V)) (key i : ℕ) : Type 0 where
  pub in_range : i < length l
  pub has_key : key_at l i ≡ key

-- the key would go at place i: smaller keys before it, and greater keys from it on
pub record IsGapFor {V : Type 0} (l : List (ℕ × V)) (key i : ℕ) : Type 0 where
  pub in_range : i ≤ length l
  pub smaller_before : (j : ℕ) → j < i → key_at l j < key
  pub greater_after : (j : ℕ) → i ≤ j → j < length l → key < key_at l j

-- new has the value at the key, and at every other key what old has
pub record SetsOnly {V : Type 0} (old new : List (ℕ × V)) (key : ℕ) (value : V) : Type 0 where
  pub this_key : get new key ≡ Some value
  pub other_keys : (k : ℕ) → k ≢ key → get new k ≡ get old k

-- new has nothing at the key, and at every other key what old has
pub record Drops {V : Type 0} (old new : List (ℕ × V)) (key : ℕ) : Type 0 where
  pub this_key : get new key ≡ None
  pub other_keys : (k : ℕ) → k ≢ key → get new k ≡ get old k

-- whether a key comes behind another, or behind none
abbrev pub is_behind : Option ℕ → ℕ → Bool
is_behind None key = true
is_behind (Some last) key = nat_lt last key

-- no key behind another has a value
abbrev pub NoneBehind : {V : Type 0} → (ℕ → Option V) → Option ℕ → Type 0
NoneBehind value last = (k : ℕ) → is_behind last k ≡ true → value k ≡ None

-- of the keys that have a value this is the first behind another
pub record IsNext {V : Type 0} (value : ℕ → Option V) (last : Option ℕ) (key : ℕ) : Type 0 where
  pub there : IsSome (value key)
  pub behind : is_behind last key ≡ true
  pub none_between : (k : ℕ) → is_behind last k ≡ true → k < key → value k ≡ None

-- the keys behind another stand from place i on
pub record IsPlaceBehind {V : Type 0} (l : List (ℕ × V)) (last : Option ℕ) (i : ℕ) : Type 0 where
  pub before : (j : ℕ) → j < i → is_behind last (key_at l j) ≡ false
  pub from : (j : ℕ) → i ≤ j → j < length l → is_behind last (key_at l j) ≡ true
