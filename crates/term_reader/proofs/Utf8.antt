-- Bytes that pass the table of characters are a character of UTF-8.
use Rattle.std.proofs.Common.{◌≡◌, ℕ, ◌+◌, ◌*◌, ◌-◌, ◌/◌, ◌<◌, ◌≤◌, ◌⊎◌, inl, inr, Bool, true, false, ◌&&◌, cond, List, [], ◌∷◌, ◌++◌, refl, sym, ap, ◌∙◌, arith, subst, zero, suc, IsUtf8, append_assoc}
use Rattle.std.specs.Prelude.{nat_lt, nat_le}
use Rattle.std.proofs.lemmas.Bool.{leb-true, ltb-true, ltb-false, lt-ltb, le-leb, le-ltb, and_parts, cond-true}
use Rattle.std.proofs.lemmas.Str.{IsUtf8-encode, IsUtf8-append, encode_ascii}
use lib.Utf8.{scalar, low_scalar, encode, next}
use Rattle.term_reader.specs.declared.signs.Status.{Status}
use Rattle.term_reader.specs.declared.signs.Status.TheVariants.{Wrong, Whole, Needs}
use Rattle.term_reader.specs.Signs.{needs, status_first, status_next, status_more, fits_need}
use Rattle.term_reader.specs.Grammar.{Bytes, Bytes.OneByte, Bytes.MoreByte, raw, status}

high_scalar : (c : ℕ) → 57344 ≤ c → c < 1114112 → scalar c ≡ true
high_scalar c h l = by (nat_lt c 55296) (nat_le 57344 c && nat_lt c 1114112) (inner (nat_le 57344 c) (nat_lt c 1114112) (le-leb _ _ h) (lt-ltb _ _ l))
  where
    by : (a b : Bool) → b ≡ true → cond a true b ≡ true
    by true b e = refl
    by false b e = e

    inner : (a b : Bool) → a ≡ true → b ≡ true → (a && b) ≡ true
    inner a b e f = rw (e, f) refl

passed : {X : Type 0} (m n : ℕ) (a b : X) → n ≤ m → cond (nat_lt m n) a b ≡ b
passed m n a b h = ap (λ t. cond t a b) (le-ltb m n h)

two : (c : ℕ) → 128 ≤ c → c < 2048 → encode c ≡ (192 + c / 64) ∷ next c ∷ []
unfolding encode
two c l h = passed c 128 _ _ l ∙ cond-true (nat_lt c 2048) _ _ (lt-ltb c 2048 h)

three : (c : ℕ) → 2048 ≤ c → c < 65536 → encode c ≡ (224 + c / 4096) ∷ next (c / 64) ∷ next c ∷ []
unfolding encode
three c l h = passed c 128 _ _ (omega arith) ∙ passed c 2048 _ _ l ∙ cond-true (nat_lt c 65536) _ _ (lt-ltb c 65536 h)

four : (c : ℕ) → 65536 ≤ c → encode c ≡ (240 + c / 262144) ∷ next (c / 4096) ∷ next (c / 64) ∷ next c ∷ []
unfolding encode
four c l = passed c 128 _ _ (omega arith) ∙ passed c 2048 _ _ (omega arith) ∙ passed c 65536 _ _ l

pair_is : {a b x y : ℕ} → a ≡ x → b ≡ y → a ∷ b ∷ [] ≡ x ∷ y ∷ []
pair_is e f = cc

three_is : {a b c x y z : ℕ} → a ≡ x → b ≡ y → c ≡ z → a ∷ b ∷ c ∷ [] ≡ x ∷ y ∷ z ∷ []
three_is e f g = cc

four_is : {a b c d x y z u : ℕ} → a ≡ x → b ≡ y → c ≡ z → d ≡ u → a ∷ b ∷ c ∷ d ∷ [] ≡ x ∷ y ∷ z ∷ u ∷ []
four_is e f g h = cc

pub of_two : (x y : ℕ) → 194 ≤ x → x < 224 → 128 ≤ y → y ≤ 191 → IsUtf8 (x ∷ y ∷ [])
of_two x y a b l m =
    let c : ℕ = (x - 192) * 64 + (y - 128) in
    subst IsUtf8 (two c (omega arith) (omega arith) ∙ pair_is (omega arith) (omega arith)) (IsUtf8-encode c (low_scalar c (omega arith)))

three_scalar : (c : ℕ) → c < 65536 → (c < 55296) ⊎ (57344 ≤ c) → scalar c ≡ true
three_scalar c h (inl l) = low_scalar c l
three_scalar c h (inr l) = high_scalar c l (omega arith)

pub of_three : (x y z : ℕ) → 224 ≤ x → x < 240 → 128 ≤ y → y ≤ 191 → 128 ≤ z → z ≤ 191 → 32 ≤ (x - 224) * 64 + (y - 128) → ((x - 224) * 64 + (y - 128) < 864) ⊎ (896 ≤ (x - 224) * 64 + (y - 128)) → IsUtf8 (x ∷ y ∷ z ∷ [])
of_three x y z a b l m n o p q =
    let c : ℕ = (x - 224) * 4096 + (y - 128) * 64 + (z - 128) in
    let s : (c < 55296) ⊎ (57344 ≤ c) = side q in
    subst IsUtf8 (three c (omega arith) (omega arith) ∙ three_is (omega arith) (omega arith) (omega arith)) (IsUtf8-encode c (three_scalar c (omega arith) s))
  where
    side : ((x - 224) * 64 + (y - 128) < 864) ⊎ (896 ≤ (x - 224) * 64 + (y - 128)) → ((x - 224) * 4096 + (y - 128) * 64 + (z - 128) < 55296) ⊎ (57344 ≤ (x - 224) * 4096 + (y - 128) * 64 + (z - 128))
    side (inl h) = inl (omega arith)
    side (inr h) = inr (omega arith)

pub of_four : (x y z u : ℕ) → 240 ≤ x → 128 ≤ y → y ≤ 191 → 128 ≤ z → z ≤ 191 → 128 ≤ u → u ≤ 191 → 16 ≤ (x - 240) * 64 + (y - 128) → (x - 240) * 64 + (y - 128) < 272 → IsUtf8 (x ∷ y ∷ z ∷ u ∷ [])
of_four x y z u a l m n o v w p q =
    let c : ℕ = (x - 240) * 262144 + (y - 128) * 4096 + (z - 128) * 64 + (u - 128) in
    subst IsUtf8 (four c (omega arith) ∙ four_is (omega arith) (omega arith) (omega arith) (omega arith)) (IsUtf8-encode c (high_scalar c (omega arith) (omega arith)))

-- what the table says of a first byte, by the number of bytes that come behind the second

abbrev pub FirstBy : ℕ → ℕ → ℕ → ℕ → Type 0
FirstBy x low high zero = (194 ≤ x) × (x < 224) × (128 ≤ low) × (high ≤ 191)
FirstBy x low high (suc zero) = (224 ≤ x) × (x < 240) × (128 ≤ low) × (high ≤ 191) × (32 ≤ (x - 224) * 64 + (low - 128)) × (((x - 224) * 64 + (high - 128) < 864) ⊎ (896 ≤ (x - 224) * 64 + (low - 128)))
FirstBy x low high (suc (suc zero)) = (240 ≤ x) × (128 ≤ low) × (high ≤ 191) × (16 ≤ (x - 240) * 64 + (low - 128)) × ((x - 240) * 64 + (high - 128) < 272)
FirstBy x low high n = ⊥

abbrev pub First : ℕ → Status → Type 0
First x Wrong = Unit {0}
First x Whole = ⊥
First x (Needs n) = FirstBy x n.low n.high n.more

row : (x bound : ℕ) (s u : Status) → (x < bound → First x s) → (bound ≤ x → First x u) → First x (cond (nat_lt x bound) s u)
row x bound s u h k = at (nat_lt x bound) refl
  where
    at : (b : Bool) → nat_lt x bound ≡ b → First x (cond b s u)
    at true e = h (ltb-true _ _ e)
    at false e = k (ltb-false _ _ e)

pub first_by : (x : ℕ) → First x (status_first x)
first_by x =
    row x 0xC2 Wrong _ (λ h. tt) (λ a.
    row x 0xE0 (needs 0x80 0xBF 0) _ (λ h. (omega arith, omega arith, omega arith, omega arith)) (λ b.
    row x 0xE1 (needs 0xA0 0xBF 1) _ (λ h. (omega arith, omega arith, omega arith, omega arith, omega arith, inl (omega arith))) (λ c.
    row x 0xED (needs 0x80 0xBF 1) _ (λ h. (omega arith, omega arith, omega arith, omega arith, omega arith, inl (omega arith))) (λ d.
    row x 0xEE (needs 0x80 0x9F 1) _ (λ h. (omega arith, omega arith, omega arith, omega arith, omega arith, inl (omega arith))) (λ e.
    row x 0xF0 (needs 0x80 0xBF 1) _ (λ h. (omega arith, omega arith, omega arith, omega arith, omega arith, inr (omega arith))) (λ f.
    row x 0xF1 (needs 0x90 0xBF 2) _ (λ h. (omega arith, omega arith, omega arith, omega arith, omega arith)) (λ g.
    row x 0xF4 (needs 0x80 0xBF 2) _ (λ h. (omega arith, omega arith, omega arith, omega arith, omega arith)) (λ i.
    row x 0xF5 (needs 0x80 0x8F 2) _ (λ h. (omega arith, omega arith, omega arith, omega arith, omega arith)) (λ j. tt)))))))))

-- a list of bytes that so many more bytes make a character

abbrev pub After : ℕ → List ℕ → Type 0
After zero l = IsUtf8 l
After (suc n) l = (y : ℕ) → 128 ≤ y → y ≤ 191 → After n (l ++ y ∷ [])

abbrev pub Good : List ℕ → Status → Type 0
Good l Wrong = Unit {0}
Good l Whole = IsUtf8 l
Good l (Needs n) = (y : ℕ) → n.low ≤ y → y ≤ n.high → After n.more (l ++ y ∷ [])

good_by : (x low high more : ℕ) → FirstBy x low high more → (y : ℕ) → low ≤ y → y ≤ high → After more (x ∷ y ∷ [])
good_by x low high zero f y a b = of_two x y f.0 f.1 (omega (arith, f.2, a)) (omega (arith, f.3, b))
good_by x low high (suc zero) f y a b = λ z l m. of_three x y z f.0 f.1 (omega (arith, f.2, a)) (omega (arith, f.3, b)) l m (omega (arith, f.4, a, f.0, f.2)) (side f.5)
  where
    side : ((x - 224) * 64 + (high - 128) < 864) ⊎ (896 ≤ (x - 224) * 64 + (low - 128)) → ((x - 224) * 64 + (y - 128) < 864) ⊎ (896 ≤ (x - 224) * 64 + (y - 128))
    side (inl h) = inl (omega (arith, h, b))
    side (inr h) = inr (omega (arith, h, a))
good_by x low high (suc (suc zero)) f y a b = λ z l m u n o. of_four x y z u f.0 (omega (arith, f.1, a)) (omega (arith, f.2, b)) l m n o (omega (arith, f.3, a)) (omega (arith, f.4, b))
good_by x low high (suc (suc (suc n))) f y a b = absurd f

first_good : (x : ℕ) (s : Status) → First x s → Good (x ∷ []) s
first_good x Wrong f = tt
first_good x Whole f = absurd f
first_good x (Needs n) f = good_by x n.low n.high n.more f

after_good : (n : ℕ) (l : List ℕ) → After n l → Good l (status_next n)
after_good zero l h = h
after_good (suc n) l h = h

good_more : (l : List ℕ) (s : Status) (y : ℕ) → Good l s → Good (l ++ y ∷ []) (status_more s y)
good_more l Wrong y h = tt
good_more l Whole y h = tt
good_more l (Needs n) y h = at (fits_need n y) refl
  where
    at : (b : Bool) → fits_need n y ≡ b → Good (l ++ y ∷ []) (cond b (status_next n.more) Wrong)
    at true e = let p = and_parts (nat_le n.low y) (nat_le y n.high) e in after_good n.more (l ++ y ∷ []) (h y (leb-true _ _ p.0) (leb-true _ _ p.1))
    at false e = tt

pub raw-append : (bs : Bytes) (rest : List ℕ) → raw bs rest ≡ raw bs [] ++ rest
raw-append (OneByte x) rest = refl
raw-append (MoreByte bs x) rest = raw-append bs (x ∷ rest) ∙ sym (append_assoc (raw bs []) (x ∷ []) rest) ∙ ap (λ l. l ++ rest) (sym (raw-append bs (x ∷ [])))

pub good : (bs : Bytes) → Good (raw bs []) (status bs)
good (OneByte x) = first_good x (status_first x) (first_by x)
good (MoreByte bs y) = subst (λ l. Good l (status (MoreByte bs y))) (sym (raw-append bs (y ∷ []))) (good_more (raw bs []) (status bs) y (good bs))

pub of_whole : (bs : Bytes) → status bs ≡ Whole → IsUtf8 (raw bs [])
of_whole bs e = subst (Good (raw bs [])) e (good bs)

-- one byte below 128, and then text
pub small_then : (b : ℕ) (rest : List ℕ) → b < 128 → IsUtf8 rest → IsUtf8 (b ∷ rest)
small_then b rest h u = IsUtf8-append (b ∷ []) rest (subst IsUtf8 (encode_ascii b h) (IsUtf8-encode b (low_scalar b (omega arith)))) u
