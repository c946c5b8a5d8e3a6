-- The table after a key has gone: from the second map, or from the first.
use Rattle.std.proofs.Common.{ℕ, ◌≡◌, ◌≢◌, ◌==◌, ◌⊎◌, refl, true, false, Bool, cond, Some, None, inl, inr, ap, sym, ◌∙◌, subst}
use Rattle.std.specs.HashMap.{HashMap}
use Rattle.std.specs.HashMap as by_hash
use Rattle.std.specs.BTreeMap.{BTreeMap}
use Rattle.std.specs.BTreeMap as by_order
use Rattle.std.specs.Ordering.{is_eq}
use Rattle.std.specs.Cmp.{tied_itself}
use Rattle.std.specs.declared.cmp.Ordering.{Ordering}
use Rattle.std.specs.declared.cmp.Ordering.TheVariants.{Less, Equal, Greater}
use Rattle.std.proofs.lemmas.Bool.Decides.{eqb_tells}
use Rattle.std.proofs.lemmas.Bool.{true≢false}
use Rattle.slab.specs.Slab.{Slab}
use Rattle.ordered_lists.specs.Canon.{Exact}
use Rattle.row_table.specs.Tables.{key_of, IsTable}
use Rattle.row_table.specs.declared.keys.Entry.{Entry}

none_some : {K : Type 0} (k : K) → None ≡ Some k → ⊥
none_some k e = cc

same_some : {K : Type 0} (j k : K) → Some j ≡ Some k → j ≡ k
same_some j k e = cc

module _ {K V S : Type 0} (code : K → ℕ) (cmp : K → K → Ordering) (exact : Exact cmp) (s t : Slab (Entry K V)) (firsts firsts' : HashMap ℕ ℕ S) (rest rest' : BTreeMap K ℕ) (n : ℕ) (k : K)
    (held : key_of s n ≡ Some k) (gone : key_of t n ≡ None) (others : (m : ℕ) → m ≢ n → key_of t m ≡ key_of s m) where
  back : (m : ℕ) (j : K) → key_of t m ≡ Some j → (m ≢ n) × (key_of s m ≡ Some j)
  back m j e = elim (eqb_tells m n) [
    | inl d ↦ absurd (none_some j (sym gone ∙ ap (λ z. key_of t z) (sym d.1) ∙ e))
    | inr d ↦ (d.1, sym (others m d.1) ∙ e)
  ]

  at_n : (m : ℕ) (j : K) → m ≡ n → key_of s m ≡ Some j → j ≡ k
  at_n m j d e = sym (same_some k j (sym held ∙ ap (λ z. key_of s z) (sym d) ∙ e))

  tied : (j : K) → is_eq (cmp k j) ≡ true → k ≡ j
  tied j e = at (cmp k j) refl e
    where
      at : (c : Ordering) → cmp k j ≡ c → is_eq c ≡ true → k ≡ j
      at Less d f = absurd (true≢false (sym f))
      at Equal d f = exact.same k j d
      at Greater d f = absurd (true≢false (sym f))

  module _ (old : IsTable code cmp s firsts rest) where
    -- the number in the second map goes
    module _ (first_not : by_hash.get ◌==◌ firsts (code k) ≡ Some n → ⊥) (left : (q : K) → by_order.get cmp rest' q ≡ cond (is_eq (cmp k q)) None (by_order.get cmp rest q)) where
      was : (j : K) (m : ℕ) → by_order.get cmp rest' j ≡ Some m → (is_eq (cmp k j) ≡ false) × (by_order.get cmp rest j ≡ Some m)
      was j m e = at (is_eq (cmp k j)) refl
        where
          at : (b : Bool) → is_eq (cmp k j) ≡ b → (is_eq (cmp k j) ≡ false) × (by_order.get cmp rest j ≡ Some m)
          at true d = absurd (none_some m (sym (left j ∙ ap (λ b. cond b None (by_order.get cmp rest j)) d) ∙ e))
          at false d = (d, sym (left j ∙ ap (λ b. cond b None (by_order.get cmp rest j)) d) ∙ e)

      stays : (j : K) (m : ℕ) → m ≢ n → by_order.get cmp rest j ≡ Some m → key_of s m ≡ Some j → by_order.get cmp rest' j ≡ Some m
      stays j m d e f = at (is_eq (cmp k j)) refl
        where
          at : (b : Bool) → is_eq (cmp k j) ≡ b → by_order.get cmp rest' j ≡ Some m
          at true c = absurd (d (old.unique m n k (subst (λ z. key_of s m ≡ Some z) (sym (tied j c)) f) held))
          at false c = left j ∙ ap (λ b. cond b None (by_order.get cmp rest j)) c ∙ e

      self : is_eq (cmp k k) ≡ true
      self = ap is_eq (tied_itself exact.total k)

      pub table_less_rest : IsTable code cmp t firsts rest'
      table_less_rest = record { first = first; second = second; found = found; apart = apart; unique = unique }
        where
          first : (h m : ℕ) → by_hash.get ◌==◌ firsts h ≡ Some m → (j : K) × (key_of t m ≡ Some j) × (code j ≡ h)
          first h m e = let f = old.first h m e in
              (f.0, others m (λ d. first_not (subst (λ z. by_hash.get ◌==◌ firsts z ≡ Some n) (sym f.2 ∙ ap code (at_n m f.0 d f.1)) (subst (λ z. by_hash.get ◌==◌ firsts h ≡ Some z) d e))) ∙ f.1, f.2)

          second : (j : K) (m : ℕ) → by_order.get cmp rest' j ≡ Some m → key_of t m ≡ Some j
          second j m e = let w = was j m e in let f = old.second j m w.1 in
              others m (λ d. true≢false (sym self ∙ ap (λ z. is_eq (cmp k z)) (sym (at_n m j d f)) ∙ w.0)) ∙ f

          found : (m : ℕ) (j : K) → key_of t m ≡ Some j → (by_hash.get ◌==◌ firsts (code j) ≡ Some m) ⊎ (by_order.get cmp rest' j ≡ Some m)
          found m j e = let b = back m j e in elim (old.found m j b.1) [ inl x ↦ inl x | inr x ↦ inr (stays j m b.0 x b.1) ]

          apart : (j : K) (m : ℕ) → by_order.get cmp rest' j ≡ Some m → by_hash.get ◌==◌ firsts (code j) ≡ Some m → ⊥
          apart j m e f = old.apart j m (was j m e).1 f

          unique : (a b : ℕ) (j : K) → key_of t a ≡ Some j → key_of t b ≡ Some j → a ≡ b
          unique a b j e f = old.unique a b j (back a j e).1 (back b j f).1

    -- the number in the first map goes
    module _ (was_first : by_hash.get ◌==◌ firsts (code k) ≡ Some n) (empty : by_hash.get ◌==◌ firsts' (code k) ≡ None) (left : (h : ℕ) → h ≢ code k → by_hash.get ◌==◌ firsts' h ≡ by_hash.get ◌==◌ firsts h) where
      earlier : (h m : ℕ) → by_hash.get ◌==◌ firsts' h ≡ Some m → (h ≢ code k) × (by_hash.get ◌==◌ firsts h ≡ Some m)
      earlier h m e = elim (eqb_tells h (code k)) [
        | inl d ↦ absurd (none_some m (sym empty ∙ ap (λ z. by_hash.get ◌==◌ firsts' z) (sym d.1) ∙ e))
        | inr d ↦ (d.1, sym (left h d.1) ∙ e)
      ]

      pub table_less_first : IsTable code cmp t firsts' rest
      table_less_first = record { first = first; second = second; found = found; apart = apart; unique = unique }
        where
          first : (h m : ℕ) → by_hash.get ◌==◌ firsts' h ≡ Some m → (j : K) × (key_of t m ≡ Some j) × (code j ≡ h)
          first h m e = let w = earlier h m e in let f = old.first h m w.1 in
              (f.0, others m (λ d. w.0 (sym f.2 ∙ ap code (at_n m f.0 d f.1))) ∙ f.1, f.2)

          second : (j : K) (m : ℕ) → by_order.get cmp rest j ≡ Some m → key_of t m ≡ Some j
          second j m e = let f = old.second j m e in
              others m (λ d. old.apart k n (subst (λ z. by_order.get cmp rest z ≡ Some n) (at_n m j d f) (subst (λ z. by_order.get cmp rest j ≡ Some z) d e)) was_first) ∙ f

          found : (m : ℕ) (j : K) → key_of t m ≡ Some j → (by_hash.get ◌==◌ firsts' (code j) ≡ Some m) ⊎ (by_order.get cmp rest j ≡ Some m)
          found m j e = let b = back m j e in elim (old.found m j b.1) [
            | inl x ↦ inl (left (code j) (λ d. b.0 (sym (same_some n m (sym was_first ∙ ap (λ z. by_hash.get ◌==◌ firsts z) (sym d) ∙ x)))) ∙ x)
            | inr x ↦ inr x
          ]

          apart : (j : K) (m : ℕ) → by_order.get cmp rest j ≡ Some m → by_hash.get ◌==◌ firsts' (code j) ≡ Some m → ⊥
          apart j m e f = old.apart j m e (earlier (code j) m f).1

          unique : (a b : ℕ) (j : K) → key_of t a ≡ Some j → key_of t b ≡ Some j → a ≡ b
          unique a b j e f = old.unique a b j (back a j e).1 (back b j f).1
