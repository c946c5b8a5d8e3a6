-- Names by number.
use Rattle.std.proofs.Common.{◌≡◌, ℕ, zero, suc, ◌<◌, Bool, true, false, cond, ◌||◌, ◌==◌, Option, Some, None, List, [], ◌∷◌, ◌++◌, length, get_or, refl, ap, sym, ◌∙◌, arith, append_assoc}
use Rattle.std.specs.Option.{option_map}
use Rattle.std.specs.List.{cons_option}
use Rattle.std.specs.Ordering.{is_eq}
use Rattle.std.specs.Cmp.{tied_itself}
use Rattle.std.proofs.Math.Logic.{⊎_elim}
use Rattle.std.proofs.lemmas.Bool.{true≢false, or_left, or_right, or_cases}
use Rattle.std.proofs.lemmas.Bool.Decides.{Decides-eqb}
use Rattle.std.proofs.lemmas.List.Elements.{filter_map-append}
use Rattle.ordered_lists.specs.Canon.{has}
use Rattle.event_model.specs.declared.atoms.NameArity.{NameArity}
use Rattle.event_model.specs.EventOrder.{name_cmp, exact_names, same_names}
use Rattle.rule_ast.specs.Vars.{is_in, is_in-none, is_in-cons}
use Rattle.rule_check.specs.Numbers.{place, places}

pub itself : (n : NameArity) → is_eq (name_cmp n n) ≡ true
itself n = ap is_eq (tied_itself exact_names.total n)

-- a name that isn't among these has no number
pub no_place : (heads : List NameArity) (n : NameArity) → has name_cmp n heads ≡ false → place heads n ≡ None
no_place [] n e = refl
no_place (h ∷ heads) n e = at (is_eq (name_cmp n h)) e (no_place heads n)
  where
    at : (b : Bool) → (b || has name_cmp n heads) ≡ false → (has name_cmp n heads ≡ false → place heads n ≡ None) → cond b (Some 0) (option_map suc (place heads n)) ≡ None
    at true e rest = absurd (true≢false e)
    at false e rest = ap (option_map suc) (rest e)

pub place_below : (heads : List NameArity) (m : NameArity) (j : ℕ) → place heads m ≡ Some j → j < length heads
place_below [] m j e = cc
place_below (h ∷ heads) m j e = at (λ k p. place_below heads m k p) (is_eq (name_cmp m h)) (place heads m) refl e
  where
    at : ((k : ℕ) → place heads m ≡ Some k → k < length heads) → (b : Bool) (o : Option ℕ) → place heads m ≡ o → cond b (Some 0) (option_map suc o) ≡ Some j → j < suc (length heads)
    at rest true o p f = let z : 0 ≡ j = cc in omega (arith, z)
    at rest false None p f = cc
    at rest false (Some k) p f = let s : suc k ≡ j = cc in let more = rest k p in omega (arith, s, more)

pub place_name : (heads : List NameArity) (m : NameArity) (j : ℕ) → place heads m ≡ Some j → (d : NameArity) → get_or heads j d ≡ m
place_name [] m j e d = cc
place_name (h ∷ heads) m j e d = at (λ k p. place_name heads m k p d) (is_eq (name_cmp m h)) refl (place heads m) refl e
  where
    at : ((k : ℕ) → place heads m ≡ Some k → get_or heads k d ≡ m) → (b : Bool) → is_eq (name_cmp m h) ≡ b → (o : Option ℕ) → place heads m ≡ o → cond b (Some 0) (option_map suc o) ≡ Some j → get_or (h ∷ heads) j d ≡ m
    at rest true is o p f = let z : 0 ≡ j = cc in ap (λ k. get_or (h ∷ heads) k d) (sym z) ∙ sym (same_names m h is)
    at rest false is None p f = cc
    at rest false is (Some k) p f = let s : suc k ≡ j = cc in ap (λ i. get_or (h ∷ heads) i d) (sym s) ∙ rest k p

pub place_some : (heads : List NameArity) (m : NameArity) → has name_cmp m heads ≡ true → (j : ℕ) × (place heads m ≡ Some j)
place_some [] m e = absurd (true≢false (sym e))
place_some (h ∷ heads) m e = at (is_eq (name_cmp m h)) e (place_some heads m)
  where
    at : (b : Bool) → (b || has name_cmp m heads) ≡ true → (has name_cmp m heads ≡ true → (j : ℕ) × (place heads m ≡ Some j)) → (j : ℕ) × (cond b (Some 0) (option_map suc (place heads m)) ≡ Some j)
    at true f rest = (0, refl)
    at false f rest = let (j, p) = rest f in (suc j, ap (option_map suc) p)

pub placed_somewhere : (heads : List NameArity) (m : NameArity) → has name_cmp m heads ≡ true → None ≡ place heads m → ⊥
placed_somewhere heads m e none = let (j, p) = place_some heads m e in let clash : None ≡ Some j = none ∙ p in cc

module _ (heads : List NameArity) where
  pub in_places : (names : List NameArity) (j : ℕ) → is_in j (places heads names) ≡ true → (m : NameArity) × (has name_cmp m names ≡ true) × (place heads m ≡ Some j)
  in_places [] j e = absurd (true≢false (sym e ∙ is_in-none j))
  in_places (n ∷ names) j e = at (in_places names j) (place heads n) refl e
    where
      at : (is_in j (places heads names) ≡ true → (m : NameArity) × (has name_cmp m names ≡ true) × (place heads m ≡ Some j)) → (o : Option ℕ) → place heads n ≡ o → is_in j (cons_option o (places heads names)) ≡ true → (m : NameArity) × (has name_cmp m (n ∷ names) ≡ true) × (place heads m ≡ Some j)
      at rest None p f = let (m, h, q) = rest f in (m, or_right (is_eq (name_cmp m n)) (has name_cmp m names) h, q)
      at rest (Some k) p f =
          ⊎_elim
          (λ t. (n, or_left (is_eq (name_cmp n n)) (has name_cmp n names) (itself n), p ∙ ap Some ((Decides-eqb k j).0 t)))
          (λ t. let (m, h, q) = rest t in (m, or_right (is_eq (name_cmp m n)) (has name_cmp m names) h, q))
          (or_cases (k == j) (is_in j (places heads names)) (sym (is_in-cons j k (places heads names)) ∙ f))

  pub places_in : (names : List NameArity) (m : NameArity) (j : ℕ) → has name_cmp m names ≡ true → place heads m ≡ Some j → is_in j (places heads names) ≡ true
  places_in [] m j e p = absurd (true≢false (sym e))
  places_in (n ∷ names) m j e p =
      ⊎_elim
      (λ t. ap (λ o. is_in j (cons_option o (places heads names))) (ap (place heads) (sym (same_names m n t)) ∙ p) ∙ is_in-cons j j (places heads names) ∙ or_left (j == j) (is_in j (places heads names)) ((Decides-eqb j j).1 refl))
      (λ t. at (place heads n) (places_in names m j t p))
      (or_cases (is_eq (name_cmp m n)) (has name_cmp m names) e)
    where
      at : (o : Option ℕ) → is_in j (places heads names) ≡ true → is_in j (cons_option o (places heads names)) ≡ true
      at None f = f
      at (Some k) f = is_in-cons j k (places heads names) ∙ or_right (k == j) (is_in j (places heads names)) f

pub places-append : (heads xs ys : List NameArity) → places heads (xs ++ ys) ≡ places heads xs ++ places heads ys
places-append heads xs ys = filter_map-append (place heads) xs ys

pub ruleset placings = (places-append, append_assoc)
