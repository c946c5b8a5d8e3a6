-- The order of terms: numbers by value, then symbols, then texts, then compounds by name, number of arguments and arguments
-- from the left. Only equal terms tie.
use Rattle.std.specs.Prelude.{ℕ, zero, suc, ℤ, pos, ◌≡◌, refl, List, [], ◌∷◌, length, map}
use Rattle.std.specs.Ordering.{ordering_then, ordering_reverse, nat_cmp, int_cmp, is_eq}
use Rattle.std.specs.Cmp.{IsTotalOrder, on_total, then_total, nat_cmp_total, int_cmp_total, then_flip}
use Rattle.std.specs.Cmp.Lexicographic.{slice_cmp, nat_list_cmp_total}
use Rattle.std.specs.FinMap.{slice_cmp-IsAntisymmetric, nat_cmp-IsAntisymmetric, int_cmp-IsAntisymmetric}
use Rattle.std.specs.declared.cmp.Ordering.{Ordering}
use Rattle.std.specs.declared.cmp.Ordering.TheVariants.{Less, Equal, Greater}
use Rattle.std.proofs.Common.{ap, sym, subst, ◌∙◌}
use Rattle.std.proofs.lemmas.Bool.{true≢false}
use Rattle.std.proofs.lemmas.Map.Lookups.{exact_pairs}
use Rattle.ordered_lists.specs.Canon.{Exact}
use Rattle.event_model.specs.declared.terms.Term.{Term, out-Term, roll-Term, out-roll-Term, roll-out-Term}
use Rattle.event_model.specs.declared.terms.Term.TheVariants as made
use Rattle.event_model.specs.declared.terms.Term.TheOpen.{Term-F}
use Rattle.event_model.specs.declared.terms.Term.TheOpen.Term-F.{Num, Sym, Text, Comp}
use Rattle.event_model.specs.declared.terms.Term.TheFolds.{fold-Term, fold_out-Term, map-Term, ind-Term}

abbrev pub Key : Type 0
Key = ℕ × (ℤ × (List ℕ × ℕ))

-- the kind, the number, the bytes and the number of arguments
abbrev pub key_of : {X : Type 0} → Term-F X → Key
key_of (Num n) = (0, (n, ([], 0)))
key_of (Sym s) = (1, (pos 0, (s, 0)))
key_of (Text s) = (2, (pos 0, (s, 0)))
key_of (Comp f xs) = (3, (pos 0, (f, length xs)))

abbrev pub args_of : {X : Type 0} → Term-F X → List X
args_of (Num n) = []
args_of (Sym s) = []
args_of (Text s) = []
args_of (Comp f xs) = xs

abbrev pub key_cmp : Key → Key → Ordering
key_cmp a b = ordering_then (nat_cmp a.0 b.0)
    (ordering_then (int_cmp a.1.0 b.1.0) (ordering_then (slice_cmp nat_cmp a.1.1.0 b.1.1.0) (nat_cmp a.1.1.1 b.1.1.1)))

-- by the keys, and then the arguments from the left
abbrev pub step : {X : Type 0} → (X → Term → Ordering) → Term-F X → Term-F Term → Ordering
step R a b = ordering_then (key_cmp (key_of a) (key_of b)) (slice_cmp R (args_of a) (args_of b))

unfoldable pub term_cmp : Term → Term → Ordering
term_cmp = fold-Term (Term → Ordering) (λ a b. step (λ x y. x y) a (out-Term b))

same_lists : (xs ys : List Term) → slice_cmp (λ x y. x y) (map term_cmp xs) ys ≡ slice_cmp term_cmp xs ys
same_lists [] [] = refl
same_lists [] (y ∷ ys) = refl
same_lists (x ∷ xs) [] = refl
same_lists (x ∷ xs) (y ∷ ys) = ap (ordering_then (term_cmp x y)) (same_lists xs ys)

length_same : (xs : List Term) → length (map term_cmp xs) ≡ length xs
length_same [] = refl
length_same (x ∷ xs) = ap suc (length_same xs)

opened : (a b : Term-F Term) → step (λ x y. x y) (map-Term Term (Term → Ordering) term_cmp a) b ≡ step term_cmp a b
opened (Num n) b = ap (ordering_then (key_cmp (key_of {X = Term} (Num n)) (key_of b))) (same_lists [] (args_of b))
opened (Sym n) b = ap (ordering_then (key_cmp (key_of {X = Term} (Sym n)) (key_of b))) (same_lists [] (args_of b))
opened (Text n) b = ap (ordering_then (key_cmp (key_of {X = Term} (Text n)) (key_of b))) (same_lists [] (args_of b))
opened (Comp f xs) b = λ i. ordering_then (key_cmp (3, (pos 0, (f, length_same xs i))) (key_of b)) (same_lists xs (args_of b) i)

pub term_cmp_out : (a b : Term) → term_cmp a b ≡ step term_cmp (out-Term a) (out-Term b)
unfolding term_cmp
term_cmp_out a b = ap (λ f. f b) (fold_out-Term (Term → Ordering) (λ a b. step (λ x y. x y) a (out-Term b)) a)
    ∙ opened (out-Term a) (out-Term b)

term_cmp_roll : (a : Term-F Term) (b : Term) → term_cmp (roll-Term a) b ≡ step term_cmp a (out-Term b)
term_cmp_roll a b = term_cmp_out (roll-Term a) b ∙ ap (λ z. step term_cmp z (out-Term b)) (out-roll-Term a)

-- ---- the order at each two constructors

pub term_cmp_at : (a b : Term) {x y : Term-F Term} → out-Term a ≡ x → out-Term b ≡ y → term_cmp a b ≡ step term_cmp x y
term_cmp_at a b p q = term_cmp_out a b ∙ ap (λ x. step term_cmp x (out-Term b)) p ∙ ap (step term_cmp _) q

abbrev pub bytes_cmp : List ℕ → List ℕ → Ordering
bytes_cmp = slice_cmp nat_cmp

-- the number of arguments, and then the arguments from the left
abbrev pub args_cmp : List Term → List Term → Ordering
args_cmp xs ys = ordering_then (nat_cmp (length xs) (length ys)) (slice_cmp term_cmp xs ys)

then_nothing : (o : Ordering) → ordering_then (ordering_then o Equal) Equal ≡ o
then_nothing Less = refl
then_nothing Equal = refl
then_nothing Greater = refl

then_assoc : (o p q : Ordering) → ordering_then (ordering_then o p) q ≡ ordering_then o (ordering_then p q)
then_assoc Less p q = refl
then_assoc Equal p q = refl
then_assoc Greater p q = refl

pub nums : (x y : ℤ) → term_cmp (made.Num x) (made.Num y) ≡ int_cmp x y
nums x y = term_cmp_at (made.Num x) (made.Num y) (made.outs-Num x) (made.outs-Num y) ∙ then_nothing (int_cmp x y)

pub syms : (x y : List ℕ) → term_cmp (made.Sym x) (made.Sym y) ≡ bytes_cmp x y
syms x y = term_cmp_at (made.Sym x) (made.Sym y) (made.outs-Sym x) (made.outs-Sym y) ∙ then_nothing (bytes_cmp x y)

pub texts : (x y : List ℕ) → term_cmp (made.Text x) (made.Text y) ≡ bytes_cmp x y
texts x y = term_cmp_at (made.Text x) (made.Text y) (made.outs-Text x) (made.outs-Text y) ∙ then_nothing (bytes_cmp x y)

pub comps : (f g : List ℕ) (xs ys : List Term) → term_cmp (made.Comp f xs) (made.Comp g ys) ≡ ordering_then (bytes_cmp f g) (args_cmp xs ys)
comps f g xs ys = term_cmp_at (made.Comp f xs) (made.Comp g ys) (made.outs-Comp f xs) (made.outs-Comp g ys)
    ∙ then_assoc (bytes_cmp f g) (nat_cmp (length xs) (length ys)) (slice_cmp term_cmp xs ys)

-- numbers come first, then symbols, texts and compounds
abbrev pub rank : Term → ℕ
rank t = (key_of (out-Term t)).0

pub ranks : (a b : Term) → (rank a ≡ rank b → ⊥) → term_cmp a b ≡ nat_cmp (rank a) (rank b)
ranks a b differ = term_cmp_out a b ∙ at (out-Term a) (out-Term b) differ
  where
    at : (x y : Term-F Term) → ((key_of x).0 ≡ (key_of y).0 → ⊥) → step term_cmp x y ≡ nat_cmp (key_of x).0 (key_of y).0
    at (Num n) (Num m) d = absurd (d refl)
    at (Num n) (Sym m) d = refl
    at (Num n) (Text m) d = refl
    at (Num n) (Comp g ys) d = refl
    at (Sym n) (Num m) d = refl
    at (Sym n) (Sym m) d = absurd (d refl)
    at (Sym n) (Text m) d = refl
    at (Sym n) (Comp g ys) d = refl
    at (Text n) (Num m) d = refl
    at (Text n) (Sym m) d = refl
    at (Text n) (Text m) d = absurd (d refl)
    at (Text n) (Comp g ys) d = refl
    at (Comp f xs) (Num m) d = refl
    at (Comp f xs) (Sym m) d = refl
    at (Comp f xs) (Text m) d = refl
    at (Comp f xs) (Comp g ys) d = absurd (d refl)

pub ruleset kinds = (nums, syms, texts, comps, ranks)

-- ---- only equal terms tie, and the order is total

keys_total : IsTotalOrder key_cmp
keys_total = then_total (on_total (λ k. k.0) nat_cmp_total)
    (then_total (on_total (λ k. k.1.0) int_cmp_total) (then_total (on_total (λ k. k.1.1.0) nat_list_cmp_total)
    (on_total (λ k. k.1.1.1) nat_cmp_total)))

keys_exact : (a b : Key) → key_cmp a b ≡ Equal → a ≡ b
keys_exact = exact_pairs nat_cmp _ nat_cmp-IsAntisymmetric
    (exact_pairs int_cmp _ int_cmp-IsAntisymmetric
    (exact_pairs (slice_cmp nat_cmp) nat_cmp (slice_cmp-IsAntisymmetric nat_cmp-IsAntisymmetric) nat_cmp-IsAntisymmetric))

-- a layer from its key and arguments
layer : ℕ → ℤ → List ℕ → List Term → Term-F Term
layer zero n s xs = Num n
layer (suc zero) n s xs = Sym s
layer (suc (suc zero)) n s xs = Text s
layer (suc (suc (suc k))) n s xs = Comp s xs

layer_is : (a : Term-F Term) → layer (key_of a).0 (key_of a).1.0 (key_of a).1.1.0 (args_of a) ≡ a
unfolding layer
layer_is (Num n) = refl
layer_is (Sym s) = refl
layer_is (Text s) = refl
layer_is (Comp f xs) = refl

-- a fact of terms, from that of a layer whose arguments have it
abbrev Each : (Term → Type 0) → List Term → Type 0
Each P [] = Unit {0}
Each P (x ∷ xs) = P x × Each P xs

by_layers : (P : Term → Type 0) → ((a : Term-F Term) → Each P (args_of a) → P (roll-Term a)) → (t : Term) → P t
by_layers P h = ind-Term P (λ x y is. subst (λ z. P (roll-Term z)) is (at y))
  where
    firsts : (es : List ((t : Term) × P t)) → Each P (map (λ e. e.0) es)
    firsts [] = tt
    firsts (e ∷ es) = (e.1, firsts es)

    at : (y : Term-F ((t : Term) × P t)) → P (roll-Term (map-Term ((t : Term) × P t) Term (λ e. e.0) y))
    at (Num n) = h (Num n) tt
    at (Sym s) = h (Sym s) tt
    at (Text s) = h (Text s) tt
    at (Comp f es) = h (Comp f (map (λ e. e.0) es)) (firsts es)

Same : Term → Type 0
Same x = (y : Term) → term_cmp x y ≡ Equal → x ≡ y

both : (o p : Ordering) → ordering_then o p ≡ Equal → (o ≡ Equal) × (p ≡ Equal)
both Less p e = absurd (true≢false (sym (ap is_eq e)))
both Equal p e = (refl, e)
both Greater p e = absurd (true≢false (sym (ap is_eq e)))

lists_same : (xs ys : List Term) → Each Same xs → slice_cmp term_cmp xs ys ≡ Equal → xs ≡ ys
unfolding Same
lists_same [] [] a e = refl
lists_same [] (y ∷ ys) a e = absurd (true≢false (sym (ap is_eq e)))
lists_same (x ∷ xs) [] a e = absurd (true≢false (sym (ap is_eq e)))
lists_same (x ∷ xs) (y ∷ ys) a e = let b = both (term_cmp x y) (slice_cmp term_cmp xs ys) e in λ i. a.0 y b.0 i ∷ lists_same xs ys a.1 b.1 i

pub term_cmp_same : (x y : Term) → term_cmp x y ≡ Equal → x ≡ y
unfolding Same
term_cmp_same = by_layers Same (λ a h y e.
    let b = both _ _ (sym (term_cmp_roll a y) ∙ e) in
    let k = keys_exact (key_of a) (key_of (out-Term y)) b.0 in
    let l = lists_same (args_of a) (args_of (out-Term y)) h b.1 in
    ap roll-Term (sym (layer_is a) ∙ (λ i. layer (k i).0 (k i).1.0 (k i).1.1.0 (l i)) ∙ layer_is (out-Term y)) ∙ roll-out-Term y)

-- ---- the other way round

Turns : Term → Type 0
Turns x = (y : Term) → term_cmp x y ≡ ordering_reverse (term_cmp y x)

lists_turn : (xs ys : List Term) → Each Turns xs → slice_cmp term_cmp xs ys ≡ ordering_reverse (slice_cmp term_cmp ys xs)
unfolding Turns
lists_turn [] [] a = refl
lists_turn [] (y ∷ ys) a = refl
lists_turn (x ∷ xs) [] a = refl
lists_turn (x ∷ xs) (y ∷ ys) a = (λ i. ordering_then (a.0 y i) (lists_turn xs ys a.1 i))
    ∙ then_flip (term_cmp y x) (slice_cmp term_cmp ys xs)

term_cmp_turns : (x y : Term) → term_cmp x y ≡ ordering_reverse (term_cmp y x)
unfolding Turns
term_cmp_turns = by_layers Turns (λ a h y.
    term_cmp_roll a y
    ∙ (λ i. ordering_then (keys_total.antisymm (key_of a) (key_of (out-Term y)) i) (lists_turn (args_of a) (args_of (out-Term y)) h i))
    ∙ then_flip (key_cmp (key_of (out-Term y)) (key_of a)) (slice_cmp term_cmp (args_of (out-Term y)) (args_of a))
    ∙ ap ordering_reverse (sym (term_cmp_out y (roll-Term a) ∙ ap (step term_cmp (out-Term y)) (out-roll-Term a))))

-- ---- step by step

Goes : Term → Type 0
Goes x = (y z : Term) → term_cmp x y ≡ Less → term_cmp y z ≡ Less → term_cmp x z ≡ Less

-- a first comparison that is an order, and a second that goes on at these three
then_goes : {K : Type 0} (R : K → K → Ordering) → IsTotalOrder R → (x y z : K) (p q r : Ordering) → (p ≡ Less → q ≡ Less → r ≡ Less)
    → ordering_then (R x y) p ≡ Less → ordering_then (R y z) q ≡ Less → ordering_then (R x z) r ≡ Less
then_goes R o x y z p q r go = at (R x y) refl (R y z) refl
  where
    at : (c : Ordering) → R x y ≡ c → (d : Ordering) → R y z ≡ d → ordering_then c p ≡ Less → ordering_then d q ≡ Less
        → ordering_then (R x z) r ≡ Less
    at Less e Less f g h = ap (λ c. ordering_then c r) (o.trans x y z e f)
    at Less e Equal f g h = ap (λ c. ordering_then c r) (o.antisymm x z ∙ ap ordering_reverse (sym (o.congr y z x f)) ∙ sym (o.antisymm x y)
        ∙ e)
    at Equal e Less f g h = ap (λ c. ordering_then c r) (o.congr x y z e ∙ f)
    at Equal e Equal f g h = ap (λ c. ordering_then c r) (o.congr x y z e ∙ f) ∙ go g h
    at Greater e d f g h = absurd (less_greater g)
      where
        less_greater : Greater ≡ Less → ⊥
        less_greater g = cc
    at c e Greater f g h = absurd (less_greater h)
      where
        less_greater : Greater ≡ Less → ⊥
        less_greater g = cc

lists_go : (xs ys zs : List Term) → Each Goes xs → slice_cmp term_cmp xs ys ≡ Less → slice_cmp term_cmp ys zs ≡ Less
    → slice_cmp term_cmp xs zs ≡ Less
unfolding Goes
lists_go [] [] zs a g h = h
lists_go [] (y ∷ ys) [] a g h = cc
lists_go [] (y ∷ ys) (z ∷ zs) a g h = refl
lists_go (x ∷ xs) [] zs a g h = cc
lists_go (x ∷ xs) (y ∷ ys) [] a g h = cc
lists_go (x ∷ xs) (y ∷ ys) (z ∷ zs) a g h = at (term_cmp x y) refl (term_cmp y z) refl g h (lists_go xs ys zs a.1)
  where
    at : (c : Ordering) → term_cmp x y ≡ c → (d : Ordering) → term_cmp y z ≡ d → ordering_then c (slice_cmp term_cmp xs ys) ≡ Less
        → ordering_then d (slice_cmp term_cmp ys zs) ≡ Less
        → (slice_cmp term_cmp xs ys ≡ Less → slice_cmp term_cmp ys zs ≡ Less → slice_cmp term_cmp xs zs ≡ Less)
        → ordering_then (term_cmp x z) (slice_cmp term_cmp xs zs) ≡ Less
    at Less e Less f g h more = ap (λ c. ordering_then c (slice_cmp term_cmp xs zs)) (a.0 y z e f)
    at Less e Equal f g h more = ap (λ c. ordering_then c (slice_cmp term_cmp xs zs)) (ap (term_cmp x) (sym (term_cmp_same y z f)) ∙ e)
    at Equal e Less f g h more = ap (λ c. ordering_then c (slice_cmp term_cmp xs zs)) (ap (λ t. term_cmp t z) (term_cmp_same x y e) ∙ f)
    at Equal e Equal f g h more = ap (λ c. ordering_then c (slice_cmp term_cmp xs zs)) (ap (λ t. term_cmp t z) (term_cmp_same x y e) ∙ f)
        ∙ more g h
    at Greater e d f g h more = cc
    at c e Greater f g h more = cc

term_cmp_goes : (x y z : Term) → term_cmp x y ≡ Less → term_cmp y z ≡ Less → term_cmp x z ≡ Less
unfolding Goes
term_cmp_goes = by_layers Goes (λ a h y z e f.
    term_cmp_roll a z ∙ then_goes key_cmp keys_total (key_of a) (key_of (out-Term y)) (key_of (out-Term z)) _ _ _
    (lists_go (args_of a) (args_of (out-Term y)) (args_of (out-Term z)) h) (sym (term_cmp_roll a y) ∙ e) (sym (term_cmp_out y z) ∙ f))

pub exact_terms : Exact term_cmp
exact_terms = record {
  total = record { antisymm = term_cmp_turns; trans = term_cmp_goes; congr = λ x y z e. ap (λ t. term_cmp t z) (term_cmp_same x y e) };
  same = term_cmp_same;
}
