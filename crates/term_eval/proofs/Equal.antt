-- Which terms are equal, kind by kind.
use Rattle.std.proofs.Common.{ℤ, ℕ, ◌≡◌, refl, ap, sym, ◌∙◌, subst, Bool, true, false, ◌&&◌, Option, Some, None, List, [], ◌∷◌, length, map}
use Rattle.std.specs.Bool.{Decides, one_answer}
use Rattle.std.specs.Ordering.{is_eq, int_eq, nat_cmp, ordering_then}
use Rattle.std.specs.Cmp.{tied_itself, nat_cmp_total}
use Rattle.std.specs.Cmp.Lexicographic.{slice_cmp}
use Rattle.std.specs.Str.{bytes_eq}
use Rattle.std.specs.declared.cmp.Ordering.{Ordering}
use Rattle.std.specs.declared.cmp.Ordering.TheVariants.{Less, Equal, Greater}
use Rattle.std.proofs.lemmas.Bool.{true≢false, and_parts}
use Rattle.std.proofs.lemmas.Slice.Eq.{bytes_eq-Decides}
use Rattle.ordered_lists.specs.Canon.{Exact}
use Rattle.ordered_lists.specs.Orders.{exact_texts, exact_lists}
use Rattle.event_model.specs.TermOrder.{term_cmp, term_cmp_at, bytes_cmp, args_cmp, nums, syms, texts, comps, exact_terms}
use Rattle.event_model.specs.declared.terms.Term.{Term, out-Term, roll-Term, roll-out-Term, out-roll-Term}
use Rattle.event_model.specs.declared.terms.Term.TheOpen.{Term-F}
use Rattle.event_model.specs.declared.terms.Term.TheOpen.Term-F.{Num, Sym, Text, Comp}
use Rattle.event_model.specs.declared.terms.Term.TheVariants as made
use Rattle.event_model.specs.declared.terms.Pat.{Pat}
use Rattle.event_model.specs.declared.terms.Pat.TheVariants as pat
use Rattle.ev_bind.specs.Bindings.{Pairs}
use Rattle.ev_bind.specs.Matching.{instance, instance-Var, instance-Any, instance-Num, instance-Sym, instance-Text, instance-Comp}
use Rattle.ev_bind.specs.Fits.{same}
use Rattle.term_eval.specs.Values.{number_at}
use Rattle.term_eval.specs.Alike.{each_with}

tie : (o : Ordering) → is_eq o ≡ true → o ≡ Equal
tie Less e = absurd (true≢false (sym e))
tie Equal e = refl
tie Greater e = absurd (true≢false (sym e))

exact_decides : {K : Type 0} {R : K → K → Ordering} → Exact R → (x y : K) → Decides (is_eq (R x y)) (x ≡ y)
exact_decides {R = R} o x y = (λ e. o.same x y (tie (R x y) e), λ e. ap is_eq (ap (R x) (sym e) ∙ tied_itself o.total x))

pub same_decides : (s t : Term) → Decides (same s t) (s ≡ t)
same_decides = exact_decides exact_terms

pub same_turned : (s t : Term) → same s t ≡ same t s
same_turned s t = one_answer {P = s ≡ t} (same s t) (same t s) (same_decides s t) (λ e. sym ((same_decides t s).0 e), λ e. (same_decides t s).1 (sym e))

bytes_same : (x y : List ℕ) → is_eq (bytes_cmp x y) ≡ bytes_eq x y
bytes_same x y = one_answer {P = x ≡ y} (is_eq (bytes_cmp x y)) (bytes_eq x y) (exact_decides exact_texts x y) (bytes_eq-Decides x y)

-- ---- two terms of one kind

pub same_nums : (x y : ℤ) → same (made.Num x) (made.Num y) ≡ int_eq x y
same_nums x y = ap is_eq (nums x y)

pub same_syms : (x y : List ℕ) → same (made.Sym x) (made.Sym y) ≡ bytes_eq x y
same_syms x y = ap is_eq (syms x y) ∙ bytes_same x y

pub same_texts : (x y : List ℕ) → same (made.Text x) (made.Text y) ≡ bytes_eq x y
same_texts x y = ap is_eq (texts x y) ∙ bytes_same x y

is_eq_then : (o p : Ordering) → is_eq (ordering_then o p) ≡ (is_eq o && is_eq p)
is_eq_then Less p = refl
is_eq_then Equal p = refl
is_eq_then Greater p = refl

each_decides : (xs ys : List Term) → Decides (each_with same xs ys) (xs ≡ ys)
each_decides xs ys = (there xs ys, λ e. let P : List Term → Type 0 = λ zs. each_with same xs zs ≡ true in subst P e (itself xs))
  where
    there : (xs ys : List Term) → each_with same xs ys ≡ true → xs ≡ ys
    there [] [] e = refl
    there [] (y ∷ ys) e = absurd (true≢false (sym e))
    there (x ∷ xs) [] e = absurd (true≢false (sym e))
    there (x ∷ xs) (y ∷ ys) e = let parts = and_parts (same x y) (each_with same xs ys) e in λ i. (same_decides x y).0 parts.0 i ∷ there xs ys parts.1 i

    itself : (xs : List Term) → each_with same xs xs ≡ true
    itself [] = refl
    itself (x ∷ xs) = ap (λ b. b && each_with same xs xs) ((same_decides x x).1 refl) ∙ itself xs

args_decide : (xs ys : List Term) → Decides (is_eq (args_cmp xs ys)) (xs ≡ ys)
args_decide xs ys = (there, λ e. let P : List Term → Type 0 = λ zs. is_eq (args_cmp xs zs) ≡ true in subst P e itself)
  where
    lists : Exact (slice_cmp term_cmp)
    lists = exact_lists exact_terms

    there : is_eq (args_cmp xs ys) ≡ true → xs ≡ ys
    there e = (exact_decides lists xs ys).0 (and_parts (is_eq (nat_cmp (length xs) (length ys))) (is_eq (slice_cmp term_cmp xs ys)) (sym (is_eq_then (nat_cmp (length xs) (length ys)) (slice_cmp term_cmp xs ys)) ∙ e)).1

    itself : is_eq (args_cmp xs xs) ≡ true
    itself = ap (λ o. is_eq (ordering_then o (slice_cmp term_cmp xs xs))) (tied_itself nat_cmp_total (length xs)) ∙ ap is_eq (tied_itself lists.total xs)

pub same_comps : (f g : List ℕ) (xs ys : List Term) → same (made.Comp f xs) (made.Comp g ys) ≡ (bytes_eq f g && each_with same xs ys)
same_comps f g xs ys =
    ap is_eq (comps f g xs ys)
    ∙ is_eq_then (bytes_cmp f g) (args_cmp xs ys)
    ∙ (λ i. bytes_same f g i && one_answer {P = xs ≡ ys} (is_eq (args_cmp xs ys)) (each_with same xs ys) (args_decide xs ys) (each_decides xs ys) i)

-- ---- terms of different kinds

pub unlike : (s t : Term) → (s ≡ t → ⊥) → false ≡ same s t
unlike s t n = at (same s t) (same_decides s t).0
  where
    at : (b : Bool) → (b ≡ true → s ≡ t) → false ≡ b
    at true f = absurd (n (f refl))
    at false f = refl

-- ---- a term and a number

abbrev pub is_this : ℤ → Option ℤ → Bool
is_this n None = false
is_this n (Some m) = int_eq n m

pub same_number : (n : ℤ) (t : Term) → same (made.Num n) t ≡ is_this n (number_at (out-Term t))
same_number n t = ap (same (made.Num n)) (sym (roll-out-Term t)) ∙ at (out-Term t)
  where
    rolled : (t : Term) {x : Term-F Term} → out-Term t ≡ x → roll-Term x ≡ t
    rolled t e = ap roll-Term (sym e) ∙ roll-out-Term t

    at : (x : Term-F Term) → same (made.Num n) (roll-Term x) ≡ is_this n (number_at x)
    at (Num m) = ap (same (made.Num n)) (rolled (made.Num m) (made.outs-Num m)) ∙ same_nums n m
    at (Sym s) = ap is_eq (term_cmp_at (made.Num n) (roll-Term (Sym s)) (made.outs-Num n) (out-roll-Term (Sym s)))
    at (Text s) = ap is_eq (term_cmp_at (made.Num n) (roll-Term (Text s)) (made.outs-Num n) (out-roll-Term (Text s)))
    at (Comp f ts) = ap is_eq (term_cmp_at (made.Num n) (roll-Term (Comp f ts)) (made.outs-Num n) (out-roll-Term (Comp f ts)))

-- ---- arguments under a binding

each_with_terms : {X : Type 0} (f : X → Term) (xs : List X) (ys : List Term) → each_with same (map f xs) ys ≡ each_with (λ x y. same (f x) y) xs ys
each_with_terms f [] [] = refl
each_with_terms f [] (y ∷ ys) = refl
each_with_terms f (x ∷ xs) [] = refl
each_with_terms f (x ∷ xs) (y ∷ ys) = ap (λ b. same (f x) y && b) (each_with_terms f xs ys)

each_with_both : {X : Type 0} (f : X → Term) (xs ys : List X) → each_with same (map f xs) (map f ys) ≡ each_with (λ x y. same (f x) (f y)) xs ys
each_with_both f [] [] = refl
each_with_both f [] (y ∷ ys) = refl
each_with_both f (x ∷ xs) [] = refl
each_with_both f (x ∷ xs) (y ∷ ys) = ap (λ b. same (f x) (f y) && b) (each_with_both f xs ys)

pub compound_term : (f g : List ℕ) (ps : List Pat) (ts : List Term) (b : Pairs) → same (instance (pat.Comp f ps) b) (made.Comp g ts) ≡ (bytes_eq f g && each_with (λ p t. same (instance p b) t) ps ts)
compound_term f g ps ts b =
    ap (λ t. same t (made.Comp g ts)) (instance-Comp f ps b)
    ∙ same_comps f g (map (λ p. instance p b) ps) ts
    ∙ ap (λ r. bytes_eq f g && r) (each_with_terms (λ p. instance p b) ps ts)

pub compounds : (f g : List ℕ) (ps qs : List Pat) (b : Pairs) → same (instance (pat.Comp f ps) b) (instance (pat.Comp g qs) b) ≡ (bytes_eq f g && each_with (λ p q. same (instance p b) (instance q b)) ps qs)
compounds f g ps qs b =
    (λ i. same (instance-Comp f ps b i) (instance-Comp g qs b i))
    ∙ same_comps f g (map (λ p. instance p b) ps) (map (λ p. instance p b) qs)
    ∙ ap (λ r. bytes_eq f g && r) (each_with_both (λ p. instance p b) ps qs)

pub number_turned : (t : Term) (n : ℤ) → same t (made.Num n) ≡ same (made.Num n) t
number_turned t n = same_turned t (made.Num n)

out_comp : (g : List ℕ) (qs : List Pat) (b : Pairs) → out-Term (instance (pat.Comp g qs) b) ≡ Comp g (map (λ q. instance q b) qs)
out_comp g qs b = ap out-Term (instance-Comp g qs b) ∙ made.outs-Comp g (map (λ q. instance q b) qs)

pub sym_num : (x : List ℕ) (n : ℤ) → false ≡ same (made.Sym x) (made.Num n)
sym_num x n = sym (ap is_eq (term_cmp_at (made.Sym x) (made.Num n) (made.outs-Sym x) (made.outs-Num n)))

pub sym_text : (x y : List ℕ) → false ≡ same (made.Sym x) (made.Text y)
sym_text x y = sym (ap is_eq (term_cmp_at (made.Sym x) (made.Text y) (made.outs-Sym x) (made.outs-Text y)))

pub sym_comp : (x g : List ℕ) (qs : List Pat) (b : Pairs) → false ≡ same (made.Sym x) (instance (pat.Comp g qs) b)
sym_comp x g qs b = sym (ap is_eq (term_cmp_at (made.Sym x) (instance (pat.Comp g qs) b) (made.outs-Sym x) (out_comp g qs b)))

pub text_num : (x : List ℕ) (n : ℤ) → false ≡ same (made.Text x) (made.Num n)
text_num x n = sym (ap is_eq (term_cmp_at (made.Text x) (made.Num n) (made.outs-Text x) (made.outs-Num n)))

pub text_sym : (x y : List ℕ) → false ≡ same (made.Text x) (made.Sym y)
text_sym x y = sym (ap is_eq (term_cmp_at (made.Text x) (made.Sym y) (made.outs-Text x) (made.outs-Sym y)))

pub text_comp : (x g : List ℕ) (qs : List Pat) (b : Pairs) → false ≡ same (made.Text x) (instance (pat.Comp g qs) b)
text_comp x g qs b = sym (ap is_eq (term_cmp_at (made.Text x) (instance (pat.Comp g qs) b) (made.outs-Text x) (out_comp g qs b)))

pub comp_num : (f : List ℕ) (ps : List Pat) (b : Pairs) (n : ℤ) → false ≡ same (instance (pat.Comp f ps) b) (made.Num n)
comp_num f ps b n = sym (ap is_eq (term_cmp_at (instance (pat.Comp f ps) b) (made.Num n) (out_comp f ps b) (made.outs-Num n)))

pub comp_sym : (f : List ℕ) (ps : List Pat) (b : Pairs) (y : List ℕ) → false ≡ same (instance (pat.Comp f ps) b) (made.Sym y)
comp_sym f ps b y = sym (ap is_eq (term_cmp_at (instance (pat.Comp f ps) b) (made.Sym y) (out_comp f ps b) (made.outs-Sym y)))

pub comp_text : (f : List ℕ) (ps : List Pat) (b : Pairs) (y : List ℕ) → false ≡ same (instance (pat.Comp f ps) b) (made.Text y)
comp_text f ps b y = sym (ap is_eq (term_cmp_at (instance (pat.Comp f ps) b) (made.Text y) (out_comp f ps b) (made.outs-Text y)))

pub ruleset others = (sym_num, sym_text, sym_comp, text_num, text_sym, text_comp, comp_num, comp_sym, comp_text)

-- the kinds but compounds
pub ruleset leaves = (same_nums, same_syms, same_texts, instance-Var, instance-Any, instance-Num, instance-Sym, instance-Text)
