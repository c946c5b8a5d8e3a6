-- What the writer appends for each kind of condition and of pattern.
use Rattle.std.proofs.Common.{◌≡◌, ℕ, ◌+◌, Bool, true, false, cond, nat_lt, List, [], ◌∷◌, ◌++◌, map, Option, Some, None, refl, sym, ap, ◌∙◌, subst, append_assoc, append-nil, decimal, codes}
use Rattle.event_model.specs.declared.terms.Pat.{Pat}
use Rattle.rule_ast.specs.declared.conditions.Calc.{Calc}
use Rattle.rule_ast.specs.declared.conditions.Calc.TheVariants.{Add, Sub, Mul, Div, Rem}
use Rattle.rule_ast.specs.declared.conditions.Cmp.{Cmp}
use Rattle.rule_lexer.specs.declared.terminals.Terminal.{Terminal}
use Rattle.rule_lexer.specs.declared.terminals.Terminal.TheVariants as t
use Rattle.rule_lexer.specs.Writing.{spelling}
use Rattle.rule_grammar.specs.Trees.{Literal.Digits, Literal.Minus, Literal.Least, Literal.Symbol, Literal.Quoted, Term, Term.Leaf, Term.Lone, Term.Compound, Arguments}
use Rattle.rule_grammar.specs.Trees.{Wanted}
use Rattle.rule_grammar.specs.Trees.{Joint}
use Rattle.rule_grammar.specs.Trees.{Unit'.Value}
use Rattle.rule_grammar.specs.Marks.{Marked}
use Rattle.rule_grammar.specs.Marks.{Role.Quiet, Role.Single, Role.Nests, Role.Lasts}
use Rattle.rule_grammar.specs.Tokens.{quiet, binary, a_part, term, wanted, joint, condition, all, negation, sum, product, unit, tree, chain, part, round}
use Rattle.rule_writer.specs.Forms.{arguments_form, compound_form, argument_form, operand_form}
use Rattle.rule_writer.specs.Forms.{ConditionForm, ConditionForm.OfUnit, as_condition, as_unit, as_product, as_sum, as_negation, as_all, compared, negated, both, either, calculated}
use Rattle.rule_writer.specs.Forms.{PatternForm, PatternForm.OfPart, as_tree, as_round, as_part, as_chain, joined, filtered, exactly, at_most, without, atom_part}
use Rattle.rule_writer.specs.Spelled.{condition_level, condition_spelled, pattern_level, pattern_spelled}
use Rattle.rule_writer.specs.declared.terms.Place.TheVariants.{Argument, Operand}
use Rattle.rule_writer.specs.Canonical.{bytes_of}
use Rattle.rule_writer.specs.Writes.{Appends, when, between, calc_rank, calc_token, form_at, term_tokens, compound_at}
use Rattle.rule_writer.proofs.Appending.{pushes, then, seen, instead}
use Rattle.rule_writer.proofs.Levels.{unit_at, product_at, sum_at, negation_at, all_at, condition_at, round_at, part_at, chain_at, tree_at}

spaced_bytes : (x : Terminal) (rest : List Marked) → bytes_of (binary x rest) ≡ between x ++ bytes_of rest
spaced_bytes x rest = ap (λ bs. 32 ∷ bs) (sym (append_assoc (spelling x) (32 ∷ []) (bytes_of rest)))

in_between : {a b c e : List ℕ} {f g : List Marked → List Marked} (x : Terminal) → Appends a b f → c ≡ b ++ between x → Appends c e g → Appends a e (λ rest. f (binary x (g rest)))
in_between x p q r = then p (then (pushes (between x) (binary x) q (spaced_bytes x)) r)

-- in brackets where they are wanted

bracketed : (d level own : ℕ) (w : Bool) (f : ℕ → List Marked → List Marked) {a b c e : List ℕ} → w ≡ nat_lt own level → b ≡ a ++ when w (codes "(") → ((k : ℕ) → Appends b c (f k)) → e ≡ c ++ when w (codes ")")
    → Appends a e (λ rest. cond (nat_lt own level) ((Nests (d + 1), t.Open) ∷ f (d + 1) (quiet t.Close rest)) (f d rest))
bracketed d level own w f {a} {b} {c} {e} q p h r = subst (λ z. Appends a e (λ rest. cond z ((Nests (d + 1), t.Open) ∷ f (d + 1) (quiet t.Close rest)) (f d rest))) q (at w p r)
  where
    at : (w : Bool) → b ≡ a ++ when w (codes "(") → e ≡ c ++ when w (codes ")") → Appends a e (λ rest. cond w ((Nests (d + 1), t.Open) ∷ f (d + 1) (quiet t.Close rest)) (f d rest))
    at true p r = then (pushes (codes "(") (λ rest. (Nests (d + 1), t.Open) ∷ rest) p (λ rest. refl)) (then (h (d + 1)) (pushes (codes ")") (quiet t.Close) r (λ rest. refl)))
    at false p r = subst (λ z. Appends a z (f d)) (sym (r ∙ append-nil c)) (subst (λ z. Appends z c (f d)) (p ∙ append-nil a) (h d))

pub condition_bracketed : (d level : ℕ) (x : ConditionForm) (w : Bool) {a b c e : List ℕ} → w ≡ nat_lt (condition_level x) level → b ≡ a ++ when w (codes "(") → ((k : ℕ) → Appends b c (condition k (as_condition x)))
    → e ≡ c ++ when w (codes ")") → Appends a e (condition_spelled level d x)
condition_bracketed d level x w q p h r = bracketed d level (condition_level x) w (λ k. condition k (as_condition x)) q p h r

pub pattern_bracketed : (d level : ℕ) (x : PatternForm) (w : Bool) {a b c e : List ℕ} → w ≡ nat_lt (pattern_level x) level → b ≡ a ++ when w (codes "(") → ((k : ℕ) → Appends b c (tree k (as_tree x)))
    → e ≡ c ++ when w (codes ")") → Appends a e (pattern_spelled level d x)
pattern_bracketed d level x w q p h r = bracketed d level (pattern_level x) w (λ k. tree k (as_tree x)) q p h r

-- ---- conditions

single_term : (d : ℕ) (a : Term (List ℕ)) (rest : List Marked) → bytes_of (term t.Var Quiet d a rest) ≡ bytes_of (term t.Var Single d a rest)
single_term d (Leaf name) rest = refl
single_term d (Lone (Digits n)) rest = refl
single_term d (Lone (Minus n)) rest = refl
single_term d (Lone Least) rest = refl
single_term d (Lone (Symbol name)) rest = refl
single_term d (Lone (Quoted bytes)) rest = refl
single_term d (Compound name as') rest = refl

pub value_written : (names : List (List ℕ)) (p : Pat) (d : ℕ) {a b : List ℕ} → Appends a b (term_tokens Operand 1 (form_at Operand names p))
    → Appends a b (condition d (as_condition (OfUnit (Value (operand_form names p)))))
value_written names p d h = seen (condition d (as_condition (OfUnit (Value (operand_form names p))))) h (single_term 1 (operand_form names p))

as_a_unit : (d : ℕ) (x : ConditionForm) {a b : List ℕ} → Appends a b (condition_spelled 6 d x) → Appends a b (unit d (as_unit x))
as_a_unit d x p = instead (unit d (as_unit x)) p (λ rest. sym (unit_at d x rest))

as_a_product : (d : ℕ) (x : ConditionForm) {a b : List ℕ} → Appends a b (condition_spelled 5 d x) → Appends a b (product d (as_product x))
as_a_product d x p = instead (product d (as_product x)) p (λ rest. sym (product_at d x rest))

as_a_sum : (d : ℕ) (x : ConditionForm) {a b : List ℕ} → Appends a b (condition_spelled 4 d x) → Appends a b (sum d (as_sum x))
as_a_sum d x p = instead (sum d (as_sum x)) p (λ rest. sym (sum_at d x rest))

as_a_negation : (d : ℕ) (x : ConditionForm) {a b : List ℕ} → Appends a b (condition_spelled 2 d x) → Appends a b (negation d (as_negation x))
as_a_negation d x p = instead (negation d (as_negation x)) p (λ rest. sym (negation_at d x rest))

as_an_all : (d : ℕ) (x : ConditionForm) {a b : List ℕ} → Appends a b (condition_spelled 1 d x) → Appends a b (all d (as_all x))
as_an_all d x p = instead (all d (as_all x)) p (λ rest. sym (all_at d x rest))

as_a_condition : (d : ℕ) (x : ConditionForm) {a b : List ℕ} → Appends a b (condition_spelled 0 d x) → Appends a b (condition d (as_condition x))
as_a_condition d x p = instead (condition d (as_condition x)) p (λ rest. sym (condition_at d x rest))

ranked : (d i j : ℕ) (x : ConditionForm) {a b : List ℕ} → i ≡ j → Appends a b (condition_spelled i d x) → Appends a b (condition_spelled j d x)
ranked d i j x {a} {b} e p = subst (λ k. Appends a b (condition_spelled k d x)) e p

pub calc_written : (calc : Calc) (l r : ConditionForm) (d i j : ℕ) {a b c e : List ℕ} → i ≡ calc_rank calc → j ≡ calc_rank calc + 1
    → Appends a b (condition_spelled i d l) → c ≡ b ++ between (calc_token calc) → Appends c e (condition_spelled j d r) → Appends a e (condition d (as_condition (calculated calc l r)))
calc_written Add l r d i j u v p q s = in_between t.Plus (as_a_sum d l (ranked d i 4 l u p)) q (as_a_product d r (ranked d j 5 r v s))
calc_written Sub l r d i j u v p q s = in_between t.Minus (as_a_sum d l (ranked d i 4 l u p)) q (as_a_product d r (ranked d j 5 r v s))
calc_written Mul l r d i j u v p q s = in_between t.Star (as_a_product d l (ranked d i 5 l u p)) q (as_a_unit d r (ranked d j 6 r v s))
calc_written Div l r d i j u v p q s = in_between t.Slash (as_a_product d l (ranked d i 5 l u p)) q (as_a_unit d r (ranked d j 6 r v s))
calc_written Rem l r d i j u v p q s = in_between t.Percent (as_a_product d l (ranked d i 5 l u p)) q (as_a_unit d r (ranked d j 6 r v s))

pub compare_written : (cmp : Cmp) (l r : ConditionForm) (d : ℕ) {a b c e : List ℕ} → Appends a b (condition_spelled 4 d l) → c ≡ b ++ between (t.Compare cmp) → Appends c e (condition_spelled 4 d r)
    → Appends a e (condition d (as_condition (compared cmp l r)))
compare_written cmp l r d p q s = in_between (t.Compare cmp) (as_a_sum d l p) q (as_a_sum d r s)

pub both_written : (l r : ConditionForm) (d : ℕ) {a b c e : List ℕ} → Appends a b (condition_spelled 1 d l) → c ≡ b ++ codes " & " → Appends c e (condition_spelled 2 d r)
    → Appends a e (condition d (as_condition (both l r)))
both_written l r d p q s = in_between t.Both (as_an_all d l p) q (as_a_negation d r s)

pub either_written : (l r : ConditionForm) (d : ℕ) {a b c e : List ℕ} → Appends a b (condition_spelled 0 d l) → c ≡ b ++ codes " | " → Appends c e (condition_spelled 1 d r)
    → Appends a e (condition d (as_condition (either l r)))
either_written l r d p q s = in_between t.Either (as_a_condition d l p) q (as_an_all d r s)

pub negated_written : (x : ConditionForm) (d : ℕ) {a b c : List ℕ} → b ≡ a ++ codes "!" → Appends b c (condition_spelled 2 d x) → Appends a c (condition d (as_condition (negated x)))
negated_written x d q p = then (pushes (codes "!") (a_part t.Bang) q (λ rest. refl)) (as_a_negation d x p)

-- ---- patterns

as_a_round : (d : ℕ) (x : PatternForm) {a b : List ℕ} → Appends a b (pattern_spelled 3 d x) → Appends a b (round d (as_round x))
as_a_round d x p = instead (round d (as_round x)) p (λ rest. sym (round_at d x rest))

as_a_part : (d : ℕ) (x : PatternForm) {a b : List ℕ} → Appends a b (pattern_spelled 2 d x) → Appends a b (part d (as_part x))
as_a_part d x p = instead (part d (as_part x)) p (λ rest. sym (part_at d x rest))

as_a_chain : (d : ℕ) (x : PatternForm) {a b : List ℕ} → Appends a b (pattern_spelled 1 d x) → Appends a b (chain d (as_chain x))
as_a_chain d x p = instead (chain d (as_chain x)) p (λ rest. sym (chain_at d x rest))

pub as_a_tree : (d : ℕ) (x : PatternForm) {a b : List ℕ} → Appends a b (pattern_spelled 0 d x) → Appends a b (tree d (as_tree x))
as_a_tree d x p = instead (tree d (as_tree x)) p (λ rest. sym (tree_at d x rest))

atom_bytes : (name : List ℕ) (o : Option (Arguments Wanted)) (d : ℕ) (rest : List Marked) → bytes_of (term wanted Quiet 0 (compound_form name o) rest) ≡ bytes_of (part d (atom_part name o) rest)
atom_bytes name None d rest = refl
atom_bytes name (Some as') d rest = refl

pub atom_written : (names : List (List ℕ)) (name : List ℕ) (args : List Pat) (d : ℕ) {a b : List ℕ} → Appends a b (term_tokens Argument 0 (compound_at Argument names name args))
    → Appends a b (tree d (as_tree (OfPart (atom_part name (arguments_form (map (argument_form names) args))))))
atom_written names name args d p =
    seen (part d (atom_part name (arguments_form (map (argument_form names) args)))) p (atom_bytes name (arguments_form (map (argument_form names) args)) d)

pub joined_written : (j : Joint) (l r : PatternForm) (d : ℕ) {a b c e : List ℕ} → Appends a b (pattern_spelled 1 d l) → c ≡ b ++ between (joint j) → Appends c e (pattern_spelled 2 d r)
    → Appends a e (tree d (as_tree (joined j l r)))
joined_written j l r d p q s = in_between (joint j) (as_a_chain d l p) q (as_a_part d r s)

pub filtered_written : (x : PatternForm) (y : ConditionForm) (d : ℕ) {a b c e : List ℕ} → Appends a b (pattern_spelled 0 d x) → c ≡ b ++ codes " WHERE " → Appends c e (condition_spelled 0 d y)
    → Appends a e (tree d (as_tree (filtered x y)))
filtered_written x y d p q s = in_between t.Where (as_a_tree d x p) q (as_a_condition d y s)

length_written : (q : ℕ) {a b : List ℕ} → b ≡ a ++ decimal q → Appends a b (λ rest. (Lasts q, t.Number q) ∷ rest)
length_written q e = pushes (decimal q) (λ rest. (Lasts q, t.Number q) ∷ rest) e (λ rest. refl)

pub exact_written : (x : PatternForm) (n : ℕ) (d : ℕ) {a b c e : List ℕ} → Appends a b (pattern_spelled 3 d x) → c ≡ b ++ codes "." → e ≡ c ++ decimal n → Appends a e (tree d (as_tree (exactly x n)))
exact_written x n d p q s = then (as_a_round d x p) (then (pushes (codes ".") (a_part t.Length) q (λ rest. refl)) (length_written n s))

pub most_written : (x : PatternForm) (n : ℕ) (d : ℕ) {a b c e : List ℕ} → Appends a b (pattern_spelled 3 d x) → c ≡ b ++ codes " WITHIN " → e ≡ c ++ decimal n → Appends a e (tree d (as_tree (at_most x n)))
most_written x n d p q s = in_between t.Within (as_a_round d x p) q (length_written n s)

pub not_written : (x y z : PatternForm) (d : ℕ) {a b c e f g h i : List ℕ} → b ≡ a ++ codes "NOT(" → Appends b c (pattern_spelled 0 (d + 1) x) → e ≡ c ++ codes ").[" → Appends e f (pattern_spelled 0 (d + 1) y)
    → g ≡ f ++ codes "," → Appends g h (pattern_spelled 0 (d + 1) z) → i ≡ h ++ codes "]" → Appends a i (tree d (as_tree (without x y z)))
not_written x y z d o p q r s u v =
    then (pushes (codes "NOT(") (λ rest. a_part t.Not ((Nests (d + 1), t.Open) ∷ rest)) o (λ rest. refl))
    (then (as_a_tree (d + 1) x p) (then (pushes (codes ").[") (λ rest. quiet t.Close ((Nests (d + 1), t.Limits) ∷ rest)) q (λ rest. refl))
    (then (as_a_tree (d + 1) y r) (then (pushes (codes ",") (quiet t.Comma) s (λ rest. refl)) (then (as_a_tree (d + 1) z u) (pushes (codes "]") (quiet t.Square) v (λ rest. refl)))))))
