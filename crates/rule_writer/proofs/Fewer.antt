-- What is left of a tree without its redundant brackets has the tree's tokens, but for some brackets and for numbers in their shortest form.
use Rattle.std.proofs.Common.{◌≡◌, ℕ, zero, suc, ◌+◌, ◌^◌, ◌≤◌, ◌<◌, pos, negsuc, ◌-ℤ◌, Bool, true, false, cond, ◌&&◌, nat_lt, ◌==◌, List, [], ◌∷◌, length, Option, Some, None, refl, sym, ap, ◌∙◌, subst, arith, add-one}
use Rattle.std.specs.List.{list_all}
use Rattle.std.proofs.lemmas.Bool.{eqb-true, ltb-true, and_parts, and_from}
use Rattle.std.proofs.lemmas.Bool.Decides.{nat_tests}
use Rattle.std.proofs.lemmas.Int.{ints}
use Rattle.rule_lexer.specs.declared.terminals.Terminal.{Terminal}
use Rattle.rule_lexer.specs.declared.terminals.Terminal.TheVariants as t
use Rattle.rule_lexer.specs.Writing.{is_proper}
use Rattle.rule_grammar.specs.declared.faults.Which.{Which}
use Rattle.rule_grammar.specs.Trees.{Literal, Literal.Digits, Literal.Minus, Literal.Least, Literal.Symbol, Literal.Quoted, Term, Term.Leaf, Term.Lone, Term.Compound, Arguments, Arguments.First, Arguments.Next}
use Rattle.rule_grammar.specs.Trees.{HeadTerm, HeadTerm.Leading, HeadTerm.Fixed, HeadTerms, HeadTerms.FirstTerm, HeadTerms.NextTerm, Heading, Heading.Plainly, Heading.Applied}
use Rattle.rule_grammar.specs.Trees.{Condition, Condition.OneAll, Condition.MoreAll, All, All.OneNegation, All.MoreNegation, Negation, Negation.Negated, Negation.Compared, Comparison, Comparison.OneSum, Comparison.TwoSums, Sum, Sum.OneProduct, Sum.MoreProduct, Product, Product.OneUnit, Product.MoreUnit, Unit', Unit'.Value, Unit'.Grouped}
use Rattle.rule_grammar.specs.Trees.{Tree, Tree.Plain, Tree.Filtered, Chain, Chain.One, Chain.More, Part, Part.Bare, Part.Atom, Part.Without, Part.Rounded, Round, Round.Bracketed, Round.Exactly, Round.AtMost}
use Rattle.rule_grammar.specs.Trees.{Items, Items.OneItem, Items.MoreItem, Statement, Statement.Clause, Statement.Shown, Statements, Statements.Empty, Statements.Then}
use Rattle.rule_grammar.specs.Marks.{Role, Marked, Counted, count, count_all, over, passed}
use Rattle.rule_grammar.specs.Marks.{Role.Quiet, Role.Starts, Role.Single, Role.Binary, Role.Nests, Role.Deepens, Role.Counts, Role.Lists, Role.Lasts, Role.HasArity}
use Rattle.rule_grammar.specs.Tokens.{quiet, literal, count_of, term, arguments, wanted, never, head_term, count_of_terms, head_terms, adding, scaling, joint, condition, all, negation, comparison, sum, product, unit, tree, chain, part, round, items, statement, number_of, statements, text, bare}
use Rattle.rule_grammar.specs.Texts.{IsWithin}
use Rattle.rule_writer.specs.Forms.{number_form}
use Rattle.rule_writer.specs.Forms.{ConditionForm, as_condition}
use Rattle.rule_writer.specs.Forms.{PatternForm, as_tree}
use Rattle.rule_writer.specs.Spelled.{condition_level, condition_spelled, pattern_level, pattern_spelled}
use Rattle.rule_writer.proofs.Levels.{unit_at, product_at, sum_at, negation_at, all_at, condition_at, round_at, part_at, chain_at, tree_at}
use Rattle.rule_writer.proofs.Stripped.{normal_literal, normal_term, normal_arguments, normal_head, normal_heads, normal_heading, strip_condition, strip_all, strip_negation, strip_comparison, strip_sum, strip_product, strip_unit, strip_tree, strip_chain, strip_part, strip_round, strip_statement, strip_text}

-- a token inside of a statement
abbrev pub Inner : Role → Type 0
Inner (Starts n) = ⊥
Inner r = Unit {0}

-- the same tokens without some brackets, where open brackets are no more, and a number is in its shortest form; `many` says
-- whether statements may begin among them
pub data Fewer (many : Bool) : List Marked → List Marked → Type 0 where
  Neither : Fewer many [] []
  Same : (r : Role) (x : Terminal) {ms ns : List Marked} → Inner r → Fewer many ms ns → Fewer many ((r, x) ∷ ms) ((r, x) ∷ ns)
  Begins : (n : ℕ) (x : Terminal) {ms ns : List Marked} → many ≡ true → Fewer many ms ns → Fewer many ((Starts n, x) ∷ ms) ((Starts n, x) ∷ ns)
  Nested : (d e : ℕ) (x : Terminal) {ms ns : List Marked} → d ≤ e → Fewer many ms ns → Fewer many ((Nests d, x) ∷ ms) ((Nests e, x) ∷ ns)
  NoOpen : (d : ℕ) {ms ns : List Marked} → Fewer many ms ns → Fewer many ms ((Nests d, t.Open) ∷ ns)
  NoClose : {ms ns : List Marked} → Fewer many ms ns → Fewer many ms ((Quiet, t.Close) ∷ ns)
  Zero : (r : Role) {ms ns : List Marked} → Inner r → Fewer many ms ns → Fewer many ((r, t.Number 0) ∷ ms) ((r, t.Minus) ∷ (Quiet, t.Number 0) ∷ ns)
  Lowest : (r : Role) (n : ℕ) {ms ns : List Marked} → Inner r → n ≡ 2 ^ 63 → Fewer many ms ns
      → Fewer many ((r, t.Minus) ∷ (Quiet, t.Huge) ∷ ms) ((r, t.Minus) ∷ (Quiet, t.Number n) ∷ ns)

-- ---- what follows from it

over_none : (most n : ℕ) (w : Which) (o : Option Which) → over most n w o ≡ None → (nat_lt most n ≡ false) × (o ≡ None)
over_none most n w o e = at (nat_lt most n) refl e
  where
    at : (b : Bool) → nat_lt most n ≡ b → cond b (Some w) o ≡ None → (nat_lt most n ≡ false) × (o ≡ None)
    at true q h = cc
    at false q h = (q, h)

less_deep : (g : Counted) (d e : ℕ) → d ≤ e → passed g (Nests e) ≡ None → passed g (Nests d) ≡ None
less_deep g d e le h =
    let a = over_none 256 g.parts _ _ h in let b = over_none 64 (length g.names) _ _ a.1 in let c = over_none 32 e _ _ b.1 in
    let q : nat_lt 32 d ≡ false = grind (arith, nat_tests, c.0, le) in
    rw (a.0, b.0, q) refl

number_counts : (g : Counted) (r : Role) (n : ℕ) → count g (r, t.Number n) ≡ count g (r, t.Minus)
number_counts g (Starts k) n = refl
number_counts g Single n = refl
number_counts g Binary n = refl
number_counts g r n = refl

pub within : {many : Bool} {ms ns : List Marked} → Fewer many ms ns → (g : Counted) → IsWithin g ns → IsWithin g ms
within Neither g h = h
within (Same r x i f) g h = (h.0, within f (count g (r, x)) h.1)
within (Begins n x m f) g h = (h.0, within f (count g (Starts n, x)) h.1)
within (Nested d e x le f) g h = (less_deep (count g (Nests e, x)) d e le h.0, within f (count g (Nests e, x)) h.1)
within (NoOpen d f) g h = within f g h.1
within (NoClose f) g h = within f g h.1
within (Zero r i f) g h = rw number_counts (h.0, within f (count g (r, t.Minus)) h.1.1)
within (Lowest r n i e f) g h = (h.0, (h.1.0, within f (count g (r, t.Minus)) h.1.1))

pub counts : {many : Bool} {ms ns : List Marked} → Fewer many ms ns → (g : Counted) → count_all g ms ≡ count_all g ns
counts Neither g = refl
counts (Same r x i f) g = counts f (count g (r, x))
counts (Begins n x m f) g = counts f (count g (Starts n, x))
counts (Nested d e x le f) g = counts f (count g (Nests e, x))
counts (NoOpen d f) g = counts f g
counts (NoClose f) g = counts f g
counts {ms = m ∷ ms} (Zero r i f) g = ap (λ c. count_all c ms) (number_counts g r 0) ∙ counts f (count g (r, t.Minus))
counts (Lowest r n i e f) g = counts f (count g (r, t.Minus))

also : (b c d : Bool) → (c ≡ true → d ≡ true) → (b && c) ≡ true → (b && d) ≡ true
also true c d f h = f h
also false c d f h = h

-- every token passes a test
abbrev pub AllTokens : (Terminal → Bool) → List Marked → Type 0
AllTokens p ms = list_all p (bare ms) ≡ true

pub kept : (p : Terminal → Bool) → p t.Huge ≡ true → {many : Bool} {ms ns : List Marked} → Fewer many ms ns → AllTokens p ns → AllTokens p ms
kept p u Neither h = h
kept p u (Same r x i f) h = also (p x) _ _ (kept p u f) h
kept p u (Begins n x m f) h = also (p x) _ _ (kept p u f) h
kept p u (Nested d e x le f) h = also (p x) _ _ (kept p u f) h
kept p u (NoOpen d f) h = kept p u f (and_parts (p t.Open) _ h).1
kept p u (NoClose f) h = kept p u f (and_parts (p t.Close) _ h).1
kept p u (Zero r i f) h = also (p (t.Number 0)) _ _ (kept p u f) (and_parts (p t.Minus) _ h).1
kept p u (Lowest r n i e f) h =
    also (p t.Minus) _ _ (λ g. and_from _ _ u (kept p u f (and_parts (p (t.Number n)) _ g).1)) h

abbrev pub IsProper : List Marked → Type 0
IsProper ms = AllTokens is_proper ms

-- no statement begins among the tokens
abbrev pub IsInner : List Marked → Type 0
IsInner [] = Unit {0}
IsInner (m ∷ ms) = Inner m.0 × IsInner ms

pub inner : {ms ns : List Marked} → Fewer false ms ns → IsInner ns
inner Neither = tt
inner (Same r x i f) = (i, inner f)
inner (Begins n x m f) = cc
inner (Nested d e x le f) = (tt, inner f)
inner (NoOpen d f) = (tt, inner f)
inner (NoClose f) = (tt, inner f)
inner (Zero r i f) = (i, (tt, inner f))
inner (Lowest r n i e f) = (i, (tt, inner f))

-- ---- terms

fewer_literal : {many : Bool} (r : Role) → Inner r → (l : Literal) {ms ns : List Marked} → Fewer many ms ns → Fewer many (literal r (normal_literal l) ms) (literal r l ns)
fewer_literal r i (Digits n) f = Same r (t.Number n) i f
fewer_literal r i (Minus zero) f = Zero r i f
fewer_literal {many} r i (Minus (suc k)) {ms} {ns} f = let z : negsuc k ≡ pos 0 -ℤ pos (suc k) = omega (arith, ints) in
    subst (λ x. Fewer many (literal r (number_form x) ms) ((r, t.Minus) ∷ (Quiet, t.Number (suc k)) ∷ ns)) z (at (k + 1 == 2 ^ 63) refl)
  where
    at : (b : Bool) → (k + 1 == 2 ^ 63) ≡ b → Fewer many (literal r (cond b Least (Minus (k + 1))) ms) ((r, t.Minus) ∷ (Quiet, t.Number (suc k)) ∷ ns)
    at true e = let m : k + 1 ≡ 2 ^ 63 = eqb-true (k + 1) (2 ^ 63) e in let n : suc k ≡ 2 ^ 63 = omega arith in Lowest r (suc k) i n f
    at false e = rw add-one (Same r t.Minus i (Same Quiet (t.Number (suc k)) tt f))
fewer_literal r i Least f = Same r t.Minus i (Same Quiet t.Huge tt f)
fewer_literal r i (Symbol name) f = Same r (t.Name name) i f
fewer_literal r i (Quoted bytes) f = Same r (t.Text bytes) i f

mutual
  fewer_term : {many : Bool} {W : Type 0} (spell : W → Terminal) (r : Role) → Inner r → (d : ℕ) (a : Term W) {ms ns : List Marked} → Fewer many ms ns
      → Fewer many (term spell r d (normal_term a) ms) (term spell r d a ns)
  fewer_term spell r i d (Leaf w) f = Same r (spell w) i f
  fewer_term spell r i d (Lone l) f = fewer_literal r i l f
  fewer_term spell r i d (Compound name as') f =
      Same r (t.Name name) i (Same (Deepens (d + 1)) t.Open tt (fewer_arguments spell (d + 1) as' (Same Quiet t.Close tt f)))

  fewer_arguments : {many : Bool} {W : Type 0} (spell : W → Terminal) (d : ℕ) (as' : Arguments W) {ms ns : List Marked} → Fewer many ms ns
      → Fewer many (arguments spell d (normal_arguments as') ms) (arguments spell d as' ns)
  fewer_arguments spell d (First a) f = fewer_term spell Quiet tt d a f
  fewer_arguments {many} {W} spell d (Next as' a) {ms} {ns} f =
      fewer_arguments spell d as' (subst (λ n. Fewer many ((Counts (n + 1), t.Comma) ∷ term spell Quiet d (normal_term a) ms) ((Counts (count_of as' + 1), t.Comma) ∷ term spell Quiet d a ns)) (sym (as_many as'))
      (Same (Counts (count_of as' + 1)) t.Comma tt (fewer_term spell Quiet tt d a f)))

  as_many : {W : Type 0} (as' : Arguments W) → count_of (normal_arguments as') ≡ count_of as'
  as_many (First a) = refl
  as_many (Next as' a) = ap (λ n. n + 1) (as_many as')

fewer_head : {many : Bool} (a : HeadTerm) {ms ns : List Marked} → Fewer many ms ns → Fewer many (head_term (normal_head a) ms) (head_term a ns)
fewer_head (Leading name) f = Same Quiet (t.Var name) tt f
fewer_head (Fixed a) f = fewer_term never Quiet tt 1 a f

heads_as_many : (as' : HeadTerms) → count_of_terms (normal_heads as') ≡ count_of_terms as'
heads_as_many (FirstTerm a) = refl
heads_as_many (NextTerm as' a) = ap (λ n. n + 1) (heads_as_many as')

fewer_heads : {many : Bool} (as' : HeadTerms) {ms ns : List Marked} → Fewer many ms ns → Fewer many (head_terms (normal_heads as') ms) (head_terms as' ns)
fewer_heads (FirstTerm a) f = fewer_head a f
fewer_heads {many} (NextTerm as' a) {ms} {ns} f =
    fewer_heads as' (subst (λ n. Fewer many ((Counts (n + 1), t.Comma) ∷ head_term (normal_head a) ms) ((Counts (count_of_terms as' + 1), t.Comma) ∷ head_term a ns)) (sym (heads_as_many as'))
    (Same (Counts (count_of_terms as' + 1)) t.Comma tt (fewer_head a f)))

-- ---- conditions

bare_or_not : {many : Bool} (b : Bool) {xs ys ns : List Marked} → Fewer many xs ns → Fewer many ys ns → Fewer many (cond b xs ys) ns
bare_or_not true f g = f
bare_or_not false f g = g

on : {many : Bool} {xs ys ns : List Marked} → xs ≡ ys → Fewer many ys ns → Fewer many xs ns
on {many} {ns = ns} e f = subst (λ zs. Fewer many zs ns) (sym e) f

-- where no tighter level is wanted, no bracket stands
no_bracket : {many : Bool} (own level : ℕ) → level ≤ own → (xs ys : List Marked) {ns : List Marked} → Fewer many ys ns → Fewer many (cond (nat_lt own level) xs ys) ns
no_bracket {many} own level le xs ys {ns} f = at (nat_lt own level) refl
  where
    at : (b : Bool) → nat_lt own level ≡ b → Fewer many (cond b xs ys) ns
    at true e = absurd (let l : own < level = ltb-true own level e in omega arith)
    at false e = f

tight : {many : Bool} (x : ConditionForm) (level : ℕ) → level ≤ condition_level x → (d : ℕ) (ms : List Marked) {ns : List Marked} → Fewer many (condition d (as_condition x) ms) ns
    → Fewer many (condition_spelled level d x ms) ns
tight x level le d ms f = no_bracket (condition_level x) level le _ _ f

tight_pattern : {many : Bool} (x : PatternForm) (level : ℕ) → level ≤ pattern_level x → (d : ℕ) (ms : List Marked) {ns : List Marked} → Fewer many (tree d (as_tree x) ms) ns
    → Fewer many (pattern_spelled level d x ms) ns
tight_pattern x level le d ms f = no_bracket (pattern_level x) level le _ _ f

mutual
  fewer_condition : {many : Bool} (c : Condition) (level : ℕ) → level ≤ 0 → (d e : ℕ) → d ≤ e → {ms ns : List Marked} → Fewer many ms ns
      → Fewer many (condition_spelled level d (strip_condition c) ms) (condition e c ns)
  fewer_condition (OneAll a) level le d e h f = fewer_all a level (omega arith) d e h f
  fewer_condition (MoreAll c a) level le d e h {ms} f =
      tight (strip_condition (MoreAll c a)) level le d ms (on (condition_at d (strip_condition c) _) (fewer_condition c 0 (omega arith) d e h (Same Binary t.Either tt (on (all_at d (strip_all a) _) (fewer_all a 1 (omega arith) d e h f)))))

  fewer_all : {many : Bool} (a : All) (level : ℕ) → level ≤ 1 → (d e : ℕ) → d ≤ e → {ms ns : List Marked} → Fewer many ms ns
      → Fewer many (condition_spelled level d (strip_all a) ms) (all e a ns)
  fewer_all (OneNegation n) level le d e h f = fewer_negation n level (omega arith) d e h f
  fewer_all (MoreNegation a n) level le d e h {ms} f =
      tight (strip_all (MoreNegation a n)) level le d ms (on (all_at d (strip_all a) _) (fewer_all a 1 (omega arith) d e h (Same Binary t.Both tt (on (negation_at d (strip_negation n) _) (fewer_negation n 2 (omega arith) d e h f)))))

  fewer_negation : {many : Bool} (n : Negation) (level : ℕ) → level ≤ 2 → (d e : ℕ) → d ≤ e → {ms ns : List Marked} → Fewer many ms ns
      → Fewer many (condition_spelled level d (strip_negation n) ms) (negation e n ns)
  fewer_negation (Negated n) level le d e h {ms} f = tight (strip_negation (Negated n)) level le d ms (Same Single t.Bang tt (on (negation_at d (strip_negation n) _) (fewer_negation n 2 (omega arith) d e h f)))
  fewer_negation (Compared c) level le d e h f = fewer_comparison c level (omega arith) d e h f

  fewer_comparison : {many : Bool} (c : Comparison) (level : ℕ) → level ≤ 3 → (d e : ℕ) → d ≤ e → {ms ns : List Marked} → Fewer many ms ns
      → Fewer many (condition_spelled level d (strip_comparison c) ms) (comparison e c ns)
  fewer_comparison (OneSum s) level le d e h f = fewer_sum s level (omega arith) d e h f
  fewer_comparison (TwoSums l cmp r) level le d e h {ms} f =
      tight (strip_comparison (TwoSums l cmp r)) level le d ms (on (sum_at d (strip_sum l) _) (fewer_sum l 4 (omega arith) d e h (Same Binary (t.Compare cmp) tt (on (sum_at d (strip_sum r) _) (fewer_sum r 4 (omega arith) d e h f)))))

  fewer_sum : {many : Bool} (s : Sum) (level : ℕ) → level ≤ 4 → (d e : ℕ) → d ≤ e → {ms ns : List Marked} → Fewer many ms ns
      → Fewer many (condition_spelled level d (strip_sum s) ms) (sum e s ns)
  fewer_sum (OneProduct p) level le d e h f = fewer_product p level (omega arith) d e h f
  fewer_sum (MoreProduct s op p) level le d e h {ms} f =
      tight (strip_sum (MoreProduct s op p)) level le d ms (on (sum_at d (strip_sum s) _) (fewer_sum s 4 (omega arith) d e h (Same Binary (adding op) tt (on (product_at d (strip_product p) _) (fewer_product p 5 (omega arith) d e h f)))))

  fewer_product : {many : Bool} (p : Product) (level : ℕ) → level ≤ 5 → (d e : ℕ) → d ≤ e → {ms ns : List Marked} → Fewer many ms ns
      → Fewer many (condition_spelled level d (strip_product p) ms) (product e p ns)
  fewer_product (OneUnit u) level le d e h f = fewer_unit u level (omega arith) d e h f
  fewer_product (MoreUnit p op u) level le d e h {ms} f =
      tight (strip_product (MoreUnit p op u)) level le d ms (on (product_at d (strip_product p) _) (fewer_product p 5 (omega arith) d e h (Same Binary (scaling op) tt (on (unit_at d (strip_unit u) _) (fewer_unit u 6 (omega arith) d e h f)))))

  fewer_unit : {many : Bool} (u : Unit') (level : ℕ) → level ≤ 6 → (d e : ℕ) → d ≤ e → {ms ns : List Marked} → Fewer many ms ns
      → Fewer many (condition_spelled level d (strip_unit u) ms) (unit e u ns)
  fewer_unit (Value a) level le d e h {ms} f = tight (strip_unit (Value a)) level le d ms (fewer_term t.Var Single tt 1 a f)
  fewer_unit (Grouped c) level le d e h f =
      bare_or_not (nat_lt (condition_level (strip_condition c)) level)
      (Nested (d + 1) (e + 1) t.Open (omega arith) (on (condition_at (d + 1) (strip_condition c) _) (fewer_condition c 0 (omega arith) (d + 1) (e + 1) (omega arith) (Same Quiet t.Close tt f))))
      (NoOpen (e + 1) (on (condition_at d (strip_condition c) _) (fewer_condition c 0 (omega arith) d (e + 1) (omega arith) (NoClose f))))

-- ---- patterns

mutual
  fewer_tree : {many : Bool} (p : Tree) (level : ℕ) → level ≤ 0 → (d e : ℕ) → d ≤ e → {ms ns : List Marked} → Fewer many ms ns
      → Fewer many (pattern_spelled level d (strip_tree p) ms) (tree e p ns)
  fewer_tree (Plain c) level le d e h f = fewer_chain c level (omega arith) d e h f
  fewer_tree (Filtered p c) level le d e h {ms} f =
      tight_pattern (strip_tree (Filtered p c)) level le d ms (on (tree_at d (strip_tree p) _) (fewer_tree p 0 (omega arith) d e h (Same Binary t.Where tt (on (condition_at d (strip_condition c) _) (fewer_condition c 0 (omega arith) d e h f)))))

  fewer_chain : {many : Bool} (c : Chain) (level : ℕ) → level ≤ 1 → (d e : ℕ) → d ≤ e → {ms ns : List Marked} → Fewer many ms ns
      → Fewer many (pattern_spelled level d (strip_chain c) ms) (chain e c ns)
  fewer_chain (One p) level le d e h f = fewer_part p level (omega arith) d e h f
  fewer_chain (More c j p) level le d e h {ms} f =
      tight_pattern (strip_chain (More c j p)) level le d ms (on (chain_at d (strip_chain c) _) (fewer_chain c 1 (omega arith) d e h (Same Binary (joint j) tt (on (part_at d (strip_part p) _) (fewer_part p 2 (omega arith) d e h f)))))

  fewer_part : {many : Bool} (p : Part) (level : ℕ) → level ≤ 2 → (d e : ℕ) → d ≤ e → {ms ns : List Marked} → Fewer many ms ns
      → Fewer many (pattern_spelled level d (strip_part p) ms) (part e p ns)
  fewer_part (Bare name) level le d e h {ms} f = tight_pattern (strip_part (Bare name)) level le d ms (Same Single (t.Name name) tt f)
  fewer_part (Atom name as') level le d e h {ms} f =
      tight_pattern (strip_part (Atom name as')) level le d ms (Same Single (t.Name name) tt (Same Quiet t.Open tt (fewer_arguments wanted 1 as' (Same Quiet t.Close tt f))))
  fewer_part (Without i b a) level le d e h {ms} f =
      tight_pattern (strip_part (Without i b a)) level le d ms (Same Single t.Not tt (Nested (d + 1) (e + 1) t.Open (omega arith) (on (tree_at (d + 1) (strip_tree i) _) (fewer_tree i 0 (omega arith) (d + 1) (e + 1) (omega arith) (Same Quiet t.Close tt
      (Nested (d + 1) (e + 1) t.Limits (omega arith) (on (tree_at (d + 1) (strip_tree b) _) (fewer_tree b 0 (omega arith) (d + 1) (e + 1) (omega arith) (Same Quiet t.Comma tt
      (on (tree_at (d + 1) (strip_tree a) _) (fewer_tree a 0 (omega arith) (d + 1) (e + 1) (omega arith) (Same Quiet t.Square tt f))))))))))))
  fewer_part (Rounded r) level le d e h f = fewer_round r level (omega arith) d e h f

  fewer_round : {many : Bool} (r : Round) (level : ℕ) → level ≤ 3 → (d e : ℕ) → d ≤ e → {ms ns : List Marked} → Fewer many ms ns
      → Fewer many (pattern_spelled level d (strip_round r) ms) (round e r ns)
  fewer_round (Bracketed p) level le d e h f =
      bare_or_not (nat_lt (pattern_level (strip_tree p)) level)
      (Nested (d + 1) (e + 1) t.Open (omega arith) (on (tree_at (d + 1) (strip_tree p) _) (fewer_tree p 0 (omega arith) (d + 1) (e + 1) (omega arith) (Same Quiet t.Close tt f))))
      (NoOpen (e + 1) (on (tree_at d (strip_tree p) _) (fewer_tree p 0 (omega arith) d (e + 1) (omega arith) (NoClose f))))
  fewer_round (Exactly r q) level le d e h {ms} f =
      tight_pattern (strip_round (Exactly r q)) level le d ms (on (round_at d (strip_round r) _) (fewer_round r 3 (omega arith) d e h (Same Single t.Length tt (Same (Lasts q) (t.Number q) tt f))))
  fewer_round (AtMost r q) level le d e h {ms} f =
      tight_pattern (strip_round (AtMost r q)) level le d ms (on (round_at d (strip_round r) _) (fewer_round r 3 (omega arith) d e h (Same Binary t.Within tt (Same (Lasts q) (t.Number q) tt f))))

loose_tree : {many : Bool} (p : Tree) (d : ℕ) {ms ns : List Marked} → Fewer many ms ns → Fewer many (tree d (as_tree (strip_tree p)) ms) (tree d p ns)
loose_tree p d f = on (tree_at d (strip_tree p) _) (fewer_tree p 0 (omega arith) d d (omega arith) f)

-- ---- statements

fewer_items : {many : Bool} (is : Items) {ms ns : List Marked} → Fewer many ms ns → Fewer many (items is ms) (items is ns)
fewer_items (OneItem name n) f = Same Quiet (t.Name name) tt (Same Quiet t.Slash tt (Same (HasArity n) (t.Number n) tt f))
fewer_items (MoreItem is name n) f = fewer_items is (Same Lists t.Comma tt (Same Quiet (t.Name name) tt (Same Quiet t.Slash tt (Same (HasArity n) (t.Number n) tt f))))

-- a statement behind its first token
abbrev pub behind_heading : Heading → List Marked → List Marked
behind_heading (Plainly name) rest = rest
behind_heading (Applied name as') rest = quiet t.Open (head_terms as' (quiet t.Close rest))

abbrev pub behind_first : Statement → List Marked → List Marked
behind_first (Clause h p) rest = behind_heading h (quiet t.Arrow (tree 0 p (quiet t.End rest)))
behind_first (Shown is) rest = items is (quiet t.End rest)

fewer_behind_heading : {many : Bool} (h : Heading) {ms ns : List Marked} → Fewer many ms ns → Fewer many (behind_heading (normal_heading h) ms) (behind_heading h ns)
fewer_behind_heading (Plainly name) f = f
fewer_behind_heading (Applied name as') f = Same Quiet t.Open tt (fewer_heads as' (Same Quiet t.Close tt f))

pub fewer_behind : {many : Bool} (s : Statement) {ms ns : List Marked} → Fewer many ms ns → Fewer many (behind_first (strip_statement s) ms) (behind_first s ns)
fewer_behind (Clause h p) f = fewer_behind_heading h (Same Quiet t.Arrow tt (loose_tree p 0 (Same Quiet t.End tt f)))
fewer_behind (Shown is) f = fewer_items is (Same Quiet t.End tt f)

pub fewer_statement : {many : Bool} → many ≡ true → (n : ℕ) (s : Statement) {ms ns : List Marked} → Fewer many ms ns → Fewer many (statement n (strip_statement s) ms) (statement n s ns)
fewer_statement m n (Clause (Plainly name) p) f = Begins n (t.Name name) m (fewer_behind (Clause (Plainly name) p) f)
fewer_statement m n (Clause (Applied name as') p) f = Begins n (t.Name name) m (fewer_behind (Clause (Applied name as') p) f)
fewer_statement m n (Shown is) f = Begins n t.Show m (fewer_behind (Shown is) f)

statements_as_many : (ss : Statements) → number_of (strip_text ss) ≡ number_of ss
statements_as_many Empty = refl
statements_as_many (Then ss s) = ap (λ n. n + 1) (statements_as_many ss)

fewer_statements : (ss : Statements) {ms ns : List Marked} → Fewer true ms ns → Fewer true (statements (strip_text ss) ms) (statements ss ns)
fewer_statements Empty f = f
fewer_statements (Then ss s) {ms} {ns} f =
    fewer_statements ss (subst (λ n. Fewer true (statement (n + 1) (strip_statement s) ms) (statement (number_of ss + 1) s ns)) (sym (statements_as_many ss)) (fewer_statement refl (number_of ss + 1) s f))

pub fewer_text : (ss : Statements) → Fewer true (text (strip_text ss)) (text ss)
fewer_text ss = fewer_statements ss Neither
