-- What a tree says becomes the tree again, without its redundant brackets.
use Rattle.std.proofs.Common.{◌≡◌, ℕ, ◌+◌, ◌^◌, ℤ, pos, ◌-ℤ◌, Bool, true, false, cond, ◌||◌, List, [], ◌∷◌, ◌++◌, map, Some, None, refl, sym, ap, ap₂, ◌∙◌, subst, add-one, bytes_eq}
use Rattle.std.specs.List.{list_any, fold}
use Rattle.std.proofs.lemmas.List.{map-append}
use Rattle.std.proofs.lemmas.List.Sums.{fold_push}
use Rattle.std.proofs.lemmas.List.Folds.{list_any-append}
use Rattle.std.proofs.lemmas.Slice.Eq.{bytes_eq-Decides}
use Rattle.event_model.specs.declared.terms.Pat.{Pat, out-Pat}
use Rattle.event_model.specs.declared.terms.Pat.TheOpen.{Pat-F}
use Rattle.event_model.specs.declared.terms.Pat.TheVariants as pat
use Rattle.event_model.specs.declared.terms.Pat.TheFolds.{fold_out-Pat, map-Pat}
use Rattle.rule_ast.specs.Trees.{PlainPattern}
use Rattle.rule_lexer.specs.declared.terminals.Terminal.{Terminal}
use Rattle.rule_lexer.specs.declared.terminals.Terminal.TheVariants as t
use Rattle.rule_grammar.specs.Trees.{Literal, Literal.Digits, Literal.Minus, Literal.Least, Literal.Symbol, Literal.Quoted, Term, Term.Leaf, Term.Lone, Term.Compound, Arguments, Arguments.First, Arguments.Next}
use Rattle.rule_grammar.specs.Trees.{Wanted, Wanted.Variable, Wanted.Anything, HeadTerm, HeadTerm.Leading, HeadTerm.Fixed, HeadTerms, HeadTerms.FirstTerm, HeadTerms.NextTerm, Heading, Heading.Plainly, Heading.Applied}
use Rattle.rule_grammar.specs.Trees.{Adding, Adding.Added, Adding.Taken, Scaling, Scaling.Times, Scaling.Over, Scaling.Modulo, Joint, Joint.Joined, Joint.Otherwise}
use Rattle.rule_grammar.specs.Trees.{Condition, Condition.OneAll, Condition.MoreAll, All, All.OneNegation, All.MoreNegation, Negation, Negation.Negated, Negation.Compared, Comparison, Comparison.OneSum, Comparison.TwoSums, Sum, Sum.OneProduct, Sum.MoreProduct, Product, Product.OneUnit, Product.MoreUnit, Unit', Unit'.Value, Unit'.Grouped}
use Rattle.rule_grammar.specs.Trees.{Tree, Tree.Plain, Tree.Filtered, Chain, Chain.One, Chain.More, Part, Part.Bare, Part.Atom, Part.Without, Part.Rounded, Round, Round.Bracketed, Round.Exactly, Round.AtMost}
use Rattle.rule_grammar.specs.Trees.{Items, Items.OneItem, Items.MoreItem, Statement, Statement.Clause, Statement.Shown, Statements, Statements.Empty, Statements.Then}
use Rattle.rule_grammar.specs.Marks.{Role, Marked, Counted, nothing_counted, count, count_all, with_token}
use Rattle.rule_grammar.specs.Marks.{Role.Quiet, Role.Starts, Role.Single, Role.Binary, Role.Nests, Role.Counts, Role.Lasts}
use Rattle.rule_grammar.specs.Tokens.{quiet, binary, a_part, literal, count_of, term, arguments, wanted, never, head_term, count_of_terms, head_terms, adding, scaling, joint, condition, all, negation, comparison, sum, product, unit, tree, chain, part, round, text}
use Rattle.rule_grammar.specs.Values.{slot_of, variable, wanted_value, never_value, literal_value, term_value, arguments_value, head_term_value, head_terms_value, heading_value, adding_value, scaling_value, condition_value, all_value, negation_value, comparison_value, sum_value, product_value, unit_value, joined_value, tree_value, chain_value, part_value, round_value, items_value, names_of, statement_value, text_value}
use Rattle.rule_writer.specs.Forms.{number_form, and_argument, arguments_form, compound_form, term_step, term_form, name_at, zero_term, argument_form, ground_form, head_term_step, head_term_form, and_head_term, applied_form, heading_form, and_item, shown_form, statement_form, and_statement, text_form}
use Rattle.rule_writer.specs.Forms.{ConditionForm, ConditionForm.OfUnit, scaled, added, compared, negated, both, either, calculated, condition_form}
use Rattle.rule_writer.specs.Forms.{PatternForm, PatternForm.OfPart, as_tree, joined, filtered, exactly, at_most, without, atom_part, pattern_form}
use Rattle.rule_writer.proofs.Stripped.{normal_literal, normal_term, normal_arguments, normal_head, normal_heads, normal_heading, strip_condition, strip_all, strip_negation, strip_comparison, strip_sum, strip_product, strip_unit, strip_tree, strip_chain, strip_part, strip_round, strip_statement, strip_text}
use Rattle.rule_writer.proofs.Fewer.{Inner, IsInner, Fewer.Neither, inner, behind_heading, behind_first, fewer_behind}

-- ---- the form of a term at each of its constructors

pub term_at : {W : Type 0} (s : ℕ → Term W) (o : Term W) (p : Pat) {x : Pat-F Pat} → out-Pat p ≡ x → term_form s o p ≡ term_step s o (map-Pat Pat (Term W) (term_form s o) x)
unfolding term_form
term_at {W} s o p e = fold_out-Pat (Term W) (term_step s o) p ∙ ap (λ x. term_step s o (map-Pat Pat (Term W) (term_form s o) x)) e

pub term_form-Var : {W : Type 0} (s : ℕ → Term W) (o : Term W) (slot : ℕ) → term_form s o (pat.Var slot) ≡ s slot
term_form-Var s o slot = term_at s o (pat.Var slot) (pat.outs-Var slot)

pub term_form-Any : {W : Type 0} (s : ℕ → Term W) (o : Term W) → term_form s o pat.Any ≡ o
term_form-Any s o = term_at s o pat.Any pat.outs-Any

pub term_form-Num : {W : Type 0} (s : ℕ → Term W) (o : Term W) (n : ℤ) → term_form s o (pat.Num n) ≡ Lone (number_form n)
term_form-Num s o n = term_at s o (pat.Num n) (pat.outs-Num n)

pub term_form-Sym : {W : Type 0} (s : ℕ → Term W) (o : Term W) (name : List ℕ) → term_form s o (pat.Sym name) ≡ Lone (Symbol name)
term_form-Sym s o name = term_at s o (pat.Sym name) (pat.outs-Sym name)

pub term_form-Text : {W : Type 0} (s : ℕ → Term W) (o : Term W) (text : List ℕ) → term_form s o (pat.Text text) ≡ Lone (Quoted text)
term_form-Text s o text = term_at s o (pat.Text text) (pat.outs-Text text)

pub term_form-Comp : {W : Type 0} (s : ℕ → Term W) (o : Term W) (name : List ℕ) (args : List Pat)
    → term_form s o (pat.Comp name args) ≡ compound_form name (arguments_form (map (term_form s o) args))
term_form-Comp s o name args = term_at s o (pat.Comp name args) (pat.outs-Comp name args)

-- ---- names

-- a variable's name is among the names
abbrev HasName : List (List ℕ) → Terminal → Type 0
HasName names (t.Var name) = list_any (bytes_eq name) names ≡ true
HasName names x = Unit {0}

abbrev Named : List (List ℕ) → List Marked → Type 0
Named names [] = Unit {0}
Named names (m ∷ ms) = HasName names m.1 × Named names ms

found : (names : List (List ℕ)) (name : List ℕ) → list_any (bytes_eq name) names ≡ true → name_at names (slot_of names name) ≡ name
found [] name h = cc
found (n ∷ names) name h = at (bytes_eq name n) refl h (found names name)
  where
    at : (b : Bool) → bytes_eq name n ≡ b → (b || list_any (bytes_eq name) names) ≡ true → (list_any (bytes_eq name) names ≡ true → name_at names (slot_of names name) ≡ name)
        → name_at (n ∷ names) (cond b 0 (slot_of names name + 1)) ≡ name
    at true e q more = sym ((bytes_eq-Decides name n).0 e)
    at false e q more = rw add-one (more q)

grown : (names : List (List ℕ)) (x : Terminal) (name : List ℕ) → list_any (bytes_eq name) names ≡ true → list_any (bytes_eq name) (with_token names x) ≡ true
grown names (t.Var v) name h = at (list_any (bytes_eq v) names)
  where
    at : (b : Bool) → list_any (bytes_eq name) (cond b names (names ++ v ∷ [])) ≡ true
    at true = h
    at false = list_any-append (bytes_eq name) names (v ∷ []) ∙ ap (λ b. b || list_any (bytes_eq name) (v ∷ [])) h
grown names x name h = h

its_own : (names : List (List ℕ)) (x : Terminal) → HasName (with_token names x) x
its_own names (t.Var v) = at (list_any (bytes_eq v) names) refl
  where
    at : (b : Bool) → list_any (bytes_eq v) names ≡ b → list_any (bytes_eq v) (cond b names (names ++ v ∷ [])) ≡ true
    at true e = e
    at false e = list_any-append (bytes_eq v) names (v ∷ []) ∙ ap (λ b. b || list_any (bytes_eq v) (v ∷ [])) e ∙ ap (λ b. b || false) ((bytes_eq-Decides v v).1 refl)
its_own names x = tt

names_count : (g : Counted) (r : Role) (x : Terminal) → Inner r → (count g (r, x)).names ≡ with_token g.names x
names_count g (Starts n) x i = absurd i
names_count g Single x i = refl
names_count g Binary x i = refl
names_count g r x i = refl

kept : (ms : List Marked) → IsInner ms → (g : Counted) (name : List ℕ) → list_any (bytes_eq name) g.names ≡ true → list_any (bytes_eq name) (count_all g ms).names ≡ true
kept [] i g name h = h
kept (m ∷ ms) i g name h = kept ms i.1 (count g m) name (subst (λ ns. list_any (bytes_eq name) ns ≡ true) (sym (names_count g m.0 m.1 i.0)) (grown g.names m.1 name h))

has_kept : (ms : List Marked) → IsInner ms → (g : Counted) (x : Terminal) → HasName g.names x → HasName (count_all g ms).names x
has_kept ms i g (t.Var v) h = kept ms i g v h
has_kept ms i g x h = tt

named : (ms : List Marked) → IsInner ms → (g : Counted) → Named (count_all g ms).names ms
named [] i g = tt
named (m ∷ ms) i g =
    (has_kept ms i.1 (count g m) m.1 (subst (λ ns. HasName ns m.1) (sym (names_count g m.0 m.1 i.0)) (its_own g.names m.1)), named ms i.1 (count g m))

-- ---- terms

literal_formed : {W : Type 0} (s : ℕ → Term W) (o : Term W) (l : Literal) → term_form s o (literal_value l) ≡ Lone (normal_literal l)
literal_formed s o (Digits n) = term_form-Num s o (pos n)
literal_formed s o (Minus n) = term_form-Num s o (pos 0 -ℤ pos n)
literal_formed s o Least = term_form-Num s o (pos 0 -ℤ pos (2 ^ 63))
literal_formed s o (Symbol name) = term_form-Sym s o name
literal_formed s o (Quoted text) = term_form-Text s o text

behind_literal : (names : List (List ℕ)) (r : Role) (l : Literal) (rest : List Marked) → Named names (literal r l rest) → Named names rest
behind_literal names r (Digits n) rest h = h.1
behind_literal names r (Minus n) rest h = h.1.1
behind_literal names r Least rest h = h.1.1
behind_literal names r (Symbol name) rest h = h.1
behind_literal names r (Quoted text) rest h = h.1

-- where a kind of terms may stand: its leaves come back
record Place {W : Type 0} (names : List (List ℕ)) (spell : W → Terminal) (leaf : W → Pat) (s : ℕ → Term W) (o : Term W) : Type 0 where
  at : (w : W) → HasName names (spell w) → term_form s o (leaf w) ≡ Leaf w

mutual
  term_formed : {W : Type 0} (names : List (List ℕ)) (spell : W → Terminal) (leaf : W → Pat) (s : ℕ → Term W) (o : Term W) → Place names spell leaf s o
      → (a : Term W) (r : Role) (d : ℕ) (rest : List Marked) → Named names (term spell r d a rest) → (term_form s o (term_value leaf a) ≡ normal_term a) × Named names rest
  term_formed names spell leaf s o p (Leaf w) r d rest h = (p.at w h.0, h.1)
  term_formed names spell leaf s o p (Lone l) r d rest h = (literal_formed s o l, behind_literal names r l rest h)
  term_formed names spell leaf s o p (Compound name as') r d rest h =
      let x = arguments_formed names spell leaf s o p as' (d + 1) (quiet t.Close rest) h.1.1 in
      (term_form-Comp s o name (arguments_value leaf as') ∙ ap (compound_form name) x.0, x.1.1)

  arguments_formed : {W : Type 0} (names : List (List ℕ)) (spell : W → Terminal) (leaf : W → Pat) (s : ℕ → Term W) (o : Term W) → Place names spell leaf s o
      → (as' : Arguments W) (d : ℕ) (rest : List Marked) → Named names (arguments spell d as' rest)
      → (arguments_form (map (term_form s o) (arguments_value leaf as')) ≡ Some (normal_arguments as')) × Named names rest
  arguments_formed names spell leaf s o p (First a) d rest h = let x = term_formed names spell leaf s o p a Quiet d rest h in (ap (λ y. Some (First y)) x.0, x.1)
  arguments_formed names spell leaf s o p (Next as' a) d rest h =
      let x = arguments_formed names spell leaf s o p as' d ((Counts (count_of as' + 1), t.Comma) ∷ term spell Quiet d a rest) h in
      let y = term_formed names spell leaf s o p a Quiet d rest x.1.1 in (
        ap arguments_form (map-append (term_form s o) (arguments_value leaf as') (term_value leaf a ∷ []))
            ∙ fold_push and_argument None (map (term_form s o) (arguments_value leaf as')) (term_form s o (term_value leaf a)) ∙ ap₂ and_argument x.0 y.0,
        y.1,
      )

slot_formed : {W : Type 0} (names : List (List ℕ)) (made : List ℕ → Term W) (o : Term W) (name : List ℕ) → list_any (bytes_eq name) names ≡ true
    → term_form (λ slot. made (name_at names slot)) o (variable names name) ≡ made name
slot_formed names made o name h = term_form-Var (λ slot. made (name_at names slot)) o (slot_of names name) ∙ ap made (found names name h)

in_atom : (names : List (List ℕ)) → Place names wanted (wanted_value names) (λ slot. Leaf (Variable (name_at names slot))) (Leaf Anything)
in_atom names = record { at = leaf }
  where
    leaf : (w : Wanted) → HasName names (wanted w) → argument_form names (wanted_value names w) ≡ Leaf w
    leaf (Variable name) h = slot_formed names (λ n. Leaf (Variable n)) (Leaf Anything) name h
    leaf Anything h = term_form-Any (λ slot. Leaf (Variable (name_at names slot))) (Leaf Anything)

in_operand : (names : List (List ℕ)) → Place names t.Var (variable names) (λ slot. Leaf (name_at names slot)) zero_term
in_operand names = record { at = λ w h. slot_formed names Leaf zero_term w h }

in_head : (names : List (List ℕ)) → Place names never never_value (λ slot. zero_term) zero_term
in_head names = record { at = λ w h. absurd w }

-- ---- heads

fixed_formed : (names : List (List ℕ)) (a : Term ⊥) → head_term_form names (term_value never_value a) ≡ Fixed (ground_form (term_value never_value a))
fixed_formed names (Leaf w) = absurd w
fixed_formed names (Lone (Digits n)) = ap (head_term_step names (pat.Num (pos n))) (pat.outs-Num (pos n))
fixed_formed names (Lone (Minus n)) = ap (head_term_step names (pat.Num (pos 0 -ℤ pos n))) (pat.outs-Num (pos 0 -ℤ pos n))
fixed_formed names (Lone Least) = ap (head_term_step names (pat.Num (pos 0 -ℤ pos (2 ^ 63)))) (pat.outs-Num (pos 0 -ℤ pos (2 ^ 63)))
fixed_formed names (Lone (Symbol name)) = ap (head_term_step names (pat.Sym name)) (pat.outs-Sym name)
fixed_formed names (Lone (Quoted text)) = ap (head_term_step names (pat.Text text)) (pat.outs-Text text)
fixed_formed names (Compound name as') =
    ap (head_term_step names (pat.Comp name (arguments_value never_value as'))) (pat.outs-Comp name (arguments_value never_value as'))

head_formed : (names : List (List ℕ)) (a : HeadTerm) (rest : List Marked) → Named names (head_term a rest) → (head_term_form names (head_term_value names a) ≡ normal_head a) × Named names rest
head_formed names (Leading name) rest h =
    (ap (head_term_step names (variable names name)) (pat.outs-Var (slot_of names name)) ∙ ap Leading (found names name h.0), h.1)
head_formed names (Fixed a) rest h =
    let x = term_formed names never never_value (λ slot. zero_term) zero_term (in_head names) a Quiet 1 rest h in (fixed_formed names a ∙ ap Fixed x.0, x.1)

heads_formed : (names : List (List ℕ)) (as' : HeadTerms) (rest : List Marked) → Named names (head_terms as' rest)
    → (fold and_head_term None (map (head_term_form names) (head_terms_value names as')) ≡ Some (normal_heads as')) × Named names rest
heads_formed names (FirstTerm a) rest h = let x = head_formed names a rest h in (ap (λ y. Some (FirstTerm y)) x.0, x.1)
heads_formed names (NextTerm as' a) rest h =
    let x = heads_formed names as' ((Counts (count_of_terms as' + 1), t.Comma) ∷ head_term a rest) h in
    let y = head_formed names a rest x.1.1 in (
      ap (fold and_head_term None) (map-append (head_term_form names) (head_terms_value names as') (head_term_value names a ∷ []))
          ∙ fold_push and_head_term None (map (head_term_form names) (head_terms_value names as')) (head_term_form names (head_term_value names a)) ∙ ap₂ and_head_term x.0 y.0,
      y.1,
    )

heading_formed : (names : List (List ℕ)) (h : Heading) (rest : List Marked) → Named names (behind_heading h rest) → (heading_form names (heading_value names h) ≡ normal_heading h) × Named names rest
heading_formed names (Plainly name) rest h = (refl, h)
heading_formed names (Applied name as') rest h = let x = heads_formed names as' (quiet t.Close rest) h.1 in (ap (applied_form name) x.0, x.1.1)

-- ---- conditions

calc_added : (op : Adding) (l r : ConditionForm) → calculated (adding_value op) l r ≡ added op l r
calc_added Added l r = refl
calc_added Taken l r = refl

calc_scaled : (op : Scaling) (l r : ConditionForm) → calculated (scaling_value op) l r ≡ scaled op l r
calc_scaled Times l r = refl
calc_scaled Over l r = refl
calc_scaled Modulo l r = refl

mutual
  condition_formed : (names : List (List ℕ)) (c : Condition) (d : ℕ) (rest : List Marked) → Named names (condition d c rest)
      → (condition_form names (condition_value names c) ≡ strip_condition c) × Named names rest
  condition_formed names (OneAll a) d rest h = all_formed names a d rest h
  condition_formed names (MoreAll c a) d rest h =
      let x = condition_formed names c d (binary t.Either (all d a rest)) h in let y = all_formed names a d rest x.1.1 in (ap₂ either x.0 y.0, y.1)

  all_formed : (names : List (List ℕ)) (a : All) (d : ℕ) (rest : List Marked) → Named names (all d a rest) → (condition_form names (all_value names a) ≡ strip_all a) × Named names rest
  all_formed names (OneNegation n) d rest h = negation_formed names n d rest h
  all_formed names (MoreNegation a n) d rest h =
      let x = all_formed names a d (binary t.Both (negation d n rest)) h in let y = negation_formed names n d rest x.1.1 in (ap₂ both x.0 y.0, y.1)

  negation_formed : (names : List (List ℕ)) (n : Negation) (d : ℕ) (rest : List Marked) → Named names (negation d n rest)
      → (condition_form names (negation_value names n) ≡ strip_negation n) × Named names rest
  negation_formed names (Negated n) d rest h = let x = negation_formed names n d rest h.1 in (ap negated x.0, x.1)
  negation_formed names (Compared c) d rest h = comparison_formed names c d rest h

  comparison_formed : (names : List (List ℕ)) (c : Comparison) (d : ℕ) (rest : List Marked) → Named names (comparison d c rest)
      → (condition_form names (comparison_value names c) ≡ strip_comparison c) × Named names rest
  comparison_formed names (OneSum s) d rest h = sum_formed names s d rest h
  comparison_formed names (TwoSums l cmp r) d rest h =
      let x = sum_formed names l d (binary (t.Compare cmp) (sum d r rest)) h in let y = sum_formed names r d rest x.1.1 in (ap₂ (compared cmp) x.0 y.0, y.1)

  sum_formed : (names : List (List ℕ)) (s : Sum) (d : ℕ) (rest : List Marked) → Named names (sum d s rest) → (condition_form names (sum_value names s) ≡ strip_sum s) × Named names rest
  sum_formed names (OneProduct p) d rest h = product_formed names p d rest h
  sum_formed names (MoreProduct s op p) d rest h =
      let x = sum_formed names s d (binary (adding op) (product d p rest)) h in let y = product_formed names p d rest x.1.1 in
      (calc_added op _ _ ∙ ap₂ (added op) x.0 y.0, y.1)

  product_formed : (names : List (List ℕ)) (p : Product) (d : ℕ) (rest : List Marked) → Named names (product d p rest)
      → (condition_form names (product_value names p) ≡ strip_product p) × Named names rest
  product_formed names (OneUnit u) d rest h = unit_formed names u d rest h
  product_formed names (MoreUnit p op u) d rest h =
      let x = product_formed names p d (binary (scaling op) (unit d u rest)) h in let y = unit_formed names u d rest x.1.1 in
      (calc_scaled op _ _ ∙ ap₂ (scaled op) x.0 y.0, y.1)

  unit_formed : (names : List (List ℕ)) (u : Unit') (d : ℕ) (rest : List Marked) → Named names (unit d u rest) → (condition_form names (unit_value names u) ≡ strip_unit u) × Named names rest
  unit_formed names (Value a) d rest h =
      let x = term_formed names t.Var (variable names) (λ slot. Leaf (name_at names slot)) zero_term (in_operand names) a Single 1 rest h in
      (ap (λ y. OfUnit (Value y)) x.0, x.1)
  unit_formed names (Grouped c) d rest h = let x = condition_formed names c (d + 1) (quiet t.Close rest) h.1 in (x.0, x.1.1)

-- ---- patterns

joint_formed : (names : List (List ℕ)) (j : Joint) (l r : PlainPattern) → pattern_form names (joined_value j l r) ≡ joined j (pattern_form names l) (pattern_form names r)
joint_formed names (Joined op) l r = refl
joint_formed names Otherwise l r = refl

not_formed : {i j b c a d : PatternForm} → i ≡ j → b ≡ c → a ≡ d → without i b a ≡ without j c d
not_formed p q r = rw (p, q, r) refl

mutual
  tree_formed : (names : List (List ℕ)) (p : Tree) (d : ℕ) (rest : List Marked) → Named names (tree d p rest) → (pattern_form names (tree_value names p) ≡ strip_tree p) × Named names rest
  tree_formed names (Plain c) d rest h = chain_formed names c d rest h
  tree_formed names (Filtered p c) d rest h =
      let x = tree_formed names p d (binary t.Where (condition d c rest)) h in let y = condition_formed names c d rest x.1.1 in (ap₂ filtered x.0 y.0, y.1)

  chain_formed : (names : List (List ℕ)) (c : Chain) (d : ℕ) (rest : List Marked) → Named names (chain d c rest) → (pattern_form names (chain_value names c) ≡ strip_chain c) × Named names rest
  chain_formed names (One p) d rest h = part_formed names p d rest h
  chain_formed names (More c j p) d rest h =
      let x = chain_formed names c d (binary (joint j) (part d p rest)) h in let y = part_formed names p d rest x.1.1 in
      (joint_formed names j _ _ ∙ ap₂ (joined j) x.0 y.0, y.1)

  part_formed : (names : List (List ℕ)) (p : Part) (d : ℕ) (rest : List Marked) → Named names (part d p rest) → (pattern_form names (part_value names p) ≡ strip_part p) × Named names rest
  part_formed names (Bare name) d rest h = (refl, h.1)
  part_formed names (Atom name as') d rest h =
      let x = arguments_formed names wanted (wanted_value names) (λ slot. Leaf (Variable (name_at names slot))) (Leaf Anything) (in_atom names) as' 1 (quiet t.Close rest) h.1.1 in
      (ap (λ y. OfPart (atom_part name y)) x.0, x.1.1)
  part_formed names (Without i b a) d rest h =
      let r2 = tree (d + 1) a (quiet t.Square rest) in
      let r1 = tree (d + 1) b (quiet t.Comma r2) in
      let x = tree_formed names i (d + 1) (quiet t.Close ((Nests (d + 1), t.Limits) ∷ r1)) h.1.1 in
      let y = tree_formed names b (d + 1) (quiet t.Comma r2) x.1.1.1 in
      let z = tree_formed names a (d + 1) (quiet t.Square rest) y.1.1 in
      (not_formed x.0 y.0 z.0, z.1.1)
  part_formed names (Rounded r) d rest h = round_formed names r d rest h

  round_formed : (names : List (List ℕ)) (r : Round) (d : ℕ) (rest : List Marked) → Named names (round d r rest) → (pattern_form names (round_value names r) ≡ strip_round r) × Named names rest
  round_formed names (Bracketed p) d rest h = let x = tree_formed names p (d + 1) (quiet t.Close rest) h.1 in (x.0, x.1.1)
  round_formed names (Exactly r q) d rest h =
      let x = round_formed names r d (a_part t.Length ((Lasts q, t.Number q) ∷ rest)) h in (ap (λ y. exactly y q) x.0, x.1.1.1)
  round_formed names (AtMost r q) d rest h =
      let x = round_formed names r d (binary t.Within ((Lasts q, t.Number q) ∷ rest)) h in (ap (λ y. at_most y q) x.0, x.1.1.1)

-- ---- statements

items_formed : (is : Items) → fold and_item None (items_value is) ≡ Some is
items_formed (OneItem name n) = refl
items_formed (MoreItem is name n) =
    fold_push and_item None (items_value is) (record { name = name; arity = n }) ∙ ap (λ o. and_item o (record { name = name; arity = n })) (items_formed is)

names_behind : (s : Statement) → names_of s ≡ (count_all nothing_counted (behind_first s [])).names
names_behind (Clause (Plainly name) p) = refl
names_behind (Clause (Applied name as') p) = refl
names_behind (Shown is) = refl

clause_named : (h : Heading) (p : Tree) → Named (names_of (Clause h p)) (behind_first (Clause h p) [])
clause_named h p =
    subst (λ names. Named names (behind_first (Clause h p) [])) (sym (names_behind (Clause h p)))
    (named (behind_first (Clause h p) []) (inner (fewer_behind (Clause h p) Neither)) nothing_counted)

statement_formed : (s : Statement) → statement_form (statement_value s) ≡ strip_statement s
statement_formed (Clause h p) =
    let names = names_of (Clause h p) in
    let x = heading_formed names h (quiet t.Arrow (tree 0 p (quiet t.End []))) (clause_named h p) in
    let y = tree_formed names p 0 (quiet t.End []) x.1.1 in
    ap₂ (λ a b. Clause a (as_tree b)) x.0 y.0
statement_formed (Shown is) = ap (λ o. Shown (shown_form o)) (items_formed is)

pub text_formed : (ss : Statements) → text_form (text_value ss) ≡ strip_text ss
text_formed Empty = refl
text_formed (Then ss s) =
    fold_push and_statement Empty (text_value ss) (statement_value s) ∙ ap₂ Then (text_formed ss) (statement_formed s)
