-- A text within the limits says rules that are shaped.
use Rattle.std.proofs.Common.{◌≡◌, ◌≤◌, ℕ, ℤ, ◌+◌, ◌^◌, Bool, true, false, List, [], ◌∷◌, ◌++◌, length, None, refl, sym, ap, ◌∙◌, subst, length-append, arith, suc}
use Rattle.std.proofs.lemmas.List.{append-nil}
use Rattle.std.specs.Prelude.{nat_lt}
use Rattle.std.specs.List.{list_all}
use Rattle.std.proofs.lemmas.Bool.{and_from, or_left, or_right, lt-ltb, le-leb}
use Rattle.std.proofs.lemmas.List.Folds.{list_all-append, list_all-map}
use Rattle.event_model.specs.declared.terms.Pat.{Pat, out-Pat}
use Rattle.event_model.specs.declared.terms.Pat.TheOpen.{Pat-F}
use Rattle.event_model.specs.declared.terms.Pat.TheVariants as pat
use Rattle.event_model.specs.declared.terms.Pat.TheFolds.{fold_out-Pat, map-Pat}
use Rattle.rule_lexer.specs.declared.terminals.Terminal.{Terminal}
use Rattle.rule_lexer.specs.declared.terminals.Terminal.TheVariants as t
use Rattle.rule_ast.specs.Trees as plain
use Rattle.rule_ast.specs.Trees.{PlainPattern, PlainStatement}
use Rattle.rule_ast.specs.Shaped.{parts_pass, passes, is_variable, is_head_argument, is_shaped_cond, is_length, is_shaped_pattern, names_differ, is_shaped_head, is_shaped_rule, is_shown_name, is_shaped_statement, IsShaped}
use Rattle.rule_grammar.specs.declared.faults.Which.TheVariants as which
use Rattle.rule_grammar.specs.Trees.{Literal, Literal.Digits, Literal.Minus, Literal.Least, Literal.Symbol, Literal.Quoted, Term, Term.Leaf, Term.Lone, Term.Compound, Arguments, Arguments.First, Arguments.Next}
use Rattle.rule_grammar.specs.Trees.{Wanted.Variable, Wanted.Anything, HeadTerm, HeadTerm.Leading, HeadTerm.Fixed, HeadTerms, HeadTerms.FirstTerm, HeadTerms.NextTerm, Heading, Heading.Plainly, Heading.Applied}
use Rattle.rule_grammar.specs.Trees.{Joint, Joint.Joined, Joint.Otherwise}
use Rattle.rule_grammar.specs.Trees.{Condition, Condition.OneAll, Condition.MoreAll, All, All.OneNegation, All.MoreNegation, Negation, Negation.Negated, Negation.Compared, Comparison, Comparison.OneSum, Comparison.TwoSums, Sum, Sum.OneProduct, Sum.MoreProduct, Product, Product.OneUnit, Product.MoreUnit, Unit', Unit'.Value, Unit'.Grouped}
use Rattle.rule_grammar.specs.Trees.{Tree, Tree.Plain, Tree.Filtered, Chain, Chain.One, Chain.More, Part, Part.Bare, Part.Atom, Part.Without, Part.Rounded, Round, Round.Bracketed, Round.Exactly, Round.AtMost}
use Rattle.rule_grammar.specs.Trees.{Items, Items.OneItem, Items.MoreItem, Statement, Statement.Clause, Statement.Shown, Statements, Statements.Empty, Statements.Then}
use Rattle.rule_grammar.specs.Marks.{Role, Marked, Counted, nothing_counted, count_all, by_role}
use Rattle.rule_grammar.specs.Marks.{Role.Quiet, Role.Starts, Role.Single, Role.Nests, Role.Counts, Role.Lists, Role.Lasts, Role.HasArity}
use Rattle.rule_grammar.specs.Tokens.{quiet, binary, a_part, literal, count_of, term, arguments, wanted, never, head_term, count_of_terms, head_terms, heading, adding, scaling, joint, condition, all, negation, comparison, sum, product, unit, tree, chain, part, round, items, statement, number_of, statements, text, bare}
use Rattle.rule_grammar.specs.Values.{slot_of, variable, wanted_value, never_value, literal_value, term_value, arguments_value, head_term_value, head_terms_value, heading_value, condition_value, all_value, negation_value, comparison_value, sum_value, product_value, unit_value, joined_value, tree_value, chain_value, part_value, round_value, items_value, names_of, statement_value, text_value}
use Rattle.rule_grammar.specs.Texts.{IsWithin}
use Rattle.rule_ast.specs.Shown.{shown_names}
use Rattle.rule_grammar.proofs.Fronts.{Begins, statement_begins}
use Rattle.rule_grammar.proofs.Names.{within_limit, few_names, IsKnown, TokenKnown, Fits, no_variable_known, slot_within, rest_within, named}

-- ---- a test of arguments

passes_at : (slot_passes : ℕ → Bool) (any_passes : Bool) (p : Pat) {x : Pat-F Pat} → out-Pat p ≡ x
    → passes slot_passes any_passes p ≡ parts_pass slot_passes any_passes (map-Pat Pat Bool (passes slot_passes any_passes) x)
unfolding passes
passes_at slot_passes any_passes p e =
    fold_out-Pat Bool (parts_pass slot_passes any_passes) p ∙ ap (λ x. parts_pass slot_passes any_passes (map-Pat Pat Bool (passes slot_passes any_passes) x)) e

passes-Var : (f : ℕ → Bool) (b : Bool) (slot : ℕ) → passes f b (pat.Var slot) ≡ f slot
passes-Var f b slot = passes_at f b (pat.Var slot) (pat.outs-Var slot)

passes-Any : (f : ℕ → Bool) (b : Bool) → passes f b pat.Any ≡ b
passes-Any f b = passes_at f b pat.Any pat.outs-Any

passes-Num : (f : ℕ → Bool) (b : Bool) (n : ℤ) → passes f b (pat.Num n) ≡ true
passes-Num f b n = passes_at f b (pat.Num n) (pat.outs-Num n)

passes-Sym : (f : ℕ → Bool) (b : Bool) (name : List ℕ) → passes f b (pat.Sym name) ≡ true
passes-Sym f b name = passes_at f b (pat.Sym name) (pat.outs-Sym name)

passes-Text : (f : ℕ → Bool) (b : Bool) (text : List ℕ) → passes f b (pat.Text text) ≡ true
passes-Text f b text = passes_at f b (pat.Text text) (pat.outs-Text text)

passes-Comp : (f : ℕ → Bool) (b : Bool) (name : List ℕ) (args : List Pat) → passes f b (pat.Comp name args) ≡ list_all (passes f b) args
passes-Comp f b name args = passes_at f b (pat.Comp name args) (pat.outs-Comp name args) ∙ list_all-map (λ x. x) (passes f b) args

-- one more at the end
all-push : {X : Type 0} (p : X → Bool) (xs : List X) (x : X) → list_all p xs ≡ true → p x ≡ true → list_all p (xs ++ x ∷ []) ≡ true
all-push p xs x h k = list_all-append p xs (x ∷ []) ∙ and_from (list_all p xs) (list_all p (x ∷ [])) h (and_from (p x) true k refl)

length-push : {X : Type 0} (xs : List X) (x : X) (n : ℕ) → length xs ≡ n → length (xs ++ x ∷ []) ≡ n + 1
length-push xs x n e = length-append xs (x ∷ []) ∙ ap (λ k. k + 1) e

sixteen : (n : ℕ) → by_role (Counts n) ≡ None → n ≤ 16
sixteen n e = (within_limit 16 n which.TermWidth None e).0

-- ---- terms

abbrev LeafPasses : {W : Type 0} → (ℕ → Bool) → Bool → List (List ℕ) → (W → Terminal) → (W → Pat) → Type 0
LeafPasses {W} f b names spell leaf = (w : W) → TokenKnown names (spell w) → passes f b (leaf w) ≡ true

literal_passes : (f : ℕ → Bool) (b : Bool) (l : Literal) → passes f b (literal_value l) ≡ true
literal_passes f b (Digits n) = passes-Num f b _
literal_passes f b (Minus n) = passes-Num f b _
literal_passes f b Least = passes-Num f b _
literal_passes f b (Symbol name) = passes-Sym f b name
literal_passes f b (Quoted text) = passes-Text f b text

literal_over : (names : List (List ℕ)) (r : Role) (l : Literal) (rest : List Marked) → Fits names (literal r l rest) → Fits names rest
literal_over names r (Digits n) rest h = h.2
literal_over names r (Minus n) rest h = h.2.2
literal_over names r Least rest h = h.2.2
literal_over names r (Symbol name) rest h = h.2
literal_over names r (Quoted text) rest h = h.2

pub record ListFits (f : ℕ → Bool) (b : Bool) (names : List (List ℕ)) (args : List Pat) (n : ℕ) (rest : List Marked) : Type 0 where
  pub each : list_all (passes f b) args ≡ true
  pub long : length args ≡ n
  pub few : n ≤ 16
  pub over : Fits names rest

mutual
  term_fits : {W : Type 0} (f : ℕ → Bool) (b : Bool) (names : List (List ℕ)) (spell : W → Terminal) (leaf : W → Pat) → LeafPasses f b names spell leaf
      → (r : Role) (d : ℕ) (a : Term W) (rest : List Marked) → Fits names (term spell r d a rest) → (passes f b (term_value leaf a) ≡ true) × Fits names rest
  term_fits f b names spell leaf k r d (Leaf w) rest h = (k w h.1, h.2)
  term_fits f b names spell leaf k r d (Lone l) rest h = (literal_passes f b l, literal_over names r l rest h)
  term_fits f b names spell leaf k r d (Compound name as') rest h =
      let args = arguments_fit f b names spell leaf k (d + 1) as' (quiet t.Close rest) h.2.2 in
      (passes-Comp f b name (arguments_value leaf as') ∙ args.each, args.over.2)

  arguments_fit : {W : Type 0} (f : ℕ → Bool) (b : Bool) (names : List (List ℕ)) (spell : W → Terminal) (leaf : W → Pat) → LeafPasses f b names spell leaf
      → (d : ℕ) (as' : Arguments W) (rest : List Marked) → Fits names (arguments spell d as' rest) → ListFits f b names (arguments_value leaf as') (count_of as') rest
  arguments_fit f b names spell leaf k d (First a) rest h =
      let one = term_fits f b names spell leaf k Quiet d a rest h in
      record { each = and_from _ true one.0 refl; long = refl; few = omega arith; over = one.1 }
  arguments_fit f b names spell leaf k d (Next as' a) rest h =
      let args = arguments_fit f b names spell leaf k d as' ((Counts (count_of as' + 1), t.Comma) ∷ term spell Quiet d a rest) h in
      let one = term_fits f b names spell leaf k Quiet d a rest args.over.2 in
      record {
        each = all-push (passes f b) (arguments_value leaf as') (term_value leaf a) args.each one.0;
        long = length-push (arguments_value leaf as') (term_value leaf a) (count_of as') args.long;
        few = sixteen (count_of as' + 1) args.over.0;
        over = one.1;
      }

-- a variable of the rule passes where its slot does
variable_passes : (names : List (List ℕ)) (b : Bool) (name : List ℕ) → IsKnown names name → passes (λ slot. nat_lt slot (length names)) b (variable names name) ≡ true
variable_passes names b name h = passes-Var (λ slot. nat_lt slot (length names)) b (slot_of names name) ∙ lt-ltb (slot_of names name) (length names) (slot_within names name h)

wanted_passes : (names : List (List ℕ)) → LeafPasses (λ slot. nat_lt slot (length names)) true names wanted (wanted_value names)
wanted_passes names (Variable name) h = variable_passes names true name h
wanted_passes names Anything h = passes-Any (λ slot. nat_lt slot (length names)) true

-- ---- heads

head_term_fits : (names : List (List ℕ)) (a : HeadTerm) (rest : List Marked) → Fits names (head_term a rest) → (is_head_argument (length names) (head_term_value names a) ≡ true) × Fits names rest
head_term_fits names (Leading name) rest h =
    (or_left _ _ (ap (is_variable (length names)) (pat.outs-Var (slot_of names name)) ∙ lt-ltb (slot_of names name) (length names) (slot_within names name h.1)), h.2)
head_term_fits names (Fixed a) rest h =
    let one = term_fits (λ slot. false) false names never never_value (λ w. absurd w) Quiet 1 a rest h in (or_right _ _ one.0, one.1)

pub record HeadFits (names : List (List ℕ)) (args : List Pat) (n : ℕ) (rest : List Marked) : Type 0 where
  pub each : list_all (is_head_argument (length names)) args ≡ true
  pub long : length args ≡ n
  pub few : n ≤ 16
  pub over : Fits names rest

head_terms_fit : (names : List (List ℕ)) (as' : HeadTerms) (rest : List Marked) → Fits names (head_terms as' rest) → HeadFits names (head_terms_value names as') (count_of_terms as') rest
head_terms_fit names (FirstTerm a) rest h =
    let one = head_term_fits names a rest h in
    record { each = and_from _ true one.0 refl; long = refl; few = omega arith; over = one.1 }
head_terms_fit names (NextTerm as' a) rest h =
    let args = head_terms_fit names as' ((Counts (count_of_terms as' + 1), t.Comma) ∷ head_term a rest) h in
    let one = head_term_fits names a rest args.over.2 in
    record {
      each = all-push (is_head_argument (length names)) (head_terms_value names as') (head_term_value names a) args.each one.0;
      long = length-push (head_terms_value names as') (head_term_value names a) (count_of_terms as') args.long;
      few = sixteen (count_of_terms as' + 1) args.over.0;
      over = one.1;
    }

heading_fits : (names : List (List ℕ)) (n : ℕ) (h : Heading) (rest : List Marked) → Fits names (heading n h rest) → (is_shaped_head (length names) (heading_value names h) ≡ true) × Fits names rest
heading_fits names n (Plainly name) rest h = (refl, h.2)
heading_fits names n (Applied name as') rest h =
    let args = head_terms_fit names as' (quiet t.Close rest) h.2.2 in
    (and_from _ _ (le-leb _ _ (subst (λ k. k ≤ 16) (sym args.long) args.few)) args.each, args.over.2)

-- ---- conditions

mutual
  condition_fits : (names : List (List ℕ)) (d : ℕ) (c : Condition) (rest : List Marked) → Fits names (condition d c rest) → (is_shaped_cond (length names) (condition_value names c) ≡ true) × Fits names rest
  condition_fits names d (OneAll a) rest h = all_fits names d a rest h
  condition_fits names d (MoreAll c a) rest h =
      let l = condition_fits names d c (binary t.Either (all d a rest)) h in
      let r = all_fits names d a rest l.1.2 in (and_from _ _ l.0 r.0, r.1)

  all_fits : (names : List (List ℕ)) (d : ℕ) (a : All) (rest : List Marked) → Fits names (all d a rest) → (is_shaped_cond (length names) (all_value names a) ≡ true) × Fits names rest
  all_fits names d (OneNegation n) rest h = negation_fits names d n rest h
  all_fits names d (MoreNegation a n) rest h =
      let l = all_fits names d a (binary t.Both (negation d n rest)) h in
      let r = negation_fits names d n rest l.1.2 in (and_from _ _ l.0 r.0, r.1)

  negation_fits : (names : List (List ℕ)) (d : ℕ) (n : Negation) (rest : List Marked) → Fits names (negation d n rest) → (is_shaped_cond (length names) (negation_value names n) ≡ true) × Fits names rest
  negation_fits names d (Negated n) rest h = negation_fits names d n rest h.2
  negation_fits names d (Compared c) rest h = comparison_fits names d c rest h

  comparison_fits : (names : List (List ℕ)) (d : ℕ) (c : Comparison) (rest : List Marked) → Fits names (comparison d c rest) → (is_shaped_cond (length names) (comparison_value names c) ≡ true) × Fits names rest
  comparison_fits names d (OneSum s) rest h = sum_fits names d s rest h
  comparison_fits names d (TwoSums l cmp r) rest h =
      let l' = sum_fits names d l (binary (t.Compare cmp) (sum d r rest)) h in
      let r' = sum_fits names d r rest l'.1.2 in (and_from _ _ l'.0 r'.0, r'.1)

  sum_fits : (names : List (List ℕ)) (d : ℕ) (s : Sum) (rest : List Marked) → Fits names (sum d s rest) → (is_shaped_cond (length names) (sum_value names s) ≡ true) × Fits names rest
  sum_fits names d (OneProduct p) rest h = product_fits names d p rest h
  sum_fits names d (MoreProduct s op p) rest h =
      let l = sum_fits names d s (binary (adding op) (product d p rest)) h in
      let r = product_fits names d p rest l.1.2 in (and_from _ _ l.0 r.0, r.1)

  product_fits : (names : List (List ℕ)) (d : ℕ) (p : Product) (rest : List Marked) → Fits names (product d p rest) → (is_shaped_cond (length names) (product_value names p) ≡ true) × Fits names rest
  product_fits names d (OneUnit u) rest h = unit_fits names d u rest h
  product_fits names d (MoreUnit p op u) rest h =
      let l = product_fits names d p (binary (scaling op) (unit d u rest)) h in
      let r = unit_fits names d u rest l.1.2 in (and_from _ _ l.0 r.0, r.1)

  unit_fits : (names : List (List ℕ)) (d : ℕ) (u : Unit') (rest : List Marked) → Fits names (unit d u rest) → (is_shaped_cond (length names) (unit_value names u) ≡ true) × Fits names rest
  unit_fits names d (Value a) rest h = term_fits (λ slot. nat_lt slot (length names)) false names t.Var (variable names) (variable_passes names false) Single 1 a rest h
  unit_fits names d (Grouped c) rest h = let one = condition_fits names (d + 1) c (quiet t.Close rest) h.2 in (one.0, one.1.2)

-- ---- patterns

joined_shaped : (vars : ℕ) (j : Joint) (l r : PlainPattern) → is_shaped_pattern vars l ≡ true → is_shaped_pattern vars r ≡ true → is_shaped_pattern vars (joined_value j l r) ≡ true
joined_shaped vars (Joined op) l r h k = and_from _ _ h k
joined_shaped vars Otherwise l r h k = and_from _ _ h k

lasts : (q : ℕ) → by_role (Lasts q) ≡ None → is_length q ≡ true
lasts q e = le-leb q (2 ^ 62) (within_limit (2 ^ 62) q which.Length None e).0

mutual
  tree_fits : (names : List (List ℕ)) (d : ℕ) (p : Tree) (rest : List Marked) → Fits names (tree d p rest) → (is_shaped_pattern (length names) (tree_value names p) ≡ true) × Fits names rest
  tree_fits names d (Plain c) rest h = chain_fits names d c rest h
  tree_fits names d (Filtered p c) rest h =
      let l = tree_fits names d p (binary t.Where (condition d c rest)) h in
      let r = condition_fits names d c rest l.1.2 in (and_from _ _ l.0 r.0, r.1)

  chain_fits : (names : List (List ℕ)) (d : ℕ) (c : Chain) (rest : List Marked) → Fits names (chain d c rest) → (is_shaped_pattern (length names) (chain_value names c) ≡ true) × Fits names rest
  chain_fits names d (One p) rest h = part_fits names d p rest h
  chain_fits names d (More c j p) rest h =
      let l = chain_fits names d c (binary (joint j) (part d p rest)) h in
      let r = part_fits names d p rest l.1.2 in (joined_shaped (length names) j (chain_value names c) (part_value names p) l.0 r.0, r.1)

  part_fits : (names : List (List ℕ)) (d : ℕ) (p : Part) (rest : List Marked) → Fits names (part d p rest) → (is_shaped_pattern (length names) (part_value names p) ≡ true) × Fits names rest
  part_fits names d (Bare name) rest h = (refl, h.2)
  part_fits names d (Atom name as') rest h =
      let args = arguments_fit (λ slot. nat_lt slot (length names)) true names wanted (wanted_value names) (wanted_passes names) 1 as' (quiet t.Close rest) h.2.2 in
      (and_from _ _ (le-leb _ _ (subst (λ k. k ≤ 16) (sym args.long) args.few)) args.each, args.over.2)
  part_fits names d (Without i b a) rest h =
      let i' = tree_fits names (d + 1) i (quiet t.Close ((Nests (d + 1), t.Limits) ∷ tree (d + 1) b (quiet t.Comma (tree (d + 1) a (quiet t.Square rest))))) h.2.2 in
      let b' = tree_fits names (d + 1) b (quiet t.Comma (tree (d + 1) a (quiet t.Square rest))) i'.1.2.2 in
      let a' = tree_fits names (d + 1) a (quiet t.Square rest) b'.1.2 in
      (and_from _ _ i'.0 (and_from _ _ b'.0 a'.0), a'.1.2)
  part_fits names d (Rounded r) rest h = round_fits names d r rest h

  round_fits : (names : List (List ℕ)) (d : ℕ) (r : Round) (rest : List Marked) → Fits names (round d r rest) → (is_shaped_pattern (length names) (round_value names r) ≡ true) × Fits names rest
  round_fits names d (Bracketed p) rest h = let one = tree_fits names (d + 1) p (quiet t.Close rest) h.2 in (one.0, one.1.2)
  round_fits names d (Exactly r q) rest h =
      let one = round_fits names d r (a_part t.Length ((Lasts q, t.Number q) ∷ rest)) h in
      (and_from _ _ one.0 (lasts q one.1.2.0), one.1.2.2)
  round_fits names d (AtMost r q) rest h =
      let one = round_fits names d r (binary t.Within ((Lasts q, t.Number q) ∷ rest)) h in
      (and_from _ _ one.0 (lasts q one.1.2.0), one.1.2.2)

-- ---- shown names

shown : (name : List ℕ) (n : ℕ) → by_role (HasArity n) ≡ None → is_shown_name (record { name = name; arity = n }) ≡ true
shown name n e = le-leb n 16 (within_limit 16 n which.TermWidth None e).0

items_fit : (names : List (List ℕ)) (is : Items) (rest : List Marked) → Fits names (items is rest) → (list_all is_shown_name (items_value is) ≡ true) × Fits names rest
items_fit names (OneItem name n) rest h = (and_from _ true (shown name n h.2.2.0) refl, h.2.2.2)
items_fit names (MoreItem is name n) rest h =
    let one = items_fit names is ((Lists, t.Comma) ∷ quiet (t.Name name) (quiet t.Slash ((HasArity n, t.Number n) ∷ rest))) h in
    (all-push is_shown_name (items_value is) (record { name = name; arity = n }) one.0 (shown name n one.1.2.2.2.0), one.1.2.2.2.2)

-- ---- statements

statement_fits : (names : List (List ℕ)) (n : ℕ) (s : Statement) → names_of s ≡ names → length names ≤ 64 → names_differ names ≡ true → Fits names (statement n s [])
    → is_shaped_statement (statement_value s) ≡ true
statement_fits names n (Clause h p) e few differ fits =
    subst (λ ns. is_shaped_rule (record { head = heading_value ns h; body = tree_value ns p; vars = ns }) ≡ true) (sym e)
    (let front = heading_fits names n h (quiet t.Arrow (tree 0 p (quiet t.End []))) fits in
    let body = tree_fits names 0 p (quiet t.End []) front.1.2 in
    and_from _ _ (and_from _ _ (le-leb (length names) 64 few) differ) (and_from _ _ front.0 body.0))
statement_fits names n (Shown is) e few differ fits = (items_fit names is (quiet t.End []) fits.2).0

begins_so : {f : ℕ → List Marked → List Marked} (b : Begins f) (n : ℕ) (rest : List Marked) → f n rest ≡ (Starts n, b.first) ∷ (b.puts.front ++ rest)
begins_so b n rest = b.same n rest ∙ ap (λ ms. (Starts n, b.first) ∷ ms) (b.puts.same rest)

begins_alone : {f : ℕ → List Marked → List Marked} (b : Begins f) (n : ℕ) → f n [] ≡ (Starts n, b.first) ∷ b.puts.front
begins_alone b n = begins_so b n [] ∙ ap (λ ms. (Starts n, b.first) ∷ ms) (append-nil b.puts.front)

-- the n-th statement, and that rest stays within the limits
pub record StatementFits (n : ℕ) (s : Statement) (rest : List Marked) : Type 0 where
  pub few : n ≤ 1024
  pub shaped : is_shaped_statement (statement_value s) ≡ true
  pub left : Counted
  pub over : IsWithin left rest

statement_shaped : (n : ℕ) (s : Statement) (g : Counted) (rest : List Marked) → IsWithin g (statement n s rest) → StatementFits n s rest
statement_shaped n s g rest h = at (statement_begins s)
  where
    at : Begins (λ n rest. statement n s rest) → StatementFits n s rest
    at b =
        let w = subst (IsWithin g) (begins_so b n rest) h in
        let starts = (few_names nothing_counted (Starts n) w.0).1 in
        let g' = count_all nothing_counted b.puts.front in
        let known = named b.puts.front rest b.puts.inner w.1 in
        record {
          few = (within_limit 1024 n which.Statements None starts).0;
          shaped = statement_fits g'.names n s (ap (λ ms. (count_all nothing_counted ms).names) (begins_alone b 1)) known.few known.differ
              (subst (Fits g'.names) (sym (begins_alone b n)) (starts, no_variable_known g'.names b.first b.no_variable, known.fits));
          left = g';
          over = rest_within nothing_counted b.puts.front rest w.1;
        }

pub record TextFits (ss : Statements) (rest : List Marked) : Type 0 where
  pub long : length (text_value ss) ≡ number_of ss
  pub few : number_of ss ≤ 1024
  pub each : list_all is_shaped_statement (text_value ss) ≡ true
  pub left : Counted
  pub over : IsWithin left rest

statements_fit : (ss : Statements) (g : Counted) (rest : List Marked) → IsWithin g (statements ss rest) → TextFits ss rest
statements_fit Empty g rest h = record { long = refl; few = omega arith; each = refl; left = g; over = h }
statements_fit (Then ss s) g rest h =
    let old = statements_fit ss g (statement (number_of ss + 1) s rest) h in
    let one = statement_shaped (number_of ss + 1) s old.left rest old.over in
    record {
      long = length-push (text_value ss) (statement_value s) (number_of ss) old.long;
      few = one.few;
      each = all-push is_shaped_statement (text_value ss) (statement_value s) old.each one.shaped;
      left = one.left;
      over = one.over;
    }

pub shaped_text : (ss : Statements) → IsWithin nothing_counted (text ss) → IsShaped (text_value ss)
shaped_text ss h =
    let whole = statements_fit ss nothing_counted [] h in
    record { few = le-leb _ _ (subst (λ k. k ≤ 1024) (sym whole.long) whole.few); each = whole.each }

-- ---- how many names are shown

shown_append : (xs ys : List PlainStatement) → length (shown_names (xs ++ ys)) ≡ length (shown_names xs) + length (shown_names ys)
shown_append [] ys = omega arith
shown_append (plain.Clause r ∷ xs) ys = shown_append xs ys
shown_append (plain.Show names ∷ xs) ys =
    omega (arith, length-append names (shown_names (xs ++ ys)), length-append names (shown_names xs), shown_append xs ys)

items_long : (is : Items) (rest : List Marked) → length (items_value is) + length rest ≤ length (items is rest)
items_long (OneItem name n) rest = omega arith
items_long (MoreItem is name n) rest =
    let old = items_long is ((Lists, t.Comma) ∷ quiet (t.Name name) (quiet t.Slash ((HasArity n, t.Number n) ∷ rest))) in
    omega (arith, length-append (items_value is) (record { name = name; arity = n } ∷ []))

begins_long : {f : ℕ → List Marked → List Marked} (b : Begins f) (n : ℕ) (rest : List Marked) → length rest ≤ length (f n rest)
begins_long b n rest = omega (arith, ap length (begins_so b n rest), length-append b.puts.front rest)

statement_long : (n : ℕ) (s : Statement) (rest : List Marked) → length (shown_names (statement_value s ∷ [])) + length rest ≤ length (statement n s rest)
statement_long n (Clause h p) rest = let b = begins_long (statement_begins (Clause h p)) n rest in omega arith
statement_long n (Shown is) rest =
    let one = items_long is (quiet t.End rest) in
    let same = ap length (append-nil (items_value is)) in omega arith

statements_long : (ss : Statements) (rest : List Marked) → length (shown_names (text_value ss)) + length rest ≤ length (statements ss rest)
statements_long Empty rest = omega arith
statements_long (Then ss s) rest =
    let old = statements_long ss (statement (number_of ss + 1) s rest) in
    let one = statement_long (number_of ss + 1) s rest in
    omega (arith, shown_append (text_value ss) (statement_value s ∷ []))

length-bare : (ms : List Marked) → length (bare ms) ≡ length ms
length-bare [] = refl
length-bare (m ∷ ms) = ap (λ n. suc n) (length-bare ms)

pub shown_few : (ss : Statements) → length (shown_names (text_value ss)) ≤ length (bare (text ss))
shown_few ss = let few = statements_long ss [] in omega (arith, length-bare (text ss))
