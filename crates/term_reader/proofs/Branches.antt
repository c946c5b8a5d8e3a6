-- Terms and arguments from their parts.
use Rattle.std.proofs.Common.{◌≡◌, ℕ, ◌+◌, ◌<◌, ◌≤◌, Bool, true, false, cond, List, [], ◌∷◌, ◌++◌, length, drop, get_or, Option, Some, None, Result, Ok, Err, refl, sym, ap, ◌∙◌, arith, subst, append_assoc, length-append, ℤ, zero, suc}
use Rattle.std.proofs.lemmas.Bool.{lt-ltb, le-ltb, le-leb, true≢false}
use Rattle.std.proofs.lemmas.List.{drop_more}
use Rattle.event_model.specs.declared.terms.Term.{Term}
use Rattle.event_model.specs.declared.terms.Term.TheVariants as made
use Rattle.event_model.specs.declared.terms.TheConstants.{MOST_ARGUMENTS, MOST_DEPTH}
use Rattle.term_reader.specs.declared.faults.TermFault.{TermFault}
use Rattle.term_reader.specs.declared.signs.Sign.{Sign}
use Rattle.term_reader.specs.declared.signs.Sign.TheVariants.{Space, Tab, Digit, Lower, Upper, Open, Close, Comma, Quote, Minus}
use Rattle.term_reader.specs.Signs.{sign_of}
use Rattle.term_reader.specs.Grammar.{Blanks, Blanks.NoBlank, Blanks.MoreSpace, Blanks.MoreTab, Digits, Digits.OneDigit, Word, Tree, Tree.Number, Tree.Name, Tree.Text, Tree.Comp, Args, Args.OneArg, Args.MoreArg, signed, fits, in_range, has_room, value, values, width}
use Rattle.term_reader.specs.Machine.{Stack, Stack.Top, Stack.First, Stack.Next, State, State.Want, State.InWord, State.Negative, State.InNumber, State.InText, State.Behind, step, said, guard, opened}
use Rattle.term_reader.specs.Steps.{Kind.Bad, Kind.Wide, Outcome, Outcome.Stops, run, onward, halted, ended}
use Rattle.term_reader.specs.Readings.{SignAt, begins, is_word, is_open, is_digit, is_blank, is_mark, Fails, NumberAt, NegativeAt, TreeAt, NameRead, DigitsRead, NumberRead, NegativeRead, TextRead, TreeRead, BlanksRead, ArgRead, ArgsSoFar, ArgsRead, frame, with_arg, values_of, width_of}
use Rattle.term_reader.proofs.Forms.{run_step, run_limit}

-- Two states that go on alike.

halted_same : (o : Option State) (s u : State) (b : ℕ) (rest : List ℕ) → said s ≡ said u → halted o s b rest ≡ halted o u b rest
halted_same None s u b rest e = ap (λ t. ended t (b ∷ rest)) e
halted_same (Some v) s u b rest e = refl

onward_same : (go : State → Outcome) (s u : State) (b : ℕ) (rest : List ℕ) (o : Option State) → said s ≡ said u → step false s (sign_of b) ≡ step false u (sign_of b) → onward go s b rest o ≡ onward go u b rest o
onward_same go s u b rest None e f = ap (λ o. halted o s b rest) f ∙ halted_same (step false u (sign_of b)) s u b rest e
onward_same go s u b rest (Some v) e f = refl

run_same : (p : Sign → Bool) (xs : List ℕ) (s u : State) → said s ≡ said u → begins p xs ≡ false → ((x : Sign) → p x ≡ false → (lim : Bool) → step lim s x ≡ step lim u x) → run xs s ≡ run xs u
run_same p [] s u e h f = ap (λ t. ended t []) e
run_same p (b ∷ rest) s u e h f = ap (onward (run rest) s b rest) (f (sign_of b) h true) ∙ onward_same (run rest) s u b rest (step true u (sign_of b)) e (f (sign_of b) h false)

-- nothing goes on
pub run_lacks : (p : Sign → Bool) (bytes : List ℕ) (at : ℕ) (s : State) → said s ≡ None → begins p (drop at bytes) ≡ false → ((x : Sign) → p x ≡ false → (lim : Bool) → step lim s x ≡ None) → run (drop at bytes) s ≡ Stops Bad (drop at bytes)
run_lacks p bytes at s e h f = go (drop at bytes) h
  where
    go : (xs : List ℕ) → begins p xs ≡ false → run xs s ≡ Stops Bad xs
    go [] h = ap (λ t. ended t []) e
    go (b ∷ rest) h =
        ap (onward (run rest) s b rest) (f (sign_of b) h true) ∙ ap (λ o. halted o s b rest) (f (sign_of b) h false) ∙ ap (λ t. ended t (b ∷ rest)) e

said_name : (w : Word) (k : Stack) → said (InWord w k) ≡ said (Behind (Name w) k NoBlank)
said_name w (Top a) = refl
said_name w (First v b k) = refl
said_name w (Next v xs b k) = refl

said_number : (m : Bool) (ds : Digits) (k : Stack) → said (InNumber m ds k) ≡ said (Behind (Number m ds) k NoBlank)
said_number m ds (Top a) = refl
said_number m ds (First v b k) = refl
said_number m ds (Next v xs b k) = refl

is_more : Sign → Bool
is_more x = cond (is_word x) true (is_open x)

step_name : (w : Word) (k : Stack) (x : Sign) → is_more x ≡ false → (lim : Bool) → step lim (InWord w k) x ≡ step lim (Behind (Name w) k NoBlank) x
unfolding is_more
step_name w k (Lower b) h lim = cc
step_name w k (Upper b) h lim = cc
step_name w k (Digit b) h lim = cc
step_name w k Open h lim = cc
step_name w k x h lim = refl

step_number : (m : Bool) (ds : Digits) (k : Stack) (x : Sign) → is_digit x ≡ false → (lim : Bool) → step lim (InNumber m ds k) x ≡ step lim (Behind (Number m ds) k NoBlank) x
step_number m ds k (Digit b) h lim = cc
step_number m ds k x h lim = refl

no_more : (xs : List ℕ) → begins is_word xs ≡ false → begins is_open xs ≡ false → begins is_more xs ≡ false
unfolding is_more
no_more [] e f = refl
no_more (b ∷ rest) e f = ap (λ c. cond c true (is_open (sign_of b))) e ∙ f

pub behind_name : (xs : List ℕ) (w : Word) (k : Stack) → begins is_word xs ≡ false → begins is_open xs ≡ false → run xs (InWord w k) ≡ run xs (Behind (Name w) k NoBlank)
behind_name xs w k e f = run_same is_more xs (InWord w k) (Behind (Name w) k NoBlank) (said_name w k) (no_more xs e f) (step_name w k)

pub behind_number : (xs : List ℕ) (m : Bool) (ds : Digits) (k : Stack) → begins is_digit xs ≡ false → run xs (InNumber m ds k) ≡ run xs (Behind (Number m ds) k NoBlank)
behind_number xs m ds k e = run_same is_digit xs (InNumber m ds k) (Behind (Number m ds) k NoBlank) (said_number m ds k) e (step_number m ds k)

-- Terms.

pub name_tree : (bytes : List ℕ) (at depth end : ℕ) (name : List ℕ) → NameRead bytes at name end → begins is_open (drop end bytes) ≡ false → TreeRead bytes at depth (made.Sym name) end
name_tree bytes at depth end name h e = record {
  tree = Name h.word;
  says = ap made.Sym h.is;
  ordered = h.ordered;
  inside = h.inside;
  reads = λ k q. h.reads k ∙ behind_name (drop end bytes) h.word k h.over e;
}

pub compound_tree : (bytes : List ℕ) (at depth end close : ℕ) (name : List ℕ) (items : List Term) → NameRead bytes at name end → ArgsRead bytes end depth items close → TreeRead bytes at depth (made.Comp name items) close
compound_tree bytes at depth end close name items h g = record {
  tree = Comp h.word g.args;
  says = ap (λ n. made.Comp n (values g.args [])) h.is ∙ ap (made.Comp name) g.says;
  ordered = omega (arith, h.ordered, g.ordered);
  inside = g.inside;
  reads = λ k q. h.reads k ∙ g.reads h.word k q;
}

pub compound_as : (bytes : List ℕ) (at depth close : ℕ) (name name' : List ℕ) (items items' : List Term) → name' ≡ name → items' ≡ items → TreeRead bytes at depth (made.Comp name items) close → TreeRead bytes at depth (made.Comp name' items') close
compound_as bytes at depth close name name' items items' e f h = record { tree = h.tree; says = h.says ∙ (λ i. made.Comp (sym e i) (sym f i)); ordered = h.ordered; inside = h.inside; reads = h.reads }

pub text_tree : (bytes : List ℕ) (at end : ℕ) (text : List ℕ) → SignAt bytes at Quote → TextRead bytes (at + 1) text end → (depth : ℕ) → TreeRead bytes at depth (made.Text text) end
text_tree bytes at end text h g depth = record {
  tree = Text g.letters;
  says = ap made.Text g.says;
  ordered = omega (arith, g.ordered);
  inside = g.inside;
  reads = λ k q. run_step bytes at Quote (Want k) (InText _ k) h refl ∙ g.reads k;
}

pub number_read : (bytes : List ℕ) (at end size first : ℕ) (m : Bool) (v : ℤ) → DigitsRead bytes m first at size end → begins is_digit (drop end bytes) ≡ false → v ≡ signed m size → NumberRead bytes at m first (made.Num v) end
number_read bytes at end size first m v h e q =
    let r = h.reads (OneDigit first) refl in
    record {
      digits = r.0;
      says = ap (λ n. made.Num (signed m n)) r.1 ∙ ap made.Num (sym q);
      ordered = h.ordered;
      inside = h.inside;
      reads = λ k. r.2 k ∙ behind_number (drop end bytes) m r.0 k e;
    }

small_fits : (m : Bool) (d : ℕ) → d < 10 → fits m d ≡ true
small_fits true d h = le-leb _ _ (omega arith)
small_fits false d h = lt-ltb _ _ (omega arith)

pub number_step : (m : Bool) (d : ℕ) (s : State) (k : Stack) → d < 10 → step true s (Digit d) ≡ guard (in_range true m d) (InNumber m (OneDigit d) k) → step true s (Digit d) ≡ Some (InNumber m (OneDigit d) k)
number_step m d s k h e = e ∙ ap (λ c. guard c (InNumber m (OneDigit d) k)) (small_fits m d h)

pub first_run : (bytes : List ℕ) (at d : ℕ) (k : Stack) → SignAt bytes at (Digit d) → run (drop at bytes) (Want k) ≡ run (drop (at + 1) bytes) (InNumber false (OneDigit d) k)
first_run bytes at d k h = run_step bytes at (Digit d) (Want k) (InNumber false (OneDigit d) k) h (number_step false d (Want k) k h.digit refl)

pub number_tree : (bytes : List ℕ) (at depth d end : ℕ) (v : Term) → SignAt bytes at (Digit d) → NumberRead bytes (at + 1) false d v end → TreeRead bytes at depth v end
number_tree bytes at depth d end v h g = record {
  tree = Number false g.digits;
  says = g.says;
  ordered = omega (arith, g.ordered);
  inside = g.inside;
  reads = λ k q. first_run bytes at d k h ∙ g.reads k;
}

pub negative_tree : (bytes : List ℕ) (at depth end : ℕ) (v : Term) → SignAt bytes at Minus → NegativeRead bytes (at + 1) v end → TreeRead bytes at depth v end
negative_tree bytes at depth end v h g = record {
  tree = Number true g.digits;
  says = g.says;
  ordered = omega (arith, g.ordered);
  inside = g.inside;
  reads = λ k q. run_step bytes at Minus (Want k) (Negative k) h refl ∙ g.reads k;
}

-- Arguments.

space_in : (w : Word) (o : Option Args) (k : Stack) (b : Blanks) → step true (Want (frame w o b k)) Space ≡ Some (Want (frame w o (MoreSpace b) k))
space_in w None k b = refl
space_in w (Some xs) k b = refl

tab_in : (w : Word) (o : Option Args) (k : Stack) (b : Blanks) → step true (Want (frame w o b k)) Tab ≡ Some (Want (frame w o (MoreTab b) k))
tab_in w None k b = refl
tab_in w (Some xs) k b = refl

space_behind : (w : Word) (o : Option Args) (k : Stack) (t : Tree) (b c : Blanks) → step true (Behind t (frame w o b k) c) Space ≡ Some (Behind t (frame w o b k) (MoreSpace c))
space_behind w None k t b c = refl
space_behind w (Some xs) k t b c = refl

tab_behind : (w : Word) (o : Option Args) (k : Stack) (t : Tree) (b c : Blanks) → step true (Behind t (frame w o b k) c) Tab ≡ Some (Behind t (frame w o b k) (MoreTab c))
tab_behind w None k t b c = refl
tab_behind w (Some xs) k t b c = refl

frame_opened : (w : Word) (o : Option Args) (b : Blanks) (k : Stack) → opened (frame w o b k) ≡ opened k + 1
frame_opened w None b k = refl
frame_opened w (Some xs) b k = refl

pub before_arg : (bytes : List ℕ) (at start : ℕ) → (h : BlanksRead bytes at start) → (w : Word) (o : Option Args) (k : Stack) → run (drop at bytes) (Want (frame w o NoBlank k)) ≡ run (drop start bytes) (Want (frame w o (h.reads NoBlank).0 k))
before_arg bytes at start h w o k = (h.reads NoBlank).1 (λ b. Want (frame w o b k)) (space_in w o k) (tab_in w o k)

pub arg_read : (bytes : List ℕ) (at depth start end last : ℕ) (v : Term) → BlanksRead bytes at start → TreeRead bytes start depth v end → BlanksRead bytes end last → ArgRead bytes at depth v last
arg_read bytes at depth start end last v h g i =
    let b : Blanks = (h.reads NoBlank).0 in
    let c = i.reads NoBlank in
    record {
      before = b;
      tree = g.tree;
      after = c.0;
      says = g.says;
      ordered = omega (arith, h.ordered, g.ordered, i.ordered);
      inside = i.inside;
      reads = λ w o k q. before_arg bytes at start h w o k ∙ g.reads (frame w o b k) (frame_opened w o b k ∙ q)
          ∙ c.1 (λ x. Behind g.tree (frame w o b k) x) (space_behind w o k g.tree b) (tab_behind w o k g.tree b);
    }

open_sign : (s : Sign) → is_open s ≡ true → s ≡ Open
open_sign Open h = refl
open_sign s h = cc

pub open_at : (bytes : List ℕ) (at : ℕ) → begins is_open (drop at bytes) ≡ true → SignAt bytes at Open
open_at bytes at e =
    let l : at < length bytes = some bytes at e in
    let n : drop at bytes ≡ get_or bytes at 0 ∷ drop (at + 1) bytes = drop_more bytes at 0 l in
    record { byte = get_or bytes at 0; next = n; is = open_sign _ (ap (begins is_open) (sym n) ∙ e); inside = l; digit = tt }
  where
    none : (i : ℕ) → drop {A = ℕ} i [] ≡ []
    none zero = refl
    none (suc i) = refl

    some : (xs : List ℕ) (i : ℕ) → begins is_open (drop i xs) ≡ true → i < length xs
    some [] i e = absurd (true≢false (sym e ∙ ap (begins is_open) (none i)))
    some (x ∷ xs) zero e = omega arith
    some (x ∷ xs) (suc i) e = let h = some xs i e in omega (arith, h)

room : (most n : ℕ) → n < most → has_room true most n ≡ true
room most n h = lt-ltb _ _ h

no_room : (most n : ℕ) → most ≤ n → has_room true most n ≡ false
no_room most n h = le-ltb _ _ h

pub args_start : (bytes : List ℕ) (at depth : ℕ) → SignAt bytes at Open → depth < 16 → ArgsSoFar bytes at depth [] (at + 1)
args_start bytes at depth h d = record {
  some = None;
  says = refl;
  width = refl;
  narrow = omega arith;
  inside = omega (arith, h.inside);
  ordered = omega arith;
  reads = λ w k q. run_step bytes at Open (InWord w k) (Want (First w NoBlank k)) h (ap (λ c. guard c (Want (First w NoBlank k))) (room MOST_DEPTH (opened k) (omega (arith, q, d))));
}

pub values-append : (xs : Args) (rest : List Term) → values xs rest ≡ values xs [] ++ rest
values-append (OneArg b t c) rest = refl
values-append (MoreArg xs b t c) rest = values-append xs (value t ∷ rest) ∙ sym (append_assoc (values xs []) (value t ∷ []) rest) ∙ ap (λ l. l ++ rest) (sym (values-append xs (value t ∷ [])))

with_says : (o : Option Args) (b : Blanks) (t : Tree) (c : Blanks) → values (with_arg o b t c) [] ≡ values_of o ++ value t ∷ []
with_says None b t c = refl
with_says (Some xs) b t c = values-append xs (value t ∷ [])

with_width : (o : Option Args) (b : Blanks) (t : Tree) (c : Blanks) → width (with_arg o b t c) ≡ width_of o + 1
with_width None b t c = refl
with_width (Some xs) b t c = refl

step_close : (w : Word) (o : Option Args) (k : Stack) (b : Blanks) (t : Tree) (c : Blanks) → step true (Behind t (frame w o b k) c) Close ≡ Some (Behind (Comp w (with_arg o b t c)) k NoBlank)
step_close w None k b t c = refl
step_close w (Some xs) k b t c = refl

step_comma : (lim : Bool) (w : Word) (o : Option Args) (k : Stack) (b : Blanks) (t : Tree) (c : Blanks) → has_room lim MOST_ARGUMENTS 1 ≡ true → step lim (Behind t (frame w o b k) c) Comma ≡ guard (has_room lim MOST_ARGUMENTS (width (with_arg o b t c))) (Want (Next w (with_arg o b t c) NoBlank k))
step_comma lim w None k b t c h = ap (λ x. guard x (Want (Next w (OneArg b t c) NoBlank k))) (sym h)
step_comma lim w (Some xs) k b t c h = refl

more_items : (items : List Term) (v : Term) → length (items ++ v ∷ []) ≡ length items + 1
more_items items v = length-append items (v ∷ [])

-- up to behind an argument
pub args_arg : (bytes : List ℕ) (at depth next end : ℕ) (items : List Term) (v : Term) → (h : ArgsSoFar bytes at depth items next) → (g : ArgRead bytes next (depth + 1) v end) → (w : Word) (k : Stack) → opened k ≡ depth → run (drop at bytes) (InWord w k) ≡ run (drop end bytes) (Behind g.tree (frame w h.some g.before k) g.after)
args_arg bytes at depth next end items v h g w k q = h.reads w k q ∙ g.reads w h.some k (ap (λ n. n + 1) q)

pub args_close : (bytes : List ℕ) (at depth next end : ℕ) (items : List Term) (v : Term) → ArgsSoFar bytes at depth items next → ArgRead bytes next (depth + 1) v end → SignAt bytes end Close → ArgsRead bytes at depth (items ++ v ∷ []) (end + 1)
args_close bytes at depth next end items v h g s = record {
  args = with_arg h.some g.before g.tree g.after;
  says = with_says h.some g.before g.tree g.after ∙ ap (λ x. x ++ value g.tree ∷ []) h.says ∙ ap (λ x. items ++ x ∷ []) g.says;
  ordered = omega (arith, h.ordered, g.ordered);
  inside = omega (arith, s.inside);
  reads = λ w k q. args_arg bytes at depth next end items v h g w k q
      ∙ run_step bytes end Close (Behind g.tree (frame w h.some g.before k) g.after) (Behind (Comp w (with_arg h.some g.before g.tree g.after)) k NoBlank) s (step_close w h.some k g.before g.tree g.after);
}

pub args_comma : (bytes : List ℕ) (at depth next end : ℕ) (items : List Term) (v : Term) → ArgsSoFar bytes at depth items next → ArgRead bytes next (depth + 1) v end → SignAt bytes end Comma → length (items ++ v ∷ []) < 16 → ArgsSoFar bytes at depth (items ++ v ∷ []) (end + 1)
args_comma bytes at depth next end items v h g s n =
    let xs : Args = with_arg h.some g.before g.tree g.after in
    let m : width xs ≡ length (items ++ v ∷ []) = with_width h.some g.before g.tree g.after ∙ ap (λ x. x + 1) h.width ∙ sym (more_items items v) in
    record {
      some = Some xs;
      says = with_says h.some g.before g.tree g.after ∙ ap (λ x. x ++ value g.tree ∷ []) h.says ∙ ap (λ x. items ++ x ∷ []) g.says;
      width = m;
      narrow = n;
      ordered = omega (arith, h.ordered, g.ordered);
      inside = omega (arith, s.inside);
      reads = λ w k q. args_arg bytes at depth next end items v h g w k q
          ∙ run_step bytes end Comma (Behind g.tree (frame w h.some g.before k) g.after) (Want (Next w xs NoBlank k)) s
          (step_comma true w h.some k g.before g.tree g.after refl ∙ ap (λ c. guard c (Want (Next w xs NoBlank k))) (room MOST_ARGUMENTS (width xs) (omega (arith, m, n))));
    }

pub too_wide : (bytes : List ℕ) (at depth next end : ℕ) (items : List Term) (v : Term) → ArgsSoFar bytes at depth items next → ArgRead bytes next (depth + 1) v end → SignAt bytes end Comma → 16 ≤ length (items ++ v ∷ []) → (w : Word) (k : Stack) → opened k ≡ depth
    → (end ≤ length bytes) × (run (drop at bytes) (InWord w k) ≡ Stops Wide (drop end bytes))
too_wide bytes at depth next end items v h g s n w k q =
    let xs : Args = with_arg h.some g.before g.tree g.after in
    let m : width xs ≡ length (items ++ v ∷ []) = with_width h.some g.before g.tree g.after ∙ ap (λ x. x + 1) h.width ∙ sym (more_items items v) in (
      g.inside,
      args_arg bytes at depth next end items v h g w k q
          ∙ run_limit bytes end Comma (Behind g.tree (frame w h.some g.before k) g.after) (Want (Next w xs NoBlank k)) s
          (step_comma true w h.some k g.before g.tree g.after refl ∙ ap (λ c. guard c (Want (Next w xs NoBlank k))) (no_room MOST_ARGUMENTS (width xs) (omega (arith, m, n))))
          (step_comma false w h.some k g.before g.tree g.after refl),
    )

is_delim : Sign → Bool
is_delim x = cond (is_blank x) true (is_mark x)

no_delim : (xs : List ℕ) → begins is_blank xs ≡ false → begins is_mark xs ≡ false → begins is_delim xs ≡ false
unfolding is_delim
no_delim [] e f = refl
no_delim (b ∷ rest) e f = ap (λ c. cond c true (is_mark (sign_of b))) e ∙ f

step_behind : (w : Word) (o : Option Args) (k : Stack) (b : Blanks) (t : Tree) (c : Blanks) (x : Sign) → is_delim x ≡ false → (lim : Bool) → step lim (Behind t (frame w o b k) c) x ≡ None
unfolding is_delim
step_behind w o k b t c Space h lim = cc
step_behind w o k b t c Tab h lim = cc
step_behind w o k b t c Comma h lim = cc
step_behind w o k b t c Close h lim = cc
step_behind w None k b t c x h lim = refl
step_behind w (Some xs) k b t c x h lim = refl

said_behind : (w : Word) (o : Option Args) (k : Stack) (b : Blanks) (t : Tree) (c : Blanks) → said (Behind t (frame w o b k) c) ≡ None
said_behind w None k b t c = refl
said_behind w (Some xs) k b t c = refl

pub args_syntax : (bytes : List ℕ) (at depth next end : ℕ) (items : List Term) (v : Term) → ArgsSoFar bytes at depth items next → ArgRead bytes next (depth + 1) v end → begins is_blank (drop end bytes) ≡ false → begins is_mark (drop end bytes) ≡ false → (w : Word) (k : Stack) → opened k ≡ depth
    → (end ≤ length bytes) × (run (drop at bytes) (InWord w k) ≡ Stops Bad (drop end bytes))
args_syntax bytes at depth next end items v h g e f w k q = (
  g.inside,
  args_arg bytes at depth next end items v h g w k q
      ∙ run_lacks is_delim bytes end (Behind g.tree (frame w h.some g.before k) g.after) (said_behind w h.some k g.before g.tree g.after) (no_delim (drop end bytes) e f) (step_behind w h.some k g.before g.tree g.after),
)

-- Faults further on.

pub arg_fails : (bytes : List ℕ) (at start depth : ℕ) (fault : TermFault) → BlanksRead bytes at start → ((k : Stack) → opened k ≡ depth → Fails bytes fault (run (drop start bytes) (Want k))) → (w : Word) (o : Option Args) (k : Stack) → opened k + 1 ≡ depth → Fails bytes fault (run (drop at bytes) (Want (frame w o NoBlank k)))
arg_fails bytes at start depth fault h f w o k q =
    subst (Fails bytes fault) (sym (before_arg bytes at start h w o k)) (f (frame w o (h.reads NoBlank).0 k) (frame_opened w o (h.reads NoBlank).0 k ∙ q))

pub digit_tree : (bytes : List ℕ) (at depth d : ℕ) (r : Result (Term × ℕ) TermFault) → SignAt bytes at (Digit d) → NumberAt bytes (at + 1) false d r → TreeAt bytes at depth r
digit_tree bytes at depth d (Ok x) h g = number_tree bytes at depth d x.1 x.0 h g
digit_tree bytes at depth d (Err fault) h g = λ k q. subst (Fails bytes fault) (sym (first_run bytes at d k h)) (g k)

pub minus_tree : (bytes : List ℕ) (at depth : ℕ) (r : Result (Term × ℕ) TermFault) → SignAt bytes at Minus → NegativeAt bytes (at + 1) r → TreeAt bytes at depth r
minus_tree bytes at depth (Ok x) h g = negative_tree bytes at depth x.1 x.0 h g
minus_tree bytes at depth (Err fault) h g = λ k q. subst (Fails bytes fault) (sym (run_step bytes at Minus (Want k) (Negative k) h refl)) (g k)
