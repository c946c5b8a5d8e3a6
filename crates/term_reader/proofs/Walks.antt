-- The machine reads exactly the trees of the grammar, and each state that it comes to can be completed.
use Rattle.std.proofs.Common.{◌≡◌, ◌≢◌, ℕ, ◌+◌, ◌*◌, Bool, true, false, cond, List, [], ◌∷◌, Option, Some, None, MatchOption, option_and_then, refl, sym, ap, ◌∙◌, arith, subst, zero, suc}
use Rattle.event_model.specs.declared.terms.TheConstants.{MOST_ARGUMENTS, MOST_DEPTH}
use Rattle.term_reader.specs.declared.signs.Sign.{Sign}
use Rattle.term_reader.specs.declared.signs.Sign.TheVariants.{Space, Tab, Digit, Lower, Upper, Open, Close, Comma, Quote, Backslash, Minus, Control, High}
use Rattle.term_reader.specs.declared.signs.Status.{Status}
use Rattle.term_reader.specs.declared.signs.Status.TheVariants.{Wrong, Whole, Needs}
use Rattle.term_reader.specs.declared.signs.Need.{Need}
use Rattle.term_reader.specs.Signs.{sign_of, signs, is_plain, is_escape, needs, first_bytes, look_up, status_first, status_next, status_more, fits_need, is_whole}
use Rattle.term_reader.specs.Grammar.{Blanks, Blanks.NoBlank, Blanks.MoreSpace, Blanks.MoreTab, Digits, Digits.OneDigit, Digits.MoreDigit, Word, Word.OneLower, Word.MoreLower, Word.MoreUpper, Word.MoreNumber}
use Rattle.term_reader.specs.Grammar.{Bytes, Bytes.OneByte, Bytes.MoreByte, Letter.Plain, Letter.Escape, Letter.Wide, Letters, Letters.NoLetter, Letters.MoreLetter, Tree, Tree.Number, Tree.Name, Tree.Text, Tree.Comp, Args, Args.OneArg, Args.MoreArg, Wanted, Wanted.AnyTerm, Wanted.AnAtom}
use Rattle.term_reader.specs.Grammar.{status, fits, in_range, has_room, number, width, blanks, digits, word, bytes, letters, minus, tree, args, FineLetters, FineTree, FineArgs, Suits, Fine}
use Rattle.term_reader.specs.Machine.{Stack, Stack.Top, Stack.First, Stack.Next, opened, guard, blank, behind, character, step, said, stack, so_far, start}
use Rattle.term_reader.specs.Machine.{State, State.Begin, State.Want, State.InWord, State.Negative, State.InNumber, State.InText, State.InEscape, State.InWide, State.Behind}
use Rattle.std.specs.Prelude.{nat_lt, nat_le}
use Rattle.std.proofs.lemmas.Bool.{le-leb, leb-true, lt-ltb, ltb-true, and_from}

-- A step keeps all that was read.

abbrev pub Keeps : List Sign → List Sign → Option State → Type 0
Keeps was rest s = MatchOption s (Unit {0}) (λ s. was ≡ so_far s rest)

Keeps-guard : (was rest : List Sign) (b : Bool) (s : State) → was ≡ so_far s rest → Keeps was rest (guard b s)
Keeps-guard was rest true s e = e
Keeps-guard was rest false s e = tt

behind_keeps : (lim : Bool) (k : Stack) (t : Tree) (c : Blanks) (s : Sign) (rest : List Sign) → Keeps (stack k (tree t (blanks c (s ∷ rest)))) rest (behind lim k t c s)
behind_keeps lim (Top a) t c s rest = tt
behind_keeps lim (First w b k) t c Space rest = refl
behind_keeps lim (First w b k) t c Tab rest = refl
behind_keeps lim (First w b k) t c Comma rest = refl
behind_keeps lim (First w b k) t c Close rest = refl
behind_keeps lim (First w b k) t c s rest = tt
behind_keeps lim (Next w xs b k) t c Space rest = refl
behind_keeps lim (Next w xs b k) t c Tab rest = refl
behind_keeps lim (Next w xs b k) t c Comma rest = Keeps-guard _ rest _ (Want (Next w (MoreArg xs b t c) NoBlank k)) refl
behind_keeps lim (Next w xs b k) t c Close rest = refl
behind_keeps lim (Next w xs b k) t c s rest = tt

character_keeps : (l : Letters) (bs : Bytes) (k : Stack) (s : Status) (rest : List Sign) → Keeps (stack k (Quote ∷ letters l (bytes bs rest))) rest (character l bs k s)
character_keeps l bs k Wrong rest = tt
character_keeps l bs k Whole rest = refl
character_keeps l bs k (Needs n) rest = refl

space_keeps : (k : Stack) (rest : List Sign) → Keeps (stack k (Space ∷ rest)) rest (blank k MoreSpace)
space_keeps (Top a) rest = tt
space_keeps (First w b k) rest = refl
space_keeps (Next w xs b k) rest = refl

tab_keeps : (k : Stack) (rest : List Sign) → Keeps (stack k (Tab ∷ rest)) rest (blank k MoreTab)
tab_keeps (Top a) rest = tt
tab_keeps (First w b k) rest = refl
tab_keeps (Next w xs b k) rest = refl

pub step_keeps : (lim : Bool) (s : State) (x : Sign) (rest : List Sign) → Keeps (so_far s (x ∷ rest)) rest (step lim s x)
step_keeps lim Begin (Lower x) rest = refl
step_keeps lim Begin s rest = tt
step_keeps lim (Want k) Space rest = space_keeps k rest
step_keeps lim (Want k) Tab rest = tab_keeps k rest
step_keeps lim (Want k) (Lower x) rest = refl
step_keeps lim (Want k) (Digit d) rest = Keeps-guard _ rest _ (InNumber false (OneDigit d) k) refl
step_keeps lim (Want k) Minus rest = refl
step_keeps lim (Want k) Quote rest = refl
step_keeps lim (Want k) s rest = tt
step_keeps lim (Negative k) (Digit d) rest = Keeps-guard _ rest _ (InNumber true (OneDigit d) k) refl
step_keeps lim (Negative k) s rest = tt
step_keeps lim (InNumber m ds k) (Digit d) rest = Keeps-guard _ rest _ (InNumber m (MoreDigit ds d) k) refl
step_keeps lim (InNumber m ds k) s rest = behind_keeps lim k (Number m ds) NoBlank s rest
step_keeps lim (InWord w k) (Lower x) rest = refl
step_keeps lim (InWord w k) (Upper x) rest = refl
step_keeps lim (InWord w k) (Digit x) rest = refl
step_keeps lim (InWord w k) Open rest = Keeps-guard _ rest _ (Want (First w NoBlank k)) refl
step_keeps lim (InWord w k) s rest = behind_keeps lim k (Name w) NoBlank s rest
step_keeps lim (InText l k) Quote rest = refl
step_keeps lim (InText l k) Backslash rest = refl
step_keeps lim (InText l k) (High x) rest = character_keeps l (OneByte x) k (status (OneByte x)) rest
step_keeps lim (InText l k) s rest = Keeps-guard _ rest (is_plain s) (InText (MoreLetter l (Plain s)) k) refl
step_keeps lim (InEscape l k) s rest = Keeps-guard _ rest (is_escape s) (InText (MoreLetter l (Escape s)) k) refl
step_keeps lim (InWide l bs k) (High x) rest = character_keeps l (MoreByte bs x) k (status (MoreByte bs x)) rest
step_keeps lim (InWide l bs k) s rest = tt
step_keeps lim (Behind t k c) s rest = behind_keeps lim k t c s rest

-- The states that a list of signs comes to are within the limits.

-- a number or a text may stand here
abbrev pub IsOpen : Stack → Type 0
IsOpen (Top AnAtom) = ⊥
IsOpen k = Unit {0}

abbrev pub Held : Stack → Tree → Type 0
Held (Top a) t = Suits a t
Held k t = Unit {0}

-- outside all brackets no blank is read
abbrev pub Bare : Stack → Blanks → Type 0
Bare (Top a) NoBlank = Unit {0}
Bare (Top a) b = ⊥
Bare k b = Unit {0}

abbrev pub FineStack : Bool → Wanted → Stack → Type 0
FineStack lim a (Top b) = a ≡ b
FineStack lim a (First w b k) = (has_room lim MOST_DEPTH (opened k) ≡ true) × FineStack lim a k
FineStack lim a (Next w xs b k) = (has_room lim MOST_DEPTH (opened k) ≡ true) × FineStack lim a k × FineArgs lim xs (opened k + 1) × (has_room lim MOST_ARGUMENTS (width xs) ≡ true)

abbrev pub IsNeeds : Status → Type 0
IsNeeds (Needs n) = Unit {0}
IsNeeds s = ⊥

abbrev pub FineState : Bool → Wanted → State → Type 0
FineState lim a Begin = a ≡ AnAtom
FineState lim a (Want k) = IsOpen k × FineStack lim a k
FineState lim a (InWord w k) = FineStack lim a k
FineState lim a (Negative k) = IsOpen k × FineStack lim a k
FineState lim a (InNumber m ds k) = IsOpen k × FineStack lim a k × (in_range lim m (number ds) ≡ true)
FineState lim a (InText l k) = IsOpen k × FineStack lim a k × FineLetters l
FineState lim a (InEscape l k) = IsOpen k × FineStack lim a k × FineLetters l
FineState lim a (InWide l bs k) = IsOpen k × FineStack lim a k × FineLetters l × IsNeeds (status bs)
FineState lim a (Behind t k c) = Held k t × Bare k c × FineStack lim a k × FineTree lim t (opened k)

pub held_open : (k : Stack) (t : Tree) → IsOpen k → Held k t
held_open (Top AnyTerm) t h = tt
held_open (Top AnAtom) t h = absurd h
held_open (First w b k) t h = tt
held_open (Next w xs b k) t h = tt

pub held_name : (k : Stack) (w : Word) → Held k (Name w)
held_name (Top AnyTerm) w = tt
held_name (Top AnAtom) w = tt
held_name (First v b k) w = tt
held_name (Next v xs b k) w = tt

held_comp : (k : Stack) (w : Word) (xs : Args) → Held k (Comp w xs)
held_comp (Top AnyTerm) w xs = tt
held_comp (Top AnAtom) w xs = tt
held_comp (First v b k) w xs = tt
held_comp (Next v ys b k) w xs = tt

pub bare : (k : Stack) → Bare k NoBlank
bare (Top a) = tt
bare (First w b k) = tt
bare (Next w xs b k) = tt

abbrev pub Fines : Bool → Wanted → Option State → Type 0
Fines lim a s = MatchOption s (Unit {0}) (FineState lim a)

Fines-guard : (lim : Bool) (a : Wanted) (b : Bool) (s : State) → (b ≡ true → FineState lim a s) → Fines lim a (guard b s)
Fines-guard lim a true s h = h refl
Fines-guard lim a false s h = tt

room_first : (lim : Bool) → has_room lim MOST_ARGUMENTS 1 ≡ true
room_first true = refl
room_first false = refl

behind_fine : (lim : Bool) (a : Wanted) (k : Stack) (t : Tree) (c : Blanks) (s : Sign) → FineStack lim a k → FineTree lim t (opened k) → Fines lim a (behind lim k t c s)
behind_fine lim a (Top b) t c s f h = tt
behind_fine lim a (First w b k) t c Space f h = (tt, tt, f, h)
behind_fine lim a (First w b k) t c Tab f h = (tt, tt, f, h)
behind_fine lim a (First w b k) t c Comma f h = (tt, (f.0, f.1, h, room_first lim))
behind_fine lim a (First w b k) t c Close f h = (held_comp k w (OneArg b t c), bare k, f.1, (f.0, h))
behind_fine lim a (First w b k) t c s f h = tt
behind_fine lim a (Next w xs b k) t c Space f h = (tt, tt, f, h)
behind_fine lim a (Next w xs b k) t c Tab f h = (tt, tt, f, h)
behind_fine lim a (Next w xs b k) t c Comma f h = Fines-guard lim a _ _ (λ e. (tt, (f.0, f.1, (f.2, f.3, h), e)))
behind_fine lim a (Next w xs b k) t c Close f h = (held_comp k w (MoreArg xs b t c), bare k, f.1, (f.0, (f.2, f.3, h)))
behind_fine lim a (Next w xs b k) t c s f h = tt

blank_fine : (lim : Bool) (a : Wanted) (k : Stack) (g : Blanks → Blanks) → FineStack lim a k → Fines lim a (blank k g)
blank_fine lim a (Top b) g f = tt
blank_fine lim a (First w b k) g f = (tt, f)
blank_fine lim a (Next w xs b k) g f = (tt, f)

character_fine : (lim : Bool) (a : Wanted) (l : Letters) (bs : Bytes) (k : Stack) (s : Status) → s ≡ status bs → IsOpen k → FineStack lim a k → FineLetters l → Fines lim a (character l bs k s)
character_fine lim a l bs k Wrong e i f h = tt
character_fine lim a l bs k Whole e i f h = (i, f, (h, sym (ap is_whole e)))
character_fine lim a l bs k (Needs n) e i f h = (i, f, h, subst IsNeeds e tt)

pub step_fine : (lim : Bool) (a : Wanted) (s : State) (x : Sign) → FineState lim a s → Fines lim a (step lim s x)
step_fine lim a Begin (Lower x) h = h
step_fine lim a Begin s h = tt
step_fine lim a (Want k) Space h = blank_fine lim a k MoreSpace h.1
step_fine lim a (Want k) Tab h = blank_fine lim a k MoreTab h.1
step_fine lim a (Want k) (Lower x) h = h.1
step_fine lim a (Want k) (Digit d) h = Fines-guard lim a _ (InNumber false (OneDigit d) k) (λ e. (h.0, h.1, e))
step_fine lim a (Want k) Minus h = h
step_fine lim a (Want k) Quote h = (h.0, h.1, tt)
step_fine lim a (Want k) s h = tt
step_fine lim a (Negative k) (Digit d) h = Fines-guard lim a _ (InNumber true (OneDigit d) k) (λ e. (h.0, h.1, e))
step_fine lim a (Negative k) s h = tt
step_fine lim a (InNumber m ds k) (Digit d) h = Fines-guard lim a _ (InNumber m (MoreDigit ds d) k) (λ e. (h.0, h.1, e))
step_fine lim a (InNumber m ds k) s h = behind_fine lim a k (Number m ds) NoBlank s h.1 h.2
step_fine lim a (InWord w k) (Lower x) h = h
step_fine lim a (InWord w k) (Upper x) h = h
step_fine lim a (InWord w k) (Digit x) h = h
step_fine lim a (InWord w k) Open h = Fines-guard lim a _ (Want (First w NoBlank k)) (λ e. (tt, (e, h)))
step_fine lim a (InWord w k) s h = behind_fine lim a k (Name w) NoBlank s h tt
step_fine lim a (InText l k) Quote h = (held_open k (Text l) h.0, bare k, h.1, h.2)
step_fine lim a (InText l k) Backslash h = h
step_fine lim a (InText l k) (High x) h = character_fine lim a l (OneByte x) k (status (OneByte x)) refl h.0 h.1 h.2
step_fine lim a (InText l k) s h = Fines-guard lim a (is_plain s) (InText (MoreLetter l (Plain s)) k) (λ e. (h.0, h.1, (h.2, e)))
step_fine lim a (InEscape l k) s h = Fines-guard lim a (is_escape s) (InText (MoreLetter l (Escape s)) k) (λ e. (h.0, h.1, (h.2, e)))
step_fine lim a (InWide l bs k) (High x) h = character_fine lim a l (MoreByte bs x) k (status (MoreByte bs x)) refl h.0 h.1 h.2
step_fine lim a (InWide l bs k) s h = tt
step_fine lim a (Behind t k c) s h = behind_fine lim a k t c s h.2 h.3

-- Each such state can be completed.

abbrev pub Ends : Bool → Wanted → (List Sign → List Sign) → Type 0
Ends lim a was = (more : List ℕ) × (t : Tree) × Fine lim a t × (was (signs more) ≡ tree t [])

stack_ends : (lim : Bool) (a : Wanted) (k : Stack) (t : Tree) (c : Blanks) → Held k t → Bare k c → FineStack lim a k → FineTree lim t (opened k) → Ends lim a (λ r. stack k (tree t (blanks c r)))
unfolding signs
stack_ends lim a (Top b) t NoBlank u v f h = ([], t, subst (λ x. Fine lim x t) (sym f) (u, h), refl)
stack_ends lim a (Top b) t (MoreSpace c) u v f h = absurd v
stack_ends lim a (Top b) t (MoreTab c) u v f h = absurd v
stack_ends lim a (First w b k) t c u v f h =
    let e = stack_ends lim a k (Comp w (OneArg b t c)) NoBlank (held_comp k w (OneArg b t c)) (bare k) f.1 (f.0, h) in
    (41 ∷ e.0, e.1, e.2, e.3)
stack_ends lim a (Next w xs b k) t c u v f h =
    let e = stack_ends lim a k (Comp w (MoreArg xs b t c)) NoBlank (held_comp k w (MoreArg xs b t c)) (bare k) f.1 (f.0, (f.2, f.3, h)) in
    (41 ∷ e.0, e.1, e.2, e.3)

text_ends : (lim : Bool) (a : Wanted) (k : Stack) (l : Letters) → IsOpen k → FineStack lim a k → FineLetters l → Ends lim a (λ r. stack k (Quote ∷ letters l r))
unfolding signs
text_ends lim a k l i f h = let e = stack_ends lim a k (Text l) NoBlank (held_open k (Text l) i) (bare k) f h in (34 ∷ e.0, e.1, e.2, e.3)

-- the range of each next byte has a least one, which is a high one

abbrev HasRange : Status → Type 0
HasRange (Needs n) = (nat_le n.low n.high ≡ true) × (sign_of n.low ≡ High n.low)
HasRange s = Unit {0}

cond_range : (b : Bool) (s u : Status) → HasRange s → HasRange u → HasRange (cond b s u)
cond_range true s u h k = h
cond_range false s u h k = k

abbrev AllRange : List (ℕ × Status) → Type 0
AllRange [] = Unit {0}
AllRange (r ∷ rs) = HasRange r.1 × AllRange rs

look_range : (rs : List (ℕ × Status)) (b : ℕ) → AllRange rs → HasRange (look_up rs b)
look_range [] b h = tt
look_range (r ∷ rs) b h = cond_range (nat_lt b r.0) r.1 (look_up rs b) h.0 (look_range rs b h.1)

first_range : (b : ℕ) → HasRange (status_first b)
first_range b = look_range first_bytes b (tt, ((refl, refl), ((refl, refl), ((refl, refl), ((refl, refl), ((refl, refl), ((refl, refl), ((refl, refl), ((refl, refl), tt)))))))))

next_range : (n : ℕ) → HasRange (status_next n)
next_range zero = tt
next_range (suc n) = (refl, refl)

more_range : (s : Status) (b : ℕ) → HasRange (status_more s b)
more_range Wrong b = tt
more_range Whole b = tt
more_range (Needs n) b = cond_range (fits_need n b) (status_next n.more) Wrong (next_range n.more) tt

range : (bs : Bytes) → HasRange (status bs)
range (OneByte b) = first_range b
range (MoreByte bs b) = more_range (status bs) b

least_fits : (low high more : ℕ) → nat_le low high ≡ true → status_more (needs low high more) low ≡ status_next more
least_fits low high more h = ap (λ x. cond x (status_next more) Wrong) (and_from (nat_le low low) (nat_le low high) (le-leb low low (omega arith)) h)

wide_ends : (lim : Bool) (a : Wanted) (more low high : ℕ) (k : Stack) (l : Letters) (bs : Bytes) → status bs ≡ needs low high more → nat_le low high ≡ true → sign_of low ≡ High low → IsOpen k → FineStack lim a k → FineLetters l → Ends lim a (λ r. stack k (Quote ∷ letters l (bytes bs r)))
unfolding signs
wide_ends lim a zero low high k l bs e r s i f h =
    let whole = ap (λ s. status_more s low) e ∙ least_fits low high zero r in
    let x = text_ends lim a k (MoreLetter l (Wide (MoreByte bs low))) i f (h, ap is_whole whole) in
    (low ∷ x.0, x.1, x.2, ap (λ y. stack k (Quote ∷ letters l (bytes bs (y ∷ signs x.0)))) s ∙ x.3)
wide_ends lim a (suc m) low high k l bs e r s i f h =
    let next = ap (λ s. status_more s low) e ∙ least_fits low high (suc m) r in
    let x = wide_ends lim a m 0x80 0xBF k l (MoreByte bs low) next refl refl i f h in
    (low ∷ x.0, x.1, x.2, ap (λ y. stack k (Quote ∷ letters l (bytes bs (y ∷ signs x.0)))) s ∙ x.3)

wide_ends_by : (lim : Bool) (a : Wanted) (s : Status) (k : Stack) (l : Letters) (bs : Bytes) → status bs ≡ s → IsNeeds s → HasRange s → IsOpen k → FineStack lim a k → FineLetters l → Ends lim a (λ r. stack k (Quote ∷ letters l (bytes bs r)))
wide_ends_by lim a (Needs n) k l bs e y r i f h = wide_ends lim a n.more n.low n.high k l bs e r.0 r.1 i f h
wide_ends_by lim a s k l bs e y r i f h = absurd y

name_ends : (lim : Bool) (a : Wanted) (k : Stack) (w : Word) → FineStack lim a k → Ends lim a (λ r. stack k (word w r))
name_ends lim a k w f = let e = stack_ends lim a k (Name w) NoBlank (held_name k w) (bare k) f tt in (e.0, e.1, e.2, e.3)

in_range_zero : (lim : Bool) → in_range lim true 0 ≡ true
in_range_zero true = refl
in_range_zero false = refl

pub ends : (lim : Bool) (a : Wanted) (s : State) → FineState lim a s → Ends lim a (so_far s)
unfolding signs
ends lim a Begin h = (97 ∷ [], Name (OneLower 97), subst (λ x. Fine lim x (Name (OneLower 97))) (sym h) (tt, tt), refl)
ends lim a (Want k) h = let x = name_ends lim a k (OneLower 97) h.1 in (97 ∷ x.0, x.1, x.2, x.3)
ends lim a (InWord w k) h = name_ends lim a k w h
ends lim a (Negative k) h =
    let x = stack_ends lim a k (Number true (OneDigit 0)) NoBlank (held_open k _ h.0) (bare k) h.1 (in_range_zero lim) in (48 ∷ x.0, x.1, x.2, x.3)
ends lim a (InNumber m ds k) h = stack_ends lim a k (Number m ds) NoBlank (held_open k _ h.0) (bare k) h.1 h.2
ends lim a (InText l k) h = text_ends lim a k l h.0 h.1 h.2
ends lim a (InEscape l k) h = let x = text_ends lim a k (MoreLetter l (Escape Quote)) h.0 h.1 (h.2, refl) in (34 ∷ x.0, x.1, x.2, x.3)
ends lim a (InWide l bs k) h = wide_ends_by lim a (status bs) k l bs refl h.3 (range bs) h.0 h.1 h.2
ends lim a (Behind t k c) h = stack_ends lim a k t c h.0 h.1 h.2 h.3

-- The machine reads each tree of the grammar.

abbrev pub walk : Bool → List Sign → State → Option State
walk lim [] s = Some s
walk lim (x ∷ xs) s = option_and_then (walk lim xs) (step lim s x)

guard_on : (lim : Bool) (b : Bool) (s : State) (rest : List Sign) → b ≡ true → option_and_then (walk lim rest) (guard b s) ≡ walk lim rest s
guard_on lim b s rest e = ap (λ c. option_and_then (walk lim rest) (guard c s)) e

walk_blanks : (lim : Bool) (f : Blanks → State) → ((b : Blanks) → step lim (f b) Space ≡ Some (f (MoreSpace b))) → ((b : Blanks) → step lim (f b) Tab ≡ Some (f (MoreTab b))) → (b : Blanks) (rest : List Sign) → walk lim (blanks b rest) (f NoBlank) ≡ walk lim rest (f b)
walk_blanks lim f p q NoBlank rest = refl
walk_blanks lim f p q (MoreSpace b) rest = walk_blanks lim f p q b (Space ∷ rest) ∙ ap (option_and_then (walk lim rest)) (p b)
walk_blanks lim f p q (MoreTab b) rest = walk_blanks lim f p q b (Tab ∷ rest) ∙ ap (option_and_then (walk lim rest)) (q b)

-- a number in range has its first digits in range
shorter_fits : (m : Bool) (n d : ℕ) → fits m (n * 10 + d) ≡ true → fits m n ≡ true
shorter_fits true n d h = let b = leb-true _ _ h in le-leb _ _ (omega arith)
shorter_fits false n d h = let b = ltb-true _ _ h in lt-ltb _ _ (omega arith)

shorter_in_range : (lim m : Bool) (n d : ℕ) → in_range lim m (n * 10 + d) ≡ true → in_range lim m n ≡ true
shorter_in_range true m n d h = shorter_fits m n d h
shorter_in_range false m n d h = refl

walk_digits : (lim : Bool) (s : State) (m : Bool) (k : Stack) → ((d : ℕ) → step lim s (Digit d) ≡ guard (in_range lim m d) (InNumber m (OneDigit d) k)) → (ds : Digits) (rest : List Sign) → in_range lim m (number ds) ≡ true → walk lim (digits ds rest) s ≡ walk lim rest (InNumber m ds k)
walk_digits lim s m k p (OneDigit d) rest h = ap (option_and_then (walk lim rest)) (p d) ∙ guard_on lim (in_range lim m d) (InNumber m (OneDigit d) k) rest h
walk_digits lim s m k p (MoreDigit ds d) rest h =
    walk_digits lim s m k p ds (Digit d ∷ rest) (shorter_in_range lim m (number ds) d h) ∙ guard_on lim (in_range lim m (number (MoreDigit ds d))) (InNumber m (MoreDigit ds d) k) rest h

walk_number : (lim m : Bool) (ds : Digits) (k : Stack) (rest : List Sign) → in_range lim m (number ds) ≡ true → walk lim (minus m (digits ds rest)) (Want k) ≡ walk lim rest (InNumber m ds k)
walk_number lim true ds k rest h = walk_digits lim (Negative k) true k (λ d. refl) ds rest h
walk_number lim false ds k rest h = walk_digits lim (Want k) false k (λ d. refl) ds rest h

walk_word : (lim : Bool) (s : State) (k : Stack) → ((x : ℕ) → step lim s (Lower x) ≡ Some (InWord (OneLower x) k)) → (w : Word) (rest : List Sign) → walk lim (word w rest) s ≡ walk lim rest (InWord w k)
walk_word lim s k p (OneLower x) rest = ap (option_and_then (walk lim rest)) (p x)
walk_word lim s k p (MoreLower w x) rest = walk_word lim s k p w (Lower x ∷ rest)
walk_word lim s k p (MoreUpper w x) rest = walk_word lim s k p w (Upper x ∷ rest)
walk_word lim s k p (MoreNumber w x) rest = walk_word lim s k p w (Digit x ∷ rest)

pub step_plain : (lim : Bool) (l : Letters) (k : Stack) (s : Sign) → is_plain s ≡ true → step lim (InText l k) s ≡ Some (InText (MoreLetter l (Plain s)) k)
step_plain lim l k Tab h = cc
step_plain lim l k Quote h = cc
step_plain lim l k Backslash h = cc
step_plain lim l k (Control x) h = cc
step_plain lim l k (High x) h = cc
step_plain lim l k s h = refl

needs_of : (s : Status) (x : ℕ) → status_more s x ≢ Wrong → (n : Need) × (s ≡ Needs n)
needs_of Wrong x h = absurd (h refl)
needs_of Whole x h = absurd (h refl)
needs_of (Needs n) x h = (n, refl)

walk_bytes : (lim : Bool) (l : Letters) (k : Stack) (bs : Bytes) (rest : List Sign) → status bs ≢ Wrong → walk lim (bytes bs rest) (InText l k) ≡ option_and_then (walk lim rest) (character l bs k (status bs))
walk_bytes lim l k (OneByte x) rest h = refl
walk_bytes lim l k (MoreByte bs x) rest h =
    let n = needs_of (status bs) x h in
    let e = n.1 in
    walk_bytes lim l k bs (High x ∷ rest) (λ w. cc) ∙ ap (λ s. option_and_then (walk lim (High x ∷ rest)) (character l bs k s)) n.1

whole_is : (s : Status) → is_whole s ≡ true → s ≡ Whole
whole_is Wrong h = cc
whole_is Whole h = refl
whole_is (Needs n) h = cc

walk_letters : (lim : Bool) (l : Letters) (k : Stack) (rest : List Sign) → FineLetters l → walk lim (letters l rest) (InText NoLetter k) ≡ walk lim rest (InText l k)
walk_letters lim NoLetter k rest h = refl
walk_letters lim (MoreLetter l (Plain s)) k rest h = walk_letters lim l k (s ∷ rest) h.0 ∙ ap (option_and_then (walk lim rest)) (step_plain lim l k s h.1)
walk_letters lim (MoreLetter l (Escape s)) k rest h = walk_letters lim l k (Backslash ∷ s ∷ rest) h.0 ∙ guard_on lim (is_escape s) (InText (MoreLetter l (Escape s)) k) rest h.1
walk_letters lim (MoreLetter l (Wide bs)) k rest h =
    let w = whole_is (status bs) h.1 in
    walk_letters lim l k (bytes bs rest) h.0 ∙ walk_bytes lim l k bs rest (λ e. cc) ∙ ap (λ s. option_and_then (walk lim rest) (character l bs k s)) w

-- what may stand behind a term, and behind the blanks behind it
abbrev pub IsDelim : Sign → Type 0
IsDelim Space = Unit {0}
IsDelim Tab = Unit {0}
IsDelim Comma = Unit {0}
IsDelim Close = Unit {0}
IsDelim s = ⊥

abbrev pub IsEnd : Sign → Type 0
IsEnd Comma = Unit {0}
IsEnd Close = Unit {0}
IsEnd s = ⊥

step_number : (lim m : Bool) (ds : Digits) (k : Stack) (s : Sign) → IsDelim s → step lim (InNumber m ds k) s ≡ behind lim k (Number m ds) NoBlank s
step_number lim m ds k (Digit d) h = absurd h
step_number lim m ds k s h = refl

step_word : (lim : Bool) (w : Word) (k : Stack) (s : Sign) → IsDelim s → step lim (InWord w k) s ≡ behind lim k (Name w) NoBlank s
step_word lim w k (Lower x) h = absurd h
step_word lim w k (Upper x) h = absurd h
step_word lim w k (Digit x) h = absurd h
step_word lim w k Open h = absurd h
step_word lim w k s h = refl

-- blanks behind a term
over : (lim : Bool) (x : List Sign → Option State) (k : Stack) (t : Tree) → ((c : Blanks) → behind lim k t c Space ≡ Some (Behind t k (MoreSpace c))) → ((c : Blanks) → behind lim k t c Tab ≡ Some (Behind t k (MoreTab c))) → ((s : Sign) (rest : List Sign) → IsDelim s → x (s ∷ rest) ≡ option_and_then (walk lim rest) (behind lim k t NoBlank s)) → (c : Blanks) (s : Sign) (rest : List Sign) → IsDelim s → x (blanks c (s ∷ rest)) ≡ option_and_then (walk lim rest) (behind lim k t c s)
over lim x k t u v p NoBlank s rest h = p s rest h
over lim x k t u v p (MoreSpace c) s rest h = over lim x k t u v p c Space (s ∷ rest) tt ∙ ap (option_and_then (walk lim (s ∷ rest))) (u c)
over lim x k t u v p (MoreTab c) s rest h = over lim x k t u v p c Tab (s ∷ rest) tt ∙ ap (option_and_then (walk lim (s ∷ rest))) (v c)

abbrev behind_args : Bool → Word → Args → Stack → Sign → Option State
behind_args lim w xs k Comma = guard (has_room lim MOST_ARGUMENTS (width xs)) (Want (Next w xs NoBlank k))
behind_args lim w xs k Close = Some (Behind (Comp w xs) k NoBlank)
behind_args lim w xs k s = None

first_args : (lim : Bool) (w : Word) (b : Blanks) (k : Stack) (t : Tree) (c : Blanks) (s : Sign) → IsEnd s → behind lim (First w b k) t c s ≡ behind_args lim w (OneArg b t c) k s
first_args lim w b k t c Comma h = ap (λ x. guard x (Want (Next w (OneArg b t c) NoBlank k))) (sym (room_first lim))
first_args lim w b k t c Close h = refl
first_args lim w b k t c s h = absurd h

next_args : (lim : Bool) (w : Word) (xs : Args) (b : Blanks) (k : Stack) (t : Tree) (c : Blanks) (s : Sign) → IsEnd s → behind lim (Next w xs b k) t c s ≡ behind_args lim w (MoreArg xs b t c) k s
next_args lim w xs b k t c Comma h = refl
next_args lim w xs b k t c Close h = refl
next_args lim w xs b k t c s h = absurd h

end_delim : (s : Sign) → IsEnd s → IsDelim s
end_delim Comma h = tt
end_delim Close h = tt
end_delim s h = absurd h

mutual
  walk_tree : (lim : Bool) (t : Tree) (k : Stack) (s : Sign) (rest : List Sign) → FineTree lim t (opened k) → IsDelim s → walk lim (tree t (s ∷ rest)) (Want k) ≡ option_and_then (walk lim rest) (behind lim k t NoBlank s)
  walk_tree lim (Number m ds) k s rest f h = walk_number lim m ds k (s ∷ rest) f ∙ ap (option_and_then (walk lim rest)) (step_number lim m ds k s h)
  walk_tree lim (Name w) k s rest f h = walk_word lim (Want k) k (λ x. refl) w (s ∷ rest) ∙ ap (option_and_then (walk lim rest)) (step_word lim w k s h)
  walk_tree lim (Text l) k s rest f h = walk_letters lim l k (Quote ∷ s ∷ rest) f
  walk_tree lim (Comp w xs) k s rest f h =
      walk_word lim (Want k) k (λ x. refl) w (Open ∷ args xs (Close ∷ s ∷ rest))
      ∙ guard_on lim (has_room lim MOST_DEPTH (opened k)) (Want (First w NoBlank k)) (args xs (Close ∷ s ∷ rest)) f.0
      ∙ walk_args lim xs w k Close (s ∷ rest) f.1 tt

  walk_args : (lim : Bool) (xs : Args) (w : Word) (k : Stack) (s : Sign) (rest : List Sign) → FineArgs lim xs (opened k + 1) → IsEnd s → walk lim (args xs (s ∷ rest)) (Want (First w NoBlank k)) ≡ option_and_then (walk lim rest) (behind_args lim w xs k s)
  walk_args lim (OneArg b t c) w k s rest f h =
      walk_blanks lim (λ b. Want (First w b k)) (λ b. refl) (λ b. refl) b (tree t (blanks c (s ∷ rest)))
      ∙ over lim (λ r. walk lim (tree t r) (Want (First w b k))) (First w b k) t (λ c. refl) (λ c. refl) (λ s r d. walk_tree lim t (First w b k) s r f d) c s rest (end_delim s h)
      ∙ ap (option_and_then (walk lim rest)) (first_args lim w b k t c s h)
  walk_args lim (MoreArg xs b t c) w k s rest f h =
      walk_args lim xs w k Comma (blanks b (tree t (blanks c (s ∷ rest)))) f.0 tt
      ∙ guard_on lim (has_room lim MOST_ARGUMENTS (width xs)) (Want (Next w xs NoBlank k)) (blanks b (tree t (blanks c (s ∷ rest)))) f.1
      ∙ walk_blanks lim (λ b. Want (Next w xs b k)) (λ b. refl) (λ b. refl) b (tree t (blanks c (s ∷ rest)))
      ∙ over lim (λ r. walk lim (tree t r) (Want (Next w xs b k))) (Next w xs b k) t (λ c. refl) (λ c. refl) (λ s r d. walk_tree lim t (Next w xs b k) s r f.2 d) c s rest (end_delim s h)
      ∙ ap (option_and_then (walk lim rest)) (next_args lim w xs b k t c s h)

walk_opened : (lim : Bool) (w : Word) (xs : Args) (k : Stack) (rest : List Sign) → FineTree lim (Comp w xs) (opened k) → walk lim (Open ∷ args xs (Close ∷ rest)) (InWord w k) ≡ walk lim rest (Behind (Comp w xs) k NoBlank)
walk_opened lim w xs k rest f = guard_on lim (has_room lim MOST_DEPTH (opened k)) (Want (First w NoBlank k)) (args xs (Close ∷ rest)) f.0 ∙ walk_args lim xs w k Close rest f.1 tt

-- a whole tree is read, whatever comes behind it
abbrev pub behind_tree : Tree → Wanted → State
behind_tree (Number m ds) a = InNumber m ds (Top a)
behind_tree (Name w) a = InWord w (Top a)
behind_tree t a = Behind t (Top a) NoBlank

pub said_tree : (t : Tree) (a : Wanted) → said (behind_tree t a) ≡ Some t
said_tree (Number m ds) a = refl
said_tree (Name w) a = refl
said_tree (Text l) a = refl
said_tree (Comp w xs) a = refl

pub tree_walks : (lim : Bool) (a : Wanted) (t : Tree) (rest : List Sign) → Fine lim a t → walk lim (tree t rest) (start a) ≡ walk lim rest (behind_tree t a)
tree_walks lim AnyTerm (Number m ds) rest f = walk_number lim m ds (Top AnyTerm) rest f.1
tree_walks lim AnyTerm (Name w) rest f = walk_word lim (Want (Top AnyTerm)) (Top AnyTerm) (λ x. refl) w rest
tree_walks lim AnyTerm (Text l) rest f = walk_letters lim l (Top AnyTerm) (Quote ∷ rest) f.1
tree_walks lim AnyTerm (Comp w xs) rest f = walk_word lim (Want (Top AnyTerm)) (Top AnyTerm) (λ x. refl) w (Open ∷ args xs (Close ∷ rest)) ∙ walk_opened lim w xs (Top AnyTerm) rest f.1
tree_walks lim AnAtom (Number m ds) rest f = absurd f.0
tree_walks lim AnAtom (Name w) rest f = walk_word lim Begin (Top AnAtom) (λ x. refl) w rest
tree_walks lim AnAtom (Text l) rest f = absurd f.0
tree_walks lim AnAtom (Comp w xs) rest f = walk_word lim Begin (Top AnAtom) (λ x. refl) w (Open ∷ args xs (Close ∷ rest)) ∙ walk_opened lim w xs (Top AnAtom) rest f.1
