-- What is left of a line behind a state of the machine, in the grammar's words.
use Rattle.std.proofs.Common.{◌≡◌, ◌⊎◌, ℕ, ◌+◌, ◌*◌, ◌<◌, ◌==◌, inl, inr, Bool, true, false, cond, List, [], ◌∷◌, ◌++◌, Option, Some, None, MatchOption, option_and_then, option_map, refl, sym, ap, ◌∙◌, arith, subst, append_assoc, append-nil}
use Rattle.std.specs.Prelude.{nat_lt}
use Rattle.std.specs.List.{list_all}
use Rattle.std.specs.Char.{digit_value}
use Rattle.std.specs.Str.Parse.{digits_value_after}
use Rattle.std.proofs.lemmas.Bool.{and_from, eqb-true, ltb-true}
use Rattle.event_model.specs.Bytes.{bang, stop}
use Rattle.event_model.specs.declared.atoms.Atom.{Atom}
use Rattle.event_model.specs.declared.events.TheConstants.{TIME_LIMIT}
use Rattle.term_reader.specs.Signs.{sign_of, signs}
use Rattle.term_reader.specs.Grammar.{Tree, Wanted.AnAtom, atom_value}
use Rattle.term_reader.specs.Machine as atom
use Rattle.term_reader.specs.Machine.{State.Begin}
use Rattle.term_reader.proofs.Walks.{walk}
use Rattle.term_reader.proofs.Places.{said_reads, start_fine}
use Rattle.term_reader.proofs.Found.{leads_walk}
use Rattle.event_reader.specs.declared.parts.Part.{Part}
use Rattle.event_reader.specs.declared.parts.Part.TheVariants.{Blank, Digit, Plus, Minus, Bang, Hash, Stop, Other}
use Rattle.event_reader.specs.EventLines.{Way, Way.Comes, Way.Retracted, When, When.At, When.Between, Written, Written.EmptyLine, Written.EventLine, Written.AdvanceLine, Written.BeginLine, Written.CommitLine}
use Rattle.event_reader.specs.EventLines.{is_blank, is_digit, all_blank, IsGap, IsTime, IsWhen, IsAtom, Marked, OfWord, mark_of, begin_word, commit_word, HasForm}
use Rattle.event_reader.specs.Machine as way
use Rattle.event_reader.specs.Machine.{part_of, Kind, State, State.Front, State.Note, State.Spell, State.Mark, State.Gap, State.Start, State.Digits, State.Wait, State.InAtom, State.End, letter_c, spell, first_of, in_word, behind_time, behind_stop, in_atom, over, atom_on, go, step, accepted}
use Rattle.event_reader.proofs.Tells.{Tells, part_tells}

-- ---- what is left

-- one blank or more, and then what has the property
pub record Gapped (P : List ℕ → Type 0) (xs : List ℕ) : Type 0 where
  pub gap : List ℕ
  pub back : List ℕ
  pub is_gap : IsGap gap
  pub text : xs ≡ gap ++ back
  pub next : P back

-- blanks, and then what has the property
pub record Blanked (P : List ℕ → Type 0) (xs : List ℕ) : Type 0 where
  pub gap : List ℕ
  pub back : List ℕ
  pub blank : all_blank gap ≡ true
  pub text : xs ≡ gap ++ back
  pub next : P back

-- these bytes, and then what has the property
pub record Spelled (P : List ℕ → Type 0) (word xs : List ℕ) : Type 0 where
  pub back : List ℕ
  pub text : xs ≡ word ++ back
  pub next : P back

-- the rest of an atom that begins with front, and blanks
pub record Atomed (w : Way) (when : When) (i : Written) (front xs : List ℕ) : Type 0 where
  pub more : List ℕ
  pub end : List ℕ
  pub atom : Atom
  pub is_atom : IsAtom (front ++ more) atom
  pub end_blank : all_blank end ≡ true
  pub text : xs ≡ more ++ end
  pub says : EventLine w when atom ≡ i

-- a time, and behind it what has the property for it
pub record TimeHere (P : ℕ → List ℕ → Type 0) (xs : List ℕ) : Type 0 where
  pub digits : List ℕ
  pub back : List ℕ
  pub time : ℕ
  pub is_time : IsTime digits time
  pub text : xs ≡ digits ++ back
  pub behind : P time back

-- the rest of a time whose first digits have the value so far, and behind it what has the property for it
pub record Timed (P : ℕ → List ℕ → Type 0) (so_far : ℕ) (xs : List ℕ) : Type 0 where
  pub more : List ℕ
  pub back : List ℕ
  pub time : ℕ
  pub digits : list_all is_digit more ≡ true
  pub value : digits_value_after 10 so_far more ≡ time
  pub small : time < TIME_LIMIT
  pub text : xs ≡ more ++ back
  pub behind : P time back

-- what stands behind the second time of an event
abbrev pub BehindSecond : Way → ℕ → Written → ℕ → List ℕ → Type 0
BehindSecond w start i time xs = Gapped (Atomed w (Between start time) i []) xs

abbrev pub stops : List ℕ
stops = stop ∷ stop ∷ []

-- what stands behind a time
abbrev pub Behind : Kind → Written → ℕ → List ℕ → Type 0
Behind (way.Kind.OfEvent w) i time xs = Gapped (Atomed w (At time) i []) xs ⊎ Spelled (TimeHere (BehindSecond w time i)) stops xs
Behind (way.Kind.OfSecond w start) i time xs = BehindSecond w start i time xs
Behind way.Kind.OfTime i time xs = (all_blank xs ≡ true) × (AdvanceLine time ≡ i)

abbrev pub Rest : State → Written → List ℕ → Type 0
Rest Front i xs = HasForm xs i
Rest Note i xs = EmptyLine ≡ i
Rest (Spell c bytes s) i xs = Spelled (Rest s i) (c ∷ bytes) xs
Rest (Mark k) i xs = Gapped (TimeHere (Behind k i)) xs
Rest (Gap k) i xs = Blanked (TimeHere (Behind k i)) xs
Rest (Start k) i xs = TimeHere (Behind k i) xs
Rest (Digits k time) i xs = time < TIME_LIMIT → Timed (Behind k i) time xs
Rest (Wait w when) i xs = Blanked (Atomed w when i []) xs
Rest (InAtom w when s) i xs = (front : List ℕ) → walk true (signs front) Begin ≡ Some s → Atomed w when i front xs
Rest (End j) i xs = (all_blank xs ≡ true) × (j ≡ i)

-- ---- one byte more in front

blanked_more : (P : List ℕ → Type 0) (b : ℕ) (xs : List ℕ) → is_blank b ≡ true → Blanked P xs → Blanked P (b ∷ xs)
blanked_more P b xs h r = record { gap = b ∷ r.gap; back = r.back; blank = and_from _ _ h r.blank; text = ap (λ y. b ∷ y) r.text; next = r.next }

blanked_gap : (P : List ℕ → Type 0) (b : ℕ) (xs : List ℕ) → is_blank b ≡ true → Blanked P xs → Gapped P (b ∷ xs)
blanked_gap P b xs h r = record { gap = b ∷ r.gap; back = r.back; is_gap = record { blank = and_from _ _ h r.blank; some = λ e. cc }; text = ap (λ y. b ∷ y) r.text; next = r.next }

blanked_none : (P : List ℕ → Type 0) (xs : List ℕ) → P xs → Blanked P xs
blanked_none P xs p = record { gap = []; back = xs; blank = refl; text = refl; next = p }

marked_more : (mark b : ℕ) (xs back : List ℕ) → is_blank b ≡ true → Marked mark xs back → Marked mark (b ∷ xs) back
marked_more mark b xs back h m = record { front = b ∷ m.front; gap = m.gap; front_blank = and_from _ _ h m.front_blank; is_gap = m.is_gap; text = ap (λ y. b ∷ y) m.text }

word_more : (word : List ℕ) (b : ℕ) (xs : List ℕ) → is_blank b ≡ true → OfWord word xs → OfWord word (b ∷ xs)
word_more word b xs h r = record { front = b ∷ r.front; end = r.end; front_blank = and_from _ _ h r.front_blank; end_blank = r.end_blank; text = ap (λ y. b ∷ y) r.text }

front_more : (b : ℕ) (xs : List ℕ) (i : Written) → is_blank b ≡ true → HasForm xs i → HasForm (b ∷ xs) i
front_more b xs EmptyLine h (inl e) = inl (and_from _ _ h e)
front_more b xs EmptyLine h (inr c) = inr (record { front = b ∷ c.front; back = c.back; front_blank = and_from _ _ h c.front_blank; text = ap (λ y. b ∷ y) c.text })
front_more b xs (EventLine w when a) h r = record {
  times = r.times;
  gap = r.gap;
  words = r.words;
  end = r.end;
  marked = marked_more (mark_of w) b xs _ h r.marked;
  is_when = r.is_when;
  is_gap = r.is_gap;
  is_atom = r.is_atom;
  end_blank = r.end_blank;
}
front_more b xs (AdvanceLine time) h r = record { digits = r.digits; end = r.end; marked = marked_more bang b xs _ h r.marked; is_time = r.is_time; end_blank = r.end_blank }
front_more b xs BeginLine h r = word_more _ b xs h r
front_more b xs CommitLine h r = word_more _ b xs h r

-- ---- a mark in front

event_of : (w : Way) (when : When) (i : Written) (b : ℕ) (xs gap times back : List ℕ) → b ≡ mark_of w → IsGap gap → xs ≡ gap ++ (times ++ back) → IsWhen times when
    → Gapped (Atomed w when i []) back → HasForm (b ∷ xs) i
event_of w when i b xs gap times back h is_gap text is_when g =
    let a = g.next in
    subst (HasForm (b ∷ xs)) a.says (record {
      times = times;
      gap = g.gap;
      words = a.more;
      end = a.end;
      marked = record {
        front = [];
        gap = gap;
        front_blank = refl;
        is_gap = is_gap;
        text = ap (λ y. y ∷ xs) h ∙ ap (λ y. mark_of w ∷ y) (text ∙ ap (λ y. gap ++ (times ++ y)) (g.text ∙ ap (λ y. g.gap ++ y) a.text));
      };
      is_when = is_when;
      is_gap = g.is_gap;
      is_atom = a.is_atom;
      end_blank = a.end_blank;
    })

event_form : (w : Way) (i : Written) (b : ℕ) (xs : List ℕ) → b ≡ mark_of w → Gapped (TimeHere (Behind (way.Kind.OfEvent w) i)) xs → HasForm (b ∷ xs) i
event_form w i b xs h r = at r.next.behind
  where
    at : Behind (way.Kind.OfEvent w) i r.next.time r.next.back → HasForm (b ∷ xs) i
    at (inl g) = event_of w (At r.next.time) i b xs r.gap r.next.digits r.next.back h r.is_gap (r.text ∙ ap (λ y. r.gap ++ y) r.next.text) r.next.is_time g
    at (inr s) =
        let first = r.next in
        let second = s.next in
        let times : List ℕ = first.digits ++ stop ∷ stop ∷ second.digits in
        let text : first.back ≡ stop ∷ stop ∷ second.digits ++ second.back = s.text ∙ ap (λ y. stop ∷ stop ∷ y) second.text in
        event_of w (Between first.time second.time) i b xs r.gap times second.back h r.is_gap (
        r.text ∙ ap (λ y. r.gap ++ y) (first.text ∙ ap (λ y. first.digits ++ y) text ∙ sym (append_assoc first.digits (stop ∷ stop ∷ second.digits) second.back))
        )
        (record { first = first.digits; second = second.digits; is_first = first.is_time; is_second = second.is_time; text = refl })
        second.behind

time_form : (i : Written) (xs : List ℕ) → Gapped (TimeHere (Behind way.Kind.OfTime i)) xs → HasForm (bang ∷ xs) i
time_form i xs r =
    let t = r.next in
    subst (HasForm (bang ∷ xs)) t.behind.1 (record {
      digits = t.digits;
      end = t.back;
      marked = record { front = []; gap = r.gap; front_blank = refl; is_gap = r.is_gap; text = ap (λ y. bang ∷ y) (r.text ∙ ap (λ y. r.gap ++ y) t.text) };
      is_time = t.is_time;
      end_blank = t.behind.0;
    })

-- ---- atoms

-- where the machine of atoms says a tree stands an atom
atom_there : (front : List ℕ) (s : atom.State) (t : Tree) → walk true (signs front) Begin ≡ Some s → atom.said s ≡ Some t → IsAtom front (atom_value t)
unfolding signs
atom_there front s t w e =
    let l = leads_walk AnAtom front Begin s (start_fine AnAtom) w in
    let r = said_reads AnAtom s t l.fine e in
    record { written = t; fine = r.0; text = sym r.1 ∙ sym (l.reads []) ∙ ap signs (append-nil front); says = refl }

pub walk_more : (front : List ℕ) (b : ℕ) (from s to : atom.State) → walk true (signs front) from ≡ Some s → atom.step true s (sign_of b) ≡ Some to → walk true (signs (front ++ b ∷ [])) from ≡ Some to
unfolding signs
walk_more [] b from s to w e = ap (option_and_then (walk true [])) (ap (λ o. option_and_then (λ s. atom.step true s (sign_of b)) o) w ∙ e)
walk_more (c ∷ front) b from s to w e = at (atom.step true from (sign_of c)) w (walk_more front b)
  where
    at : (o : Option atom.State) → option_and_then (walk true (signs front)) o ≡ Some s → ((u s to : atom.State) → walk true (signs front) u ≡ Some s → atom.step true s (sign_of b) ≡ Some to → walk true (signs (front ++ b ∷ [])) u ≡ Some to) → option_and_then (walk true (signs (front ++ b ∷ []))) o ≡ Some to
    at None w h = cc
    at (Some u) w h = h u s to w e

-- ---- a step of the machine

-- what is left behind the step is what was left, with the byte in front
abbrev pub Keeps : ℕ → List ℕ → State → Option State → Type 0
Keeps b xs s o = MatchOption o (Unit {0}) (λ u. (i : Written) → Rest u i xs → Rest s i (b ∷ xs))

keeps_if : (b : ℕ) (xs : List ℕ) (s u : State) (c : Bool) → (c ≡ true → (i : Written) → Rest u i xs → Rest s i (b ∷ xs)) → Keeps b xs s (cond c (Some u) None)
keeps_if b xs s u true h = h refl
keeps_if b xs s u false h = tt

rest_spelled : (bytes : List ℕ) (s : State) (i : Written) (xs : List ℕ) → Rest (spell bytes s) i xs → Spelled (Rest s i) bytes xs
rest_spelled [] s i xs r = record { back = xs; text = refl; next = r }
rest_spelled (c ∷ bytes) s i xs r = r

spelled_more : (b c : ℕ) (bytes : List ℕ) (s : State) (i : Written) (xs : List ℕ) → (b == c) ≡ true → Rest (spell bytes s) i xs → Spelled (Rest s i) (c ∷ bytes) (b ∷ xs)
spelled_more b c bytes s i xs e r =
    let q = rest_spelled bytes s i xs r in
    record { back = q.back; text = ap (λ y. y ∷ xs) (eqb-true b c e) ∙ ap (λ y. c ∷ y) q.text; next = q.next }

word_first : (b : ℕ) (xs word : List ℕ) (w : Written) → ((line : List ℕ) → OfWord word line → HasForm line w) → Keeps b xs Front (first_of word (End w) b)
word_first b xs [] w form = tt
word_first b xs (c ∷ bytes) w form = keeps_if b xs Front (spell bytes (End w)) (b == c) (λ e i r.
    let q = spelled_more b c bytes (End w) i xs e r in
    subst (HasForm (b ∷ xs)) q.next.1 (form (b ∷ xs) (record { front = []; end = q.back; front_blank = refl; end_blank = q.next.0; text = q.text })))

words : (b : ℕ) (xs : List ℕ) → Keeps b xs Front (in_word b)
words b xs =
    elim (b == letter_c) as (λ t. Keeps b xs Front (cond t (first_of commit_word (End CommitLine) b) (first_of begin_word (End BeginLine) b)))
    [ true ↦ word_first b xs commit_word CommitLine (λ line r. r) | false ↦ word_first b xs begin_word BeginLine (λ line r. r) ]

digit_first : (P : ℕ → List ℕ → Type 0) (b d : ℕ) (xs : List ℕ) → Tells b (Digit d) → (d < TIME_LIMIT → Timed P d xs) → TimeHere P (b ∷ xs)
digit_first P b d xs h r =
    let t = r (omega (arith, h.2)) in
    let z : 0 * 10 + digit_value b ≡ d = omega (arith, h.1) in
    record {
      digits = b ∷ t.more;
      back = t.back;
      time = t.time;
      is_time = record { digits = and_from _ _ h.0 t.digits; some = λ e. cc; value = ap (λ n. digits_value_after 10 n t.more) z ∙ t.value; small = t.small };
      text = ap (λ y. b ∷ y) t.text;
      behind = t.behind;
    }

digit_more : (P : ℕ → List ℕ → Type 0) (n b d : ℕ) (xs : List ℕ) → Tells b (Digit d) → n * 10 + d < TIME_LIMIT → (n * 10 + d < TIME_LIMIT → Timed P (n * 10 + d) xs) → Timed P n (b ∷ xs)
digit_more P n b d xs h small r =
    let t = r small in
    record {
      more = b ∷ t.more;
      back = t.back;
      time = t.time;
      digits = and_from _ _ h.0 t.digits;
      value = ap (λ x. digits_value_after 10 (n * 10 + x) t.more) h.1 ∙ t.value;
      small = t.small;
      text = ap (λ y. b ∷ y) t.text;
      behind = t.behind;
    }

-- no digit more
timed_none : (P : ℕ → List ℕ → Type 0) (n : ℕ) (xs : List ℕ) → n < TIME_LIMIT → P n xs → Timed P n xs
timed_none P n xs small p = record { more = []; back = xs; time = n; digits = refl; value = refl; small = small; text = refl; behind = p }

behind_blank : (k : Kind) (n b : ℕ) (xs : List ℕ) (i : Written) → is_blank b ≡ true → Rest (behind_time k n) i xs → Behind k i n (b ∷ xs)
behind_blank (way.Kind.OfEvent w) n b xs i h r = inl (blanked_gap (Atomed w (At n) i []) b xs h r)
behind_blank (way.Kind.OfSecond w start) n b xs i h r = blanked_gap (Atomed w (Between start n) i []) b xs h r
behind_blank way.Kind.OfTime n b xs i h r = (and_from _ _ h r.0, r.1)

stop_first : (k : Kind) (n b : ℕ) (xs : List ℕ) → b ≡ stop → Keeps b xs (Digits k n) (behind_stop k n)
stop_first (way.Kind.OfEvent w) n b xs h = λ i r small.
    timed_none (Behind (way.Kind.OfEvent w) i) n (b ∷ xs) small (inr (record { back = r.back; text = ap (λ y. y ∷ xs) h ∙ ap (λ y. stop ∷ y) r.text; next = r.next }))
stop_first k n b xs h = tt

atom_first : (w : Way) (n : When) (b : ℕ) (xs : List ℕ) (o : Option atom.State) → atom.step true Begin (sign_of b) ≡ o → Keeps b xs (Wait w n) (in_atom w n o)
unfolding signs
atom_first w n b xs None e = tt
atom_first w n b xs (Some s) e = λ i r.
    let a = r (b ∷ []) (ap (option_and_then (walk true [])) e) in
    blanked_none (Atomed w n i []) (b ∷ xs) (record { more = b ∷ a.more; end = a.end; atom = a.atom; is_atom = a.is_atom; end_blank = a.end_blank; text = ap (λ y. b ∷ y) a.text; says = a.says })

atom_over : (w : Way) (n : When) (s : atom.State) (b : ℕ) (xs : List ℕ) (p : Part) (o : Option Tree) → Tells b p → atom.said s ≡ o → Keeps b xs (InAtom w n s) (over w n p o)
atom_over w n s b xs Blank (Some t) h e = λ i r front f. record {
  more = [];
  end = b ∷ xs;
  atom = atom_value t;
  is_atom = subst (λ y. IsAtom y (atom_value t)) (sym (append-nil front)) (atom_there front s t f e);
  end_blank = and_from _ _ h r.0;
  text = refl;
  says = r.1;
}
atom_over w n s b xs p o h e = tt

atom_more : (w : Way) (n : When) (s : atom.State) (b : ℕ) (xs : List ℕ) (p : Part) (u : Option atom.State) → Tells b p → atom.step true s (sign_of b) ≡ u → Keeps b xs (InAtom w n s) (atom_on w n p (atom.said s) u)
atom_more w n s b xs p None h e = atom_over w n s b xs p (atom.said s) h refl
atom_more w n s b xs p (Some u) h e = λ i r front f.
    let a = r (front ++ b ∷ []) (walk_more front b Begin s u f e) in
    record {
      more = b ∷ a.more;
      end = a.end;
      atom = a.atom;
      is_atom = subst (λ y. IsAtom y a.atom) (append_assoc front (b ∷ []) a.more) a.is_atom;
      end_blank = a.end_blank;
      text = ap (λ y. b ∷ y) a.text;
      says = a.says;
    }

keeps : (s : State) (p : Part) (b : ℕ) (xs : List ℕ) → Tells b p → Keeps b xs s (go s p b)
keeps Front Blank b xs h = λ i r. front_more b xs i h r
keeps Front Hash b xs h = λ i r. subst (HasForm (b ∷ xs)) r (inr (record { front = []; back = xs; front_blank = refl; text = ap (λ y. y ∷ xs) h }))
keeps Front Plus b xs h = λ i r. event_form Comes i b xs h r
keeps Front Minus b xs h = λ i r. event_form Retracted i b xs h r
keeps Front Bang b xs h = λ i r. subst (λ y. HasForm (y ∷ xs) i) (sym h) (time_form i xs r)
keeps Front Other b xs h = words b xs
keeps Front p b xs h = tt
keeps Note p b xs h = λ i r. r
keeps (Spell c bytes s) p b xs h = keeps_if b xs (Spell c bytes s) (spell bytes s) (b == c) (λ e i r. spelled_more b c bytes s i xs e r)
keeps (Mark k) Blank b xs h = λ i r. blanked_gap (TimeHere (Behind k i)) b xs h r
keeps (Mark k) p b xs h = tt
keeps (Gap k) Blank b xs h = λ i r. blanked_more (TimeHere (Behind k i)) b xs h r
keeps (Gap k) (Digit d) b xs h = λ i r. blanked_none (TimeHere (Behind k i)) (b ∷ xs) (digit_first (Behind k i) b d xs h r)
keeps (Gap k) p b xs h = tt
keeps (Start k) (Digit d) b xs h = λ i r. digit_first (Behind k i) b d xs h r
keeps (Start k) p b xs h = tt
keeps (Digits k n) Blank b xs h = λ i r small. timed_none (Behind k i) n (b ∷ xs) small (behind_blank k n b xs i h r)
keeps (Digits k n) (Digit d) b xs h = keeps_if b xs (Digits k n) (Digits k (n * 10 + d)) (nat_lt (n * 10 + d) TIME_LIMIT) (λ e i r small. digit_more (Behind k i) n b d xs h (ltb-true (n * 10 + d) TIME_LIMIT e) r)
keeps (Digits k n) Stop b xs h = stop_first k n b xs h
keeps (Digits k n) p b xs h = tt
keeps (Wait w n) Blank b xs h = λ i r. blanked_more (Atomed w n i []) b xs h r
keeps (Wait w n) p b xs h = atom_first w n b xs (atom.step true Begin (sign_of b)) refl
keeps (InAtom w n s) p b xs h = atom_more w n s b xs p (atom.step true s (sign_of b)) h refl
keeps (End j) Blank b xs h = λ i r. (and_from _ _ h r.0, r.1)
keeps (End j) p b xs h = tt

-- where the line may end nothing is left
abbrev pub Closes : State → Option Written → Type 0
Closes s o = MatchOption o (Unit {0}) (λ i. Rest s i [])

closes_atom : (w : Way) (n : When) (s : atom.State) (o : Option Tree) → atom.said s ≡ o → Closes (InAtom w n s) (option_map (λ t. EventLine w n (atom_value t)) o)
closes_atom w n s None e = tt
closes_atom w n s (Some t) e = λ front f. record {
  more = [];
  end = [];
  atom = atom_value t;
  is_atom = subst (λ y. IsAtom y (atom_value t)) (sym (append-nil front)) (atom_there front s t f e);
  end_blank = refl;
  text = refl;
  says = refl;
}

closes : (s : State) → Closes s (accepted s)
closes Front = inl refl
closes Note = refl
closes (Digits way.Kind.OfTime n) = λ small. timed_none (Behind way.Kind.OfTime (AdvanceLine n)) n [] small (refl, refl)
closes (InAtom w n s) = closes_atom w n s (atom.said s) refl
closes (End i) = (refl, refl)
closes s = tt

-- ---- a run of the machine

-- the input, where the line ends behind these bytes
abbrev pub final : List ℕ → State → Option Written
final [] s = accepted s
final (b ∷ xs) s = option_and_then (final xs) (step s b)

closed : (s : State) (i : Written) (o : Option Written) → Closes s o → o ≡ Some i → Rest s i []
closed s i None c e = cc
closed s i (Some j) c e = let same : j ≡ i = cc in subst (λ i. Rest s i []) same c

-- what the machine accepts has the form that its state leaves
pub sound : (xs : List ℕ) (s : State) (i : Written) → final xs s ≡ Some i → Rest s i xs
sound [] s i e = closed s i (accepted s) (closes s) e
sound (b ∷ xs) s i e = at (step s b) (keeps s (part_of b) b xs (part_tells b)) e (sound xs)
  where
    at : (o : Option State) → Keeps b xs s o → option_and_then (final xs) o ≡ Some i → ((s : State) (i : Written) → final xs s ≡ Some i → Rest s i xs) → Rest s i (b ∷ xs)
    at None k e h = cc
    at (Some u) k e h = k i (h u i e)
