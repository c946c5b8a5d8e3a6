-- The machine accepts each line that has a form, with what is written in it.
use Rattle.std.proofs.Common.{◌≡◌, ℕ, ◌+◌, ◌*◌, ◌<◌, ◌≤◌, ◌⊎◌, inl, inr, true, cond, List, [], ◌∷◌, ◌++◌, Option, Some, None, option_and_then, option_map, refl, sym, ap, ◌∙◌, arith, append-nil, append_assoc}
use Rattle.std.specs.List.{list_all}
use Rattle.std.specs.Char.{digit_value}
use Rattle.std.specs.Str.Parse.{digits_value_after}
use Rattle.std.proofs.lemmas.Bool.{and_parts, lt-ltb, eq-eqb}
use Rattle.event_model.specs.Bytes.{bang, hash, stop}
use Rattle.event_model.specs.declared.atoms.Atom.{Atom}
use Rattle.event_model.specs.declared.events.TheConstants.{TIME_LIMIT}
use Rattle.term_reader.specs.declared.signs.Sign.{Sign}
use Rattle.term_reader.specs.declared.signs.Sign.TheVariants.{Space, Tab}
use Rattle.term_reader.specs.Signs.{sign_of, signs}
use Rattle.term_reader.specs.Grammar.{Tree, Wanted.AnAtom, atom_value}
use Rattle.term_reader.specs.Machine as atom
use Rattle.term_reader.specs.Machine.{State.Begin, Stack.Top}
use Rattle.term_reader.proofs.Walks.{walk, tree_walks, behind_tree, said_tree}
use Rattle.event_reader.specs.declared.parts.Part.{Part}
use Rattle.event_reader.specs.declared.parts.Part.TheVariants.{Blank}
use Rattle.event_reader.specs.EventLines.{Way, Way.Comes, Way.Retracted, When, When.At, When.Between, Written, Written.EmptyLine, Written.EventLine, Written.AdvanceLine, Written.BeginLine, Written.CommitLine}
use Rattle.event_reader.specs.EventLines.{is_blank, is_digit, all_blank, IsGap, IsTime, IsWhen, IsAtom, Marked, OfEvent, OfTime, OfWord, mark_of, HasForm}
use Rattle.event_reader.specs.Machine as way
use Rattle.event_reader.specs.Machine.{part_of, Kind, State, State.Front, State.Note, State.Spell, State.Mark, State.Gap, State.Start, State.Digits, State.Wait, State.InAtom, State.End, spell, over, atom_on, go, step, accepted}
use Rattle.event_reader.proofs.Tells.{Tells, part_tells, part_blank, part_digit, blank_sign}
use Rattle.event_reader.proofs.Rests.{final}

-- ---- blanks

step_blank : (s u : State) → ((b : ℕ) → go s Blank b ≡ Some u) → (b : ℕ) → is_blank b ≡ true → step s b ≡ Some u
step_blank s u h b e = ap (λ p. go s p b) (part_blank b e) ∙ h b

final_blanks : (s : State) → ((b : ℕ) → go s Blank b ≡ Some s) → (gap xs : List ℕ) → all_blank gap ≡ true → final (gap ++ xs) s ≡ final xs s
final_blanks s h [] xs e = refl
final_blanks s h (b ∷ gap) xs e =
    let p = and_parts (is_blank b) (all_blank gap) e in
    ap (option_and_then (final (gap ++ xs))) (step_blank s s h b p.0) ∙ final_blanks s h gap xs p.1

final_gap : (s u : State) → ((b : ℕ) → go s Blank b ≡ Some u) → ((b : ℕ) → go u Blank b ≡ Some u) → (gap xs : List ℕ) → IsGap gap → final (gap ++ xs) s ≡ final xs u
final_gap s u f h [] xs g = absurd (g.some refl)
final_gap s u f h (b ∷ gap) xs g =
    let p = and_parts (is_blank b) (all_blank gap) g.blank in
    ap (option_and_then (final (gap ++ xs))) (step_blank s u f b p.0) ∙ final_blanks u h gap xs p.1

-- ---- times

-- the first digits of a time in range are in range
grows : (more : List ℕ) (n : ℕ) → n ≤ digits_value_after 10 n more
grows [] n = omega arith
grows (b ∷ more) n = omega (arith, grows more (n * 10 + digit_value b))

step_digit : (k : Kind) (n b : ℕ) → is_digit b ≡ true → n * 10 + digit_value b < TIME_LIMIT → step (Digits k n) b ≡ Some (Digits k (n * 10 + digit_value b))
step_digit k n b e small = ap (λ p. go (Digits k n) p b) (part_digit b e) ∙ ap (λ c. cond c (Some (Digits k (n * 10 + digit_value b))) None) (lt-ltb (n * 10 + digit_value b) TIME_LIMIT small)

final_digits : (k : Kind) (n : ℕ) (more xs : List ℕ) → list_all is_digit more ≡ true → digits_value_after 10 n more < TIME_LIMIT → final (more ++ xs) (Digits k n) ≡ final xs (Digits k (digits_value_after 10 n more))
final_digits k n [] xs e small = refl
final_digits k n (b ∷ more) xs e small =
    let p = and_parts (is_digit b) (list_all is_digit more) e in
    let least = grows more (n * 10 + digit_value b) in
    ap (option_and_then (final (more ++ xs))) (step_digit k n b p.0 (omega (arith, least, small))) ∙ final_digits k (n * 10 + digit_value b) more xs p.1 small

-- a time, where the next digit begins one
final_time : (k : Kind) (from : State) (digits : List ℕ) (time : ℕ) (xs : List ℕ) → ((b : ℕ) → is_digit b ≡ true → step from b ≡ Some (Digits k (digit_value b))) → IsTime digits time
    → final (digits ++ xs) from ≡ final xs (Digits k time)
final_time k from [] time xs h t = absurd (t.some refl)
final_time k from (b ∷ more) time xs h t =
    let p = and_parts (is_digit b) (list_all is_digit more) t.digits in
    let z : digit_value b ≡ 0 * 10 + digit_value b = omega arith in
    let value : digits_value_after 10 (digit_value b) more ≡ time = ap (λ n. digits_value_after 10 n more) z ∙ t.value in
    ap (option_and_then (final (more ++ xs))) (h b p.0)
    ∙ final_digits k (digit_value b) more xs p.1 (omega (arith, value, t.small))
    ∙ ap (λ n. final xs (Digits k n)) value

gap_digit : (k : Kind) (b : ℕ) → is_digit b ≡ true → step (Gap k) b ≡ Some (Digits k (digit_value b))
gap_digit k b e = ap (λ p. go (Gap k) p b) (part_digit b e)

start_digit : (k : Kind) (b : ℕ) → is_digit b ≡ true → step (Start k) b ≡ Some (Digits k (digit_value b))
start_digit k b e = ap (λ p. go (Start k) p b) (part_digit b e)

-- ---- words

pub final_spell : (word xs : List ℕ) (s : State) → final (word ++ xs) (spell word s) ≡ final xs s
final_spell [] xs s = refl
final_spell (c ∷ word) xs s = ap (λ t. option_and_then (final (word ++ xs)) (cond t (Some (spell word s)) None)) (eq-eqb c c refl) ∙ final_spell word xs s

-- ---- atoms

-- with an atom's sign it goes on
pub final_on : (w : Way) (n : When) (s to : atom.State) (front xs : List ℕ) → walk true (signs front) s ≡ Some to → final (front ++ xs) (InAtom w n s) ≡ final xs (InAtom w n to)
unfolding signs
final_on w n s to [] xs e = let q : s ≡ to = cc in ap (λ s. final xs (InAtom w n s)) q
final_on w n s to (b ∷ front) xs e = at (atom.step true s (sign_of b)) e (λ s to e. final_on w n s to front xs e)
  where
    at : (o : Option atom.State) → option_and_then (walk true (signs front)) o ≡ Some to → ((s to : atom.State) → walk true (signs front) s ≡ Some to → final (front ++ xs) (InAtom w n s) ≡ final xs (InAtom w n to)) → option_and_then (final (front ++ xs)) (atom_on w n (part_of b) (atom.said s) o) ≡ final xs (InAtom w n to)
    at None e h = cc
    at (Some u) e h = h u to e

-- no atom begins with a blank
begins_dark : (b : ℕ) → is_blank b ≡ true → atom.step true Begin (sign_of b) ≡ None
begins_dark b e = at (blank_sign b e)
  where
    at : (sign_of b ≡ Space) ⊎ (sign_of b ≡ Tab) → atom.step true Begin (sign_of b) ≡ None
    at (inl h) = ap (atom.step true Begin) h
    at (inr h) = ap (atom.step true Begin) h

-- where an atom may begin, waiting for it is as being in it
wait_step : (w : Way) (n : When) (b : ℕ) (s : atom.State) → atom.step true Begin (sign_of b) ≡ Some s → step (Wait w n) b ≡ Some (InAtom w n s)
wait_step w n b s e = at (part_of b) (part_tells b)
  where
    at : (p : Part) → Tells b p → go (Wait w n) p b ≡ Some (InAtom w n s)
    at Blank h = absurd (let d : None ≡ Some s = sym (begins_dark b h) ∙ e in cc)
    at p h = ap (option_map (InAtom w n)) e

final_wait : (w : Way) (n : When) (to : atom.State) (t : Tree) (front xs : List ℕ) → walk true (signs front) Begin ≡ Some to → atom.said to ≡ Some t → final (front ++ xs) (Wait w n) ≡ final xs (InAtom w n to)
unfolding signs
final_wait w n to t [] xs e f = absurd (let q : Begin ≡ to = cc in let r : None ≡ Some t = ap atom.said q ∙ f in cc)
final_wait w n to t (b ∷ front) xs e f = at (atom.step true Begin (sign_of b)) refl e
  where
    at : (o : Option atom.State) → atom.step true Begin (sign_of b) ≡ o → option_and_then (walk true (signs front)) o ≡ Some to → final (b ∷ front ++ xs) (Wait w n) ≡ final xs (InAtom w n to)
    at None g e = cc
    at (Some u) g e = ap (option_and_then (final (front ++ xs))) (wait_step w n b u g) ∙ final_on w n u to front xs e

-- behind a whole atom no blank is read
said_dark : (s : atom.State) (t : Tree) → atom.said s ≡ Some t → (x : Sign) → (x ≡ Space) ⊎ (x ≡ Tab) → atom.step true s x ≡ None
said_dark (atom.State.InWord w (Top a)) t e x (inl h) = ap (atom.step true (atom.State.InWord w (Top a))) h
said_dark (atom.State.InWord w (Top a)) t e x (inr h) = ap (atom.step true (atom.State.InWord w (Top a))) h
said_dark (atom.State.InNumber m ds (Top a)) t e x (inl h) = ap (atom.step true (atom.State.InNumber m ds (Top a))) h
said_dark (atom.State.InNumber m ds (Top a)) t e x (inr h) = ap (atom.step true (atom.State.InNumber m ds (Top a))) h
said_dark (atom.State.Behind v (Top a) c) t e x (inl h) = ap (atom.step true (atom.State.Behind v (Top a) c)) h
said_dark (atom.State.Behind v (Top a) c) t e x (inr h) = ap (atom.step true (atom.State.Behind v (Top a) c)) h
said_dark s t e x h = absurd (cc)

final_over : (w : Way) (n : When) (s : atom.State) (t : Tree) (end : List ℕ) → atom.said s ≡ Some t → all_blank end ≡ true → final end (InAtom w n s) ≡ Some (EventLine w n (atom_value t))
final_over w n s t [] e h = ap (option_map (λ t. EventLine w n (atom_value t))) e
final_over w n s t (b ∷ end) e h =
    let p = and_parts (is_blank b) (all_blank end) h in
    let i : Written = EventLine w n (atom_value t) in
    ap (option_and_then (final end)) (
    ap (λ p. go (InAtom w n s) p b) (part_blank b p.0)
    ∙ ap (atom_on w n Blank (atom.said s)) (said_dark s t e (sign_of b) (blank_sign b p.0))
    ∙ ap (over w n Blank) e
    )
    ∙ ap (λ y. final y (End i)) (sym (append-nil end)) ∙ final_blanks (End i) (λ x. refl) end [] p.1

final_atom : (w : Way) (n : When) (a : Atom) (front end : List ℕ) → IsAtom front a → all_blank end ≡ true → final (front ++ end) (Wait w n) ≡ Some (EventLine w n a)
final_atom w n a front end r h =
    let t : Tree = r.written in
    let walks : walk true (signs front) Begin ≡ Some (behind_tree t AnAtom) = ap (λ y. walk true y Begin) (sym r.text) ∙ tree_walks true AnAtom t [] r.fine in
    final_wait w n (behind_tree t AnAtom) t front end walks (said_tree t AnAtom)
    ∙ final_over w n (behind_tree t AnAtom) t end (said_tree t AnAtom) h
    ∙ ap (λ a. Some (EventLine w n a)) r.says

-- ---- lines

final_marked : (k : Kind) (mark : ℕ) (xs back : List ℕ) → step Front mark ≡ Some (Mark k) → Marked mark xs back → final xs Front ≡ final back (Gap k)
final_marked k mark xs back e m =
    let rest : List ℕ = m.gap ++ back in
    ap (λ y. final y Front) m.text ∙ final_blanks Front (λ x. refl) m.front (mark ∷ rest) m.front_blank ∙ ap (option_and_then (final rest)) e
    ∙ final_gap (Mark k) (Gap k) (λ x. refl) (λ x. refl) m.gap back m.is_gap

-- a when, a gap, an atom and blanks
final_when : (w : Way) (when : When) (a : Atom) (times gap words end : List ℕ) → IsWhen times when → IsGap gap → IsAtom words a → all_blank end ≡ true
    → final (times ++ (gap ++ (words ++ end))) (Gap (way.Kind.OfEvent w)) ≡ Some (EventLine w when a)
final_when w (At time) a times gap words end t g r h =
    let k = way.Kind.OfEvent w in
    final_time k (Gap k) times time (gap ++ (words ++ end)) (gap_digit k) t
    ∙ final_gap (Digits k time) (Wait w (At time)) (λ x. refl) (λ x. refl) gap (words ++ end) g
    ∙ final_atom w (At time) a words end r h
final_when w (Between start time) a times gap words end t g r h =
    let k = way.Kind.OfEvent w in
    let last = way.Kind.OfSecond w start in
    let behind : List ℕ = gap ++ (words ++ end) in
    ap (λ y. final y (Gap k)) (ap (λ y. y ++ behind) t.text ∙ append_assoc t.first (stop ∷ stop ∷ t.second) behind)
    ∙ final_time k (Gap k) t.first start (stop ∷ stop ∷ t.second ++ behind) (gap_digit k) t.is_first
    ∙ final_time last (Start last) t.second time behind (start_digit last) t.is_second
    ∙ final_gap (Digits last time) (Wait w (Between start time)) (λ x. refl) (λ x. refl) gap (words ++ end) g
    ∙ final_atom w (Between start time) a words end r h

final_event : (w : Way) (xs : List ℕ) (when : When) (a : Atom) → step Front (mark_of w) ≡ Some (Mark (way.Kind.OfEvent w)) → OfEvent (mark_of w) xs when a
    → final xs Front ≡ Some (EventLine w when a)
final_event w xs when a e r =
    final_marked (way.Kind.OfEvent w) (mark_of w) xs (r.times ++ (r.gap ++ (r.words ++ r.end))) e r.marked
    ∙ final_when w when a r.times r.gap r.words r.end r.is_when r.is_gap r.is_atom r.end_blank

final_end : (s : State) (i : Written) (end : List ℕ) → accepted s ≡ Some i → ((b : ℕ) → go s Blank b ≡ Some (End i)) → all_blank end ≡ true → final end s ≡ Some i
final_end s i [] a e h = a
final_end s i (b ∷ end) a e h =
    let p = and_parts (is_blank b) (all_blank end) h in
    ap (option_and_then (final end)) (step_blank s (End i) e b p.0)
    ∙ ap (λ y. final y (End i)) (sym (append-nil end)) ∙ final_blanks (End i) (λ x. refl) end [] p.1

final_time_alone : (xs : List ℕ) (time : ℕ) → OfTime xs time → final xs Front ≡ Some (AdvanceLine time)
final_time_alone xs time r =
    let k = way.Kind.OfTime in
    final_marked k bang xs (r.digits ++ r.end) refl r.marked ∙ final_time k (Gap k) r.digits time r.end (gap_digit k) r.is_time
    ∙ final_end (Digits k time) (AdvanceLine time) r.end refl (λ x. refl) r.end_blank

final_word : (c : ℕ) (bytes xs : List ℕ) (w : Written) → step Front c ≡ Some (spell bytes (End w)) → OfWord (c ∷ bytes) xs → final xs Front ≡ Some w
final_word c bytes xs w e r =
    ap (λ y. final y Front) r.text ∙ final_blanks Front (λ x. refl) r.front (c ∷ bytes ++ r.end) r.front_blank ∙ ap (option_and_then (final (bytes ++ r.end))) e
    ∙ final_spell bytes r.end (End w) ∙ final_end (End w) w r.end refl (λ x. refl) r.end_blank

final_note : (xs : List ℕ) → final xs Note ≡ Some EmptyLine
final_note [] = refl
final_note (b ∷ xs) = final_note xs

-- what has a form is accepted
pub complete : (xs : List ℕ) (i : Written) → HasForm xs i → final xs Front ≡ Some i
complete xs EmptyLine (inl e) = ap (λ y. final y Front) (sym (append-nil xs)) ∙ final_blanks Front (λ x. refl) xs [] e
complete xs EmptyLine (inr c) = ap (λ y. final y Front) c.text ∙ final_blanks Front (λ x. refl) c.front (hash ∷ c.back) c.front_blank ∙ final_note c.back
complete xs (EventLine Comes when a) r = final_event Comes xs when a refl r
complete xs (EventLine Retracted when a) r = final_event Retracted xs when a refl r
complete xs (AdvanceLine time) r = final_time_alone xs time r
complete xs BeginLine r = final_word _ _ xs BeginLine refl r
complete xs CommitLine r = final_word _ _ xs CommitLine refl r
