-- What the machine makes of the pieces of a line.
use Rattle.std.proofs.Common.{◌≡◌, ℕ, ◌+◌, ◌<◌, ◌≤◌, ◌==◌, ◌⊎◌, inl, inr, true, false, cond, List, [], ◌∷◌, length, drop, Option, Some, None, option_map, Result, Ok, Err, refl, sym, ap, ◌∙◌, arith, subst, length-drop}
use Rattle.event_model.specs.Spans.{PlainSpan}
use Rattle.event_model.specs.Presence.{Says, Fails}
use Rattle.event_model.specs.declared.atoms.Atom.{Atom}
use Rattle.event_model.specs.declared.inputs.Input.{Input}
use Rattle.event_model.specs.declared.inputs.Input.TheVariants.{Nothing}
use Rattle.term_reader.specs.declared.faults.TermFault.{TermFault}
use Rattle.term_reader.specs.declared.faults.TermFault.TheVariants as of_term
use Rattle.term_reader.specs.declared.signs.Sign.TheVariants.{Space, Tab}
use Rattle.term_reader.specs.Signs.{sign_of}
use Rattle.term_reader.specs.Grammar.{Tree, atom_value}
use Rattle.term_reader.specs.Machine as atom
use Rattle.term_reader.specs.Machine.{State.Begin}
use Rattle.term_reader.specs.Steps as run
use Rattle.term_reader.specs.Steps.{Outcome, Outcome.Reads, Outcome.Stops, limit_at}
use Rattle.term_reader.specs.Readings.{AtomGiven}
use Rattle.term_reader.proofs.Loose.{step_loosens, PassesLimit}
use Rattle.term_reader.proofs.Places.{passes}
use Rattle.event_reader.specs.declared.parts.Part.{Part}
use Rattle.event_reader.specs.declared.parts.Part.TheVariants.{Blank, Digit, Hash, Stop, Other}
use Rattle.event_reader.specs.declared.whens.Times.{Times}
use Rattle.event_reader.specs.declared.faults.LineFault.{LineFault}
use Rattle.event_reader.specs.declared.faults.LineFault.TheVariants as fault
use Rattle.event_reader.specs.Faults.{line_fault}
use Rattle.event_reader.specs.EventLines.{Way, When, When.At, When.Between, Written, Written.EmptyLine, Written.EventLine, Written.AdvanceLine, Written.BeginLine, Written.CommitLine, span_of_when, of_event, input_of, begin_word, commit_word}
use Rattle.event_reader.specs.Machine as way
use Rattle.event_reader.specs.Machine.{part_of, DigitFits, Kind, State, State.Front, State.Note, State.Spell, State.Mark, State.Gap, State.Start, State.Digits, State.Wait, State.InAtom, State.End, letter_c, spell, first_of, behind_stop, in_atom, over, atom_on, go, step, accepted, Parsed, Parsed.Whole, Parsed.Broken, ended, onward, hear, behind_stops, said_by, said_of}
use Rattle.event_reader.specs.Reads.{is_blank_part, is_digit_part, begins, starts, PartAt, ByteAt, BreaksBy, StopsBy, BlanksRead, GapRead, TimeRead, TimeGiven, when_of, SpanOf, in_when, TimesRead, AtomRead, event_said, AloneAt, word_heard, WordAt, line_said, LineRead}
use Rattle.event_reader.proofs.Tells.{Tells, part_tells, blank_sign}

-- ---- one step, over what stands at a place

pub hear_step : (line : List ℕ) (at : ℕ) (p : Part) (s u : State) → PartAt line at p → ((b : ℕ) → go s p b ≡ Some u) → hear (drop at line) s at ≡ hear (drop (at + 1) line) u (at + 1)
hear_step line at p s u h e = ap (λ y. hear y s at) h.next ∙ ap (onward (hear (drop (at + 1) line)) at) (ap (λ p. go s p h.byte) h.is ∙ e h.byte)

-- what breaks off stops the line
pub breaks_stop : (why : LineFault) (place : ℕ) (p : Parsed) → BreaksBy why p → StopsBy why (said_of place p)
breaks_stop (fault.Syntax at) place p e = ap (said_of place) e
breaks_stop fault.Memory place p e = tt

-- ---- times

-- where no blank begins the bytes, the gap before a time is over
gap_over : (k : Kind) (at : ℕ) (xs : List ℕ) → begins is_blank_part xs ≡ false → hear xs (Gap k) at ≡ hear xs (Start k) at
gap_over k at [] e = refl
gap_over k at (b ∷ xs) e = ap (onward (hear xs) at) (same (part_of b) e)
  where
    same : (p : Part) → is_blank_part p ≡ false → go (Gap k) p b ≡ go (Start k) p b
    same Blank e = cc
    same (Digit d) e = refl
    same p e = refl

pub marked_given : (line : List ℕ) (at start : ℕ) (r : Result (ℕ × ℕ) LineFault) → GapRead line at start → TimeGiven (λ k. Start k) line start r → TimeGiven (λ k. Mark k) line at r
marked_given line at start r g = by r
  where
    to_start : (k : Kind) → hear (drop at line) (Mark k) at ≡ hear (drop start line) (Start k) start
    to_start k = g.reads (Mark k) (Gap k) (λ b. refl) (λ b. refl) ∙ gap_over k start (drop start line) g.over

    by : (r : Result (ℕ × ℕ) LineFault) → TimeGiven (λ k. Start k) line start r → TimeGiven (λ k. Mark k) line at r
    by (Ok x) h = record { inside = h.inside; small = h.small; stops = g.stops ∙ h.stops; reads = λ k. to_start k ∙ h.reads k; over = h.over }
    by (Err why) h = λ k. subst (BreaksBy why) (sym (to_start k)) (h k)

-- ---- the end

end_dark : (i : Written) (p : Part) (b : ℕ) → is_blank_part p ≡ false → go (End i) p b ≡ None
end_dark i Blank b e = cc
end_dark i p b e = refl

pub more_left : (line : List ℕ) (at end : ℕ) → BlanksRead line at end → end < length line → begins is_blank_part (drop end line) ≡ false → (i : Written) → hear (drop at line) (End i) at ≡ Broken end
more_left line at end h l o i = h.reads (End i) (λ b. refl) ∙ some (drop end line) (omega (arith, length-drop end line)) o
  where
    some : (xs : List ℕ) → 0 < length xs → begins is_blank_part xs ≡ false → hear xs (End i) end ≡ Broken end
    some [] l o = absurd (omega (arith, l))
    some (b ∷ xs) l o = ap (onward (hear xs) end) (end_dark i (part_of b) b o)

-- behind a time alone stands its end
time_end : (n at : ℕ) (xs : List ℕ) → begins is_digit_part xs ≡ false → hear xs (Digits way.Kind.OfTime n) at ≡ hear xs (End (AdvanceLine n)) at
time_end n at [] e = refl
time_end n at (b ∷ xs) e = ap (onward (hear xs) at) (same (part_of b) e)
  where
    same : (p : Part) → is_digit_part p ≡ false → go (Digits way.Kind.OfTime n) p b ≡ go (End (AdvanceLine n)) p b
    same Blank e = refl
    same (Digit d) e = cc
    same Stop e = refl
    same p e = refl

advance_to_end : (line : List ℕ) (at time end : ℕ) → TimeRead (λ k. Mark k) line at time end → hear (drop at line) (Mark way.Kind.OfTime) at ≡ hear (drop end line) (End (AdvanceLine time)) end
advance_to_end line at time end t = t.reads way.Kind.OfTime ∙ time_end time end (drop end line) t.over

pub advance_read : (line : List ℕ) (at time end : ℕ) → TimeRead (λ k. Mark k) line at time end → ((i : Written) → hear (drop end line) (End i) end ≡ Whole i)
    → hear (drop at line) (Mark way.Kind.OfTime) at ≡ Whole (AdvanceLine time)
advance_read line at time end t h = advance_to_end line at time end t ∙ h (AdvanceLine time)

pub advance_stops : (line : List ℕ) (at time end : ℕ) (why : LineFault) → TimeRead (λ k. Mark k) line at time end → ((i : Written) → BreaksBy why (hear (drop end line) (End i) end))
    → BreaksBy why (hear (drop at line) (Mark way.Kind.OfTime) at)
advance_stops line at time end why t h = subst (BreaksBy why) (sym (advance_to_end line at time end t)) (h (AdvanceLine time))

-- ---- atoms

-- what the outcome of the machine of atoms is to the line
abbrev Joins : Way → When → ℕ → List ℕ → Outcome → Parsed → Type 0
Joins w n at xs (Reads t rest) said = (place : ℕ) → at + length xs ≡ place + length rest → said ≡ hear rest (End (EventLine w n (atom_value t))) place
Joins w n at xs (Stops kind rest) said = (place : ℕ) → at + length xs ≡ place + length rest → said ≡ Broken place

joins_end : (w : Way) (n : When) (at : ℕ) (o : Option Tree) → Joins w n at [] (run.ended o []) (ended at (option_map (λ t. EventLine w n (atom_value t)) o))
joins_end w n at None = λ place e. let same : at ≡ place = omega (arith, e) in ap Broken same
joins_end w n at (Some t) = λ place e. refl

-- what ends an atom ends it as the blanks at the end are told
ends_as : (w : Way) (n : When) (t : Tree) (p : Part) (b : ℕ) → over w n p (Some t) ≡ go (End (EventLine w n (atom_value t))) p b
ends_as w n t Blank b = refl
ends_as w n t p b = refl

no_end : (w : Way) (n : When) (p : Part) → over w n p None ≡ None
no_end w n Blank = refl
no_end w n p = refl

joins_over : (w : Way) (n : When) (at b : ℕ) (xs : List ℕ) (o : Option Tree) → Joins w n at (b ∷ xs) (run.ended o (b ∷ xs)) (onward (hear xs) at (over w n (part_of b) o))
joins_over w n at b xs None = λ place e. let same : at ≡ place = omega (arith, e) in ap (onward (hear xs) at) (no_end w n (part_of b)) ∙ ap Broken same
joins_over w n at b xs (Some t) = λ place e.
    let same : at ≡ place = omega (arith, e) in
    ap (onward (hear xs) at) (ends_as w n t (part_of b) b) ∙ ap (hear (b ∷ xs) (End (EventLine w n (atom_value t)))) same

-- a limit is passed at no blank
limit_dark : (w : Way) (n : When) (p : Part) (b : ℕ) (o : Option Tree) → Tells b p → PassesLimit (sign_of b) → over w n p o ≡ None
limit_dark w n Blank b o h q = absurd (at (blank_sign b h))
  where
    at : (sign_of b ≡ Space) ⊎ (sign_of b ≡ Tab) → ⊥
    at (inl e) = subst PassesLimit e q
    at (inr e) = subst PassesLimit e q
limit_dark w n p b o h q = refl

joins_halted : (w : Way) (n : When) (at b : ℕ) (xs : List ℕ) (s : atom.State) (o : Option atom.State) → atom.step true s (sign_of b) ≡ None → atom.step false s (sign_of b) ≡ o → Joins w n at (b ∷ xs) (run.halted o s b xs) (onward (hear xs) at (over w n (part_of b) (atom.said s)))
joins_halted w n at b xs s None e f = joins_over w n at b xs (atom.said s)
joins_halted w n at b xs s (Some to) e f = λ place g.
    let same : at ≡ place = omega (arith, g) in
    let q : PassesLimit (sign_of b) = passes (sign_of b) (atom.step true s (sign_of b)) (atom.step false s (sign_of b)) to e f (step_loosens s (sign_of b)) in
    ap (onward (hear xs) at) (limit_dark w n (part_of b) b (atom.said s) (part_tells b) q) ∙ ap Broken same

joins_more : (w : Way) (n : When) (at b : ℕ) (xs : List ℕ) (o : Outcome) (said : Parsed) → Joins w n (at + 1) xs o said → Joins w n at (b ∷ xs) o said
joins_more w n at b xs (Reads t rest) said h = λ place e. h place (omega (arith, e))
joins_more w n at b xs (Stops kind rest) said h = λ place e. h place (omega (arith, e))

joins_on : (w : Way) (n : When) (at b : ℕ) (xs : List ℕ) (s : atom.State) → ((s : atom.State) (at : ℕ) → Joins w n at xs (run.run xs s) (hear xs (InAtom w n s) at)) → (o : Option atom.State) → atom.step true s (sign_of b) ≡ o → Joins w n at (b ∷ xs) (run.onward (run.run xs) s b xs o) (onward (hear xs) at (atom_on w n (part_of b) (atom.said s) o))
joins_on w n at b xs s h None e = joins_halted w n at b xs s (atom.step false s (sign_of b)) e refl
joins_on w n at b xs s h (Some u) e = joins_more w n at b xs (run.run xs u) (hear xs (InAtom w n u) (at + 1)) (h u (at + 1))

joins : (w : Way) (n : When) (xs : List ℕ) (s : atom.State) (at : ℕ) → Joins w n at xs (run.run xs s) (hear xs (InAtom w n s) at)
joins w n [] s at = joins_end w n at (atom.said s)
joins w n (b ∷ xs) s at = joins_on w n at b xs s (joins w n xs) (atom.step true s (sign_of b)) refl

-- where no blank begins the bytes, waiting for an atom is as being in it
awake : (w : Way) (n : When) (at : ℕ) (xs : List ℕ) → begins is_blank_part xs ≡ false → hear xs (Wait w n) at ≡ hear xs (InAtom w n Begin) at
awake w n at [] e = refl
awake w n at (b ∷ xs) e = ap (onward (hear xs) at) (same (part_of b) e (atom.step true Begin (sign_of b)) refl)
  where
    same : (p : Part) → is_blank_part p ≡ false → (o : Option atom.State) → atom.step true Begin (sign_of b) ≡ o → go (Wait w n) p b ≡ atom_on w n p None o
    same Blank e o f = cc
    same p e None f = ap (in_atom w n) f
    same p e (Some u) f = ap (in_atom w n) f

places : (line : List ℕ) (at end : ℕ) → at ≤ length line → end ≤ length line → at + length (drop at line) ≡ end + length (drop end line)
places line at end h k = omega (arith, length-drop at line, length-drop end line)

stops_at : (line : List ℕ) (at place : ℕ) (kind : run.Kind) → at ≤ length line → begins is_blank_part (drop at line) ≡ false → place ≤ length line → run.run (drop at line) Begin ≡ Stops kind (drop place line) → (w : Way) (n : When) → hear (drop at line) (Wait w n) at ≡ Broken place
stops_at line at place kind h e l r w n =
    awake w n at (drop at line) e ∙ subst (λ o. Joins w n at (drop at line) o (hear (drop at line) (InAtom w n Begin) at)) r (joins w n (drop at line) Begin at) place (places line at place h l)

pub atom_read : (line : List ℕ) (at : ℕ) (a : Atom) (end : ℕ) → at ≤ length line → begins is_blank_part (drop at line) ≡ false → AtomGiven line at (Ok (a, end)) → AtomRead line at a end
atom_read line at a end h e g = record {
  inside = g.1.inside;
  reads = λ w n.
      awake w n at (drop at line) e
      ∙ subst (λ o. Joins w n at (drop at line) o (hear (drop at line) (InAtom w n Begin) at)) g.1.reads (joins w n (drop at line) Begin at) end (places line at end h g.1.inside)
      ∙ ap (λ a. hear (drop end line) (End (EventLine w n a)) end) g.2;
}

pub atom_stops : (line : List ℕ) (at : ℕ) (why : TermFault) → at ≤ length line → begins is_blank_part (drop at line) ≡ false → AtomGiven line at (Err why) → (w : Way) (n : When) → BreaksBy (line_fault why) (hear (drop at line) (Wait w n) at)
atom_stops line at (of_term.Syntax place) h e g w n = stops_at line at place run.Kind.Bad h e g.0 g.1 w n
atom_stops line at (of_term.TooDeep place) h e g w n = stops_at line at place run.Kind.Deep h e g.0 g.1 w n
atom_stops line at (of_term.TooWide place) h e g w n = stops_at line at place run.Kind.Wide h e g.0 g.1 w n
atom_stops line at (of_term.NumberRange place) h e g w n = stops_at line at place run.Kind.Range h e g.0 g.1 w n
atom_stops line at of_term.Memory h e g w n = tt

-- ---- events

-- a blank ends a when
blank_over : (w : Way) (when : When) (b : ℕ) → go (in_when w when) Blank b ≡ Some (Wait w when)
blank_over w (At time) b = refl
blank_over w (Between start end) b = refl

to_atom : (line : List ℕ) (at : ℕ) (times : Times) (end start : ℕ) → TimesRead line at times end → GapRead line end start → (w : Way)
    → hear (drop at line) (Mark (way.Kind.OfEvent w)) at ≡ hear (drop start line) (Wait w (when_of times)) start
to_atom line at times end start t g w = t.reads w ∙ g.reads (in_when w (when_of times)) (Wait w (when_of times)) (blank_over w (when_of times)) (λ b. refl)

to_end : (line : List ℕ) (at : ℕ) (times : Times) (end start : ℕ) (a : Atom) (last : ℕ) → TimesRead line at times end → GapRead line end start → AtomRead line start a last → (w : Way)
    → hear (drop at line) (Mark (way.Kind.OfEvent w)) at ≡ hear (drop last line) (End (EventLine w (when_of times) a)) last
to_end line at times end start a last t g h w = to_atom line at times end start t g w ∙ h.reads w (when_of times)

-- a fault of a piece is a fault of the event
event_breaks : (line : List ℕ) (at : ℕ) (w : Way) (why : LineFault) (p : Parsed) → hear (drop at line) (Mark (way.Kind.OfEvent w)) at ≡ p → BreaksBy why p → StopsBy why (event_said line at w)
event_breaks line at w why p e h = breaks_stop why (behind_stops (drop at line) at) _ (subst (BreaksBy why) (sym e) h)

pub atom_fails : (line : List ℕ) (at : ℕ) (times : Times) (end start : ℕ) (why : LineFault) → TimesRead line at times end → GapRead line end start
    → ((w : Way) (when : When) → BreaksBy why (hear (drop start line) (Wait w when) start)) → (w : Way) → StopsBy why (event_said line at w)
atom_fails line at times end start why t g h w = event_breaks line at w why _ (to_atom line at times end start t g w) (h w (when_of times))

pub end_fails : (line : List ℕ) (at : ℕ) (times : Times) (end start : ℕ) (a : Atom) (last : ℕ) (why : LineFault) → TimesRead line at times end → GapRead line end start
    → AtomRead line start a last → ((i : Written) → BreaksBy why (hear (drop last line) (End i) last)) → (w : Way) → StopsBy why (event_said line at w)
end_fails line at times end start a last why t g h k w = event_breaks line at w why _ (to_end line at times end start a last t g h w) (k (EventLine w (when_of times) a))

-- what is said by a whole event
event_whole : (line : List ℕ) (at : ℕ) (times : Times) (end start : ℕ) (a : Atom) (last : ℕ) → TimesRead line at times end → GapRead line end start → AtomRead line start a last
    → ((i : Written) → hear (drop last line) (End i) last ≡ Whole i) → (w : Way) → event_said line at w ≡ said_by (behind_stops (drop at line) at) (option_map (of_event w a) (span_of_when (when_of times)))
event_whole line at times end start a last t g h k w =
    ap (said_of (behind_stops (drop at line) at)) (to_end line at times end start a last t g h w ∙ k (EventLine w (when_of times) a))

pub span_fails : (line : List ℕ) (at : ℕ) (times : Times) (end start : ℕ) (a : Atom) (last : ℕ) (why : LineFault) → TimesRead line at times end → GapRead line end start
    → AtomRead line start a last → ((i : Written) → hear (drop last line) (End i) last ≡ Whole i) → SpanOf times (Err why) → (w : Way) → StopsBy why (event_said line at w)
span_fails line at times end start a last (fault.Syntax place) t g h k f w =
    event_whole line at times end start a last t g h k w ∙ ap (λ o. said_by (behind_stops (drop at line) at) (option_map (of_event w a) o)) f.0
    ∙ ap Fails (sym (f.1 (behind_stops (drop at line) at) t.second))
span_fails line at times end start a last fault.Memory t g h k f w = tt

pub event_read : (line : List ℕ) (at : ℕ) (times : Times) (end start : ℕ) (a : Atom) (last : ℕ) (span : PlainSpan) → TimesRead line at times end → GapRead line end start
    → AtomRead line start a last → ((i : Written) → hear (drop last line) (End i) last ≡ Whole i) → span_of_when (when_of times) ≡ Some span → (w : Way)
    → event_said line at w ≡ Says (of_event w a span)
event_read line at times end start a last span t g h k f w =
    event_whole line at times end start a last t g h k w ∙ ap (λ o. said_by (behind_stops (drop at line) at) (option_map (of_event w a) o)) f

-- ---- words

-- by its first letter it is one word or the other
abbrev pub ByWord : List ℕ → ℕ → List ℕ → Written → Type 0
ByWord line at word w = word_heard (drop at line) at ≡ hear (drop at line) (spell word (End w)) at

word_by : (at : ℕ) (xs : List ℕ) → word_heard xs at ≡ cond (starts letter_c xs) (hear xs (spell commit_word (End CommitLine)) at) (hear xs (spell begin_word (End BeginLine)) at)
word_by at [] = refl
word_by at (b ∷ xs) =
    elim (b == letter_c) as (λ t. onward (hear xs) at (cond t (first_of commit_word (End CommitLine) b) (first_of begin_word (End BeginLine) b))
    ≡ cond t (hear (b ∷ xs) (spell commit_word (End CommitLine)) at) (hear (b ∷ xs) (spell begin_word (End BeginLine)) at))
    [ true ↦ refl | false ↦ refl ]

pub is_commit : (line : List ℕ) (at : ℕ) → ByteAt line at letter_c → ByWord line at commit_word CommitLine
is_commit line at h = word_by at (drop at line) ∙ ap (λ t. cond t (hear (drop at line) (spell commit_word (End CommitLine)) at) (hear (drop at line) (spell begin_word (End BeginLine)) at)) (ap (starts letter_c) h.next)

pub is_begin : (line : List ℕ) (at : ℕ) → starts letter_c (drop at line) ≡ false → ByWord line at begin_word BeginLine
is_begin line at h = word_by at (drop at line) ∙ ap (λ t. cond t (hear (drop at line) (spell commit_word (End CommitLine)) at) (hear (drop at line) (spell begin_word (End BeginLine)) at)) h

pub word_fails : (line : List ℕ) (at : ℕ) (word : List ℕ) (w : Written) (why : LineFault) → ByWord line at word w → AloneAt line at word (Err why)
    → (place : ℕ) → StopsBy why (said_of place (word_heard (drop at line) at))
word_fails line at word w why e h place = breaks_stop why place _ (subst (BreaksBy why) (sym e) (h w))

pub word_read : (line : List ℕ) (at : ℕ) (word : List ℕ) (w : Written) (u : Unit {0}) → ByWord line at word w → AloneAt line at word (Ok u)
    → (place : ℕ) → said_of place (word_heard (drop at line) at) ≡ said_by place (input_of w)
word_read line at word w u e h place = ap (said_of place) (e ∙ h w)

-- ---- lines

pub to_part : (line : List ℕ) (start : ℕ) → BlanksRead line 0 start → hear line Front 0 ≡ hear (drop start line) Front start
to_part line start h = h.reads Front (λ b. refl)

noted : (xs : List ℕ) (at : ℕ) → hear xs Note at ≡ Whole EmptyLine
noted [] at = refl
noted (b ∷ xs) at = noted xs (at + 1)

pub comment_read : (line : List ℕ) (start : ℕ) (p : Part) → BlanksRead line 0 start → PartAt line start p → p ≡ Hash → line_said line ≡ Says Nothing
comment_read line start p b a e =
    ap (said_of (behind_stops line 0))
    (to_part line start b ∙ hear_step line start Hash Front Note (subst (PartAt line start) e a) (λ b. refl) ∙ noted (drop (start + 1) line) (start + 1))

-- at a byte of no other form stands a word
pub word_line : (line : List ℕ) (start : ℕ) (p : Part) (r : Result Input LineFault) → BlanksRead line 0 start → PartAt line start p → p ≡ Other → WordAt line start r → LineRead line r
word_line line start p r b a e = by r
  where
    to_word : hear line Front 0 ≡ word_heard (drop start line) start
    to_word =
        to_part line start b ∙ ap (λ y. hear y Front start) a.next
        ∙ ap (onward (hear (drop (start + 1) line)) start) (ap (λ p. go Front p a.byte) (a.is ∙ e))
        ∙ sym (ap (λ y. word_heard y start) a.next)

    same : line_said line ≡ said_of (behind_stops line 0) (word_heard (drop start line) start)
    same = ap (said_of (behind_stops line 0)) to_word

    by : (r : Result Input LineFault) → WordAt line start r → LineRead line r
    by (Ok input) h = same ∙ h (behind_stops line 0)
    by (Err why) h = subst (StopsBy why) (sym same) (h (behind_stops line 0))
