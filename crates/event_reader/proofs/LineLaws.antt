-- Each line is heard exactly, and says one thing.
use Rattle.std.proofs.Common.{◌≡◌, ℕ, ◌+◌, ◌<◌, ◌≤◌, ◌==◌, ◌||◌, inl, inr, Bool, true, false, cond, List, [], ◌∷◌, ◌++◌, length, take, Option, Some, None, option_map, Result, Ok, Err, refl, sym, ap, ◌∙◌, arith, subst, append_assoc, length-append}
use Rattle.std.specs.Prelude.{nat_le}
use Rattle.std.specs.List.{list_any, list_all}
use Rattle.std.proofs.lemmas.Bool.{leb-true, leb-false, le-leb, lt-leb, cond-true, cond-false, eqb-true, and_parts}
use Rattle.std.proofs.lemmas.List.Folds.{list_any-append}
use Rattle.event_model.specs.Bytes.{stop}
use Rattle.event_model.specs.Presence.{Said, Says, Fails}
use Rattle.event_model.specs.declared.atoms.Atom.{Atom}
use Rattle.event_model.specs.declared.inputs.TheConstants.{MOST_LINE_BYTES}
use Rattle.event_model.specs.declared.inputs.Input.{Input}
use Rattle.event_reader.specs.declared.faults.LineFault.{LineFault}
use Rattle.event_reader.specs.declared.faults.LineFault.TheVariants as fault
use Rattle.event_reader.specs.Reads.{Heard, LineRead, line_said}
use Rattle.event_reader.specs.EventLines.{Way, Way.Comes, Way.Retracted, When.At, When.Between, Written, Written.EmptyLine, Written.EventLine, Written.AdvanceLine, Written.BeginLine, Written.CommitLine}
use Rattle.event_reader.specs.EventLines.{is_blank, is_digit, of_event, input_of, mark_of, OfEvent, HasForm, Begins, IsPlace, IsFormless, IsBackwards, Hears}
use Rattle.event_reader.specs.Machine.{State.Front, Parsed, Parsed.Whole, Parsed.Broken, hear, behind_stops, said_by, said_of, heard}
use Rattle.event_reader.proofs.Rests.{sound}
use Rattle.event_reader.proofs.Runs.{complete}
use Rattle.event_reader.proofs.Stops.{Goes, Stops, Means, means}

-- ---- the place of the second time

abbrev Stopless : List ℕ → Type 0
Stopless bytes = list_any (λ b. b == stop) bytes ≡ false

stopless : (p : ℕ → Bool) (bytes : List ℕ) → p stop ≡ false → list_all p bytes ≡ true → Stopless bytes
stopless p [] h e = refl
stopless p (b ∷ bytes) h e = let q = and_parts (p b) (list_all p bytes) e in at (b == stop) refl q.0 (stopless p bytes h q.1)
  where
    at : (t : Bool) → (b == stop) ≡ t → p b ≡ true → Stopless bytes → (t || list_any (λ b. b == stop) bytes) ≡ false
    at true f q more = absurd (let same : true ≡ false = sym q ∙ ap p (eqb-true b stop f) ∙ h in cc)
    at false f q more = more

stopless-append : (xs ys : List ℕ) → Stopless xs → Stopless ys → Stopless (xs ++ ys)
stopless-append xs ys h k = list_any-append (λ b. b == stop) xs ys ∙ ap (λ t. t || list_any (λ b. b == stop) ys) h ∙ k

stopless_mark : (w : Way) (xs : List ℕ) → Stopless xs → Stopless (mark_of w ∷ xs)
stopless_mark Comes xs h = h
stopless_mark Retracted xs h = h

behind_front : (front more : List ℕ) (at : ℕ) → Stopless front → behind_stops (front ++ stop ∷ more) at ≡ at + length front + 2
behind_front [] more at h = omega arith
behind_front (b ∷ front) more at h = by (b == stop) refl h (behind_front front more (at + 1))
  where
    by : (t : Bool) → (b == stop) ≡ t → (t || list_any (λ b. b == stop) front) ≡ false → (Stopless front → behind_stops (front ++ stop ∷ more) (at + 1) ≡ at + 1 + length front + 2)
        → cond t (at + 2) (behind_stops (front ++ stop ∷ more) (at + 1)) ≡ at + length (b ∷ front) + 2
    by true f h k = cc
    by false f h k = let e = k h in omega arith

-- the machine's place of the second time is that of the form
second_place : (w : Way) (line : List ℕ) (start end : ℕ) (a : Atom) (r : OfEvent (mark_of w) line (Between start end) a)
    → behind_stops line 0 ≡ length (r.marked.front ++ mark_of w ∷ (r.marked.gap ++ (r.is_when.first ++ stop ∷ stop ∷ [])))
second_place w line start end a r =
    let front : List ℕ = r.marked.front in
    let gap : List ℕ = r.marked.gap in
    let first : List ℕ = r.is_when.first in
    let more : List ℕ = stop ∷ r.is_when.second ++ (r.gap ++ (r.words ++ r.end)) in
    let before : List ℕ = front ++ mark_of w ∷ (gap ++ first) in
    let text : line ≡ before ++ stop ∷ more =
    r.marked.text ∙ ap (λ y. front ++ mark_of w ∷ (gap ++ y)) (ap (λ y. y ++ (r.gap ++ (r.words ++ r.end))) r.is_when.text ∙ append_assoc first (stop ∷ stop ∷ r.is_when.second) _)
    ∙ ap (λ y. front ++ mark_of w ∷ y) (sym (append_assoc gap first (stop ∷ more))) ∙ sym (append_assoc front (mark_of w ∷ (gap ++ first)) (stop ∷ more)) in
    let plain : Stopless before =
    stopless-append front (mark_of w ∷ (gap ++ first)) (stopless is_blank front refl r.marked.front_blank)
    (stopless_mark w (gap ++ first) (stopless-append gap first (stopless is_blank gap refl r.marked.is_gap.blank) (stopless is_digit first refl r.is_when.is_first.digits))) in
    let long = length-append front (mark_of w ∷ (gap ++ first)) in
    let longer = length-append front (mark_of w ∷ (gap ++ (first ++ stop ∷ stop ∷ []))) in
    ap (λ y. behind_stops y 0) text ∙ behind_front before more 0 plain
    ∙ omega (arith, long, longer, length-append gap first, length-append gap (first ++ stop ∷ stop ∷ []), length-append first (stop ∷ stop ∷ []))

-- ---- forms

begins_so : (front : List ℕ) → Goes front Front → Begins front
begins_so front g = record { more = g.more; written = g.written; form = sound (front ++ g.more) Front g.written g.accepts }

goes_so : (front : List ℕ) → Begins front → Goes front Front
goes_so front b = record { more = b.more; written = b.written; accepts = complete (front ++ b.more) b.written b.form }

place_so : (line : List ℕ) (n : ℕ) → Stops line Front n → IsPlace line n
place_so line n s = record { inside = s.inside; begins = begins_so (take n line) s.begins; longest = λ m l b. s.longest m l (goes_so (take m line) b) }

-- ---- what is said

backwards : (line : List ℕ) (w : Written) → HasForm line w → input_of w ≡ None → IsBackwards line (behind_stops line 0)
backwards line EmptyLine form e = cc
backwards line (EventLine w (At time) a) form e = cc
backwards line (EventLine w (Between start end) a) form e = at (nat_le start end) refl e
  where
    at : (t : Bool) → nat_le start end ≡ t → option_map (of_event w a) (cond t (Some (record { start = start; end = end })) None) ≡ None → IsBackwards line (behind_stops line 0)
    at true f e = cc
    at false f e = record { way = w; start = start; end = end; atom = a; form = form; greater = leb-false start end f; place = second_place w line start end a form }
backwards line (AdvanceLine time) form e = cc
backwards line BeginLine form e = cc
backwards line CommitLine form e = cc

written_hears : (line : List ℕ) (w : Written) (o : Option Input) → length line ≤ MOST_LINE_BYTES → HasForm line w → input_of w ≡ o → Hears line (said_by (behind_stops line 0) o)
written_hears line w (Some i) h form e = (h, record { written = w; form = form; says = e })
written_hears line w None h form e = inr (h, inr (backwards line w form e))

means_line : (line : List ℕ) (o : Parsed) → length line ≤ MOST_LINE_BYTES → Means line Front 0 o → Hears line (said_of (behind_stops line 0) o)
means_line line (Whole w) h m = written_hears line w (input_of w) h (sound line Front w m) refl
means_line line (Broken place) h m =
    let (n, p, stops, none) = m in
    let same : n ≡ place = omega (arith, p) in
    inr (
      h,
      inl (record {
        none = λ w form. let e : None ≡ Some w = sym none ∙ complete line w form in cc;
        place = subst (IsPlace line) same (place_so line n stops);
      }),
    )

pub heard_is : (line : List ℕ) → Hears line (heard line)
unfolding heard
heard_is line = at (nat_le (length line) MOST_LINE_BYTES) refl
  where
    at : (c : Bool) → nat_le (length line) MOST_LINE_BYTES ≡ c → Hears line (cond c (line_said line) (Fails MOST_LINE_BYTES))
    at true e = means_line line (hear line Front 0) (leb-true (length line) MOST_LINE_BYTES e) (means line Front 0 tt)
    at false e = inl (leb-false (length line) MOST_LINE_BYTES e, refl)

-- a line that isn't too long is heard by the machine
pub heard_within : (line : List ℕ) → length line ≤ MOST_LINE_BYTES → heard line ≡ line_said line
unfolding heard
heard_within line h = cond-true (nat_le (length line) MOST_LINE_BYTES) (line_said line) (Fails MOST_LINE_BYTES) (le-leb (length line) MOST_LINE_BYTES h)

heard_past : (line : List ℕ) → MOST_LINE_BYTES < length line → heard line ≡ Fails MOST_LINE_BYTES
unfolding heard
heard_past line h = cond-false (nat_le (length line) MOST_LINE_BYTES) (line_said line) (Fails MOST_LINE_BYTES) (lt-leb (length line) MOST_LINE_BYTES h)

whole_so : (line : List ℕ) (w : Written) (o : Parsed) → HasForm line w → Means line Front 0 o → o ≡ Whole w
whole_so line w (Whole v) form m = let e : Some v ≡ Some w = sym m ∙ complete line w form in cc
whole_so line w (Broken place) form m = absurd (let e : None ≡ Some w = sym m.3 ∙ complete line w form in cc)

broken_so : (line : List ℕ) (at : ℕ) (o : Parsed) → IsFormless line at → Means line Front 0 o → o ≡ Broken at
broken_so line at (Whole v) f m = absurd (f.none v (sound line Front v m))
broken_so line at (Broken place) f m =
    let (n, q, stops, none) = m in
    let low : at ≤ n = stops.longest at f.place.inside (goes_so (take at line) f.place.begins) in
    let high : n ≤ at = f.place.longest n stops.inside (begins_so (take n line) stops.begins) in
    let same : place ≡ at = omega (arith, q) in ap Broken same

said_whole : (line : List ℕ) (w : Written) → HasForm line w → line_said line ≡ said_by (behind_stops line 0) (input_of w)
said_whole line w form = ap (said_of (behind_stops line 0)) (whole_so line w (hear line Front 0) form (means line Front 0 tt))

backwards_none : (w : Way) (a : Atom) (start end : ℕ) → end < start → input_of (EventLine w (Between start end) a) ≡ None
backwards_none w a start end h = ap (λ t. option_map (of_event w a) (cond t (Some (record { start = start; end = end })) None)) (lt-leb start end h)

pub heard_short : (line : List ℕ) (said : Said) → Hears line said → heard line ≡ said
heard_short line (Says i) h = heard_within line h.0 ∙ said_whole line h.1.written h.1.form ∙ ap (said_by (behind_stops line 0)) h.1.says
heard_short line (Fails at) (inl h) = heard_past line h.0 ∙ ap Fails (sym h.1)
heard_short line (Fails at) (inr (h, inl f)) = heard_within line h ∙ ap (said_of (behind_stops line 0)) (broken_so line at (hear line Front 0) f (means line Front 0 tt))
heard_short line (Fails at) (inr (h, inr b)) =
    heard_within line h ∙ said_whole line (EventLine b.way (Between b.start b.end) b.atom) b.form
    ∙ ap (said_by (behind_stops line 0)) (backwards_none b.way b.atom b.start b.end b.greater)
    ∙ ap Fails (second_place b.way line b.start b.end b.atom b.form ∙ sym b.place)

pub hears_one : (line : List ℕ) (x y : Said) → Hears line x → Hears line y → x ≡ y
hears_one line x y h k = sym (heard_short line x h) ∙ heard_short line y k

-- what the machine says of a line is what the line says
pub heard_so : (line : List ℕ) (r : Result Input LineFault) → length line ≤ MOST_LINE_BYTES → LineRead line r → Heard line r
heard_so line (Ok input) h e = subst (Hears line) (heard_within line h ∙ e) (heard_is line)
heard_so line (Err (fault.Syntax at)) h e = subst (Hears line) (heard_within line h ∙ e) (heard_is line)
heard_so line (Err fault.Memory) h e = tt
