-- Where the form of a line breaks off, and that each state that the machine comes to can be completed.
use Rattle.std.proofs.Common.{◌≡◌, ℕ, ◌+◌, ◌*◌, ◌≤◌, ◌==◌, Bool, true, false, cond, List, [], ◌∷◌, ◌++◌, length, take, Option, Some, None, MatchOption, option_and_then, option_map, refl, sym, ap, ◌∙◌, arith, append-nil, zero, suc}
use Rattle.std.specs.Prelude.{nat_lt}
use Rattle.event_model.specs.Bytes.{space, digit_0}
use Rattle.event_model.specs.declared.atoms.Atom.{Atom}
use Rattle.event_model.specs.declared.events.TheConstants.{TIME_LIMIT}
use Rattle.term_reader.specs.Signs.{sign_of, signs}
use Rattle.term_reader.specs.Grammar.{Tree, Wanted.AnAtom, atom_value}
use Rattle.term_reader.specs.Machine as atom
use Rattle.term_reader.specs.Machine.{State.Begin}
use Rattle.term_reader.proofs.Walks.{walk, ends, tree_walks, behind_tree, said_tree}
use Rattle.term_reader.proofs.Places.{start_fine}
use Rattle.term_reader.proofs.Found.{leads_walk}
use Rattle.event_reader.specs.declared.parts.Part.{Part}
use Rattle.event_reader.specs.declared.parts.Part.TheVariants.{Blank, Digit, Plus, Minus, Bang, Hash, Stop, Other}
use Rattle.event_reader.specs.EventLines.{Way, When, When.At, When.Between, Written, Written.EmptyLine, Written.EventLine, Written.AdvanceLine, Written.BeginLine, Written.CommitLine, begin_word, commit_word}
use Rattle.event_reader.specs.Machine as way
use Rattle.event_reader.specs.Machine.{part_of, Kind, State, State.Front, State.Note, State.Spell, State.Mark, State.Gap, State.Start, State.Digits, State.Wait, State.InAtom, State.End, letter_c, spell, first_of, in_word, behind_time, behind_stop, in_atom, over, atom_on, go, step, accepted, Parsed, Parsed.Whole, Parsed.Broken, ended, onward, hear}
use Rattle.event_reader.proofs.Rests.{final, walk_more}
use Rattle.event_reader.proofs.Runs.{final_on, final_spell}

-- some bytes lead the machine of atoms to this state
pub record Reached (s : atom.State) : Type 0 where
  pub front : List ℕ
  pub walks : walk true (signs front) Begin ≡ Some s

abbrev pub Ready : State → Type 0
Ready (InAtom w n s) = Reached s
Ready (Spell c bytes s) = Ready s
Ready s = Unit {0}

abbrev Readies : Option State → Type 0
Readies o = MatchOption o (Unit {0}) Ready

ready_if : (c : Bool) (s : State) → Ready s → Readies (cond c (Some s) None)
ready_if true s r = r
ready_if false s r = tt

ready_spell : (bytes : List ℕ) (s : State) → Ready s → Ready (spell bytes s)
ready_spell [] s r = r
ready_spell (c ∷ bytes) s r = r

ready_word : (b : ℕ) (word : List ℕ) (w : Written) → Readies (first_of word (End w) b)
ready_word b [] w = tt
ready_word b (c ∷ bytes) w = ready_if (b == c) (spell bytes (End w)) (ready_spell bytes (End w) tt)

ready_words : (b : ℕ) → Readies (in_word b)
ready_words b =
    elim (b == letter_c) as (λ t. Readies (cond t (first_of commit_word (End CommitLine) b) (first_of begin_word (End BeginLine) b)))
    [ true ↦ ready_word b commit_word CommitLine | false ↦ ready_word b begin_word BeginLine ]

ready_behind : (k : Kind) (n : ℕ) → Ready (behind_time k n)
ready_behind (way.Kind.OfEvent w) n = tt
ready_behind (way.Kind.OfSecond w start) n = tt
ready_behind way.Kind.OfTime n = tt

ready_stop : (k : Kind) (n : ℕ) → Readies (behind_stop k n)
ready_stop (way.Kind.OfEvent w) n = tt
ready_stop k n = tt

ready_first : (w : Way) (n : When) (b : ℕ) (o : Option atom.State) → atom.step true Begin (sign_of b) ≡ o → Readies (in_atom w n o)
unfolding signs
ready_first w n b None e = tt
ready_first w n b (Some s) e = record { front = b ∷ []; walks = ap (option_and_then (walk true [])) e }

ready_over : (w : Way) (n : When) (p : Part) (o : Option Tree) → Readies (over w n p o)
ready_over w n Blank (Some t) = tt
ready_over w n p o = tt

ready_more : (w : Way) (n : When) (s : atom.State) (b : ℕ) (p : Part) (u : Option atom.State) → Reached s → atom.step true s (sign_of b) ≡ u → Readies (atom_on w n p (atom.said s) u)
ready_more w n s b p None r e = ready_over w n p (atom.said s)
ready_more w n s b p (Some u) r e = record { front = r.front ++ b ∷ []; walks = walk_more r.front b Begin s u r.walks e }

ready_on : (s : State) (p : Part) (b : ℕ) → Ready s → Readies (go s p b)
ready_on Front Blank b r = tt
ready_on Front Hash b r = tt
ready_on Front Plus b r = tt
ready_on Front Minus b r = tt
ready_on Front Bang b r = tt
ready_on Front Other b r = ready_words b
ready_on Front p b r = tt
ready_on Note p b r = tt
ready_on (Spell c bytes s) p b r = ready_if (b == c) (spell bytes s) (ready_spell bytes s r)
ready_on (Mark k) Blank b r = tt
ready_on (Mark k) p b r = tt
ready_on (Gap k) Blank b r = tt
ready_on (Gap k) (Digit d) b r = tt
ready_on (Gap k) p b r = tt
ready_on (Start k) (Digit d) b r = tt
ready_on (Start k) p b r = tt
ready_on (Digits k n) Blank b r = ready_behind k n
ready_on (Digits k n) (Digit d) b r = ready_if (nat_lt (n * 10 + d) TIME_LIMIT) (Digits k (n * 10 + d)) tt
ready_on (Digits k n) Stop b r = ready_stop k n
ready_on (Digits k n) p b r = tt
ready_on (Wait w n) Blank b r = tt
ready_on (Wait w n) p b r = ready_first w n b (atom.step true Begin (sign_of b)) refl
ready_on (InAtom w n s) p b r = ready_more w n s b p (atom.step true s (sign_of b)) r refl
ready_on (End i) Blank b r = tt
ready_on (End i) p b r = tt

-- ---- what may follow

-- some line goes on so
pub record Goes (xs : List ℕ) (s : State) : Type 0 where
  pub more : List ℕ
  pub written : Written
  pub accepts : final (xs ++ more) s ≡ Some written

goes_by : (s : State) (more : List ℕ) (i : Written) → final more s ≡ Some i → Goes [] s
goes_by s more i e = record { more = more; written = i; accepts = e }

goes_atom : (w : Way) (n : When) (s : atom.State) → Reached s → Goes [] (InAtom w n s)
goes_atom w n s r =
    let l = leads_walk AnAtom r.front Begin s (start_fine AnAtom) r.walks in
    let (more, t, fine, text) = ends true AnAtom s l.fine in
    let walks : walk true (signs more) s ≡ Some (behind_tree t AnAtom) =
    sym (l.walks true more) ∙ ap (λ y. walk true y Begin) (l.reads more ∙ text) ∙ tree_walks true AnAtom t [] fine in
    goes_by (InAtom w n s) more (EventLine w n (atom_value t)) (
    ap (λ y. final y (InAtom w n s)) (sym (append-nil more))
    ∙ final_on w n s (behind_tree t AnAtom) more [] walks
    ∙ ap (option_map (λ t. EventLine w n (atom_value t))) (said_tree t AnAtom)
    )

-- a gap and an atom
abbrev named : List ℕ
named = space ∷ 97 ∷ []

abbrev named_atom : Atom
named_atom = record { name = 97 ∷ []; args = [] }

-- what may follow a time
goes_time : (k : Kind) (n : ℕ) → Goes [] (Digits k n)
goes_time (way.Kind.OfEvent w) n = goes_by (Digits (way.Kind.OfEvent w) n) named (EventLine w (At n) named_atom) refl
goes_time (way.Kind.OfSecond w start) n = goes_by (Digits (way.Kind.OfSecond w start) n) named (EventLine w (Between start n) named_atom) refl
goes_time way.Kind.OfTime n = goes_by (Digits way.Kind.OfTime n) [] (AdvanceLine n) refl

-- what may stand before what follows
goes_before : (front : List ℕ) (s u : State) → ((xs : List ℕ) → final (front ++ xs) s ≡ final xs u) → Goes [] u → Goes [] s
goes_before front s u h g = record { more = front ++ g.more; written = g.written; accepts = h g.more ∙ g.accepts }

goes : (s : State) → Ready s → Goes [] s
goes Front r = goes_by Front [] EmptyLine refl
goes Note r = goes_by Note [] EmptyLine refl
goes (Spell c bytes s) r = goes_before (c ∷ bytes) (Spell c bytes s) s (λ xs. final_spell (c ∷ bytes) xs s) (goes s r)
goes (Mark k) r = goes_before (space ∷ digit_0 ∷ []) (Mark k) (Digits k 0) (λ xs. refl) (goes_time k 0)
goes (Gap k) r = goes_before (digit_0 ∷ []) (Gap k) (Digits k 0) (λ xs. refl) (goes_time k 0)
goes (Start k) r = goes_before (digit_0 ∷ []) (Start k) (Digits k 0) (λ xs. refl) (goes_time k 0)
goes (Digits k n) r = goes_time k n
goes (Wait w n) r = goes_by (Wait w n) (97 ∷ []) (EventLine w n named_atom) refl
goes (InAtom w n s) r = goes_atom w n s r
goes (End i) r = goes_by (End i) [] i refl

-- ---- where it stops

-- the machine goes so far and no further
pub record Stops (xs : List ℕ) (s : State) (n : ℕ) : Type 0 where
  pub inside : n ≤ length xs
  pub begins : Goes (take n xs) s
  pub longest : (m : ℕ) → m ≤ length xs → Goes (take m xs) s → m ≤ n

abbrev pub Means : List ℕ → State → ℕ → Parsed → Type 0
Means xs s at (Whole i) = final xs s ≡ Some i
Means xs s at (Broken place) = (n : ℕ) × (place ≡ at + n) × Stops xs s n × (final xs s ≡ None)

means_end : (s : State) (at : ℕ) → Ready s → (o : Option Written) → accepted s ≡ o → Means [] s at (ended at o)
means_end s at r (Some i) e = e
means_end s at r None e = (0, omega arith, record { inside = omega arith; begins = goes s r; longest = λ m h g. h }, e)

goes_on : (b : ℕ) (xs : List ℕ) (s u : State) → step s b ≡ Some u → Goes xs u → Goes (b ∷ xs) s
goes_on b xs s u e g = record { more = g.more; written = g.written; accepts = ap (option_and_then (final (xs ++ g.more))) e ∙ g.accepts }

gone_on : (b : ℕ) (xs : List ℕ) (s u : State) → step s b ≡ Some u → Goes (b ∷ xs) s → Goes xs u
gone_on b xs s u e g = record { more = g.more; written = g.written; accepts = sym (ap (option_and_then (final (xs ++ g.more))) e) ∙ g.accepts }

stuck : (b : ℕ) (xs : List ℕ) (s : State) → step s b ≡ None → (m : ℕ) → Goes (take m (b ∷ xs)) s → m ≤ 0
stuck b xs s e zero g = omega arith
stuck b xs s e (suc m) g = absurd (let f : None ≡ Some g.written = sym (ap (option_and_then (final (take m xs ++ g.more))) e) ∙ g.accepts in cc)

further : (b : ℕ) (xs : List ℕ) (s u : State) (n : ℕ) → step s b ≡ Some u → Stops xs u n → (m : ℕ) → m ≤ suc (length xs) → Goes (take m (b ∷ xs)) s → m ≤ suc n
further b xs s u n e h zero l g = omega arith
further b xs s u n e h (suc m) l g = let k = h.longest m (omega arith) (gone_on b (take m xs) s u e g) in omega arith

means_more : (b : ℕ) (xs : List ℕ) (s u : State) (at : ℕ) (o : Parsed) → step s b ≡ Some u → Means xs u (at + 1) o → Means (b ∷ xs) s at o
means_more b xs s u at (Whole i) e h = ap (option_and_then (final xs)) e ∙ h
means_more b xs s u at (Broken place) e h =
    let (n, p, stops, none) = h in (
      suc n,
      omega (arith, p),
      record { inside = omega (arith, stops.inside); begins = goes_on b (take n xs) s u e stops.begins; longest = λ m l g. further b xs s u n e stops m (omega (arith, l)) g },
      ap (option_and_then (final xs)) e ∙ none,
    )

means_on : (b : ℕ) (xs : List ℕ) (s : State) (at : ℕ) → Ready s → (o : Option State) → step s b ≡ o → Readies o → ((u : State) (at : ℕ) → Ready u → Means xs u at (hear xs u at)) → Means (b ∷ xs) s at (onward (hear xs) at o)
means_on b xs s at r None e k h = (0, omega arith, record { inside = omega arith; begins = goes s r; longest = λ m l g. stuck b xs s e m g }, ap (option_and_then (final xs)) e)
means_on b xs s at r (Some u) e k h = means_more b xs s u at (hear xs u (at + 1)) e (h u (at + 1) k)

-- what is heard of bytes from a state on
pub means : (xs : List ℕ) (s : State) (at : ℕ) → Ready s → Means xs s at (hear xs s at)
means [] s at r = means_end s at r (accepted s) refl
means (b ∷ xs) s at r = means_on b xs s at r (step s b) refl (ready_on s (part_of b) b r) (means xs)
