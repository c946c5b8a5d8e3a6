-- What a run says of bytes, in the grammar's words.
use Rattle.std.proofs.Common.{◌≡◌, ℕ, Bool, true, false, List, [], ◌∷◌, ◌++◌, Option, Some, None, MatchOption, option_and_then, refl, sym, ap, ◌∙◌, append_assoc, subst}
use Rattle.std.proofs.lemmas.List.{append-nil}
use Rattle.std.proofs.lemmas.Option.{MatchOption-at_some}
use Rattle.term_reader.specs.declared.signs.Sign.{Sign}
use Rattle.term_reader.specs.declared.signs.Sign.TheVariants.{Digit, Open, Comma}
use Rattle.term_reader.specs.Signs.{sign_of, signs}
use Rattle.term_reader.specs.Grammar.{Wanted, Wanted.AnyTerm, Wanted.AnAtom, Blanks.NoBlank, Tree, Tree.Number, Tree.Name, tree, Fine, Viable, NoneEnds, NoneGoesOn, is_open, is_comma, is_digit}
use Rattle.term_reader.specs.Machine.{Stack.Top, State, State.InWord, State.InNumber, State.Behind, step, said, so_far, start}
use Rattle.term_reader.specs.Steps.{Kind, Kind.Bad, Kind.Deep, Kind.Wide, Kind.Range, Outcome, Outcome.Reads, Outcome.Stops, limit_at, ended, halted, onward, run}
use Rattle.term_reader.proofs.Walks.{walk, step_keeps, step_fine, ends, tree_walks, behind_tree, said_tree, FineState, Fines, held_name, held_open}
use Rattle.term_reader.proofs.Loose.{Loosens, step_loosens, PassesLimit, loose_fine, loose_state}
use Rattle.term_reader.proofs.Bytes.{Tells, sign_tells}

-- front leads from one state to another, with and without the limits
pub record Leads (a : Wanted) (s : State) (front : List ℕ) (to : State) : Type 0 where
  pub reads : (more : List ℕ) → so_far s (signs (front ++ more)) ≡ so_far to (signs more)
  pub walks : (lim : Bool) (more : List ℕ) → walk lim (signs (front ++ more)) s ≡ walk lim (signs more) to
  pub fine : FineState true a to

loosened : (x : Sign) (o u : Option State) (s : State) → o ≡ Some s → Loosens x o u → u ≡ Some s
loosened x None u s e h = cc
loosened x (Some t) u s e h = h ∙ e

step_on : (lim : Bool) (s : State) (x : Sign) (s' : State) → step true s x ≡ Some s' → step lim s x ≡ Some s'
step_on true s x s' e = e
step_on false s x s' e = loosened x (step true s x) (step false s x) s' e (step_loosens s x)

pub leads_on : (a : Wanted) (s : State) (b : ℕ) (s' : State) (front : List ℕ) (to : State) → step true s (sign_of b) ≡ Some s' → Leads a s' front to → Leads a s (b ∷ front) to
unfolding signs
leads_on a s b s' front to e l = record {
  reads = λ more. MatchOption-at_some (Unit {0}) (λ y. so_far s (sign_of b ∷ signs (front ++ more)) ≡ so_far y (signs (front ++ more))) s' e (step_keeps true s (sign_of b) (signs (front ++ more))) ∙ l.reads more;
  walks = λ lim more. ap (option_and_then (walk lim (signs (front ++ more)))) (step_on lim s (sign_of b) s' e) ∙ l.walks lim more;
  fine = l.fine;
}

pub stays : (a : Wanted) (s : State) → FineState true a s → Leads a s [] s
stays a s f = record { reads = λ more. refl; walks = λ lim more. refl; fine = f }

abbrev pub IsStuck : Bool → State → List ℕ → Type 0
IsStuck lim s [] = Unit {0}
IsStuck lim s (b ∷ rest) = step lim s (sign_of b) ≡ None

-- a limit is passed at the first byte of rest
pub record PassedAt (to : State) (kind : Kind) (rest : List ℕ) : Type 0 where
  pub byte : ℕ
  pub more : List ℕ
  pub next : rest ≡ byte ∷ more
  pub stuck : step true to (sign_of byte) ≡ None
  pub on : State
  pub goes : step false to (sign_of byte) ≡ Some on
  pub is : limit_at (sign_of byte) ≡ kind

abbrev pub Halts : State → Outcome → Type 0
Halts to (Reads t rest) = (said to ≡ Some t) × IsStuck false to rest
Halts to (Stops Bad rest) = (said to ≡ None) × IsStuck false to rest
Halts to (Stops kind rest) = PassedAt to kind rest

abbrev pub rest_of : Outcome → List ℕ
rest_of (Reads t rest) = rest
rest_of (Stops kind rest) = rest

pub record Report (a : Wanted) (s : State) (xs : List ℕ) (o : Outcome) : Type 0 where
  pub front : List ℕ
  pub to : State
  pub whole : xs ≡ front ++ rest_of o
  pub leads : Leads a s front to
  pub halts : Halts to o

report_on : (a : Wanted) (s : State) (b : ℕ) (s' : State) (xs : List ℕ) (o : Outcome) → step true s (sign_of b) ≡ Some s' → Report a s' xs o → Report a s (b ∷ xs) o
report_on a s b s' xs o e h = record { front = b ∷ h.front; to = h.to; whole = ap (λ y. b ∷ y) h.whole; leads = leads_on a s b s' h.front h.to e h.leads; halts = h.halts }

report_ended : (a : Wanted) (s : State) (rest : List ℕ) (o : Option Tree) → said s ≡ o → FineState true a s → IsStuck false s rest → Report a s rest (ended o rest)
report_ended a s rest None e f h = record { front = []; to = s; whole = refl; leads = stays a s f; halts = (e, h) }
report_ended a s rest (Some t) e f h = record { front = []; to = s; whole = refl; leads = stays a s f; halts = (e, h) }

-- a stop at a limit
passed : (s : State) (b : ℕ) (rest : List ℕ) (s' : State) (k : Kind) → limit_at (sign_of b) ≡ k → step true s (sign_of b) ≡ None → step false s (sign_of b) ≡ Some s' → PassedAt s k (b ∷ rest)
passed s b rest s' k i e f = record { byte = b; more = rest; next = refl; stuck = e; on = s'; goes = f; is = i }

at_limit : (s : State) (rest : List ℕ) (x : Sign) → ((k : Kind) → limit_at x ≡ k → PassedAt s k rest) → Halts s (Stops (limit_at x) rest)
at_limit s rest Open h = h Deep refl
at_limit s rest Comma h = h Wide refl
at_limit s rest x h = h Range refl

report_halted : (a : Wanted) (s : State) (b : ℕ) (rest : List ℕ) (o : Option State) → step true s (sign_of b) ≡ None → step false s (sign_of b) ≡ o → FineState true a s → Report a s (b ∷ rest) (halted o s b rest)
report_halted a s b rest None e f g = report_ended a s (b ∷ rest) (said s) refl g f
report_halted a s b rest (Some s') e f g = record { front = []; to = s; whole = refl; leads = stays a s g; halts = at_limit s (b ∷ rest) (sign_of b) (λ k i. passed s b rest s' k i e f) }

report_step : (a : Wanted) (b : ℕ) (xs : List ℕ) (s : State) → FineState true a s → ((s' : State) → FineState true a s' → Report a s' xs (run xs s')) → (o : Option State) → step true s (sign_of b) ≡ o → Fines true a o → Report a s (b ∷ xs) (onward (run xs) s b xs o)
report_step a b xs s f h None e g = report_halted a s b xs (step false s (sign_of b)) e refl f
report_step a b xs s f h (Some s') e g = report_on a s b s' xs (run xs s') e (h s' g)

pub report : (a : Wanted) (xs : List ℕ) (s : State) → FineState true a s → Report a s xs (run xs s)
report a [] s f = report_ended a s [] (said s) refl f tt
report a (b ∷ xs) s f = report_step a b xs s f (report a xs) (step true s (sign_of b)) refl (step_fine true a s (sign_of b) f)

-- A whole tree is what it says.

said_fine : (a : Wanted) (s : State) → FineState true a s → MatchOption (said s) (Unit {0}) (λ t. Fine true a t × (so_far s [] ≡ tree t []))
said_fine a (InWord w (Top b)) f = (subst (λ x. Fine true x (Name w)) (sym f) (held_name (Top b) w, tt), refl)
said_fine a (InNumber m ds (Top b)) f = (subst (λ x. Fine true x (Number m ds)) (sym f.1) (held_open (Top b) (Number m ds) f.0, f.2), refl)
said_fine a (Behind t (Top b) NoBlank) f = (subst (λ x. Fine true x t) (sym f.2) (f.0, f.3), refl)
said_fine a (Behind t (Top b) c) f = absurd f.1
said_fine a s f = tt

pub said_reads : (a : Wanted) (s : State) (t : Tree) → FineState true a s → said s ≡ Some t → Fine true a t × (so_far s [] ≡ tree t [])
said_reads a s t f e = MatchOption-at_some (Unit {0}) (λ t. Fine true a t × (so_far s [] ≡ tree t [])) t e (said_fine a s f)

-- a tree whose bytes are front is said there
said_there : (a : Wanted) (front : List ℕ) (to : State) → Leads a (start a) front to → (lim : Bool) (t : Tree) → Fine lim a t → tree t [] ≡ signs front → said to ≡ Some t
unfolding signs
said_there a front to l lim t f e =
    let go : Some (behind_tree t a) ≡ Some to = sym (tree_walks lim a t [] f) ∙ ap (λ y. walk lim y (start a)) (e ∙ ap signs (sym (append-nil front))) ∙ l.walks lim [] in
    sym (ap (option_and_then said) go) ∙ said_tree t a

none_goes_on : (a : Wanted) (lim : Bool) (front rest : List ℕ) (to : State) → Leads a (start a) front to → IsStuck lim to rest → NoneGoesOn lim a front rest
unfolding signs
none_goes_on a lim front [] to l stuck = tt
none_goes_on a lim front (b ∷ rest) to l stuck = λ v.
    let e : tree v.0 [] ≡ signs (front ++ b ∷ v.1) = v.3 ∙ ap signs (append_assoc front (b ∷ []) v.1) in
    let go : Some (behind_tree v.0 a) ≡ None = sym (tree_walks lim a v.0 [] v.2) ∙ ap (λ y. walk lim y (start a)) e ∙ l.walks lim (b ∷ v.1) ∙ ap (option_and_then (walk lim (signs v.1))) stuck in cc

viable_by : (a : Wanted) (lim : Bool) (front : List ℕ) (to : State) → ((more : List ℕ) → so_far (start a) (signs (front ++ more)) ≡ so_far to (signs more)) → FineState lim a to → Viable lim a front
viable_by a lim front to reads f = let e = ends lim a to f in (e.1, e.0, e.2, sym e.3 ∙ sym (reads e.0) ∙ begins a (signs (front ++ e.0)))
  where
    begins : (a : Wanted) (xs : List Sign) → so_far (start a) xs ≡ xs
    begins AnyTerm xs = refl
    begins AnAtom xs = refl

-- one more step without the limits
pub viable_past : (a : Wanted) (front : List ℕ) (to : State) (b : ℕ) (on : State) → Leads a (start a) front to → step false to (sign_of b) ≡ Some on → Viable false a (front ++ b ∷ [])
unfolding signs
viable_past a front to b on l e =
    viable_by a false (front ++ b ∷ []) on
    (λ more. ap (λ y. so_far (start a) (signs y)) (append_assoc front (b ∷ []) more) ∙ l.reads (b ∷ more)
    ∙ MatchOption-at_some (Unit {0}) (λ y. so_far to (sign_of b ∷ signs more) ≡ so_far y (signs more)) on e (step_keeps false to (sign_of b) (signs more)))
    (MatchOption-at_some (Unit {0}) (FineState false a) on e (step_fine false a to (sign_of b) (loose_state a to l.fine)))

abbrev pub kind_is : Kind → ℕ → Bool
kind_is Deep b = is_open b
kind_is Wide b = is_comma b
kind_is Range b = is_digit b
kind_is Bad b = false

-- the byte of a limit
pub record Past (a : Wanted) (front rest : List ℕ) (kind : Kind) : Type 0 where
  pub byte : ℕ
  pub more : List ℕ
  pub next : rest ≡ byte ∷ more
  pub is_kind : kind_is kind byte ≡ true
  pub viable : Viable false a (front ++ byte ∷ [])

-- what an outcome says of the bytes before it
abbrev pub Meant : Wanted → List ℕ → Outcome → Type 0
Meant a front (Reads t rest) = Fine true a t × (tree t [] ≡ signs front) × NoneGoesOn false a front rest
Meant a front (Stops Bad rest) = Viable true a front × NoneGoesOn true a front rest × NoneEnds a front × NoneGoesOn false a front rest
Meant a front (Stops kind rest) = Viable true a front × NoneGoesOn true a front rest × Past a front rest kind

tight : (a : Wanted) (front rest : List ℕ) → NoneGoesOn false a front rest → NoneGoesOn true a front rest
tight a front [] h = tt
tight a front (b ∷ rest) h = λ v. h (v.0, v.1, loose_fine a v.0 v.2, v.3)

limit_kind : (b : ℕ) (x : Sign) → Tells b x → PassesLimit x → kind_is (limit_at x) b ≡ true
limit_kind b Open h p = ap is_open (sym h)
limit_kind b Comma h p = ap is_comma (sym h)
limit_kind b (Digit d) h p = h.0
limit_kind b x h p = absurd p

pub passes : (x : Sign) (o u : Option State) (s : State) → o ≡ None → u ≡ Some s → Loosens x o u → PassesLimit x
passes x None (Some t) s e f h = h
passes x None None s e f h = absurd (let g = f in cc)
passes x (Some t) u s e f h = absurd (let g = e in cc)

past : (a : Wanted) (front rest : List ℕ) (to : State) (k : Kind) → Leads a (start a) front to → PassedAt to k rest → Viable true a front × NoneGoesOn true a front rest × Past a front rest k
past a front rest to k l h =
    let p : PassesLimit (sign_of h.byte) = passes (sign_of h.byte) (step true to (sign_of h.byte)) (step false to (sign_of h.byte)) h.on h.stuck h.goes (step_loosens to (sign_of h.byte)) in (
      viable_by a true front to l.reads l.fine,
      subst (NoneGoesOn true a front) (sym h.next) (none_goes_on a true front (h.byte ∷ h.more) to l h.stuck),
      record {
        byte = h.byte;
        more = h.more;
        next = h.next;
        is_kind = subst (λ k. kind_is k h.byte ≡ true) h.is (limit_kind h.byte (sign_of h.byte) (sign_tells h.byte) p);
        viable = viable_past a front to h.byte h.on l h.goes;
      },
    )

pub start_fine : (a : Wanted) → FineState true a (start a)
start_fine AnyTerm = (tt, refl)
start_fine AnAtom = refl

meant : (a : Wanted) (front : List ℕ) (to : State) (o : Outcome) → Leads a (start a) front to → Halts to o → Meant a front o
unfolding signs
meant a front to (Reads t rest) l h =
    let r = said_reads a to t l.fine h.0 in
    (r.0, sym r.1 ∙ sym (l.reads []) ∙ begins a (signs (front ++ [])) ∙ ap signs (append-nil front), none_goes_on a false front rest to l h.1)
  where
    begins : (a : Wanted) (xs : List Sign) → so_far (start a) xs ≡ xs
    begins AnyTerm xs = refl
    begins AnAtom xs = refl
meant a front to (Stops Bad rest) l h =
    let n = none_goes_on a false front rest to l h.1 in
    (viable_by a true front to l.reads l.fine, tight a front rest n, (λ t f e. let s = sym (said_there a front to l true t f e) ∙ h.0 in cc), n)
meant a front to (Stops Deep rest) l h = past a front rest to Deep l h
meant a front to (Stops Wide rest) l h = past a front rest to Wide l h
meant a front to (Stops Range rest) l h = past a front rest to Range l h

pub means : (a : Wanted) (xs : List ℕ) → (front : List ℕ) × (xs ≡ front ++ rest_of (run xs (start a))) × Meant a front (run xs (start a))
means a xs = let r = report a xs (start a) (start_fine a) in (r.front, r.whole, meant a r.front r.to (run xs (start a)) r.leads r.halts)
