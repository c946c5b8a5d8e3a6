-- What goes out of what was gathered.
use Rattle.std.proofs.Common.{◌≡◌, ℕ, ◌<◌, ◌≤◌, nat_le, Bool, true, false, if◌then◌else◌, List, [], ◌++◌, Option, length, refl, sym, ap, ◌∙◌, subst, arith, append_assoc}
use Rattle.std.proofs.Math.Seq.{take-length}
use Rattle.std.proofs.lemmas.List.{take_all}
use Rattle.std.proofs.lemmas.Bool.{leb-true, leb-false}
use Rattle.std.specs.Io.KnownBytes.{append_known}
use Rattle.flow_ports.specs.Flow.{Gives, GivesPart}
use Rattle.flow_ports.proofs.FlowLemmas.{append_known-nil}
use Rattle.event_model.specs.Presence.{History, Verdict, Accepted, Refused, settles, verdict}
use Rattle.event_model.specs.declared.inputs.Input.{Input}
use Rattle.event_model.specs.declared.inputs.Refusal.{Refusal}
use Rattle.event_reader.specs.Machine.{heard}
use Rattle.rule_ast.specs.Trees.{PlainStatement}
use Rattle.etalis_core.specs.StandsFor.{visits_by, rules_of, late_of}
use Rattle.etalis_cli.specs.Output.{Talk}
use Rattle.etalis_cli.specs.StandsFor.{StandsFor}
use Rattle.etalis_cli.specs.Feeds.{Sends, SendsBefore, visits_at}
use Rattle.etalis_cli.specs.Replying.{visits_made, visits_for}
use Rattle.etalis_cli.specs.declared.replying.TheConstants.{UNITS}
use Rattle.etalis_cli.specs.declared.session.Session.{Session}
use Rattle.etalis_cli.proofs.NoteLaws.{part_longer}

-- ---- nothing, or a first part

pub part_none : (got : Option (List ℕ)) (text : List ℕ) → GivesPart got got text
part_none got text = (0, sym (append_known-nil got))

pub part_same : (got got' : Option (List ℕ)) (text : List ℕ) → got' ≡ got → GivesPart got got' text
part_same got got' text e = (0, e ∙ sym (append_known-nil got))

pub sends_none : (got : Option (List ℕ)) (text : List ℕ) → Sends got got text text
sends_none got text = record { sent = []; gives = sym (append_known-nil got); whole = refl }

pub part_all : (got got' : Option (List ℕ)) (text : List ℕ) → Gives got got' text → GivesPart got got' text
part_all got got' text p = (length text, p ∙ ap (append_known got) (sym (take-length text)))

-- what went out is a first part
pub part_sent : (got got' : Option (List ℕ)) (text text' : List ℕ) → Sends got got' text text' → GivesPart got got' text
part_sent got got' text text' s = subst (GivesPart got got') (sym s.whole) (part_longer got got' s.sent text' (part_all got got' s.sent s.gives))

-- of nothing
pub part_empty : (got got' : Option (List ℕ)) (text : List ℕ) → text ≡ [] → GivesPart got got' text → got' ≡ got
part_empty got got' text e p =
    let (n, q) = subst (GivesPart got got') e p in
    q ∙ ap (append_known got) (take_all n [] (omega arith)) ∙ append_known-nil got

-- a reply more is gathered
pub sends_more : (got got' : Option (List ℕ)) (text text' more all : List ℕ) → Sends got got' text text' → all ≡ text' ++ more → Sends got got' (text ++ more) all
sends_more got got' text text' more all s e = record {
  sent = s.sent;
  gives = s.gives;
  whole = ap (λ l. l ++ more) s.whole ∙ append_assoc s.sent text' more ∙ ap (λ l. s.sent ++ l) (sym e);
}

-- ---- before a line that takes so many visits

pub before_quick : (visits : ℕ) (got : Option (List ℕ)) (text : List ℕ) → visits ≤ UNITS → SendsBefore visits got got text text
before_quick visits got text le = record { slow = λ lt. absurd (omega (arith, le, lt)); quick = λ _. (refl, refl) }

pub before_none : (visits : ℕ) (got : Option (List ℕ)) (text : List ℕ) → visits ≡ 0 → SendsBefore visits got got text text
before_none visits got text e = before_quick visits got text (omega (arith, e))

pub before_slow : (visits : ℕ) (got got' : Option (List ℕ)) (text text' : List ℕ) → UNITS < visits → Gives got got' text → text' ≡ [] → SendsBefore visits got got' text text'
before_slow visits got got' text text' lt gives none = record { slow = λ _. (gives, none); quick = λ le. absurd (omega (arith, le, lt)) }

-- where nothing was gathered, nothing goes out
pub before_empty : (visits : ℕ) (got got' : Option (List ℕ)) (text text' : List ℕ) → text ≡ [] → SendsBefore visits got got' text text' → (got' ≡ got) × (text' ≡ [])
before_empty visits got got' text text' e s = at (nat_le visits UNITS) refl
  where
    at : (b : Bool) → nat_le visits UNITS ≡ b → (got' ≡ got) × (text' ≡ [])
    at true le = let (p, q) = s.quick (leb-true visits UNITS le) in (p, q ∙ e)
    at false gt = let (p, q) = s.slow (leb-false visits UNITS gt) in (p ∙ ap (append_known got) e ∙ append_known-nil got, q)

-- ---- how many visits there are

module _ (rules : List PlainStatement) (late : Option ℕ) (h : History) where
  pub made_none : (input : Input) → settles h input ≡ false → visits_made rules late h input ≡ 0
  made_none input e = ap (λ t. if t then visits_by rules late h input else 0) e

  pub made_all : (input : Input) → settles h input ≡ true → visits_made rules late h input ≡ visits_by rules late h input
  made_all input e = ap (λ t. if t then visits_by rules late h input else 0) e

  pub for_refused : (v : Verdict) (why : Refusal) → v ≡ Refused why → visits_for rules late h v ≡ 0
  for_refused v why e = ap (visits_for rules late h) e

  pub for_accepted : (v : Verdict) (input : Input) → v ≡ Accepted input → visits_made rules late h input ≡ visits_for rules late h v
  for_accepted v input e = ap (visits_for rules late h) (sym e)

-- those of a line, by what a session has
pub visits_here : (a : Session) (t : Talk) (line : List ℕ) → StandsFor a t
    → visits_for (rules_of a.engine) (late_of a.engine) t.state.history (verdict (late_of a.engine) t.state.history (heard line)) ≡ visits_at t line
visits_here a t line p = λ i. visits_for (sym p.same_rules i) (sym p.same_late i) t.state.history (verdict (sym p.same_late i) t.state.history (heard line))
