-- What a run of the machine says of the tokens, in the grammar's words.
use Rattle.std.proofs.Common.{◌≡◌, ◌≢◌, ℕ, List, [], ◌∷◌, ◌++◌, length, Option, Some, None, Result, Ok, Err, refl, sym, ap, ◌∙◌, append_assoc, subst}
use Rattle.std.proofs.lemmas.List.{append-nil}
use Rattle.std.proofs.lemmas.Option.{same_Some, MatchOption-at_some}
use Rattle.rule_lexer.specs.declared.terminals.Terminal.{Terminal}
use Rattle.rule_grammar.specs.declared.faults.Which.{Which}
use Rattle.rule_grammar.specs.declared.faults.Fault.{Fault}
use Rattle.rule_grammar.specs.declared.faults.Fault.TheVariants.{Syntax, Limit}
use Rattle.rule_grammar.specs.Trees.{Statements, Statements.Empty}
use Rattle.rule_grammar.specs.Marks.{Role, Marked, Counted, nothing_counted, count, count_all, passed}
use Rattle.rule_grammar.specs.Tokens.{text, bare}
use Rattle.rule_grammar.specs.Texts.{IsWithin, Reads, Viable, NoneGoesOn, Means}
use Rattle.rule_grammar.specs.Machine.{State, State.Between, Step, step, so_far, run, onward, unless_passed, ended}
use Rattle.rule_grammar.proofs.Keeps.{step_keeps}
use Rattle.rule_grammar.proofs.Ends.{ends}
use Rattle.rule_grammar.proofs.Walks.{walk, go, text_walks}

abbrev pub start : State
start = Between Empty

-- tokens with their roles lead from one state to another, and none passes a limit
pub record Leads (g : Counted) (s : State) (front : List Marked) (to : State) : Type 0 where
  pub reads : (more : List Marked) → so_far s (front ++ more) ≡ so_far to more
  pub walks : (more : List Terminal) → walk (bare front ++ more) s ≡ walk more to
  pub within : IsWithin g front

stays : (g : Counted) (s : State) → Leads g s [] s
stays g s = record { reads = λ more. refl; walks = λ more. refl; within = tt }

keeps_at : (s : State) (x : Terminal) (y : Role × State) → step s x ≡ Some y → (more : List Marked) → so_far s ((y.0, x) ∷ more) ≡ so_far y.1 more
keeps_at s x y e more = MatchOption-at_some (Unit {0}) (λ z. so_far s ((z.0, x) ∷ more) ≡ so_far z.1 more) y e (step_keeps s x more)

leads_on : (g : Counted) (s : State) (x : Terminal) (y : Role × State) (front : List Marked) (to : State)
    → step s x ≡ Some y → passed (count g (y.0, x)) y.0 ≡ None → Leads (count g (y.0, x)) y.1 front to → Leads g s ((y.0, x) ∷ front) to
leads_on g s x y front to e p l = record {
  reads = λ more. keeps_at s x y e (front ++ more) ∙ l.reads more;
  walks = λ more. ap (go (bare front ++ more)) e ∙ l.walks more;
  within = (p, l.within);
}

-- no step leads on
abbrev IsStuck : State → List Terminal → Type 0
IsStuck s [] = (ss : Statements) → s ≢ Between ss
IsStuck s (x ∷ rest) = step s x ≡ None

pub record WholeAfter (g : Counted) (s : State) (ts : List Terminal) (ss : Statements) : Type 0 where
  pub front : List Marked
  pub whole : bare front ≡ ts
  pub leads : Leads g s front (Between ss)

pub record StuckAfter (g : Counted) (s : State) (ts : List Terminal) (left : ℕ) : Type 0 where
  pub front : List Marked
  pub rest : List Terminal
  pub to : State
  pub whole : ts ≡ bare front ++ rest
  pub place : length rest ≡ left
  pub leads : Leads g s front to
  pub stuck : IsStuck to rest

pub record OverAfter (g : Counted) (s : State) (ts : List Terminal) (which : Which) (left : ℕ) : Type 0 where
  pub front : List Marked
  pub token : Terminal
  pub rest : List Terminal
  pub to : State
  pub on : Role × State
  pub whole : ts ≡ bare front ++ token ∷ rest
  pub place : length (token ∷ rest) ≡ left
  pub leads : Leads g s front to
  pub stepped : step to token ≡ Some on
  pub passes : passed (count (count_all g front) (on.0, token)) on.0 ≡ Some which

abbrev Report : Counted → State → List Terminal → Result Statements Fault → Type 0
Report g s ts (Ok ss) = WholeAfter g s ts ss
Report g s ts (Err (Syntax n)) = StuckAfter g s ts n
Report g s ts (Err (Limit which n)) = OverAfter g s ts which n

report_on : (g : Counted) (s : State) (x : Terminal) (y : Role × State) (ts : List Terminal) (r : Result Statements Fault)
    → step s x ≡ Some y → passed (count g (y.0, x)) y.0 ≡ None → Report (count g (y.0, x)) y.1 ts r → Report g s (x ∷ ts) r
report_on g s x y ts (Ok ss) e p h = record { front = (y.0, x) ∷ h.front; whole = ap (λ xs. x ∷ xs) h.whole; leads = leads_on g s x y h.front (Between ss) e p h.leads }
report_on g s x y ts (Err (Syntax n)) e p h = record {
  front = (y.0, x) ∷ h.front;
  rest = h.rest;
  to = h.to;
  whole = ap (λ xs. x ∷ xs) h.whole;
  place = h.place;
  leads = leads_on g s x y h.front h.to e p h.leads;
  stuck = h.stuck;
}
report_on g s x y ts (Err (Limit which n)) e p h = record {
  front = (y.0, x) ∷ h.front;
  token = h.token;
  rest = h.rest;
  to = h.to;
  on = h.on;
  whole = ap (λ xs. x ∷ xs) h.whole;
  place = h.place;
  leads = leads_on g s x y h.front h.to e p h.leads;
  stepped = h.stepped;
  passes = h.passes;
}

report_end : (g : Counted) (s : State) → Report g s [] (ended s)
report_end g (Between ss) = record { front = []; whole = refl; leads = stays g (Between ss) }
report_end g s = record { front = []; rest = []; to = s; whole = refl; place = refl; leads = stays g s; stuck = λ ss e. cc }

report_test : (x : Terminal) (ts : List Terminal) (g : Counted) (s : State) (y : Role × State) → step s x ≡ Some y → Report (count g (y.0, x)) y.1 ts (run ts (count g (y.0, x)) y.1)
    → (o : Option Which) → passed (count g (y.0, x)) y.0 ≡ o → Report g s (x ∷ ts) (unless_passed (run ts (count g (y.0, x)) y.1) (x ∷ ts) o)
report_test x ts g s y e h None p = report_on g s x y ts (run ts (count g (y.0, x)) y.1) e p h
report_test x ts g s y e h (Some which) p = record {
  front = [];
  token = x;
  rest = ts;
  to = s;
  on = y;
  whole = refl;
  place = refl;
  leads = stays g s;
  stepped = e;
  passes = p;
}

report_step : (x : Terminal) (ts : List Terminal) (g : Counted) (s : State) → ((g' : Counted) (s' : State) → Report g' s' ts (run ts g' s'))
    → (o : Step) → step s x ≡ o → Report g s (x ∷ ts) (onward (run ts) (x ∷ ts) g x o)
report_step x ts g s h None e = record { front = []; rest = x ∷ ts; to = s; whole = refl; place = refl; leads = stays g s; stuck = e }
report_step x ts g s h (Some y) e = report_test x ts g s y e (h (count g (y.0, x)) y.1) (passed (count g (y.0, x)) y.0) refl

report : (ts : List Terminal) (g : Counted) (s : State) → Report g s ts (run ts g s)
report [] g s = report_end g s
report (x ∷ ts) g s = report_step x ts g s (report ts) (step s x) refl

-- In the grammar's words.

viable : (front : List Marked) (to : State) → Leads nothing_counted start front to → Viable front
viable front to l = let e = ends to in (e.whole, e.more, sym e.same ∙ sym (l.reads e.more))

-- a text doesn't go on where the machine is stuck
no_text : (front : List Marked) (rest : List Terminal) (to : State) → Leads nothing_counted start front to → IsStuck to rest → (ss : Statements) → bare (text ss) ≢ bare front ++ rest
no_text front [] to l stuck ss e = stuck ss (same_Some _ _ (sym (l.walks []) ∙ ap (λ xs. walk xs start) (sym e) ∙ text_walks ss))
no_text front (x ∷ rest) to l stuck ss e =
    let on = sym (text_walks ss) ∙ ap (λ xs. walk xs start) e ∙ l.walks (x ∷ rest) ∙ ap (go rest) stuck in cc

none_goes_on : (front : List Marked) (rest : List Terminal) (to : State) → Leads nothing_counted start front to → IsStuck to rest → NoneGoesOn (bare front) rest
none_goes_on front [] to l stuck = λ ss e. no_text front [] to l stuck ss (e ∙ sym (append-nil (bare front)))
none_goes_on front (x ∷ rest) to l stuck = λ ss more e. no_text front (x ∷ more) to l stuck ss e

front_is_text : (front : List Marked) (ss : Statements) → Leads nothing_counted start front (Between ss) → front ≡ text ss
front_is_text front ss l = sym (append-nil front) ∙ l.reads []

viable_on : (front : List Marked) (x : Terminal) (to : State) (y : Role × State) → Leads nothing_counted start front to → step to x ≡ Some y → Viable (front ++ (y.0, x) ∷ [])
viable_on front x to y l e =
    let end = ends y.1 in
    (end.whole, end.more, sym end.same ∙ sym (keeps_at to x y e end.more) ∙ sym (l.reads ((y.0, x) ∷ end.more)) ∙ sym (append_assoc front ((y.0, x) ∷ []) end.more))

pub means : (ts : List Terminal) → Means ts (run ts nothing_counted start)
means ts = at (run ts nothing_counted start) (report ts nothing_counted start)
  where
    at : (r : Result Statements Fault) → Report nothing_counted start ts r → Means ts r
    at (Ok ss) h =
        let same = front_is_text h.front ss h.leads in
        record { tokens = ap bare (sym same) ∙ h.whole; within = subst (IsWithin nothing_counted) same h.leads.within }
    at (Err (Syntax n)) h = record {
      front = h.front;
      rest = h.rest;
      whole = h.whole;
      place = h.place;
      viable = viable h.front h.to h.leads;
      within = h.leads.within;
      none = none_goes_on h.front h.rest h.to h.leads h.stuck;
    }
    at (Err (Limit which n)) h = record {
      front = h.front;
      token = (h.on.0, h.token);
      rest = h.rest;
      whole = h.whole;
      place = h.place;
      viable = viable_on h.front h.token h.to h.on h.leads h.stepped;
      within = h.leads.within;
      passes = h.passes;
    }

-- A text has one tree, and a run of it gives that tree.

-- what a walk reads, with its roles
pub record Traced (xs : List Terminal) (s to : State) : Type 0 where
  pub marks : List Marked
  pub reads : (more : List Marked) → so_far s (marks ++ more) ≡ so_far to more

trace : (xs : List Terminal) (s to : State) → walk xs s ≡ Some to → Traced xs s to
trace [] s to e = record { marks = []; reads = λ more. ap (λ z. so_far z more) (same_Some _ _ e) }
trace (x ∷ xs) s to e = at (trace xs) (step s x) refl e
  where
    at : ((s' to' : State) → walk xs s' ≡ Some to' → Traced xs s' to') → (o : Step) → step s x ≡ o → go xs o ≡ Some to → Traced (x ∷ xs) s to
    at h None q e = cc
    at h (Some y) q e =
        let d = h y.1 to e in
        record { marks = (y.0, x) ∷ d.marks; reads = λ more. keeps_at s x y q (d.marks ++ more) ∙ d.reads more }

within_at : (g : Counted) (front : List Marked) (m : Marked) (more : List Marked) → IsWithin g (front ++ m ∷ more) → passed (count (count_all g front) m) m.0 ≡ None
within_at g [] m more h = h.0
within_at g (x ∷ front) m more h = within_at (count g x) front m more h.1

not_over : (ts : List Terminal) (ss : Statements) (which : Which) (n : ℕ) → Reads ts ss → OverAfter nothing_counted start ts which n → ⊥
not_over ts ss which n r h =
    let on : walk h.rest h.on.1 ≡ Some (Between ss) =
    sym (ap (go h.rest) h.stepped) ∙ sym (h.leads.walks (h.token ∷ h.rest)) ∙ ap (λ xs. walk xs start) (sym (r.tokens ∙ h.whole)) ∙ text_walks ss in
    let d = trace h.rest h.on.1 (Between ss) on in
    let same : text ss ≡ h.front ++ (h.on.0, h.token) ∷ (d.marks ++ []) =
    sym (d.reads []) ∙ sym (keeps_at h.to h.token h.on h.stepped (d.marks ++ [])) ∙ sym (h.leads.reads ((h.on.0, h.token) ∷ (d.marks ++ []))) in
    let none = within_at nothing_counted h.front (h.on.0, h.token) (d.marks ++ []) (subst (IsWithin nothing_counted) same r.within) in
    let clash = sym none ∙ h.passes in cc

pub only : (ts : List Terminal) (ss : Statements) → Reads ts ss → run ts nothing_counted start ≡ Ok ss
only ts ss r = at (run ts nothing_counted start) (report ts nothing_counted start) refl
  where
    at : (o : Result Statements Fault) → Report nothing_counted start ts o → run ts nothing_counted start ≡ o → o ≡ Ok ss
    at (Ok qs) h e =
        let w = sym (text_walks ss) ∙ ap (λ xs. walk xs start) (r.tokens ∙ sym h.whole ∙ sym (append-nil (bare h.front))) ∙ h.leads.walks [] in cc
    at (Err (Syntax n)) h e = absurd (no_text h.front h.rest h.to h.leads h.stuck ss (r.tokens ∙ h.whole))
    at (Err (Limit which n)) h e = absurd (not_over ts ss which n r h)

pub one_tree : (ps qs : Statements) → bare (text ps) ≡ bare (text qs) → ps ≡ qs
one_tree ps qs e = let w = sym (text_walks ps) ∙ ap (λ xs. walk xs start) e ∙ text_walks qs in cc
