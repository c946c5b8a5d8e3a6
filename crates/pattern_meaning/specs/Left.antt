-- What the replies to lines leave: a table of detections that each reply changes.
use Rattle.std.specs.Prelude.{ℕ, zero, suc, ◌+◌, ◌-◌, nat_lt, Option, Some, None, ◌≡◌, refl, Bool, true, false, cond, not, ◌&&◌, ◌||◌, ◌⊎◌, List, [], ◌∷◌, ◌++◌, map, length}
use Rattle.std.specs.List.{filter, flat_map}
use Rattle.std.proofs.Common.{ap, sym, ◌∙◌, subst, append-nil}
use Rattle.std.proofs.lemmas.Bool.{true≢false}
use Rattle.std.proofs.lemmas.List.Concat.{flat_map-append}
use Rattle.ordered_lists.specs.Canon.{canon, has, Rising, Rising-canon, has-canon, has-append, canon_one}
use Rattle.ordered_lists.specs.Members.{without, has-without}
use Rattle.event_model.specs.EventOrder.{event_cmp, detection_cmp, exact_detections}
use Rattle.event_model.specs.Presence.{History, Said, Verdict, Accepted, Refused, verdict, after_verdict, settled, in_batch, extended, added, taken, occurrences, present}
use Rattle.event_model.specs.declared.inputs.Input.{Input}
use Rattle.event_model.specs.declared.inputs.Input.TheVariants.{Add, Take, Advance, Nothing, Begin, Commit}
use Rattle.event_model.specs.declared.atoms.NameArity.{NameArity}
use Rattle.event_model.specs.declared.events.Detection.{Detection}
use Rattle.ev_bind.specs.declared.rows.Row.{Row}
use Rattle.rule_ast.specs.Trees.{PlainPattern, Atom, Both, Either, Where, Exact, Within, Not, PlainRule, PlainStatement}
use Rattle.rule_check.specs.Names.{outputs}
use Rattle.rule_check.specs.Sound.{rules_of}
use Rattle.term_eval.specs.Values.{holds}
use Rattle.pattern_meaning.specs.PatternRows.{rows_of, matched, name_of, head_row}
use Rattle.pattern_meaning.specs.RuleRows.{is_long, is_short, remaining, joined_rows, rows, has_head, head_rows, named_rows, name_rows}
use Rattle.pattern_meaning.specs.Standing.{detection_of, standing}
use Rattle.pattern_meaning.specs.Replies.{Change, change_between, change_by, standing_after, changed, Reply, Silent, Refusing, Changing, is_told, reply, reply_to_input, reply_to_said, left_by, left_of, State, start, after_said, after_all, replies_to, IsDifference}

-- ---- what is said of replies

-- what the replies to these lines leave of no detections is what stands after them
abbrev pub LeaveWhatStands : List PlainStatement → Option ℕ → List Said → Type 0
LeaveWhatStands statements late saids =
    let s = start statements late in left_of [] (replies_to s saids) ≡ standing_after statements (after_all s saids).history

-- a change that the reply to one line after these writes is the difference between what stands before that line and after it
abbrev pub WritesDifference : List PlainStatement → Option ℕ → List Said → Said → Type 0
WritesDifference statements late saids said =
    let before = after_all (start statements late) saids in
    let after = after_said before said in
    (n : ℕ)
    → (c : Change)
    → reply_to_said before said ≡ Changing n c
    → IsDifference (standing_after statements before.history) (standing_after statements after.history) c

-- an input that begins a batch, or stands in one and doesn't end it
abbrev pub IsWithheld : History → Input → Type 0
IsWithheld h input = (input ≡ Begin) ⊎ ((in_batch h ≡ true) × (input ≡ Commit → ⊥))

-- the input has no reply where it is accepted, and the events that are present by the groups stay
abbrev pub IsQuiet : List PlainStatement → History → ℕ → Input → Type 0
IsQuiet statements h n input =
    (reply_to_input statements h n input ≡ Silent) × (present (settled (extended h input)) ≡ present (settled h))

-- ---- laws

after_both : (s t : Bool) → ((s && not (s && not t)) || (t && not s)) ≡ t
after_both true true = refl
after_both true false = refl
after_both false true = refl
after_both false false = refl

rising_standing : (statements : List PlainStatement) (h : History) → Rising detection_cmp (standing_after statements h)
unfolding standing
rising_standing statements h =
    let rows = name_rows (rules_of statements) (present (settled h)) in
    Rising-canon exact_detections (flat_map (λ n. map (detection_of n) (rows n)) (outputs statements))

-- the change between two tables makes the one of the other
pub changed_is : (before after : List Detection) → Rising detection_cmp after → changed before (change_between before after) ≡ after
changed_is before after h =
    let gone = without detection_cmp before after in
    let come = without detection_cmp after before in
    let kept = without detection_cmp before gone in
    canon_one exact_detections (canon detection_cmp (kept ++ come)) after (Rising-canon exact_detections (kept ++ come)) h
    (λ q. has-canon exact_detections q (kept ++ come)
    ∙ has-append exact_detections q kept come
    ∙ (λ i. has-without exact_detections q before gone i || has-without exact_detections q after before i)
    ∙ ap (λ b. (has detection_cmp q before && not b) || (has detection_cmp q after && not (has detection_cmp q before)))
    (has-without exact_detections q before after)
    ∙ after_both (has detection_cmp q before) (has detection_cmp q after))

-- an input that says nothing changes no event
after_nothing : (inputs : List Input) → present (inputs ++ Nothing ∷ []) ≡ present inputs
after_nothing inputs = λ i. filter (λ e. nat_lt 0 (occurrences e (additions i) - occurrences e (takings i))) (canon event_cmp (additions i))
  where
    additions : flat_map added (inputs ++ Nothing ∷ []) ≡ flat_map added inputs
    additions = flat_map-append added inputs (Nothing ∷ []) ∙ append-nil (flat_map added inputs)

    takings : flat_map taken (inputs ++ Nothing ∷ []) ≡ flat_map taken inputs
    takings = flat_map-append taken inputs (Nothing ∷ []) ∙ append-nil (flat_map taken inputs)

abbrev pub parts : List (List Input) → Option (List Input) → History
parts groups batch = record { groups = groups; batch = batch }

-- what has no reply changes no event
pub untold : (groups : List (List Input)) (batch : Option (List Input)) (input : Input)
    → is_told (parts groups batch) input ≡ false
    → present (settled (extended (parts groups batch) input)) ≡ present (settled (parts groups batch))
untold groups None (Add e) t = absurd (true≢false t)
untold groups (Some group) (Add e) t = refl
untold groups None (Take e) t = absurd (true≢false t)
untold groups (Some group) (Take e) t = refl
untold groups None (Advance time) t = absurd (true≢false t)
untold groups (Some group) (Advance time) t = refl
untold groups None Nothing t =
    let all = flat_map (λ (group : List Input). group) groups in
    ap present (flat_map-append (λ (group : List Input). group) groups ((Nothing ∷ []) ∷ [])) ∙ after_nothing all
untold groups (Some group) Nothing t = refl
untold groups batch Begin t = refl
untold groups batch Commit t = absurd (true≢false t)

-- what the reply to an input leaves of what stood
left_by_input : (statements : List PlainStatement) (h : History) (n : ℕ) (input : Input)
    → left_by (standing_after statements h) (reply_to_input statements h n input) ≡ standing_after statements (extended h input)
left_by_input statements h n input = at (is_told h input) refl
  where
    at : (b : Bool) → is_told h input ≡ b
        → left_by (standing_after statements h) (cond b (Changing n (change_by statements h input)) Silent)
        ≡ standing_after statements (extended h input)
    at true t =
        let after = standing_after statements (extended h input) in
        changed_is (standing_after statements h) after (rising_standing statements (extended h input))
    at false t = ap (standing statements) (sym (untold h.groups h.batch input t))

left_by_verdict : (statements : List PlainStatement) (h : History) (n : ℕ) (v : Verdict)
    → left_by (standing_after statements h) (reply statements h n v) ≡ standing_after statements (after_verdict h v)
left_by_verdict statements h n (Accepted input) = left_by_input statements h n input
left_by_verdict statements h n (Refused why) = refl

left_after : (s : State) (saids : List Said)
    → left_of (standing_after s.rules s.history) (replies_to s saids) ≡ standing_after s.rules (after_all s saids).history
left_after s [] = refl
left_after s (said ∷ saids) =
    ap (λ table. left_of table (replies_to (after_said s said) saids))
    (left_by_verdict s.rules s.history (s.count + 1) (verdict s.late s.history said))
    ∙ left_after (after_said s said) saids

-- over no events there are no rows
no_rows : (named : NameArity → List Row) → ((n : NameArity) → named n ≡ []) → (p : PlainPattern) → rows named p ≡ []
no_rows named h (Atom a) = ap (λ l. rows_of (flat_map (matched a) l)) (h (name_of a))
no_rows named h (Both op l r) = λ i. joined_rows op (no_rows named h l i) (rows named r)
no_rows named h (Either l r) = λ i. rows_of (no_rows named h l i ++ no_rows named h r i)
no_rows named h (Where p c) = ap (λ l. rows_of (filter (λ r. holds c r.binding) l)) (no_rows named h p)
no_rows named h (Exact p q) = ap (λ l. rows_of (filter (is_long q) l)) (no_rows named h p)
no_rows named h (Within p q) = ap (λ l. rows_of (filter (is_short q) l)) (no_rows named h p)
no_rows named h (Not i b a) = λ j. remaining (no_rows named h b j) (rows named i) (rows named a)

no_heads : (named : NameArity → List Row) → ((n : NameArity) → named n ≡ []) → (rules : List PlainRule)
    → flat_map (head_rows named) rules ≡ []
no_heads named h [] = refl
no_heads named h (r ∷ rules) = λ i. rows_of (map (head_row r.head) (no_rows named h r.body i)) ++ no_heads named h rules i

no_named_rows : (rules : List PlainRule) (k : ℕ) (n : NameArity) → named_rows rules [] k n ≡ []
no_named_rows rules zero n = refl
no_named_rows rules (suc k) n = ap rows_of (no_heads (named_rows rules [] k) (no_named_rows rules k) (filter (has_head n) rules))

no_detections : (rules : List PlainRule) (names : List NameArity) → flat_map (λ n. map (detection_of n) (name_rows rules [] n)) names ≡ []
no_detections rules [] = refl
no_detections rules (n ∷ names) = λ i. map (detection_of n) (no_named_rows rules (length rules) n i) ++ no_detections rules names i

pub nothing_stands : (statements : List PlainStatement) → standing statements [] ≡ []
unfolding standing
nothing_stands statements = ap (canon detection_cmp) (no_detections (rules_of statements) (outputs statements))

-- What the replies to a list of lines leave, each taking its detections away and adding its own, is what stands over the
-- events that are present after them.
pub left_is_standing : (statements : List PlainStatement) (late : Option ℕ) (saids : List Said) → LeaveWhatStands statements late saids
left_is_standing statements late saids =
    ap (λ table. left_of table (replies_to (start statements late) saids)) (sym (nothing_stands statements))
    ∙ left_after (start statements late) saids

-- ---- what a reply writes

difference : (before after : List Detection) → IsDifference before after (change_between before after)
difference before after d = (has-without exact_detections d before after, has-without exact_detections d after before)

-- of a reply that changes something
abbrev Differs : List Detection → List Detection → Reply → Type 0
Differs before after Silent = Unit {0}
Differs before after (Refusing n why) = Unit {0}
Differs before after (Changing n c) = IsDifference before after c

input_differs : (statements : List PlainStatement) (h : History) (n : ℕ) (input : Input)
    → Differs (standing_after statements h) (standing_after statements (extended h input)) (reply_to_input statements h n input)
input_differs statements h n input = at (is_told h input)
  where
    at : (b : Bool)
        → Differs (standing_after statements h) (standing_after statements (extended h input))
        (cond b (Changing n (change_by statements h input)) Silent)
    at true = difference (standing_after statements h) (standing_after statements (extended h input))
    at false = tt

verdict_differs : (statements : List PlainStatement) (h : History) (n : ℕ) (v : Verdict)
    → Differs (standing_after statements h) (standing_after statements (after_verdict h v)) (reply statements h n v)
verdict_differs statements h n (Accepted input) = input_differs statements h n input
verdict_differs statements h n (Refused why) = tt

same_rules : (s : State) (saids : List Said) → (after_all s saids).rules ≡ s.rules
same_rules s [] = refl
same_rules s (said ∷ saids) = same_rules (after_said s said) saids

-- No reply takes away a detection that doesn't stand before its line or writes one that stands already: it writes just the
-- differences between what stands before its line and what stands after it.
pub replies_are_differences : (statements : List PlainStatement) (late : Option ℕ) (saids : List Said) (said : Said)
    → WritesDifference statements late saids said
replies_are_differences statements late saids said n c e =
    let s = after_all (start statements late) saids in
    let after = after_said s said in
    subst (λ rules. IsDifference (standing_after rules s.history) (standing_after rules after.history) c)
    (same_rules (start statements late) saids)
    (subst (Differs (standing_after s.rules s.history) (standing_after s.rules after.history)) e
    (verdict_differs s.rules s.history (s.count + 1) (verdict s.late s.history said)))
