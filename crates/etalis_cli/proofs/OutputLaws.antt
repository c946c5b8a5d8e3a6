-- The replies to lines, and what they leave.
use Rattle.std.proofs.Common.{◌≡◌, ℕ, ◌+◌, zero, suc, Option, List, [], ◌∷◌, ◌++◌, length, map, take, refl, sym, ap, ◌∙◌, subst, zero-add, arith, ◌≤◌, Bool, true, false, if◌then◌else◌}
use Rattle.std.specs.Prelude.{max}
use Rattle.std.specs.List.{flat_map, sum_by}
use Rattle.std.proofs.lemmas.List.Sums.{sum_by-cons}
use Rattle.event_model.specs.Bytes.{plus}
use Rattle.event_model.specs.Lines.{lines_of}
use Rattle.std.proofs.lemmas.Bool.Decides.{nat_tests}
use Rattle.event_model.specs.Presence.{History, Said, Verdict, Accepted, Refused, verdict, in_batch}
use Rattle.rule_ast.specs.Trees.{PlainStatement}
use Rattle.pattern_meaning.specs.Replies.{State, Reply, Silent, Refusing, Changing, change_by, is_told, reply, replies_to, reply_to_said, reply_text, change_texts, end_text, drill_text, after_said, standing_after}
use Rattle.pattern_meaning.specs.Left.{left_is_standing}
use Rattle.event_reader.specs.Machine.{heard}
use Rattle.revision.specs.Holding.{MOST_COUNTED, counted as capped}
use Rattle.etalis_core.specs.StandsFor.{visits_by}
use Rattle.etalis_cli.specs.Headline.{told_in, withdrawn_in, texts_with_held, IsWritten, IsHeld, IsScratched, IsDrilled, LeavesWhatStands}
use Rattle.etalis_cli.specs.Output.{Setting, Talk, start, after, after_line, refusal_in, held_in, rows_after, events_after, rows_in, most_rows, visits_in, visits_said, visits_to, tallied, counted, tally_after, closing_in, closing, texts_said, replies_said, after_said_all, same_voice}
use Rattle.etalis_cli.specs.declared.voices.Voice.{Voice}
use Rattle.etalis_cli.specs.declared.voices.Voice.TheVariants.{Replies, Held, Refusals, Counts}
use Rattle.etalis_cli.specs.declared.voices.Tally.{Tally}
use Rattle.etalis_cli.proofs.FeedLaws.{count-after}

-- what is written at once, by the voice
replied : (s : State) (lines : List Said) → texts_said Replies s lines ≡ flat_map reply_text (replies_to s lines)
replied s [] = refl
replied s (said ∷ more) = ap (λ r. reply_text (reply_to_said s said) ++ r) (replied (after_said s said) more)

replied_with_held : (s : State) (lines : List Said) → texts_said Held s lines ≡ texts_with_held s lines
replied_with_held s [] = refl
replied_with_held s (said ∷ more) =
    let next : State = after_said s said in
    ap (λ r. (reply_text (reply_to_said s said) ++ held_in (reply_to_said s said) (rows_after next) (events_after next)) ++ r)
    (replied_with_held next more)

refusals_only : (s : State) (lines : List Said) → texts_said Refusals s lines ≡ flat_map refusal_in (replies_to s lines)
refusals_only s [] = refl
refusals_only s (said ∷ more) = ap (λ r. refusal_in (reply_to_said s said) ++ r) (refusals_only (after_said s said) more)

no_text : (s : State) (lines : List Said) → texts_said Counts s lines ≡ []
no_text s [] = refl
no_text s (said ∷ more) = no_text (after_said s said) more

pub written : (rules : List PlainStatement) (late : Option ℕ) (bytes : List ℕ) → IsWritten rules late bytes
written rules late bytes =
    let t : Talk = start (record { rules = rules; late = late; voice = Replies }) in
    let lines : List (List ℕ) = lines_of bytes in
    let counted : (after t lines).state.count ≡ length lines = count-after t lines ∙ zero-add (length lines) in
    let text : List ℕ = flat_map reply_text (replies_to t.state (map heard lines)) in
    ap (λ r. r ++ closing (after t lines)) (replies_said t lines ∙ replied t.state (map heard lines))
    ∙ ap (λ v. text ++ closing_in v (after t lines).state (after t lines).tally) (same_voice t lines)
    ∙ (λ i. text ++ end_text (counted i) (in_batch (after_said_all t lines i).history))

pub written_held : (rules : List PlainStatement) (late : Option ℕ) (bytes : List ℕ) → IsHeld rules late bytes
written_held rules late bytes =
    let t : Talk = start (record { rules = rules; late = late; voice = Held }) in
    let lines : List (List ℕ) = lines_of bytes in
    let counted : (after t lines).state.count ≡ length lines = count-after t lines ∙ zero-add (length lines) in
    let text : List ℕ = texts_with_held t.state (map heard lines) in
    ap (λ r. r ++ closing (after t lines)) (replies_said t lines ∙ replied_with_held t.state (map heard lines))
    ∙ ap (λ v. text ++ closing_in v (after t lines).state (after t lines).tally) (same_voice t lines)
    ∙ (λ i. text ++ end_text (counted i) (in_batch (after_said_all t lines i).history))

rules_after : (t : Talk) (lines : List (List ℕ)) → (after t lines).state.rules ≡ t.state.rules
rules_after t [] = refl
rules_after t (line ∷ lines) = rules_after (after_line t line) lines

pub scratched : (rules : List PlainStatement) (late : Option ℕ) (bytes : List ℕ) → IsScratched rules late bytes
scratched rules late bytes =
    let t : Talk = start (record { rules = rules; late = late; voice = Refusals }) in
    let lines : List (List ℕ) = lines_of bytes in
    let counted : (after t lines).state.count ≡ length lines = count-after t lines ∙ zero-add (length lines) in
    let text : List ℕ = flat_map refusal_in (replies_to t.state (map heard lines)) in
    ap (λ r. r ++ closing (after t lines)) (replies_said t lines ∙ refusals_only t.state (map heard lines))
    ∙ ap (λ v. text ++ closing_in v (after t lines).state (after t lines).tally) (same_voice t lines)
    ∙ (λ i. text ++ (change_texts plus (standing_after (rules_after t lines i) (after_said_all t lines i).history)
    ++ end_text (counted i) (in_batch (after_said_all t lines i).history)))

-- ---- what is counted

tallied_told : (tally : Tally) (r : Reply) (visits rows : ℕ) → (tallied tally r visits rows).told ≡ tally.told + told_in r
tallied_told tally Silent visits rows = omega arith
tallied_told tally (Refusing n why) visits rows = omega arith
tallied_told tally (Changing n c) visits rows = refl

tallied_withdrawn : (tally : Tally) (r : Reply) (visits rows : ℕ) → (tallied tally r visits rows).withdrawn ≡ tally.withdrawn + withdrawn_in r
tallied_withdrawn tally Silent visits rows = omega arith
tallied_withdrawn tally (Refusing n why) visits rows = omega arith
tallied_withdrawn tally (Changing n c) visits rows = refl

tallied_held : (tally : Tally) (r : Reply) (visits rows : ℕ) → (tallied tally r visits rows).held ≡ max tally.held (rows_in r rows)
tallied_held tally Silent visits rows = omega arith
tallied_held tally (Refusing n why) visits rows = omega arith
tallied_held tally (Changing n c) visits rows = refl

-- a count that isn't past its end, and none more
none_more : (n : ℕ) → n ≤ MOST_COUNTED → n ≡ capped (n + 0)
none_more n few = grind (arith, nat_tests)

-- the visits of a line
tallied_visits : (rules : List PlainStatement) (late : Option ℕ) (h : History) (n : ℕ) (v : Verdict) (tally : Tally) (rows : ℕ) → tally.visits ≤ MOST_COUNTED
    → (tallied tally (reply rules h n v) (visits_in rules late h v) rows).visits ≡ capped (tally.visits + visits_in rules late h v)
tallied_visits rules late h n (Refused why) tally rows few = none_more tally.visits few
tallied_visits rules late h n (Accepted input) tally rows few = at (is_told h input) (visits_by rules late h input)
  where
    at : (b : Bool) (visits : ℕ) → (tallied tally (if b then Changing n (change_by rules h input) else Silent) (if b then visits else 0) rows).visits
        ≡ capped (tally.visits + (if b then visits else 0))
    at true visits = refl
    at false visits = none_more tally.visits few

-- a line more, where the answers are counted
abbrev counted_by : Voice → Talk → List ℕ → Tally
counted_by v t line = counted v t.tally (reply_to_said t.state (heard line)) (visits_said t.state (heard line)) (rows_after (after_said t.state (heard line)))

line_told : (t : Talk) (line : List ℕ) → t.voice ≡ Counts → (tally_after t line).told ≡ t.tally.told + told_in (reply_to_said t.state (heard line))
unfolding tally_after
line_told t line e =
    ap (λ v. (counted_by v t line).told) e
    ∙ tallied_told t.tally (reply_to_said t.state (heard line)) (visits_said t.state (heard line)) (rows_after (after_said t.state (heard line)))

line_withdrawn : (t : Talk) (line : List ℕ) → t.voice ≡ Counts → (tally_after t line).withdrawn ≡ t.tally.withdrawn + withdrawn_in (reply_to_said t.state (heard line))
unfolding tally_after
line_withdrawn t line e =
    ap (λ v. (counted_by v t line).withdrawn) e
    ∙ tallied_withdrawn t.tally (reply_to_said t.state (heard line)) (visits_said t.state (heard line)) (rows_after (after_said t.state (heard line)))

line_held : (t : Talk) (line : List ℕ) → t.voice ≡ Counts
    → (tally_after t line).held ≡ max t.tally.held (rows_in (reply_to_said t.state (heard line)) (rows_after (after_said t.state (heard line))))
unfolding tally_after
line_held t line e =
    ap (λ v. (counted_by v t line).held) e
    ∙ tallied_held t.tally (reply_to_said t.state (heard line)) (visits_said t.state (heard line)) (rows_after (after_said t.state (heard line)))

line_visits : (t : Talk) (line : List ℕ) → t.voice ≡ Counts → t.tally.visits ≤ MOST_COUNTED
    → (tally_after t line).visits ≡ capped (t.tally.visits + visits_said t.state (heard line))
unfolding tally_after
line_visits t line e few =
    ap (λ v. (counted_by v t line).visits) e
    ∙ tallied_visits t.state.rules t.state.late t.state.history (t.state.count + 1) (verdict t.state.late t.state.history (heard line)) t.tally
    (rows_after (after_said t.state (heard line))) few

told_after : (t : Talk) (lines : List (List ℕ)) → t.voice ≡ Counts → (after t lines).tally.told ≡ t.tally.told + sum_by told_in (replies_to t.state (map heard lines))
told_after t [] e = omega arith
told_after t (line ∷ lines) e =
    let r : Reply = reply_to_said t.state (heard line) in
    omega (arith, told_after (after_line t line) lines e, line_told t line e, sum_by-cons told_in r (replies_to (after_said t.state (heard line)) (map heard lines)))

withdrawn_after : (t : Talk) (lines : List (List ℕ)) → t.voice ≡ Counts → (after t lines).tally.withdrawn ≡ t.tally.withdrawn + sum_by withdrawn_in (replies_to t.state (map heard lines))
withdrawn_after t [] e = omega arith
withdrawn_after t (line ∷ lines) e =
    let r : Reply = reply_to_said t.state (heard line) in
    omega (arith, withdrawn_after (after_line t line) lines e, line_withdrawn t line e, sum_by-cons withdrawn_in r (replies_to (after_said t.state (heard line)) (map heard lines)))

max_more : (a b m n : ℕ) → b ≡ max a m → max b n ≡ max a (max m n)
max_more a b m n e = omega (arith, e)

held_after : (t : Talk) (lines : List (List ℕ)) → t.voice ≡ Counts → (after t lines).tally.held ≡ max t.tally.held (most_rows t.state (map heard lines))
held_after t [] e = omega arith
held_after t (line ∷ lines) e =
    let next : State = after_said t.state (heard line) in
    held_after (after_line t line) lines e
    ∙ max_more t.tally.held (tally_after t line).held (rows_in (reply_to_said t.state (heard line)) (rows_after next)) (most_rows next (map heard lines)) (line_held t line e)

-- a count is never past its end
capped_few : (n : ℕ) → capped n ≤ MOST_COUNTED
capped_few n = grind (arith, nat_tests)

capped_more : (a m n : ℕ) → capped (capped (a + m) + n) ≡ capped (a + (m + n))
capped_more a m n = grind (arith, nat_tests)

visits_after : (t : Talk) (lines : List (List ℕ)) → t.voice ≡ Counts → t.tally.visits ≤ MOST_COUNTED
    → (after t lines).tally.visits ≡ capped (t.tally.visits + visits_to t.state (map heard lines))
visits_after t [] e few = none_more t.tally.visits few
visits_after t (line ∷ lines) e few =
    let one = line_visits t line e few in
    let few_more : (tally_after t line).visits ≤ MOST_COUNTED = subst (λ n. n ≤ MOST_COUNTED) (sym one) (capped_few (t.tally.visits + visits_said t.state (heard line))) in
    visits_after (after_line t line) lines e few_more
    ∙ ap (λ n. capped (n + visits_to (after_said t.state (heard line)) (map heard lines))) one
    ∙ capped_more t.tally.visits (visits_said t.state (heard line)) (visits_to (after_said t.state (heard line)) (map heard lines))

none_held : (n : ℕ) → max 0 n ≡ n
none_held n = omega arith

pub drilled : (rules : List PlainStatement) (late : Option ℕ) (bytes : List ℕ) → IsDrilled rules late bytes
drilled rules late bytes =
    let t : Talk = start (record { rules = rules; late = late; voice = Counts }) in
    let lines : List (List ℕ) = lines_of bytes in
    let rs : List Reply = replies_to t.state (map heard lines) in
    let told : (after t lines).tally.told ≡ sum_by told_in rs = told_after t lines refl ∙ zero-add (sum_by told_in rs) in
    let withdrawn : (after t lines).tally.withdrawn ≡ sum_by withdrawn_in rs = withdrawn_after t lines refl ∙ zero-add (sum_by withdrawn_in rs) in
    let all : ℕ = visits_to t.state (map heard lines) in
    let visits : (after t lines).tally.visits ≡ capped all = visits_after t lines refl (omega arith) ∙ ap capped (zero-add all) in
    let most : ℕ = most_rows t.state (map heard lines) in
    let held : (after t lines).tally.held ≡ most = held_after t lines refl ∙ none_held most in
    ap (λ r. r ++ closing (after t lines)) (replies_said t lines ∙ no_text t.state (map heard lines))
    ∙ ap (λ v. closing_in v (after t lines).state (after t lines).tally) (same_voice t lines)
    ∙ (λ i. drill_text (told i) (withdrawn i) (visits i) (held i))

pub first_replies : (s : State) (n : ℕ) (lines : List (List ℕ)) → replies_to s (map heard (take n lines)) ≡ take n (replies_to s (map heard lines))
first_replies s zero lines = refl
first_replies s (suc n) [] = refl
first_replies s (suc n) (line ∷ lines) = ap (λ r. reply_to_said s (heard line) ∷ r) (first_replies (after_said s (heard line)) n lines)

pub left_after : (w : Setting) (lines : List (List ℕ)) → LeavesWhatStands w lines
left_after w lines =
    left_is_standing w.rules w.late (map heard lines) ∙ ap (λ (s : State). standing_after w.rules s.history) (sym (after_said_all (start w) lines))
