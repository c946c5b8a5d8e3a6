-- A line is refused exactly for its first cause.
use Rattle.std.proofs.Common.{◌≡◌, ◌↔◌, ◌<◌, ◌≤◌, ℕ, Bool, true, false, cond, not, Option, Some, refl, sym, ap, ◌∙◌, subst, inl, inr, arith}
use Rattle.std.specs.Prelude.{nat_lt, ◌==◌}
use Rattle.std.proofs.lemmas.Bool.{true≢false, ltb-true, ltb-false, lt-ltb, le-ltb, eqb-true, eq-eqb}
use Rattle.event_model.specs.Events.{time_of}
use Rattle.event_model.specs.Presence.{History, settled, all_inputs, in_batch, copies, bound, judge, Said, Says, Fails, Verdict, Accepted, Refused, verdict, verdict_of}
use Rattle.event_model.specs.declared.events.Event.{Event}
use Rattle.event_model.specs.declared.inputs.Input.{Input}
use Rattle.event_model.specs.declared.inputs.Input.TheVariants.{Add, Take, Advance, Nothing, Begin, Commit}
use Rattle.event_model.specs.declared.inputs.Judgement.{Judgement}
use Rattle.event_model.specs.declared.inputs.Judgement.TheVariants as judgement
use Rattle.event_model.specs.declared.inputs.Refusal.{Refusal}
use Rattle.event_model.specs.declared.inputs.Refusal.TheVariants.{Syntax, Batch, Below, Absent}
use Rattle.pattern_meaning.specs.Refusals.{time_in, SaysNoInput, SaysMisplaced, SaysBelow, SaysAbsent, SaysFine}

-- ---- what a verdict comes from

-- an input with this time: it is below the bound, or the rest decides
abbrev timed : Option ℕ → History → ℕ → Judgement → Judgement
timed late h t rest = cond (nat_lt t (bound late (settled h))) (judgement.Below (bound late (settled h))) rest

-- a word of batches
abbrev word : Bool → Judgement
word misplaced = cond misplaced judgement.Batch judgement.Fine

abbrev copied : Bool → Judgement
copied absent = cond absent judgement.Absent judgement.Fine

abbrev IsVerdict : Judgement → Input → Verdict → Type 0
IsVerdict j input v = verdict_of j input ≡ v

module _ (late : Option ℕ) (h : History) where
  abbrev top : ℕ
  top = bound late (settled h)

  -- of an input with a time
  timed_below : (t b : ℕ) (input : Input) (rest : Judgement) → (IsVerdict rest input (Refused (Below b)) → ⊥) → IsVerdict (timed late h t rest) input (Refused (Below b)) → (b ≡ top) × (t < b)
  timed_below t b input rest other v = at (nat_lt t top) refl v
    where
      at : (c : Bool) → nat_lt t top ≡ c → IsVerdict (cond c (judgement.Below top) rest) input (Refused (Below b)) → (b ≡ top) × (t < b)
      at true l v = let same : top ≡ b = cc in (sym same, subst (λ n. t < n) same (ltb-true t top l))
      at false l v = absurd (other v)

  copied_never_below : (c : Bool) (input : Input) (b : ℕ) → IsVerdict (copied c) input (Refused (Below b)) → ⊥
  copied_never_below true input b v = cc
  copied_never_below false input b v = cc

  word_never_below : (c : Bool) (input : Input) (b : ℕ) → IsVerdict (word c) input (Refused (Below b)) → ⊥
  word_never_below true input b v = cc
  word_never_below false input b v = cc

  -- a line that says this input with this time
  says_below : (input : Input) (t b : ℕ) → time_in input ≡ Some t → (b ≡ top) × (t < b) → SaysBelow late h (Says input) b
  says_below input t b time p = (p.0, (input, (t, (refl, time, p.1))))

  below_forth : (said : Said) (b : ℕ) → verdict late h said ≡ Refused (Below b) → SaysBelow late h said b
  below_forth (Fails at) b v = cc
  below_forth (Says (Add e)) b v =
      says_below (Add e) (time_of e) b refl (timed_below (time_of e) b (Add e) judgement.Fine (λ w. cc) v)
  below_forth (Says (Take e)) b v =
      let absent = copies (all_inputs h) e == 0 in
      says_below (Take e) (time_of e) b refl
      (timed_below (time_of e) b (Take e) (copied absent) (copied_never_below absent (Take e) b) v)
  below_forth (Says (Advance t)) b v =
      says_below (Advance t) t b refl (timed_below t b (Advance t) judgement.Fine (λ w. cc) v)
  below_forth (Says Nothing) b v = cc
  below_forth (Says Begin) b v = absurd (word_never_below (in_batch h) Begin b v)
  below_forth (Says Commit) b v = absurd (word_never_below (not (in_batch h)) Commit b v)

  is_timed : (t : ℕ) (input : Input) (rest : Judgement) → t < top → IsVerdict (timed late h t rest) input (Refused (Below top))
  is_timed t input rest l = ap (λ c. verdict_of (cond c (judgement.Below top) rest) input) (lt-ltb t top l)

  input_below : (input : Input) (t : ℕ) → time_in input ≡ Some t → t < top → IsVerdict (judge late h input) input (Refused (Below top))
  input_below (Add e) t time l = let same : time_of e ≡ t = cc in is_timed (time_of e) (Add e) judgement.Fine (omega (arith, l, same))
  input_below (Take e) t time l =
      let same : time_of e ≡ t = cc in is_timed (time_of e) (Take e) (copied (copies (all_inputs h) e == 0)) (omega (arith, l, same))
  input_below (Advance u) t time l = let same : u ≡ t = cc in is_timed u (Advance u) judgement.Fine (omega (arith, l, same))
  input_below Nothing t time l = cc
  input_below Begin t time l = cc
  input_below Commit t time l = cc

  below_back : (said : Said) (b : ℕ) → SaysBelow late h said b → verdict late h said ≡ Refused (Below b)
  below_back said b (same, (input, (t, (says, time, less)))) =
      ap (verdict late h) says ∙ input_below input t time (omega (arith, less, same)) ∙ ap (λ n. Refused (Below n)) (sym same)

  -- ---- misplaced words

  timed_never : (t : ℕ) (input : Input) (rest : Judgement) (v : Verdict) → ((b : ℕ) → v ≡ Refused (Below b) → ⊥)
      → (IsVerdict rest input v → ⊥) → IsVerdict (timed late h t rest) input v → ⊥
  timed_never t input rest v above other w = at (nat_lt t top) w
    where
      at : (c : Bool) → IsVerdict (cond c (judgement.Below top) rest) input v → ⊥
      at true w = above top (sym w)
      at false w = other w

  copied_never_batch : (c : Bool) (input : Input) → IsVerdict (copied c) input (Refused Batch) → ⊥
  copied_never_batch true input v = cc
  copied_never_batch false input v = cc

  word_misplaced : (c : Bool) (input : Input) → IsVerdict (word c) input (Refused Batch) → c ≡ true
  word_misplaced true input v = refl
  word_misplaced false input v = cc

  outside : (c : Bool) → not c ≡ true → c ≡ false
  outside true e = absurd (true≢false (sym e))
  outside false e = refl

  batch_forth : (said : Said) → verdict late h said ≡ Refused Batch → SaysMisplaced h said
  batch_forth (Fails at) v = cc
  batch_forth (Says (Add e)) v = absurd (timed_never (time_of e) (Add e) judgement.Fine (Refused Batch) (λ b w. cc) (λ w. cc) v)
  batch_forth (Says (Take e)) v =
      let absent = copies (all_inputs h) e == 0 in
      absurd (timed_never (time_of e) (Take e) (copied absent) (Refused Batch) (λ b w. cc) (copied_never_batch absent (Take e)) v)
  batch_forth (Says (Advance t)) v = absurd (timed_never t (Advance t) judgement.Fine (Refused Batch) (λ b w. cc) (λ w. cc) v)
  batch_forth (Says Nothing) v = cc
  batch_forth (Says Begin) v = inl (refl, word_misplaced (in_batch h) Begin v)
  batch_forth (Says Commit) v = inr (refl, outside (in_batch h) (word_misplaced (not (in_batch h)) Commit v))

  batch_back : (said : Said) → SaysMisplaced h said → verdict late h said ≡ Refused Batch
  batch_back said (inl (says, opened)) = ap (verdict late h) says ∙ ap (λ c. verdict_of (word c) Begin) opened
  batch_back said (inr (says, none)) = ap (verdict late h) says ∙ ap (λ c. verdict_of (word (not c)) Commit) none

  -- ---- absent events

  word_never_absent : (c : Bool) (input : Input) → IsVerdict (word c) input (Refused Absent) → ⊥
  word_never_absent true input v = cc
  word_never_absent false input v = cc

  taken_absent : (e : Event) → verdict late h (Says (Take e)) ≡ Refused Absent → SaysAbsent late h (Says (Take e))
  taken_absent e v = let p = above (nat_lt (time_of e) top) refl v in (e, (refl, p.0, p.1))
    where
      missing : (c : Bool) → (copies (all_inputs h) e == 0) ≡ c → IsVerdict (copied c) (Take e) (Refused Absent) → copies (all_inputs h) e ≡ 0
      missing true m v = eqb-true (copies (all_inputs h) e) 0 m
      missing false m v = cc

      above : (c : Bool) → nat_lt (time_of e) top ≡ c
          → IsVerdict (cond c (judgement.Below top) (copied (copies (all_inputs h) e == 0))) (Take e) (Refused Absent)
          → (top ≤ time_of e) × (copies (all_inputs h) e ≡ 0)
      above true l v = cc
      above false l v = (ltb-false (time_of e) top l, missing (copies (all_inputs h) e == 0) refl v)

  absent_forth : (said : Said) → verdict late h said ≡ Refused Absent → SaysAbsent late h said
  absent_forth (Fails at) v = cc
  absent_forth (Says (Add e)) v = absurd (timed_never (time_of e) (Add e) judgement.Fine (Refused Absent) (λ b w. cc) (λ w. cc) v)
  absent_forth (Says (Take e)) v = taken_absent e v
  absent_forth (Says (Advance t)) v = absurd (timed_never t (Advance t) judgement.Fine (Refused Absent) (λ b w. cc) (λ w. cc) v)
  absent_forth (Says Nothing) v = cc
  absent_forth (Says Begin) v = absurd (word_never_absent (in_batch h) Begin v)
  absent_forth (Says Commit) v = absurd (word_never_absent (not (in_batch h)) Commit v)

  absent_back : (said : Said) → SaysAbsent late h said → verdict late h said ≡ Refused Absent
  absent_back said (e, (says, above, none)) =
      ap (verdict late h) says
      ∙ ap (λ c. verdict_of (cond c (judgement.Below top) (copied (copies (all_inputs h) e == 0))) (Take e)) (le-ltb (time_of e) top above)
      ∙ ap (λ c. verdict_of (copied c) (Take e)) (eq-eqb (copies (all_inputs h) e) 0 none)

  -- ---- the syntax

  judged_never_syntax : (j : Judgement) (input : Input) (place : ℕ) → IsVerdict j input (Refused (Syntax place)) → ⊥
  judged_never_syntax judgement.Fine input place v = cc
  judged_never_syntax judgement.Batch input place v = cc
  judged_never_syntax (judgement.Below b) input place v = cc
  judged_never_syntax judgement.Absent input place v = cc

  syntax_forth : (said : Said) (place : ℕ) → verdict late h said ≡ Refused (Syntax place) → SaysNoInput said place
  syntax_forth (Fails at) place v = let same : at ≡ place = cc in ap Fails same
  syntax_forth (Says input) place v = absurd (judged_never_syntax (judge late h input) input place v)

  syntax_back : (said : Said) (place : ℕ) → SaysNoInput said place → verdict late h said ≡ Refused (Syntax place)
  syntax_back said place says = ap (verdict late h) says

  -- ---- what is accepted

  judged_fine : (j : Judgement) (said_input input : Input) → IsVerdict j said_input (Accepted input) → said_input ≡ input
  judged_fine judgement.Fine said_input input v = cc
  judged_fine judgement.Batch said_input input v = cc
  judged_fine (judgement.Below b) said_input input v = cc
  judged_fine judgement.Absent said_input input v = cc

  fine_forth : (said : Said) (input : Input) → verdict late h said ≡ Accepted input → SaysFine late h said input
  fine_forth (Fails at) input v = cc
  fine_forth (Says own) input v = (
    ap Says (judged_fine (judge late h own) own input v),
    (λ s. other (Batch) (sym (batch_back (Says own) s) ∙ v)),
    (λ b s. other (Below b) (sym (below_back (Says own) b s) ∙ v)),
    (λ s. other Absent (sym (absent_back (Says own) s) ∙ v)),
  )
    where
      other : (why : Refusal) → Refused why ≡ Accepted input → ⊥
      other why w = cc

  -- it is accepted, or one of the causes applies
  judged : (said : Said) (input : Input) → said ≡ Says input → (v : Verdict) → verdict late h said ≡ v
      → (SaysMisplaced h said → ⊥) → ((b : ℕ) → SaysBelow late h said b → ⊥) → (SaysAbsent late h said → ⊥) → v ≡ Accepted input
  judged said input says (Accepted own) v m b a =
      ap Accepted (sym (judged_fine (judge late h input) input own (sym (ap (verdict late h) says) ∙ v)))
  judged said input says (Refused (Syntax place)) v m b a = let p = syntax_forth said place v in cc
  judged said input says (Refused Batch) v m b a = absurd (m (batch_forth said v))
  judged said input says (Refused (Below n)) v m b a = absurd (b n (below_forth said n v))
  judged said input says (Refused Absent) v m b a = absurd (a (absent_forth said v))

  fine_back : (said : Said) (input : Input) → SaysFine late h said input → verdict late h said ≡ Accepted input
  fine_back said input (says, placed, above, there) = judged said input says (verdict late h said) refl placed above there

  pub refused_for_syntax : (said : Said) (place : ℕ) → (verdict late h said ≡ Refused (Syntax place)) ↔ SaysNoInput said place
  refused_for_syntax said place = (syntax_forth said place, syntax_back said place)

  pub refused_as_misplaced : (said : Said) → (verdict late h said ≡ Refused Batch) ↔ SaysMisplaced h said
  refused_as_misplaced said = (batch_forth said, batch_back said)

  pub refused_as_below : (said : Said) (b : ℕ) → (verdict late h said ≡ Refused (Below b)) ↔ SaysBelow late h said b
  refused_as_below said b = (below_forth said b, below_back said b)

  pub refused_as_absent : (said : Said) → (verdict late h said ≡ Refused Absent) ↔ SaysAbsent late h said
  refused_as_absent said = (absent_forth said, absent_back said)

  pub accepted_else : (said : Said) (input : Input) → (verdict late h said ≡ Accepted input) ↔ SaysFine late h said input
  accepted_else said input = (fine_forth said input, fine_back said input)
