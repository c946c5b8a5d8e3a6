-- In a batch nothing is told before its end, and what stands stays.
use Rattle.std.proofs.Common.{◌≡◌, ℕ, true, false, cond, not, ◌&&◌, List, refl, ap, inl, inr}
use Rattle.event_model.specs.Presence.{History, in_batch}
use Rattle.event_model.specs.declared.inputs.Input.{Input}
use Rattle.event_model.specs.declared.inputs.Input.TheVariants.{Add, Take, Advance, Nothing, Begin, Commit}
use Rattle.rule_ast.specs.Trees.{PlainStatement}
use Rattle.pattern_meaning.specs.Replies.{Silent, Changing, change_by, is_told}
use Rattle.pattern_meaning.specs.Left.{IsWithheld, IsQuiet, untold}

withheld_in_batch : (h : History) (input : Input) → (input ≡ Begin → ⊥) → IsWithheld h input → in_batch h ≡ true
withheld_in_batch h input other (inl e) = absurd (other e)
withheld_in_batch h input other (inr w) = w.0

withheld_untold : (h : History) (input : Input) → IsWithheld h input → is_told h input ≡ false
withheld_untold h (Add e) w = ap (λ b. not b && true) (withheld_in_batch h (Add e) (λ same. cc) w)
withheld_untold h (Take e) w = ap (λ b. not b && true) (withheld_in_batch h (Take e) (λ same. cc) w)
withheld_untold h (Advance t) w = ap (λ b. not b && true) (withheld_in_batch h (Advance t) (λ same. cc) w)
withheld_untold h Nothing w = ap (λ b. not b && false) (withheld_in_batch h Nothing (λ same. cc) w)
withheld_untold h Begin w = refl
withheld_untold h Commit (inl e) = cc
withheld_untold h Commit (inr w) = absurd (w.1 refl)

-- In a batch nothing is told, and nothing changes.
pub withheld_is_quiet : (statements : List PlainStatement) (h : History) (n : ℕ) (input : Input) → IsWithheld h input
    → IsQuiet statements h n input
withheld_is_quiet statements h n input w =
    let t = withheld_untold h input w in (
      ap (λ b. cond b (Changing n (change_by statements h input)) Silent) t,
      untold h.groups h.batch input t,
    )
