use Rattle.std.proofs.Common.{ℕ, ◌+◌, ◌≤◌, length, arith, subst, length-drop}
use Rattle.std.proofs.lemmas.Bool.{false≢true}
use Rattle.std.proofs.lemmas.List.{take_rest}
use Rattle.rule_lexer.specs.Places.{TokenAt, IsLongest}
use Rattle.rule_lexer.proofs.PlaceLaws.{longest_at}
use Rattle.rule_lexer.proofs.EdgeLaws.{token_cuts, token_some}
use Rattle.rule_lexer.proofs.scanning.next_token.Goals as goal

longest : (c : goal.In-Ok) → IsLongest c.args.text.now c.in-Ok.kind (c.args.at + c.skipped.result) (c.args.at + c.skipped.result + c.in-Ok.len)
longest c =
    let within : c.args.at + c.skipped.result ≤ length c.args.text.now = omega (arith, length-drop c.args.at c.as_bytes-bytes.result.now, c.skipped.ensures.within, c.requires.0) in
    let h = rw (take_rest c.as_bytes-bytes.result.now (c.args.at + c.skipped.result), c.as_bytes-bytes.ensures.value) at c.in-Ok.ensures in
    longest_at c.args.text.now c.in-Ok.kind (c.args.at + c.skipped.result) c.in-Ok.len within h

pub returns-in-Ok-clause-longest : goal.returns-in-Ok-clause-longest
returns-in-Ok-clause-longest c = longest c

pub returns-in-Ok-clause-ends : goal.returns-in-Ok-clause-ends
returns-in-Ok-clause-ends c = token_cuts c.args.text.now c.in-Ok.kind (c.args.at + c.skipped.result) (c.args.at + c.skipped.result + c.in-Ok.len) c.utf8.text (longest c).stands

pub returns-in-Ok-clause-some : goal.returns-in-Ok-clause-some
returns-in-Ok-clause-some c = token_some c.args.text.now c.in-Ok.kind (c.args.at + c.skipped.result) (c.args.at + c.skipped.result + c.in-Ok.len) (longest c).stands

pub returns-in-Ok-clause-exact : goal.returns-in-Ok-clause-exact
returns-in-Ok-clause-exact c =
    let place = rw (take_rest c.as_bytes-bytes.result.now c.args.at, c.as_bytes-bytes.ensures.value) at c.skipped.ensures.value in
    let to : ℕ = c.args.at + c.skipped.result + c.in-Ok.len in
    (λ e. absurd (false≢true e), λ h. absurd (h.1 c.in-Ok.kind to (subst (λ s. TokenAt c.args.text.now c.in-Ok.kind (c.args.at + s) to) place (longest c).stands)))
