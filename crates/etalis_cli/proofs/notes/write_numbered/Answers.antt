use Rattle.std.proofs.Common.{◌≡◌, ◌∙◌}
use Rattle.std.specs.Fmt.{decimal}
use Rattle.std.proofs.lemmas.Result.{on_err_weaker}
use Rattle.etalis_cli.proofs.NoteLaws.{part_longer, part_behind, any_err}
use Rattle.etalis_cli.proofs.notes.write_numbered.Goals as goal

pub returns-in_err-write_whole-clause-err : goal.returns-in_err-write_whole-clause-err
returns-in_err-write_whole-clause-err g c = any_err _ (part_longer _ _ _ _ c.in_err-write_whole.ensures.err)

pub returns-in_err-write_whole-2-clause-err : goal.returns-in_err-write_whole-2-clause-err
returns-in_err-write_whole-2-clause-err g c =
    let digits : c.as_bytes.result.now ≡ decimal c.args.number = c.as_bytes.ensures.value ∙ c.format.ensures.text in
    any_err _ (part_behind _ _ _ c.args.front.now _ c.in_ok-write_whole.ensures.ok (part_longer _ _ (decimal c.args.number) _ (rw digits at c.in_err-write_whole-2.ensures.err)))

pub returns-clause-err : goal.returns-clause-err
returns-clause-err g c =
    let digits : c.as_bytes.result.now ≡ decimal c.args.number = c.as_bytes.ensures.value ∙ c.format.ensures.text in
    on_err_weaker c.write_whole-3.result (λ p. part_behind _ _ _ c.args.front.now _ c.in_ok-write_whole.ensures.ok (part_behind _ _ _ (decimal c.args.number) _ (rw digits at c.in_ok-write_whole-2.ensures.ok) p)) c.write_whole-3.ensures.err
