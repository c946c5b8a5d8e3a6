use Rattle.std.proofs.Common.{◌≡◌, ◌∙◌}
use Rattle.std.specs.Prelude.{codes}
use Rattle.std.proofs.lemmas.Result.{on_ok_weaker, on_err_weaker}
use Rattle.etalis_cli.specs.Rules.{numbered}
use Rattle.etalis_cli.proofs.NoteLaws.{part_longer, part_behind, gives_both, any_err}
use Rattle.etalis_cli.proofs.notes.write_named.Goals as goal

pub returns-in_err-write_numbered-clause-err : goal.returns-in_err-write_numbered-clause-err
returns-in_err-write_numbered-clause-err g c =
    any_err _ (part_longer _ _ (numbered (codes "etalis: rules: rule ") c.args.number c.args.words.now) _ c.in_err-write_numbered.ensures.err)

pub returns-in_err-write_whole-clause-err : goal.returns-in_err-write_whole-clause-err
returns-in_err-write_whole-clause-err g c =
    let word : c.as_bytes.result.now ≡ c.args.name.now = c.as_bytes.ensures.value ∙ c.as_str.ensures in
    any_err _ (part_behind _ _ _ (numbered (codes "etalis: rules: rule ") c.args.number c.args.words.now) _ c.in_ok-write_numbered.ensures.ok (part_longer _ _ c.args.name.now _ (rw word at c.in_err-write_whole.ensures.err)))

pub returns-clause-ok : goal.returns-clause-ok
returns-clause-ok g c =
    let word : c.as_bytes.result.now ≡ c.args.name.now = c.as_bytes.ensures.value ∙ c.as_str.ensures in
    on_ok_weaker c.write_whole-2.result
    (λ p. gives_both _ _ _ (numbered (codes "etalis: rules: rule ") c.args.number c.args.words.now) _ c.in_ok-write_numbered.ensures.ok (gives_both _ _ _ c.args.name.now _ (rw word at c.in_ok-write_whole.ensures.ok) p)) c.write_whole-2.ensures.ok

pub returns-clause-err : goal.returns-clause-err
returns-clause-err g c =
    let word : c.as_bytes.result.now ≡ c.args.name.now = c.as_bytes.ensures.value ∙ c.as_str.ensures in
    on_err_weaker c.write_whole-2.result
    (λ p. part_behind _ _ _ (numbered (codes "etalis: rules: rule ") c.args.number c.args.words.now) _ c.in_ok-write_numbered.ensures.ok (part_behind _ _ _ c.args.name.now _ (rw word at c.in_ok-write_whole.ensures.ok) p)) c.write_whole-2.ensures.err
