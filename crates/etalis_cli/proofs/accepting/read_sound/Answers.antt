use Rattle.std.proofs.Common.{sym}
use Rattle.etalis_cli.proofs.RuleLaws.{syntax_refused, limit_refused, unsound_refused, few_names}
use Rattle.etalis_cli.proofs.accepting.read_sound.Goals as goal

pub returns-in-Err-Syntax : goal.returns-in-Err-Syntax
returns-in-Err-Syntax c =
    syntax_refused c.args.file.now c.in-Ok.text.now c.in-Ok.ensures.cases.0 c.if-file-gt-MOST_FILE_BYTES.false c.in-Ok.ensures.cases.1
    c.in-Err-Syntax.at _ (sym c.in-Err-Syntax.at-is) c.in-Err-Syntax.field-0 c.in-Err-Syntax.field-0-is c.in-Err-Syntax.ensures.answers c.in-Err-Syntax.ensures.only

pub returns-in-Err-Limit : goal.returns-in-Err-Limit
returns-in-Err-Limit c =
    limit_refused c.args.file.now c.in-Ok.text.now c.in-Ok.ensures.cases.0 c.if-file-gt-MOST_FILE_BYTES.false c.in-Ok.ensures.cases.1
    c.in-Err-Limit.which _ c.in-Err-Limit.at _ (sym c.in-Err-Limit.which-is) (sym c.in-Err-Limit.at-is) c.in-Err-Limit.field-0 c.in-Err-Limit.field-0-is c.in-Err-Limit.ensures.answers c.in-Err-Limit.ensures.only

pub check-requires-clause-few : goal.check-requires-clause-few
check-requires-clause-few c =
    few_names c.args.file.now c.in-Ok.text.now c.in-Ok.ensures.cases.0 c.if-file-gt-MOST_FILE_BYTES.false c.in-Ok.ensures.cases.1
    c.in-Ok-parse.rules c.in-Ok-parse.ensures.answers c.in-Ok-parse.ensures.only c.in-Ok-parse.ensures.few_shown

pub returns-in_default : goal.returns-in_default
returns-in_default c =
    unsound_refused c.args.file.now c.in-Ok.text.now c.in-Ok.ensures.cases.0 c.if-file-gt-MOST_FILE_BYTES.false c.in-Ok.ensures.cases.1
    c.in-Ok-parse.rules c.in-Ok-parse.ensures.answers c.in-Ok-parse.ensures.only c.in-Err-check.fault c.in-Err-check.ensures.refused c.in_default.not-Memory c.in-Err-check.ensures.exact
