use Rattle.std.proofs.lemmas.Result.{err_from_is_err_and}
use Rattle.event_reader.specs.EventLines.{begin_word, commit_word, Written.BeginLine, Written.CommitLine}
use Rattle.event_reader.proofs.Pieces.{is_commit, is_begin, word_fails, word_read}
use Rattle.event_reader.proofs.words.word_at.Goals as goal

pub returns-in_err-alone_at : goal.returns-in_err-alone_at
returns-in_err-alone_at c =
    let p = err_from_is_err_and c.from_residual.result c.from_residual.ensures.1 in
    rw (p.1, p.2) (word_fails _ c.args.at commit_word CommitLine _ (is_commit _ c.args.at c.if-stands_at.ensures) c.in_err-alone_at.ensures)

pub returns-in_err-alone_at-2 : goal.returns-in_err-alone_at-2
returns-in_err-alone_at-2 c =
    let p = err_from_is_err_and c.from_residual-in_err-alone_at-2.result c.from_residual-in_err-alone_at-2.ensures.1 in
    rw (p.1, p.2) (word_fails _ c.args.at begin_word BeginLine _ (is_begin _ c.args.at c.if-stands_at.ensures) c.in_err-alone_at-2.ensures)

pub returns-in_ok-alone_at : goal.returns-in_ok-alone_at
returns-in_ok-alone_at c = word_read _ c.args.at commit_word CommitLine _ (is_commit _ c.args.at c.if-stands_at.ensures) c.in_ok-alone_at.ensures

pub returns-in_ok-alone_at-2 : goal.returns-in_ok-alone_at-2
returns-in_ok-alone_at-2 c = word_read _ c.args.at begin_word BeginLine _ (is_begin _ c.args.at c.if-stands_at.ensures) c.in_ok-alone_at-2.ensures
