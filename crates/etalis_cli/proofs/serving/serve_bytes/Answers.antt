use Rattle.std.proofs.Common.{[], arith}
use Rattle.etalis_cli.specs.Output.{start}
use Rattle.etalis_cli.specs.StandsFor.{setting_of}
use Rattle.etalis_cli.proofs.FeedLaws.{feeds_count}
use Rattle.etalis_cli.proofs.ServeLaws.{between_none, written_part, written_end}
use Rattle.etalis_cli.proofs.serving.serve_bytes.Goals as goal

pub feed-requires : goal.feed-requires
feed-requires g c = (start (setting_of c.args.session.now), [], between_none c.args.session.now c.new-reader.result c.requires.stands c.new-reader.ensures, omega arith)

pub finish-requires : goal.finish-requires
finish-requires g c =
    let f = c.in-Ok.ensures.ok (start (setting_of c.args.session.now)) [] (between_none c.args.session.now c.new-reader.result c.requires.stands c.new-reader.ensures) in
    (f.reached, f.rest, f.between, omega (arith, feeds_count _ _ _ f.feeds))

pub returns-in-Err-Memory-clause-written : goal.returns-in-Err-Memory-clause-written
returns-in-Err-Memory-clause-written g c =
    let w = setting_of c.args.session.now in
    written_part w _ _ c.args.bytes.now (c.in-Err-Memory.ensures.err (start w) [] (between_none c.args.session.now c.new-reader.result c.requires.stands c.new-reader.ensures))

pub returns-in-Err-Write-clause-written : goal.returns-in-Err-Write-clause-written
returns-in-Err-Write-clause-written g c =
    let w = setting_of c.args.session.now in
    written_part w _ _ c.args.bytes.now (c.in-Err-Write.ensures.err (start w) [] (between_none c.args.session.now c.new-reader.result c.requires.stands c.new-reader.ensures))

pub returns-clause-written : goal.returns-clause-written
returns-clause-written g c =
    let w = setting_of c.args.session.now in
    let f = c.in-Ok.ensures.ok (start w) [] (between_none c.args.session.now c.new-reader.result c.requires.stands c.new-reader.ensures) in
    written_end w c.finish.result _ _ _ c.args.bytes.now f.feeds (c.finish.ensures.ok f.reached f.rest f.between) (c.finish.ensures.err f.reached f.rest f.between)
    c.finish.ensures.read c.finish.ensures.too_long
