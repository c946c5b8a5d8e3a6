use Rattle.std.proofs.Common.{rules, arith, ◌≤◌, ◌<◌, ◌++◌, take, length, inl}
use Rattle.std.proofs.lemmas.List.{length-take, length-take-le, length-append}
use Rattle.etalis_cli.specs.declared.serving.TheConstants.{INPUT_LIMIT, MOST_PIECE_BYTES}
use Rattle.etalis_cli.proofs.ServeLaws.{reached_more, reached_count, served_end, served_long, reached_part, reached_takes}
use Rattle.etalis_cli.proofs.serving.serve.Goals as goal

pub finish-requires : goal.finish-requires
finish-requires g c = let (done, r) = c.loop-taken.invariant.progress in (r.reached, r.rest, r.between, omega (arith, reached_count _ _ _ _ _ _ _ _ _ r))

pub returns-then-n-eq0-clause-served : goal.returns-then-n-eq0-clause-served
returns-then-n-eq0-clause-served g c =
    let (done, r) = c.loop-taken.invariant.progress in
    let taken = rw c.if-n-eq0.true at c.in-Ok.ensures.bytes in
    let end = c.in-Ok.ensures.end c.if-n-eq0.true (search rules) in
    let ok = c.finish.ensures.ok r.reached r.rest r.between in
    let err = c.finish.ensures.err r.reached r.rest r.between in
    (done, served_end _ _ _ _ _ _ _ _ _ _ _ r.progress (search rules) taken end ok err c.finish.ensures.read c.finish.ensures.too_long)

pub feed-requires : goal.feed-requires
feed-requires g c =
    let (done, r) = c.loop-taken.invariant.progress in
    (r.reached, r.rest, r.between, omega (arith, reached_count _ _ _ _ _ _ _ _ _ r, length-take c.in-Ok.n c.read.new.buf))

pub loop-taken-preserved : goal.loop-taken-preserved
loop-taken-preserved g c =
    let (done, r) = c.loop-taken.invariant.progress in
    let n = c.in-Ok.n in
    let piece = take n c.read.new.buf in
    let within : n ≤ length c.read.new.buf = search rules in
    let len = length-take-le n c.read.new.buf within in
    record {
      progress = (done ++ piece, reached_more _ _ _ _ _ c.loop-taken.session c.feed.new.session c.loop-taken.reader c.feed.new.reader _ _ _ n _ _ r c.in-Ok.ensures.bytes len c.in-Ok-feed.ensures.ok);
      source_count = search rules;
      sink_count = search rules;
    }

pub returns-in-Err-Memory-clause-served : goal.returns-in-Err-Memory-clause-served
returns-in-Err-Memory-clause-served g c =
    let (done, r) = c.loop-taken.invariant.progress in
    let piece = take c.in-Ok.n c.read.new.buf in
    let small : length piece ≤ MOST_PIECE_BYTES = omega (arith, length-take c.in-Ok.n c.read.new.buf) in (
      done ++ piece,
      record {
        takes = reached_takes _ _ _ _ _ c.loop-taken.session c.loop-taken.reader _ _ _ _ r c.in-Ok.ensures.bytes;
        ends = reached_part _ _ _ (g.I.Source.left c.read.new.self) _ _ c.loop-taken.session c.loop-taken.reader _ _ _ piece r small c.in-Err-Memory.ensures.err;
      },
    )

pub returns-then-taken-lt-INPUT_LIMIT-clause-served : goal.returns-then-taken-lt-INPUT_LIMIT-clause-served
returns-then-taken-lt-INPUT_LIMIT-clause-served g c =
    let (done, r) = c.loop-taken.invariant.progress in
    let n = c.in-Ok.n in
    let piece = take n c.read.new.buf in
    let within : n ≤ length c.read.new.buf = search rules in
    let len = length-take-le n c.read.new.buf within in
    let small : length piece ≤ MOST_PIECE_BYTES = omega (arith, length-take n c.read.new.buf) in
    let low : length (done ++ piece) < INPUT_LIMIT = omega (arith, length-append done piece, len, r.progress.count) in (
      done ++ piece,
      record {
        takes = reached_takes _ _ _ _ _ c.loop-taken.session c.loop-taken.reader _ _ _ _ r c.in-Ok.ensures.bytes;
        ends = (low, reached_part _ _ _ (g.I.Source.left c.read.new.self) _ _ c.loop-taken.session c.loop-taken.reader _ _ _ piece r small c.in-Err-Write.ensures.err);
      },
    )

pub returns-in-Err-Write-clause-served : goal.returns-in-Err-Write-clause-served
returns-in-Err-Write-clause-served g c =
    let (done, r) = c.loop-taken.invariant.progress in
    let n = c.in-Ok.n in
    let piece = take n c.read.new.buf in
    let within : n ≤ length c.read.new.buf = search rules in
    let len = length-take-le n c.read.new.buf within in
    let small : length piece ≤ MOST_PIECE_BYTES = omega (arith, length-take n c.read.new.buf) in
    let high : INPUT_LIMIT ≤ length (done ++ piece) = omega (arith, length-append done piece, len, r.progress.count) in (
      done ++ piece,
      record {
        takes = reached_takes _ _ _ _ _ c.loop-taken.session c.loop-taken.reader _ _ _ _ r c.in-Ok.ensures.bytes;
        ends = (high, reached_part _ _ _ (g.I.Source.left c.read.new.self) _ _ c.loop-taken.session c.loop-taken.reader _ _ _ piece r small c.in-Err-Write.ensures.err, inl (search rules));
      },
    )

pub returns-clause-served : goal.returns-clause-served
returns-clause-served g c = let (done, r) = c.loop-taken.invariant.progress in (done, served_long _ _ _ _ _ _ _ _ r.progress (search rules))
