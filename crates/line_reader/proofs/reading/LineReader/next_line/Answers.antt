use Rattle.std.proofs.Common.{drop, refl, sym, subst, ◌∙◌, arith, length-drop, true≢false}
use Rattle.line_reader.specs.Cutting.{NoFeed, IsLine}
use Rattle.line_reader.proofs.HoldLaws.{no_feed-marked, open_kept, no_line, never_both, never_open, first_in_front, has_line, behind_line, still_open, slice_first}
use Rattle.line_reader.proofs.reading.LineReader.next_line.Goals as goal

pub returns-in_err-length : goal.returns-in_err-length
returns-in_err-length c =
    let reader = c.args.self.now in
    let items = drop reader.at reader.held.items in
    let plain = no_feed-marked items reader.last.passed c.in_err-length.ensures in (
      (
        refl,
        λ _. tt,
        record {
          same = λ bytes h plain. h;
          behind = λ bytes raw more h is of_raw. absurd (never_both raw more of_raw (subst NoFeed is (no_line _ bytes plain h.kept)));
          fewer = λ some. let none = rw c.from_residual.ensures at some in absurd (true≢false (sym none));
          few = λ none. omega (arith, open_kept items reader.last reader.counted plain, reader.few, length-drop reader.at reader.held.items);
        },
      ),
      record { line = λ bytes h. rw c.from_residual.ensures (no_line _ bytes plain h.kept); after_borrow = tt },
    )

pub invariant_of-self : goal.invariant_of-self
invariant_of-self c =
    let reader = c.args.self.now in
    let first = c.in_ok-length.ensures in
    record {
      placed = omega (arith, first.within, length-drop reader.at reader.held.items, reader.held.ok);
      counted = reader.counted ∙ still_open reader.held.items reader.last.passed reader.at c.in_ok-length.length first;
      few = reader.few;
      full = reader.full;
    }

pub returns : goal.returns
returns c =
    let reader = c.args.self.now in
    let items = reader.held.items in
    let at = reader.at in
    let n = c.in_ok-length.length in
    let first = c.in_ok-length.ensures in
    let told = subst (IsLine c.told.result) (slice_first c.deref.result.now items at n c.deref.ensures.value) c.told.ensures in (
      (
        refl,
        λ _. tt,
        record {
          same = λ bytes h plain. absurd (never_open _ bytes n (first_in_front n (drop at items) _ first) h.kept plain);
          behind = λ bytes raw more h is plain. record { kept = behind_line items bytes raw more reader.last.passed at n first h.kept is plain };
          fewer = λ some. omega (arith, first.within, length-drop at items);
          few = λ none. absurd (true≢false none);
        },
      ),
      record { line = λ bytes h. has_line _ bytes reader.last.passed n c.told.result first h.kept told; after_borrow = tt },
    )
