use Rattle.std.proofs.Common.{rules, ◌≡◌, ◌≢◌, ◌++◌, [], List, ℕ, drop, refl, sym, subst, ap, ◌∙◌, drop_of_length-le, append-nil, length, ◌≤◌}
use Rattle.line_reader.specs.declared.reading.OpenLine.{OpenLine}
use Rattle.line_reader.specs.Cutting.{IsLine}
use Rattle.line_reader.specs.Keeping.{mark_if, none_open}
use Rattle.line_reader.proofs.HoldLaws.{slice_behind, none_left, some_left, last_told, passed_long, long_told, no_length, some_length}
use Rattle.line_reader.proofs.reading.LineReader.finish.Goals as goal

-- nothing is left behind the end
nothing : (items : List ℕ) (at : ℕ) (last : OpenLine) → length items ≤ at → last ≡ none_open → drop at items ++ mark_if last.passed ≡ []
nothing items at last le e = ap (λ o. drop at items ++ mark_if o.passed) e ∙ append-nil (drop at items) ∙ drop_of_length-le items le

pub returns-then-passed : goal.returns-then-passed
returns-then-passed c =
    let reader = c.args.self.now in
    let items = drop reader.at reader.held.items in (
      (refl, λ _. tt, record { kept = nothing reader.held.items _ c.new-self.result (search rules) c.new-self.ensures }),
      record { line = λ bytes h plain. long_told bytes (passed_long items bytes reader.last reader.counted reader.full c.if-passed.true plain h.kept); after_borrow = tt },
    )

pub returns-then-is_empty : goal.returns-then-is_empty
returns-then-is_empty c =
    let reader = c.args.self.now in
    let items = drop reader.at reader.held.items in
    let raw = slice_behind c.deref.result.now reader.held.items reader.at c.deref.ensures.value in
    let none : items ≡ [] = sym raw ∙ no_length _ c.if-is_empty.ensures in
    let whole = ap (λ t. items ++ mark_if t) (sym c.if-passed.false) in (
      (refl, λ _. tt, record { kept = nothing reader.held.items _ c.new-self.result (search rules) c.new-self.ensures }),
      record { line = λ bytes h plain. none_left _ bytes plain (whole ∙ h.kept) none; after_borrow = tt },
    )

pub returns-else-is_empty : goal.returns-else-is_empty
returns-else-is_empty c =
    let reader = c.args.self.now in
    let items = drop reader.at reader.held.items in
    let raw = slice_behind c.deref.result.now reader.held.items reader.at c.deref.ensures.value in
    let told = subst (IsLine c.told.result) raw c.told.ensures in
    let some : items ≢ [] = λ none. some_length _ (raw ∙ none) c.if-is_empty.ensures in
    let whole = ap (λ t. items ++ mark_if t) (sym c.if-passed.false) in (
      (refl, λ _. tt, record { kept = nothing reader.held.items _ c.new-self.result (search rules) c.new-self.ensures }),
      record { line = λ bytes h plain. (some_left _ bytes (whole ∙ h.kept) some, last_told _ bytes c.told.result plain (whole ∙ h.kept) told); after_borrow = tt },
    )
