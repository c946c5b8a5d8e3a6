use Rattle.std.proofs.Common.{sym, ap, ◌∙◌, unwrap_or}
use Rattle.std.specs.Option.{option_map, option_and_then}
use Rattle.ev_bind.specs.Rows.{row_writes, exact_rows}
use Rattle.row_table.specs.Counts.{count_number, count_same, count_others}
use Rattle.row_table.specs.Pairs.{get}
use Rattle.row_table.specs.Tables.{hashed}
use Rattle.support_table.specs.Supports.{count_of}
use Rattle.support_table.proofs.Counting.{on_err}
use Rattle.support_table.proofs.kept.Supports.add_new.Goals as goal

pub returns-in_err-number-clause-err : goal.returns-in_err-number-clause-err
unfolding count_of
returns-in_err-number-clause-err c = let e = c.in_err-number.ensures.err in
    on_err _ _ (count_same exact_rows c.args.self.now.rows c.number.new.self
    (λ n s. ap (λ o. option_and_then (λ l. get l s) (option_map (λ x. x.value) o)) (e n)) (λ n k h. ap (option_map (λ x. x.key)) (e n) ∙ h))

pub returns-in-Err-clause-err : goal.returns-in-Err-clause-err
unfolding count_of
returns-in-Err-clause-err c = λ s r.
    sym (count_same exact_rows c.tidy.new.self c.put.new.self (λ n s. sym (c.tidy.ensures.values n s)) c.tidy.ensures.rows s r)
    ∙ count_same exact_rows c.number.new.self c.put.new.self c.in-Err.ensures.err (λ n k h. c.put.ensures.keys n ∙ h) s r
    ∙ count_same exact_rows c.args.self.now.rows c.number.new.self c.in_ok-number.ensures.values c.in_ok-number.ensures.keys s r

pub returns-clause-counts : goal.returns-clause-counts
unfolding count_of
returns-clause-counts c =
    let n = c.in_ok-number.number in let held = c.in_ok-number.ensures.held in let now = c.put.ensures.keys n ∙ held in
    record {
      this = count_number exact_rows (hashed row_writes) c.put.new.self c.put.ensures.table n c.args.step c.args.row now
          ∙ ap (λ o. unwrap_or o 0) c.in_default.ensures.here;
      others = λ s r d.
          count_others exact_rows c.number.new.self c.put.new.self n c.args.step c.args.row held now c.in_default.ensures.steps c.put.ensures.others s r d
          ∙ count_same exact_rows c.args.self.now.rows c.number.new.self c.in_ok-number.ensures.values c.in_ok-number.ensures.keys s r;
    }
