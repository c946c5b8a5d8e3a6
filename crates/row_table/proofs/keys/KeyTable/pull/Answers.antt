use Rattle.std.proofs.Common.{rules, ap, sym, ◌∙◌}
use Rattle.std.specs.Option.{option_map}
use Rattle.row_table.proofs.Taken.{table_less_rest, table_less_first}
use Rattle.row_table.specs.Tables.{hashed}
use Rattle.row_table.proofs.keys.KeyTable.pull.Goals as goal

pub returns-in-None-get-clause-table : goal.returns-in-None-get-clause-table
returns-in-None-get-clause-table g c =
    table_less_rest (hashed g.K.Hash.hash_input) g.K.Ord.cmp c.requires.exact c.args.self.now.entries c.try_remove.new.self c.args.self.now.firsts c.args.self.now.firsts c.args.self.now.rest c.remove.new.self c.args.number c.in-Some.entry.key
    (ap (λ o. option_map (λ e. e.key) o) (sym c.try_remove.ensures.value ∙ c.in-Some.is)) (ap (λ o. option_map (λ e. e.key) o) c.try_remove.ensures.updates.changed) (λ m d. ap (λ o. option_map (λ e. e.key) o) (c.try_remove.ensures.updates.others m d))
    c.requires.table (search rules) (search rules)

pub returns-then-first-number-clause-table : goal.returns-then-first-number-clause-table
returns-then-first-number-clause-table g c =
    table_less_first (hashed g.K.Hash.hash_input) g.K.Ord.cmp c.requires.exact c.args.self.now.entries c.try_remove.new.self c.args.self.now.firsts c.remove-then-first-number.new.self c.args.self.now.rest c.args.self.now.rest c.args.number c.in-Some.entry.key
    (ap (λ o. option_map (λ e. e.key) o) (sym c.try_remove.ensures.value ∙ c.in-Some.is)) (ap (λ o. option_map (λ e. e.key) o) c.try_remove.ensures.updates.changed) (λ m d. ap (λ o. option_map (λ e. e.key) o) (c.try_remove.ensures.updates.others m d))
    c.requires.table (search rules) (search rules) (search rules)

pub returns-else-first-number-clause-table : goal.returns-else-first-number-clause-table
returns-else-first-number-clause-table g c =
    table_less_rest (hashed g.K.Hash.hash_input) g.K.Ord.cmp c.requires.exact c.args.self.now.entries c.try_remove.new.self c.args.self.now.firsts c.args.self.now.firsts c.args.self.now.rest c.remove-else-first-number.new.self c.args.number c.in-Some.entry.key
    (ap (λ o. option_map (λ e. e.key) o) (sym c.try_remove.ensures.value ∙ c.in-Some.is)) (ap (λ o. option_map (λ e. e.key) o) c.try_remove.ensures.updates.changed) (λ m d. ap (λ o. option_map (λ e. e.key) o) (c.try_remove.ensures.updates.others m d))
    c.requires.table (search rules) (search rules)
