use Rattle.std.proofs.Common.{rules, ◌++◌, ap, ◌∙◌}
use Rattle.rule_writer.proofs.HeadArms.{head_written}
use Rattle.rule_writer.proofs.heads.write_head.Goals as goal

pub returns : goal.returns
returns c n =
    rw (← c.as_slice-args.ensures)
    (head_written c.args.names.now c.args.head.now.name c.as_slice-args.result.now n (search rules)
    (c.in_ok-write_str.ensures ∙ ap (λ x. c.args.out.now.items ++ x) c.as_str.ensures) c.in_ok-write_str-2.ensures c.in_ok-write_head_terms.ensures c.in_ok-write_str-3.ensures)
