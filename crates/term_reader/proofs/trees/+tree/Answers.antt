use Rattle.std.proofs.Common.{◌<◌, ◌≤◌, ◌++◌, ◌∷◌, [], length, arith, ap, sym, ◌∙◌}
use Rattle.std.proofs.lemmas.Result.{err_from_is_err_and}
use Rattle.term_reader.proofs.Branches.{name_tree, compound_tree, compound_as, arg_read, arg_fails, open_at, args_start, args_close, args_comma, args_syntax, too_wide, digit_tree, minus_tree}
use Rattle.term_reader.proofs.Forms.{sign_as}
use Rattle.term_reader.proofs.trees.+tree.Goals as goal

pub arg_at-returns-in_err-arg-clause-read : goal.arg_at-returns-in_err-arg-clause-read
arg_at-returns-in_err-arg-clause-read t c =
    let p = err_from_is_err_and c.from_residual.result c.from_residual.ensures.1 in
    rw (p.1, p.2) (arg_fails _ _ _ _ _ c.blanks_end-start.ensures.read c.in_err-arg.ensures)

pub arg_at-returns-clause-read : goal.arg_at-returns-clause-read
arg_at-returns-clause-read t c = arg_read _ _ _ _ _ _ _ c.blanks_end-start.ensures.read c.in_ok-arg.ensures c.blanks_end.ensures.read

pub args_at-loop-args-init : goal.args_at-loop-args-init
args_at-loop-args-init t c = rw c.new-args.ensures.items (args_start _ _ _ (open_at _ _ c.requires.open) c.if-depth-ge-MOST_DEPTH.false)

pub args_at-returns-in-Some-Last : goal.args_at-returns-in-Some-Last
args_at-returns-in-Some-Last t c =
    rw c.in_ok-keep.ensures (args_close _ _ _ _ _ _ _ c.loop-args.invariant c.in_ok-arg.ensures.read (rw c.in-Some-Last.field-0-is at c.in-Some-Last.ensures))

pub args_at-returns-then-len-ge-MOST_ARGUMENTS : goal.args_at-returns-then-len-ge-MOST_ARGUMENTS
args_at-returns-then-len-ge-MOST_ARGUMENTS t c =
    let n : 16 ≤ length (c.loop-args.args.items ++ c.in_ok-arg.arg ∷ []) = omega (arith, c.if-len-ge-MOST_ARGUMENTS.true, c.len.ensures, c.keep.new.args.ok.0, ap length c.in_ok-keep.ensures) in
    too_wide _ _ _ _ _ _ _ c.loop-args.invariant c.in_ok-arg.ensures.read (rw c.in-Some-More.field-0-is at c.in-Some-More.ensures) n

pub args_at-loop-args-preserved : goal.args_at-loop-args-preserved
args_at-loop-args-preserved t c =
    let n : length (c.loop-args.args.items ++ c.in_ok-arg.arg ∷ []) < 16 = omega (arith, c.if-len-ge-MOST_ARGUMENTS.false, c.len.ensures, c.keep.new.args.ok, ap length c.in_ok-keep.ensures) in
    rw c.in_ok-keep.ensures (args_comma _ _ _ _ _ _ _ c.loop-args.invariant c.in_ok-arg.ensures.read (rw c.in-Some-More.field-0-is at c.in-Some-More.ensures) n)

pub args_at-returns-in-None : goal.args_at-returns-in-None
args_at-returns-in-None t c = args_syntax _ _ _ _ _ _ _ c.loop-args.invariant c.in_ok-arg.ensures.read c.in_ok-arg.ensures.over c.in-None.ensures

pub named_at-returns-then-not-opens : goal.named_at-returns-then-not-opens
named_at-returns-then-not-opens t c = name_tree _ _ _ _ _ c.in_ok-name.ensures (sym c.opens.ensures ∙ c.if-not-opens.true)

pub named_at-returns : goal.named_at-returns
named_at-returns t c = compound_as _ _ _ _ _ _ _ _ c.name.view_is c.in_ok-new.ensures (compound_tree _ _ _ _ _ _ _ c.in_ok-name.ensures c.in_ok-args.ensures)

pub tree_at-returns-in-Some-Digit : goal.tree_at-returns-in-Some-Digit
tree_at-returns-in-Some-Digit t c = digit_tree _ _ _ _ _ (sign_as _ _ _ _ c.in-Some-Digit.ensures c.in-Some-Digit.field-0-is) c.number_rest.ensures

pub tree_at-returns-in-Some-Minus : goal.tree_at-returns-in-Some-Minus
tree_at-returns-in-Some-Minus t c = minus_tree _ _ _ _ (sign_as _ _ _ _ c.in-Some-Minus.ensures c.in-Some-Minus.field-0-is) c.negative_at.ensures
