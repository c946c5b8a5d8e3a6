use Rattle.std.proofs.Common.{rules, ◌∙◌, ap, map}
use Rattle.std.specs.Io.{StartsWith}
use Rattle.std.specs.List.{join_with_byte}
use Rattle.event_model.specs.Text.{term_text, term_text-Comp}
use Rattle.event_model.proofs.Commas.{first_written, applied_written}
use Rattle.event_model.proofs.Fronts.{starts_appended, starts_pushed, starts_on}
use Rattle.event_model.proofs.texts.+text.Goals as goal

pub push_args-loop-i-init : goal.push_args-loop-i-init
push_args-loop-i-init t c = record {
  rest = first_written c.args.out.now.items _ c.args.args.now c.index-args-0.result (search rules) c.index-args-0.is c.in_ok-push_term.ensures.ok;
  front = starts_appended _ c.args.out.now.items (term_text c.index-args-0.result) c.in_ok-push_term.ensures.ok;
}

pub push_term-returns-in_ok-push-in-Comp-2-clause-ok : goal.push_term-returns-in_ok-push-in-Comp-2-clause-ok
push_term-returns-in_ok-push-in-Comp-2-clause-ok t c =
    rw (c.in-Comp.is, term_text-Comp)
    (applied_written c.args.out.now.items c.in-Comp.name (join_with_byte 44 (map term_text c.in-Comp.args)) _ _ _ _ _ _
    (c.as_bytes-in-Comp.ensures.value ∙ c.as_str-in-Comp.ensures) (ap (λ ts. join_with_byte 44 (map term_text ts)) c.as_slice.ensures)
    c.in_ok-extend_from_slice-in-Comp.ensures.items c.in_ok-push-in-Comp.ensures.items c.in_ok-push_args-in-Comp.ensures.ok c.in_ok-push-in-Comp-2.ensures.items)

pub push_args-returns-in_err-push_term-2-clause-err : goal.push_args-returns-in_err-push_term-2-clause-err
push_args-returns-in_err-push_term-2-clause-err t c =
    let kept : StartsWith c.push_term-in-loop-i.new.out.items c.args.out.now.items
    = starts_on _ _ _ c.in_err-push_term-2.ensures.err (starts_pushed c.push.new.self.items c.loop-i.out.items _ 44 c.loop-i.invariant.front c.in_ok-push.ensures.items) in
    search rules
