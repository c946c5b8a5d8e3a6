-- The orders of names, atoms, spans, events and detections. Only equal ones tie.
use Rattle.std.specs.Prelude.{◌≡◌, refl, IsTrue}
use Rattle.std.specs.Ordering.{nat_cmp, on, then_cmp, is_eq}
use Rattle.std.specs.declared.cmp.Ordering.{Ordering}
use Rattle.std.specs.declared.cmp.Ordering.TheVariants.{Less, Equal, Greater}
use Rattle.std.proofs.lemmas.Bool.{true≢false}
use Rattle.std.proofs.Common.{ap, sym, ◌∙◌}
use Rattle.ordered_lists.specs.Canon.{Exact}
use Rattle.ordered_lists.specs.Orders.{exact_numbers, exact_texts, exact_on, exact_then}
use Rattle.event_model.specs.Spans.{PlainSpan}
use Rattle.event_model.specs.Events.{span_of}
use Rattle.event_model.specs.TermOrder.{term_cmp, exact_terms, bytes_cmp}
use Rattle.event_model.specs.declared.terms.Term.{Term, out-Term}
use Rattle.event_model.specs.declared.terms.Term.TheVariants as made
use Rattle.event_model.specs.declared.terms.Term.TheOpen.Term-F.{Comp}
use Rattle.event_model.specs.declared.atoms.Atom.{Atom}
use Rattle.event_model.specs.declared.atoms.NameArity.{NameArity}
use Rattle.event_model.specs.declared.events.Event.{Event}
use Rattle.event_model.specs.declared.events.Detection.{Detection}

-- an atom as the compound of its name and its arguments
abbrev pub as_term : Atom → Term
as_term a = made.Comp a.name a.args

-- by name, number of arguments and arguments from the left
abbrev pub atom_cmp : Atom → Atom → Ordering
atom_cmp = on as_term term_cmp

-- by start and end
abbrev pub span_cmp : PlainSpan → PlainSpan → Ordering
span_cmp = then_cmp (on (λ s. s.start) nat_cmp) (on (λ s. s.end) nat_cmp)

-- by atom and span
abbrev pub event_cmp : Event → Event → Ordering
event_cmp = then_cmp (on (λ e. e.atom) atom_cmp) (on span_of span_cmp)

-- by atom and span
abbrev pub detection_cmp : Detection → Detection → Ordering
detection_cmp = then_cmp (on (λ d. d.atom) atom_cmp) (on (λ d. d.span) span_cmp)

as_term_apart : (a b : Atom) → as_term a ≡ as_term b → a ≡ b
as_term_apart a b e =
    let same : Comp a.name a.args ≡ Comp b.name b.args = sym (made.outs-Comp a.name a.args) ∙ ap out-Term e
    ∙ made.outs-Comp b.name b.args in
    let names : a.name ≡ b.name = cc in
    let args : a.args ≡ b.args = cc in
    λ i. record { name = names i; args = args i }

pub exact_atoms : Exact atom_cmp
exact_atoms = exact_on as_term as_term_apart exact_terms

pub exact_spans : Exact span_cmp
exact_spans = exact_then (λ s. s.start) (λ s. s.end) (λ x y p q i. record { start = p i; end = q i }) exact_numbers exact_numbers

pub exact_events : Exact event_cmp
exact_events = exact_then (λ e. e.atom) span_of (λ x y p q i. record { atom = p i; span = q i }) exact_atoms exact_spans

pub exact_detections : Exact detection_cmp
exact_detections = exact_then (λ d. d.atom) (λ d. d.span) (λ x y p q i. record { atom = p i; span = q i }) exact_atoms exact_spans

-- by name, and then by number of arguments
abbrev pub name_cmp : NameArity → NameArity → Ordering
name_cmp = then_cmp (on (λ n. n.name) bytes_cmp) (on (λ n. n.arity) nat_cmp)

pub exact_names : Exact name_cmp
exact_names = exact_then (λ n. n.name) (λ n. n.arity) (λ x y p q i. record { name = p i; arity = q i }) exact_texts exact_numbers

eq_from : (o : Ordering) → IsTrue (is_eq o) → o ≡ Equal
eq_from Less e = absurd (true≢false (sym e))
eq_from Equal e = refl
eq_from Greater e = absurd (true≢false (sym e))

-- names that tie are the same
pub same_names : (x y : NameArity) → IsTrue (is_eq (name_cmp x y)) → x ≡ y
same_names x y h = exact_names.same x y (eq_from (name_cmp x y) h)
