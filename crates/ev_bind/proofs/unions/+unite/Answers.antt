use Rattle.std.proofs.Common.{◌≡◌, sym, ap, ◌∙◌, ◌∷◌, []}
use Rattle.std.specs.Prelude.{option_map}
use Rattle.std.proofs.lemmas.Result.{IfOk-weaker}
use Rattle.ev_bind.specs.Bindings.{join, join_comm}
use Rattle.ev_bind.specs.Unions.{union_is}
use Rattle.ev_bind.proofs.Merging.{join_nothing}
use Rattle.ev_bind.proofs.Chaining.{left_join, left_binding, right_join, right_binding, both_join, both_binding, same_pair, differ_join, is_less, is_same, is_greater}
use Rattle.ev_bind.proofs.unions.+unite.Goals as goal

pub with_left-requires : goal.with_left-requires
with_left-requires t c = λ d e. left_binding c.args.a.now c.args.b.now (c.in-Some-Some.left.now.slot, c.in-Some-Some.left.now.term) (c.in-Some-Some.right.now.slot, c.in-Some-Some.right.now.term) c.in-Some-Some.left.now.rest c.in-Some-Some.right.now.rest
    c.in-Some-Some.ensures.pairs c.in-Some-Some.ensures'.pairs c.first.ensures.binding c.first-2.ensures.binding
    (is_less c.in-Some-Some.left.now.slot c.in-Some-Some.right.now.slot c.number.result c.number-in-Some-Some.result c.number.ensures.number c.number-in-Some-Some.ensures.number
    (sym c.cmp.ensures ∙ c.in-Less.is)) d (sym c.in_ok-rest-in-Less.ensures ∙ e)

pub with_right-requires : goal.with_right-requires
with_right-requires t c = λ d e. right_binding c.args.a.now c.args.b.now (c.in-Some-Some.left.now.slot, c.in-Some-Some.left.now.term) (c.in-Some-Some.right.now.slot, c.in-Some-Some.right.now.term) c.in-Some-Some.left.now.rest c.in-Some-Some.right.now.rest
    c.in-Some-Some.ensures.pairs c.in-Some-Some.ensures'.pairs c.first.ensures.binding c.first-2.ensures.binding
    (is_greater c.in-Some-Some.left.now.slot c.in-Some-Some.right.now.slot c.number.result c.number-in-Some-Some.result c.number.ensures.number c.number-in-Some-Some.ensures.number
    (sym c.cmp.ensures ∙ c.in-Greater.is)) d (sym c.in_ok-rest-in-Greater.ensures ∙ e)

pub with_both-requires : goal.with_both-requires
with_both-requires t c = λ d e. both_binding c.args.a.now c.args.b.now (c.in-Some-Some.left.now.slot, c.in-Some-Some.left.now.term) (c.in-Some-Some.right.now.slot, c.in-Some-Some.right.now.term) c.in-Some-Some.left.now.rest c.in-Some-Some.right.now.rest
    c.in-Some-Some.ensures.pairs c.in-Some-Some.ensures'.pairs c.first.ensures.binding c.first-2.ensures.binding
    (is_same c.in-Some-Some.left.now.slot c.in-Some-Some.right.now.slot c.number.result c.number-in-Some-Some.result c.number.ensures.number c.number-in-Some-Some.ensures.number
    (sym c.cmp.ensures ∙ c.in-Equal.is)) (sym c.same_terms.ensures ∙ c.if-not-same_terms.false) d (sym c.in_ok-rest-in-Equal.ensures ∙ e)

pub returns-in-None-default : goal.returns-in-None-default
returns-in-None-default t c = sym (ap (λ a. join a c.args.b.now) c.in-None-default.ensures.pairs ∙ join_comm [] c.args.b.now ∙ join_nothing c.args.b.now c.first-2.ensures.binding)

pub returns-in-Some-None : goal.returns-in-Some-None
returns-in-Some-None t c = sym (ap (join c.args.a.now) c.in-Some-None.ensures'.pairs ∙ join_nothing c.args.a.now c.first.ensures.binding)

pub returns-in_ok-rest-in-Less : goal.returns-in_ok-rest-in-Less
returns-in_ok-rest-in-Less t c = IfOk-weaker c.with_left.result
    (λ u. union_is u ((c.in-Some-Some.left.now.slot, c.in-Some-Some.left.now.term) ∷ c.in-Some-Some.left.now.rest) c.args.b.now ≡ option_map (λ d. (c.in-Some-Some.left.now.slot, c.in-Some-Some.left.now.term) ∷ d) (union_is c.in_ok-rest-in-Less.rest c.in-Some-Some.left.now.rest c.args.b.now)) _
    (λ u e. ap (λ a. union_is u a c.args.b.now) c.in-Some-Some.ensures.pairs ∙ e ∙ ap (option_map (λ d. (c.in-Some-Some.left.now.slot, c.in-Some-Some.left.now.term) ∷ d)) c.in_ok-rest-in-Less.ensures
    ∙ sym (left_join c.args.a.now c.args.b.now (c.in-Some-Some.left.now.slot, c.in-Some-Some.left.now.term) (c.in-Some-Some.right.now.slot, c.in-Some-Some.right.now.term) c.in-Some-Some.left.now.rest c.in-Some-Some.right.now.rest
    c.in-Some-Some.ensures.pairs c.in-Some-Some.ensures'.pairs c.first.ensures.binding c.first-2.ensures.binding
    (is_less c.in-Some-Some.left.now.slot c.in-Some-Some.right.now.slot c.number.result c.number-in-Some-Some.result c.number.ensures.number c.number-in-Some-Some.ensures.number
    (sym c.cmp.ensures ∙ c.in-Less.is))))
    c.with_left.ensures

pub returns-in_ok-rest-in-Greater : goal.returns-in_ok-rest-in-Greater
returns-in_ok-rest-in-Greater t c = IfOk-weaker c.with_right.result
    (λ u. union_is u c.args.a.now ((c.in-Some-Some.right.now.slot, c.in-Some-Some.right.now.term) ∷ c.in-Some-Some.right.now.rest) ≡ option_map (λ d. (c.in-Some-Some.right.now.slot, c.in-Some-Some.right.now.term) ∷ d) (union_is c.in_ok-rest-in-Greater.rest c.args.a.now c.in-Some-Some.right.now.rest)) _
    (λ u e. ap (union_is u c.args.a.now) c.in-Some-Some.ensures'.pairs ∙ e ∙ ap (option_map (λ d. (c.in-Some-Some.right.now.slot, c.in-Some-Some.right.now.term) ∷ d)) c.in_ok-rest-in-Greater.ensures
    ∙ sym (right_join c.args.a.now c.args.b.now (c.in-Some-Some.left.now.slot, c.in-Some-Some.left.now.term) (c.in-Some-Some.right.now.slot, c.in-Some-Some.right.now.term) c.in-Some-Some.left.now.rest c.in-Some-Some.right.now.rest
    c.in-Some-Some.ensures.pairs c.in-Some-Some.ensures'.pairs c.first.ensures.binding c.first-2.ensures.binding
    (is_greater c.in-Some-Some.left.now.slot c.in-Some-Some.right.now.slot c.number.result c.number-in-Some-Some.result c.number.ensures.number c.number-in-Some-Some.ensures.number
    (sym c.cmp.ensures ∙ c.in-Greater.is))))
    c.with_right.ensures

pub returns-then-not-same_terms : goal.returns-then-not-same_terms
returns-then-not-same_terms t c = sym (differ_join c.args.a.now c.args.b.now (c.in-Some-Some.left.now.slot, c.in-Some-Some.left.now.term) (c.in-Some-Some.right.now.slot, c.in-Some-Some.right.now.term) c.in-Some-Some.left.now.rest c.in-Some-Some.right.now.rest
    c.in-Some-Some.ensures.pairs c.in-Some-Some.ensures'.pairs c.first.ensures.binding c.first-2.ensures.binding
    (is_same c.in-Some-Some.left.now.slot c.in-Some-Some.right.now.slot c.number.result c.number-in-Some-Some.result c.number.ensures.number c.number-in-Some-Some.ensures.number
    (sym c.cmp.ensures ∙ c.in-Equal.is)) (sym c.same_terms.ensures ∙ c.if-not-same_terms.true))

pub returns-in_ok-rest-in-Equal : goal.returns-in_ok-rest-in-Equal
returns-in_ok-rest-in-Equal t c = IfOk-weaker c.with_both.result
    (λ u. union_is u ((c.in-Some-Some.left.now.slot, c.in-Some-Some.left.now.term) ∷ c.in-Some-Some.left.now.rest) ((c.in-Some-Some.left.now.slot, c.in-Some-Some.left.now.term) ∷ c.in-Some-Some.right.now.rest) ≡ option_map (λ d. (c.in-Some-Some.left.now.slot, c.in-Some-Some.left.now.term) ∷ d) (union_is c.in_ok-rest-in-Equal.rest c.in-Some-Some.left.now.rest c.in-Some-Some.right.now.rest)) _
    (λ u e. ap (λ a. union_is u a c.args.b.now) c.in-Some-Some.ensures.pairs
    ∙ ap (union_is u ((c.in-Some-Some.left.now.slot, c.in-Some-Some.left.now.term) ∷ c.in-Some-Some.left.now.rest)) (same_pair c.args.a.now c.args.b.now (c.in-Some-Some.left.now.slot, c.in-Some-Some.left.now.term) (c.in-Some-Some.right.now.slot, c.in-Some-Some.right.now.term) c.in-Some-Some.left.now.rest c.in-Some-Some.right.now.rest
    c.in-Some-Some.ensures.pairs c.in-Some-Some.ensures'.pairs c.first.ensures.binding c.first-2.ensures.binding
    (is_same c.in-Some-Some.left.now.slot c.in-Some-Some.right.now.slot c.number.result c.number-in-Some-Some.result c.number.ensures.number c.number-in-Some-Some.ensures.number
    (sym c.cmp.ensures ∙ c.in-Equal.is)) (sym c.same_terms.ensures ∙ c.if-not-same_terms.false))
    ∙ e ∙ ap (option_map (λ d. (c.in-Some-Some.left.now.slot, c.in-Some-Some.left.now.term) ∷ d)) c.in_ok-rest-in-Equal.ensures
    ∙ sym (both_join c.args.a.now c.args.b.now (c.in-Some-Some.left.now.slot, c.in-Some-Some.left.now.term) (c.in-Some-Some.right.now.slot, c.in-Some-Some.right.now.term) c.in-Some-Some.left.now.rest c.in-Some-Some.right.now.rest
    c.in-Some-Some.ensures.pairs c.in-Some-Some.ensures'.pairs c.first.ensures.binding c.first-2.ensures.binding
    (is_same c.in-Some-Some.left.now.slot c.in-Some-Some.right.now.slot c.number.result c.number-in-Some-Some.result c.number.ensures.number c.number-in-Some-Some.ensures.number
    (sym c.cmp.ensures ∙ c.in-Equal.is)) (sym c.same_terms.ensures ∙ c.if-not-same_terms.false)))
    c.with_both.ensures
