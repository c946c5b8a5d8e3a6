use Rattle.std.proofs.Common.{arith, ◌<◌, IfSome, IfNone, Option, Some, None}
use Rattle.std.proofs.lemmas.Bool.{false≢true}
use Rattle.goal_purge.specs.declared.expiries.Expiry.{Expiry}
use Rattle.goal_purge.proofs.Entries.{bare_due, member_due, none_due, popped}
use Rattle.goal_purge.proofs.expiries.Expiries.pop.Goals as goal

if_none : {A : Type 0} (o : Option A) {P : Type 0} → P → IfNone o P
if_none None h = h
if_none (Some x) h = tt

if_some : (o : Option Expiry) {P Q : Expiry → Type 0} → ((x : Expiry) → P x → Q x) → IfSome o P → IfSome o Q
if_some None f h = tt
if_some (Some x) f h = f x h

pub returns-in_err-first-clause-none : goal.returns-in_err-first-clause-none
returns-in_err-first-clause-none c = if_none c.from_residual.result (λ d s r l.
    bare_due c.args.self.now (λ m. false≢true (c.in_err-first.ensures.variant.1 m)) d s r)

pub returns-then-first-bound-clause-none : goal.returns-then-first-bound-clause-none
returns-then-first-bound-clause-none c =
    let l : c.args.bound < c.in_ok-first.first.now.bound = omega (arith, c.if-first-bound.true) in
    none_due c.args.self.now c.in_ok-first.first.now c.args.bound c.in_ok-first.ensures.least l

pub returns-clause-was : goal.returns-clause-was
returns-clause-was c = if_some c.pop_first.result (λ x h. member_due c.args.self.now x h) c.pop_first.ensures.member

pub returns-clause-less : goal.returns-clause-less
returns-clause-less c = if_some c.pop_first.result (λ x up. popped c.args.self.now (record { entries = c.pop_first.new.self }) x up)
    c.pop_first.ensures.updates
