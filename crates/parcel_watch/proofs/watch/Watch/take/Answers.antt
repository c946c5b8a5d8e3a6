use Rattle.std.proofs.Common.{◌≡◌, true, false, inr, refl, sym, ap, ◌∙◌, subst, arith}
use Rattle.pattern_meaning.specs.Replies.{Change, change_by, standing_after}
use Rattle.etalis_core.specs.StandsFor.{rules_of, last_change}
use Rattle.parcel_watch.specs.Watches.{Watches}
use Rattle.parcel_watch.proofs.WatchLaws.{may_begin, settles_where, watches_after, after_refused, told_change, told_kept}
use Rattle.parcel_watch.proofs.watch.Watch.take.Goals as goal

pub judge-requires-clause-resting : goal.judge-requires-clause-resting
judge-requires-clause-resting c = c.requires.watches.1.stands.not_working

pub judge-requires-clause-unspent : goal.judge-requires-clause-unspent
judge-requires-clause-unspent c = c.requires.watches.1.stands.not_spent

pub returns-in_default : goal.returns-in_default
returns-in_default c = record {
  watches = λ h w. subst (Watches c.args.self.now) (after_refused _ h c.args.input c.judge.result (sym (c.judge.ensures h w.stands)) c.in_default.not-Fine) w;
  says = λ h w. (sym (c.judge.ensures h w.stands), c.in_default.not-Fine);
  told = λ h w. ap (standing_after (rules_of c.args.self.now.engine))
      (after_refused _ h c.args.input c.judge.result (sym (c.judge.ensures h w.stands)) c.in_default.not-Fine);
  rules = refl;
  late = refl;
  memory = tt;
}

pub begin-requires : goal.begin-requires
begin-requires c =
    let (h, w) = c.requires.watches in
    inr (h, may_begin c.args.self.now.engine h c.args.input w.stands (sym (c.judge.ensures h w.stands) ∙ c.in-Fine.is) (omega (arith, w.few, c.requires.room)))

pub returns-then-not-working-clause-watches : goal.returns-then-not-working-clause-watches
returns-then-not-working-clause-watches c = λ h w.
    let fine = sym (c.judge.ensures h w.stands) ∙ c.in-Fine.is in
    let begun = c.in_ok-begin.ensures in
    let settling = settles_where _ h c.args.input _ false (begun.works h w.stands) (begun.stands h w.stands) (sym c.working.ensures ∙ c.if-not-working.true) in
    watches_after _ c.args.self.now _ h c.args.input w fine (begun.stands h w.stands settling) refl

pub returns-then-not-working-clause-says : goal.returns-then-not-working-clause-says
returns-then-not-working-clause-says c = λ h w.
    let fine = sym (c.judge.ensures h w.stands) ∙ c.in-Fine.is in
    let begun = c.in_ok-begin.ensures in
    let settling = settles_where _ h c.args.input _ false (begun.works h w.stands) (begun.stands h w.stands) (sym c.working.ensures ∙ c.if-not-working.true) in
    (fine, settling)

pub returns-then-not-working-clause-told : goal.returns-then-not-working-clause-told
returns-then-not-working-clause-told c = λ h w.
    let fine = sym (c.judge.ensures h w.stands) ∙ c.in-Fine.is in
    let begun = c.in_ok-begin.ensures in
    let settling = settles_where _ h c.args.input _ false (begun.works h w.stands) (begun.stands h w.stands) (sym c.working.ensures ∙ c.if-not-working.true) in
    told_kept (rules_of c.args.self.now.engine) _ h c.args.input fine settling

pub gone-requires-clause-resting : goal.gone-requires-clause-resting
gone-requires-clause-resting c =
    let (h, w) = c.requires.watches in
    let begun = c.in_ok-begin.ensures in
    let settling = settles_where _ h c.args.input _ true (begun.works h w.stands) (begun.stands h w.stands) (sym c.working.ensures ∙ c.if-not-working.false) in
    (c.in_ok-finish.ensures.stands h c.args.input _ (begun.works h w.stands settling)).not_working

pub gone-requires-clause-unspent : goal.gone-requires-clause-unspent
gone-requires-clause-unspent c =
    let (h, w) = c.requires.watches in
    let begun = c.in_ok-begin.ensures in
    let settling = settles_where _ h c.args.input _ true (begun.works h w.stands) (begun.stands h w.stands) (sym c.working.ensures ∙ c.if-not-working.false) in
    (c.in_ok-finish.ensures.stands h c.args.input _ (begun.works h w.stands settling)).not_spent

pub come-requires-clause-resting : goal.come-requires-clause-resting
come-requires-clause-resting c =
    let (h, w) = c.requires.watches in
    let begun = c.in_ok-begin.ensures in
    let settling = settles_where _ h c.args.input _ true (begun.works h w.stands) (begun.stands h w.stands) (sym c.working.ensures ∙ c.if-not-working.false) in
    (c.in_ok-finish.ensures.stands h c.args.input _ (begun.works h w.stands settling)).not_working

pub come-requires-clause-unspent : goal.come-requires-clause-unspent
come-requires-clause-unspent c =
    let (h, w) = c.requires.watches in
    let begun = c.in_ok-begin.ensures in
    let settling = settles_where _ h c.args.input _ true (begun.works h w.stands) (begun.stands h w.stands) (sym c.working.ensures ∙ c.if-not-working.false) in
    (c.in_ok-finish.ensures.stands h c.args.input _ (begun.works h w.stands settling)).not_spent

pub returns-clause-watches : goal.returns-clause-watches
returns-clause-watches c = λ h w.
    let fine = sym (c.judge.ensures h w.stands) ∙ c.in-Fine.is in
    let begun = c.in_ok-begin.ensures in
    let settling = settles_where _ h c.args.input _ true (begun.works h w.stands) (begun.stands h w.stands) (sym c.working.ensures ∙ c.if-not-working.false) in
    watches_after _ c.args.self.now _ h c.args.input w fine (c.in_ok-finish.ensures.stands h c.args.input _ (begun.works h w.stands settling)) refl

pub returns-clause-says : goal.returns-clause-says
returns-clause-says c = λ h w.
    let fine = sym (c.judge.ensures h w.stands) ∙ c.in-Fine.is in
    let begun = c.in_ok-begin.ensures in
    let settling = settles_where _ h c.args.input _ true (begun.works h w.stands) (begun.stands h w.stands) (sym c.working.ensures ∙ c.if-not-working.false) in
    let change : last_change c.finish.new.engine ≡ change_by (rules_of c.args.self.now.engine) h c.args.input =
    c.in_ok-finish.ensures.change h c.args.input _ (begun.works h w.stands settling) ∙ ap (λ r. change_by r h c.args.input) begun.rules in
    let goes = c.in_ok-shared.ensures ∙ c.gone.ensures ∙ ap (λ (x : Change). x.gone) change in
    let comes = c.in_ok-shared-2.ensures ∙ c.come.ensures ∙ ap (λ (x : Change). x.come) change in
    (fine, settling, goes, comes)

pub returns-clause-told : goal.returns-clause-told
returns-clause-told c = λ h w.
    let fine = sym (c.judge.ensures h w.stands) ∙ c.in-Fine.is in
    let begun = c.in_ok-begin.ensures in
    let settling = settles_where _ h c.args.input _ true (begun.works h w.stands) (begun.stands h w.stands) (sym c.working.ensures ∙ c.if-not-working.false) in
    let change : last_change c.finish.new.engine ≡ change_by (rules_of c.args.self.now.engine) h c.args.input =
    c.in_ok-finish.ensures.change h c.args.input _ (begun.works h w.stands settling) ∙ ap (λ r. change_by r h c.args.input) begun.rules in
    let goes = c.in_ok-shared.ensures ∙ c.gone.ensures ∙ ap (λ (x : Change). x.gone) change in
    let comes = c.in_ok-shared-2.ensures ∙ c.come.ensures ∙ ap (λ (x : Change). x.come) change in
    told_change (rules_of c.args.self.now.engine) _ h c.args.input c.in_ok-shared.field-0.items c.in_ok-shared-2.field-0.items fine goes comes
