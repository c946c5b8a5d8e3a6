-- Walks over the partners of a row.
use Rattle.std.proofs.Common.{◌≡◌, ap, sym, ◌∙◌, subst, ℕ, ◌≤◌, ◌↔◌, Bool, true, false, [], ◌∷◌, map, Option, Some, None, Result, Ok, arith}
use Rattle.std.proofs.lemmas.Bool.{true≢false}
use Rattle.std.specs.declared.alloc.AllocError.{AllocError}
use Rattle.event_changes.specs.declared.changes.Sign.{Sign}
use Rattle.ev_bind.specs.declared.rows.Row.{Row}
use Rattle.row_changes.specs.Visits.{At, Made, signed}
use Rattle.step_changes.specs.Tasks.{WorksOn, nil_of_map}
use Rattle.step_changes.specs.declared.pending.Pending.{Pending}
use Rattle.match_step.specs.declared.matches.Matches.{Matches}
use Rattle.match_step.specs.Left.{items_left, meeting_at, GivesItem}

-- a call of `next` that gives a partner's item
pub given_item : (s : Matches) (x : Result (Option Row) AllocError) (t : Matches) (i : Option Row) → x ≡ Ok i → GivesItem s (Some x) t
    → items_left s ≡ i ∷ items_left t
given_item s x t i e g = (subst (λ y. GivesItem s (Some y) t) e g).0

module _ (sign : Sign) (p : Pending) (a : At) (all u : ℕ) where
  -- the units are used up
  module _ (m : Matches) (b : Bool) (remain : (b ≡ false) ↔ (items_left m ≡ [])) (none : u ≤ 0)
      (made : Made a (meeting_at sign m p) all u) where
    all_used : Made a (meeting_at sign m p) all 0
    all_used = let z : u ≡ 0 = omega (arith, none) in subst (λ n. Made a (meeting_at sign m p) all n) z made

    pub stops_here : b ≡ true → WorksOn a (meeting_at sign m p) all None
    stops_here e = (all_used, λ n. true≢false (sym e ∙ remain.1 (nil_of_map (signed sign) (items_left m) n)))

    pub ends_here : b ≡ false → WorksOn a (meeting_at sign m p) all (Some 0)
    ends_here e = (all_used, ap (map (signed sign)) (remain.0 e))
