-- What changed rows of a name tell, one row after the other.
use Rattle.std.specs.Prelude.{ℕ, suc, ◌≡◌, refl, Bool, true, false, cond, Some, None, List, [], ◌∷◌, ◌++◌, map}
use Rattle.std.specs.List.{filter}
use Rattle.std.proofs.Common.{ap}
use Rattle.event_model.specs.declared.atoms.NameArity.{NameArity}
use Rattle.event_model.specs.declared.terms.Term.{Term}
use Rattle.event_changes.specs.declared.changes.Sign.{Sign}
use Rattle.ev_bind.specs.Matching.{numbered, values}
use Rattle.ev_bind.specs.declared.rows.Row.{Row}
use Rattle.rule_ast.specs.PlainPlans.{PlainStep, Named, Leaf, Join, Either, Where, Exact, Within, Minus, Head}
use Rattle.pattern_meaning.specs.Standing.{detection_of}
use Rattle.step_meaning.specs.StepRows.{detections_of}
use Rattle.row_changes.specs.Changes.{SignedRow, delta_rows}
use Rattle.row_changes.specs.Visits.{same_sign}
use Rattle.change_meaning.specs.Shown.{signed_rows}
use Rattle.revision.specs.Names.{name_of}

pub values_numbered : (k : ℕ) (ts : List Term) → values (numbered k ts) ≡ ts
values_numbered k [] = refl
values_numbered k (t ∷ ts) = ap (λ l. t ∷ l) (values_numbered (suc k) ts)

pub told_front : (n : NameArity) (s : Sign) (d : SignedRow) (ds : List SignedRow)
    → map (detection_of n) (signed_rows s (d ∷ ds))
    ≡ map (detection_of n) (signed_rows s (d ∷ [])) ++ map (detection_of n) (signed_rows s ds)
told_front n s d ds = at (same_sign s d.sign)
  where
    at : (b : Bool)
        → map (detection_of n) (delta_rows (cond b (d ∷ filter (λ e. same_sign s e.sign) ds) (filter (λ e. same_sign s e.sign) ds)))
        ≡ map (detection_of n) (delta_rows (cond b (d ∷ []) [])) ++ map (detection_of n) (delta_rows (filter (λ e. same_sign s e.sign) ds))
    at true = refl
    at false = refl

-- a step of a name tells of its rows, and no other step does
pub told_name : (s : PlainStep) (n : NameArity) → name_of s ≡ Some n → (rows : List Row)
    → detections_of (Some s) rows ≡ map (detection_of n) rows
told_name (Named m heads) n e rows = let same : m ≡ n = cc in ap (λ k. map (detection_of k) rows) same
told_name (Leaf of p) n e rows = absurd (cc)
told_name (Join op l r) n e rows = absurd (cc)
told_name (Either l r) n e rows = absurd (cc)
told_name (Where of t) n e rows = absurd (cc)
told_name (Exact of q) n e rows = absurd (cc)
told_name (Within of q) n e rows = absurd (cc)
told_name (Minus j f i l) n e rows = absurd (cc)
told_name (Head of head) n e rows = absurd (cc)

pub told_none : (s : PlainStep) → name_of s ≡ None → (rows : List Row) → detections_of (Some s) rows ≡ []
told_none (Named m heads) e rows = absurd (cc)
told_none (Leaf of p) e rows = refl
told_none (Join op l r) e rows = refl
told_none (Either l r) e rows = refl
told_none (Where of t) e rows = refl
told_none (Exact of q) e rows = refl
told_none (Within of q) e rows = refl
told_none (Minus j f i l) e rows = refl
told_none (Head of head) e rows = refl
