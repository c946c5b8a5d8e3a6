-- The job by the parser's account is the job by the smaller machine.
use Rattle.std.proofs.Common.{◌≡◌, ◌∙◌, refl, sym, ap, Bool, true, false, ◌||◌, List, [], ◌∷◌, map, Option, Some, None}
use Rattle.std.specs.Prelude.{option_and_then, if◌then◌else◌}
use Rattle.std.specs.List.{fold}
use Rattle.std.proofs.Math.Bool.{or-true}
use Rattle.clap.specs.Kinds.{or_else}
use Rattle.clap.specs.Faults.{walk_fault, settle_fault, defaults_fault, given_default_fault}
use Rattle.clap.specs.Walk.{Row, Rule, has_row, is_empty, with_default, default_rows, reading_by, nothing_held}
use Rattle.clap.specs.Simple.{built}
use Rattle.clap.specs.Words.{Kinds, fault_of, matches_of}
use Rattle.clap.proofs.FaultLemmas.{leaf_fault}
use Rattle.job_words.specs.Words.{Text}
use Rattle.job_words.specs.Account.{job_app, account, job_in, AreUtf8}
use Rattle.job_words.proofs.FaultLaws.{none_of_fault, job_of_none}
use Rattle.job_words.proofs.ClapWalk.{top, arguments, Use, row}
use Rattle.job_words.proofs.ClapSteps.{At, Idle, Zero, walk_at, uses_of, total, end_of, end_rows, Fate, fate, or_else_none}

same : (rows : List Row) (b : Bool) → (if b then rows else rows) ≡ rows
same rows true = refl
same rows false = refl

-- none of the arguments has a default
abbrev AreBare : List Rule → Type 0
AreBare [] = Unit {0}
AreBare (a ∷ rest) = (a.defaults ≡ []) × AreBare rest

no_default_fault : (args : List Rule) (rows : List Row) → AreBare args → defaults_fault rows args ≡ []
unfolding defaults_fault
no_default_fault [] rows bare = refl
no_default_fault (a ∷ rest) rows bare =
    ap (λ (vs : List Text). or_else (if has_row a.id rows || is_empty vs then [] else given_default_fault a vs)
    (defaults_fault (with_default rows a) rest)) bare.0
    ∙ ap (λ b. or_else (if b then [] else given_default_fault a []) (defaults_fault (with_default rows a) rest))
    (or-true (has_row a.id rows))
    ∙ no_default_fault rest (with_default rows a) bare.1

no_default : (args : List Rule) (rows : List Row) → AreBare args → fold with_default rows args ≡ rows
no_default [] rows bare = refl
no_default (a ∷ rest) rows bare =
    ap (λ (vs : List Text). fold with_default (if has_row a.id rows then rows else default_rows a.id (reading_by a) vs rows) rest) bare.0
    ∙ ap (λ (rs : List Row). fold with_default rs rest) (same rows (has_row a.id rows)) ∙ no_default rest rows bare.1

told_bare : AreBare arguments
told_bare = (refl, (refl, (refl, (refl, (refl, tt)))))

abbrev pub start : At
start = record { stage = Idle None; uses = []; place = Zero }

fault_is : (words : List Text) → fault_of job_app words ≡ total (walk_at start) words
fault_is words =
    let w = walk_fault top [] (walk_at start) words in
    let e = settle_fault arguments false (end_of (walk_at start) words) in
    leaf_fault (built job_app) nothing_held words refl
    ∙ ap (λ (d : Kinds). or_else w (or_else e (or_else d []))) (no_default_fault arguments (end_rows (walk_at start) words) told_bare)
    ∙ ap (or_else w) (or_else_none e)

rows_are : (words : List Text) → matches_of job_app words ≡ end_rows (walk_at start) words
rows_are words = no_default arguments (end_rows (walk_at start) words) told_bare

pub account_is : (words : List Text) → AreUtf8 words → account words ≡ option_and_then (λ us. job_in (map row us)) (uses_of start words)
account_is words texts = go (uses_of start words) (fate words texts start)
  where
    go : (r : Option (List Use)) → Fate (walk_at start) words r → account words ≡ option_and_then (λ us. job_in (map row us)) r
    go None f = none_of_fault _ _ (λ none. f (sym (fault_is words) ∙ none))
    go (Some us) f = job_of_none _ _ (fault_is words ∙ f.0) ∙ ap job_in (rows_are words ∙ f.1)
