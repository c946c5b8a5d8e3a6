-- The parser's walk over the words of this command line, as a smaller machine.
use Rattle.std.proofs.Common.{◌≡◌, ◌∙◌, refl, sym, ap, Bool, true, false, ◌&&◌, ◌||◌, List, [], ◌∷◌, ◌++◌, map, Option, Some, None, option_map, codes}
use Rattle.std.specs.Prelude.{if◌then◌else◌}
use Rattle.std.specs.List.{list_any}
use Rattle.std.specs.Str.{bytes_eq}
use Rattle.std.proofs.lemmas.Bool.{or_parts}
use Rattle.std.proofs.lemmas.List.{append-nil, map-append}
use Rattle.clap.specs.Kinds.{or_else}
use Rattle.clap.specs.Faults.{settle_fault}
use Rattle.clap.specs.Walk.{Held, Row, Rule, settled, has_row, at_row, with_values, more_values, without}
use Rattle.clap.specs.Simple.{Shape, built}
use Rattle.clap.specs.Words.{Kinds}
use Rattle.clap.specs.declared.builder.value_parser.Reading.TheVariants.{AsWritten}
use Rattle.clap.specs.declared.parser.matches.ValueSource.TheVariants.{CommandLine}
use Rattle.clap.specs.declared.error.kind.ErrorKind.TheVariants as kind
use Rattle.job_words.specs.Words.{Text, OptionName, Late, Seed, Lines}
use Rattle.job_words.specs.Account.{job_app}

abbrev pub top : Shape
top = (built job_app).top

abbrev pub arguments : List Rule
arguments = top.rules

-- what an argument is: the two words, or an option
pub data Id : Type 0 where
  First : Id
  Second : Id
  Of : OptionName → Id

abbrev pub id_text : Id → Text
id_text First = codes "mode"
id_text Second = codes "rules"
id_text (Of Late) = codes "late"
id_text (Of Seed) = codes "seed"
id_text (Of Lines) = codes "lines"

abbrev pub Use : Type 0
Use = Id × Text

abbrev pub row : Use → Row
row u = record { id = id_text u.0; values = u.1 ∷ []; count = None; source = Some CommandLine; reading = AsWritten }

abbrev pub has_use : Id → List Use → Bool
has_use i us = list_any (λ u. bytes_eq (id_text u.0) (id_text i)) us

pub has_rows : (i : Id) (us : List Use) → has_row (id_text i) (map row us) ≡ has_use i us
has_rows i [] = refl
has_rows i (u ∷ us) = ap (λ b. bytes_eq (id_text u.0) (id_text i) || b) (has_rows i us)

-- ---- rows

at_row_none : (id : Text) (change : Row → List Row) (missing rs : List Row) → has_row id rs ≡ false
    → at_row id change missing rs ≡ rs ++ missing
at_row_none id change missing [] e = refl
at_row_none id change missing (r ∷ rs) e =
    let p = or_parts (bytes_eq r.id id) (has_row id rs) e in
    ap (λ b. if b then change r ++ rs else r ∷ at_row id change missing rs) p.0 ∙ ap (λ t. r ∷ t) (at_row_none id change missing rs p.1)

new_row : (i : Id) (v : Text) (us : List Use) → has_use i us ≡ false
    → with_values (id_text i) AsWritten CommandLine (v ∷ []) (without (id_text i) (map row us)) ≡ map row (us ++ (i, v) ∷ [])
new_row i v us e =
    let none : has_row (id_text i) (map row us) ≡ false = has_rows i us ∙ e in
    ap (with_values (id_text i) AsWritten CommandLine (v ∷ [])) (at_row_none (id_text i) (λ _. []) [] (map row us) none
    ∙ append-nil (map row us))
    ∙ at_row_none (id_text i) (more_values CommandLine (v ∷ [])) (row (i, v) ∷ []) (map row us) none ∙ sym (map-append row us ((i, v) ∷ []))

-- ---- what is held

abbrev pub pending_of : Option Use → Option (Text × List Text)
pending_of = option_map (λ u. (id_text u.0, u.1 ∷ []))

abbrev pub held : List Use → Option (Text × List Text) → Held
held us p = record { rows = map row us; pending = p; skip = 0 }

abbrev pub settle : List Use → Option Use → Option (List Use)
settle us None = Some us
settle us (Some u) = if has_use u.0 us then None else Some (us ++ u ∷ [])

abbrev conflict : Bool → Kinds
conflict b = or_else (if b && true then kind.ArgumentConflict ∷ [] else []) []

settle_fault_is : (i : Id) (v : Text) (us : List Use) → settle_fault arguments false (held us (pending_of (Some (i, v)))) ≡ conflict
    (has_use i us)
settle_fault_is First v us = ap conflict (has_rows First us)
settle_fault_is Second v us = ap conflict (has_rows Second us)
settle_fault_is (Of Late) v us = ap conflict (has_rows (Of Late) us)
settle_fault_is (Of Seed) v us = ap conflict (has_rows (Of Seed) us)
settle_fault_is (Of Lines) v us = ap conflict (has_rows (Of Lines) us)

settled_is : (i : Id) (v : Text) (us : List Use) → has_use i us ≡ false → settled arguments (held us (pending_of (Some (i, v)))) ≡ held
    (us ++ (i, v) ∷ []) None
settled_is First v us e = ap (λ (rs : List Row). record { rows = rs; pending = None; skip = 0 }) (new_row First v us e)
settled_is Second v us e = ap (λ (rs : List Row). record { rows = rs; pending = None; skip = 0 }) (new_row Second v us e)
settled_is (Of Late) v us e = ap (λ (rs : List Row). record { rows = rs; pending = None; skip = 0 }) (new_row (Of Late) v us e)
settled_is (Of Seed) v us e = ap (λ (rs : List Row). record { rows = rs; pending = None; skip = 0 }) (new_row (Of Seed) v us e)
settled_is (Of Lines) v us e = ap (λ (rs : List Row). record { rows = rs; pending = None; skip = 0 }) (new_row (Of Lines) v us e)

abbrev pub SettleFate : List Use → Option Use → Option (List Use) → Type 0
SettleFate us p None = settle_fault arguments false (held us (pending_of p)) ≡ [] → ⊥
SettleFate us p (Some more) = (settle_fault arguments false (held us (pending_of p)) ≡ [])
    × (settled arguments (held us (pending_of p)) ≡ held more None)

pub settle_fate : (us : List Use) (p : Option Use) → SettleFate us p (settle us p)
settle_fate us None = (refl, refl)
settle_fate us (Some u) = go (has_use u.0 us) refl
  where
    go : (b : Bool) → has_use u.0 us ≡ b → SettleFate us (Some u) (if b then None else Some (us ++ u ∷ []))
    go true e = λ none. let bad : kind.ArgumentConflict ∷ [] ≡ [] = sym (ap conflict e) ∙ sym (settle_fault_is u.0 u.1 us) ∙ none in cc
    go false e = (settle_fault_is u.0 u.1 us ∙ ap conflict e, settled_is u.0 u.1 us e)
