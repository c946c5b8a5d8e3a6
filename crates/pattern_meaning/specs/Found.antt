-- What the plain evaluator of rules finds: detections, by the words of their atoms.
use Rattle.std.specs.Prelude.{ℕ, ◌≡◌, ◌≤◌, nat_le, Bool, true, cond, Some, List, [], ◌∷◌, ◌++◌, map}
use Rattle.std.specs.List.{filter}
use Rattle.std.specs.Str.{bytes_eq}
use Rattle.ordered_lists.specs.Lists.{some_of}
use Rattle.event_model.specs.Events.{span_of}
use Rattle.event_model.specs.declared.events.Event.{Event}
use Rattle.event_model.specs.declared.atoms.PatAtom.{PatAtom}
use Rattle.event_model.specs.declared.atoms.NameArity.{NameArity}
use Rattle.event_model.specs.declared.events.Detection.{Detection}
use Rattle.ev_bind.specs.Matching.{match_of, instance}
use Rattle.ev_bind.specs.declared.rows.Row.{Row}
use Rattle.rule_ast.specs.Trees.{PlainRule}
use Rattle.ordered_lists.specs.Canon.{has}
use Rattle.event_model.specs.EventOrder.{name_cmp}
use Rattle.rule_check.specs.Names.{head_name, body_names}
use Rattle.rule_check.specs.Cycles.{rank_of}
use Rattle.pattern_meaning.specs.PatternRows.{rows_of, spanned, found, is_of}
use Rattle.pattern_meaning.specs.RuleRows.{rows, has_head}

-- ---- detections of a name

-- those of a name
abbrev pub of_name : NameArity → List Detection → List Detection
of_name n ds = filter (λ d. is_of n d.atom) ds

abbrev pub found_row : Detection → Row
found_row d = found d.atom.args d.span

-- the rows of a name that detections are
abbrev pub named_in : List Detection → NameArity → List Row
named_in ds n = rows_of (map found_row (of_name n ds))

-- the row of an atom of a rule, where a detection matches it
abbrev pub matched_rows : PatAtom → Detection → List Row
matched_rows p d = some_of (spanned (Some d.span) (match_of p d.atom))

-- the instance of a head under a row
abbrev pub head_detection : PatAtom → Row → Detection
head_detection head r = record { atom = record { name = head.name; args = map (λ p. instance p r.binding) head.args }; span = r.span }

abbrev pub as_detection : Event → Detection
as_detection e = record { atom = e.atom; span = span_of e }

-- ---- what was found, word by word

abbrev pub Words : Type 0
Words = List ℕ → List Detection

-- the rows of a name
abbrev pub named_by : Words → NameArity → List Row
named_by words n = named_in (words n.name) n

-- one detection more
abbrev pub with_one : Words → Detection → Words
with_one words d word = cond (bytes_eq d.atom.name word) (words word ++ d ∷ []) (words word)

abbrev pub with_all : Words → List Detection → Words
with_all words [] = words
with_all words (d ∷ ds) = with_all (with_one words d) ds

-- the head instances that a rule gives
abbrev pub rule_detections : Words → PlainRule → List Detection
rule_detections words r = map (head_detection r.head) (rows (named_by words) r.body)

-- after one rule and the next
abbrev pub with_rules : Words → List PlainRule → Words
with_rules words [] = words
with_rules words (r ∷ rules) = with_rules (with_all words (rule_detections words r)) rules

-- ---- the order of rules

-- its head has at most this rank
abbrev pub is_within : List PlainRule → ℕ → PlainRule → Bool
is_within rules most r = nat_le (rank_of rules (head_name r)) most

-- after these rules, each of the rest comes when all rules of the names in its body have come
abbrev pub AreReady : List PlainRule → (done rest : List PlainRule) → Type 0
AreReady rules done [] = Unit {0}
AreReady rules done (r ∷ rest) =
    ((m : NameArity) → has name_cmp m (body_names r.body) ≡ true → filter (has_head m) done ≡ filter (has_head m) rules)
    × AreReady rules (done ++ r ∷ []) rest

-- all rules of the names of at most this rank, each after those of the names in its body
pub record IsOrdered (rules : List PlainRule) (most : ℕ) (ordered : List PlainRule) : Type 0 where
  pub whole : (n : NameArity) → rank_of rules n ≤ most → filter (has_head n) ordered ≡ filter (has_head n) rules
  pub ready : AreReady rules [] ordered
