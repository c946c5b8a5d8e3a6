-- Rows of small rule files, computed. A word is one letter, by its number: a is 97.
use Rattle.std.specs.Prelude.{ℕ, ◌≡◌, refl, List, [], ◌∷◌}
use Rattle.event_model.specs.Spans.{PlainSpan, instant}
use Rattle.event_model.specs.declared.events.Event.{Event}
use Rattle.event_model.specs.declared.operators.Op.TheVariants.{Seq, Par, During}
use Rattle.event_model.specs.declared.atoms.NameArity.{NameArity}
use Rattle.ev_bind.specs.declared.rows.Row.{Row}
use Rattle.rule_ast.specs.Trees.{PlainPattern, Atom, Both, Either, Exact, Not, PlainRule}
use Rattle.pattern_meaning.specs.PatternRows.{found}
use Rattle.pattern_meaning.specs.RuleRows.{name_rows}

abbrev leaf : ℕ → PlainPattern
leaf c = Atom (record { name = c ∷ []; args = [] })

abbrev rule : ℕ → PlainPattern → PlainRule
rule c body = record { head = record { name = c ∷ []; args = [] }; body = body; vars = [] }

abbrev event_on : PlainSpan → ℕ → Event
event_on span c = record { span = span; atom = record { name = c ∷ []; args = [] } }

abbrev event : ℕ → ℕ → Event
event time c = event_on (instant time) c

abbrev name : ℕ → NameArity
name c = record { name = c ∷ []; arity = 0 }

abbrev on : ℕ → ℕ → Row
on start end = found [] (record { start = start; end = end })

-- s <- a SEQ m. n <- NOT(c).[s,b].
abbrev unbroken : List PlainRule
unbroken = rule 115 (Both Seq (leaf 97) (leaf 109)) ∷ (rule 110 (Not (leaf 99) (leaf 115) (leaf 98)) ∷ [])

-- the chain from 1 to 2, 3 and 6 takes the row from 1 to 6 away, although no c comes after 5
chain_removes : name_rows unbroken (event 1 97 ∷ (event 2 109 ∷ (event 5 109 ∷ (event 3 99 ∷ (event 6 98 ∷ []))))) (name 110) ≡ []
chain_removes = refl

no_chain_left : name_rows unbroken (event 1 97 ∷ (event 5 109 ∷ (event 3 99 ∷ (event 6 98 ∷ [])))) (name 110) ≡ on 1 6 ∷ []
no_chain_left = refl

-- e <- a OR b.
either_once : name_rows (rule 101 (Either (leaf 97) (leaf 98)) ∷ []) (event 4 97 ∷ (event 4 98 ∷ [])) (name 101) ≡ on 4 4 ∷ []
either_once = refl

-- i <- a SEQ b. p <- x DURING i.
abbrev within_pair : List PlainRule
within_pair = rule 105 (Both Seq (leaf 97) (leaf 98)) ∷ (rule 112 (Both During (leaf 120) (leaf 105)) ∷ [])

-- an instant is during nothing
instant_not_during : name_rows within_pair (event 1 97 ∷ (event 9 98 ∷ (event 5 120 ∷ []))) (name 112) ≡ []
instant_not_during = refl

-- p <- x DURING i.
abbrev within_one : List PlainRule
within_one = rule 112 (Both During (leaf 120) (leaf 105)) ∷ []

abbrev from_1_to_9 : Event
from_1_to_9 = event_on (record { start = 1; end = 9 }) 105

abbrev from_3_to_5 : Event
from_3_to_5 = event_on (record { start = 3; end = 5 }) 120

-- an event that lasts is on its span
lasting_during_lasting : name_rows within_one (from_1_to_9 ∷ (from_3_to_5 ∷ [])) (name 112) ≡ on 1 9 ∷ []
lasting_during_lasting = refl

-- f <- (a SEQ b).4.
exactly_four :
    name_rows (rule 102 (Exact (Both Seq (leaf 97) (leaf 98)) 4) ∷ []) (event 1 97 ∷ (event 5 98 ∷ (event 6 98 ∷ []))) (name 102)
    ≡ on 1 5 ∷ []
exactly_four = refl

-- x <- a SEQ b. y <- c SEQ d. p <- x PAR y.
abbrev parallel : List PlainRule
parallel =
    rule 120 (Both Seq (leaf 97) (leaf 98)) ∷ (rule 121 (Both Seq (leaf 99) (leaf 100)) ∷ (rule 112 (Both Par (leaf 120) (leaf 121)) ∷ []))

overlapping : name_rows parallel (event 1 97 ∷ (event 3 99 ∷ (event 5 98 ∷ (event 9 100 ∷ [])))) (name 112) ≡ on 1 9 ∷ []
overlapping = refl

touching : name_rows parallel (event 1 97 ∷ (event 3 99 ∷ (event 9 100 ∷ (event 3 98 ∷ [])))) (name 112) ≡ []
touching = refl
