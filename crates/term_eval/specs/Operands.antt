-- The values that code works with, in plain form.
use Rattle.std.specs.Prelude.{Option, option_map}
use Rattle.event_model.specs.declared.terms.Term.TheVariants as made
use Rattle.ev_bind.specs.Bindings.{Pairs}
use Rattle.ev_bind.specs.Matching.{instance}
use Rattle.term_eval.specs.declared.values.Value.{Value}
use Rattle.term_eval.specs.declared.values.Value.TheVariants as operand
use Rattle.term_eval.specs.Values.{PlainValue, Truth, Ground}

-- an argument is the term that the binding makes of it
abbrev pub plain_value : Pairs → Value → PlainValue
plain_value b (operand.Truth so) = Truth so
plain_value b (operand.Number n) = Ground (made.Num n)
plain_value b (operand.Shape p) = Ground (instance p.now b)

abbrev pub plain_answer : Pairs → Option Value → Option PlainValue
plain_answer b = option_map (plain_value b)
