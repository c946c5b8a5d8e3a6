-- The indexes of one step among those of a plan.
use Rattle.std.specs.Prelude.{List, ◌++◌, fold}
use Rattle.rule_ast.specs.PlainPlans.{PlainIndex}
use Rattle.step_meaning.specs.PlanOf.{with_index}

-- those that a step has asked for and those that it asks for yet, each once, between the indexes of the steps before it and after it
abbrev pub in_place : (before asked more after : List PlainIndex) → List PlainIndex
in_place before asked more after = before ++ (fold with_index asked more ++ after)
