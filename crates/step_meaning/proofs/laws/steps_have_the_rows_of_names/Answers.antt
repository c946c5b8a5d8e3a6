use Rattle.std.proofs.Common.{[]}
use Rattle.step_meaning.specs.Chains.{chains_are}
use Rattle.step_meaning.specs.NamedSteps.{named_steps_exact, plan_lower, standing_by_steps}
use Rattle.step_meaning.specs.Operands.{rows_of_supports, there_where_counted}
use Rattle.step_meaning.proofs.laws.steps_have_the_rows_of_names.Goals as goal

pub returns : goal.returns
returns c = record {
  named = named_steps_exact;
  shown = standing_by_steps;
  operands = λ statements ranking. plan_lower statements [] ranking;
  counted = λ steps lower events. there_where_counted events steps lower;
  supported = λ steps lower events. rows_of_supports events steps lower;
  chained = chains_are;
}
