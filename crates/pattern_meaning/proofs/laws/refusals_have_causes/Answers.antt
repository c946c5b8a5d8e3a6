use Rattle.pattern_meaning.proofs.RefusalLaws.{refused_for_syntax, refused_as_misplaced, refused_as_below, refused_as_absent, accepted_else}
use Rattle.pattern_meaning.proofs.laws.refusals_have_causes.Goals as goal

pub returns : goal.returns
returns c = record {
  syntax = refused_for_syntax;
  misplaced = refused_as_misplaced;
  below = refused_as_below;
  absent = refused_as_absent;
  accepted = accepted_else;
}
