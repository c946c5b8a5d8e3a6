use Rattle.std.proofs.Common.{Some, None}
use Rattle.std.proofs.lemmas.Bool.Decides.{Decides-eqb}
use Rattle.std.proofs.lemmas.Slice.Eq.{strip_suffix_is}
use Rattle.line_reader.proofs.ReturnLaws.{cr_was_cut, no_cr_to_cut}
use Rattle.line_reader.proofs.reading.without_cr.Goals as goal

pub returns-in-Some : goal.returns-in-Some
returns-in-Some c = cr_was_cut c.in-Some.line.now c.args.raw.now c.as_slice.result.now c.as_slice.ensures
    (strip_suffix_is Decides-eqb c.args.raw.now c.as_slice.result.now (Some c.in-Some.line) c.in-Some.ensures.cases)

pub returns-in-None : goal.returns-in-None
returns-in-None c = no_cr_to_cut c.args.raw.now c.as_slice.result.now c.as_slice.ensures
    (strip_suffix_is Decides-eqb c.args.raw.now c.as_slice.result.now None c.in-None.ensures.cases)
