use Rattle.std.proofs.Common.{refl, sym, ◌∙◌}
use Rattle.term_reader.proofs.Wholes.{name_given, comp_given}
use Rattle.term_reader.proofs.reading.atom_at.Goals as goal

pub returns-then-not-opens : goal.returns-then-not-opens
returns-then-not-opens c = name_given _ _ _ _ _ _ c.in_ok-name.ensures (sym c.opens.ensures ∙ c.if-not-opens.true) refl (c.in_ok-args.ensures ∙ c.new.ensures.items)

pub returns : goal.returns
returns c = comp_given _ _ _ _ _ _ _ _ c.in_ok-name.ensures c.in_ok-args-2.ensures refl c.in_ok-args-3.ensures
