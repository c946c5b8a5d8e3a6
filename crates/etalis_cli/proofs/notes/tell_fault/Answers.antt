use Rattle.etalis_cli.proofs.notes.tell_fault.Goals as goal

pub returns-in-HeadUnbound : goal.returns-in-HeadUnbound
returns-in-HeadUnbound g c = rw c.in-HeadUnbound.is c.tell_named.ensures

pub returns-in-WhereUnbound : goal.returns-in-WhereUnbound
returns-in-WhereUnbound g c = rw c.in-WhereUnbound.is c.tell_named-in-WhereUnbound.ensures

pub returns-in-OrVariables : goal.returns-in-OrVariables
returns-in-OrVariables g c = rw c.in-OrVariables.is c.tell_named-in-OrVariables.ensures

pub returns-in-NotVariables : goal.returns-in-NotVariables
returns-in-NotVariables g c = rw c.in-NotVariables.is c.tell_named-in-NotVariables.ensures

pub returns-in-ShowUnknown : goal.returns-in-ShowUnknown
returns-in-ShowUnknown g c = rw (c.in-ShowUnknown.is, ← c.from.ensures) c.tell_numbered.ensures

pub returns-in-Cycle : goal.returns-in-Cycle
returns-in-Cycle g c = rw (c.in-Cycle.is, ← c.from-in-Cycle.ensures) c.tell_numbered-in-Cycle.ensures

pub returns-in-Memory : goal.returns-in-Memory
returns-in-Memory g c = rw c.in-Memory.is c.tell_words.ensures
