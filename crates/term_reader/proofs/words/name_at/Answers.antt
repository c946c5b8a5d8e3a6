use Rattle.term_reader.proofs.Names.{name_text, name_read}
use Rattle.term_reader.proofs.words.name_at.Goals as goal

pub text_between-requires-clause-text : goal.text_between-requires-clause-text
text_between-requires-clause-text c = name_text _ _ _ c.requires.inside c.requires.lower c.word_end-end.ensures.read

pub returns : goal.returns
returns c = name_read _ _ _ _ c.requires.inside c.requires.lower c.word_end-end.ensures.read c.word_end-end.ensures.over c.in_ok-text_between.ensures
