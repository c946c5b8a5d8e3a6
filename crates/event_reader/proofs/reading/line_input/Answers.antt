use Rattle.event_reader.proofs.Pieces.{comment_read, word_line}
use Rattle.event_reader.proofs.reading.line_input.Goals as goal

pub returns-in-Some-Hash : goal.returns-in-Some-Hash
returns-in-Some-Hash c = comment_read _ _ _ c.blanks_end-start.ensures.read c.in-Some-Hash.ensures c.in-Some-Hash.field-0-is

pub returns-in-Some-Other : goal.returns-in-Some-Other
returns-in-Some-Other c = word_line _ _ _ _ c.blanks_end-start.ensures.read c.in-Some-Other.ensures c.in-Some-Other.field-0-is c.word_at.ensures
