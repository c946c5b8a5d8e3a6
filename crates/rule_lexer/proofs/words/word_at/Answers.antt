use Rattle.rule_lexer.specs.Sorts.{is_word}
use Rattle.rule_lexer.proofs.Runs.{run_passes}
use Rattle.rule_lexer.proofs.WordLaws.{word_letters, word_longest}
use Rattle.rule_lexer.proofs.words.word_at.Goals as goal

pub word_kind-requires-clause-word : goal.word_kind-requires-clause-word
word_kind-requires-clause-word c = rw c.word_len-len.ensures (run_passes is_word c.args.bytes.now)

pub word_kind-requires-clause-letter : goal.word_kind-requires-clause-letter
word_kind-requires-clause-letter c = word_letters c.args.bytes.now _ c.requires c.word_len-len.ensures

pub returns : goal.returns
returns c = word_longest c.args.bytes.now _ _ c.requires c.word_len-len.ensures c.word_kind.ensures
