-- What a table of detections holds.
use Rattle.std.specs.Prelude.{unwrap_or, []}
use Rattle.std.specs.Option.{option_map}
use Rattle.std.specs.HashMap.{get}
use Rattle.std.specs.Str.{bytes_eq}
use Rattle.pattern_meaning.specs.declared.found.Found.{Found}
use Rattle.pattern_meaning.specs.Found.{Words}

-- the detections of each word
abbrev pub words_of : Found → Words
words_of f word = unwrap_or (option_map (λ v. v.items) (get bytes_eq f.by_word word)) []
