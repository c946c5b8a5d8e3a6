-- What the words of a command line ask for, by how they are written.
use Rattle.std.specs.Prelude.{◌≡◌, ℕ, Bool, true, false, not, ◌&&◌, ◌==◌, nat_le, nat_lt, List, [], ◌∷◌, ◌++◌, Option, Some, None, option_and_then, option_map, unwrap_or, if◌then◌else◌, length, string_bytes, codes, is_some}
use Rattle.std.specs.List.{list_all, flat_map}
use Rattle.std.specs.Str.{bytes_eq}
use Rattle.std.specs.Str.Parse.{digits_value}
use Rattle.event_model.specs.Bytes.{minus, digit_0, digit_9}
use Rattle.job_words.specs.declared.jobs.Mode.{Mode}
use Rattle.job_words.specs.declared.jobs.Mode.TheVariants.{Run, Check, Scratch, Held, Drill}
use Rattle.job_words.specs.declared.jobs.Job.{Job}
use Rattle.job_words.specs.declared.jobs.TheConstants.{MOST_LATE, MOST_SEED, MOST_LINES, SEED_UNSAID, LINES_UNSAID}

abbrev pub Text : Type 0
Text = List ℕ

pub record PlainJob : Type 0 where
  pub mode : Mode
  pub rules : Text
  pub late : Option ℕ
  pub seed : ℕ
  pub lines : ℕ

abbrev pub plain_job : Job → PlainJob
plain_job j = record { mode = j.mode; rules = string_bytes j.rules; late = j.late; seed = j.seed; lines = j.lines }

-- ---- how the words are taken apart

abbrev pub equals_sign : ℕ
equals_sign = 61

pub data OptionName : Type 0 where
  Late : OptionName
  Seed : OptionName
  Lines : OptionName

abbrev pub option_word : OptionName → Text
option_word Late = codes "--late"
option_word Seed = codes "--seed"
option_word Lines = codes "--lines"

-- a word that stands alone, or an option with its value, which is the next word or follows `=` in the same word
pub data Item : Type 0 where
  Alone : Text → Item
  Apart : OptionName → Text → Item
  Joined : OptionName → Text → Item

abbrev pub written : Item → List Text
written (Alone word) = word ∷ []
written (Apart name value) = option_word name ∷ value ∷ []
written (Joined name value) = (option_word name ++ equals_sign ∷ value) ∷ []

-- the word doesn't begin with a dash, unless it is a dash alone
abbrev pub is_plain : Text → Bool
is_plain [] = true
is_plain (b ∷ []) = true
is_plain (b ∷ c ∷ more) = not (b == minus)

abbrev pub is_free : Item → Bool
is_free (Alone word) = is_plain word
is_free (Apart name value) = true
is_free (Joined name value) = true

-- the words behind `--`
abbrev pub closing : Option (List Text) → List Text
closing None = []
closing (Some words) = codes "--" ∷ words

-- the words are these items, and then perhaps `--` and these words
pub record Splits (words : List Text) (items : List Item) (rest : Option (List Text)) : Type 0 where
  pub written : words ≡ flat_map written items ++ closing rest
  pub free : list_all is_free items ≡ true

abbrev pub alone_in : Item → List Text
alone_in (Alone word) = word ∷ []
alone_in (Apart name value) = []
alone_in (Joined name value) = []

-- the words that are no option and no value of one
abbrev pub positional : List Item → Option (List Text) → List Text
positional items rest = flat_map alone_in items ++ unwrap_or rest []

abbrev pub same_name : OptionName → OptionName → Bool
same_name Late Late = true
same_name Seed Seed = true
same_name Lines Lines = true
same_name _ _ = false

abbrev pub value_in : OptionName → Item → List Text
value_in name (Alone word) = []
value_in name (Apart other value) = if same_name name other then value ∷ [] else []
value_in name (Joined other value) = if same_name name other then value ∷ [] else []

-- the values that an option is given
abbrev pub values : OptionName → List Item → List Text
values name = flat_map (value_in name)

-- ---- what they say

abbrev pub mode_said : Text → Option Mode
mode_said word =
    if bytes_eq word (codes "run") then Some Run
    else if bytes_eq word (codes "check") then Some Check
    else if bytes_eq word (codes "scratch") then Some Scratch
    else if bytes_eq word (codes "held") then Some Held
    else if bytes_eq word (codes "drill") then Some Drill
    else None

abbrev pub is_digit : ℕ → Bool
is_digit b = nat_le digit_0 b && nat_le b digit_9

-- one digit or more, of a value of at most `most`
abbrev pub is_number : ℕ → Text → Bool
is_number most word = list_all is_digit word && (nat_lt 0 (length word) && nat_le (digits_value 10 word) most)

abbrev pub number_to : ℕ → Text → Option ℕ
number_to most word = if is_number most word then Some (digits_value 10 word) else None

-- an option that isn't given, or given once with a number of at most `most`
abbrev pub said_to : ℕ → List Text → Option (Option ℕ)
said_to most [] = Some None
said_to most (word ∷ []) = option_map (λ n. Some n) (number_to most word)
said_to most (word ∷ again ∷ more) = None

abbrev pub most : OptionName → ℕ
most Late = MOST_LATE
most Seed = MOST_SEED
most Lines = MOST_LINES

abbrev pub said : OptionName → List Text → Option (Option ℕ)
said name = said_to (most name)

-- whether the mode has the options that are given
abbrev pub fits : Mode → Option ℕ → Option ℕ → Option ℕ → Bool
fits Run late seed lines = not (is_some seed) && not (is_some lines)
fits Check late seed lines = not (is_some late) && (not (is_some seed) && not (is_some lines))
fits Scratch late seed lines = not (is_some seed) && not (is_some lines)
fits Held late seed lines = not (is_some seed) && not (is_some lines)
fits Drill late seed lines = true

abbrev pub job_with : Text → Mode → Option ℕ → Option ℕ → Option ℕ → Option PlainJob
job_with rules mode late seed lines =
    if fits mode late seed lines
    then Some (record { mode = mode; rules = rules; late = late; seed = unwrap_or seed SEED_UNSAID; lines = unwrap_or lines LINES_UNSAID })
    else None

-- the job of two words and of the numbers of the options, where they go together
abbrev pub job_of : (words lates seeds counts : List Text) → Option PlainJob
job_of (mode ∷ rules ∷ []) lates seeds counts =
    option_and_then (λ m. option_and_then (λ late. option_and_then (λ seed. option_and_then (λ lines. job_with rules m late seed lines)
    (said Lines counts)) (said Seed seeds)) (said Late lates)) (mode_said mode)
job_of _ lates seeds counts = None

-- the words say this job
pub record InForm (words : List Text) (job : PlainJob) : Type 0 where
  pub items : List Item
  pub rest : Option (List Text)
  pub splits : Splits words items rest
  pub says : job_of (positional items rest) (values Late items) (values Seed items) (values Lines items) ≡ Some job
