-- Which rules a file is accepted as, and why another file is refused.
use Rattle.std.specs.Prelude.{◌≢◌, ℕ, ◌<◌, ◌≤◌, List, ◌++◌, length, Result, Ok, Err, codes, decimal}
use Rattle.std.specs.Str.{IsUtf8, IsValidUpTo}
use Rattle.rule_ast.specs.Trees.{PlainStatement}
use Rattle.rule_ast.specs.Plain.{plain_rules}
use Rattle.rule_ast.specs.declared.statements.RuleSet.{RuleSet}
use Rattle.step_meaning.specs.PlanOf.{plan_of}
use Rattle.binariser.specs.declared.faults.TheConstants.{MOST_STEPS}
use Rattle.etalis_core.specs.StandsFor.{rules_of}
use Rattle.etalis_core.specs.declared.engine.Engine.{Engine}
use Rattle.rule_grammar.specs.declared.faults.Which.{Which}
use Rattle.rule_grammar.specs.declared.faults.Which.TheVariants.{Statements, Parts, Depth, Variables, TermDepth, TermWidth, Length}
use Rattle.rule_grammar.specs.Files.{Holds}
use Rattle.rule_parser.specs.Answers.{SyntaxIn, LimitIn}
use Rattle.rule_check.specs.Verdict.{IsSound, IsRefusal}
use Rattle.rule_check.specs.declared.faults.CheckFault.{CheckFault}
use Rattle.rule_check.specs.declared.faults.CheckFault.TheVariants as check
use Rattle.etalis_cli.specs.declared.refusals.FileRefusal.{FileRefusal}
use Rattle.etalis_cli.specs.declared.refusals.FileRefusal.TheVariants as refusal
use Rattle.etalis_cli.specs.declared.accepting.TheConstants.{MOST_FILE_BYTES}
use Rattle.etalis_cli.specs.declared.accepting.AcceptFault.{AcceptFault}
use Rattle.etalis_cli.specs.declared.accepting.AcceptFault.TheVariants as fault

-- not too long, and UTF-8
pub record IsText (file : List ℕ) : Type 0 where
  pub short : length file ≤ MOST_FILE_BYTES
  pub utf8 : IsUtf8 file

-- the file's text holds these rules, and they are sound
pub record HoldsSound (file : List ℕ) (rules : List PlainStatement) : Type 0 where
  pub text : IsText file
  pub holds : Holds file rules
  pub sound : IsSound rules

-- the file holds these rules, and their plan has no more steps than may be
pub record Accepted (file : List ℕ) (rules : List PlainStatement) : Type 0 where
  pub sound : HoldsSound file rules
  pub fits : length (plan_of rules).steps ≤ MOST_STEPS

abbrev pub IsAccepted : List ℕ → Type 0
IsAccepted file = (rules : List PlainStatement) × Accepted file rules

-- the file is accepted as no rules
abbrev pub HasNone : List ℕ → Type 0
HasNone file = (rules : List PlainStatement) → ¬ (Accepted file rules)

-- the file's text holds rules that aren't sound, and this is their first fault
pub record IsUnsound (file : List ℕ) (fault : CheckFault) : Type 0 where
  pub text : IsText file
  pub rules : List PlainStatement
  pub holds : Holds file rules
  pub first : IsRefusal fault rules
  pub found : fault ≢ check.Memory

-- the file holds rules of which the plan has too many steps
pub record IsTooGreat (file : List ℕ) : Type 0 where
  pub rules : List PlainStatement
  pub sound : HoldsSound file rules
  pub over : MOST_STEPS < length (plan_of rules).steps

-- the first of these that holds of the file
abbrev pub IsRefused : List ℕ → FileRefusal → Type 0
IsRefused file refusal.TooLong = MOST_FILE_BYTES < length file
IsRefused file (refusal.NotUtf8 at) = (length file ≤ MOST_FILE_BYTES) × IsValidUpTo file at
IsRefused file (refusal.Syntax at) = IsText file × SyntaxIn file at
IsRefused file (refusal.Limit which at) = IsText file × LimitIn file which at
IsRefused file (refusal.Unsound fault) = IsUnsound file fault
IsRefused file refusal.TooManySteps = IsTooGreat file

-- the file is refused for this cause and accepted as no rules, unless memory failed
abbrev pub IsFault : List ℕ → AcceptFault → Type 0
IsFault file (fault.Refused cause) = IsRefused file cause × HasNone file
IsFault file fault.Memory = Unit {0}

-- the file holds these rules, and they are sound; or it is refused
abbrev pub IsRead : List ℕ → Result RuleSet AcceptFault → Type 0
IsRead file (Ok rules) = HoldsSound file (plain_rules rules)
IsRead file (Err fault) = IsFault file fault

-- the file is accepted as the rules of this engine; or it is refused
abbrev pub IsJudged : List ℕ → Result Engine AcceptFault → Type 0
IsJudged file (Ok engine) = Accepted file (rules_of engine)
IsJudged file (Err fault) = IsFault file fault

-- ---- what is told of a refused file

-- a number in decimal between words
abbrev pub numbered : List ℕ → ℕ → List ℕ → List ℕ
numbered front number back = front ++ (decimal number ++ back)

abbrev pub placed : List ℕ → ℕ → List ℕ
placed front at = numbered front at (codes "\n")

-- a fault of a rule, with the name of a variable
abbrev pub named : ℕ → List ℕ → List ℕ → List ℕ
named number words name = numbered (codes "etalis: rules: rule ") number words ++ (name ++ codes "\n")

abbrev pub limit_words : Which → List ℕ
limit_words Statements = codes "etalis: rules: limit statements at "
limit_words Parts = codes "etalis: rules: limit parts at "
limit_words Depth = codes "etalis: rules: limit depth at "
limit_words Variables = codes "etalis: rules: limit variables at "
limit_words TermDepth = codes "etalis: rules: limit term depth at "
limit_words TermWidth = codes "etalis: rules: limit term width at "
limit_words Length = codes "etalis: rules: limit length at "

-- want of memory is told as such, and refuses no file
abbrev pub fault_note : CheckFault → List ℕ
fault_note (check.HeadUnbound number name) = named number (codes ": head ") name
fault_note (check.WhereUnbound number name) = named number (codes ": where ") name
fault_note (check.OrVariables number name) = named number (codes ": or ") name
fault_note (check.NotVariables number name) = named number (codes ": not ") name
fault_note (check.ShowUnknown number) = numbered (codes "etalis: rules: show ") number (codes ": unknown\n")
fault_note (check.Cycle number) = numbered (codes "etalis: rules: rule ") number (codes ": cycle\n")
fault_note check.Memory = codes "etalis: out of memory\n"

abbrev pub refusal_note : FileRefusal → List ℕ
refusal_note refusal.TooLong = codes "etalis: rules: over 1048576 bytes\n"
refusal_note (refusal.NotUtf8 at) = placed (codes "etalis: rules: not utf-8 at ") at
refusal_note (refusal.Syntax at) = placed (codes "etalis: rules: syntax at ") at
refusal_note (refusal.Limit which at) = placed (limit_words which) at
refusal_note (refusal.Unsound fault) = fault_note fault
refusal_note refusal.TooManySteps = codes "etalis: rules: over 65536 steps\n"
