-- The rules that a file is accepted as, and why none are.
use Rattle.std.proofs.Common.{◌≡◌, ◌≢◌, ℕ, ◌≤◌, ◌<◌, ◌^◌, List, length, Some, Err, sym, ap, ◌∙◌, subst, arith}
use Rattle.std.specs.Str.{IsUtf8}
use Rattle.rule_ast.specs.Trees.{PlainStatement}
use Rattle.rule_ast.specs.Plain.{plain_rules}
use Rattle.rule_ast.specs.declared.statements.RuleSet.{RuleSet}
use Rattle.rule_grammar.specs.declared.faults.Which.{Which}
use Rattle.rule_grammar.specs.Files.{Holds}
use Rattle.rule_parser.specs.Answers.{Answers, Gives}
use Rattle.rule_parser.specs.declared.faults.ParseFault.{ParseFault}
use Rattle.rule_parser.specs.declared.faults.ParseFault.TheVariants as parse
use Rattle.rule_parser.proofs.Meanings.{one_meaning}
use Rattle.rule_ast.specs.Shown.{shown_names}
use Rattle.rule_check.specs.Verdict.{IsSound, IsRefusal}
use Rattle.rule_check.specs.declared.faults.CheckFault.{CheckFault}
use Rattle.rule_check.specs.declared.faults.CheckFault.TheVariants as check
use Rattle.etalis_cli.specs.declared.accepting.TheConstants.{MOST_FILE_BYTES}
use Rattle.etalis_cli.specs.declared.refusals.FileRefusal.TheVariants as refusal
use Rattle.step_meaning.specs.PlanOf.{plan_of}
use Rattle.binariser.specs.declared.faults.TheConstants.{MOST_STEPS}
use Rattle.etalis_cli.specs.Rules.{IsText, HoldsSound, Accepted, HasNone, IsRefused}

pub same_Some : {X : Type 0} (x y : X) → Some x ≡ Some y → x ≡ y
same_Some x y e = cc

-- no file is accepted as two lists of rules
pub one_acceptance : (file : List ℕ) (rs others : List PlainStatement) → Accepted file rs → Accepted file others → rs ≡ others
one_acceptance file rs others a b = one_meaning file rs others a.sound.holds b.sound.holds

-- a file that holds other rules than those with too large a plan is none
pub too_great : (file : List ℕ) (rules : List PlainStatement) → HoldsSound file rules → MOST_STEPS < length (plan_of rules).steps
    → IsRefused file refusal.TooManySteps × HasNone file
too_great file rules sound over = (
  record { rules = rules; sound = sound; over = over },
  λ others a. absurd (omega (arith, over, subst (λ r. length (plan_of r).steps ≤ MOST_STEPS) (one_meaning file others rules a.sound.holds sound.holds) a.fits)),
)

module _ (file text : List ℕ) (same : text ≡ file) (short : length file ≤ MOST_FILE_BYTES) (utf8 : IsUtf8 file) where
  is_text : IsText file
  is_text = record { short = short; utf8 = utf8 }

  none_held : ((rules : List PlainStatement) → Holds text rules → ⊥) → HasNone file
  none_held never = λ rs a. never rs (subst (λ f. Holds f rs) (sym same) a.sound.holds)

  pub syntax_refused : (at place : ℕ) → at ≡ place → (f : ParseFault) → f ≡ parse.Syntax at → Answers text (Err f) → ((rules : List PlainStatement) → Holds text rules → Gives rules (Err f))
      → IsRefused file (refusal.Syntax place) × HasNone file
  syntax_refused at place p f e answers only =
      let q : f ≡ parse.Syntax place = e ∙ ap (λ n. parse.Syntax n) p in
      ((is_text, subst (λ t. Answers t (Err (parse.Syntax place))) same (subst (λ x. Answers text (Err x)) q answers)), none_held (λ rules h. subst (λ x. Gives rules (Err x)) q (only rules h)))

  pub limit_refused : (which limit : Which) (at place : ℕ) → which ≡ limit → at ≡ place → (f : ParseFault) → f ≡ parse.Limit which at → Answers text (Err f)
      → ((rules : List PlainStatement) → Holds text rules → Gives rules (Err f)) → IsRefused file (refusal.Limit limit place) × HasNone file
  limit_refused which limit at place o p f e answers only =
      let q : f ≡ parse.Limit limit place = e ∙ (λ i. parse.Limit (o i) (p i)) in
      ((is_text, subst (λ t. Answers t (Err (parse.Limit limit place))) same (subst (λ x. Answers text (Err x)) q answers)), none_held (λ rules h. subst (λ x. Gives rules (Err x)) q (only rules h)))

  -- rules that were read, and no others are held
  module _ (r : RuleSet) (holds : Holds text (plain_rules r)) (only : (rules : List PlainStatement) → Holds text rules → plain_rules r ≡ rules) where
    held : Holds file (plain_rules r)
    held = subst (λ t. Holds t (plain_rules r)) same holds

    same_rules : (rules : List PlainStatement) → Holds file rules → plain_rules r ≡ rules
    same_rules rules h = only rules (subst (λ f. Holds f rules) (sym same) h)

    pub unsound_refused : (f : CheckFault) → IsRefusal f (plain_rules r) → f ≢ check.Memory → (IsSound (plain_rules r) → f ≡ check.Memory)
        → IsRefused file (refusal.Unsound f) × HasNone file
    unsound_refused f first found exact = (
      record { text = is_text; rules = plain_rules r; holds = held; first = first; found = found },
      λ rs a. found (exact (subst IsSound (sym (same_rules rs a.sound.holds)) a.sound.sound)),
    )

    pub sound_held : IsSound (plain_rules r) → HoldsSound file (plain_rules r)
    sound_held sound = record { text = is_text; holds = held; sound = sound }

    -- the shown names can be numbered
    pub few_names : length (shown_names (plain_rules r)) ≤ length text → length (shown_names (plain_rules r)) < 2 ^ 32
    few_names few = omega (arith, few, ap length same)
