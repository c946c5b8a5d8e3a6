-- The tokens of a form where a level is wanted: 0 is the loosest, and a bracket stands round what is looser.
use Rattle.std.specs.Prelude.{ℕ, ◌+◌, cond, nat_lt, List, ◌∷◌}
use Rattle.rule_lexer.specs.declared.terminals.Terminal.TheVariants as t
use Rattle.rule_grammar.specs.Marks.{Marked, Role.Nests}
use Rattle.rule_grammar.specs.Tokens.{quiet, condition, tree}
use Rattle.rule_writer.specs.Forms.{ConditionForm, ConditionForm.OfUnit, ConditionForm.OfProduct, ConditionForm.OfSum, ConditionForm.OfComparison, ConditionForm.OfNegation, ConditionForm.OfAll, ConditionForm.OfCondition, as_condition}
use Rattle.rule_writer.specs.Forms.{PatternForm, PatternForm.OfRound, PatternForm.OfPart, PatternForm.OfChain, PatternForm.OfTree, as_tree}

abbrev pub condition_level : ConditionForm → ℕ
condition_level (OfUnit u) = 6
condition_level (OfProduct p) = 5
condition_level (OfSum s) = 4
condition_level (OfComparison c) = 3
condition_level (OfNegation n) = 2
condition_level (OfAll a) = 1
condition_level (OfCondition c) = 0

abbrev pub condition_spelled : ℕ → ℕ → ConditionForm → List Marked → List Marked
condition_spelled level d x rest =
    cond (nat_lt (condition_level x) level)
    ((Nests (d + 1), t.Open) ∷ condition (d + 1) (as_condition x) (quiet t.Close rest)) (condition d (as_condition x) rest)

abbrev pub pattern_level : PatternForm → ℕ
pattern_level (OfRound r) = 3
pattern_level (OfPart p) = 2
pattern_level (OfChain c) = 1
pattern_level (OfTree t) = 0

abbrev pub pattern_spelled : ℕ → ℕ → PatternForm → List Marked → List Marked
pattern_spelled level d x rest =
    cond (nat_lt (pattern_level x) level)
    ((Nests (d + 1), t.Open) ∷ tree (d + 1) (as_tree x) (quiet t.Close rest)) (tree d (as_tree x) rest)
