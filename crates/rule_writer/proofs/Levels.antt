-- The tokens of a form at each level are those that are spelled where the level is wanted.
use Rattle.std.proofs.Common.{◌≡◌, ℕ, List, refl}
use Rattle.rule_writer.specs.Forms.{ConditionForm, ConditionForm.OfUnit, ConditionForm.OfProduct, ConditionForm.OfSum, ConditionForm.OfNegation, ConditionForm.OfAll, ConditionForm.OfCondition, as_condition, as_unit, as_product, as_sum, as_negation, as_all}
use Rattle.rule_writer.specs.Forms.{PatternForm, PatternForm.OfRound, PatternForm.OfPart, PatternForm.OfChain, PatternForm.OfTree, as_tree, as_round, as_part, as_chain}
use Rattle.rule_grammar.specs.Marks.{Marked}
use Rattle.rule_grammar.specs.Tokens.{condition, all, negation, sum, product, unit, tree, chain, part, round}
use Rattle.rule_writer.specs.Spelled.{condition_spelled, pattern_spelled}

pub unit_at : (d : ℕ) (x : ConditionForm) (rest : List Marked) → unit d (as_unit x) rest ≡ condition_spelled 6 d x rest
unit_at d (OfUnit u) rest = refl
unit_at d x rest = refl

pub product_at : (d : ℕ) (x : ConditionForm) (rest : List Marked) → product d (as_product x) rest ≡ condition_spelled 5 d x rest
product_at d (OfProduct p) rest = refl
product_at d (OfUnit u) rest = refl
product_at d x rest = refl

pub sum_at : (d : ℕ) (x : ConditionForm) (rest : List Marked) → sum d (as_sum x) rest ≡ condition_spelled 4 d x rest
sum_at d (OfSum s) rest = refl
sum_at d x rest = refl

pub negation_at : (d : ℕ) (x : ConditionForm) (rest : List Marked) → negation d (as_negation x) rest ≡ condition_spelled 2 d x rest
negation_at d (OfNegation n) rest = refl
negation_at d x rest = refl

pub all_at : (d : ℕ) (x : ConditionForm) (rest : List Marked) → all d (as_all x) rest ≡ condition_spelled 1 d x rest
all_at d (OfAll a) rest = refl
all_at d x rest = refl

pub condition_at : (d : ℕ) (x : ConditionForm) (rest : List Marked) → condition d (as_condition x) rest ≡ condition_spelled 0 d x rest
condition_at d (OfCondition c) rest = refl
condition_at d x rest = refl

pub round_at : (d : ℕ) (x : PatternForm) (rest : List Marked) → round d (as_round x) rest ≡ pattern_spelled 3 d x rest
round_at d (OfRound r) rest = refl
round_at d x rest = refl

pub part_at : (d : ℕ) (x : PatternForm) (rest : List Marked) → part d (as_part x) rest ≡ pattern_spelled 2 d x rest
part_at d (OfPart p) rest = refl
part_at d (OfRound r) rest = refl
part_at d x rest = refl

pub chain_at : (d : ℕ) (x : PatternForm) (rest : List Marked) → chain d (as_chain x) rest ≡ pattern_spelled 1 d x rest
chain_at d (OfChain c) rest = refl
chain_at d x rest = refl

pub tree_at : (d : ℕ) (x : PatternForm) (rest : List Marked) → tree d (as_tree x) rest ≡ pattern_spelled 0 d x rest
tree_at d (OfTree p) rest = refl
tree_at d x rest = refl
