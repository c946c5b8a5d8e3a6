-- What a node of a graph reaches, and ranks of nodes above those of their targets.
use Rattle.std.specs.Prelude.{ℕ, ◌≡◌, ◌+◌, ◌<◌, ◌≤◌, max, Bool, true, false, cond, get_or, Option, Some, None, List, [], ◌∷◌, length, map}
use Rattle.rule_ast.specs.Vars.{is_in}
use Rattle.rule_check.specs.declared.graph.Mark.{Mark}
use Rattle.rule_check.specs.declared.graph.Mark.TheVariants.{New, Open, Ranked}

-- in any number of steps, also none
pub data Reaches {K : Type 0} (leads : K → K → Bool) : K → K → Type 0 where
  stop : (x : K) → Reaches leads x x
  step : (x y z : K) → leads x y ≡ true → Reaches leads y z → Reaches leads x z

-- in one step or more
abbrev pub Returns : {K : Type 0} → (K → K → Bool) → K → K → Type 0
Returns {K} leads x z = (y : K) × (leads x y ≡ true) × Reaches leads y z

-- the greatest of some numbers, or 0
abbrev pub greatest : List ℕ → ℕ
greatest [] = 0
greatest (x ∷ xs) = max x (greatest xs)

-- a graph is the list of each node's targets
abbrev pub targets : List (List ℕ) → ℕ → List ℕ
targets graph node = get_or graph node []

abbrev pub leads : List (List ℕ) → ℕ → ℕ → Bool
leads graph i j = is_in j (targets graph i)

-- each target is a node
abbrev pub IsGraph : List (List ℕ) → Type 0
IsGraph graph = (i j : ℕ) → leads graph i j ≡ true → j < length graph

-- ---- ranks

abbrev pub mark_at : List Mark → ℕ → Mark
mark_at marks node = get_or marks node New

abbrev pub is_open : Mark → Bool
is_open New = false
is_open Open = true
is_open (Ranked r) = false

abbrev pub is_new : Mark → Bool
is_new New = true
is_new Open = false
is_new (Ranked r) = false

abbrev pub is_ranked : Mark → Bool
is_ranked New = false
is_ranked Open = false
is_ranked (Ranked r) = true

abbrev pub rank_of : Mark → ℕ
rank_of New = 0
rank_of Open = 0
rank_of (Ranked r) = r

abbrev pub rank_at : List Mark → ℕ → ℕ
rank_at marks node = rank_of (mark_at marks node)

-- how many are new, and how many have no rank
abbrev pub tally : (Mark → Bool) → List Mark → ℕ
tally test [] = 0
tally test (m ∷ ms) = cond (test m) 1 0 + tally test ms

-- each node with a rank has targets with ranks, and its rank is one more than the greatest of theirs; no rank is more than the
-- number of ranked nodes
pub record AreRanked (graph : List (List ℕ)) (marks : List Mark) : Type 0 where
  pub below : (i j : ℕ) → is_ranked (mark_at marks i) ≡ true → leads graph i j ≡ true → is_ranked (mark_at marks j) ≡ true
  pub rank : (i : ℕ) → is_ranked (mark_at marks i) ≡ true → rank_at marks i ≡ greatest (map (rank_at marks) (targets graph i)) + 1
  pub few : (i : ℕ) → is_ranked (mark_at marks i) ≡ true → rank_at marks i ≤ tally is_ranked marks

-- what a visit leaves: ranks stay, and the same nodes are open
pub record Follows (old new : List Mark) : Type 0 where
  pub ranked : (i : ℕ) → is_ranked (mark_at old i) ≡ true → mark_at new i ≡ mark_at old i
  pub open_as_before : (i : ℕ) → is_open (mark_at new i) ≡ is_open (mark_at old i)
  pub fewer : tally is_new new ≤ tally is_new old

-- each open node leads to this one
abbrev pub OpenLead : List (List ℕ) → List Mark → ℕ → Type 0
OpenLead graph marks node = (i : ℕ) → is_open (mark_at marks i) ≡ true → Returns (leads graph) i node

abbrev pub HasCycle : List (List ℕ) → Type 0
HasCycle graph = (i : ℕ) × Returns (leads graph) i i

-- what a visit answers: the node's rank, or nothing where a node returns to itself
pub record Visited (graph : List (List ℕ)) (node rank : ℕ) (old new : List Mark) : Type 0 where
  pub rank_is : mark_at new node ≡ Ranked rank
  pub ranked : AreRanked graph new
  pub follows : Follows old new

abbrev pub IsVisit : Option ℕ → List (List ℕ) → ℕ → List Mark → List Mark → Type 0
IsVisit None graph node old new = HasCycle graph
IsVisit (Some rank) graph node old new = Visited graph node rank old new

-- a rank for each node: one more than the greatest of its targets' ranks, and no more than there are nodes
pub record IsRankList (graph : List (List ℕ)) (ranks : List ℕ) : Type 0 where
  pub sized : length ranks ≡ length graph
  pub rank : (i : ℕ) → i < length graph → get_or ranks i 0 ≡ greatest (map (λ j. get_or ranks j 0) (targets graph i)) + 1
  pub few : (i : ℕ) → i < length graph → get_or ranks i 0 ≤ length graph

-- ranks of all nodes, or nothing where a node returns to itself
abbrev pub AreRanksOf : Option (List ℕ) → List (List ℕ) → Type 0
AreRanksOf None graph = HasCycle graph
AreRanksOf (Some ranks) graph = IsRankList graph ranks

-- the nodes below this one have ranks, and none is open
pub record RankedBelow (graph : List (List ℕ)) (marks : List Mark) (below : ℕ) : Type 0 where
  pub sized : length marks ≡ length graph
  pub ranked : AreRanked graph marks
  pub closed : (i : ℕ) → is_open (mark_at marks i) ≡ false
  pub done : (i : ℕ) → i < below → is_ranked (mark_at marks i) ≡ true
