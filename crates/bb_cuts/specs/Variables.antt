-- Between functions: Variables for some of the nodes of a graph, and clauses that are true exactly where each variable
-- has the value of its node (rule of this project).
use Rattle.std.specs.Prelude.{
  ◌≡◌,
  ℕ,
  ◌+◌,
  ◌/◌,
  ◌%◌,
  ◌<◌,
  ◌≤◌,
  ◌==◌,
  if◌then◌else◌,
  Bool,
  true,
  false,
  List,
  [],
  ◌∷◌,
  ◌++◌,
  length,
  map,
  slice_index_or,
  ℤ,
  pos,
}
use Rattle.bb_aig.specs.declared.node.AigNode.{AigNode}
use Rattle.bb_aig.specs.Graph.{values_of, lit_at, inputs_of}
use Rattle.bb_words.specs.Words.{count}
use Rattle.cnf_form.specs.Cnf.{Cnf, formula_true}
use Rattle.bb_clauses.specs.Models.{number_in}
use Rattle.bb_cuts.specs.declared.leaves.Leaves.{Leaves}
use Rattle.bb_cuts.specs.Rows.{row_of, has_row}

-- the value of a node
abbrev pub node_at : List AigNode → (ℕ → Bool) → ℕ → Bool
node_at graph x n = slice_index_or (values_of graph x) n false

-- the value of a variable; variable 0 is false
abbrev pub var_at : (ℕ → Bool) → ℕ → Bool
var_at v k = if k == 0 then false else v k

-- Each variable has the value of its node: variable k is item k of a list of nodes.
abbrev pub Stand : List AigNode → (ℕ → Bool) → List ℕ → (ℕ → Bool) → Type 0
Stand graph x nodes v = (k : ℕ) → k < length nodes → var_at v k ≡ node_at graph x (slice_index_or nodes k 0)

-- variable i + 1 is input i, which is node i + 1 of the graph
abbrev pub HasInputs : List AigNode → List ℕ → Type 0
HasInputs graph nodes =
    (i : ℕ) → i < inputs_of graph → (i + 1 < length nodes) × (slice_index_or nodes (i + 1) 0 ≡ i + 1)

-- the variables of the inputs have these values
abbrev pub AreRead : List AigNode → (ℕ → Bool) → (ℕ → Bool) → Type 0
AreRead graph x v = (i : ℕ) → i < inputs_of graph → v (i + 1) ≡ x i

-- Clauses are true exactly where each variable has the value of its node.
pub record AreTold (graph : List AigNode) (nodes : List ℕ) (clauses : List (List ℤ)) : Type 0 where
  pub some : 1 ≤ length nodes
  pub first : slice_index_or nodes 0 0 ≡ 0
  pub inputs : HasInputs graph nodes
  pub extends : (x v : ℕ → Bool) → Stand graph x nodes v → formula_true v clauses ≡ true
  pub only : (x v : ℕ → Bool) → AreRead graph x v → formula_true v clauses ≡ true → Stand graph x nodes v

-- variable k is this node
abbrev pub IsNamed : List ℕ → ℕ → ℕ → Type 0
IsNamed nodes k node = (k < length nodes) × (slice_index_or nodes k 0 ≡ node)

pub record AreNamed (nodes : List ℕ) (vars leaves : Leaves) : Type 0 where
  pub first : IsNamed nodes vars.first leaves.first
  pub second : IsNamed nodes vars.second leaves.second
  pub third : IsNamed nodes vars.third leaves.third
  pub fourth : IsNamed nodes vars.fourth leaves.fourth

-- a literal of the variable of a literal's node, with the same sign
abbrev pub IsSame : List ℕ → ℕ → ℕ → Type 0
IsSame nodes lit graph_lit = IsNamed nodes (lit / 2) (graph_lit / 2) × (lit % 2 ≡ graph_lit % 2)

abbrev pub AreSame : List ℕ → List ℕ → List ℕ → Type 0
AreSame nodes [] [] = Unit {0}
AreSame nodes (l ∷ ls) (g ∷ gs) = IsSame nodes l g × AreSame nodes ls gs
AreSame nodes ls gs = ⊥

abbrev pub AreSameWords : List ℕ → List (List ℕ) → List (List ℕ) → Type 0
AreSameWords nodes [] [] = Unit {0}
AreSameWords nodes (w ∷ ws) (g ∷ gs) = AreSame nodes w g × AreSameWords nodes ws gs
AreSameWords nodes ws gs = ⊥

-- the value of a node in each row of leaves, whatever the inputs are
abbrev pub IsTable : List AigNode → Leaves → ℕ → ℕ → Type 0
IsTable graph leaves node table =
    (x : ℕ → Bool) → has_row table (row_of (node_at graph x) leaves) ≡ node_at graph x node

-- The clauses before the last are true for exactly one choice of values for each choice of inputs: each variable has
-- the value of its node, and the last variable, behind them, is the root. Literals of the variables have the values of
-- words of the graph.
pub record TellsCuts (graph : List AigNode) (root : ℕ) (old new : List (List ℕ)) (formula : Cnf) : Type 0 where
  pub nodes : List ℕ
  pub before : List (List ℤ)
  pub vars : formula.vars ≡ length nodes
  pub last : formula.clauses ≡ before ++ (pos formula.vars ∷ []) ∷ []
  pub some : 1 ≤ length nodes
  pub first : slice_index_or nodes 0 0 ≡ 0
  pub inputs : HasInputs graph nodes
  pub extends : (x v : ℕ → Bool) → Stand graph x nodes v → v formula.vars ≡ lit_at graph x root
      → formula_true v before ≡ true
  pub only : (x v : ℕ → Bool) → AreRead graph x v → formula_true v before ≡ true
      → Stand graph x nodes v × (v formula.vars ≡ lit_at graph x root)
  pub shows : (x v : ℕ → Bool) → Stand graph x nodes v → map (number_in v) new ≡ map (count graph x) old
  pub wide : map length new ≡ map length old
