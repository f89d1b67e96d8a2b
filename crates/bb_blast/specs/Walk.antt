-- Between functions: The bits of the nodes of a net in which only inputs, here sources, have numbers (rule of this
-- project).
use Rattle.std.specs.Prelude.{ℕ, ◌<◌, ◌==◌, Bool, true, not, ◌&&◌, List, []}
use Rattle.std.specs.Prelude.{◌∷◌, length, slice_index}
use Rattle.wn_net.specs.declared.node.Node.{Node}
use Rattle.wn_net.specs.Width.{Shape, IsWidth, AreThere, AreAlike, IsFitting, AreFitting, width, widths}
use Rattle.wn_net.specs.Value.{Given, value, values}
use Rattle.bb_aig.specs.declared.node.AigNode.{AigNode}
use Rattle.bb_words.specs.declared.operator.PairOperator.{PairOperator}
use Rattle.bb_words.specs.declared.operator.ShiftOperator.{ShiftOperator}
use Rattle.bb_words.specs.Operators.{value_of, width_of, shift_of}
use Rattle.bb_words.specs.Words.{Numbers, IsWord, AreWords}

-- a net with inputs of these widths, without registers and memories: no node that fits reads one
abbrev pub sources : List ℕ → Shape
sources widths = record { inputs = widths; regs = []; mems = [] }

-- the numbers of a cycle of it
abbrev pub given_by : List ℕ → Given
given_by numbers = record { inputs = numbers; state = record { regs = []; mems = [] } }

-- the values of all nodes, where the sources have these numbers
abbrev pub values_by : List ℕ → List Node → List ℕ → List ℕ
values_by wi nodes numbers = values (sources wi) (given_by numbers) [] [] nodes

abbrev pub widths_by : List ℕ → List Node → List ℕ
widths_by wi nodes = widths (sources wi) [] nodes

-- each width is from 1 to 128
abbrev pub AreWidths : List ℕ → Type 0
AreWidths ws = (i : ℕ) → i < length ws → IsWidth (slice_index ws i)

-- a table has the bits of nodes for which a node fits
pub record Reads (graph : List AigNode) (table : List (List ℕ)) (fits : List ℕ → Type 0) : Type 0 where
  pub node_widths : List ℕ
  pub means : Numbers
  pub small : AreWidths node_widths
  pub words : AreWords graph node_widths means table
  pub fitting : fits node_widths

-- Literals are the bits of what an operator makes of the numbers of two nodes, whatever these are.
abbrev pub MeansPairAt : List AigNode → List AigNode → List (List ℕ) → PairOperator → ℕ → ℕ
    → List ℕ → Type 0
MeansPairAt old new table operator a b lits =
    (ws : List ℕ) (means : Numbers) → AreAlike ws a b → AreWords old ws means table
    → IsWord new (width_of operator (slice_index ws a))
    (λ x. value_of operator (slice_index ws a) (slice_index (means x) a) (slice_index (means x) b)) lits

-- and of a shift of the one by the other
abbrev pub MeansShiftAt : List AigNode → List AigNode → List (List ℕ) → ShiftOperator → ℕ → ℕ
    → List ℕ → Type 0
MeansShiftAt old new table operator a b lits =
    (ws : List ℕ) (means : Numbers) → AreThere ws a b → AreWords old ws means table
    → IsWord new (slice_index ws a)
    (λ x. shift_of operator (slice_index ws a) (slice_index (means x) a) (slice_index (means x) b)) lits

-- Literals are the bits of a node, whatever the nodes before it and the sources are.
abbrev pub MeansWord : List AigNode → List AigNode → List (List ℕ) → Node → List ℕ → Type 0
MeansWord old new table node lits =
    (wi ws : List ℕ) (given means : Numbers) → IsFitting (sources wi) ws node → AreWords old ws means table
    → IsWord new (width (sources wi) ws node) (λ x. value (given_by (given x)) ws (means x) node) lits

-- whatever the nodes before it are, where the inputs have the bits of sources
abbrev pub MeansNode : List AigNode → List AigNode → List (List ℕ) → List (List ℕ) → Node → List ℕ
    → Type 0
MeansNode old new inputs table node lits =
    (wi ws : List ℕ) (given means : Numbers) → IsFitting (sources wi) ws node → AreWords old wi given inputs
    → AreWords old ws means table
    → IsWord new (width (sources wi) ws node) (λ x. value (given_by (given x)) ws (means x) node) lits

-- what a node reads has its bits
pub record IsReady (graph : List AigNode) (inputs table : List (List ℕ)) (node : Node) : Type 0 where
  pub input_widths : List ℕ
  pub given : Numbers
  pub inputs_are : AreWords graph input_widths given inputs
  pub node_widths : List ℕ
  pub means : Numbers
  pub small : AreWidths node_widths
  pub words : AreWords graph node_widths means table
  pub fitting : IsFitting (sources input_widths) node_widths node

-- the bits of sources of these widths, for which the nodes fit
pub record AreReady (graph : List AigNode) (inputs : List (List ℕ)) (nodes : List Node) : Type 0 where
  pub input_widths : List ℕ
  pub given : Numbers
  pub small : AreWidths input_widths
  pub inputs_are : AreWords graph input_widths given inputs
  pub fitting : AreFitting (sources input_widths) [] nodes

-- a table has the bits of all nodes
abbrev pub MeansNodes : List AigNode → List AigNode → List (List ℕ) → List Node → List (List ℕ) → Type 0
MeansNodes old new inputs nodes table =
    (wi : List ℕ) (given : Numbers) → AreWidths wi → AreFitting (sources wi) [] nodes
    → AreWords old wi given inputs
    → AreWords new (widths_by wi nodes) (λ x. values_by wi nodes (given x)) table

-- each of these numbers is other than 0
abbrev pub all_other_than_0 : List ℕ → List ℕ → Bool
all_other_than_0 numbers [] = true
all_other_than_0 numbers (i ∷ ids) = not (slice_index numbers i == 0) && all_other_than_0 numbers ids
