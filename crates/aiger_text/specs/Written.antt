-- Meaning: The text of a graph in the ASCII format AIGER (Biere, 2007, section 2): the header `aag M I L O A`, the
-- literals of the inputs, the output's literal and the gates, each on a line of its own, and names of the inputs.
-- Variable n is node n. The order of lines is a rule of this project.
use Rattle.std.specs.Prelude.{ℕ, ◌+◌, ◌-◌, ◌*◌, List, [], ◌∷◌, ◌++◌, length, codes, decimal}
use Rattle.bb_aig.specs.declared.node.AigNode.{AigNode}
use Rattle.bb_aig.specs.declared.node.AigNode.TheVariants as n
use Rattle.bb_aig.specs.Graph.{inputs_of}

-- a number in decimal digits, and a byte behind it
abbrev pub with_end : ℕ → ℕ → List ℕ
with_end end k = decimal k ++ end ∷ []

-- one with a blank behind it, and the last one of a line
abbrev pub word : ℕ → List ℕ
word k = with_end 32 k

abbrev pub last_word : ℕ → List ℕ
last_word k = with_end 10 k

-- the greatest variable, and how many inputs, latches, outputs and gates there are
abbrev pub header_text : List AigNode → List ℕ
header_text graph =
    codes "aag " ++ word (length graph - 1) ++ word (inputs_of graph) ++ codes "0 1 "
    ++ last_word (length graph - 1 - inputs_of graph)

-- the line of an input, which is the node of this number
abbrev pub input_text : ℕ → AigNode → List ℕ
input_text k n.False = []
input_text k (n.Input i) = last_word (2 * k)
input_text k (n.And a b) = []

-- the line of a gate
abbrev pub gate_text : ℕ → AigNode → List ℕ
gate_text k n.False = []
gate_text k (n.Input i) = []
gate_text k (n.And a b) = word (2 * k) ++ word a ++ last_word b

-- the lines of the inputs, and of the gates, among nodes of which the first has this number
abbrev pub inputs_text : ℕ → List AigNode → List ℕ
inputs_text k [] = []
inputs_text k (g ∷ gs) = input_text k g ++ inputs_text (k + 1) gs

abbrev pub gates_text : ℕ → List AigNode → List ℕ
gates_text k [] = []
gates_text k (g ∷ gs) = gate_text k g ++ gates_text (k + 1) gs

-- the line that names an input, by its number from 0
abbrev pub name_text : ℕ → List ℕ → List ℕ
name_text k name = codes "i" ++ word k ++ name ++ 10 ∷ []

abbrev pub names_text : ℕ → List (List ℕ) → List ℕ
names_text k [] = []
names_text k (name ∷ names) = name_text k name ++ names_text (k + 1) names

abbrev pub aag_text : List AigNode → ℕ → List (List ℕ) → List ℕ
aag_text graph root names =
    header_text graph ++ inputs_text 0 graph ++ last_word root ++ gates_text 0 graph ++ names_text 0 names
