-- Between functions: What stands for the words of a memory in a cycle: a node for each, or a chain of writes (rule of
-- this project).
use Rattle.std.specs.Prelude.{◌≡◌, ℕ, ◌≤◌, List, [], ◌∷◌, length}
use Rattle.std.specs.List.{AllByRecursion}
use Rattle.wn_net.specs.Value.{Given}
use Rattle.wn_net.specs.Net.{Netlist}
use Rattle.wn_mem.specs.Words.{AreWords, words_width, numbers_of}
use Rattle.wn_chain.specs.Chains.{IsChain, words_in}
use Rattle.bm_unroll.specs.declared.state.MemoryNodes.{MemoryNodes}
use Rattle.bm_unroll.specs.declared.state.MemoryNodes.TheVariants as m

-- nodes are there for words, of one width
abbrev pub HaveWords : Netlist → List ℕ → Type 0
HaveWords net ids = (1 ≤ length ids) × AreWords net ids

-- and so for those of a memory
abbrev pub IsMemory : Netlist → MemoryNodes → Type 0
IsMemory net (m.Words ids) = HaveWords net ids
IsMemory net (m.Writes chain) = IsChain net chain

abbrev pub AreMemories : Netlist → List MemoryNodes → Type 0
AreMemories net mems = AllByRecursion (IsMemory net) mems

abbrev pub memory_width : Netlist → MemoryNodes → ℕ
memory_width net (m.Words ids) = words_width net ids
memory_width net (m.Writes chain) = words_width net chain.words

-- the numbers of the words in a cycle of the frames
abbrev pub memory_numbers : Netlist → Given → MemoryNodes → List ℕ
memory_numbers net g (m.Words ids) = numbers_of net g ids
memory_numbers net g (m.Writes chain) = words_in net g chain

-- it stands for the words of these nodes, whichever form it has
pub record StandsForWords (net : Netlist) (ids : List ℕ) (memory : MemoryNodes) : Type 0 where
  pub there : HaveWords net ids → IsMemory net memory
  pub width : memory_width net memory ≡ words_width net ids
  pub numbers : (g : Given) → memory_numbers net g memory ≡ numbers_of net g ids

-- and so for each memory
abbrev pub AreBegun : Netlist → List (List ℕ) → List MemoryNodes → Type 0
AreBegun net [] [] = Unit {0}
AreBegun net (ids ∷ rest) (memory ∷ memories) = StandsForWords net ids memory × AreBegun net rest memories
AreBegun net rest memories = ⊥
