-- Between functions: A memory as the words that it begins with and the writes since (rule of this project).
use Rattle.std.specs.Prelude.{ℕ, ◌≤◌, List, length}
use Rattle.std.specs.List.{AllByRecursion}
use Rattle.wn_net.specs.Value.{Given}
use Rattle.wn_net.specs.Net.{Netlist, IsWriteOf}
use Rattle.wn_mem.specs.Words.{AreWords, words_width, numbers_of}
use Rattle.wn_chain.specs.Writes.{written_by}
use Rattle.wn_chain.specs.declared.chain.Chain.{Chain}

-- The list of words for which a chain stands in a cycle.
abbrev pub words_in : Netlist → Given → Chain → List ℕ
words_in net g chain =
    written_by net g (words_width net chain.words) (numbers_of net g chain.words) chain.writes

-- The condition that a chain is one of this net: its words and the nodes of its writes are there, and fit.
pub record IsChain (net : Netlist) (chain : Chain) : Type 0 where
  pub some : 1 ≤ length chain.words
  pub words : AreWords net chain.words
  pub writes : AllByRecursion (IsWriteOf net (words_width net chain.words)) chain.writes
