-- A chain in a net with more nodes.
use Rattle.std.specs.Prelude.{◌≡◌, ℕ, ◌≤◌, List, [], ◌∷◌, length}
use Rattle.std.proofs.Common.{sym, ◌∙◌, arith, subst}
use Rattle.wn_net.specs.Value.{Given}
use Rattle.wn_net.specs.Net.{Netlist, AreNodesOf}
use Rattle.wn_net.specs.Changes.{AddsNodes}
use Rattle.wn_net.proofs.Laws.{nodes_on}
use Rattle.wn_mem.specs.Words.{AreWords, words_width, numbers_of}
use Rattle.wn_mem.proofs.Tree.{numbers_on}
use Rattle.wn_chain.specs.Writes.{written_by}
use Rattle.wn_chain.specs.Chains.{IsChain, words_in}
use Rattle.wn_chain.specs.declared.chain.Chain.{Chain}
use Rattle.wn_chain.proofs.Chains.{writes_on, written_on}

width_on : (old new : Netlist) (words : List ℕ) → AddsNodes old new → 1 ≤ length words → AreWords old words
    → words_width new words ≡ words_width old words
width_on old new [] h some own = absurd (omega arith)
width_on old new (x ∷ xs) h some own = h.keeps.widths x own.0.0

pub chain_width_on : (old new : Netlist) (c : Chain) → AddsNodes old new → IsChain old c
    → words_width new c.words ≡ words_width old c.words
chain_width_on old new c h own = width_on old new c.words h own.some own.words

pub chain_on : (old new : Netlist) (c : Chain) → AddsNodes old new → IsChain old c → IsChain new c
chain_on old new c h own =
    let wide = chain_width_on old new c h own in
    let P : ℕ → Type 0 = λ w. AreNodesOf new w c.words in
    record {
      some = own.some;
      words = subst P (sym wide) (nodes_on old new (words_width old c.words) c.words h own.words);
      writes = writes_on old new (words_width old c.words) (words_width new c.words) c.writes h wide own.writes;
    }

pub chain_words_on : (old new : Netlist) (g : Given) (c : Chain) → AddsNodes old new → IsChain old c
    → words_in new g c ≡ words_in old g c
chain_words_on old new g c h own =
    let w = words_width old c.words in
    (λ i. written_by new g (chain_width_on old new c h own i) (numbers_on old new w g c.words h own.words i) c.writes)
    ∙ written_on old new g w (numbers_of old g c.words) c.writes h own.writes
