-- The state at first, each memory in its form.
use Rattle.std.specs.Prelude.{◌≡◌, refl, ℕ, zero, suc, ◌+◌, ◌≤◌, List, [], ◌∷◌, ◌++◌, length, map, take}
use Rattle.std.specs.Prelude.{Some, slice_get}
use Rattle.std.specs.List.{AllByRecursion}
use Rattle.std.proofs.Common.{ap, sym, ◌∙◌, arith, subst}
use Rattle.std.proofs.lemmas.List.{take_all}
use Rattle.wn_net.specs.Value.{Given}
use Rattle.wn_net.specs.Net.{Netlist, AreNodes}
use Rattle.wn_mem.specs.Words.{words_width, numbers_of}
use Rattle.bm_unroll.specs.declared.state.MemoryNodes.{MemoryNodes}
use Rattle.bm_unroll.specs.declared.state.StartNodes.{StartNodes}
use Rattle.bm_unroll.specs.declared.state.StateNodes.{StateNodes}
use Rattle.bm_unroll.specs.Memories.{AreBegun, AreMemories, StandsForWords, memory_numbers, memory_width}
use Rattle.bm_unroll.specs.Cycle.{widths_at}
use Rattle.bm_unroll.specs.declared.draft.Draft.{Draft}
use Rattle.bm_unroll.specs.Draft.{AreWordLists, HasBegun, HasStart}

begun_there : (net : Netlist) (words : List (List ℕ)) (mems : List MemoryNodes) → AreBegun net words mems
    → AreWordLists net words → AreMemories net mems
begun_there net [] [] h own = tt
begun_there net (ids ∷ rest) (m ∷ ms) h own = (h.0.there own.0, begun_there net rest ms h.1 own.1)
begun_there net [] (m ∷ ms) h own = absurd h
begun_there net (ids ∷ rest) [] h own = absurd h

begun_widths : (net : Netlist) (words : List (List ℕ)) (mems : List MemoryNodes) → AreBegun net words mems
    → map (memory_width net) mems ≡ map (words_width net) words
begun_widths net [] [] h = refl
begun_widths net (ids ∷ rest) (m ∷ ms) h = λ i. h.0.width i ∷ begun_widths net rest ms h.1 i
begun_widths net [] (m ∷ ms) h = absurd h
begun_widths net (ids ∷ rest) [] h = absurd h

begun_numbers : (net : Netlist) (g : Given) (words : List (List ℕ)) (mems : List MemoryNodes) → AreBegun net words mems
    → map (memory_numbers net g) mems ≡ map (numbers_of net g) words
begun_numbers net g [] [] h = refl
begun_numbers net g (ids ∷ rest) (m ∷ ms) h = λ i. h.0.numbers g i ∷ begun_numbers net g rest ms h.1 i
begun_numbers net g [] (m ∷ ms) h = absurd h
begun_numbers net g (ids ∷ rest) [] h = absurd h

pub has_begun : (net : Netlist) (d : Draft) (start : StartNodes) (state : StateNodes) → HasStart net d start
    → state.regs ≡ start.regs → AreBegun d.net start.mems state.mems → HasBegun net d state
has_begun net d start state own regs mems =
    let P : List ℕ → Type 0 = λ ids. AreNodes d.net ids in
    record {
      start = record {
        there = record {
          regs = subst P (sym regs) own.regs_there;
          mems = begun_there d.net start.mems state.mems mems own.mems_there;
        };
        regs = ap (widths_at d.net) regs ∙ own.regs;
        mems = begun_widths d.net start.mems state.mems mems ∙ own.mems;
      };
      values = λ ch g a.
          (λ i. record {
            regs = numbers_of d.net g (regs i);
            mems = begun_numbers d.net g start.mems state.mems mems i;
          })
          ∙ own.values ch g a;
    }

-- there is a word in each
pub words_some : (net : Netlist) (words : List (List ℕ)) → AreWordLists net words
    → AllByRecursion (λ ids. 1 ≤ length ids) words
words_some net [] own = tt
words_some net (ids ∷ rest) own = (own.0.0, words_some net rest own.1)

-- ---- all memories

begun_push : (net : Netlist) (words : List (List ℕ)) (mems : List MemoryNodes) (i : ℕ) (ids : List ℕ)
    (memory : MemoryNodes) → slice_get words i ≡ Some ids → AreBegun net (take i words) mems
    → StandsForWords net ids memory → AreBegun net (take (suc i) words) (mems ++ memory ∷ [])
begun_push net [] mems i ids memory e h own = cc
begun_push net (x ∷ xs) [] zero ids memory e h own =
    let p : x ≡ ids = cc in
    let P : List ℕ → Type 0 = λ ws. StandsForWords net ws memory in
    (subst P (sym p) own, tt)
begun_push net (x ∷ xs) (m ∷ ms) zero ids memory e h own = absurd h
begun_push net (x ∷ xs) [] (suc i) ids memory e h own = absurd h
begun_push net (x ∷ xs) (m ∷ ms) (suc i) ids memory e h own = (h.0, begun_push net xs ms i ids memory e h.1 own)

-- What the walk over the memories keeps.
pub record Forming (words : List (List ℕ)) (i : ℕ) (made : List MemoryNodes) : Type 0 where
  pub begun : (net : Netlist) → AreBegun net (take i words) made

pub forming_none : (words : List (List ℕ)) (made : List MemoryNodes) → made ≡ [] → Forming words 0 made
forming_none words made is =
    let P : List MemoryNodes → Type 0 = λ ms. Forming words 0 ms in
    subst P (sym is) (record { begun = λ net. tt })

pub forming_next : (words : List (List ℕ)) (i : ℕ) (made longer : List MemoryNodes) (ids given : List ℕ)
    (memory : MemoryNodes) → slice_get words i ≡ Some ids → given ≡ ids → Forming words i made
    → ((net : Netlist) → StandsForWords net given memory) → longer ≡ made ++ memory ∷ []
    → Forming words (i + 1) longer
forming_next words i made longer ids given memory at same h own pushed =
    let P : List MemoryNodes → Type 0 = λ ms. Forming words (i + 1) ms in
    let Q : ℕ → Type 0 = λ n. Forming words n (made ++ memory ∷ []) in
    let R : Netlist → List ℕ → Type 0 = λ net ws. StandsForWords net ws memory in
    let one_more : suc i ≡ i + 1 = omega arith in
    let next : Forming words (suc i) (made ++ memory ∷ []) =
    record { begun = λ net. begun_push net words made i ids memory at (h.begun net) (subst (R net) same (own net)) } in
    subst P (sym pushed) (subst Q one_more next)

pub forming_all : (words : List (List ℕ)) (i : ℕ) (made mems : List MemoryNodes) → length words ≤ i → mems ≡ made
    → Forming words i made → (net : Netlist) → AreBegun net words mems
forming_all words i made mems past is h net =
    let P : List MemoryNodes → Type 0 = λ ms. AreBegun net words ms in
    let Q : List (List ℕ) → Type 0 = λ ws. AreBegun net ws made in
    subst P (sym is) (subst Q (take_all i words past) (h.begun net))
