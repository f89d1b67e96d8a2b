-- Between functions: The cycles of a net as nodes of another net, the frames (rule of this project).
use Rattle.std.specs.Prelude.{◌≡◌, ◌↔◌, ℕ, ◌<◌, List, [], map, slice_index_or}
use Rattle.std.specs.List.{AllByRecursion}
use Rattle.wn_net.specs.declared.parts.State.{State}
use Rattle.wn_net.specs.Width.{Shape}
use Rattle.wn_net.specs.Value.{Given}
use Rattle.wn_net.specs.Given.{IsGiven}
use Rattle.wn_net.specs.Net.{Netlist, AreNodes, shape_of, value_at}
use Rattle.wn_net.specs.Changes.{AddsNodes}
use Rattle.wn_run.specs.Runs.{IsAssumed, IsMet, cycle_at, state_at}
use Rattle.wn_mem.specs.Words.{numbers_of}
use Rattle.bm_unroll.specs.declared.state.StateNodes.{StateNodes}
use Rattle.bm_unroll.specs.Memories.{memory_width}
use Rattle.bm_unroll.specs.Cycle.{AreStateNodes, state_by, widths_at}

-- the inputs of each cycle for which rows of nodes stand
abbrev pub rows_by : Netlist → Given → List (List ℕ) → ℕ → List ℕ
rows_by net g rows k = numbers_of net g (slice_index_or rows k [])

-- nodes are there for the inputs of a cycle
abbrev pub IsRow : Netlist → Shape → List ℕ → Type 0
IsRow net s row = AreNodes net row × (widths_at net row ≡ s.inputs)

abbrev pub AreRows : Netlist → Shape → List (List ℕ) → Type 0
AreRows net s rows = AllByRecursion (IsRow net s) rows

-- and for its registers and memories
pub record IsStart (net : Netlist) (s : Shape) (state : StateNodes) : Type 0 where
  pub there : AreStateNodes net state
  pub regs : widths_at net state.regs ≡ s.regs
  pub mems : map (memory_width net) state.mems ≡ s.mems

-- no number is 0
abbrev pub AreOther : List ℕ → Type 0
AreOther numbers = AllByRecursion (λ v. v ≡ 0 → ⊥) numbers

-- the assumptions are met up to a cycle, and the node is other than 0 in it
abbrev pub IsBadAt : Netlist → (ℕ → List ℕ) → State → ℕ → ℕ → Type 0
IsBadAt net inputs start bad k =
    IsAssumed net inputs start k × (value_at net (cycle_at net inputs start k) bad ≡ 0 → ⊥)

-- the assumptions are met in each cycle before one
abbrev pub IsAssumedBefore : Netlist → (ℕ → List ℕ) → State → ℕ → Type 0
IsAssumedBefore net inputs start n = (k : ℕ) → k < n → IsMet net (cycle_at net inputs start k)

-- Nodes stand for the state behind so many cycles, and nodes are all other than 0 exactly where the assumptions are met
-- in each of these cycles.
pub record Passes (old now net : Netlist) (rows : List (List ℕ)) (start : StateNodes) (k : ℕ) (state : StateNodes)
    (roots : List ℕ) : Type 0 where
  pub adds : AddsNodes old now
  pub is_start : IsStart now (shape_of net) state
  pub state_is : (g : Given) → IsGiven old g
      → state_at net (rows_by old g rows) (state_by old g start) k ≡ state_by now g state
  pub roots_there : AreNodes now roots
  pub roots_say : (g : Given) → IsGiven old g
      → AreOther (numbers_of now g roots) ↔ IsAssumedBefore net (rows_by old g rows) (state_by old g start) k
