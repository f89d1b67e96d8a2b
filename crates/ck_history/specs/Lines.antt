-- Between functions: Nodes that show what others showed in earlier cycles of a run (rule of this project).
use Rattle.std.specs.Prelude.{◌≡◌, ℕ, zero, suc, ◌+◌, ◌<◌, List, [], ◌++◌, length, drop, slice_index}
use Rattle.std.specs.List.{AllByRecursion}
use Rattle.wn_net.specs.declared.parts.Reg.{Reg}
use Rattle.wn_net.specs.declared.parts.State.{State}
use Rattle.wn_net.specs.declared.parts.Init.{Init}
use Rattle.wn_net.specs.declared.parts.Init.TheVariants.{Free, Known}
use Rattle.wn_net.specs.Net.{Netlist, value_at}
use Rattle.wn_net.specs.Changes.{AddsRegs}
use Rattle.wn_run.specs.Runs.{cycle_at}
use Rattle.ck_history.specs.Entries.{Entry}

-- in each run, whatever it begins with, the second node has in the next cycle what the first one has in this one
abbrev pub IsBehind : Netlist → ℕ → ℕ → Type 0
IsBehind net node id =
    (inputs : ℕ → List ℕ) (start : State) (k : ℕ)
    → value_at net (cycle_at net inputs start (suc k)) id ≡ value_at net (cycle_at net inputs start k) node

-- so many nodes show a cycle each, and the next ones are a cycle behind them
abbrev pub IsHistory : Netlist → ℕ → List ℕ → Type 0
IsHistory net each ids =
    (i : ℕ) → i + each < length ids → IsBehind net (slice_index ids i) (slice_index ids (i + each))

-- a known number to begin with
abbrev pub IsKnown : Init → Type 0
IsKnown Free = ⊥
IsKnown (Known number) = Unit {0}

-- nodes, and so many registers that begin with known numbers, are added, and nothing else is changed
pub record AddsKnown (old new : Netlist) (registers : ℕ) : Type 0 where
  pub adds : AddsRegs old new
  pub count : length new.regs ≡ length old.regs + registers
  pub known : AllByRecursion (λ r. IsKnown r.init) (drop (length old.regs) new.regs)

-- the entries of so many cycles from the first one on, the last cycle first
abbrev pub past : (ℕ → List Entry) → ℕ → ℕ → List Entry
past entries first zero = []
past entries first (suc count) = entries (first + count) ++ past entries first count
