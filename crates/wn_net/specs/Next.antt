-- Meaning: What registers and memories have in the next cycle (rule of this project).
use Rattle.std.specs.Prelude.{
  ℕ,
  ◌==◌,
  ◌<◌,
  ◌≤◌,
  ◌^◌,
  length,
  List,
  [],
  ◌∷◌,
  map,
  if◌then◌else◌,
  slice_index,
  slice_set,
}
use Rattle.std.specs.List.{AllByRecursion}
use Rattle.wn_net.specs.declared.parts.State.{State}
use Rattle.wn_net.specs.declared.parts.Mem.{Mem}
use Rattle.wn_net.specs.declared.parts.MemWrite.{MemWrite}
use Rattle.fv_bits.specs.Bits.{masked}
use Rattle.wn_net.specs.Value.{Given, word_at}
use Rattle.wn_net.specs.Net.{Netlist, values_of}

-- A write to words of a width: where it acts, the word at the address takes the bits of the mask. Past the last word
-- it does nothing.
abbrev pub written : ℕ → List ℕ → ℕ → ℕ → ℕ → ℕ → List ℕ
written width words enable address mask number =
    if enable == 1 then slice_set words address (masked width mask (word_at words address) number) else words

-- the same by the values of nodes
abbrev pub write : List ℕ → ℕ → List ℕ → MemWrite → List ℕ
write vs width words w =
    written width words (slice_index vs w.enable) (slice_index vs w.addr) (slice_index vs w.mask)
    (slice_index vs w.value)

-- one write after the other, so a later one wins
abbrev pub write_each : List ℕ → ℕ → List ℕ → List MemWrite → List ℕ
write_each vs width words [] = words
write_each vs width words (w ∷ ws) = write_each vs width (write vs width words w) ws

-- the words of each memory
abbrev pub next_mems : List ℕ → List Mem → List (List ℕ) → List (List ℕ)
next_mems vs (m ∷ ms) (words ∷ rest) = write_each vs m.width words m.writes ∷ next_mems vs ms rest
next_mems vs ms rest = []

abbrev pub next_state : Netlist → Given → State
next_state net g =
    let vs = values_of net g in
    record { regs = map (λ r. slice_index vs r.next) net.regs; mems = next_mems vs net.mems g.state.mems }

-- A write to words of a width reads values that are there, and the mask and the value have the width.
pub record IsWriteIn (vs : List ℕ) (width : ℕ) (w : MemWrite) : Type 0 where
  pub enable : w.enable < length vs
  pub addr : w.addr < length vs
  pub mask : w.mask < length vs
  pub value : w.value < length vs
  pub mask_fits : slice_index vs w.mask < 2 ^ width
  pub value_fits : slice_index vs w.value < 2 ^ width

pub record IsMemIn (vs : List ℕ) (m : Mem) : Type 0 where
  pub few : m.width ≤ 128
  pub writes : AllByRecursion (IsWriteIn vs m.width) m.writes
