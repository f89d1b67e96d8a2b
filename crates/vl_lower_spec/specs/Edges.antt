-- Between functions: Registers and memories that have in the next cycle the numbers of a map. Rule of this project.
use Rattle.std.specs.Prelude.{◌≡◌, ℕ, ◌+◌, ◌<◌, ◌^◌, List, [], ◌∷◌, map, slice_get}
use Rattle.fv_bits.specs.Bits.{ones}
use Rattle.vl_size.specs.Size.{Values}
use Rattle.vl_lower_spec.specs.Maps.{cells_named, spot_number, state_of}
use Rattle.wn_net.specs.declared.names.Names.{Names}
use Rattle.wn_net.specs.declared.names.Spot.{Spot}
use Rattle.wn_net.specs.declared.parts.MemWrite.{MemWrite}
use Rattle.wn_net.specs.declared.parts.Reg.{Reg}
use Rattle.wn_net.specs.Value.{Given}
use Rattle.wn_net.specs.Net.{Netlist, value_at, values_of}
use Rattle.wn_net.specs.Given.{IsGiven}
use Rattle.wn_net.specs.Next.{next_mems, next_state}
use Rattle.vl_lower_spec.specs.Sources.{AreEach}

-- a register's next node has the named bits of the map
abbrev pub IsNextOf : Netlist → Names → Given → Values → Reg → Spot → Type 0
IsNextOf net names g w r p = value_at net g r.next ≡ spot_number names w p

-- the write puts this number into the word at the address
pub record WritesWord (net : Netlist) (g : Given) (width address number : ℕ) (x : MemWrite) : Type 0 where
  pub acts : value_at net g x.enable ≡ 1
  pub at : value_at net g x.addr ≡ address
  pub whole : value_at net g x.mask ≡ ones width
  pub is : value_at net g x.value ≡ number
  pub small : number < 2 ^ width

-- a write for each word, from an address on
abbrev pub WriteWords : Netlist → Given → ℕ → Values → ℕ → List MemWrite → List (List ℕ) → Type 0
WriteWords net g width w address [] [] = Unit {0}
WriteWords net g width w address (x ∷ xs) (n ∷ ns) =
    WritesWord net g width address (w n) x × WriteWords net g width w (address + 1) xs ns
WriteWords net g width w address xs ns = ⊥

-- the words of each memory are, behind its writes, the numbers of its names
abbrev pub AreWritten : Netlist → Names → Given → Values → Type 0
AreWritten net names g w =
    next_mems (values_of net g) net.mems g.state.mems
    ≡ map (λ at. map w (cells_named (slice_get names.list at))) names.mems

-- ---- the law: the next state is that of the map

abbrev pub NextStatesAreNext : Type 0
NextStatesAreNext =
    (net : Netlist) (names : Names) (g : Given) (w : Values) → IsGiven net g
    → AreEach (IsNextOf net names g w) net.regs names.regs → AreWritten net names g w
    → next_state net g ≡ state_of names w
