-- Meaning: A net with the nodes alone on which some nodes rest, and what holds of its runs (rule of this project).
use Rattle.std.specs.Prelude.{
  ◌≡◌,
  ◌↔◌,
  ℕ,
  ◌+◌,
  ◌<◌,
  ◌≤◌,
  List,
  [],
  ◌∷◌,
  Option,
  None,
  Some,
  length,
  map,
  slice_get,
}
use Rattle.std.specs.List.{AllByRecursion}
use Rattle.wn_net.specs.declared.node.Node.{Node}
use Rattle.wn_net.specs.declared.node.Node.TheVariants as n
use Rattle.wn_net.specs.declared.parts.Reg.{Reg}
use Rattle.wn_net.specs.declared.parts.Mem.{Mem}
use Rattle.wn_net.specs.declared.parts.MemWrite.{MemWrite}
use Rattle.wn_net.specs.declared.parts.State.{State}
use Rattle.wn_net.specs.Value.{Given}
use Rattle.wn_net.specs.Given.{IsGiven}
use Rattle.wn_net.specs.Net.{Netlist, width_at, value_at}
use Rattle.wn_run.specs.Runs.{Choices, AreChoicesOf, IsMet, inputs_at, start_of, cycle_at}
use Rattle.wn_opt.specs.Needed.{IsIn, IsNeeded, IsNeededReg, IsNeededMem}

-- ---- old nodes and new ones

-- the old node has this new number
abbrev pub IsPlace : List (Option ℕ) → ℕ → ℕ → Type 0
IsPlace table id at = slice_get table id ≡ Some (Some at)

abbrev pub HasPlace : List (Option ℕ) → ℕ → Type 0
HasPlace table id = (at : ℕ) × IsPlace table id at

abbrev pub or_zero : Option (Option ℕ) → ℕ
or_zero None = 0
or_zero (Some None) = 0
or_zero (Some (Some at)) = at

-- the new number of an old node; 0 where it has none
abbrev pub place : List (Option ℕ) → ℕ → ℕ
place table id = or_zero (slice_get table id)

-- a node that reads the new nodes in place of the old ones
abbrev pub renamed : List (Option ℕ) → Node → Node
renamed t (n.Konst word) = n.Konst word
renamed t (n.Input i) = n.Input i
renamed t (n.Reg i) = n.Reg i
renamed t (n.Read m a) = n.Read m (place t a)
renamed t (n.Not a) = n.Not (place t a)
renamed t (n.And a b) = n.And (place t a) (place t b)
renamed t (n.Or a b) = n.Or (place t a) (place t b)
renamed t (n.Xor a b) = n.Xor (place t a) (place t b)
renamed t (n.Add a b) = n.Add (place t a) (place t b)
renamed t (n.Sub a b) = n.Sub (place t a) (place t b)
renamed t (n.Mul a b) = n.Mul (place t a) (place t b)
renamed t (n.Eq a b) = n.Eq (place t a) (place t b)
renamed t (n.Ult a b) = n.Ult (place t a) (place t b)
renamed t (n.Slt a b) = n.Slt (place t a) (place t b)
renamed t (n.Shl a b) = n.Shl (place t a) (place t b)
renamed t (n.Lshr a b) = n.Lshr (place t a) (place t b)
renamed t (n.Ashr a b) = n.Ashr (place t a) (place t b)
renamed t (n.Concat a b) = n.Concat (place t a) (place t b)
renamed t (n.Mux c a b) = n.Mux (place t c) (place t a) (place t b)
renamed t (n.Slice a at w) = n.Slice (place t a) at w
renamed t (n.Zext a w) = n.Zext (place t a) w
renamed t (n.Sext a w) = n.Sext (place t a) w

-- and a write to a memory
abbrev pub renamed_write : List (Option ℕ) → MemWrite → MemWrite
renamed_write t w = record {
  enable = place t w.enable;
  addr = place t w.addr;
  mask = place t w.mask;
  value = place t w.value;
}

abbrev pub with_place : Option (Option ℕ) → List ℕ → List ℕ
with_place None ids = ids
with_place (Some None) ids = ids
with_place (Some (Some at)) ids = at ∷ ids

-- the new numbers of those old nodes that have one, in their order
abbrev pub places_of : List (Option ℕ) → List ℕ → List ℕ
places_of t [] = []
places_of t (id ∷ ids) = with_place (slice_get t id) (places_of t ids)

-- ---- the answered net

-- A register has its number, its width and its start. A needed one has its next value; another one has its own node.
pub record KeepsReg (net : Netlist) (roots : List ℕ) (part : Netlist) (table : List (Option ℕ)) (i : ℕ) (r :
    Reg) : Type 0 where
  pub reg : Reg
  pub there : slice_get part.regs i ≡ Some reg
  pub width : reg.width ≡ r.width
  pub init : reg.init ≡ r.init
  pub next : IsNeededReg net roots i → IsPlace table r.next reg.next
  pub own : (IsNeededReg net roots i → ⊥) → slice_get part.nodes reg.next ≡ Some (n.Reg i)

-- A memory has its number and its words. A needed one has its writes; another one has none.
pub record KeepsMem (net : Netlist) (roots : List ℕ) (part : Netlist) (table : List (Option ℕ)) (m : ℕ) (x :
    Mem) : Type 0 where
  pub mem : Mem
  pub there : slice_get part.mems m ≡ Some mem
  pub width : mem.width ≡ x.width
  pub words : mem.words ≡ x.words
  pub init : mem.init ≡ x.init
  pub writes : IsNeededMem net roots m → mem.writes ≡ map (renamed_write table) x.writes
  pub none : (IsNeededMem net roots m → ⊥) → mem.writes ≡ []

-- The net begins with the node of each input and of each register. Behind them stand needed nodes, and no others. The
-- table gives each needed node its new number, and the others none.
pub record IsCone (net : Netlist) (roots : List ℕ) (part : Netlist) (table : List (Option ℕ)) : Type 0 where
  pub each : length table ≡ length net.nodes
  pub needed : (id : ℕ) → IsNeeded net roots id ↔ HasPlace table id
  pub nodes : (id at : ℕ) (x : Node) → IsPlace table id at → slice_get net.nodes id ≡ Some x
      → slice_get part.nodes at ≡ Some (renamed table x)
  pub widths : (id at : ℕ) → IsPlace table id at → width_at part at ≡ width_at net id
  pub input_nodes : (i : ℕ) → i < length net.inputs → slice_get part.nodes i ≡ Some (n.Input i)
  pub reg_nodes : (i : ℕ) → i < length net.regs → slice_get part.nodes (length net.inputs + i) ≡ Some (n.Reg i)
  pub others : (at : ℕ) → length net.inputs + length net.regs ≤ at → at < length part.nodes
      → (id : ℕ) × IsPlace table id at
  pub inputs : part.inputs ≡ net.inputs
  pub regs_each : length part.regs ≡ length net.regs
  pub regs : (i : ℕ) (r : Reg) → slice_get net.regs i ≡ Some r → KeepsReg net roots part table i r
  pub mems_each : length part.mems ≡ length net.mems
  pub mems : (m : ℕ) (x : Mem) → slice_get net.mems m ≡ Some x → KeepsMem net roots part table m x
  pub assumes : part.assumes ≡ places_of table net.assumes

-- ---- a part that grows

-- each node that has a new number has it still
abbrev pub KeepsPlaces : List (Option ℕ) → List (Option ℕ) → Type 0
KeepsPlaces old new = (id at : ℕ) → IsPlace old id at → IsPlace new id at

-- The nodes of a smaller part stand in a larger one under their numbers, and what they are the new numbers of has these
-- still.
pub record StandsBehind (part : Netlist) (table : List (Option ℕ)) (larger : Netlist)
    (larger_table : List (Option ℕ)) : Type 0 where
  pub nodes : (at : ℕ) (x : Node) → slice_get part.nodes at ≡ Some x → slice_get larger.nodes at ≡ Some x
  pub places : KeepsPlaces table larger_table

-- ---- its runs

-- the kept assumptions are met in a cycle of the old net
abbrev pub AreMetOf : Netlist → List (Option ℕ) → Given → Type 0
AreMetOf net table g = AllByRecursion (λ id. HasPlace table id → value_at net g id ≡ 0 → ⊥) net.assumes

-- Both nets have the same choices, and begin with the same numbers. In every cycle under the same inputs and the same
-- start each needed node has its old value, and the assumptions are met where the kept ones of the old net are: where
-- all of them are roots, where the old net's are.
pub record KeepsRuns (net : Netlist) (roots : List ℕ) (part : Netlist) (table : List (Option ℕ)) : Type 0 where
  pub choices : (ch : Choices) → AreChoicesOf net ch ↔ AreChoicesOf part ch
  pub given : (g : Given) → IsGiven net g ↔ IsGiven part g
  pub inputs : (ch : Choices) (k : ℕ) → inputs_at part ch k ≡ inputs_at net ch k
  pub start : (ch : Choices) → start_of part ch ≡ start_of net ch
  pub values : (inputs : ℕ → List ℕ) (start : State) (k id at : ℕ) → IsPlace table id at
      → value_at part (cycle_at part inputs start k) at ≡ value_at net (cycle_at net inputs start k) id
  pub met : (inputs : ℕ → List ℕ) (start : State) (k : ℕ)
      → IsMet part (cycle_at part inputs start k) ↔ AreMetOf net table (cycle_at net inputs start k)
  pub all_met : ((id : ℕ) → IsIn net.assumes id → IsIn roots id) → (inputs : ℕ → List ℕ) (start : State) (k : ℕ)
      → IsMet part (cycle_at part inputs start k) ↔ IsMet net (cycle_at net inputs start k)
