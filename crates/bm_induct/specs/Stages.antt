-- Between functions: A net that is being built anew, stage by stage (rule of this project).
use Rattle.std.specs.Prelude.{ℕ, zero, suc, ◌+◌, if◌then◌else◌, List, [], ◌∷◌, ◌++◌, length, map, take, drop}
use Rattle.std.specs.Prelude.{Option, Some, None, slice_get, slice_index}
use Rattle.wn_net.specs.declared.node.Node.{Node}
use Rattle.wn_net.specs.declared.node.Node.TheVariants as n
use Rattle.wn_net.specs.declared.parts.Input.{Input}
use Rattle.wn_net.specs.declared.parts.Reg.{Reg}
use Rattle.wn_net.specs.declared.parts.Mem.{Mem}
use Rattle.wn_net.specs.declared.parts.MemWrite.{MemWrite}
use Rattle.wn_net.specs.Net.{Netlist, IsNodeOf, shape_of}
use Rattle.wn_net.specs.Changes.{with_write}
use Rattle.bm_induct.specs.declared.how.Rebuild.{Rebuild}
use Rattle.bm_induct.specs.Rebuilt.{start_for, is_held, moved_id}

-- ---- parts

-- the first so many of a row
abbrev pub counted : {A : Type 0} → (ℕ → A) → ℕ → List A
counted f zero = []
counted f (suc k) = counted f k ++ f k ∷ []

-- What stands for a node that reads an input: another one that reads its first node, or a number against itself, which
-- is 0.
abbrev pub moved_input : Rebuild → Netlist → ℕ → Option Input → Node
moved_input how net i None = n.Zext i (slice_index (shape_of net).inputs i)
moved_input how net i (Some input) =
    if is_held how input.kind then n.Xor i i else n.Zext i (slice_index (shape_of net).inputs i)

-- the node that stands for a node
abbrev pub moved : Rebuild → Netlist → Node → Node
moved how net (n.Konst word) = n.Konst word
moved how net (n.Input i) = moved_input how net i (slice_get net.inputs i)
moved how net (n.Reg i) = n.Zext (length net.inputs + i) (slice_index (shape_of net).regs i)
moved how net (n.Read m a) = n.Read m (moved_id net a)
moved how net (n.Not a) = n.Not (moved_id net a)
moved how net (n.And a b) = n.And (moved_id net a) (moved_id net b)
moved how net (n.Or a b) = n.Or (moved_id net a) (moved_id net b)
moved how net (n.Xor a b) = n.Xor (moved_id net a) (moved_id net b)
moved how net (n.Add a b) = n.Add (moved_id net a) (moved_id net b)
moved how net (n.Sub a b) = n.Sub (moved_id net a) (moved_id net b)
moved how net (n.Mul a b) = n.Mul (moved_id net a) (moved_id net b)
moved how net (n.Eq a b) = n.Eq (moved_id net a) (moved_id net b)
moved how net (n.Ult a b) = n.Ult (moved_id net a) (moved_id net b)
moved how net (n.Slt a b) = n.Slt (moved_id net a) (moved_id net b)
moved how net (n.Shl a b) = n.Shl (moved_id net a) (moved_id net b)
moved how net (n.Lshr a b) = n.Lshr (moved_id net a) (moved_id net b)
moved how net (n.Ashr a b) = n.Ashr (moved_id net a) (moved_id net b)
moved how net (n.Concat a b) = n.Concat (moved_id net a) (moved_id net b)
moved how net (n.Mux c a b) = n.Mux (moved_id net c) (moved_id net a) (moved_id net b)
moved how net (n.Slice a at w) = n.Slice (moved_id net a) at w
moved how net (n.Zext a w) = n.Zext (moved_id net a) w
moved how net (n.Sext a w) = n.Sext (moved_id net a) w

-- a node that neither an input nor a register adds
abbrev pub IsPlain : Node → Type 0
IsPlain (n.Input i) = ⊥
IsPlain (n.Reg i) = ⊥
IsPlain x = Unit {0}

-- a register as it is made, with its own node as the next one, and as it is in the end
abbrev pub begun_reg : Rebuild → ℕ → Reg → Reg
begun_reg how at r = record { width = r.width; init = start_for how r.init; next = at }

abbrev pub begun_regs : Rebuild → ℕ → List Reg → List Reg
begun_regs how at [] = []
begun_regs how at (r ∷ rs) = begun_reg how at r ∷ begun_regs how (at + 1) rs

abbrev pub moved_reg : Rebuild → Netlist → Reg → Reg
moved_reg how net r = begun_reg how (moved_id net r.next) r

-- a memory without its writes, and with them
abbrev pub begun_mem : Rebuild → Mem → Mem
begun_mem how m = record { width = m.width; words = m.words; init = map (start_for how) m.init; writes = [] }

abbrev pub moved_write : Netlist → MemWrite → MemWrite
moved_write net w = record {
  enable = moved_id net w.enable;
  addr = moved_id net w.addr;
  mask = moved_id net w.mask;
  value = moved_id net w.value;
}

abbrev pub moved_mem : Rebuild → Netlist → Mem → Mem
moved_mem how net m = record (begun_mem how m) { writes = map (moved_write net) m.writes }

-- the memory at the place has more writes, one after the other
abbrev pub with_writes : ℕ → List MemWrite → List Mem → List Mem
with_writes m [] ms = ms
with_writes m (w ∷ ws) ms = with_writes m ws (with_write m w ms)

-- ---- stages

-- with the first inputs
abbrev pub with_inputs : Netlist → ℕ → Netlist
with_inputs net i = record {
  nodes = counted n.Input i;
  regs = [];
  mems = [];
  inputs = take i net.inputs;
  assumes = [];
}

-- and the first registers
abbrev pub with_regs : Rebuild → Netlist → ℕ → Netlist
with_regs how net i = record {
  nodes = counted n.Input (length net.inputs) ++ counted n.Reg i;
  regs = begun_regs how (length net.inputs) (take i net.regs);
  mems = [];
  inputs = net.inputs;
  assumes = [];
}

-- and the first memories
abbrev pub with_mems : Rebuild → Netlist → ℕ → Netlist
with_mems how net i =
    record (with_regs how net (length net.regs)) { mems = map (begun_mem how) (take i net.mems) }

-- and the first nodes
abbrev pub with_nodes : Rebuild → Netlist → ℕ → Netlist
with_nodes how net i =
    record (with_mems how net (length net.mems)) {
      nodes =
          (counted n.Input (length net.inputs) ++ counted n.Reg (length net.regs))
          ++ map (moved how net) (take i net.nodes);
    }

-- each node stands there with its width
abbrev pub Stand : Netlist → Netlist → Type 0
Stand old new = (width id : ℕ) → IsNodeOf old width id → IsNodeOf new width (moved_id old id)

-- the first registers have their next nodes
abbrev pub with_nexts : Rebuild → Netlist → ℕ → Netlist
with_nexts how net i =
    record (with_nodes how net (length net.nodes)) {
      regs = map (moved_reg how net) (take i net.regs) ++ begun_regs how (length net.inputs + i) (drop i net.regs);
    }

-- the first memories have their writes
abbrev pub with_mem_writes : Rebuild → Netlist → ℕ → Netlist
with_mem_writes how net i =
    record (with_nexts how net (length net.regs)) {
      mems = map (moved_mem how net) (take i net.mems) ++ map (begun_mem how) (drop i net.mems);
    }

-- and the first assumptions are there
abbrev pub with_assumes : Rebuild → Netlist → ℕ → Netlist
with_assumes how net i =
    record (with_mem_writes how net (length net.mems)) { assumes = map (moved_id net) (take i net.assumes) }
