-- Meaning: A net without registers and memories once more, with equal nodes once, and with the inputs alone that some
-- nodes read (rule of this project).
use Rattle.std.specs.Prelude.{◌≡◌, ℕ, ◌<◌, List, [], ◌∷◌, Some, length, map, slice_get, slice_index}
use Rattle.std.specs.List.{AllByRecursion}
use Rattle.wn_net.specs.declared.node.Node.{Node}
use Rattle.wn_net.specs.declared.node.Node.TheVariants as n
use Rattle.wn_net.specs.Value.{Given}
use Rattle.wn_net.specs.Given.{IsGiven}
use Rattle.wn_net.specs.Net.{Netlist, AreNodes, shape_of, width_at, value_at}
use Rattle.wn_opt.specs.Needed.{IsIn, operands}

-- neither registers nor memories
abbrev pub IsFlat : Netlist → Type 0
IsFlat net = (net.regs ≡ []) × (net.mems ≡ [])

-- a root, or what one reads through operands
pub data IsReached (nodes : List Node) (roots : List ℕ) : ℕ → Type 0 where
  root : (id : ℕ) → IsIn roots id → IsReached nodes roots id
  operand : (user id : ℕ) (x : Node) → IsReached nodes roots user → slice_get nodes user ≡ Some x
      → IsIn (operands x) id → IsReached nodes roots id

-- a root reads the input through operands
abbrev pub IsRead : List Node → List ℕ → ℕ → Type 0
IsRead nodes roots input = (id : ℕ) × IsReached nodes roots id × (slice_get nodes id ≡ Some (n.Input input))

-- each is above those before it
abbrev pub AreRising : List ℕ → Type 0
AreRising [] = Unit {0}
AreRising (x ∷ xs) = AllByRecursion (λ y. x < y) xs × AreRising xs

-- The part's inputs are these of the net's, in their order, each of which a root of the part reads. Under the same
-- numbers of these its roots have the values of the net's.
pub record IsCompact (net : Netlist) (roots : List ℕ) (part : Netlist) (inputs part_roots : List ℕ) : Type 0 where
  pub flat : IsFlat part
  pub there : AllByRecursion (λ i. i < length net.inputs) inputs
  pub rising : AreRising inputs
  pub widths : (shape_of part).inputs ≡ map (slice_index (shape_of net).inputs) inputs
  pub roots_there : AreNodes part part_roots
  pub root_widths : map (width_at part) part_roots ≡ map (width_at net) roots
  pub values : (g h : Given) → IsGiven net g → h.inputs ≡ map (slice_index g.inputs) inputs
      → map (value_at part h) part_roots ≡ map (value_at net g) roots
  pub read : (j : ℕ) → j < length inputs → IsRead part.nodes part_roots j
