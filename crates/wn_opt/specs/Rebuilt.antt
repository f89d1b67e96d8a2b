-- Between functions: A net that is being made anew, with equal nodes once or with fewer inputs (rule of this project).
use Rattle.std.specs.Prelude.{◌≡◌, ℕ, ◌<◌, Bool, List, Option, Some, length, map, slice_get, slice_index}
use Rattle.std.specs.List.{AllByRecursion}
use Rattle.wn_net.specs.declared.node.Node.{Node}
use Rattle.wn_net.specs.declared.node.Node.TheVariants as n
use Rattle.wn_net.specs.Value.{Given}
use Rattle.wn_net.specs.Given.{IsGiven}
use Rattle.wn_net.specs.Net.{Netlist, IsNodeOf, shape_of, width_at, value_at}
use Rattle.wn_opt.specs.Cone.{IsPlace, HasPlace, renamed}
use Rattle.wn_opt.specs.Compact.{AreRising, IsFlat, IsRead}
use Rattle.wn_opt.specs.Marks.{IsSet}
use Rattle.wn_opt.specs.Needed.{IsIn}
use Rattle.wn_opt.specs.Table.{IsOperator}

-- of the first nodes the marked ones have new numbers, and no others
pub record AreMarked (marks : List Bool) (t : List (Option ℕ)) : Type 0 where
  pub marked : (id : ℕ) → HasPlace t id → IsSet marks id
  pub placed : (id : ℕ) → id < length t → IsSet marks id → HasPlace t id

-- input i has no node but node i
abbrev pub HasOwnInputs : Netlist → Type 0
HasOwnInputs net = (id i : ℕ) → slice_get net.nodes id ≡ Some (n.Input i) → id ≡ i

-- those that have new numbers have their widths there
abbrev pub AreWide : Netlist → Netlist → List (Option ℕ) → Type 0
AreWide net part t = (id at : ℕ) → IsPlace t id at → IsNodeOf part (width_at net id) at

-- ---- equal nodes once

-- The inputs are the net's, each with its node in front. The marked ones of the first nodes have their values under
-- new numbers.
pub record AreShared (net : Netlist) (marks : List Bool) (part : Netlist) (t : List (Option ℕ)) : Type 0 where
  pub flat : IsFlat part
  pub inputs : part.inputs ≡ net.inputs
  pub nodes : (i : ℕ) → i < length net.inputs → slice_get part.nodes i ≡ Some (n.Input i)
  pub own : HasOwnInputs part
  pub places : AreMarked marks t
  pub widths : AreWide net part t
  pub values : (g : Given) → IsGiven net g → (id at : ℕ) → IsPlace t id at → value_at part g at ≡ value_at net g id

-- what it comes to, with all nodes that roots need
pub record IsShared (net : Netlist) (roots : List ℕ) (part : Netlist) (t : List (Option ℕ)) : Type 0 where
  pub flat : IsFlat part
  pub inputs : part.inputs ≡ net.inputs
  pub own : HasOwnInputs part
  pub placed : (id : ℕ) → IsIn roots id → HasPlace t id
  pub widths : AreWide net part t
  pub values : (g : Given) → IsGiven net g → (id at : ℕ) → IsPlace t id at → value_at part g at ≡ value_at net g id

-- ---- fewer inputs

-- the input has a node, which is that of one of the part's inputs
pub record IsInputOf (part : Netlist) (inputs : List ℕ) (at i : ℕ) : Type 0 where
  pub input : ℕ
  pub node : slice_get part.nodes at ≡ Some (n.Input input)
  pub is : slice_get inputs input ≡ Some i

-- The inputs are those of the net whose nodes are marked. The marked ones of the first nodes stand under new numbers.
pub record AreNarrowed (net : Netlist) (marks : List Bool) (part : Netlist) (inputs : List ℕ)
    (t : List (Option ℕ)) : Type 0 where
  pub flat : IsFlat part
  pub places : AreMarked marks t
  pub nodes : (id at : ℕ) (x : Node) → IsPlace t id at → slice_get net.nodes id ≡ Some x → IsOperator x
      → slice_get part.nodes at ≡ Some (renamed t x)
  pub input_nodes : (id at i : ℕ) → IsPlace t id at → slice_get net.nodes id ≡ Some (n.Input i)
      → IsInputOf part inputs at i
  pub widths : AreWide net part t
  pub input_widths : (shape_of part).inputs ≡ map (slice_index (shape_of net).inputs) inputs
  pub there : AllByRecursion (λ i. i < length net.inputs) inputs
  pub before : AllByRecursion (λ i. i < length t) inputs
  pub rising : AreRising inputs
  pub owners : (j i : ℕ) → slice_get inputs j ≡ Some i
      → (at : ℕ) × IsPlace t i at × (slice_get part.nodes at ≡ Some (n.Input j))

-- what it comes to
pub record IsNarrowed (net : Netlist) (roots : List ℕ) (part : Netlist) (inputs : List ℕ)
    (t : List (Option ℕ)) : Type 0 where
  pub flat : IsFlat part
  pub placed : (id : ℕ) → IsIn roots id → HasPlace t id
  pub widths : AreWide net part t
  pub input_widths : (shape_of part).inputs ≡ map (slice_index (shape_of net).inputs) inputs
  pub there : AllByRecursion (λ i. i < length net.inputs) inputs
  pub rising : AreRising inputs
  pub values : (g h : Given) → h.inputs ≡ map (slice_index g.inputs) inputs → (id at : ℕ) → IsPlace t id at
      → value_at part h at ≡ value_at net g id
  pub read : (ids : List ℕ) → ((id at : ℕ) → IsIn roots id → IsPlace t id at → IsIn ids at) → (j : ℕ)
      → j < length inputs → IsRead part.nodes ids j
