-- Between functions: Inputs, registers and memories of a net as bits of a design's names: each is of a name that is
-- free in a map, and each free bit is one of theirs. Rule of this project.
use Rattle.std.specs.Prelude.{◌≡◌, ℕ, zero, suc, ◌<◌, ◌^◌, List, [], ◌∷◌, ◌++◌, true, false, length}
use Rattle.std.specs.Prelude.{◌⊎◌, Option, Some, None, slice_get}
use Rattle.vl_size.specs.declared.decl.Class.{Class}
use Rattle.vl_size.specs.declared.decl.Class.TheVariants as class
use Rattle.vl_size.specs.declared.decl.Decl.{Decl}
use Rattle.vl_size.specs.Table.{declared_as}
use Rattle.vl_mean.specs.Cells.{cells}
use Rattle.vl_mean.specs.Parts.{Part}
use Rattle.vl_mean.specs.Runs.{initial_writes, is_chosen, is_driven, last_value}
use Rattle.vl_mean.specs.Targets.{bit_of}
use Rattle.vl_flow_spec.specs.Reads.{IsCellOf}
use Rattle.vl_lower_spec.specs.Maps.{cells_named, text_of}
use Rattle.wn_net.specs.declared.names.Names.{Names}
use Rattle.wn_net.specs.declared.names.Spot.{Spot}
use Rattle.wn_net.specs.declared.parts.Init.{Init}
use Rattle.wn_net.specs.declared.parts.Init.TheVariants as init
use Rattle.wn_net.specs.declared.parts.Input.{Input}
use Rattle.wn_net.specs.declared.parts.InputKind.{InputKind}
use Rattle.wn_net.specs.declared.parts.InputKind.TheVariants as kind
use Rattle.wn_net.specs.declared.parts.Mem.{Mem}
use Rattle.wn_net.specs.declared.parts.Reg.{Reg}
use Rattle.wn_net.specs.Net.{Netlist}

-- in the order of the two lists, each of the first with its one of the second
abbrev pub AreEach : {A B : Type 0} → (A → B → Type 0) → List A → List B → Type 0
AreEach R [] [] = Unit {0}
AreEach R (x ∷ xs) (y ∷ ys) = R x y × AreEach R xs ys
AreEach R xs ys = ⊥

-- the numbers below
abbrev pub below : ℕ → List ℕ
below zero = []
below (suc n) = below n ++ n ∷ []

-- ---- inputs

-- how an input is chosen whose name is of a class
abbrev pub kind_of : Class → Option InputKind
kind_of class.Input = Some kind.EachCycle
kind_of class.EachCycle = Some kind.EachCycle
kind_of class.Reset = Some kind.Reset
kind_of class.Once = Some kind.Once
kind_of class.Clock = None
kind_of class.Net = None
kind_of class.Variable = None

-- all bits of a name
pub record IsInputOf (ds : List Decl) (names : Names) (x : Input) (s : Spot) : Type 0 where
  pub decl : Decl
  pub declared : declared_as ds decl.name ≡ Some decl
  pub vector : decl.words ≡ None
  pub named : text_of (slice_get names.list s.name) ≡ decl.name
  pub kind : kind_of decl.class ≡ Some x.kind
  pub width : x.width ≡ decl.width
  pub bits : s.bits ≡ below decl.width

-- ---- registers

-- a number of so many bits
abbrev pub IsBelow : ℕ → ℕ → Type 0
IsBelow width x = x < 2 ^ width

-- a bit begins as a bit of what a register begins with, and is free where that is
abbrev pub BeginsAs : Init → ℕ → Option ℕ → Type 0
BeginsAs (init.Known x) j value = value ≡ Some (bit_of x j)
BeginsAs init.Free j value = value ≡ None

-- bits of a variable that no combinational block drives
pub record IsRegOf (ds : List Decl) (ps : List Part) (names : Names) (r : Reg) (s : Spot) : Type 0 where
  pub decl : Decl
  pub text : List ℕ
  pub of : IsCellOf ds decl text
  pub variable : decl.class ≡ class.Variable
  pub named : text_of (slice_get names.list s.name) ≡ text
  pub width : length s.bits ≡ r.width
  pub within : (j k : ℕ) → slice_get s.bits j ≡ Some k → k < decl.width
  pub kept : (j k : ℕ) → slice_get s.bits j ≡ Some k → is_driven ps text k ≡ false
  pub begins : (j k : ℕ) → slice_get s.bits j ≡ Some k → BeginsAs r.init j (last_value (initial_writes ps) text k)
  pub small : (x : ℕ) → r.init ≡ init.Known x → IsBelow r.width x

-- ---- memories

-- a memory of variables, in which no combinational block drives a bit
pub record IsMemOf (ds : List Decl) (ps : List Part) (names : Names) (m : Mem) (at : ℕ) : Type 0 where
  pub decl : Decl
  pub declared : declared_as ds decl.name ≡ Some decl
  pub variable : decl.class ≡ class.Variable
  pub named : cells_named (slice_get names.list at) ≡ cells decl
  pub width : m.width ≡ decl.width
  pub count : length (cells decl) ≡ m.words
  pub starts : length m.init ≡ m.words
  pub kept : (text : List ℕ) (k : ℕ) → IsCellOf ds decl text → k < decl.width → is_driven ps text k ≡ false
  pub begins : (j k : ℕ) (text : List ℕ) (x : Init) → slice_get (cells decl) j ≡ Some text
      → slice_get m.init j ≡ Some x → k < decl.width → BeginsAs x k (last_value (initial_writes ps) text k)
  pub small : (j x : ℕ) → slice_get m.init j ≡ Some (init.Known x) → IsBelow m.width x

-- ---- all of them

-- the bit of the name is one of the spot's
pub record IsAtSpot (names : Names) (spots : List Spot) (text : List ℕ) (k : ℕ) : Type 0 where
  pub place : ℕ
  pub spot : Spot
  pub there : slice_get spots place ≡ Some spot
  pub named : text_of (slice_get names.list spot.name) ≡ text
  pub offset : ℕ
  pub bit : slice_get spot.bits offset ≡ Some k

-- the name is a word of a memory
pub record IsWordOf (names : Names) (text : List ℕ) : Type 0 where
  pub place : ℕ
  pub at : ℕ
  pub there : slice_get names.mems place ≡ Some at
  pub offset : ℕ
  pub word : slice_get (cells_named (slice_get names.list at)) offset ≡ Some text

-- where a free bit stands: of a variable among registers or memories, and else among the inputs
abbrev pub IsSource : Names → Class → List ℕ → ℕ → Type 0
IsSource names class.Variable text k = IsAtSpot names names.regs text k ⊎ IsWordOf names text
IsSource names c text k = IsAtSpot names names.inputs text k

pub record AreSources (ds : List Decl) (ps : List Part) (net : Netlist) (names : Names) : Type 0 where
  pub inputs : AreEach (IsInputOf ds names) net.inputs names.inputs
  pub regs : AreEach (IsRegOf ds ps names) net.regs names.regs
  pub mems : AreEach (IsMemOf ds ps names) net.mems names.mems
  pub each : (d : Decl) (text : List ℕ) (k : ℕ) → IsCellOf ds d text → k < d.width
      → is_chosen ps d.class text k ≡ true → IsSource names d.class text k
