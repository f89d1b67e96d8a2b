-- Between functions: Where the bits of a target stand. Rule of this project; which bits a target has is `Targets` of
-- vl_mean.
use Rattle.std.specs.Prelude.{◌≡◌, ℕ, ◌+◌, ◌≤◌, ◌++◌, List, Option, IsSome, Some, ℤ, slice_get}
use Rattle.vl_tree.specs.Expr.{Selects, name}
use Rattle.vl_tree.specs.Lval.{Lval, Lvals, named, joined, no_lvals, more_lvals}
use Rattle.vl_size.specs.declared.decl.Decl.{Decl}
use Rattle.vl_size.specs.Size.{Values, or_none, size, vector_size}
use Rattle.vl_mean.specs.FlatLaw.{flat_scopes}
use Rattle.vl_mean.specs.Targets.{Spot, spots_from, vector_spots}
use Rattle.wn_net.specs.Value.{Given}
use Rattle.wn_net.specs.Net.{Netlist}
use Rattle.wn_net.specs.Given.{IsGiven}
use Rattle.wn_net.specs.Changes.{AddsNodes}
use Rattle.vl_flow_cells.specs.Numbered.{all_cells}
use Rattle.vl_lower_assign.specs.declared.spread.BitPlace.{BitPlace}
use Rattle.vl_lower_assign.specs.Places.{IsPlaceIn, IsAt}
use Rattle.vl_lower_assign.specs.declared.slot.Holder.{Holder}
use Rattle.vl_lower_assign.specs.declared.slot.Slot.{Slot}
use Rattle.vl_lower_assign.specs.Slots.{hits}
use Rattle.vl_lower_assign.specs.Frames.{Stand, AllSlots, AreSlotsOf, AreWide, IsHolderIn, IsSlotFor, IsSlotOf}
use Rattle.vl_lower_assign.specs.Frames.{is_named}
use Rattle.vl_lower_assign.specs.Frames.{slots_width}

-- each name of a target is declared, and its selects have a size
abbrev mutual
  pub IsSizedTarget : List Decl → Lval → Type 0
  IsSizedTarget ds (named p text xs) = IsSome (size ds (name p text xs))
  IsSizedTarget ds (joined p ls) = AreSizedTargets ds ls

  pub AreSizedTargets : List Decl → Lvals → Type 0
  AreSizedTargets ds no_lvals = Unit {0}
  AreSizedTargets ds (more_lvals l ls) = IsSizedTarget ds l × AreSizedTargets ds ls

module _ (ds : List Decl) where
  -- Nodes are added, and slots of so many bits stand behind those that were there: in each cycle in which cells have
  -- the numbers of a map, these bits.
  pub record Locates (old new : Netlist) (cells : List ℕ) (before after : List Slot) (count : ℕ)
      (bits : Values → List (Option Spot))
      : Type 0 where
    pub adds : AddsNodes old new
    pub slots : AllSlots new ds after
    pub width : slots_width after ≡ slots_width before + count
    pub at : (g : Given) (v : Values) (front : List (Option Spot)) → IsGiven old g → Stand old g ds cells v
        → AreSlotsOf old g ds before front → AreSlotsOf new g ds after (front ++ bits v)

  -- Nodes are added, and this is the place in each such cycle.
  pub record IsPlaced (old new : Netlist) (cells : List ℕ) (spot : BitPlace) (place : Values → ℤ) : Type 0 where
    pub adds : AddsNodes old new
    pub there : IsPlaceIn new spot
    pub is : (g : Given) (v : Values) → IsGiven old g → Stand old g ds cells v → IsAt new g spot (place v)

  -- Nodes are added, and this is the cell of the name in each such cycle, where there is one.
  pub record IsHeld (old new : Netlist) (cells : List ℕ) (width : ℕ) (holder : Holder)
      (text : Values → Option (List ℕ))
      : Type 0 where
    pub adds : AddsNodes old new
    pub wide : AreWide ds width holder
    pub there : IsHolderIn new holder
    pub is : (g : Given) (v : Values) (i : ℕ) (n : List ℕ) → IsGiven old g → Stand old g ds cells v
        → slice_get (all_cells ds) i ≡ Some n → hits new g holder i ≡ is_named (text v) n

  -- Nodes are added, and the place and the count of a slot are those of the bits that selects of a vector take,
  -- whatever its name.
  pub record HasBits (old new : Netlist) (cells : List ℕ) (d : Decl) (xs : Selects) (slot : Slot) : Type 0 where
    pub adds : AddsNodes old new
    pub there : IsPlaceIn new slot.place
    pub width : slot.width ≡ d.width
    pub some : 1 ≤ slot.count
    pub few : slot.count ≤ 128
    pub count : slot.count ≡ or_none (vector_size ds d xs)
    pub bits : (g : Given) (v : Values) (text : Option (List ℕ)) → IsGiven old g → Stand old g ds cells v
        → (q : ℤ) × IsAt new g slot.place q
        × (vector_spots (flat_scopes ds) v d text xs ≡ spots_from slot.count d.width text q)

  -- Nodes are added, and a slot of so many bits is there: in each such cycle these.
  pub record IsLocated (old new : Netlist) (cells : List ℕ) (slot : Slot) (count : ℕ)
      (bits : Values → List (Option Spot))
      : Type 0 where
    pub adds : AddsNodes old new
    pub fits : IsSlotFor new ds slot
    pub width : slot.count ≡ count
    pub is : (g : Given) (v : Values) → IsGiven old g → Stand old g ds cells v → IsSlotOf new g ds slot (bits v)
