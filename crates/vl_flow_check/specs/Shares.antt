-- Between functions: Bits that drivers have, with the drivers' places. Rule of this project.
use Rattle.std.specs.Prelude.{◌≡◌, ℕ, ◌==◌, List, [], ◌∷◌, ◌++◌, Bool, true, false, ◌&&◌, ◌||◌, Some, is_none}
use Rattle.std.specs.Prelude.{replicate, slice_get, if◌then◌else◌}
use Rattle.fv_text.specs.declared.pos.Pos.{Pos}
use Rattle.vl_tree.specs.Lval.{Lval}
use Rattle.vl_size.specs.declared.decl.Decl.{Decl}
use Rattle.vl_mean.specs.FlatLaw.{flat_scopes}
use Rattle.vl_mean.specs.Scopes.{no_values}
use Rattle.vl_mean.specs.Targets.{spots}
use Rattle.vl_mean.specs.declared.driver.Driver.{Driver}
use Rattle.fv_bit_sets.specs.Cells.{has}
use Rattle.vl_flow_spec.specs.Refusals.{are_two, count_spot, places_of}
use Rattle.vl_flow_cells.specs.Numbered.{all_cells, first_cell}
use Rattle.vl_flow_check.specs.declared.overlap.Overlap.{Overlap}
use Rattle.vl_flow_check.specs.declared.share.Share.{Share}

-- the places of the shares that have the bit, in their order
abbrev pub places_at : List Share → ℕ → ℕ → List Pos
places_at [] c i = []
places_at (s ∷ shares) c i = if has s.bits c i then s.pos ∷ places_at shares c i else places_at shares c i

-- at least one
abbrev pub are_some : List Pos → Bool
are_some [] = false
are_some (p ∷ ps) = true

-- the bits that one of the shares has, and those that two have
pub record IsOverlapOf (shares : List Share) (o : Overlap) : Type 0 where
  pub some : (c i : ℕ) → has o.some c i ≡ are_some (places_at shares c i)
  pub two : (c i : ℕ) → has o.two c i ≡ are_two (places_at shares c i)

-- of two overlaps, one behind the other
pub record IsJoined (left right made : Overlap) : Type 0 where
  pub some : (c i : ℕ) → has made.some c i ≡ (has left.some c i || has right.some c i)
  pub two : (c i : ℕ) → has made.two c i
      ≡ ((has left.two c i || has right.two c i) || (has left.some c i && has right.some c i))

-- the later shares are the earlier ones, and behind them some with these places of a cell's bit
abbrev pub AddsPlaces : List Decl → List Share → List Share → (List ℕ → ℕ → List Pos) → Type 0
AddsPlaces ds before after places =
    (c : ℕ) (n : List ℕ) (i : ℕ) → slice_get (all_cells ds) c ≡ Some n
    → places_at after c i ≡ places_at before c i ++ places n i

-- a place as often as the target has the bit
abbrev pub target_places : List Decl → Lval → Pos → List ℕ → ℕ → List Pos
target_places ds l p n i = replicate (count_spot n i (spots (flat_scopes ds) no_values l)) p

-- a vector's bit has the places of the drivers that assign it
abbrev pub AreBitShares : List Decl → List Driver → List Share → Type 0
AreBitShares ds drivers shares =
    (at i : ℕ) (d : Decl) → slice_get ds at ≡ Some d → is_none d.words ≡ true
    → places_at shares (first_cell ds at) i ≡ places_of ds drivers d i

-- a memory has the places of the drivers that assign a bit of it, as bit 0 under the number of its name
abbrev pub AreNameShares : List Decl → List Driver → List Share → Type 0
AreNameShares ds drivers shares =
    (at i : ℕ) (d : Decl) → slice_get ds at ≡ Some d → is_none d.words ≡ false
    → places_at shares at i ≡ (if i == 0 then places_of ds drivers d i else [])
