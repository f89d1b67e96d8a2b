-- Between functions: The bits of a name that two drivers have. Rule of this project.
use Rattle.std.specs.Prelude.{◌≡◌, ℕ, ◌<◌, List, true, false, ◌&&◌, nat_lt, Option, Some, is_none, slice_get}
use Rattle.fv_text.specs.declared.pos.Pos.{Pos}
use Rattle.vl_size.specs.declared.decl.Decl.{Decl}
use Rattle.vl_mean.specs.declared.driver.Driver.{Driver}
use Rattle.fv_bit_sets.specs.declared.step.Step.{Step}
use Rattle.fv_bit_sets.specs.Cells.{has}
use Rattle.vl_flow_spec.specs.Refusals.{are_two, bits_counted, first_below, places_of, twice_driven}
use Rattle.vl_flow_cells.specs.Numbered.{first_cell}
use Rattle.vl_flow_check.specs.Shares.{places_at}
use Rattle.vl_flow_check.specs.declared.doubled.Doubled.{Doubled}
use Rattle.vl_flow_check.specs.declared.share.Share.{Share}

module _ (ds : List Decl) (drivers : List Driver) where
  -- the lowest bit of the name that two drivers have, with their places
  abbrev pub doubled_of : Decl → Option (List ℕ × ℕ × Pos × Pos)
  doubled_of d = twice_driven ds drivers d (first_below (λ i. are_two (places_of ds drivers d i)) (bits_counted d))

  -- under the number stand the bits that count, with their drivers' places
  pub record Tells (shares : List Share) (bits : List Step) (number : ℕ) (d : Decl) : Type 0 where
    pub places : (i : ℕ) → i < bits_counted d → places_at shares number i ≡ places_of ds drivers d i
    pub twice : (i : ℕ) → has bits number i ≡ (are_two (places_of ds drivers d i) && nat_lt i (bits_counted d))

  -- of a vector under the number of its cell
  abbrev pub TellsVectors : Doubled → Type 0
  TellsVectors m =
      (at : ℕ) (d : Decl) → slice_get ds at ≡ Some d → is_none d.words ≡ true
      → Tells m.shares.items m.bits (first_cell ds at) d

  -- of a memory under the number of its name's place
  abbrev pub TellsNames : Doubled → Type 0
  TellsNames m =
      (at : ℕ) (d : Decl) → slice_get ds at ≡ Some d → is_none d.words ≡ false → Tells m.shares.items m.bits at d
