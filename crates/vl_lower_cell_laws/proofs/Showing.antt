-- In a cycle the bits of inputs and registers are those of the names.
use Rattle.std.specs.Prelude.{◌≡◌, refl, ℕ, zero, suc, ◌+◌, List, [], ◌∷◌, map, All, Some, slice_get}
use Rattle.std.specs.Prelude.{slice_index}
use Rattle.std.specs.Int.{bit_at}
use Rattle.std.proofs.Common.{ap, sym, ◌∙◌, arith, subst, ◌⊎◌, inl, inr}
use Rattle.vl_size.specs.declared.decl.Decl.{Decl}
use Rattle.vl_size.specs.Size.{Values}
use Rattle.vl_size.specs.Table.{AreApart, AreDifferent}
use Rattle.vl_mean.specs.FlatLaw.{IsKept}
use Rattle.vl_mean.specs.Parts.{Part}
use Rattle.vl_flow_spec.specs.Reads.{IsCellOf}
use Rattle.vl_flow_cells.proofs.Lists.{declared_own, get_some}
use Rattle.wn_net.specs.declared.names.NetName.{NetName}
use Rattle.wn_net.specs.declared.names.Names.{Names}
use Rattle.wn_net.specs.declared.names.Place.TheVariants as place
use Rattle.wn_net.specs.declared.names.Spot.{Spot}
use Rattle.wn_net.specs.Names.{AreShown, IsShown, ShowNames, number_at}
use Rattle.wn_net.specs.Net.{Netlist}
use Rattle.wn_net.specs.Value.{Given}
use Rattle.vl_lower_spec.specs.Maps.{gathered, given_of, spot_number, text_of}
use Rattle.vl_lower_assign.specs.Frames.{Stand}
use Rattle.vl_lower_spec.specs.Sources.{AreSources, IsInputOf, IsRegOf}
use Rattle.vl_lower_spec.proofs.Bits.{gathered_at}
use Rattle.vl_lower_spec.proofs.Free.{vector_cell}
use Rattle.vl_lower_spec.proofs.Pairs.{first_of}
use Rattle.vl_lower_cell_laws.specs.Entries.{all_entries}
use Rattle.vl_lower_cell_laws.specs.Listing.{Keeping}
use Rattle.vl_lower_cell_laws.specs.Shown.{NamesAreShown}
use Rattle.vl_lower_cell_laws.proofs.Entries.{AtCell, AtMemory, entries_are}
use Rattle.vl_lower_cell_laws.proofs.ShownLists.{index_is}
use Rattle.vl_lower_cell_laws.proofs.Owners.{memory_no_cell}

module _ (ds : List Decl) (ps : List Part) (nodes : List ℕ) (net : Netlist) (names : Names) (g : Given) (v : Values)
    (different : AreDifferent ds) (apart : AreApart ds) (kept : All IsKept ds)
    (list : names.list ≡ all_entries ps ds nodes 0 0) (stand : Stand net g ds nodes v) where
  -- what is kept plays no part here
  nothing : Keeping
  nothing c = record { driven = 0; known = 0; value = 0 }

  -- the entry of a cell shows the cell's number
  entry_shows : (i : ℕ) (x : NetName) → slice_get names.list i ≡ Some x → (d : Decl) (text : List ℕ) → IsCellOf ds d text
      → x.text ≡ text → number_at net g x.place ≡ v x.text
  entry_shows i x e d text of same =
      by (entries_are ps nodes nothing ds kept 0 0 0 i x (ap (λ xs. slice_get xs i) (sym list) ∙ e))
    where
      by : AtCell ps nodes ds 0 x ⊎ AtMemory ps nodes nothing ds 0 0 0 x → number_at net g x.place ≡ v x.text
      by (inl h) =
          let none : 0 + h.cell ≡ h.cell = omega arith in
          ap (number_at net g) (h.stands ∙ ap (λ k. place.Node (slice_index nodes k)) none)
          ∙ sym (stand h.cell x.text h.named)
      by (inr h) =
          let is : text ≡ h.decl.name = sym same ∙ ap (λ y. y.text) h.is in
          absurd (memory_no_cell ds apart ps h.decl d (declared_own ds different h.index h.decl h.there) h.memory
          (subst (IsCellOf ds d) is of))

  spot_shows : (s : Spot) (d : Decl) (text : List ℕ) → IsCellOf ds d text → text_of (slice_get names.list s.name) ≡ text
      → IsShown net g names (spot_number names v s) s
  spot_shows s d text of named x e j less =
      let own : x.text ≡ text = ap text_of (sym e) ∙ named in
      let b = get_some s.bits j less in
      ap (λ o. bit_at (gathered (v (text_of o)) s.bits) j) e ∙ gathered_at (v x.text) s.bits j b.0 b.1
      ∙ (λ i. bit_at (sym (entry_shows s.name x e d text of own) i) (sym (index_is s.bits j b.0 b.1) i))

  all_shown : (spots : List Spot)
      → ((i : ℕ) (s : Spot) → slice_get spots i ≡ Some s → IsShown net g names (spot_number names v s) s)
      → AreShown net g names (map (spot_number names v) spots) spots
  all_shown [] h = tt
  all_shown (s ∷ ss) h = (h zero s refl, all_shown ss (λ i t e. h (suc i) t e))

  shown : AreSources ds ps net names → given_of names v ≡ g → ShowNames net names g
  shown sources same = record {
    inputs =
        subst (λ ns. AreShown net g names ns names.inputs) (ap (λ z. z.inputs) same)
        (all_shown names.inputs (λ i s e.
        let r = first_of (IsInputOf ds names) net.inputs names.inputs sources.inputs i s e in
        spot_shows s r.2.decl r.2.decl.name (vector_cell ds r.2.decl r.2.declared r.2.vector) r.2.named));
    regs =
        subst (λ ns. AreShown net g names ns names.regs) (ap (λ z. z.state.regs) same)
        (all_shown names.regs (λ i s e.
        let r = first_of (IsRegOf ds ps names) net.regs names.regs sources.regs i s e in
        spot_shows s r.2.decl r.2.text r.2.of r.2.named));
  }

pub are_shown : NamesAreShown
are_shown ds ps nodes net names g v different apart kept list sources stand same =
    shown ds ps nodes net names g v different apart kept list stand sources same
