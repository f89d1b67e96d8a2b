-- The names are those of the net, and each input, register and memory has its entry.
use Rattle.std.specs.Prelude.{◌≡◌, refl, ℕ, ◌+◌, ◌<◌, ◌≤◌, List, [], ◌∷◌, length, map, All, Some, None, false, ℤ}
use Rattle.std.specs.Prelude.{Option}
use Rattle.std.specs.Prelude.{MatchOption, int_le, slice_get, slice_index}
use Rattle.std.specs.List.{AllByRecursion, IsDistinct}
use Rattle.std.proofs.Common.{ap, sym, ◌∙◌, arith, subst, true≢false, ◌⊎◌, inl, inr}
use Rattle.std.proofs.lemmas.List.{length-map}
use Rattle.std.proofs.lemmas.List.Elements.{All-head, All-tail}
use Rattle.vl_size.specs.declared.decl.Decl.{Decl}
use Rattle.vl_size.specs.Table.{AreApart, AreDifferent, IsShaped, span}
use Rattle.vl_mean.specs.Cells.{cells, cells_of}
use Rattle.vl_mean.specs.FlatLaw.{IsKept, IsMemory}
use Rattle.vl_mean.specs.Parts.{Part}
use Rattle.vl_mean.specs.Runs.{Each}
use Rattle.vl_flow_spec.proofs.Elements.{all_declared}
use Rattle.vl_flow_cells.proofs.Lists as lists
use Rattle.vl_flow_cells.proofs.Words.{words_length}
use Rattle.wn_net.specs.declared.names.NetName.{NetName}
use Rattle.wn_net.specs.declared.names.Names.{Names}
use Rattle.wn_net.specs.declared.names.Place.TheVariants as place
use Rattle.wn_net.specs.declared.names.Spot.{Spot}
use Rattle.wn_net.specs.Changes.{mem_width}
use Rattle.wn_net.specs.Names.{AreMemNames, AreNamesOf, AreSpotsOf, HaveAll, IsNameOf, IsPlaced, IsRangeOf}
use Rattle.wn_net.specs.Names.{IsSpotOf, words_in}
use Rattle.wn_net.specs.Net.{IsNodeOf, Netlist}
use Rattle.vl_lower_assign.specs.Frames.{AreCellsOf, cell_widths}
use Rattle.vl_lower_cell_laws.specs.Entries.{all_entries, memory_entry}
use Rattle.vl_lower_cell_laws.specs.Listing.{AreKeeps, HasSources, Keeping, Stored, all_inputs, all_memories}
use Rattle.vl_lower_cell_laws.specs.Listing.{all_registers}
use Rattle.vl_lower_cell_laws.specs.Listing.{input_spot, register_spot}
use Rattle.vl_lower_cell_laws.proofs.SourcesLists.{map_get}
use Rattle.vl_lower_cell_laws.proofs.Places.{AllAt, all_at}
use Rattle.vl_lower_cell_laws.specs.Shown.{NamesAreWhole}
use Rattle.vl_lower_cell_laws.proofs.ShownCounted.{has_words}
use Rattle.vl_lower_cell_laws.proofs.Differ.{all_differ, same_text}
use Rattle.vl_lower_cell_laws.proofs.Entries.{AtCell, AtMemory, entries_are}
use Rattle.vl_lower_cell_laws.proofs.ShownLists.{all_of_places, index_is}
use Rattle.vl_lower_cell_laws.proofs.Spots.{input_spots, memory_names, register_spots}

-- spots, each of the width beside it
spots_of : {A : Type 0} (names : Names) (width : A → ℕ) (spot : A → Spot) (xs : List A)
    → Each (λ x. IsSpotOf names (width x) (spot x)) xs → AreSpotsOf names (map width xs) (map spot xs)
spots_of names width spot [] h = tt
spots_of names width spot (x ∷ xs) h = (h.0, spots_of names width spot xs h.1)

each_of_all : {A : Type 0} (P : A → Type 0) (xs : List A) → All P xs → Each P xs
each_of_all P [] h = tt
each_of_all P (x ∷ xs) h = (All-head P x xs h, each_of_all P xs (All-tail P x xs h))

each_as : {A : Type 0} (P Q : A → Type 0) (xs : List A) → ((x : A) → P x → Q x) → Each P xs → Each Q xs
each_as P Q [] f h = tt
each_as P Q (x ∷ xs) f h = (f x h.0, each_as P Q xs f h.1)

map_of_map : {A B C : Type 0} (f : B → C) (g : A → B) (xs : List A) → map f (map g xs) ≡ map (λ x. f (g x)) xs
map_of_map f g [] = refl
map_of_map f g (x ∷ xs) = (λ i. f (g x) ∷ map_of_map f g xs i)

index_at : {A : Type 0} (f : A → ℕ) (xs : List A) (i : ℕ) (x : A) → slice_get xs i ≡ Some x
    → slice_index (map f xs) i ≡ f x
index_at f xs i x e = index_is (map f xs) i (f x) (map_get f xs i x e)

-- ---- a memory's range

range_of : (text : List ℕ) (b : ℤ × ℤ) (n : ℕ) → n ≡ length (cells_of text (Some b)) → IsRangeOf n b
range_of text b n e = sym (e ∙ words_length text (span b.0 b.1) (int_le b.0 b.1) b.0)

module _ (ds : List Decl) (ps : List Part) (keep : Keeping) (nodes : List ℕ) (net : Netlist) (names : Names)
    (shaped : All IsShaped ds) (different : AreDifferent ds) (apart : AreApart ds) (kept : All IsKept ds)
    (keeps : AreKeeps ps keep ds 0) (list : names.list ≡ all_entries ps ds nodes 0 0)
    (has : HasSources ps keep ds net names) (own : AreCellsOf net ds nodes) where
  standing : AllAt ps nodes names.list ds 0 0 0
  standing =
      all_at ps nodes names.list ds 0 0 0 (λ j x e.
      let same : 0 + j ≡ j = omega arith in
      ap (λ xs. slice_get xs (0 + j)) list ∙ ap (slice_get (all_entries ps ds nodes 0 0)) same ∙ e)

  memories : Each (λ d. IsMemory d.words d) ds
  memories = each_as IsKept (λ d. IsMemory d.words d) ds (λ d h. h.memory) (each_of_all IsKept ds kept)

  some_bits : Each (λ d. 1 ≤ d.width) ds
  some_bits = each_as IsShaped (λ d. 1 ≤ d.width) ds (λ d h. h.some_bits) (each_of_all IsShaped ds shaped)

  -- ---- places

  cell_placed : (x : NetName) → AtCell ps nodes ds 0 x → IsNameOf net x
  cell_placed x h =
      let none : 0 + h.cell ≡ h.cell = omega arith in
      let less : h.cell < length nodes = omega (arith, lists.get_less (cell_widths ds) h.cell x.width h.width, own.each) in
      let wide : slice_index (cell_widths ds) h.cell ≡ x.width = index_is (cell_widths ds) h.cell x.width h.width in
      subst (λ p. IsPlaced net x.width x.output x.words p)
      (sym (h.stands ∙ ap (λ k. place.Node (slice_index nodes k)) none))
      (subst (λ w. IsNodeOf net w (slice_index nodes h.cell)) wide (own.node h.cell less), h.vector)

  memory_placed : (x : NetName) → AtMemory ps nodes keep ds 0 0 0 x → IsNameOf net x
  memory_placed x h =
      subst (IsNameOf net) (sym (h.is ∙ ap (memory_entry h.decl) none))
      (less, wide, inside, ranged h.decl.words refl is.memory)
    where
      all : List (Stored × ℕ)
      all = all_memories ps keep ds 0 0

      none : 0 + h.number ≡ h.number
      none = omega arith

      is : IsKept h.decl
      is = lists.all_at IsKept ds h.index h.decl h.there kept

      many : length net.mems ≡ length all
      many =
          sym (length-map net.mems (λ m. m.width)) ∙ ap length has.mem_widths
          ∙ length-map all (λ (y : Stored × ℕ). y.0.width)

      less : h.number < length net.mems
      less = omega (arith, many, lists.get_less all h.number h.listed h.among)

      wide : mem_width net h.number ≡ h.decl.width
      wide =
          ap (λ ws. slice_index ws h.number) has.mem_widths
          ∙ index_at (λ (y : Stored × ℕ). y.0.width) all h.number h.listed h.among ∙ h.width

      words : words_in net h.number ≡ length (cells h.decl)
      words =
          ap (λ ws. slice_index ws h.number) has.mem_words
          ∙ index_at (λ (y : Stored × ℕ). y.0.words) all h.number h.listed h.among ∙ h.words

      inside : h.decl.output ≡ false
      inside = by h.decl.words refl is.memory
        where
          by : (w : Option (ℤ × ℤ)) → h.decl.words ≡ w → IsMemory w h.decl → h.decl.output ≡ false
          by None e g = absurd (true≢false (has_words ps h.decl None e h.memory))
          by (Some b) e g = g.3

      ranged : (w : Option (ℤ × ℤ)) → h.decl.words ≡ w → IsMemory w h.decl
          → MatchOption w ⊥ (IsRangeOf (words_in net h.number))
      ranged None e g = absurd (true≢false (has_words ps h.decl None e h.memory))
      ranged (Some b) e g =
          range_of h.decl.name b (words_in net h.number) (words ∙ ap (λ o. length (cells_of h.decl.name o)) e)

  placed : AllByRecursion (IsNameOf net) names.list
  placed =
      all_of_places (IsNameOf net) names.list (λ j x e.
      by x (entries_are ps nodes keep ds kept 0 0 0 j x (ap (λ xs. slice_get xs j) (sym list) ∙ e)))
    where
      by : (x : NetName) → AtCell ps nodes ds 0 x ⊎ AtMemory ps nodes keep ds 0 0 0 x → IsNameOf net x
      by x (inl h) = cell_placed x h
      by x (inr h) = memory_placed x h

  -- ---- spots

  inputs : AreSpotsOf names (map (λ i. i.width) net.inputs) names.inputs
  inputs =
      subst (λ ss. AreSpotsOf names (map (λ i. i.width) net.inputs) ss) (sym has.input_spots)
      (subst (λ ws. AreSpotsOf names ws (map input_spot (all_inputs ps ds 0)))
      (sym (ap (map (λ i. i.width)) has.inputs ∙ map_of_map (λ i. i.width) (λ x. x.0) (all_inputs ps ds 0)))
      (spots_of names (λ x. x.0.width) input_spot (all_inputs ps ds 0)
      (input_spots ps keep nodes names ds memories 0 0 0 standing)))

  regs : AreSpotsOf names (map (λ r. r.width) net.regs) names.regs
  regs =
      subst (λ ss. AreSpotsOf names (map (λ r. r.width) net.regs) ss) (sym has.reg_spots)
      (subst (λ ws. AreSpotsOf names ws (map register_spot (all_registers ps keep ds 0 0))) (sym has.reg_widths)
      (spots_of names (λ x. x.0.width) register_spot (all_registers ps keep ds 0 0)
      (register_spots ps keep nodes names ds some_bits 0 0 0 standing keeps)))

  many_mems : length names.mems ≡ length net.mems
  many_mems =
      ap length has.mem_names ∙ length-map (all_memories ps keep ds 0 0) (λ x. x.1)
      ∙ sym (length-map (all_memories ps keep ds 0 0) (λ x. x.0.width)) ∙ sym (ap length has.mem_widths)
      ∙ length-map net.mems (λ m. m.width)

  named : AreNamesOf net names
  named = record {
    placed = placed;
    differ =
        subst (λ xs. IsDistinct same_text xs) (sym list)
        (all_differ ds apart ps nodes keep ds kept (all_declared ds different) different 0 0);
    inputs = inputs;
    regs = regs;
    mems =
        subst (λ ms. AreMemNames names 0 ms) (sym has.mem_names)
        (memory_names ps keep nodes names ds memories 0 0 0 standing);
    few_mems = omega (arith, many_mems);
  }

  all : HaveAll net names
  all = record {
    inputs =
        ap length has.input_spots ∙ length-map (all_inputs ps ds 0) input_spot
        ∙ sym (length-map (all_inputs ps ds 0) (λ x. x.0)) ∙ sym (ap length has.inputs);
    regs =
        ap length has.reg_spots ∙ length-map (all_registers ps keep ds 0 0) register_spot
        ∙ sym (length-map (all_registers ps keep ds 0 0) (λ x. x.0.width)) ∙ sym (ap length has.reg_widths)
        ∙ length-map net.regs (λ r. r.width);
    mems = many_mems;
  }

pub are_whole : NamesAreWhole
are_whole ds ps keep nodes net names shaped different apart kept keeps list has own = (
  named ds ps keep nodes net names shaped different apart kept keeps list has own,
  all ds ps keep nodes net names shaped different apart kept keeps list has own,
)
