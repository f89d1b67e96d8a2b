-- A map that has the numbers of a cycle's beginning is ranged, and what is free in it is what was given.
use Rattle.std.specs.Prelude.{◌≡◌, refl, ℕ, zero, suc, ◌+◌, ◌<◌, ◌≤◌, ◌^◌, List, [], ◌∷◌, length, map, All}
use Rattle.std.specs.Prelude.{Some, is_none, slice_get, slice_index}
use Rattle.std.proofs.Common.{ap, sym, ◌∙◌, arith, subst, true≢false}
use Rattle.std.proofs.lemmas.List.{length-map}
use Rattle.std.proofs.lemmas.Option.{same_Some}
use Rattle.vl_size.specs.declared.decl.Decl.{Decl}
use Rattle.vl_size.specs.Size.{Values}
use Rattle.vl_size.specs.Table.{AreDifferent, IsShaped, declared_as}
use Rattle.vl_mean.specs.FlatLaw.{IsKept, IsMemory}
use Rattle.vl_mean.specs.Parts.{Part}
use Rattle.vl_mean.specs.Runs.{Each, InRange}
use Rattle.vl_flow_cells.specs.Numbered.{all_cells}
use Rattle.vl_lower_spec.specs.Maps.{cells_named, inputs_of, spot_number}
use Rattle.wn_net.specs.declared.names.Names.{Names}
use Rattle.wn_net.specs.declared.parts.Input.{Input}
use Rattle.wn_net.specs.declared.parts.Mem.{Mem}
use Rattle.wn_net.specs.Value.{Given, word_at, words_at, words_of}
use Rattle.wn_net.specs.Net.{Netlist}
use Rattle.wn_net.specs.Given.{AreMemsOf, IsGiven}
use Rattle.vl_lower_spec.proofs.Pairs.{index_map}
use Rattle.vl_lower_cell_laws.specs.Keeps.{Kept}
use Rattle.vl_lower_cell_laws.specs.Entries.{all_entries}
use Rattle.vl_lower_cell_laws.specs.Listing.{AreKeeps, HasSources, Keeping, Stored, all_inputs, all_memories}
use Rattle.vl_lower_cell_laws.specs.Listing.{all_registers}
use Rattle.vl_lower_cell_laws.specs.Listing.{input_spot, register_spot}
use Rattle.vl_lower_cell_laws.specs.Numbers.{BeginsCycle, NumbersBeginCycles, all_numbers}
use Rattle.vl_lower_cell_laws.proofs.Along.{AllFrom}
use Rattle.vl_lower_cell_laws.proofs.Beginning.{IsFit, all_back}
use Rattle.vl_lower_cell_laws.proofs.Chosen.{IsWithin, all_gathered}
use Rattle.vl_lower_cell_laws.proofs.SourcesCounted.{AllHave, all_have}
use Rattle.vl_lower_cell_laws.proofs.Places.{AllAt}
use Rattle.vl_lower_cell_laws.proofs.Ranged.{all_ranged}
use Rattle.vl_lower_cell_laws.proofs.SourcesWhole.{memories, own, placed}
use Rattle.vl_lower_cell_laws.proofs.Words.{all_these, mapped}

abbrev behind : {A : Type 0} → List A → List A
behind [] = []
behind (z ∷ zs) = zs

-- numbers that have widths
widths_fit : {A : Type 0} (width : A → ℕ) (xs : List A) (widths numbers : List ℕ) → widths ≡ map width xs
    → ((i : ℕ) → slice_index numbers i < 2 ^ slice_index widths i)
    → AllFrom (λ x i. slice_index numbers i < 2 ^ width x) xs 0
widths_fit width xs widths numbers e h j x s =
    let same : 0 + j ≡ j = omega arith in
    let wide : slice_index widths j ≡ width x = ap (λ ws. slice_index ws j) e ∙ index_map width xs j x s in
    subst (λ k. slice_index numbers k < 2 ^ width x) (sym same) (subst (λ w. slice_index numbers j < 2 ^ w) wide (h j))

-- a memory's words
mem_at : (ms : List Mem) (xs : List (Stored × ℕ)) (lists : List (List ℕ)) → AreMemsOf ms lists
    → map (λ m. m.width) ms ≡ map (λ x. x.0.width) xs → map (λ m. m.words) ms ≡ map (λ x. x.0.words) xs
    → (j : ℕ) (x : Stored × ℕ) → slice_get xs j ≡ Some x
    → (length (words_at lists j) ≡ x.0.words) × ((q : ℕ) → word_at (words_at lists j) q < 2 ^ x.0.width)
mem_at [] [] lists h w c j x s = absurd (true≢false (ap is_none s))
mem_at [] (y ∷ xs) lists h w c j x s = absurd (true≢false (ap (λ zs. is_none (slice_get zs 0)) w))
mem_at (m ∷ ms) [] lists h w c j x s = absurd (true≢false (ap is_none s))
mem_at (m ∷ ms) (y ∷ xs) [] h w c j x s = absurd h
mem_at (m ∷ ms) (y ∷ xs) (l ∷ ls) h w c zero x s =
    let same : y ≡ x = same_Some y x s in
    let wide : m.width ≡ x.0.width =
    same_Some m.width y.0.width (ap (λ zs. slice_get zs 0) w) ∙ ap (λ (z : Stored × ℕ). z.0.width) same in
    let many : m.words ≡ x.0.words =
    same_Some m.words y.0.words (ap (λ zs. slice_get zs 0) c) ∙ ap (λ (z : Stored × ℕ). z.0.words) same in
    (h.0.each ∙ many, λ q. subst (λ n. word_at l q < 2 ^ n) wide (h.0.below q))
mem_at (m ∷ ms) (y ∷ xs) (l ∷ ls) h w c (suc j) x s =
    mem_at ms xs ls h.1 (ap behind w) (ap behind c) j x s

lists_same : (f : ℕ → List ℕ) (xs : List (Stored × ℕ)) (lists : List (List ℕ)) → length lists ≡ length xs
    → ((j : ℕ) (x : Stored × ℕ) → slice_get xs j ≡ Some x → f x.1 ≡ words_at lists j)
    → map f (map (λ x. x.1) xs) ≡ lists
lists_same f [] [] e h = refl
lists_same f [] (y ∷ ys) e h = absurd (omega (arith, e))
lists_same f (x ∷ xs) [] e h = absurd (omega (arith, e))
lists_same f (x ∷ xs) (y ∷ ys) e h =
    (λ i. h zero x refl i ∷ lists_same f xs ys (omega (arith, e)) (λ j z t. h (suc j) z t) i)

mems_many : (ms : List Mem) (lists : List (List ℕ)) → AreMemsOf ms lists → length lists ≡ length ms
mems_many [] [] h = refl
mems_many [] (l ∷ ls) h = absurd h
mems_many (m ∷ ms) [] h = absurd h
mems_many (m ∷ ms) (l ∷ ls) h = ap suc (mems_many ms ls h.1)

module _ (ds : List Decl) (ps : List Part) (keep : Keeping) (nodes : List ℕ) (net : Netlist) (names : Names) (g : Given)
    (v : Values) (shaped : All IsShaped ds) (different : AreDifferent ds) (kept : All IsKept ds)
    (keeps : AreKeeps ps keep ds 0) (list : names.list ≡ all_entries ps ds nodes 0 0)
    (has : HasSources ps keep ds net names) (is : IsGiven net g)
    (stands : (c : ℕ) (n : List ℕ) → slice_get (all_cells ds) c ≡ Some n
    → v n ≡ slice_index (all_numbers ps keep g ds 0 0 0 0) c) where
  at : AllAt ps nodes names.list ds 0 0 0
  at = placed ds ps keep nodes net names shaped different kept keeps list has

  have : AllHave ps keep g v ds 0 0 0 0
  have = all_have ps keep g v ds 0 0 0 0 stands

  memory : Each (λ d. IsMemory d.words d) ds
  memory = memories ds ps keep nodes net names shaped different kept keeps list has

  wide : Each (λ d. 1 ≤ d.width) ds
  wide = seconds ds (own ds ps keep nodes net names shaped different kept keeps list has)
    where
      seconds : (es : List Decl) → Each (λ d. (declared_as ds d.name ≡ Some d) × (1 ≤ d.width)) es
          → Each (λ d. 1 ≤ d.width) es
      seconds [] h = tt
      seconds (d ∷ es) h = (h.0.1, seconds es h.1)

  regs_fit : AllFrom (IsFit ds ps keep nodes names.list g v) (all_registers ps keep ds 0 0) 0
  regs_fit =
      widths_fit (λ (x : Kept × ℕ). x.0.width) (all_registers ps keep ds 0 0) (map (λ r. r.width) net.regs)
      g.state.regs has.reg_widths is.state.regs.below

  input_widths : (xs : List (Input × ℕ))
      → map (λ i. i.width) (map (λ x. x.0) xs) ≡ map (λ (x : Input × ℕ). x.0.width) xs
  input_widths [] = refl
  input_widths (x ∷ xs) = ap (λ ws. x.0.width ∷ ws) (input_widths xs)

  inputs_fit : AllFrom (IsWithin ds ps keep nodes names.list g v) (all_inputs ps ds 0) 0
  inputs_fit =
      widths_fit (λ (x : Input × ℕ). x.0.width) (all_inputs ps ds 0) (map (λ i. i.width) net.inputs) g.inputs
      (ap (λ is. map (λ (i : Input). i.width) is) has.inputs ∙ input_widths (all_inputs ps ds 0)) is.inputs.below

  mem_fit : (j : ℕ) (x : Stored × ℕ) → slice_get (all_memories ps keep ds 0 0) j ≡ Some x
      → (length (words_of g (0 + j)) ≡ x.0.words) × ((q : ℕ) → word_at (words_of g (0 + j)) q < 2 ^ x.0.width)
  mem_fit j x s =
      let same : 0 + j ≡ j = omega arith in
      subst (λ k. (length (words_of g k) ≡ x.0.words) × ((q : ℕ) → word_at (words_of g k) q < 2 ^ x.0.width)) (sym same)
      (mem_at net.mems (all_memories ps keep ds 0 0) g.state.mems is.state.mems has.mem_widths has.mem_words j x s)

  ranged : Each (λ d. InRange v d d.class) ds
  ranged =
      all_ranged ds ps keep nodes names.list g v ds wide memory 0 0 0 0 0 0 at have keeps inputs_fit regs_fit
      (λ j x s. (mem_fit j x s).1)

  inputs_same : inputs_of names v ≡ g.inputs
  inputs_same =
      let many : length g.inputs ≡ length (all_inputs ps ds 0) =
      is.inputs.each ∙ length-map net.inputs (λ (i : Input). i.width) ∙ ap length has.inputs
      ∙ length-map (all_inputs ps ds 0) (λ (x : Input × ℕ). x.0) in
      ap (map (spot_number names v)) has.input_spots
      ∙ mapped (spot_number names v) input_spot (all_inputs ps ds 0) g.inputs many (λ j x s.
      let same : 0 + j ≡ j = omega arith in
      all_gathered ds ps keep nodes names.list g v ds memory 0 0 0 0 0 0 at have inputs_fit j x s
      ∙ ap (slice_index g.inputs) same)

  regs_same : map (spot_number names v) names.regs ≡ g.state.regs
  regs_same =
      let many : length g.state.regs ≡ length (all_registers ps keep ds 0 0) =
      is.state.regs.each ∙ ap length has.reg_widths
      ∙ length-map (all_registers ps keep ds 0 0) (λ (x : Kept × ℕ). x.0.width) in
      ap (map (spot_number names v)) has.reg_spots
      ∙ mapped (spot_number names v) register_spot (all_registers ps keep ds 0 0) g.state.regs many (λ j x s.
      let same : 0 + j ≡ j = omega arith in
      all_back ds ps keep nodes names.list g v ds wide 0 0 0 0 0 0 at have keeps regs_fit j x s
      ∙ ap (slice_index g.state.regs) same)

  mems_same : map (λ m. map v (cells_named (slice_get names.list m))) names.mems ≡ g.state.mems
  mems_same =
      let many : length g.state.mems ≡ length (all_memories ps keep ds 0 0) =
      mems_many net.mems g.state.mems is.state.mems
      ∙ sym (length-map net.mems (λ (m : Mem). m.width)) ∙ ap length has.mem_widths
      ∙ length-map (all_memories ps keep ds 0 0) (λ (x : Stored × ℕ). x.0.width) in
      ap (map (λ m. map v (cells_named (slice_get names.list m)))) has.mem_names
      ∙ lists_same (λ m. map v (cells_named (slice_get names.list m))) (all_memories ps keep ds 0 0) g.state.mems many
      (λ j x s.
      let same : 0 + j ≡ j = omega arith in
      all_these ds ps keep nodes names.list g v ds memory 0 0 0 0 0 0 at have (λ j x s. (mem_fit j x s).0) j x s
      ∙ ap (words_of g) same)

  begins : BeginsCycle ds names g v
  begins = record {
    ranged = ranged;
    same = λ i. record {
      inputs = inputs_same i;
      state = record { regs = regs_same i; mems = mems_same i };
    };
  }

pub begin_cycles : NumbersBeginCycles
begin_cycles ds ps keep nodes net names g v shaped different kept keeps list has is stands =
    begins ds ps keep nodes net names g v shaped different kept keeps list has is stands
