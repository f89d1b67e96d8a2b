-- The numbers of inputs come back out of the names that are chosen.
use Rattle.std.specs.Prelude.{◌≡◌, refl, ℕ, zero, suc, ◌+◌, ◌<◌, ◌^◌, List, [], ◌∷◌, length}
use Rattle.std.specs.Prelude.{Option, Some, None, is_none, slice_get, slice_index}
use Rattle.std.proofs.Common.{ap, sym, ◌∙◌, arith, subst, true≢false}
use Rattle.std.proofs.lemmas.Option.{same_Some}
use Rattle.vl_size.specs.declared.decl.Class.{Class}
use Rattle.vl_size.specs.declared.decl.Class.TheVariants as class
use Rattle.vl_size.specs.declared.decl.Decl.{Decl}
use Rattle.vl_size.specs.Size.{Values}
use Rattle.vl_mean.specs.Cells.{cells, cells_of}
use Rattle.vl_mean.specs.FlatLaw.{IsMemory}
use Rattle.vl_mean.specs.Parts.{Part}
use Rattle.vl_mean.specs.Runs.{Each}
use Rattle.vl_lower_spec.specs.Maps.{gathered, text_of}
use Rattle.wn_net.specs.declared.names.NetName.{NetName}
use Rattle.wn_net.specs.declared.parts.Input.{Input}
use Rattle.wn_net.specs.declared.parts.InputKind.{InputKind}
use Rattle.wn_net.specs.Value.{Given}
use Rattle.vl_lower_spec.specs.Sources.{below, kind_of}
use Rattle.vl_lower_spec.proofs.Bits.{gathered_whole}
use Rattle.vl_lower_spec.proofs.Pairs.{index_map}
use Rattle.vl_lower_cell_laws.specs.Listing.{Keeping, all_inputs, entry_count, inputs_named, memory_count, registers_in}
use Rattle.vl_lower_cell_laws.specs.Numbers.{name_numbers}
use Rattle.vl_lower_cell_laws.proofs.Along.{AllFrom, from_back, from_both, from_front, inputs_many}
use Rattle.vl_lower_cell_laws.proofs.Places.{AllAt, HeadAt}
use Rattle.vl_lower_cell_laws.proofs.Asked.{own_text, vector_of}
use Rattle.vl_lower_cell_laws.proofs.SourcesCounted.{AllHave, NameHas}

module _ (ds : List Decl) (ps : List Part) (keep : Keeping) (nodes : List ℕ) (list : List NetName) (g : Given)
    (v : Values) where
  abbrev pub IsWithin : Input × ℕ → ℕ → Type 0
  IsWithin x i = slice_index g.inputs i < 2 ^ x.0.width

  abbrev pub IsGathered : Input × ℕ → ℕ → Type 0
  IsGathered x i = gathered (v (text_of (slice_get list x.1))) (below x.0.width) ≡ slice_index g.inputs i

  -- each cell of a chosen name has the input's number
  pub chosen_number : (d : Decl) (c : Class) (k : InputKind) → kind_of c ≡ Some k → (first i r m j : ℕ) (n : List ℕ)
      → slice_get (cells d) j ≡ Some n
      → slice_index (name_numbers ps keep g d c first i r m) j ≡ slice_index g.inputs i
  chosen_number d class.Clock k e first i r m j n s = absurd (true≢false (ap is_none e))
  chosen_number d class.Net k e first i r m j n s = absurd (true≢false (ap is_none e))
  chosen_number d class.Variable k e first i r m j n s = absurd (true≢false (ap is_none e))
  chosen_number d class.Input k e first i r m j n s = index_map (λ n. slice_index g.inputs i) (cells d) j n s
  chosen_number d class.Reset k e first i r m j n s = index_map (λ n. slice_index g.inputs i) (cells d) j n s
  chosen_number d class.EachCycle k e first i r m j n s = index_map (λ n. slice_index g.inputs i) (cells d) j n s
  chosen_number d class.Once k e first i r m j n s = index_map (λ n. slice_index g.inputs i) (cells d) j n s

  name_gathered : (d : Decl) → IsMemory d.words d → (first at i r m k : ℕ) → HeadAt ps nodes list d first at k
      → NameHas ps keep g v d first i r m → (o : Option InputKind) → kind_of d.class ≡ o
      → AllFrom IsWithin (inputs_named o d at) i → AllFrom IsGathered (inputs_named o d at) i
  name_gathered d memory first at i r m k head has None e fit = λ j x s. absurd (true≢false (ap is_none s))
  name_gathered d memory first at i r m k head has (Some y) e fit =
      λ j x s. only j x s
    where
      vector : d.words ≡ None
      vector = vector_of d y e memory

      is : v d.name ≡ slice_index g.inputs i
      is =
          let there : slice_get (cells d) 0 ≡ Some d.name = ap (λ w. slice_get (cells_of d.name w) 0) vector in
          has 0 d.name there ∙ chosen_number d d.class y e first i r m 0 d.name there

      only : (j : ℕ) (x : Input × ℕ) → slice_get ((record { width = d.width; kind = y }, at) ∷ []) j ≡ Some x
          → IsGathered x (i + j)
      only zero x s =
          let here : i + 0 ≡ i = omega arith in
          let small : slice_index g.inputs i < 2 ^ d.width =
          subst (λ n. slice_index g.inputs n < 2 ^ d.width) here
          (fit 0 (record { width = d.width; kind = y }, at) refl) in
          let own : IsGathered (record { width = d.width; kind = y }, at) (i + 0) =
          ap (λ t. gathered (v t) (below d.width)) (own_text ds ps nodes list d y e vector first at k head)
          ∙ ap (λ n. gathered n (below d.width)) is ∙ gathered_whole (slice_index g.inputs i) d.width small
          ∙ ap (slice_index g.inputs) (sym here) in
          subst (λ z. IsGathered z (i + 0)) (same_Some (record { width = d.width; kind = y }, at) x s) own
      only (suc j) x s = absurd (true≢false (ap is_none s))

  pub all_gathered : (es : List Decl) → Each (λ d. IsMemory d.words d) es → (first at i r m k : ℕ)
      → AllAt ps nodes list es first at k → AllHave ps keep g v es first i r m
      → AllFrom IsWithin (all_inputs ps es at) i → AllFrom IsGathered (all_inputs ps es at) i
  all_gathered [] memory first at i r m k h has fit = λ j x s. absurd (true≢false (ap is_none s))
  all_gathered (d ∷ es) memory first at i r m k h has fit =
      let own : List (Input × ℕ) = inputs_named (kind_of d.class) d at in
      let rest : List (Input × ℕ) = all_inputs ps es (at + entry_count ps d) in
      let many : i + length own ≡ i + length (inputs_named (kind_of d.class) d 0) =
      ap (λ n. i + n) (inputs_many (kind_of d.class) d at 0) in
      from_both IsGathered own rest i
      (name_gathered d memory.0 first at i r m k h.0 has.0 (kind_of d.class) refl
      (from_front IsWithin own rest i fit))
      (subst (AllFrom IsGathered rest) (sym many)
      (all_gathered es memory.1 (first + length (cells d)) (at + entry_count ps d)
      (i + length (inputs_named (kind_of d.class) d 0)) (r + length (registers_in ps keep d d.class first 0))
      (m + memory_count ps d) (k + memory_count ps d) h.1 has.1
      (subst (AllFrom IsWithin rest) many (from_back IsWithin own rest i fit))))
