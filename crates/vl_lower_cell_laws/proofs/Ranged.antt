-- The numbers of a cycle's beginning have the widths of the names.
use Rattle.std.specs.Prelude.{◌≡◌, refl, ℕ, ◌+◌, ◌<◌, ◌≤◌, ◌^◌, List, [], ◌∷◌, length, Bool, true, false}
use Rattle.std.specs.Prelude.{Some, if◌then◌else◌, slice_get, slice_index}
use Rattle.std.proofs.Common.{ap, sym, ◌∙◌, arith, subst}
use Rattle.std.proofs.lemmas.Nat.{pow_pos}
use Rattle.vl_size.specs.declared.decl.Class.{Class}
use Rattle.vl_size.specs.declared.decl.Class.TheVariants as class
use Rattle.vl_size.specs.declared.decl.Decl.{Decl}
use Rattle.vl_size.specs.Size.{Values}
use Rattle.vl_mean.specs.Cells.{cells}
use Rattle.vl_mean.specs.FlatLaw.{IsMemory}
use Rattle.vl_mean.specs.Parts.{Part}
use Rattle.vl_mean.specs.Runs.{Each, InRange}
use Rattle.vl_flow_spec.proofs.Elements.{each_of_places}
use Rattle.wn_net.specs.declared.names.NetName.{NetName}
use Rattle.wn_net.specs.declared.parts.Input.{Input}
use Rattle.wn_net.specs.declared.parts.InputKind.{InputKind}
use Rattle.wn_net.specs.declared.parts.InputKind.TheVariants as kind
use Rattle.wn_net.specs.Value.{Given, word_at, words_of}
use Rattle.vl_lower_spec.specs.Sources.{kind_of}
use Rattle.vl_lower_spec.proofs.Pairs.{index_map}
use Rattle.vl_lower_cell_laws.specs.Keeps.{IsKeepOf, Kept}
use Rattle.vl_lower_cell_laws.specs.Entries.{is_memory}
use Rattle.vl_lower_cell_laws.specs.Listing.{AreKeeps, Keeping, Stored, all_inputs, all_memories, all_registers}
use Rattle.vl_lower_cell_laws.specs.Listing.{entry_count, inputs_named, memories_in, memory_count, registers_in, stored}
use Rattle.vl_lower_cell_laws.specs.Numbers.{name_numbers}
use Rattle.vl_lower_cell_laws.proofs.Along.{AllFrom, from_back, from_front, inputs_many, registers_many}
use Rattle.vl_lower_cell_laws.proofs.Places.{AllAt, HeadAt}
use Rattle.vl_lower_cell_laws.proofs.SourcesCounted.{AllHave, NameHas}
use Rattle.vl_lower_cell_laws.proofs.Beginning.{IsFit, memory_has, name_small}
use Rattle.vl_lower_cell_laws.proofs.Chosen.{IsWithin, chosen_number}
use Rattle.vl_lower_cell_laws.proofs.Words.{counted}

module _ (ds : List Decl) (ps : List Part) (keep : Keeping) (nodes : List ℕ) (list : List NetName) (g : Given)
    (v : Values) where
  abbrev pub IsNarrow : Stored × ℕ → ℕ → Type 0
  IsNarrow x m = (q : ℕ) → word_at (words_of g m) q < 2 ^ x.0.width

  abbrev Fit : Kept × ℕ → ℕ → Type 0
  Fit = IsFit ds ps keep nodes list g v

  abbrev Within : Input × ℕ → ℕ → Type 0
  Within = IsWithin ds ps keep nodes list g v

  chosen_small : (d : Decl) (c : Class) → d.class ≡ c → (y : InputKind) → kind_of c ≡ Some y → (first at i r m : ℕ)
      → NameHas ps keep g v d first i r m → AllFrom Within (inputs_named (kind_of c) d at) i
      → Each (λ n. v n < 2 ^ d.width) (cells d)
  chosen_small d c is y e first at i r m has fit =
      each_of_places (λ n. v n < 2 ^ d.width) (cells d) (λ j n s.
      let here : i + 0 ≡ i = omega arith in
      let there : slice_get (inputs_named (kind_of c) d at) 0 ≡ Some (record { width = d.width; kind = y }, at) =
      ap (λ o. slice_get (inputs_named o d at) 0) e in
      let small : slice_index g.inputs (i + 0) < 2 ^ d.width =
      fit 0 (record { width = d.width; kind = y }, at) there in
      let same : v n ≡ slice_index g.inputs (i + 0) =
      has j n s ∙ ap (λ c. slice_index (name_numbers ps keep g d c first i r m) j) is
      ∙ chosen_number ds ps keep nodes list g v d c y e first i r m j n s ∙ ap (slice_index g.inputs) (sym here) in
      subst (λ x. x < 2 ^ d.width) (sym same) small)

  class_ranged : (d : Decl) (c : Class) → d.class ≡ c → 1 ≤ d.width → (first at i r m k : ℕ)
      → HeadAt ps nodes list d first at k → NameHas ps keep g v d first i r m
      → (d.class ≡ class.Variable → (j : ℕ) (n : List ℕ) → slice_get (cells d) j ≡ Some n
      → IsKeepOf ps d.width n (keep (first + j)))
      → AllFrom Within (inputs_named (kind_of c) d at) i → AllFrom Fit (registers_in ps keep d c first at) r
      → AllFrom IsNarrow (memories_in ps keep d c first at) m → InRange v d c
  class_ranged d class.Clock is some first at i r m k head has keeps fit regs mems = tt
  class_ranged d class.Input is some first at i r m k head has keeps fit regs mems =
      chosen_small d class.Input is kind.EachCycle refl first at i r m has fit
  class_ranged d class.EachCycle is some first at i r m k head has keeps fit regs mems =
      chosen_small d class.EachCycle is kind.EachCycle refl first at i r m has fit
  class_ranged d class.Reset is some first at i r m k head has keeps fit regs mems =
      chosen_small d class.Reset is kind.Reset refl first at i r m has fit
  class_ranged d class.Once is some first at i r m k head has keeps fit regs mems =
      chosen_small d class.Once is kind.Once refl first at i r m has fit
  class_ranged d class.Net is some first at i r m k head has keeps fit regs mems =
      each_of_places (λ n. v n < 2 ^ d.width) (cells d) (λ j n s.
      let same : v n ≡ 0 =
      has j n s ∙ ap (λ c. slice_index (name_numbers ps keep g d c first i r m) j) is
      ∙ index_map (λ n. 0) (cells d) j n s in
      subst (λ x. x < 2 ^ d.width) (sym same) (pow_pos d.width))
  class_ranged d class.Variable is some first at i r m k head has keeps fit regs mems =
      each_of_places (λ n. v n < 2 ^ d.width) (cells d) (λ j n s. by (is_memory ps d) refl j n s mems)
    where
      by : (b : Bool) → is_memory ps d ≡ b → (j : ℕ) (n : List ℕ) → slice_get (cells d) j ≡ Some n
          → AllFrom IsNarrow (if b then (stored keep d first, at) ∷ [] else []) m → v n < 2 ^ d.width
      by true e j n s f =
          let here : m + 0 ≡ m = omega arith in
          let small : word_at (words_of g (m + 0)) j < 2 ^ d.width = f 0 (stored keep d first, at) refl j in
          let same : v n ≡ word_at (words_of g (m + 0)) j =
          memory_has ds ps keep nodes list g v d is e first i r m has j n s
          ∙ ap (λ q. word_at (words_of g q) j) (sym here) in
          subst (λ x. x < 2 ^ d.width) (sym same) small
      by false e j n s f =
          name_small ds ps keep nodes list g v d is some first at i r m k head has (keeps is) e regs j n s

  pub all_ranged : (es : List Decl) → Each (λ d. 1 ≤ d.width) es → Each (λ d. IsMemory d.words d) es
      → (first at i r m k : ℕ) → AllAt ps nodes list es first at k → AllHave ps keep g v es first i r m
      → AreKeeps ps keep es first → AllFrom Within (all_inputs ps es at) i
      → AllFrom Fit (all_registers ps keep es first at) r → AllFrom IsNarrow (all_memories ps keep es first at) m
      → Each (λ d. InRange v d d.class) es
  all_ranged [] wide memory first at i r m k h has keeps fit regs mems = tt
  all_ranged (d ∷ es) wide memory first at i r m k h has keeps fit regs mems =
      let rest_inputs : List (Input × ℕ) = all_inputs ps es (at + entry_count ps d) in
      let rest_regs : List (Kept × ℕ) =
      all_registers ps keep es (first + length (cells d)) (at + entry_count ps d) in
      let rest_mems : List (Stored × ℕ) =
      all_memories ps keep es (first + length (cells d)) (at + entry_count ps d) in
      let own_inputs : List (Input × ℕ) = inputs_named (kind_of d.class) d at in
      let own_regs : List (Kept × ℕ) = registers_in ps keep d d.class first at in
      let own_mems : List (Stored × ℕ) = memories_in ps keep d d.class first at in (
        class_ranged d d.class refl wide.0 first at i r m k h.0 has.0 keeps.0
            (from_front Within own_inputs rest_inputs i fit) (from_front Fit own_regs rest_regs r regs)
            (from_front IsNarrow own_mems rest_mems m mems),
        all_ranged es wide.1 memory.1 (first + length (cells d)) (at + entry_count ps d)
            (i + length (inputs_named (kind_of d.class) d 0)) (r + length (registers_in ps keep d d.class first 0))
            (m + memory_count ps d) (k + memory_count ps d) h.1 has.1 keeps.1
            (subst (AllFrom Within rest_inputs) (ap (λ n. i + n) (inputs_many (kind_of d.class) d at 0))
            (from_back Within own_inputs rest_inputs i fit))
            (subst (AllFrom Fit rest_regs) (ap (λ n. r + n) (registers_many ps keep d d.class first at 0))
            (from_back Fit own_regs rest_regs r regs))
            (subst (AllFrom IsNarrow rest_mems)
            (ap (λ n. m + n) (sym (counted ds ps keep nodes list g v d d.class refl memory.0 first at)))
            (from_back IsNarrow own_mems rest_mems m mems)),
      )
