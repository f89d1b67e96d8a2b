-- A map that has the numbers of a cycle's beginning: each number has its width, and each source's comes back.
use Rattle.std.specs.Prelude.{◌≡◌, refl, ℕ, ◌+◌, ◌<◌, ◌≤◌, ◌^◌, List, [], ◌∷◌, length, map, Bool, true, false}
use Rattle.std.specs.Prelude.{Some, is_none, if◌then◌else◌, slice_get, slice_index}
use Rattle.std.proofs.Common.{ap, sym, ◌∙◌, arith, subst, true≢false}
use Rattle.vl_size.specs.declared.decl.Class.{Class}
use Rattle.vl_size.specs.declared.decl.Class.TheVariants as class
use Rattle.vl_size.specs.declared.decl.Decl.{Decl}
use Rattle.vl_size.specs.Size.{Values}
use Rattle.vl_mean.specs.Cells.{cells}
use Rattle.vl_mean.specs.Parts.{Part}
use Rattle.vl_mean.specs.Runs.{Each}
use Rattle.vl_mean.specs.Scopes.{is_clock_class}
use Rattle.vl_lower_spec.specs.Maps.{gathered, text_of}
use Rattle.wn_net.specs.declared.names.NetName.{NetName}
use Rattle.wn_net.specs.Value.{Given, word_at, words_of}
use Rattle.vl_lower_spec.specs.Sources.{kind_of}
use Rattle.vl_lower_cell_laws.specs.Keeps.{IsKeepOf, Kept}
use Rattle.vl_lower_cell_laws.specs.Entries.{is_memory}
use Rattle.vl_lower_cell_laws.specs.Listing.{AreKeeps, Keeping, all_registers, cell_registers, entry_count}
use Rattle.vl_lower_cell_laws.specs.Listing.{inputs_named}
use Rattle.vl_lower_cell_laws.specs.Listing.{memory_count, registers_in}
use Rattle.vl_lower_cell_laws.specs.Numbers.{memory_numbers, name_numbers, word_numbers}
use Rattle.vl_lower_cell_laws.proofs.Along.{AllFrom, from_back, from_both, from_front, registers_many}
use Rattle.vl_lower_cell_laws.proofs.Places.{AllAt, HeadAt, text_there}
use Rattle.vl_lower_cell_laws.proofs.SourcesCounted.{AllHave, NameHas, memory_index}
use Rattle.vl_lower_cell_laws.proofs.Back.{words_back, words_small}

module _ (ds : List Decl) (ps : List Part) (keep : Keeping) (nodes : List ℕ) (list : List NetName) (g : Given)
    (v : Values) where
  -- registers have numbers of their widths, and the map has these numbers
  abbrev pub IsFit : Kept × ℕ → ℕ → Type 0
  IsFit x r = slice_index g.state.regs r < 2 ^ x.0.width

  abbrev pub IsBack : Kept × ℕ → ℕ → Type 0
  IsBack x r = gathered (v (text_of (slice_get list x.1))) x.0.bits ≡ slice_index g.state.regs r

  -- ---- variables

  cell_numbers : (d : Decl) → d.class ≡ class.Variable → is_memory ps d ≡ false → (first i r m : ℕ)
      → NameHas ps keep g v d first i r m → (j : ℕ) (n : List ℕ) → slice_get (cells d) j ≡ Some n
      → v n ≡ slice_index (word_numbers keep d.width g.state.regs first r (cells d)) j
  cell_numbers d is flat first i r m h j n e =
      h j n e ∙ ap (λ c. slice_index (name_numbers ps keep g d c first i r m) j) is
      ∙ ap (λ (b : Bool). slice_index (if b then memory_numbers (words_of g m) 0 (cells d)
      else word_numbers keep d.width g.state.regs first r (cells d)) j) flat

  pub memory_has : (d : Decl) → d.class ≡ class.Variable → is_memory ps d ≡ true → (first i r m : ℕ)
      → NameHas ps keep g v d first i r m → (j : ℕ) (n : List ℕ) → slice_get (cells d) j ≡ Some n
      → v n ≡ word_at (words_of g m) j
  memory_has d is memory first i r m h j n e =
      let same : 0 + j ≡ j = omega arith in
      h j n e ∙ ap (λ c. slice_index (name_numbers ps keep g d c first i r m) j) is
      ∙ ap (λ (b : Bool). slice_index (if b then memory_numbers (words_of g m) 0 (cells d)
      else word_numbers keep d.width g.state.regs first r (cells d)) j) memory
      ∙ memory_index (words_of g m) 0 (cells d) j n e ∙ ap (slice_index (words_of g m)) same

  -- a variable's registers come back, and its cells have their width
  module _ (d : Decl) (is : d.class ≡ class.Variable) (some : 1 ≤ d.width) (first at i r m k : ℕ)
      (head : HeadAt ps nodes list d first at k) (has : NameHas ps keep g v d first i r m)
      (keeps : (j : ℕ) (n : List ℕ) → slice_get (cells d) j ≡ Some n → IsKeepOf ps d.width n (keep (first + j)))
    where
      pub name_back : AllFrom IsFit (if is_memory ps d then [] else cell_registers keep d.width first at (cells d)) r
          → AllFrom IsBack (if is_memory ps d then [] else cell_registers keep d.width first at (cells d)) r
      name_back fit = by (is_memory ps d) refl fit
        where
          by : (b : Bool) → is_memory ps d ≡ b
              → AllFrom IsFit (if b then [] else cell_registers keep d.width first at (cells d)) r
              → AllFrom IsBack (if b then [] else cell_registers keep d.width first at (cells d)) r
          by true e f = λ j x s. absurd (true≢false (ap is_none s))
          by false e f =
              words_back ps keep g.state.regs d.width some list v first at r (cells d) f keeps
              (text_there ps nodes list d first at k head (ap is_clock_class is) e)
              (cell_numbers d is e first i r m has)

      pub name_small : is_memory ps d ≡ false
          → AllFrom IsFit (if is_memory ps d then [] else cell_registers keep d.width first at (cells d)) r
          → (j : ℕ) (n : List ℕ) → slice_get (cells d) j ≡ Some n → v n < 2 ^ d.width
      name_small e fit j n s =
          subst (λ x. x < 2 ^ d.width) (sym (cell_numbers d is e first i r m has j n s))
          (words_small ps keep g.state.regs d.width some first at r (cells d)
          (subst (λ (b : Bool).
          AllFrom IsFit (if b then [] else cell_registers keep d.width first at (cells d)) r) e fit) keeps j n s)

  class_back : (d : Decl) (c : Class) → d.class ≡ c → 1 ≤ d.width → (first at i r m k : ℕ)
      → HeadAt ps nodes list d first at k → NameHas ps keep g v d first i r m
      → (d.class ≡ class.Variable → (j : ℕ) (n : List ℕ) → slice_get (cells d) j ≡ Some n
      → IsKeepOf ps d.width n (keep (first + j)))
      → AllFrom IsFit (registers_in ps keep d c first at) r → AllFrom IsBack (registers_in ps keep d c first at) r
  class_back d class.Variable is some first at i r m k head has keeps fit =
      name_back d is some first at i r m k head has (keeps is) fit
  class_back d class.Clock is some first at i r m k head has keeps fit = λ j x e. absurd (true≢false (ap is_none e))
  class_back d class.Reset is some first at i r m k head has keeps fit = λ j x e. absurd (true≢false (ap is_none e))
  class_back d class.Input is some first at i r m k head has keeps fit = λ j x e. absurd (true≢false (ap is_none e))
  class_back d class.Net is some first at i r m k head has keeps fit = λ j x e. absurd (true≢false (ap is_none e))
  class_back d class.EachCycle is some first at i r m k head has keeps fit = λ j x e. absurd (true≢false (ap is_none e))
  class_back d class.Once is some first at i r m k head has keeps fit = λ j x e. absurd (true≢false (ap is_none e))

  -- all registers come back
  pub all_back : (es : List Decl) → Each (λ d. 1 ≤ d.width) es → (first at i r m k : ℕ)
      → AllAt ps nodes list es first at k → AllHave ps keep g v es first i r m → AreKeeps ps keep es first
      → AllFrom IsFit (all_registers ps keep es first at) r → AllFrom IsBack (all_registers ps keep es first at) r
  all_back [] wide first at i r m k h has keeps fit = λ j x e. absurd (true≢false (ap is_none e))
  all_back (d ∷ es) wide first at i r m k h has keeps fit =
      let own : List (Kept × ℕ) = registers_in ps keep d d.class first at in
      let rest : List (Kept × ℕ) = all_registers ps keep es (first + length (cells d)) (at + entry_count ps d) in
      let many : r + length own ≡ r + length (registers_in ps keep d d.class first 0) =
      ap (λ n. r + n) (registers_many ps keep d d.class first at 0) in
      from_both IsBack own rest r
      (class_back d d.class refl wide.0 first at i r m k h.0 has.0 keeps.0 (from_front IsFit own rest r fit))
      (subst (AllFrom IsBack rest) (sym many)
      (all_back es wide.1 (first + length (cells d)) (at + entry_count ps d)
      (i + length (inputs_named (kind_of d.class) d 0)) (r + length (registers_in ps keep d d.class first 0))
      (m + memory_count ps d) (k + memory_count ps d) h.1 has.1 keeps.1
      (subst (AllFrom IsFit rest) many (from_back IsFit own rest r fit))))
