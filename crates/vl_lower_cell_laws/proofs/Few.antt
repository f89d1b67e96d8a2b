-- A cell comes to as many registers as it has bits at most, and a name to one input.
use Rattle.std.specs.Prelude.{◌≡◌, ℕ, zero, suc, ◌+◌, ◌*◌, ◌≤◌, List, [], ◌∷◌, ◌++◌, length, map, sum, All, Bool}
use Rattle.std.specs.Prelude.{true, false, Option, Some, None, if◌then◌else◌, int_le, ℤ}
use Rattle.std.proofs.Common.{ap, sym, ◌∙◌, arith, fold}
use Rattle.std.proofs.lemmas.List.{length-map}
use Rattle.std.proofs.lemmas.List.Elements.{All-head, All-tail}
use Rattle.vl_size.specs.declared.decl.Class.{Class}
use Rattle.vl_size.specs.declared.decl.Class.TheVariants as class
use Rattle.vl_size.specs.declared.decl.Decl.{Decl}
use Rattle.vl_size.specs.Table.{IsShaped, span}
use Rattle.vl_mean.specs.Cells.{cells, cells_of}
use Rattle.vl_mean.specs.FlatLaw.{all_names_count, name_count}
use Rattle.vl_mean.specs.Parts.{Part}
use Rattle.vl_flow_cells.proofs.Words.{words_length}
use Rattle.wn_net.specs.declared.parts.Input.{Input}
use Rattle.wn_net.specs.declared.parts.InputKind.{InputKind}
use Rattle.vl_lower_spec.specs.Sources.{kind_of}
use Rattle.vl_lower_cell_laws.specs.declared.keep.Keep.{Keep}
use Rattle.vl_lower_cell_laws.specs.Keeps.{Kept, has_bit, is_whole, kept_bit, kept_bits, registers_of, whole_kept}
use Rattle.vl_lower_cell_laws.specs.Entries.{is_memory}
use Rattle.vl_lower_cell_laws.specs.Listing.{Keeping, Stored, all_inputs, all_memories, all_registers}
use Rattle.vl_lower_cell_laws.specs.Listing.{cell_registers, entry_count, inputs_named, memories_in, named_registers}
use Rattle.vl_lower_cell_laws.specs.Listing.{registers_in, stored}
use Rattle.vl_lower_cell_laws.proofs.SourcesLists.{named_many}
use Rattle.vl_lower_cell_laws.specs.Few.{SourcesAreFew}

many_both : {A : Type 0} (xs ys : List A) → length (xs ++ ys) ≡ length xs + length ys
many_both [] ys = omega arith
many_both (x ∷ xs) ys = omega (arith, many_both xs ys)

-- ---- registers of a cell

bits_few : (keep : Keep) (w : ℕ) → length (kept_bits keep w) ≤ w
bits_few keep zero = omega arith
bits_few keep (suc w) = by (has_bit keep.driven w) (bits_few keep w)
  where
    by : (b : Bool) → length (kept_bits keep w) ≤ w
        → length {A = Kept} (if b then kept_bits keep w else kept_bit keep w ∷ kept_bits keep w) ≤ suc w
    by true h = omega (arith, h)
    by false h = omega (arith, h)

registers_few : (keep : Keep) (w : ℕ) → 1 ≤ w → length (registers_of keep w) ≤ w
registers_few keep w some = by (is_whole keep w)
  where
    by : (b : Bool) → length {A = Kept} (if b then whole_kept keep w ∷ [] else kept_bits keep w) ≤ w
    by true = omega (arith, some)
    by false = bits_few keep w

cells_few : (keep : Keeping) (w first at : ℕ) (texts : List (List ℕ)) → 1 ≤ w → w ≤ 128
    → length (cell_registers keep w first at texts) ≤ 128 * length texts
cells_few keep w first at [] some few = omega arith
cells_few keep w first at (t ∷ ts) some few =
    let own : List Kept = registers_of (keep first) w in
    omega (
      arith,
      many_both (named_registers at own) (cell_registers keep w (first + 1) (at + 1) ts),
      named_many at own,
      registers_few (keep first) w some,
      few,
      cells_few keep w (first + 1) (at + 1) ts some few,
    )

-- ---- words of memories

abbrev words : List (Stored × ℕ) → ℕ
words [] = 0
words (x ∷ xs) = x.0.words + words xs

words_both : (xs ys : List (Stored × ℕ)) → words (xs ++ ys) ≡ words xs + words ys
words_both [] ys = omega arith
words_both (x ∷ xs) ys = omega (arith, words_both xs ys)

module _ (ps : List Part) (keep : Keeping) where
  class_few : (d : Decl) (c : Class) (first at : ℕ) → IsShaped d
      → length (registers_in ps keep d c first at) + words (memories_in ps keep d c first at) ≤ 128 * length (cells d)
  class_few d class.Variable first at shape = by (is_memory ps d)
    where
      by : (b : Bool)
          → length {A = Kept × ℕ} (if b then [] else cell_registers keep d.width first at (cells d))
          + words (if b then (stored keep d first, at) ∷ [] else []) ≤ 128 * length (cells d)
      by true = omega arith
      by false = omega (arith, cells_few keep d.width first at (cells d) shape.some_bits shape.few_bits)
  class_few d class.Clock first at shape = omega arith
  class_few d class.Reset first at shape = omega arith
  class_few d class.Input first at shape = omega arith
  class_few d class.Net first at shape = omega arith
  class_few d class.EachCycle first at shape = omega arith
  class_few d class.Once first at shape = omega arith

  own_cells : (d : Decl) → length (cells d) ≤ name_count d.words
  own_cells d = by d.words
    where
      by : (w : Option (ℤ × ℤ)) → length (cells_of d.name w) ≤ name_count w
      by None = omega arith
      by (Some b) =
          let many = words_length d.name (span b.0 b.1) (int_le b.0 b.1) b.0 in omega (arith, many)

  state_few : (es : List Decl) → All IsShaped es → (first at : ℕ)
      → length (all_registers ps keep es first at) + words (all_memories ps keep es first at)
      ≤ 128 * all_names_count es
  state_few [] shaped first at = omega arith
  state_few (d ∷ es) shaped first at =
      let past : ℕ = first + length (cells d) in
      let next : ℕ = at + entry_count ps d in
      omega (
        arith,
        many_both (registers_in ps keep d d.class first at) (all_registers ps keep es past next),
        words_both (memories_in ps keep d d.class first at) (all_memories ps keep es past next),
        class_few d d.class first at (All-head IsShaped d es shaped),
        own_cells d,
        state_few es (All-tail IsShaped d es shaped) past next,
      )

  -- ---- inputs

  name_few : (d : Decl) (o : Option InputKind) (at : ℕ) → length (inputs_named o d at) ≤ 1
  name_few d None at = omega arith
  name_few d (Some k) at = omega arith

  some_names : (w : Option (ℤ × ℤ)) → 1 ≤ name_count w
  some_names None = omega arith
  some_names (Some b) = omega arith

  inputs_few : (es : List Decl) (at : ℕ) → length (all_inputs ps es at) ≤ all_names_count es
  inputs_few [] at = omega arith
  inputs_few (d ∷ es) at =
      omega (
        arith,
        many_both (inputs_named (kind_of d.class) d at) (all_inputs ps es (at + entry_count ps d)),
        name_few d (kind_of d.class) at,
        some_names d.words,
        inputs_few es (at + entry_count ps d),
      )

sum_from : (xs : List (Stored × ℕ)) (a : ℕ) → fold ◌+◌ a (map (λ x. x.0.words) xs) ≡ a + words xs
sum_from [] a = omega arith
sum_from (x ∷ xs) a = omega (arith, sum_from xs (a + x.0.words))

sum_words : (xs : List (Stored × ℕ)) → sum (map (λ x. x.0.words) xs) ≡ words xs
sum_words xs = omega (arith, sum_from xs 0)

pub are_few : SourcesAreFew
are_few ds ps keep net names shaped kept few has =
    let regs = all_registers ps keep ds 0 0 in
    let mems = all_memories ps keep ds 0 0 in
    let inputs = ap (λ (xs : List Input). length xs) has.inputs ∙ length-map (all_inputs ps ds 0) (λ x. x.0) in
    let many = sym (length-map net.regs (λ r. r.width)) ∙ ap (λ (ws : List ℕ). length ws) has.reg_widths
    ∙ length-map regs (λ x. x.0.width) in
    let all = ap sum has.mem_words ∙ sum_words mems in
    record {
      inputs = omega (arith, inputs, inputs_few ps keep ds 0, few);
      state = omega (arith, many, all, state_few ps keep ds shaped 0 0, few);
    }
