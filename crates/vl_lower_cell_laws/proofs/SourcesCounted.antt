-- The numbers of each name's cells among those of all.
use Rattle.std.specs.Prelude.{◌≡◌, refl, ℕ, zero, suc, ◌+◌, ◌<◌, List, [], ◌∷◌, ◌++◌, length, map, Bool, true, false}
use Rattle.std.specs.Prelude.{Some, is_none, if◌then◌else◌, slice_get, slice_index}
use Rattle.std.proofs.Common.{ap, sym, ◌∙◌, arith, true≢false}
use Rattle.std.proofs.lemmas.List.{length-map}
use Rattle.vl_size.specs.declared.decl.Class.{Class}
use Rattle.vl_size.specs.declared.decl.Class.TheVariants as class
use Rattle.vl_size.specs.declared.decl.Decl.{Decl}
use Rattle.vl_size.specs.Size.{Values}
use Rattle.vl_mean.specs.Cells.{cells}
use Rattle.vl_mean.specs.Parts.{Part}
use Rattle.vl_flow_cells.specs.Numbered.{all_cells}
use Rattle.wn_net.specs.Value.{Given, words_of}
use Rattle.vl_lower_spec.specs.Sources.{kind_of}
use Rattle.vl_lower_cell_laws.specs.Entries.{is_memory}
use Rattle.vl_lower_cell_laws.specs.Listing.{Keeping, inputs_named, memory_count, registers_in}
use Rattle.vl_lower_cell_laws.specs.Numbers.{all_numbers, memory_numbers, name_numbers, word_numbers}
use Rattle.vl_lower_cell_laws.proofs.SourcesLists.{further, within}

pub below_length : {A : Type 0} (xs : List A) (j : ℕ) (x : A) → slice_get xs j ≡ Some x → j < length xs
below_length [] j x e = absurd (true≢false (ap is_none e))
below_length (y ∷ ys) zero x e = omega arith
below_length (y ∷ ys) (suc j) x e = omega (arith, below_length ys j x e)

pub index_within : (xs ys : List ℕ) (j : ℕ) → j < length xs → slice_index (xs ++ ys) j ≡ slice_index xs j
index_within [] ys j less = absurd (omega (arith, less))
index_within (x ∷ xs) ys zero less = refl
index_within (x ∷ xs) ys (suc j) less = index_within xs ys j (omega (arith, less))

pub index_further : (xs ys : List ℕ) (j : ℕ) → slice_index (xs ++ ys) (length xs + j) ≡ slice_index ys j
index_further [] ys j = let same : 0 + j ≡ j = omega arith in ap (slice_index ys) same
index_further (x ∷ xs) ys j =
    let same : suc (length xs) + j ≡ suc (length xs + j) = omega arith in
    ap (slice_index (x ∷ xs ++ ys)) same ∙ index_further xs ys j

memory_many : (words : List ℕ) (j : ℕ) (texts : List (List ℕ)) → length (memory_numbers words j texts) ≡ length texts
memory_many words j [] = refl
memory_many words j (t ∷ ts) = ap suc (memory_many words (j + 1) ts)

-- the word that a text of a memory has
pub memory_index : (words : List ℕ) (first : ℕ) (texts : List (List ℕ)) (j : ℕ) (n : List ℕ)
    → slice_get texts j ≡ Some n → slice_index (memory_numbers words first texts) j ≡ slice_index words (first + j)
memory_index words first [] j n e = absurd (true≢false (ap is_none e))
memory_index words first (t ∷ ts) zero n e =
    let same : first ≡ first + 0 = omega arith in ap (slice_index words) same
memory_index words first (t ∷ ts) (suc j) n e =
    let same : first + 1 + j ≡ first + suc j = omega arith in
    memory_index words (first + 1) ts j n e ∙ ap (slice_index words) same

module _ (ps : List Part) (keep : Keeping) (g : Given) (v : Values) where
  words_many : (w : ℕ) (numbers : List ℕ) (first r : ℕ) (texts : List (List ℕ))
      → length (word_numbers keep w numbers first r texts) ≡ length texts
  words_many w numbers first r [] = refl
  words_many w numbers first r (t ∷ ts) = ap suc (words_many w numbers (first + 1) _ ts)

  name_many : (d : Decl) (c : Class) (first i r m : ℕ)
      → length (name_numbers ps keep g d c first i r m) ≡ length (cells d)
  name_many d class.Clock first i r m = length-map (cells d) (λ n. 0)
  name_many d class.Net first i r m = length-map (cells d) (λ n. 0)
  name_many d class.Variable first i r m = by (is_memory ps d)
    where
      by : (b : Bool)
          → length (if b then memory_numbers (words_of g m) 0 (cells d)
          else word_numbers keep d.width g.state.regs first r (cells d)) ≡ length (cells d)
      by true = memory_many (words_of g m) 0 (cells d)
      by false = words_many d.width g.state.regs first r (cells d)
  name_many d class.Input first i r m = length-map (cells d) (λ n. slice_index g.inputs i)
  name_many d class.Reset first i r m = length-map (cells d) (λ n. slice_index g.inputs i)
  name_many d class.EachCycle first i r m = length-map (cells d) (λ n. slice_index g.inputs i)
  name_many d class.Once first i r m = length-map (cells d) (λ n. slice_index g.inputs i)

  -- the cells of a name have the numbers in the map
  abbrev pub NameHas : Decl → ℕ → ℕ → ℕ → ℕ → Type 0
  NameHas d first i r m =
      (j : ℕ) (n : List ℕ) → slice_get (cells d) j ≡ Some n
      → v n ≡ slice_index (name_numbers ps keep g d d.class first i r m) j

  abbrev pub AllHave : List Decl → ℕ → ℕ → ℕ → ℕ → Type 0
  AllHave [] first i r m = Unit {0}
  AllHave (d ∷ ds) first i r m =
      NameHas d first i r m
      × AllHave ds (first + length (cells d)) (i + length (inputs_named (kind_of d.class) d 0))
      (r + length (registers_in ps keep d d.class first 0)) (m + memory_count ps d)

  pub all_have : (ds : List Decl) (first i r m : ℕ)
      → ((c : ℕ) (n : List ℕ) → slice_get (all_cells ds) c ≡ Some n
      → v n ≡ slice_index (all_numbers ps keep g ds first i r m) c)
      → AllHave ds first i r m
  all_have [] first i r m h = tt
  all_have (d ∷ ds) first i r m h =
      let own : List ℕ = name_numbers ps keep g d d.class first i r m in
      let rest : List ℕ =
      all_numbers ps keep g ds (first + length (cells d)) (i + length (inputs_named (kind_of d.class) d 0))
      (r + length (registers_in ps keep d d.class first 0)) (m + memory_count ps d) in
      let many : length own ≡ length (cells d) = name_many d d.class first i r m in (
        λ j n e.
            let less : j < length own = omega (arith, many, below_length (cells d) j n e) in
            h j n (within (cells d) (all_cells ds) j n e) ∙ index_within own rest j less,
        all_have ds (first + length (cells d)) (i + length (inputs_named (kind_of d.class) d 0))
            (r + length (registers_in ps keep d d.class first 0)) (m + memory_count ps d) (λ c n e.
            let same : length (cells d) + c ≡ length own + c = ap (λ k. k + c) (sym many) in
            h (length (cells d) + c) n (further (cells d) (all_cells ds) c ∙ e)
            ∙ ap (slice_index (own ++ rest)) same ∙ index_further own rest c),
      )
