-- The words of memories are those of a map.
use Rattle.std.specs.Prelude.{◌≡◌, refl, ℕ, zero, suc, ◌+◌, List, [], ◌∷◌, length, map, Bool, true, false}
use Rattle.std.specs.Prelude.{Option, Some, None, is_none, if◌then◌else◌, not, ◌&&◌, slice_get, slice_index, ℤ}
use Rattle.std.proofs.Common.{ap, sym, ◌∙◌, arith, subst, true≢false}
use Rattle.std.proofs.lemmas.Option.{same_Some}
use Rattle.vl_size.specs.declared.decl.Class.{Class}
use Rattle.vl_size.specs.declared.decl.Class.TheVariants as class
use Rattle.vl_size.specs.declared.decl.Decl.{Decl}
use Rattle.vl_size.specs.Size.{Values}
use Rattle.vl_mean.specs.Cells.{cells}
use Rattle.vl_mean.specs.FlatLaw.{IsMemory, is_variable}
use Rattle.vl_mean.specs.Parts.{Part}
use Rattle.vl_mean.specs.Runs.{Each}
use Rattle.vl_mean.specs.Scopes.{is_clock_class}
use Rattle.vl_lower_spec.specs.Maps.{cells_named, is_split}
use Rattle.wn_net.specs.declared.names.NetName.{NetName}
use Rattle.wn_net.specs.Value.{Given, words_of}
use Rattle.vl_lower_spec.specs.Sources.{kind_of}
use Rattle.vl_lower_cell_laws.specs.Entries.{is_memory, memories_of}
use Rattle.vl_lower_cell_laws.specs.Listing.{Keeping, Stored, all_memories, entry_count, inputs_named, memories_in}
use Rattle.vl_lower_cell_laws.specs.Listing.{memory_count}
use Rattle.vl_lower_cell_laws.specs.Listing.{registers_in, stored}
use Rattle.vl_lower_cell_laws.proofs.Along.{AllFrom, from_back, from_both, from_front}
use Rattle.vl_lower_cell_laws.proofs.Places.{AllAt, HeadAt, memory_there}
use Rattle.vl_lower_cell_laws.proofs.SourcesCounted.{AllHave, NameHas}
use Rattle.vl_lower_cell_laws.proofs.Beginning.{memory_has}

pub mapped : {A B : Type 0} (f : B → ℕ) (s : A → B) (xs : List A) (ys : List ℕ) → length ys ≡ length xs
    → ((j : ℕ) (x : A) → slice_get xs j ≡ Some x → f (s x) ≡ slice_index ys j) → map f (map s xs) ≡ ys
mapped f s [] [] e h = refl
mapped f s [] (y ∷ ys) e h = absurd (omega (arith, e))
mapped f s (x ∷ xs) [] e h = absurd (omega (arith, e))
mapped f s (x ∷ xs) (y ∷ ys) e h =
    (λ i. h zero x refl i ∷ mapped f s xs ys (omega (arith, e)) (λ j z t. h (suc j) z t) i)

pub valued : (v : Values) (ns : List (List ℕ)) (ys : List ℕ) → length ys ≡ length ns
    → ((j : ℕ) (n : List ℕ) → slice_get ns j ≡ Some n → v n ≡ slice_index ys j) → map v ns ≡ ys
valued v [] [] e h = refl
valued v [] (y ∷ ys) e h = absurd (omega (arith, e))
valued v (x ∷ xs) [] e h = absurd (omega (arith, e))
valued v (x ∷ xs) (y ∷ ys) e h =
    (λ i. h zero x refl i ∷ valued v xs ys (omega (arith, e)) (λ j z t. h (suc j) z t) i)

module _ (ds : List Decl) (ps : List Part) (keep : Keeping) (nodes : List ℕ) (list : List NetName) (g : Given)
    (v : Values) where
  abbrev pub HasMany : Stored × ℕ → ℕ → Type 0
  HasMany x m = length (words_of g m) ≡ x.0.words

  abbrev pub HasThese : Stored × ℕ → ℕ → Type 0
  HasThese x m = map v (cells_named (slice_get list x.1)) ≡ words_of g m

  no_memory : (d : Decl) → IsMemory d.words d → is_variable d ≡ false → is_memory ps d ≡ false
  no_memory d memory none = by d.words memory
    where
      by : (w : Option (ℤ × ℤ)) → IsMemory w d → (not (is_none w) && not (is_split ps d)) ≡ false
      by None h = refl
      by (Some b) h = absurd (true≢false (sym h.2 ∙ none))

  memories_none : (d : Decl) → is_memory ps d ≡ false → memories_of ps d ≡ 0
  memories_none d e = ap (λ (b : Bool). if b then 1 else 0) e

  -- as many memories are counted as there are
  pub counted : (d : Decl) (c : Class) → d.class ≡ c → IsMemory d.words d → (first at : ℕ)
      → (if is_clock_class c then 0 else memories_of ps d) ≡ length (memories_in ps keep d c first at)
  counted d class.Variable is memory first at = by (is_memory ps d)
    where
      by : (b : Bool)
          → (if b then 1 else 0) ≡ length {A = Stored × ℕ} (if b then (stored keep d first, at) ∷ [] else [])
      by true = refl
      by false = refl
  counted d class.Clock is memory first at = refl
  counted d class.Reset is memory first at =
      memories_none d (no_memory d memory (ap (λ c. is_variable (record d { class = c })) is))
  counted d class.Input is memory first at =
      memories_none d (no_memory d memory (ap (λ c. is_variable (record d { class = c })) is))
  counted d class.Net is memory first at =
      memories_none d (no_memory d memory (ap (λ c. is_variable (record d { class = c })) is))
  counted d class.EachCycle is memory first at =
      memories_none d (no_memory d memory (ap (λ c. is_variable (record d { class = c })) is))
  counted d class.Once is memory first at =
      memories_none d (no_memory d memory (ap (λ c. is_variable (record d { class = c })) is))

  class_these : (d : Decl) (c : Class) → d.class ≡ c → (first at i r m k : ℕ) → HeadAt ps nodes list d first at k
      → NameHas ps keep g v d first i r m → AllFrom HasMany (memories_in ps keep d c first at) m
      → AllFrom HasThese (memories_in ps keep d c first at) m
  class_these d class.Variable is first at i r m k head has many = by (is_memory ps d) refl many
    where
      by : (b : Bool) → is_memory ps d ≡ b
          → AllFrom HasMany (if b then (stored keep d first, at) ∷ [] else []) m
          → AllFrom HasThese (if b then (stored keep d first, at) ∷ [] else []) m
      by false e f = λ j x s. absurd (true≢false (ap is_none s))
      by true e f = λ j x s. only j x s
        where
          only : (j : ℕ) (x : Stored × ℕ) → slice_get ((stored keep d first, at) ∷ []) j ≡ Some x
              → HasThese x (m + j)
          only zero x s =
              let here : m + 0 ≡ m = omega arith in
              let size : length (words_of g m) ≡ length (cells d) =
              ap (λ n. length (words_of g n)) (sym here) ∙ f 0 (stored keep d first, at) refl in
              let own : HasThese (stored keep d first, at) (m + 0) =
              ap (map v) (memory_there ps nodes list d first at k head (ap is_clock_class is) e)
              ∙ valued v (cells d) (words_of g m) size
              (memory_has ds ps keep nodes list g v d is e first i r m has)
              ∙ ap (words_of g) (sym here) in
              subst (λ z. HasThese z (m + 0)) (same_Some (stored keep d first, at) x s) own
          only (suc j) x s = absurd (true≢false (ap is_none s))
  class_these d class.Clock is first at i r m k head has many = λ j x s. absurd (true≢false (ap is_none s))
  class_these d class.Reset is first at i r m k head has many = λ j x s. absurd (true≢false (ap is_none s))
  class_these d class.Input is first at i r m k head has many = λ j x s. absurd (true≢false (ap is_none s))
  class_these d class.Net is first at i r m k head has many = λ j x s. absurd (true≢false (ap is_none s))
  class_these d class.EachCycle is first at i r m k head has many = λ j x s. absurd (true≢false (ap is_none s))
  class_these d class.Once is first at i r m k head has many = λ j x s. absurd (true≢false (ap is_none s))

  pub all_these : (es : List Decl) → Each (λ d. IsMemory d.words d) es → (first at i r m k : ℕ)
      → AllAt ps nodes list es first at k → AllHave ps keep g v es first i r m
      → AllFrom HasMany (all_memories ps keep es first at) m → AllFrom HasThese (all_memories ps keep es first at) m
  all_these [] memory first at i r m k h has many = λ j x s. absurd (true≢false (ap is_none s))
  all_these (d ∷ es) memory first at i r m k h has many =
      let own : List (Stored × ℕ) = memories_in ps keep d d.class first at in
      let rest : List (Stored × ℕ) = all_memories ps keep es (first + length (cells d)) (at + entry_count ps d) in
      let size : m + length own ≡ m + memory_count ps d =
      ap (λ n. m + n) (sym (counted d d.class refl memory.0 first at)) in
      from_both HasThese own rest m
      (class_these d d.class refl first at i r m k h.0 has.0 (from_front HasMany own rest m many))
      (subst (AllFrom HasThese rest) (sym size)
      (all_these es memory.1 (first + length (cells d)) (at + entry_count ps d)
      (i + length (inputs_named (kind_of d.class) d 0)) (r + length (registers_in ps keep d d.class first 0))
      (m + memory_count ps d) (k + memory_count ps d) h.1 has.1
      (subst (AllFrom HasMany rest) size (from_back HasMany own rest m many))))
